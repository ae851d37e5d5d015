-- The loops over the members of a group, turn by turn. Assumes nothing.
use Prim.Native.Nat.{ℕ, zero, suc, ◌+◌, ◌*◌, ◌-◌, ◌^◌, ◌<◌, ◌≤◌}
use mathlib.Core.Path.{◌≡◌, refl, sym, ap, ◌∙◌, subst}
use mathlib.Core.List.{List, [], ◌∷◌}
use mathlib.Core.Bool.{Bool, true, false, not, ◌&&◌, ◌||◌, true≢false}
use native.Mathlib.Numerals.{add-one}
use Rattle.std.specs.List.{list_any, range_with_len}
use native.Mathlib.Omega.{arith}
use native.Mathlib.Decide.{ℕ_discrete}
use lib.ListN.{length, get_or}
use borrow.Author.Tests.{le-leb, leb-true}
use Rattle.basics.specs.If.{keep_if}
use Rattle.basics.specs.Members.{any, every}
use Rattle.basics.proofs.Ifs.{if_all, if_yes, if_no, and_both}
use Rattle.language.specs.Places.{is_place, is_scheduler}
use Rattle.language.specs.declared.Place.{Place}
use Rattle.language.specs.Inner.Labels.{same_label}
use Rattle.language.proofs.PlaceLaws.{test_bounds}
use Rattle.machine.specs.Groups.{schedulers_where}
use Rattle.machine.specs.Words.{words_at}
use Rattle.lists.specs.Inner.Lists.{is_awaiting_word, active_with, with_woken, ready_words}
use Rattle.lists.specs.Inner.Families.{is_ready_word, LivingFamilies}
use Rattle.lists.specs.Inner.Lists.{with_instant_ended, ListWords, ListsFit}
use Rattle.lists.proofs.PartitionLaws.{idle_room}
use Rattle.lists.proofs.MovedLaws.{moved_long, moved_other, moved_fits, moved_living, active_same}
use Rattle.groups.specs.Inner.Members.{members_in}
use Rattle.groups.specs.Inner.Members.{room_on, woken_if, woken_on, ended_if}
use Rattle.groups.specs.Inner.Members.{ready_if, ended_on, ready_on, GroupOf, PairOf}
use Rattle.groups.specs.Inner.Members.{Each, HasRoomOn, IdleOn, RoomIf, IdleIf}

-- ---- the schedulers from k on that pass
module _ (test : ℕ → Bool) where
  members_first : (k m : ℕ) → k < m → test k ≡ true
      → schedulers_where test k (m - k) ≡ k ∷ schedulers_where test (k + 1) (m - (k + 1))
  unfolding schedulers_where
  members_first k m l t =
      let e : m - k ≡ suc (m - (k + 1)) = omega arith in
      let f : suc k ≡ k + 1 = omega arith in
      ap (schedulers_where test k) e
      ∙ ap (λ (b : Bool). keep_if b k (schedulers_where test (suc k) (m - (k + 1)))) t
      ∙ ap (λ (j : ℕ). k ∷ schedulers_where test j (m - (k + 1))) f

  members_later : (k m : ℕ) → k < m → test k ≡ false
      → schedulers_where test k (m - k) ≡ schedulers_where test (k + 1) (m - (k + 1))
  unfolding schedulers_where
  members_later k m l t =
      let e : m - k ≡ suc (m - (k + 1)) = omega arith in
      let f : suc k ≡ k + 1 = omega arith in
      ap (schedulers_where test k) e
      ∙ ap (λ (b : Bool). keep_if b k (schedulers_where test (suc k) (m - (k + 1)))) t
      ∙ ap (λ (j : ℕ). schedulers_where test j (m - (k + 1))) f

  members_end : (k m : ℕ) → m ≤ k → schedulers_where test k (m - k) ≡ []
  unfolding schedulers_where
  members_end k m l = let e : m - k ≡ 0 = omega arith in ap (schedulers_where test k) e

-- the members from k on
abbrev pub members_from : List ℕ → ℕ → ℕ → ℕ → List ℕ
members_from labels p n k = schedulers_where (same_label labels p) k (2 + n - k)

-- ---- a loop over the members: what F makes of those from k on is the whole
pub record Walk {X : Type 0} (F : List ℕ → X) (whole : X) (labels : List ℕ) (p n m k : ℕ) : Type 0 where
  pub low : 2 ≤ k
  pub end : m ≡ 2 + n
  pub rest : F (members_from labels p n k) ≡ whole

module _ {X : Type 0} (labels : List ℕ) (p n m : ℕ) (F : List ℕ → X) where
  walk_start : m ≡ 2 + n → Walk F (F (members_in labels n p)) labels p n m 2
  walk_start h =
      let e : 2 + n - 2 ≡ n = omega arith in
      record {
        low = omega arith;
        end = h;
        rest = ap (λ (i : ℕ). F (schedulers_where (same_label labels p) 2 i)) e;
      }

  module _ (whole : X) (k : ℕ) (t : Walk F whole labels p n m k) where
    walk_end : m ≤ k → F [] ≡ whole
    walk_end l =
        let e = t.end in
        ap F (sym (members_end (same_label labels p) k (2 + n) (omega arith))) ∙ t.rest

    module _ (l : k < m) where
      inside : k < 2 + n
      inside = let e = t.end in omega arith

      walk_member : same_label labels p k ≡ true → F (k ∷ members_from labels p n (k + 1)) ≡ whole
      walk_member h =
          ap F (sym (members_first (same_label labels p) k (2 + n) inside h)) ∙ t.rest

      walk_other : same_label labels p k ≡ false → F (members_from labels p n (k + 1)) ≡ whole
      walk_other h =
          ap F (sym (members_later (same_label labels p) k (2 + n) inside h)) ∙ t.rest

-- one turn on, whatever is made of those that are left
walk_on : {X : Type 0} (F G : List ℕ → X) (whole : X) (labels : List ℕ) (p n m k : ℕ)
    → Walk F whole labels p n m k → G (members_from labels p n (k + 1)) ≡ whole
    → Walk G whole labels p n m (k + 1)
walk_on F G whole labels p n m k t h =
    record { low = let a = t.low in omega arith; end = t.end; rest = h }

-- what the calls in such a loop ask
module _ {X : Type 0} (F : List ℕ → X) (whole : X) (labels : List ℕ) (p n m k : ℕ)
    (t : Walk F whole labels p n m k) (l : k < m) (g : GroupOf n p) where
  pub walk_place : is_place k ≡ true
  walk_place =
      let z = t.end in
      let a = t.low in
      let f = g.few in
      and_both _ _ (le-leb 1 k (omega arith)) (le-leb k 9 (omega arith))

  pub walk_scheduler : (q : Place) → q ≡ record { number = k } → is_scheduler q.number ≡ true
  walk_scheduler q e =
      let z = t.end in
      let a = t.low in
      let f = g.few in
      ap (λ (x : Place). is_scheduler x.number) e
      ∙ and_both _ _ (le-leb 2 k (omega arith)) (le-leb k 9 (omega arith))

pub end_small : (n p : ℕ) → GroupOf n p → 2 + n < 256
end_small n p g = let f = g.few in omega arith

-- a scheduler of the loop beside p
pub walk_pair : {X : Type 0} (F : List ℕ → X) (whole : X) (labels : List ℕ) (p n m k : ℕ) (q : Place)
    → Walk F whole labels p n m k → k < m → GroupOf n p → q ≡ record { number = k }
    → PairOf p q.number
walk_pair F whole labels p n m k q t l g i =
    record {
      own = g.scheduler;
      other = walk_scheduler F whole labels p n m k t l g q i;
    }

pub pair_own : (p k : ℕ) → PairOf p k → is_scheduler p ≡ true
pair_own p k h = h.own

pub pair_other : (p k : ℕ) → PairOf p k → is_scheduler k ≡ true
pair_other p k h = h.other

-- ---- what `any` answers over the schedulers' numbers: some member passes; not every member does
module _ (same test : ℕ → Bool) where
  pub any-members : (k n : ℕ)
      → list_any (λ j. same j && test j) (range_with_len k n) ≡ any test (schedulers_where same k n)
  unfolding any schedulers_where
  any-members k zero = refl
  any-members k (suc n) =
      go (same k) (test k) refl
      (any-members (k + 1) n ∙ ap (λ (j : ℕ). any test (schedulers_where same j n)) (add-one k))
    where
      rest : Bool
      rest = list_any (λ j. same j && test j) (range_with_len (k + 1) n)

      tail : List ℕ
      tail = schedulers_where same (suc k) n

      go : (a b : Bool) → test k ≡ b → rest ≡ any test tail → (a && b || rest) ≡ any test (keep_if a k tail)
      go true true e h = sym (ap (λ (b : Bool). elim b [ true ↦ true | false ↦ any test tail ]) e)
      go true false e h = h ∙ sym (ap (λ (b : Bool). elim b [ true ↦ true | false ↦ any test tail ]) e)
      go false b e h = h

  pub none-members : (k n : ℕ)
      → not (list_any (λ j. same j && not (test j)) (range_with_len k n)) ≡ every test (schedulers_where same k n)
  unfolding every schedulers_where
  none-members k zero = refl
  none-members k (suc n) =
      go (same k) (test k) refl
      (none-members (k + 1) n ∙ ap (λ (j : ℕ). every test (schedulers_where same j n)) (add-one k))
    where
      rest : Bool
      rest = list_any (λ j. same j && not (test j)) (range_with_len (k + 1) n)

      tail : List ℕ
      tail = schedulers_where same (suc k) n

      go : (a b : Bool) → test k ≡ b → not rest ≡ every test tail
          → not (a && not b || rest) ≡ every test (keep_if a k tail)
      go true true e h = h ∙ sym (ap (λ (b : Bool). elim b [ true ↦ every test tail | false ↦ false ]) e)
      go true false e h = sym (ap (λ (b : Bool). elim b [ true ↦ every test tail | false ↦ false ]) e)
      go false b e h = h

-- what the lists of a member are asked for
pub words_few : (w : List ℕ) → ListsFit w → get_or w 0 0 ≤ 64
words_few w h = h.threads

pub list_words : (w : List ℕ) (q : ℕ) → ListsFit w → is_scheduler q ≡ true
    → ListWords w (67 + 130 * (q - 2))
list_words w q h s =
    let (a, b) = test_bounds 2 q s in
    (h.threads, h.next (q - 2) (omega arith))

-- ---- `wake_if_member`, `end_if_member`: r is what `in_step` has answered
module _ (labels w : List ℕ) (p k : ℕ) (r : Bool) (s : r ≡ same_label labels p k) where
  pub wakes_none : (e : ℕ) → r ≡ false → w ≡ woken_if labels p e w k
  unfolding woken_if
  wakes_none e h = sym (if_no _ _ (sym s ∙ h))

  pub ends_none : r ≡ false → w ≡ ended_if labels p w k
  unfolding ended_if
  ends_none h = sym (if_no _ _ (sym s ∙ h))

  pub none_ready_here : r ≡ false → 0 ≡ ready_if labels p w k
  unfolding ready_if
  none_ready_here h = sym (if_no _ _ (sym s ∙ h))

  module _ (h : r ≡ true) where
    pub wakes_here : (e : ℕ) (v : List ℕ) → v ≡ with_woken w (k - 2) e → v ≡ woken_if labels p e w k
    unfolding woken_if
    wakes_here e v f = f ∙ sym (if_yes _ _ (sym s ∙ h))

    pub ends_here : (v : List ℕ) → v ≡ with_instant_ended w (k - 2) → v ≡ ended_if labels p w k
    unfolding ended_if
    ends_here v f = f ∙ sym (if_yes _ _ (sym s ∙ h))

    pub ready_here : (x : ℕ) → x ≡ length (ready_words w (words_at w (67 + 130 * (k - 2))))
        → x ≡ ready_if labels p w k
    unfolding ready_if
    ready_here x f = f ∙ sym (if_yes _ _ (sym s ∙ h))

    pub has_room_here : (e : ℕ) → RoomIf labels p e w k → active_with (is_awaiting_word e) w (k - 2) ≤ 64
    has_room_here e f = f.room (sym s ∙ h)

    pub is_idle_here : IdleIf labels p w k → get_or w (2 + 130 * (k - 2)) 0 ≡ 0
    is_idle_here f = f.idle (sym s ∙ h)

-- ---- `wake_on_each`: the members before k are woken, those from k on have room
pub record Waking (labels w₀ : List ℕ) (p n m e : ℕ) (w : List ℕ) (k : ℕ) : Type 0 where
  pub walk : Walk (λ qs. woken_on qs e w) (woken_on (members_in labels n p) e w₀) labels p n m k
  pub long : length w ≡ 4834
  pub words : ListsFit w
  pub room : Each (same_label labels p) (HasRoomOn e w) k (2 + n)

pub waking_start : (labels w : List ℕ) (p n m e : ℕ) → m ≡ 2 + n → length w ≡ 4834 → ListsFit w
    → Each (same_label labels p) (HasRoomOn e w) 2 (2 + n) → Waking labels w p n m e w 2
waking_start labels w p n m e h long g f =
    record { walk = walk_start labels p n m (λ qs. woken_on qs e w) h; long = long; words = g; room = f }

pub waking_words : (labels w₀ w : List ℕ) (p n m e k : ℕ) → Waking labels w₀ p n m e w k → ListsFit w
waking_words labels w₀ w p n m e k t = t.words

module _ (labels w₀ w : List ℕ) (p n m e k : ℕ) (t : Waking labels w₀ p n m e w k) (l : k < m)
    (g : GroupOf n p) where
  room_now : same_label labels p k ≡ true → active_with (is_awaiting_word e) w (k - 2) ≤ 64
  room_now h = let z = t.walk.end in t.room k (omega arith) (omega arith) h

  pub waking_room : (q : Place) → q ≡ record { number = k } → RoomIf labels p e w q.number
  waking_room q i =
      subst (λ (y : Place). RoomIf labels p e w y.number) (sym i) (record { room = room_now })

  block : k - 2 < 8
  block = let z = t.walk.end in let f = g.few in let a = t.walk.low in omega arith

  small : get_or w (67 + 130 * (k - 2)) 0 ≤ 64
  small = t.words.next (k - 2) block

  -- of a member, and of another
  woken_next : same_label labels p k ≡ true → Waking labels w₀ p n m e (with_woken w (k - 2) e) (k + 1)
  unfolding woken_on
  woken_next here =
      record {
        walk =
            walk_on _ (λ qs. woken_on qs e (with_woken w (k - 2) e)) _ labels p n m k t.walk
            (walk_member labels p n m (λ qs. woken_on qs e w) _ k t.walk l here);
        long = moved_long (is_awaiting_word e) w (k - 2) block t.long small (room_now here);
        words =
            moved_fits (is_awaiting_word e) w (k - 2) block t.long small (room_now here) t.words;
        room = λ a b c d. later a (omega arith) c d;
      }
    where
      later : (a : ℕ) → k < a → a < 2 + n → same_label labels p a ≡ true
          → HasRoomOn e (with_woken w (k - 2) e) a
      later a b c d =
          let low = t.walk.low in
          let few = g.few in
          let same = active_same w (with_woken w (k - 2) e) (a - 2)
          (λ o x y. moved_other (is_awaiting_word e) w (k - 2) block t.long small (room_now here) o (λ f h. omega arith))
          (t.words.next (a - 2) (omega arith)) (is_awaiting_word e) in
          let z = t.room a (omega arith) c d in
          omega arith

  passed_next : same_label labels p k ≡ false → Waking labels w₀ p n m e w (k + 1)
  passed_next other =
      record {
        walk =
            walk_on _ (λ qs. woken_on qs e w) _ labels p n m k t.walk
            (walk_other labels p n m (λ qs. woken_on qs e w) _ k t.walk l other);
        long = t.long;
        words = t.words;
        room = λ a b c d. t.room a (omega arith) c d;
      }

  pub waking_next : (q : Place) (v : List ℕ) → q ≡ record { number = k }
      → v ≡ woken_if labels p e w q.number → Waking labels w₀ p n m e v (k + 1)
  unfolding woken_if
  waking_next q v i h =
      subst (λ (x : List ℕ). Waking labels w₀ p n m e x (k + 1))
      (sym (h ∙ ap (λ (y : Place). woken_if labels p e w y.number) i))
      (if_all (λ (x : List ℕ). Waking labels w₀ p n m e x (k + 1)) (same_label labels p k) _ _
      woken_next passed_next)

pub waking_end : (labels w₀ w : List ℕ) (p n m e k : ℕ) → Waking labels w₀ p n m e w k → m ≤ k
    → w ≡ woken_on (members_in labels n p) e w₀
unfolding woken_on
waking_end labels w₀ w p n m e k t l = walk_end labels p n m (λ qs. woken_on qs e w) _ k t.walk l

-- ---- `end_on_each`: the instant has ended on the members before k, those from k on are idle
pub record Ending (labels w₀ : List ℕ) (p n m living : ℕ) (w : List ℕ) (ready k : ℕ) : Type 0 where
  pub walk : Walk (λ qs. ended_on qs w) (ended_on (members_in labels n p) w₀) labels p n m k
  pub count : ready + ready_on (members_from labels p n k) w ≡ ready_on (members_in labels n p) w₀
  pub few : ready ≤ 64 * k
  pub long : length w ≡ 4834
  pub words : ListsFit w
  pub idle : Each (same_label labels p) (IdleOn w) k (2 + n)
  pub families : LivingFamilies w living

pub ending_start : (labels w : List ℕ) (p n m living : ℕ) → m ≡ 2 + n → length w ≡ 4834 → ListsFit w
    → Each (same_label labels p) (IdleOn w) 2 (2 + n) → LivingFamilies w living
    → Ending labels w p n m living w 0 2
ending_start labels w p n m living h long g f s =
    record {
      walk = walk_start labels p n m (λ qs. ended_on qs w) h;
      count = let e = (walk_start labels p n m (λ qs. ready_on qs w) h).rest in omega arith;
      few = omega arith;
      long = long;
      words = g;
      idle = f;
      families = s;
    }

module _ (labels w₀ w : List ℕ) (p n m living ready k : ℕ)
    (t : Ending labels w₀ p n m living w ready k) where
  pub ending_words_fit : ListsFit w
  ending_words_fit = t.words

  pub ending_families : LivingFamilies w living
  ending_families = t.families

  module _ (l : k < m) (g : GroupOf n p) where
    idle_now : same_label labels p k ≡ true → get_or w (2 + 130 * (k - 2)) 0 ≡ 0
    idle_now h = let z = t.walk.end in t.idle k (omega arith) (omega arith) h

    pub ending_idle : (q : Place) → q ≡ record { number = k } → IdleIf labels p w q.number
    ending_idle q i =
        subst (λ (y : Place). IdleIf labels p w y.number) (sym i) (record { idle = idle_now })

    ending_block : k - 2 < 8
    ending_block = let z = t.walk.end in let f = g.few in let a = t.walk.low in omega arith

    next_small : get_or w (67 + 130 * (k - 2)) 0 ≤ 64
    next_small = t.words.next (k - 2) ending_block

    room_idle : same_label labels p k ≡ true → active_with (is_ready_word w) w (k - 2) ≤ 64
    room_idle h = idle_room (is_ready_word w) w (k - 2) (idle_now h) next_small

    count_few : ready_if labels p w k ≤ 64
    unfolding ready_if
    count_few =
        if_all (λ (x : ℕ). x ≤ 64) (same_label labels p k) _ 0
        (λ h. let y = room_idle h in omega arith) (λ _. omega arith)

    count_at : (q : Place) (x : ℕ) → q ≡ record { number = k } → x ≡ ready_if labels p w q.number
        → x ≡ ready_if labels p w k
    count_at q x i h = h ∙ ap (λ (y : Place). ready_if labels p w y.number) i

    pub ending_small : (q : Place) (x : ℕ) → q ≡ record { number = k }
        → x ≡ ready_if labels p w q.number → ready + x < 2 ^ 64
    ending_small q x i h =
        let a = count_at q x i h in let c = count_few in let b = t.few in
        let z = t.walk.end in let f = g.few in
        omega arith

    inside_file : k < 2 + n
    inside_file = let z = t.walk.end in omega arith

    -- of a member, and of another
    abbrev After : List ℕ → ℕ → Type 0
    After v x = Ending labels w₀ p n m living v (ready + x) (k + 1)

    ended_next : same_label labels p k ≡ true
        → After (with_instant_ended w (k - 2)) (length (ready_words w (words_at w (67 + 130 * (k - 2)))))
    unfolding ended_on ready_on
    ended_next here =
        record {
          walk =
              walk_on _ (λ qs. ended_on qs (with_instant_ended w (k - 2))) _ labels p n m k t.walk
              (walk_member labels p n m (λ qs. ended_on qs w) _ k t.walk l here);
          count =
              let a = t.count in
              let b = ap (λ (qs : List ℕ). ready_on qs w) (members_first (same_label labels p) k (2 + n) inside_file here) in
              omega arith;
          few = let a = room_idle here in let b = t.few in omega arith;
          long = moved_long (is_ready_word w) w (k - 2) ending_block t.long next_small (room_idle here);
          words =
              moved_fits (is_ready_word w) w (k - 2) ending_block t.long next_small (room_idle here) t.words;
          idle = λ a b c d. later a (omega arith) c d;
          families =
              moved_living (is_ready_word w) w (k - 2) ending_block t.long next_small (room_idle here) living
              t.families;
        }
      where
        later : (a : ℕ) → k < a → a < 2 + n → same_label labels p a ≡ true
            → IdleOn (with_instant_ended w (k - 2)) a
        later a b c d =
            let low = t.walk.low in
            moved_other (is_ready_word w) w (k - 2) ending_block t.long next_small (room_idle here) (2 + 130 * (a - 2)) (λ f h. omega arith)
            ∙ t.idle a (omega arith) c d

    kept_next : same_label labels p k ≡ false → After w 0
    kept_next other =
        record {
          walk =
              walk_on _ (λ qs. ended_on qs w) _ labels p n m k t.walk
              (walk_other labels p n m (λ qs. ended_on qs w) _ k t.walk l other);
          count =
              let a = t.count in
              let b = ap (λ (qs : List ℕ). ready_on qs w) (members_later (same_label labels p) k (2 + n) inside_file other) in
              omega arith;
          few = let a = t.few in omega arith;
          long = t.long;
          words = t.words;
          idle = λ a b c d. t.idle a (omega arith) c d;
          families = t.families;
        }

    pub ending_next : (q : Place) (v : List ℕ) (x : ℕ) → q ≡ record { number = k }
        → x ≡ ready_if labels p w q.number → v ≡ ended_if labels p w q.number
        → Ending labels w₀ p n m living v (ready + x) (k + 1)
    unfolding ready_if ended_if
    ending_next q v x i c h = by (same_label labels p k) refl
      where
        words_at_lem : v ≡ ended_if labels p w k
        words_at_lem = h ∙ ap (λ (y : Place). ended_if labels p w y.number) i

        by : (b : Bool) → same_label labels p k ≡ b → After v x
        by true s =
            subst (λ (y : List ℕ). After y x) (sym (words_at_lem ∙ if_yes _ _ s))
            (subst (After (with_instant_ended w (k - 2))) (sym (count_at q x i c ∙ if_yes _ _ s)) (ended_next s))
        by false s =
            subst (λ (y : List ℕ). After y x) (sym (words_at_lem ∙ if_no _ _ s))
            (subst (After w) (sym (count_at q x i c ∙ if_no _ _ s)) (kept_next s))

  module _ (l : m ≤ k) where
    pub ending_count : ready ≡ ready_on (members_in labels n p) w₀
    unfolding ready_on
    ending_count =
        let z = t.walk.end in
        let a = t.count in
        let b = ap (λ (qs : List ℕ). ready_on qs w) (members_end (same_label labels p) k (2 + n) (omega arith)) in
        omega arith

    pub ending_words : w ≡ ended_on (members_in labels n p) w₀
    unfolding ended_on
    ending_words = walk_end labels p n m (λ qs. ended_on qs w) _ k t.walk l

-- ---- what `room_on_each` has found, of each member
pub room_each : (test : ℕ → Bool) (e : ℕ) (w : List ℕ) (k n : ℕ)
    → every (room_on e w) (schedulers_where test k n) ≡ true → Each test (HasRoomOn e w) k (k + n)
unfolding every schedulers_where
room_each test e w k zero h j a b t = absurd (omega arith)
room_each test e w k (suc n) h j a b t =
    go (test k) refl h (λ f c. room_each test e w (suc k) n f j c (omega arith) t)
  where
    tail : List ℕ
    tail = schedulers_where test (suc k) n

    here : elim (room_on e w k) [ true ↦ every (room_on e w) tail | false ↦ false ] ≡ true
        → HasRoomOn e w k × (every (room_on e w) tail ≡ true)
    here f = by (room_on e w k) refl f
      where
        by : (d : Bool) → room_on e w k ≡ d → elim d [ true ↦ every (room_on e w) tail | false ↦ false ] ≡ true
            → HasRoomOn e w k × (every (room_on e w) tail ≡ true)
        by true q f = (leb-true _ 64 q, f)
        by false q f = absurd (true≢false (sym f))

    go : (d : Bool) → test k ≡ d → every (room_on e w) (keep_if d k tail) ≡ true
        → (every (room_on e w) tail ≡ true → suc k ≤ j → HasRoomOn e w j) → HasRoomOn e w j
    go false q f rec =
        rec f (let x : k ≡ j → ⊥ = λ z. true≢false (sym t ∙ ap test (sym z) ∙ q) in omega (arith, x))
    go true q f rec = pick (ℕ_discrete k j) (here f)
      where
        pick : Dec (k ≡ j) → HasRoomOn e w k × (every (room_on e w) tail ≡ true) → HasRoomOn e w j
        pick (yes z) r = subst (HasRoomOn e w) z r.0
        pick (no z) r = rec r.1 (omega (arith, z))
