-- A turn without an evaluation, on words, comes to what the rules say: items and variables more or
-- less, moves. Assumes nothing.
use Prim.Native.Nat.{ℕ, suc, ◌+◌, ◌-◌, ◌<◌, ◌≤◌}
use mathlib.Core.Path.{◌≡◌, refl, sym, ap, ap₂, ◌∙◌}
use mathlib.Core.List.{List, [], ◌∷◌, ◌++◌}
use mathlib.Core.Bool.{Bool, true, false, not, ◌&&◌}
use native.Mathlib.Omega.{arith}
use lib.Dec.{leb, eqb}
use lib.ListN.{length, get_or, take, length-append}
use lib.Seq.{take-suc, take-length, length-take-le}
use borrow.Author.Tests.{leb-true, leb-false, le-leb, lt-leb, eqb-false}
use Rattle.language.specs.declared.refusal.Rule.{Rule}
use Rattle.basics.specs.If.{when◌then◌else◌}
use Rattle.basics.proofs.Ifs.{if_all, if_yes, if_no, and_off}
use Rattle.language.specs.Places.{private, has_place}
use Rattle.language.specs.declared.frame.Frame.{Frame}
use Rattle.program.specs.Trees.{Stmt, root_s}
use Rattle.program.specs.Programs.{Program}
use Rattle.machine.specs.Accesses.{Access}
use Rattle.machine.specs.State.{State, Stored, Thread, Item, run, back, drop, plain, enlist}
use Rattle.machine.specs.State.{used_cells}
use Rattle.machine.specs.Turns.{state_spaces, StepResult, Turn, here}
use Rattle.machine.specs.Turns.{refuse}
use Rattle.machine.specs.Turns.{accept, self_at, settled, leave, room, fits, stay, move, go_to}
use Rattle.machine.specs.Statements.{drops, step_do, step_cooperate}
use Rattle.machine.specs.Words.{item_word, value_word}
use Rattle.stepper.specs.Inner.Files.{as_committed}
use Rattle.machine.specs.declared.value.Value.{Value}
use Rattle.machine.specs.declared.value.Value.TheVariants.{Number}
use Rattle.machine.specs.Shapes.{ThreadFits}
use Rattle.states.specs.declared.thread.ThreadWords.{ThreadWords}
use Rattle.states.specs.Inner.Threads.{thread_words_of}
use Rattle.states.specs.Inner.Stacks.{push_item, push_value, pop_value, move_to}
use Rattle.states.proofs.StackLaws.{push_item_is, push_value_is, pop_value_is}
use Rattle.acts.specs.declared.act.Transition.TheVariants.{Stays, Leaves, Joins}
use Rattle.acts.specs.Inner.Transitions.{TurnResult, acted_in, refused_in}
use Rattle.turns.specs.Inner.Acts.{one_in, two_in, lets_in, drops_in, goes_in, does_in}
use Rattle.turns.specs.Inner.Acts.{cooperates_in}
use Rattle.stepper.proofs.Grows.{Grown}
use Rattle.stepper.proofs.Transitions.{Acts, turn_at, commit, place_scheduler, refuse_is, stays_is}
use Rattle.stepper.proofs.Transitions.{leaves_is, joins_is}

-- ---- a thread's space, by its two counts
fits_yes : (items : List Item) (vars : List Value) → length items ≤ 25 → length vars ≤ 25
    → fits state_spaces items vars ≡ true
unfolding fits
fits_yes items vars a b = ap₂ ◌&&◌ (le-leb (length items) 25 a) (le-leb (length vars) 25 b)

fits-items : (items : List Item) (vars : List Value) → 25 < length items
    → fits state_spaces items vars ≡ false
unfolding fits
fits-items items vars a = ap (λ (x : Bool). x && leb (length vars) 25) (lt-leb (length items) 25 a)

fits-vars : (items : List Item) (vars : List Value) → 25 < length vars
    → fits state_spaces items vars ≡ false
unfolding fits
fits-vars items vars a =
    ap (λ (x : Bool). leb (length items) 25 && x) (lt-leb (length vars) 25 a)
    ∙ and_off (leb (length items) 25)

stay_yes : (u : Turn) (items : List Item) (vars : List Value) → fits u.spaces items vars ≡ true
    → stay u items vars ≡ accept u (settled u (self_at u (here u) items vars))
unfolding stay
stay_yes u items vars e = if_yes _ _ e

stay_no : (u : Turn) (items : List Item) (vars : List Value) → fits u.spaces items vars ≡ false
    → stay u items vars ≡ refuse u 20
unfolding stay
stay_no u items vars e = if_no _ _ e

-- the last variable, and those before it
with_last : (vs : List Value) → 0 < length vs
    → vs ≡ take (length vs - 1) vs ++ (get_or vs (length vs - 1) (Number 0) ∷ [])
with_last vs h =
    let z : suc (length vs - 1) ≡ length vs = omega arith in
    sym (take-length vs) ∙ ap (λ (i : ℕ). take i vs) (sym z)
    ∙ take-suc vs (length vs - 1) (Number 0) (omega arith)

module _ {fs : List Frame} {P : Program} {n : ℕ} {w : List ℕ} {s : State} {c k : ℕ} (A : Acts fs P n w s c k) (x : Thread) (X : ThreadFits fs n x) (cs : List Stored) (acc : List Access) where
  abbrev u : Turn
  u = turn_at A x cs acc

  abbrev items : List Item
  items = x.continuation

  abbrev vars : List Value
  vars = x.variables

  -- the acting thread at that place, with those items and variables
  abbrev self : ℕ → List Item → List Value → Thread
  self q is vs = self_at u q is vs

  -- ---- the thread stays: with the items and variables that it has, with one item more, with two,
  -- with a variable more or less
  pub stay_none : commit A (acted_in Stays (thread_words_of x) (used_cells cs)) cs
      ≡ as_committed w (stay u items vars)
  stay_none =
      stays_is A x cs acc x
      ∙ ap (as_committed w)
      (sym (stay_yes u items vars (fits_yes items vars X.items_room X.variables_room)))

  module _ (g : Grown s.cells cs) (l : used_cells cs ≤ 256) where
    refused_20 : (th : ThreadWords)
        → commit A (refused_in Rule.Stuck th (used_cells cs)) cs ≡ as_committed w (refuse u 20)
    refused_20 th = refuse_is A x cs acc Rule.Stuck th g l

    no_stay : (th : ThreadWords) (is : List Item) (vs : List Value) → fits state_spaces is vs ≡ false
        → commit A (refused_in Rule.Stuck th (used_cells cs)) cs ≡ as_committed w (stay u is vs)
    no_stay th is vs e = refused_20 th ∙ ap (as_committed w) (sym (stay_no u is vs e))

    yes_stay : (th : ThreadWords) (is : List Item) (vs : List Value) → fits state_spaces is vs ≡ true
        → th ≡ thread_words_of (self x.place is vs)
        → commit A (acted_in Stays th (used_cells cs)) cs ≡ as_committed w (stay u is vs)
    yes_stay th is vs e q =
        ap (λ (y : ThreadWords). commit A (acted_in Stays y (used_cells cs)) cs) q
        ∙ stays_is A x cs acc (self x.place is vs) ∙ ap (as_committed w) (sym (stay_yes u is vs e))

    pub stay_one : (i : Item)
        → commit A (one_in (thread_words_of x) (used_cells cs) (item_word i)) cs
        ≡ as_committed w (stay u (i ∷ items) vars)
    unfolding one_in
    stay_one i =
        if_all (λ (a : TurnResult). commit A a cs ≡ as_committed w (stay u (i ∷ items) vars))
        (leb 25 (length items)) _ _
        (λ e. let h = leb-true 25 (length items) e in no_stay (thread_words_of x) (i ∷ items) vars (fits-items (i ∷ items) vars (omega arith)))
        (λ e. let h = leb-false 25 (length items) e in
        yes_stay (push_item (item_word i) (thread_words_of x)) (i ∷ items) vars (fits_yes (i ∷ items) vars (omega arith) X.variables_room) (push_item_is x i h))

    pub stay_two : (i j : Item)
        → commit A (two_in (thread_words_of x) (used_cells cs) (item_word i) (item_word j)) cs
        ≡ as_committed w (stay u (i ∷ j ∷ items) vars)
    unfolding two_in
    stay_two i j =
        if_all (λ (a : TurnResult). commit A a cs ≡ as_committed w (stay u (i ∷ j ∷ items) vars))
        (leb 24 (length items)) _ _
        (λ e. let h = leb-true 24 (length items) e in no_stay (thread_words_of x) (i ∷ j ∷ items) vars (fits-items (i ∷ j ∷ items) vars (omega arith)))
        (λ e. let h = leb-false 24 (length items) e in
        yes_stay (push_item (item_word i) (push_item (item_word j) (thread_words_of x)))
        (i ∷ j ∷ items) vars (fits_yes (i ∷ j ∷ items) vars (omega arith) X.variables_room)
        (ap (push_item (item_word i)) (push_item_is x j (omega arith)) ∙ push_item_is (self x.place (j ∷ items) vars) i (omega arith)))

    -- 16
    pub stay_let : (v : Value) (a : Stmt)
        → commit A (lets_in (thread_words_of x) (used_cells cs) (value_word v) (root_s a)) cs
        ≡ as_committed w (stay u (run a ∷ drop ∷ items) (vars ++ (v ∷ [])))
    unfolding lets_in item_word
    stay_let v a =
        if_all (λ (y : TurnResult). commit A y cs ≡ as_committed w (stay u (run a ∷ drop ∷ items) (vars ++ (v ∷ [])))) (leb 25 (length vars)) _ _
        (λ e. let h = leb-true 25 (length vars) e in let z = length-append vars (v ∷ []) in
        no_stay (thread_words_of x) (run a ∷ drop ∷ items) (vars ++ (v ∷ [])) (fits-vars (run a ∷ drop ∷ items) (vars ++ (v ∷ [])) (omega arith)))
        (λ e. let h = leb-false 25 (length vars) e in let z = length-append vars (v ∷ []) in
        if_all (λ (y : TurnResult). commit A y cs ≡ as_committed w (stay u (run a ∷ drop ∷ items) (vars ++ (v ∷ [])))) (leb 24 (length items)) _ _
        (λ f. let g = leb-true 24 (length items) f in
        no_stay (thread_words_of x) (run a ∷ drop ∷ items) (vars ++ (v ∷ [])) (fits-items (run a ∷ drop ∷ items) (vars ++ (v ∷ [])) (omega arith)))
        (λ f. let g = leb-false 24 (length items) f in
        yes_stay (push_item (root_s a) (push_item 2048 (push_value (value_word v) (thread_words_of x))))
        (run a ∷ drop ∷ items) (vars ++ (v ∷ []))
        (fits_yes (run a ∷ drop ∷ items) (vars ++ (v ∷ [])) (omega arith) (omega arith))
        (ap (λ (th : ThreadWords). push_item (root_s a) (push_item 2048 th)) (push_value_is x v h)
        ∙ ap (push_item (root_s a))
        (push_item_is (self x.place items (vars ++ (v ∷ []))) drop (omega arith))
        ∙ push_item_is (self x.place (drop ∷ items) (vars ++ (v ∷ []))) (run a) (omega arith))))

    -- a drop
    pub drops_is : commit A (drops_in (thread_words_of x) (used_cells cs)) cs ≡ as_committed w (drops u)
    unfolding drops drops_in
    drops_is = go (eqb (length vars) 0) refl
      where
        rest : List Value
        rest = take (length vars - 1) vars

        fewer : length (take (length vars - 1) vars) ≡ length vars - 1
        fewer = length-take-le (length vars - 1) vars (omega arith)

        popped : 0 < length vars
            → pop_value (thread_words_of x)
            ≡ thread_words_of (self x.place items (take (length vars - 1) vars))
        popped h =
            let r = X.variables_room in let z = fewer in
            ap (λ (vs : List Value). pop_value (thread_words_of (self x.place items vs)))
            (with_last vars h)
            ∙ pop_value_is (self x.place items (take (length vars - 1) vars))
            (get_or vars (length vars - 1) (Number 0)) (omega arith)

        go : (b : Bool) → eqb (length vars) 0 ≡ b
            → commit A (when eqb (length vars) 0 then refused_in Rule.Stuck (thread_words_of x) (used_cells cs) else acted_in Stays (pop_value (thread_words_of x)) (used_cells cs)) cs
            ≡ as_committed w (when eqb (length vars) 0 then refuse u 20 else stay u items (take (length vars - 1) vars))
        go true e =
            ap (λ (a : TurnResult). commit A a cs) (if_yes _ _ e) ∙ refused_20 (thread_words_of x)
            ∙ ap (as_committed w) (sym (if_yes _ _ e))
        go false e =
            let h = eqb-false (length vars) 0 e in let r = X.variables_room in let z = fewer in
            ap (λ (a : TurnResult). commit A a cs) (if_no _ _ e)
            ∙ yes_stay (pop_value (thread_words_of x)) items rest
            (fits_yes items rest X.items_room (omega arith)) (popped (omega arith))
            ∙ ap (as_committed w) (sym (if_no _ _ e))

    -- ---- moves
    move-fits : (q : ℕ) (is : List Item) → fits state_spaces is vars ≡ true
        → move u q is
        ≡ (when eqb q private then accept u (leave u (settled u (self q is vars)))
        else when room u 1 q then accept u (enlist q (plain (suc k)) (leave u (settled u (self q is vars)))) else refuse u 20)
    unfolding move
    move-fits q is e = if_no _ _ (ap not e)

    move_full : (q : ℕ) (is : List Item) → fits state_spaces is vars ≡ false
        → move u q is ≡ refuse u 20
    unfolding move
    move_full q is e = if_yes _ _ (ap not e)

    go_full : (q : ℕ) (is : List Item) → fits state_spaces is vars ≡ false
        → go_to u q is ≡ refuse u 20
    unfolding go_to
    go_full q is e = if_all (λ (r : StepResult). r ≡ refuse u 20) (eqb q x.place) _ _ (λ _. stay_no u is vars e) (λ _. move_full q is e)

    pub goes_is : (q : ℕ) (is : List Item) → has_place n q ≡ true → length is ≤ 25
        → commit A (goes_in x.place (thread_words_of (self x.place is vars)) (used_cells cs) q) cs
        ≡ as_committed w (go_to u q is)
    unfolding goes_in go_to move_to
    goes_is q is p h = go (eqb q x.place) (eqb q private) refl refl
      where
        f : fits state_spaces is vars ≡ true
        f = fits_yes is vars h X.variables_room

        th : ThreadWords
        th = thread_words_of (self x.place is vars)

        go : (b d : Bool) → eqb q x.place ≡ b → eqb q private ≡ d
            → commit A (when eqb q x.place then acted_in Stays th (used_cells cs) else when eqb q 1 then acted_in Leaves (move_to q th) (used_cells cs) else acted_in (Joins (record { number = q })) (move_to q th) (used_cells cs)) cs
            ≡ as_committed w (when eqb q x.place then stay u is vars else move u q is)
        go true d e z =
            ap (λ (a : TurnResult). commit A a cs) (if_yes _ _ e) ∙ yes_stay th is vars f refl
            ∙ ap (as_committed w) (sym (if_yes _ _ e))
        go false true e z =
            ap (λ (a : TurnResult). commit A a cs) (if_no _ _ e ∙ if_yes _ _ z)
            ∙ leaves_is A x cs acc (self q is vars)
            ∙ ap (as_committed w) (sym (if_no _ _ e ∙ move-fits q is f ∙ if_yes _ _ z))
        go false false e z =
            ap (λ (a : TurnResult). commit A a cs) (if_no _ _ e ∙ if_no _ _ z)
            ∙ joins_is A x cs acc (self q is vars) q (place_scheduler n q p z) g l
            ∙ ap (as_committed w) (sym (if_no _ _ e ∙ move-fits q is f ∙ if_no _ _ z))

    -- 12
    pub does_is : (q : ℕ) (a : Stmt) → has_place n q ≡ true
        → commit A (does_in (thread_words_of x) (used_cells cs) q (root_s a)) cs
        ≡ as_committed w (step_do u q a)
    unfolding does_in step_do item_word
    does_is q a p = go (eqb x.place 1 && eqb q 1) (leb 24 (length items)) refl refl
      where
        is : List Item
        is = run a ∷ back x.place ∷ items

        th : ThreadWords
        th = push_item (root_s a) (push_item (1024 + x.place) (thread_words_of x))

        go : (b d : Bool) → (eqb x.place 1 && eqb q 1) ≡ b → leb 24 (length items) ≡ d
            → commit A (when eqb x.place 1 && eqb q 1 then refused_in Rule.Stuck (thread_words_of x) (used_cells cs) else when leb 24 (length items) then refused_in Rule.Stuck (thread_words_of x) (used_cells cs) else goes_in x.place th (used_cells cs) q) cs
            ≡ as_committed w (when eqb x.place 1 && eqb q 1 then refuse u 20 else go_to u q is)
        go true d e z =
            ap (λ (y : TurnResult). commit A y cs) (if_yes _ _ e) ∙ refused_20 (thread_words_of x)
            ∙ ap (as_committed w) (sym (if_yes _ _ e))
        go false true e z =
            let h = leb-true 24 (length items) z in
            ap (λ (y : TurnResult). commit A y cs) (if_no _ _ e ∙ if_yes _ _ z) ∙ refused_20 (thread_words_of x) ∙ ap (as_committed w) (sym (if_no _ _ e ∙ go_full q is (fits-items is vars (omega arith))))
        go false false e z =
            let h = leb-false 24 (length items) z in
            ap (λ (y : TurnResult). commit A y cs) (if_no _ _ e ∙ if_no _ _ z)
            ∙ ap (λ (y : ThreadWords). commit A (goes_in x.place y (used_cells cs) q) cs)
            (ap (push_item (root_s a)) (push_item_is x (back x.place) (omega arith)) ∙ push_item_is (self x.place (back x.place ∷ items) vars) (run a) (omega arith))
            ∙ goes_is q is p (omega arith) ∙ ap (as_committed w) (sym (if_no _ _ e))

    -- 15
    pub cooperates_is : commit A (cooperates_in (thread_words_of x) (used_cells cs)) cs
        ≡ as_committed w (step_cooperate u)
    unfolding cooperates_in step_cooperate
    cooperates_is = go (eqb x.place private) refl
      where
        next : StepResult
        next = when room u 1 x.place then accept u (enlist x.place (plain (suc k)) (leave u (settled u x))) else refuse u 20

        go : (b : Bool) → eqb x.place private ≡ b
            → commit A (when eqb x.place 1 then refused_in Rule.Stuck (thread_words_of x) (used_cells cs) else acted_in (Joins (record { number = x.place })) (thread_words_of x) (used_cells cs)) cs
            ≡ as_committed w (when eqb x.place private then refuse u 20 else next)
        go true e =
            ap (λ (y : TurnResult). commit A y cs) (if_yes _ _ e) ∙ refused_20 (thread_words_of x)
            ∙ ap (as_committed w) (sym (if_yes _ _ e))
        go false e =
            ap (λ (y : TurnResult). commit A y cs) (if_no _ _ e) ∙ joins_is A x cs acc x x.place
            (place_scheduler n x.place X.place e) g l ∙ ap (as_committed w) (sym (if_no _ _ e))
