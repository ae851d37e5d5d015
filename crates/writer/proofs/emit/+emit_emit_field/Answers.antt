-- `emit` and `emit_field` meet their contracts: one proof for the cycle. Assumes nothing.
use mathlib.Core.Path.{refl}
use borrow.Author.Rules.{rules}
use Rattle.writer.proofs.TreeLines.{field_falls, tree_falls, some_levels}
use Rattle.writer.proofs.TreeLines.{a_tree, b_tree, c_tree, a_room, b_room, c_room}
use Rattle.writer.proofs.TreeLines.{line_room, line_fits, tree_written, tree_next}
use Rattle.writer.proofs.TreeLines.{child_tree, child_room, child_next, child_written}
use Rattle.writer.proofs.TreeLines.{child_placed, kept_written, kept_placed}
use Rattle.writer.proofs.emit.+emit_emit_field.Goals as goal

pub emit-overflow_sub-below : goal.emit-overflow_sub-below
emit-overflow_sub-below t c = search (some_levels, rules)

pub emit-emit_field-a-requires : goal.emit-emit_field-a-requires
emit-emit_field-a-requires t c = (
  field_falls _ _ c.decreases (some_levels _ _ _ c.requires.0),
  (
    a_tree _ _ _ _ _ c.requires.0 c.requires.1 _ c.frame_of_word-f.ensures _
        c.child_fields-holds.ensures,
    a_room _ _ _ _ _ c.requires.0 c.requires.1 _ c.frame_of_word-f.ensures _
        c.child_fields-holds.ensures,
  ),
)

pub emit-emit_field-b-requires : goal.emit-emit_field-b-requires
emit-emit_field-b-requires t c = (
  field_falls _ _ c.decreases (some_levels _ _ _ c.requires.0),
  (
    b_tree _ _ _ _ _ c.requires.0 c.requires.1 _ c.frame_of_word-f.ensures _
        c.child_fields-holds.ensures,
    b_room _ _ _ _ _ c.requires.0 c.requires.1 _ c.frame_of_word-f.ensures _
        c.child_fields-holds.ensures
        _ c.emit_field-a.ensures.placed _ c.emit_field-a.ensures.written,
  ),
)

pub emit-emit_field-c-requires : goal.emit-emit_field-c-requires
emit-emit_field-c-requires t c = (
  field_falls _ _ c.decreases (some_levels _ _ _ c.requires.0),
  (
    c_tree _ _ _ _ _ c.requires.0 c.requires.1 _ c.frame_of_word-f.ensures _
        c.child_fields-holds.ensures,
    c_room _ _ _ _ _ c.requires.0 c.requires.1 _ c.frame_of_word-f.ensures _
        c.child_fields-holds.ensures
        _ c.emit_field-a.ensures.placed _ c.emit_field-a.ensures.written
        _ c.emit_field-b.ensures.placed _ c.emit_field-b.ensures.written,
  ),
)

pub emit-put_line-requires : goal.emit-put_line-requires
emit-put_line-requires t c =
    line_room _ _ _ _ _ c.requires.0 c.requires.1 _ c.frame_of_word-f.ensures _
    c.child_fields-holds.ensures
    _ c.emit_field-a.ensures.placed _ c.emit_field-a.ensures.written
    _ c.emit_field-b.ensures.placed _ c.emit_field-b.ensures.written
    _ c.emit_field-c.ensures.placed _ c.emit_field-c.ensures.written

pub emit-overflow_add-result : goal.emit-overflow_add-result
emit-overflow_add-result t c =
    record {
      fits =
          line_fits _ _ _ _ _ c.requires.0 c.requires.1 _ c.frame_of_word-f.ensures _
          c.child_fields-holds.ensures
          _ c.emit_field-a.ensures.placed _ c.emit_field-a.ensures.written
          _ c.emit_field-b.ensures.placed _ c.emit_field-b.ensures.written
          _ c.emit_field-c.ensures.placed _ c.emit_field-c.ensures.written;
    }

pub emit-returns : goal.emit-returns
emit-returns t c =
    record {
      written = tree_written _ _ _ _ _ c.requires.0 c.requires.1 _ c.frame_of_word-f.ensures _
          c.child_fields-holds.ensures
          _ c.emit_field-a.ensures.placed _ c.emit_field-a.ensures.written
          _ c.emit_field-b.ensures.placed _ c.emit_field-b.ensures.written
          _ c.emit_field-c.ensures.placed _ c.emit_field-c.ensures.written
          _ _ _ refl c.new_line.ensures
          c.put_line.ensures;
      next = tree_next _ _ _ _ _ c.requires.0 c.requires.1 _ c.frame_of_word-f.ensures _
          c.child_fields-holds.ensures
          _ c.emit_field-a.ensures.placed _ c.emit_field-a.ensures.written
          _ c.emit_field-b.ensures.placed _ c.emit_field-b.ensures.written
          _ c.emit_field-c.ensures.placed _ c.emit_field-c.ensures.written;
    }

pub emit_field-emit-next-requires : goal.emit_field-emit-next-requires
emit_field-emit-next-requires t c = (
  tree_falls _ _ c.decreases,
  (
    child_tree _ _ _ _ _ c.names_child.ensures c.if-names_child.true _ c.from.ensures c.requires.0,
    child_room _ _ _ _ _ c.names_child.ensures c.if-names_child.true _ c.from.ensures _ _ c.requires.1,
  ),
)

pub emit_field-overflow_sub-result : goal.emit_field-overflow_sub-result
emit_field-overflow_sub-result t c =
    (child_next _ _ _ _ _ c.names_child.ensures c.if-names_child.true _ c.from.ensures _ _ _
    c.emit-next.ensures.next c.requires.1).0

pub emit_field-overflow_cast-result : goal.emit_field-overflow_cast-result
emit_field-overflow_cast-result t c =
    record {
      fits =
          (child_next _ _ _ _ _ c.names_child.ensures c.if-names_child.true _ c.from.ensures _ _ _
          c.emit-next.ensures.next c.requires.1).1;
    }

pub emit_field-returns-then-names_child : goal.emit_field-returns-then-names_child
emit_field-returns-then-names_child t c =
    record {
      written = child_written _ _ _ _ _ c.names_child.ensures c.if-names_child.true _ c.from.ensures
          _ _ _ c.emit-next.ensures.written;
      placed = child_placed _ _ _ _ _ c.names_child.ensures c.if-names_child.true _ c.from.ensures
          _ _ c.emit-next.ensures.next;
    }

pub emit_field-returns-else-names_child : goal.emit_field-returns-else-names_child
emit_field-returns-else-names_child t c =
    record { written = kept_written _ _ _ _ _ c.names_child.ensures c.if-names_child.false _ _; placed = kept_placed _ _ _ _ _ c.names_child.ensures c.if-names_child.false _ }
