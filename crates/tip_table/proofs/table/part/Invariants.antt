use Rattle.std.proofs.Common.{◌≡◌, ◌≢◌, ℕ, ◌+◌, ◌-◌, ◌≤◌, ◌++◌, length, vec_len, vec_capacity}
use Rattle.tip_table.specs.Entries.{AreApart, AreThere, items_in, placed_at}
use Rattle.tip_table.specs.Kept.{of}
use Rattle.tip_table.proofs.table.part.Given as goal

-- what was taken has left or has moved, and there is room for what is still to come
abbrev pub invariant-loop-key : goal.invariant-loop-key
invariant-loop-key g l =
    let rest = placed_at l.slots l.key-iterator.rest.items in
    let all = placed_at l.fn.slots l.fn.order.items in
    record {
      there : AreThere l.slots l.key-iterator.rest.items;
      apart : AreApart l.key-iterator.rest.items;
      left : l.left.items ++ items_in rest l.realm ≡ l.fn.left.items ++ items_in all l.realm;
      own : of l.spare l.realm ≡ of l.fn.spare l.realm;
      others : (other : ℕ) → other ≢ l.realm → of l.spare other ++ items_in rest other ≡ of l.fn.spare other ++ items_in all other;
      room : length rest ≤ l.spare.free;
      space : length (items_in rest l.realm) ≤ vec_capacity l.left - vec_len l.left;
      count : l.spare.free + (length all + length (items_in rest l.realm)) ≡ l.fn.spare.free + (length (items_in all l.realm) + length rest);
    }
