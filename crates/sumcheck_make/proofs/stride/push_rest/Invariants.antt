use Rattle.std.proofs.Common.{◌≡◌, ℕ, ◌-◌, ◌≤◌, length, map, vec_capacity}
use Rattle.sumcheck_make.specs.Made.{values_behind}
use Rattle.sumcheck_make.specs.Values.{number_of}
use Rattle.sumcheck_make.proofs.stride.push_rest.Given as goal

abbrev pub invariant-loop-taken : goal.invariant-loop-taken
invariant-loop-taken l = record {
  values : (number i : ℕ) → map number_of l.fn.taken.items ≡ values_behind number i (length l.fn.taken.items)
      → map number_of l.taken.items ≡ values_behind number i (length l.taken.items);
  some : 8 ≤ length l.taken.items;
  more : length l.taken.items ≤ l.count;
  room : l.count ≤ vec_capacity l.taken;
}

abbrev pub decreases-loop-taken : goal.decreases-loop-taken
decreases-loop-taken l = l.count - length l.taken.items
