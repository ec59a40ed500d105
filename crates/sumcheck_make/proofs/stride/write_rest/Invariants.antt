use Rattle.std.proofs.Common.{◌≡◌, ℕ, length, map, take}
use Rattle.sumcheck_make.specs.Made.{values_behind}
use Rattle.sumcheck_make.specs.Values.{number_of}
use Rattle.sumcheck_make.proofs.stride.write_rest.Given as goal

abbrev pub invariant-loop-k : goal.invariant-loop-k
invariant-loop-k l = record {
  values : (number i : ℕ) → map number_of (take l.from l.fn.rows) ≡ values_behind number i l.from → map number_of (take l.k l.rows) ≡ values_behind number i l.k;
  size : length l.rows ≡ length l.fn.rows;
}
