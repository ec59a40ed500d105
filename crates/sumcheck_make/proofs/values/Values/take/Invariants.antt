use Rattle.std.proofs.Common.{◌≡◌, ℕ, ◌+◌, length, map, vec_capacity}
use Rattle.sumcheck_make.specs.Made.{value_at, values_behind}
use Rattle.sumcheck_make.specs.Values.{number_of}
use Rattle.sumcheck_make.proofs.values.Values.take.Given as goal

abbrev pub invariant-loop-i : goal.invariant-loop-i
invariant-loop-i l = record {
  values : (number i : ℕ) → l.initial.self.last ≡ value_at number i →
      (map number_of l.taken.items ≡ values_behind number i l._i) × (l.self.last ≡ value_at number (i + l._i));
  count : length l.taken.items ≡ l._i;
  room : vec_capacity l.taken ≡ l.count;
}
