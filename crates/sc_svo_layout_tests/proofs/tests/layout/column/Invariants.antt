use Rattle.std.proofs.Common.{◌≡◌, All, length}
use Rattle.sc_svo_layout_tests.proofs.tests.layout.column.Given as goal

abbrev pub invariant-loop-place : goal.invariant-loop-place
invariant-loop-place l = record {
  zero : All (λ c. c ≡ 0) l.columns.items;
  count : length l.columns.items ≡ l._place;
}
