use Rattle.std.proofs.Common.{◌≡◌, ℕ, ◌^◌, length, map, take}
use Rattle.sc_definitions.specs.Tables.{entries}
use Rattle.sc_definitions.specs.Grids.{grids_of}
use Rattle.sc_definitions.specs.Combined.{combined_weight}
use Rattle.sc_table.specs.Strategy.{order_of}
use Rattle.sc_partials.specs.Sums.{sums_shown}
use Rattle.sc_svo.specs.Claims.{claims_in, true_values_of}
use Rattle.sc_svo.proofs.batch.gathered_apart.Given as goal

abbrev pub invariant-loop-claim : goal.invariant-loop-claim
invariant-loop-claim g l = record {
  grids : (n : ℕ) → length l.table ≡ 2 ^ n →
      sums_shown g.EF.Field.number l.sums.items
      ≡ grids_of (order_of l.order) g.EF.Field.ops n (entries (λ x. g.EF.Algebra.embedding (g.F.Field.number x)) l.table)
      (combined_weight g.EF.Field.ops (claims_in g.EF.Field.number (take l.claim-index l.claims))) l.l0;
  values : (n : ℕ) → length l.table ≡ 2 ^ n →
      map g.EF.Field.number l.values.items
      ≡ true_values_of g.EF.Field.ops n (entries (λ x. g.EF.Algebra.embedding (g.F.Field.number x)) l.table) (claims_in g.EF.Field.number (take l.claim-index l.claims));
}
