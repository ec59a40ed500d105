use Rattle.std.proofs.Common.{◌≡◌, ℕ, ◌<◌, ◌≤◌, length, map, get_or, vec_capacity}
use Rattle.sc_merge_definitions.specs.Openings.{table_at}
use Rattle.sc_merged.specs.declared.weighted.WeightedPoly.{WeightedPoly}
use Rattle.sc_openings.specs.OpeningsJobs.{table_of_entries}
use Rattle.sc_openings.specs.FittingClaims.{claimed_by}
use Rattle.sc_openings.specs.ClaimedValues.{IsWeighted}
use Rattle.sc_openings.proofs.weights.unweighted.Given as goal

abbrev pub invariant-loop-i : goal.invariant-loop-i
invariant-loop-i g l =
    let fs = map (table_of_entries g.EF.Algebra.embedding) (claimed_by l.fitting).tables in
    record {
      made : length l.pairs.items ≡ l.i;
      room : length l.fitting.tables.now ≤ vec_capacity l.pairs;
      each : (j : ℕ) (d : WeightedPoly g.row.EF.Denot) → j < length l.pairs.items →
          IsWeighted g.EF.Field.number l.fitting.num_variables (record { table = table_at fs j; weights = λ b. 0 }) (get_or l.pairs.items j d);
    }
