use Rattle.std.proofs.Common.{◌≡◌, length, map, take}
use Rattle.sc_definitions.specs.Ring.{power}
use Rattle.sc_merge_definitions.specs.Openings.{table_at, merging_weights}
use Rattle.sc_openings.specs.OpeningsJobs.{claim_in, table_of_entries}
use Rattle.sc_openings.specs.FittingClaims.{claimed_by}
use Rattle.sc_openings.specs.ClaimedValues.{AreWeighted}
use Rattle.sc_openings.proofs.weights.merged_tables.Given as goal

abbrev pub invariant-loop-i : goal.invariant-loop-i
invariant-loop-i g l =
    let e = g.EF.Field in
    let fs = map (table_of_entries g.EF.Algebra.embedding) (claimed_by l.fitting).tables in
    record {
      power : e.number l.power ≡ power e.ops (e.number l.challenge) l.i;
      pairs : AreWeighted e.number l.fitting.num_variables (length l.fitting.tables.now)
          (λ j. record { table = table_at fs j; weights = merging_weights e.ops (e.number l.challenge) (take l.i (map (claim_in e.number) l.fitting.claims.now)) j }) l.pairs.items;
    }
