use Rattle.std.proofs.Common.{◌≡◌, ◌≤◌, length, map, take, vec_capacity}
use Rattle.sc_challenger.specs.Parties.{Party}
use Rattle.sc_merge_definitions.specs.Openings.{true_claim_value}
use Rattle.sc_openings.specs.OpeningsJobs.{claim_in}
use Rattle.sc_openings.specs.FittingClaims.{case_by}
use Rattle.sc_openings.proofs.values.values_of.Given as goal

abbrev pub invariant-loop-i : goal.invariant-loop-i
invariant-loop-i g l =
    let N = g.EF.Field.number in
    record {
      made : length l.claimed.items ≡ l.i;
      made_too : length l.truths.items ≡ l.i;
      room : length l.fitting.claims.now ≤ vec_capacity l.claimed;
      room_too : length l.fitting.claims.now ≤ vec_capacity l.truths;
      claimed : map N l.claimed.items ≡ take l.i (map (λ x. N x.value) l.fitting.claims.now);
      truths : (at : Party) → map N l.truths.items ≡ take l.i (map (λ x. true_claim_value (case_by l.fitting at) (claim_in N x)) l.fitting.claims.now);
    }
