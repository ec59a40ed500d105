use Rattle.std.proofs.Common.{◌≡◌, map, drop}
use Rattle.sc_openings.specs.OpeningsJobs.{claim_in}
use Rattle.sc_openings.specs.Shapes.{first_fault, arity_fault}
use Rattle.sc_openings.proofs.shape.check_arities.Given as goal

abbrev pub invariant-loop-claim : goal.invariant-loop-claim
invariant-loop-claim g l =
    first_fault (arity_fault l.num_variables) 0 (map (claim_in g.EF.Field.number) l.claims)
    ≡ first_fault (arity_fault l.num_variables) l.claim (drop l.claim (map (claim_in g.EF.Field.number) l.claims))
