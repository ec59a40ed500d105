use Rattle.std.proofs.Common.{length, map, Some, sym, ◌∙◌, ap, arith}
use Rattle.std.proofs.lemmas.List.{length-map}
use Rattle.sc_openings.specs.declared.claim.OpeningClaim.{OpeningClaim}
use Rattle.sc_openings.specs.OpeningsJobs.{claim_in}
use Rattle.sc_openings.specs.Shapes.{arity_fault}
use Rattle.sc_openings.specs.declared.error.MergeError.TheVariants.{ClaimArity}
use Rattle.sc_openings.proofs.ShapeLaws.{fault-next, fault-here, fault-end, arity-right, arity-wrong, arity-kind}
use Rattle.sc_openings.proofs.shape.check_arities.Goals as goal

-- a point of another number of coordinates
pub returns-then-actual-num_variables : goal.returns-then-actual-num_variables
returns-then-actual-num_variables g c =
    let N = g.EF.Field.number in
    let of = claim_in N in
    let n = c.args.num_variables in
    let i = c.loop-claim.claim in
    let x = c.index-claims-claim.result in
    let arity = arity-kind n x.successor (map N x.point) ∙ length-map x.point N ∙ ap (λ (t : OpeningClaim g.row.EF.Denot). length t.point) c.index-claims-claim.is ∙ sym c.num_variables-actual.ensures in
    let wrong = arity-wrong n i (of x) (λ e. c.if-actual-num_variables.true (sym arity ∙ e)) ∙ ap (λ k. Some (ClaimArity i n k)) arity in
    sym (c.loop-claim.invariant ∙ fault-here (arity_fault n) of i c.args.claims.now x (ClaimArity i n c.num_variables-actual.result) c.loop-claim-test.true c.index-claims-claim.is wrong)

pub loop-claim-preserved : goal.loop-claim-preserved
loop-claim-preserved g c =
    let N = g.EF.Field.number in
    let of = claim_in N in
    let n = c.args.num_variables in
    let i = c.loop-claim.claim in
    let x = c.index-claims-claim.result in
    let arity = arity-kind n x.successor (map N x.point) ∙ length-map x.point N ∙ ap (λ (t : OpeningClaim g.row.EF.Denot). length t.point) c.index-claims-claim.is ∙ sym c.num_variables-actual.ensures in
    let right = arity-right n i (of x) (arity ∙ c.if-actual-num_variables.false) in
    c.loop-claim.invariant ∙ fault-next (arity_fault n) of i c.args.claims.now x c.loop-claim-test.true c.index-claims-claim.is right

pub returns : goal.returns
returns g c =
    sym (c.loop-claim.invariant ∙ fault-end (arity_fault c.args.num_variables) (claim_in g.EF.Field.number) c.loop-claim.claim c.args.claims.now (omega (arith, c.loop-claim-test.false)))
