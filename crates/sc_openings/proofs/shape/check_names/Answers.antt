use Rattle.std.proofs.Common.{Some, sym, ◌∙◌, ap, arith}
use Rattle.sc_openings.specs.declared.claim.OpeningClaim.{OpeningClaim}
use Rattle.sc_openings.specs.OpeningsJobs.{claim_in}
use Rattle.sc_openings.specs.Shapes.{name_fault}
use Rattle.sc_openings.specs.declared.error.MergeError.TheVariants.{ClaimTable}
use Rattle.sc_openings.proofs.ShapeLaws.{fault-next, fault-here, fault-end, name-right, name-wrong}
use Rattle.sc_openings.proofs.shape.check_names.Goals as goal

-- a claim on no table
pub returns-then-table-tables : goal.returns-then-table-tables
returns-then-table-tables g c =
    let of = claim_in g.EF.Field.number in
    let i = c.loop-claim.claim in
    let x = c.index-claims-claim.result in
    let wrong = name-wrong c.args.tables i (of x) (omega (arith, ap (λ (t : OpeningClaim g.row.EF.Denot). t.table) c.index-claims-claim.is, c.if-table-tables.true)) in
    ap (λ (t : OpeningClaim g.row.EF.Denot). Some (ClaimTable i t.table)) (sym c.index-claims-claim.is)
    ∙ sym (c.loop-claim.invariant ∙ fault-here (name_fault c.args.tables) of i c.args.claims.now x (ClaimTable i x.table) c.loop-claim-test.true c.index-claims-claim.is wrong)

pub loop-claim-preserved : goal.loop-claim-preserved
loop-claim-preserved g c =
    let of = claim_in g.EF.Field.number in
    let i = c.loop-claim.claim in
    let x = c.index-claims-claim.result in
    let right = name-right c.args.tables i (of x) (omega (arith, ap (λ (t : OpeningClaim g.row.EF.Denot). t.table) c.index-claims-claim.is, c.if-table-tables.false)) in
    c.loop-claim.invariant ∙ fault-next (name_fault c.args.tables) of i c.args.claims.now x c.loop-claim-test.true c.index-claims-claim.is right

pub returns : goal.returns
returns g c =
    sym (c.loop-claim.invariant ∙ fault-end (name_fault c.args.tables) (claim_in g.EF.Field.number) c.loop-claim.claim c.args.claims.now (omega (arith, c.loop-claim-test.false)))
