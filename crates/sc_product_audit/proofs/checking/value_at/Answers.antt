use Rattle.std.proofs.Common.{map, ◌∙◌, arith}
use Rattle.std.proofs.lemmas.List.{length-map, length-take-le}
use Rattle.sc_degree.specs.Products.{prover_of, tables_of, product_arity}
use Rattle.sc_degree.proofs.PlayLaws.{folded-none}
use Rattle.sc_degree.proofs.TurnLaws.{folded-next, folded-whole}
use Rattle.sc_product_audit.proofs.ProductRoundLaws.{folded-value}
use Rattle.sc_product_audit.proofs.checking.value_at.Goals as goal

pub loop-r-init : goal.loop-r-init
loop-r-init g c = folded-none _

pub fold-requires : goal.fold-requires
fold-requires g c =
    let rs = map g.EF.Field.number c.args.challenges.now in
    let size = length-map c.args.challenges.now g.EF.Field.number in
    omega (arith, c.loop-r.invariant.variables, length-take-le c.loop-r.r-index rs (omega (arith, size, c.loop-r-test.true)), size, c.requires, c.loop-r-test.true)

pub loop-r-preserved : goal.loop-r-preserved
loop-r-preserved g c =
    let e = g.EF.Field in
    let before = prover_of e.ops (tables_of e.number c.args.product) (product_arity c.args.product) in
    let after = prover_of e.ops (tables_of e.number c.fold.new.self) (product_arity c.fold.new.self) in
    folded-next e.number c.args.challenges.now c.loop-r.r-index c.r-item.result before _ after (omega arith) c.r-item.is c.loop-r.invariant c.fold.ensures

pub returns : goal.returns
returns g c =
    let e = g.EF.Field in
    let rs = map e.number c.args.challenges.now in
    let size = length-map c.args.challenges.now e.number in
    let folded = folded-whole rs c.loop-r.r-index _ _ (omega (arith, size)) c.loop-r.invariant in
    c.sum.ensures
    ∙ folded-value e.ops g.met.EF.Field.is_field.ring (tables_of e.number c.args.product) (tables_of e.number c.loop-r.product) (product_arity c.args.product) (product_arity c.loop-r.product)
    rs folded (size ∙ c.requires)
