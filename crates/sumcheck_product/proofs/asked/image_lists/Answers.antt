use Rattle.std.proofs.Common.{map, ◌∙◌, ap, arith}
use Rattle.std.proofs.lemmas.List.{take_all}
use Rattle.sumcheck_product.proofs.AskedLaws.{images-more}
use Rattle.sumcheck_product.proofs.asked.image_lists.Goals as goal

pub loop-list-preserved : goal.loop-list-preserved
loop-list-preserved g c =
    let E = g.EF.Algebra.embedding in
    images-more g.EF.Field.number E c.loop-list.found.items c.push.new.self.items c.in_ok-values.values c.args.lists.now c.list-item.result c.loop-list.list-index (omega arith)
    c.list-item.is c.loop-list.invariant c.in_ok-push.ensures.items (c.in_ok-values.ensures ∙ ap (map E) c.as_slice.ensures)

pub returns : goal.returns
returns g c = c.loop-list.invariant ∙ ap (map (map g.EF.Algebra.embedding)) (take_all c.loop-list.list-index c.args.lists.now (omega arith))
