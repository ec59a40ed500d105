use Rattle.std.proofs.Common.{◌≡◌, map, sym, ap, ◌∙◌}
use Rattle.std.proofs.lemmas.List.{length-map}
use Rattle.sc_definitions.specs.Ring.{plus}
use Rattle.sc_zk_definitions.specs.Masks.{endpoint, sum_of}
use Rattle.sc_commitments.specs.Matrices.{numbers_in, lists_in}
use Rattle.sc_zk_views.proofs.SumLaws.{base-same}
use Rattle.sc_zk_views.proofs.ViewLaws.{ends-all}
use Rattle.sc_zk_views.proofs.assemble.before_first.Goals as goal

pub returns-clause-sums : goal.returns-clause-sums
returns-clause-sums g c =
    let o = g.EF.Field.ops in
    let N = g.EF.Field.number in
    let masks = c.args.masks.now in
    let left = map (endpoint o) (lists_in N masks) in
    let all : N c.add-all.result ≡ sum_of o left =
    ends-all o N masks c.index-masks-0.result (N c.endpoint_of.result) (N c.sum.result) (N c.add-all.result) c.requires.some c.index-masks-0.is
    (c.endpoint_of.ensures ∙ ap (λ l. endpoint o (map N l)) c.deref.ensures.value) (c.sum.ensures ∙ ap (sum_of o) c.requires.ends) c.add-all.ensures in
    base-same o N (N c.TWO.result) (plus o 1 1) c.new.result left (ap N c.TWO.ensures ∙ g.met.EF.Field.two_is)
    (c.new.ensures.sums left (sym (length-map (lists_in N masks) (endpoint o) ∙ length-map masks (numbers_in N))) all)
