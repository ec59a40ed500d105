use Rattle.std.proofs.Common.{◌≡◌, ◌-◌, length, map, take, drop, length-drop, sym, ap, ◌∙◌}
use Rattle.std.proofs.lemmas.List.{drop-map}
use Rattle.std.proofs.Math.Seq.{take-length}
use Rattle.sc_zk_definitions.specs.Masks.{endpoint, masked_rounds, wire_of}
use Rattle.sc_zk_definitions.proofs.MaskLaws.{total-endpoints}
use Rattle.sc_commitments.specs.Matrices.{numbers_in, lists_in}
use Rattle.sc_zk_views.specs.Views.{pieces_in, rows_in}
use Rattle.sc_zk_views.proofs.ShapeLaws.{view-fits}
use Rattle.sc_zk_views.proofs.ViewLaws.{view-is}
use Rattle.sc_zk_views.proofs.assemble.assemble_masks.Goals as goal

pub returns-clause-view : goal.returns-clause-view
returns-clause-view g c =
    let o = g.EF.Field.ops in
    let N = g.EF.Field.number in
    let ss = lists_in N c.args.masks.now in
    let gs = map N c.args.gammas.now in
    let ps = pieces_in N c.args.plain.now in
    view-is o (N c.args.eps) ss gs ps (N c.total.result) (rows_in N c.new.result)
    (c.total.ensures (map (endpoint o) ss) c.before_first-sums.ensures.sums ∙ sym (total-endpoints o g.met.EF.Field.is_field.ring ss))
    (ap (rows_in N) c.new.ensures ∙ c.in_ok-wires.ensures ∙ ap (λ d. map wire_of (masked_rounds o (N c.args.eps) d ss gs ps)) c.before_first-sums.ensures.done)

pub returns-clause-ends : goal.returns-clause-ends
returns-clause-ends g c =
    let o = g.EF.Field.ops in
    let N = g.EF.Field.number in
    let masks = c.args.masks.now in
    let whole : take (length masks - 1) (drop 1 masks) ≡ drop 1 masks = ap (λ n. take n (drop 1 masks)) (sym (length-drop 1 masks)) ∙ take-length (drop 1 masks) in
    ap (map N) c.new-2.ensures ∙ c.in_ok-ends.ensures ∙ ap (λ l. map (endpoint o) (lists_in N l)) whole
    ∙ ap (map (endpoint o)) (sym (drop-map (numbers_in N) 1 masks))

pub returns-clause-fits : goal.returns-clause-fits
returns-clause-fits g c =
    let N = g.EF.Field.number in
    view-fits N g.EF.Field.ops g.met.EF.Field.is_field.ring (N c.args.eps) (N c.before_first-sums.result.done) c.args.plain.now c.args.gammas.now c.args.masks.now _ _ c.requires.fit
    (ap (rows_in N) c.new.ensures ∙ c.in_ok-wires.ensures) (returns-clause-ends g c)
