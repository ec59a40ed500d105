use Rattle.std.proofs.Common.{map, ap, ◌∙◌}
use Rattle.std.proofs.lemmas.Result.{IfOk-weaker}
use Rattle.sc_zk_views.specs.Views.{pieces_in}
use Rattle.sumcheck_explain.specs.Explains.{pieces_given}
use Rattle.sumcheck_explain.proofs.AskedLaws.{view-fits, found-own}
use Rattle.sumcheck_explain.proofs.asked.masks_of.Goals as goal

pub explain_masks-requires-clause-fit : goal.explain_masks-requires-clause-fit
explain_masks-requires-clause-fit g c =
    let number = g.EF.Field.number in
    let plain = ap (pieces_in number) c.deref.ensures.value ∙ c.in_ok-plain.ensures ∙ ap pieces_given c.as_slice.ensures in
    let challenges = ap (map number) c.deref-2.ensures.value ∙ c.in_ok-challenges.ensures ∙ c.as_slice-2.ensures in
    let wires = c.in_ok-wires.ensures ∙ c.as_slice-3.ensures in
    let ends = ap (map number) c.deref-3.ensures.value ∙ c.in_ok-endpoints.ensures ∙ c.as_slice-4.ensures in
    view-fits number _ _ _ _ c.args.job.now plain challenges wires ends g.EF.Field.ops.size c.requires.fits

-- the masks that are found are the ones that explain the job
pub returns : goal.returns
returns g c =
    let number = g.EF.Field.number in
    let plain = ap (pieces_in number) c.deref.ensures.value ∙ c.in_ok-plain.ensures ∙ ap pieces_given c.as_slice.ensures in
    let challenges = ap (map number) c.deref-2.ensures.value ∙ c.in_ok-challenges.ensures ∙ c.as_slice-2.ensures in
    let wires = c.in_ok-wires.ensures ∙ c.as_slice-3.ensures in
    let ends = ap (map number) c.deref-3.ensures.value ∙ c.in_ok-endpoints.ensures ∙ c.as_slice-4.ensures in
    IfOk-weaker c.explain_masks.result _ _ (λ v only.
    found-own number _ _ _ _ c.args.job.now plain challenges wires ends g.EF.Field.ops g.met.EF.Field.is_field c.requires.two c.requires.fits
    _ _ c.element-eps.ensures c.element.ensures only) c.explain_masks.ensures.only
