use Rattle.std.proofs.Common.{Some, sym, ◌∙◌, ap, subst}
use Rattle.sc_zk_definitions.specs.declared.prelude.ZkPrelude.TheVariants.{InheritedClaim}
use Rattle.sc_zk_transcript.specs.declared.shape.ZkSumcheckShape.{ZkSumcheckShape}
use Rattle.sc_zk_transcript.specs.Shapes.{IsFit, IsUnfit, shape_made}
use Rattle.sc_zk_rounds.proofs.HalfLaws.{two-kept}
use Rattle.sc_zk_audit.proofs.RefusalLaws.{form-none, form-some}
use Rattle.sc_zk_audit.proofs.shape.check_form.Goals as goal

-- two is not zero above a field in which it is not
pub returns-in-Ok-clause-refusal : goal.returns-in-Ok-clause-refusal
returns-in-Ok-clause-refusal g c =
    let a = g.F.Field.ops in
    let o = g.EF.Field.ops in
    let fit : IsFit a (shape_made InheritedClaim c.args.rounds c.args.mask_len c.args.pow_bits) = subst (IsFit a) c.new_inherited-shape.ensures c.in-Ok.ensures.fit in
    form-none o c.args.mask_len c.args.rounds (two-kept a o g.EF.Algebra.embedding g.met.F.Field.is_field g.met.EF.Field.is_field g.met.EF.Algebra.embeds fit.odd) fit.long fit.some

pub returns-in-Err-clause-refusal : goal.returns-in-Err-clause-refusal
returns-in-Err-clause-refusal g c =
    let a = g.F.Field.ops in
    let o = g.EF.Field.ops in
    let s : ZkSumcheckShape = shape_made InheritedClaim c.args.rounds c.args.mask_len c.args.pow_bits in
    let unfit : IsUnfit a s c.in-Err.error = subst (λ (t : ZkSumcheckShape). IsUnfit a t c.in-Err.error) c.new_inherited-shape.ensures c.in-Err.ensures.unfit in
    form-some a o g.EF.Algebra.embedding g.met.F.Field.is_field g.met.EF.Field.is_field g.met.EF.Algebra.embeds s c.in-Err.error unfit ∙ ap Some (sym c.run_refusal.ensures)
