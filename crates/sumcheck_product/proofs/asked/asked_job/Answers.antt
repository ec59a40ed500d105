use Rattle.std.proofs.Common.{◌∙◌, map, ap, refl}
use Rattle.sumcheck_replies.specs.Fields.{Fields}
use Rattle.sumcheck_product.proofs.AskedLaws.{asked-same}
use Rattle.sumcheck_product.proofs.asked.asked_job.Goals as goal

pub returns : goal.returns
returns g c = λ party.
    let k : Fields = record { ops = g.EF.Field.ops; base = g.F.Field.ops; extension = g.EF.ExtensionField.extension; embedding = g.EF.Algebra.embedding } in
    asked-same k c.args.job.now party.rules party.history (c.in_ok-image_lists.ensures ∙ ap (map (map k.embedding)) c.as_slice.ensures) c.in_ok-asked_mode.ensures refl
