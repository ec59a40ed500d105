use Rattle.std.proofs.Common.{◌∙◌, sym, ap}
use Rattle.std.proofs.lemmas.Result.{IfOk-weaker}
use Rattle.sc_product_audit.proofs.ResultLaws.{due-refusal}
use Rattle.sumcheck_replies.specs.Fields.{Fields}
use Rattle.sumcheck_product.specs.Products.{result_reply}
use Rattle.sumcheck_product.proofs.AskedLaws.{judged}
use Rattle.sumcheck_product.proofs.report.answer_to.Goals as goal

pub returns-in-Ok : goal.returns-in-Ok
returns-in-Ok g c =
    let k : Fields = record { ops = g.EF.Field.ops; base = g.F.Field.ops; extension = g.EF.ExtensionField.extension; embedding = g.EF.Algebra.embedding } in
    let is = judged k c.args.job _ _ _ (c.in_ok-asked.ensures (g.C.Challenger.party c.args.challenger.now)) in
    IfOk-weaker c.show_product.result _ _ (λ a e. e ∙ sym (ap result_reply c.in-Ok.ensures.result) ∙ is) c.show_product.ensures

pub returns-in-Err : goal.returns-in-Err
returns-in-Err g c =
    let k : Fields = record { ops = g.EF.Field.ops; base = g.F.Field.ops; extension = g.EF.ExtensionField.extension; embedding = g.EF.Algebra.embedding } in
    let is = judged k c.args.job _ _ _ (c.in_ok-asked.ensures (g.C.Challenger.party c.args.challenger.now)) in
    IfOk-weaker c.refuse_product.result _ _ (λ a e. e.0 ∙ sym (ap result_reply (due-refusal _ _ c.in-Err.ensures.result e.1)) ∙ is) c.refuse_product.ensures
