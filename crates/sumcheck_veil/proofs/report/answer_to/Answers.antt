use Rattle.std.proofs.Common.{◌∙◌, sym, ap}
use Rattle.std.proofs.lemmas.Result.{IfOk-weaker}
use Rattle.sc_zk_rounds.specs.Handoffs.{AskedMasks}
use Rattle.sc_zk_audit.specs.MaskedJobs.{masked_asked}
use Rattle.sumcheck_replies.specs.Fields.{Fields}
use Rattle.sumcheck_veil.specs.VeilMasks.{code_lengths, mask_length}
use Rattle.sumcheck_veil.specs.Veils.{veil_reply}
use Rattle.sumcheck_veil.proofs.AskedLaws.{judged, sealed-same, due-refusal}
use Rattle.sumcheck_veil.proofs.report.answer_to.Goals as goal

-- a report
pub returns-in-Ok : goal.returns-in-Ok
returns-in-Ok g c =
    let o = g.EF.Field.ops in
    let k : Fields = record { ops = o; base = g.F.Field.ops; extension = g.EF.ExtensionField.extension; embedding = g.EF.Algebra.embedding } in
    let party = g.C.Challenger.party c.args.challenger.now in
    let l = mask_length c.args.job.veil.masks in
    let lengths = c.code_of-code.ensures ∙ ap (code_lengths o.size) c.length_of.ensures in
    let asks = ap (λ (m : AskedMasks). masked_asked c.in_ok-asked.asked m party) (sealed-same o l _ _ _ lengths) ∙ c.in_ok-asked.ensures.asks party in
    let is = judged k c.args.job _ _ _ asks in
    IfOk-weaker c.show_veil.result _ _ (λ a e. e ∙ sym (ap veil_reply c.in-Ok.ensures.answer) ∙ is) c.show_veil.ensures

-- a refusal
pub returns-in-Err : goal.returns-in-Err
returns-in-Err g c =
    let o = g.EF.Field.ops in
    let k : Fields = record { ops = o; base = g.F.Field.ops; extension = g.EF.ExtensionField.extension; embedding = g.EF.Algebra.embedding } in
    let party = g.C.Challenger.party c.args.challenger.now in
    let l = mask_length c.args.job.veil.masks in
    let lengths = c.code_of-code.ensures ∙ ap (code_lengths o.size) c.length_of.ensures in
    let asks = ap (λ (m : AskedMasks). masked_asked c.in_ok-asked.asked m party) (sealed-same o l _ _ _ lengths) ∙ c.in_ok-asked.ensures.asks party in
    let is = judged k c.args.job _ _ _ asks in
    IfOk-weaker c.refuse_veil.result _ _ (λ a e. e.0 ∙ sym (ap veil_reply (due-refusal _ _ c.in-Err.ensures.answer e.1)) ∙ is) c.refuse_veil.ensures
