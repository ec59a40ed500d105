use Rattle.std.proofs.Common.{Err, map, refl, sym, subst}
use Rattle.sc_definitions.specs.Channels.{VerifierState, channel, verifier_state}
use Rattle.sc_transcript.specs.Walks.{IsWalked}
use Rattle.sc_transcript.specs.Replayed.{Replay}
use Rattle.sc_degree.specs.Proofs.{proof_wire, LeavesVerify}
use Rattle.sc_product_audit.specs.ProductCases.{ProductCase, to_build}
use Rattle.sc_product_audit.specs.ProductReports.{task_result}
use Rattle.sc_product_audit.specs.ProductAudits.{GivesResult, LeavesHistory}
use Rattle.sc_product_audit.specs.ProductPlays.{case_at}
use Rattle.sc_product_audit.proofs.AnswerLaws.{replay-is, built-told, built-refused_answer, built-left, unbuilt-answer, unbuilt-left}
use Rattle.sc_product_audit.proofs.building.build.Goals as goal

-- the rounds could not be built
pub returns-in-Err : goal.returns-in-Err
returns-in-Err g c =
    let N = g.EF.Field.number in
    let k : ProductCase = case_at g.EF.Field.ops N c.args.product
    (channel (g.C.Challenger.party c.args.challenger.now).rules g.EF.ExtensionField.extension g.F.Field.ops.size c.args.pow_bits) (g.C.Challenger.party c.args.challenger.now).history in
    record {
      rules = refl;
      result = subst (λ x. GivesResult (task_result k to_build) (Err x)) (sym c.refusal.ensures) (unbuilt-answer k g.F.Field.number N c.in-Err.error c.in-Err.ensures);
      history = subst (λ x. LeavesHistory k to_build (Err x) k.history) (sym c.refusal.ensures) (unbuilt-left k g.F.Field.number N c.in-Err.error c.in-Err.ensures);
    }

-- what was built is replayed
pub returns-in-Ok-verify : goal.returns-in-Ok-verify
returns-in-Ok-verify g c =
    let B = g.F.Field.number in
    let N = g.EF.Field.number in
    let k : ProductCase = case_at g.EF.Field.ops N c.args.product
    (channel (g.C.Challenger.party c.args.challenger.now).rules g.EF.ExtensionField.extension g.F.Field.ops.size c.args.pow_bits) (g.C.Challenger.party c.args.challenger.now).history in
    let built = c.in-Ok.built in
    let came = proof_wire B N built.proof in
    let rs = map N c.in-Ok-verify.challenges in
    let end : VerifierState = verifier_state (g.C.Challenger.party c.verify.new.challenger).history (N c.in-Ok-verify.residual) in
    let same = replay-is k _ _ (N built.proof.claimed_sum) came c.num_variables-variables.ensures c.degree-degree.ensures in
    let replayed = subst (λ (p : Replay). IsWalked p.walk rs end) same c.in-Ok-verify.ensures.left.1.1 in
    record {
      rules = c.in-Ok-verify.ensures.rules;
      result = built-told k (N built.proof.claimed_sum) (N built.product) came c.in-Ok.ensures g.met.EF.Field.is_field c.requires.degree.some c.requires.degree.few
          (N c.in-Ok-verify.residual) rs (g.C.Challenger.party c.verify.new.challenger).history replayed;
      history = replayed.replays.history;
    }

-- a replay that is refused
pub returns-in-Err-verify : goal.returns-in-Err-verify
returns-in-Err-verify g c =
    let B = g.F.Field.number in
    let N = g.EF.Field.number in
    let k : ProductCase = case_at g.EF.Field.ops N c.args.product
    (channel (g.C.Challenger.party c.args.challenger.now).rules g.EF.ExtensionField.extension g.F.Field.ops.size c.args.pow_bits) (g.C.Challenger.party c.args.challenger.now).history in
    let built = c.in-Ok.built in
    let came = proof_wire B N built.proof in
    let h' = (g.C.Challenger.party c.verify.new.challenger).history in
    let same = replay-is k _ _ (N built.proof.claimed_sum) came c.num_variables-variables.ensures c.degree-degree.ensures in
    let left = subst (λ (p : Replay). LeavesVerify N p k.history (Err c.in-Err-verify.error) h') same c.in-Err-verify.ensures.left in
    record {
      rules = c.in-Err-verify.ensures.rules;
      result = subst (λ x. GivesResult (task_result k to_build) (Err x)) (sym c.refusal-in-Err-verify.ensures)
          (built-refused_answer k (N built.proof.claimed_sum) (N built.product) came c.in-Ok.ensures N c.in-Err-verify.error h' c.requires.degree.some left);
      history = subst (λ x. LeavesHistory k to_build (Err x) h') (sym c.refusal-in-Err-verify.ensures)
          (built-left k (N built.proof.claimed_sum) (N built.product) came c.in-Ok.ensures N c.in-Err-verify.error h' c.requires.degree.some left);
    }
