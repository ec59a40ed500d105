use Rattle.std.proofs.Common.{◌≡◌, ◌≢◌, Err, [], length, map, sym, ◌∙◌, ap, subst}
use Rattle.std.specs.Prelude.{option_map}
use Rattle.std.proofs.lemmas.List.{length-map}
use Rattle.sc_definitions.specs.Channels.{VerifierState, channel, verifier_state}
use Rattle.sc_definitions.specs.Products.{values_product}
use Rattle.sc_definitions.specs.Lucky.{first_turn, product_course}
use Rattle.sc_transcript.specs.Walks.{IsWalked}
use Rattle.sc_transcript.specs.Replayed.{Replay, IsCounted}
use Rattle.sc_degree.specs.Proofs.{LeavesVerify}
use Rattle.sc_degree.specs.Turns.{product_turn}
use Rattle.sc_product_audit.specs.declared.error.ProductError.TheVariants.{NoMemory}
use Rattle.sc_product_audit.specs.ProductCases.{ProductGiven, ProductCase, to_check, true_sum}
use Rattle.sc_product_audit.specs.ProductJobs.{given_by}
use Rattle.sc_product_audit.specs.ProductReports.{ProductFigures, product_luck, figures_finding, verdict_finding, luck_found, task_result}
use Rattle.sc_product_audit.specs.ProductAudits.{GivesResult, LeavesHistory}
use Rattle.sc_product_audit.specs.ProductPlays.{case_at}
use Rattle.sc_product_audit.proofs.AnswerLaws.{replay-is, first-luck, figures-found, given-count, given-wide, given-told, given-refused, given-left, given-broken, passed_on, wide_items}
use Rattle.sc_product_audit.proofs.checking.check.Goals as goal

-- there are as many challenges as variables, as many rounds, and as many values in each of them as tables
pub end_at-requires-clause-rounds : goal.end_at-requires-clause-rounds
end_at-requires-clause-rounds g c =
    let B = g.F.Field.number in
    let N = g.EF.Field.number in
    let k : ProductCase = case_at g.EF.Field.ops N c.args.product
    (channel (g.C.Challenger.party c.args.challenger.now).rules g.EF.ExtensionField.extension g.F.Field.ops.size c.args.pow_bits) (g.C.Challenger.party c.args.challenger.now).history in
    let p : ProductGiven = given_by B N c.args.proof in
    let rs = map N c.in-Ok.challenges in
    let end : VerifierState = verifier_state (g.C.Challenger.party c.verify.new.challenger).history (N c.in-Ok.residual) in
    let same = replay-is k _ _ p.claimed p.came c.num_variables-variables.ensures c.degree-degree.ensures in
    let counted = subst IsCounted same c.in-Ok.ensures.left.1.0 in
    let walked = subst (λ (t : Replay). IsWalked t.walk rs end) same c.in-Ok.ensures.left.1.1 in
    record {
      messages = sym (length-map c.args.proof.round_polys.items (λ v. map N v.items)) ∙ counted.as_rounds;
      challenges = ap length c.as_slice.ensures ∙ sym (length-map c.in-Ok.challenges N) ∙ given-count k p rs end counted walked;
      widths = wide_items N (length k.tables) c.args.proof.round_polys.items (given-wide k p rs end walked);
    }

-- a proof that was replayed
pub returns-in_ok-product-in-Ok : goal.returns-in_ok-product-in-Ok
returns-in_ok-product-in-Ok g c =
    let B = g.F.Field.number in
    let N = g.EF.Field.number in
    let k : ProductCase = case_at g.EF.Field.ops N c.args.product
    (channel (g.C.Challenger.party c.args.challenger.now).rules g.EF.ExtensionField.extension g.F.Field.ops.size c.args.pow_bits) (g.C.Challenger.party c.args.challenger.now).history in
    let p : ProductGiven = given_by B N c.args.proof in
    let rs = map N c.in-Ok.challenges in
    let h' = (g.C.Challenger.party c.verify.new.challenger).history in
    let end : VerifierState = verifier_state h' (N c.in-Ok.residual) in
    let same = replay-is k _ _ p.claimed p.came c.num_variables-variables.ensures c.degree-degree.ensures in
    let replayed = subst (λ (t : Replay). IsWalked t.walk rs end) same c.in-Ok.ensures.left.1.1 in
    let value : N c.in_ok-product-in-Ok.product ≡ values_product k.ops k.tables rs =
    c.in_ok-product-in-Ok.ensures.product ∙ ap (λ xs. values_product k.ops k.tables (map N xs)) c.as_slice.ensures in
    let figures : ProductFigures = record {
      claimed = p.claimed;
      messages = p.came.messages;
      witnesses = p.came.witnesses;
      challenges = rs;
      residual = N c.in-Ok.residual;
      product = N c.in_ok-product-in-Ok.product;
    } in
    let luck = luck_found k.ops N c.in_ok-product-in-Ok.turn in
    let first : p.claimed ≢ true_sum k → luck ≡ product_luck k figures =
    λ other.
    first-luck k figures (option_map (product_turn N) c.in_ok-product-in-Ok.turn)
    (c.in_ok-product-in-Ok.ensures.turn (λ e. other (e ∙ c.sum-sum.ensures))
    ∙ ap (λ xs. first_turn (product_course k.ops k.tables) 0 p.claimed p.came.messages [] (map N xs)) c.as_slice.ensures) in
    let found : verdict_finding N c.verdict_on-verdict.result ≡ figures_finding k figures =
    c.verdict_on-verdict.ensures
    ∙ rw (c.index.ensures, c.index-in-Ok.ensures, c.index-in-Ok-2.ensures, c.index-in-Ok-3.ensures, c.sum-sum.ensures) (figures-found k figures luck first) in
    record {
      rules = c.in-Ok.ensures.rules;
      result = given-told k p (N c.in-Ok.residual) (N c.in_ok-product-in-Ok.product) rs h' (verdict_finding N c.verdict_on-verdict.result)
          (subst IsCounted same c.in-Ok.ensures.left.1.0) replayed value found;
      history = replayed.replays.history;
    }

-- the tables could not be bound for want of memory
pub returns-in_err-product-in-Ok-clause-history : goal.returns-in_err-product-in-Ok-clause-history
returns-in_err-product-in-Ok-clause-history g c =
    let B = g.F.Field.number in
    let N = g.EF.Field.number in
    let k : ProductCase = case_at g.EF.Field.ops N c.args.product
    (channel (g.C.Challenger.party c.args.challenger.now).rules g.EF.ExtensionField.extension g.F.Field.ops.size c.args.pow_bits) (g.C.Challenger.party c.args.challenger.now).history in
    let p : ProductGiven = given_by B N c.args.proof in
    let rs = map N c.in-Ok.challenges in
    let h' = (g.C.Challenger.party c.verify.new.challenger).history in
    let end : VerifierState = verifier_state h' (N c.in-Ok.residual) in
    let same = replay-is k _ _ p.claimed p.came c.num_variables-variables.ensures c.degree-degree.ensures in
    let replayed = subst (λ (t : Replay). IsWalked t.walk rs end) same c.in-Ok.ensures.left.1.1 in
    subst (λ a. LeavesHistory k (to_check p) a h') (sym (passed_on B N c.from_residual.result NoMemory c.from_residual.ensures.1)) (given-broken k p rs end replayed)

-- one that was refused
pub returns-in-Err : goal.returns-in-Err
returns-in-Err g c =
    let B = g.F.Field.number in
    let N = g.EF.Field.number in
    let k : ProductCase = case_at g.EF.Field.ops N c.args.product
    (channel (g.C.Challenger.party c.args.challenger.now).rules g.EF.ExtensionField.extension g.F.Field.ops.size c.args.pow_bits) (g.C.Challenger.party c.args.challenger.now).history in
    let p : ProductGiven = given_by B N c.args.proof in
    let h' = (g.C.Challenger.party c.verify.new.challenger).history in
    let same = replay-is k _ _ p.claimed p.came c.num_variables-variables.ensures c.degree-degree.ensures in
    let left = subst (λ (t : Replay). LeavesVerify N t k.history (Err c.in-Err.error) h') same c.in-Err.ensures.left in
    record {
      rules = c.in-Err.ensures.rules;
      result = subst (λ x. GivesResult (task_result k (to_check p)) (Err x)) (sym c.refusal.ensures)
          (given-refused k p N c.in-Err.error h' c.requires.degree.some left);
      history = subst (λ x. LeavesHistory k (to_check p) (Err x) h') (sym c.refusal.ensures)
          (given-left k p N c.in-Err.error h' c.requires.degree.some left);
    }
