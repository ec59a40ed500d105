use Rattle.std.proofs.Common.{rules, ◌≡◌, map, Err, Ok, refl, ap, sym, subst}
use Rattle.sc_zk_transcript.specs.Shapes.{fixed_by}
use Rattle.sc_commitments.specs.Draws.{masks_from}
use Rattle.sc_zk_rounds.specs.Data.{sent_in}
use Rattle.sc_zk_rounds.specs.Heads.{recorded_shape}
use Rattle.sc_zk_rounds.specs.Verified.{told_by, LeavesMaskedReplay, claim_by}
use Rattle.sc_zk_definitions.specs.MaskedTranscripts.{head}
use Rattle.sc_zk_simulators.specs.declared.in_step.SimulatedRun.{SimulatedRun}
use Rattle.sc_zk_simulators.specs.Drafts.{draft_from}
use Rattle.sc_zk_simulators.specs.Simulations.{Answer, answer_in, Simulation, simulation_by, IsWhole}
use Rattle.sc_zk_simulators.specs.InStep.{run_in}
use Rattle.sc_zk_simulators.proofs.SendingLaws.{length-lists, wires-wide}
use Rattle.sc_zk_simulators.proofs.InStepLaws.{copied, verifier-stops, verifier-accepts}
use Rattle.sc_zk.specs.Recorded.{recorded_in, recorded_claim}
use Rattle.sc_zk.proofs.LayoutLaws.{falls-out}
use Rattle.sc_zk_simulators.proofs.DraftLaws.{none-of-draft, whole-draft}
use Rattle.sc_zk.proofs.in_step.recorded_simulation_in_step.Goals as goal

-- the simulator's refusal: the verifier has not begun
pub returns-in_err-zk_data-clause-steps : goal.returns-in_err-zk_data-clause-steps
returns-in_err-zk_data-clause-steps g c =
    let failed : c.from_residual-in_err-zk_data.result ≡ Err c.in_err-zk_data.field-0.0 = search rules in
    let o = g.EF.Field.ops in
    let N = g.EF.Field.number in
    let B = g.F.Field.number in
    let P = g.C.Challenger.party in
    let E = g.EF.ExtensionField.extension in
    let size = g.F.Field.ops.size in
    let p = P c.args.challenger.now in
    let n = c.args.folding_factor in
    let shape = recorded_shape n (g.Enc.ZkEncoding.message_length c.args.encoding.now) c.args.pow_bits in
    let d = draft_from g.Enc.ZkEncoding g.M.Mmcs o c.args.encoding.now c.args.mmcs.now n (g.G.Rng.stream c.args.rng.now) in
    let claim = recorded_claim o p E (fixed_by shape) (recorded_in c.args.verifier) in
    falls-out (answer_in {K = g.row.M-Commitment.Denot} B N) (run_in {K = g.row.M-Commitment.Denot} B N) o (simulation_by p E size shape claim d) (simulation_by (P c.in_ok-copy.copy) E size shape claim d)
    (P c.simulate_classic_unpacked.new.challenger).history c.in_err-zk_data.field-0.0 c.from_residual-in_err-zk_data.result
    (copied p (P c.in_ok-copy.copy) E size shape claim d c.in_ok-copy.ensures.rules c.in_ok-copy.ensures.history) failed (c.in_err-zk_data.ensures.leaves claim)

-- the verifier's refusal: memory ran out
pub returns-in_err-replayed-clause-steps : goal.returns-in_err-replayed-clause-steps
returns-in_err-replayed-clause-steps g c =
    let o = g.EF.Field.ops in
    let N = g.EF.Field.number in
    let B = g.F.Field.number in
    let P = g.C.Challenger.party in
    let E = g.EF.ExtensionField.extension in
    let size = g.F.Field.ops.size in
    let p = P c.args.challenger.now in
    let n = c.args.folding_factor in
    let l = g.Enc.ZkEncoding.message_length c.args.encoding.now in
    let shape = recorded_shape n l c.args.pow_bits in
    let v = recorded_in c.args.verifier in
    let made = masks_from (g.Enc.ZkEncoding.message_from c.args.encoding.now) (g.Enc.ZkEncoding.randomness_from c.args.encoding.now) n (g.G.Rng.stream c.args.rng.now) in
    let d = draft_from g.Enc.ZkEncoding g.M.Mmcs o c.args.encoding.now c.args.mmcs.now n (g.G.Rng.stream c.args.rng.now) in
    let claim = recorded_claim o p E (fixed_by shape) v in
    let a : Answer = record { sent = sent_in B N c.in_ok-zk_data.zk_data; challenges = map N c.in_ok-zk_data.field-0-2 } in
    let whole = subst (λ (s : Simulation). IsWhole s a (P c.simulate_classic_unpacked.new.challenger).history)
    (copied p (P c.in_ok-copy.copy) E size shape claim d c.in_ok-copy.ensures.rules c.in_ok-copy.ensures.history) (c.in_ok-zk_data.ensures.leaves claim) in
    let drawn = c.in_ok-zk_data.ensures.drawn in
    let h = (P c.into_sumcheck.new.challenger).history in
    let e = c.in_err-replayed.field-0.0 in
    let words = g.M.Mmcs.words_of c.args.mmcs.now c.in_ok-zk_data.mask_commitment in
    verifier-stops g.F.Field.ops o p E size shape claim d a (P c.simulate_classic_unpacked.new.challenger).history (sym (length-lists _ n made.left)) whole
    words a.sent.mu a.sent.wire (ap (g.M.Mmcs.words_of c.args.mmcs.now) drawn.commitment) drawn.mu refl (told_by N) (run_in B N) e h c.from_residual-in_err-replayed.result c.requires.fit
    (wires-wide o.size l n made.left) (search rules)
    (subst (λ k. let s = recorded_shape n k c.args.pow_bits in LeavesMaskedReplay (told_by N) (claim_by p g.F.Field.ops o E s (head (recorded_claim o p E (fixed_by s) v) words a.sent.mu) a.sent.wire) (Err e) h)
    c.message_len.ensures c.in_err-replayed.ensures.left)

-- both are in step
pub returns-clause-steps : goal.returns-clause-steps
returns-clause-steps g c =
    let o = g.EF.Field.ops in
    let N = g.EF.Field.number in
    let B = g.F.Field.number in
    let P = g.C.Challenger.party in
    let E = g.EF.ExtensionField.extension in
    let size = g.F.Field.ops.size in
    let p = P c.args.challenger.now in
    let n = c.args.folding_factor in
    let l = g.Enc.ZkEncoding.message_length c.args.encoding.now in
    let shape = recorded_shape n l c.args.pow_bits in
    let v = recorded_in c.args.verifier in
    let made = masks_from (g.Enc.ZkEncoding.message_from c.args.encoding.now) (g.Enc.ZkEncoding.randomness_from c.args.encoding.now) n (g.G.Rng.stream c.args.rng.now) in
    let d = draft_from g.Enc.ZkEncoding g.M.Mmcs o c.args.encoding.now c.args.mmcs.now n (g.G.Rng.stream c.args.rng.now) in
    let claim = recorded_claim o p E (fixed_by shape) v in
    let a : Answer = record { sent = sent_in B N c.in_ok-zk_data.zk_data; challenges = map N c.in_ok-zk_data.field-0-2 } in
    let whole = subst (λ (s : Simulation). IsWhole s a (P c.simulate_classic_unpacked.new.challenger).history)
    (copied p (P c.in_ok-copy.copy) E size shape claim d c.in_ok-copy.ensures.rules c.in_ok-copy.ensures.history) (c.in_ok-zk_data.ensures.leaves claim) in
    let drawn = c.in_ok-zk_data.ensures.drawn in
    let h = (P c.into_sumcheck.new.challenger).history in
    let words = g.M.Mmcs.words_of c.args.mmcs.now c.in_ok-zk_data.mask_commitment in
    let x = c.in_ok-replayed.replayed in
    let run : SimulatedRun g.row.F.Denot g.row.EF.Denot g.row.M-Commitment.Denot = record {
      zk_data = c.in_ok-zk_data.zk_data;
      mask_commitment = c.in_ok-zk_data.mask_commitment;
      randomness = x.randomness;
      eps = x.eps;
      claimed_residual = x.claimed_residual;
    } in
    verifier-accepts g.F.Field.ops o p E size shape claim d a (P c.simulate_classic_unpacked.new.challenger).history (sym (length-lists _ n made.left)) whole
    words a.sent.mu a.sent.wire (ap (g.M.Mmcs.words_of c.args.mmcs.now) drawn.commitment) drawn.mu refl (told_by N) x h (run_in B N run) refl refl refl refl
    (subst (λ k. let s = recorded_shape n k c.args.pow_bits in LeavesMaskedReplay (told_by N) (claim_by p g.F.Field.ops o E s (head (recorded_claim o p E (fixed_by s) v) words a.sent.mu) a.sent.wire) (Ok x) h)
    c.message_len.ensures c.in_ok-replayed.ensures.left)

-- nothing was drawn
pub returns-in_err-copy-clause-refused : goal.returns-in_err-copy-clause-refused
returns-in_err-copy-clause-refused g c =
    none-of-draft g.Enc.ZkEncoding g.EF.Field.ops.size c.args.encoding.now c.args.folding_factor (g.G.Rng.stream c.args.rng.now) c.from_residual.result

-- all was
pub returns-in_err-replayed-clause-refused : goal.returns-in_err-replayed-clause-refused
returns-in_err-replayed-clause-refused g c =
    whole-draft g.Enc.ZkEncoding g.EF.Field.ops.size c.args.encoding.now c.args.folding_factor (g.G.Rng.stream c.args.rng.now) c.from_residual-in_err-replayed.result _
    c.in_ok-zk_data.ensures.drawn.left
