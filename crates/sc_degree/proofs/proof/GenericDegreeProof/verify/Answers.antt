use Rattle.std.proofs.Common.{◌≡◌, vec_len, refl, ap, sym, ◌∙◌, rules}
use Rattle.std.proofs.Math.Nat.{pos_of_ne-zero}
use Rattle.std.proofs.lemmas.List.{length-map}
use Rattle.sc_definitions.specs.Channels.{channel}
use Rattle.sc_definitions.proofs.ReplayLaws.{length-given_rounds}
use Rattle.sc_transcript.specs.Replayed.{Replay, AreCounted}
use Rattle.sc_degree.specs.Shapes.{generic_shape, generic_batch}
use Rattle.sc_degree.specs.Proofs.{proof_wire, generic_replay}
use Rattle.sc_degree.proofs.ReplayLaws.{came_counted, walk_left}
use Rattle.sc_degree.proofs.proof.GenericDegreeProof.verify.Goals as goal

-- as many rounds came as the shape has
pub replay-requires-clause-counted : goal.replay-requires-clause-counted
replay-requires-clause-counted g c =
    let right = rw (c.len.ensures, c.len-2.ensures) at c.in_ok-check_counts.ensures.ok in
    record {
      as_rounds = length-given_rounds _ _ ∙ length-map _ _ ∙ sym c.args.self.now.round_polys.ok.0 ∙ right.as_rounds;
      as_witnesses = right.as_witnesses;
    }

-- one of them is rejected
pub returns-in_err-drawn-clause-left : goal.returns-in_err-drawn-clause-left
returns-in_err-drawn-clause-left g c =
    let B = g.F.Field.number in
    let N = g.EF.Field.number in
    let proof = c.args.self.now in
    let h = (g.C.Challenger.party c.args.challenger.now).history in
    let shape = generic_shape c.args.num_rounds c.args.degree c.args.pow_bits in
    let p : Replay = generic_replay g.EF.Field.ops (channel (g.C.Challenger.party c.args.challenger.now).rules g.EF.ExtensionField.extension g.F.Field.ops.size c.args.pow_bits) shape
    (N proof.claimed_sum) (proof_wire B N proof) h in
    let batch : c.batch-batch.result ≡ generic_batch shape = c.batch-batch.ensures ∙ ap generic_batch c.new-shape.ensures in
    let counts : AreCounted (generic_batch shape) (vec_len proof.round_polys) (vec_len proof.pow_witnesses) =
    rw (batch, c.len.ensures, c.len-2.ensures) at c.in_ok-check_counts.ensures.ok in
    walk_left N p h (pos_of_ne-zero c.if-degree-eq0.false) _ _ _ _ (rw (batch, c.in_ok-begin.ensures.rules, c.in_ok-begin.ensures.history, c.new-shape.ensures) refl)
    refl (came_counted B N proof (generic_batch shape) counts) (search rules) c.in_err-drawn.ensures.leaves
