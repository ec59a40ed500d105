use Rattle.std.proofs.Common.{◌+◌, length, map, refl, ap, sym, ◌∙◌}
use Rattle.std.proofs.Math.Nat.{le_antisymm}
use Rattle.std.proofs.lemmas.List.{length-map}
use Rattle.sc_transcript.specs.declared.rounds.BatchShape.{BatchShape}
use Rattle.sc_definitions.specs.Channels.{channel, verifier_state}
use Rattle.sc_transcript.specs.Walks.{Walk, walk}
use Rattle.sc_transcript.proofs.ReplayedLaws.{same_channel, room_left}
use Rattle.sc_transcript.proofs.WalkLaws.{walked_none, walked_more, walked_all, walk_rejected}
use Rattle.sc_transcript.proofs.replay.replay.Goals as goal

pub rounds-init : goal.rounds-init
rounds-init g c = record {
  rules = refl;
  walked = walked_none (walk (g.R.CameRounds.next c.args.came.now) (channel (g.C.Challenger.party c.args.challenger.now).rules g.EF.ExtensionField.extension g.F.Field.ops.size c.args.shape.pow_bits) c.args.shape.width
      (verifier_state (g.C.Challenger.party c.args.challenger.now).history (g.EF.Field.number c.args.claim.now)) (g.R.CameRounds.rounds c.args.came.now)) _ (ap (map g.EF.Field.number) c.requires.empty);
  shape = c.new-rounds.ensures.shape;
  played = c.new-rounds.ensures.played;
  len = c.args.challenges.ok.0 ∙ ap length c.requires.empty;
  room = c.requires.room;
}

pub round_at-values-requires : goal.round_at-values-requires
round_at-values-requires g c = rw c.requires.counted.as_rounds c.rounds-test.true

pub take-requires : goal.take-requires
take-requires g c =
    let inv = c.rounds.invariant in
    record { difficulty = rw (inv.shape, inv.rules) c.requires.tested; left = rw (inv.played, inv.shape) c.rounds-test.true }

-- a round that is taken has as many values as it is to send
pub next_claim-requires : goal.next_claim-requires
next_claim-requires g c = sym (length-map _ _) ∙ c.in-Ok.ensures.0.width ∙ ap (λ (s : BatchShape). s.width) c.rounds.invariant.shape ∙ sym c.requires.wide

pub push_reserved-requires : goal.push_reserved-requires
push_reserved-requires g c = room_left _ _ _ _ c.rounds.invariant.len c.rounds-test.true c.rounds.invariant.room

pub rounds-preserved : goal.rounds-preserved
rounds-preserved g c =
    let inv = c.rounds.invariant in
    let told = c.in-Ok.ensures.0 in
    let p : Walk = walk (g.R.CameRounds.next c.args.came.now) (channel (g.C.Challenger.party c.args.challenger.now).rules g.EF.ExtensionField.extension g.F.Field.ops.size c.args.shape.pow_bits) c.args.shape.width
    (verifier_state (g.C.Challenger.party c.args.challenger.now).history (g.EF.Field.number c.args.claim.now)) (g.R.CameRounds.rounds c.args.came.now) in
    record {
      rules = told.continues.rules ∙ inv.rules;
      walked = walked_more g.EF.Field.number p c.rounds.i _ _ _ _ _ c.in-Ok.challenge c.round_at-values.ensures.round
          (same_channel g.F.Field.ops.size inv.rules (ap (λ (s : BatchShape). s.pow_bits) inv.shape))
          (told.width ∙ ap (λ (s : BatchShape). s.width) inv.shape) inv.walked told.taken c.next_claim.ensures c.push_reserved.ensures.items;
      shape = told.continues.shape ∙ inv.shape;
      played = told.played ∙ ap (λ n. n + 1) inv.played;
      len = rw (c.push_reserved.ensures.len, inv.len) refl;
      room = rw c.push_reserved.ensures.capacity inv.room;
    }

pub returns-clause-leaves : goal.returns-clause-leaves
returns-clause-leaves g c =
    let p : Walk = walk (g.R.CameRounds.next c.args.came.now) (channel (g.C.Challenger.party c.args.challenger.now).rules g.EF.ExtensionField.extension g.F.Field.ops.size c.args.shape.pow_bits) c.args.shape.width
    (verifier_state (g.C.Challenger.party c.args.challenger.now).history (g.EF.Field.number c.args.claim.now)) (g.R.CameRounds.rounds c.args.came.now) in
    walked_all p c.rounds.i (le_antisymm c.rounds.auto.i-end c.rounds-test.false ∙ sym c.requires.counted.as_rounds) c.rounds.invariant.walked

pub returns-in-Err-clause-leaves : goal.returns-in-Err-clause-leaves
returns-in-Err-clause-leaves g c =
    let inv = c.rounds.invariant in
    let p : Walk = walk (g.R.CameRounds.next c.args.came.now) (channel (g.C.Challenger.party c.args.challenger.now).rules g.EF.ExtensionField.extension g.F.Field.ops.size c.args.shape.pow_bits) c.args.shape.width
    (verifier_state (g.C.Challenger.party c.args.challenger.now).history (g.EF.Field.number c.args.claim.now)) (g.R.CameRounds.rounds c.args.came.now) in
    walk_rejected p g.EF.ExtensionField.extension _ _ c.rounds.i c.args.shape.num_rounds (g.R.CameRounds.witnesses c.args.came.now) _ _ _ _ c.in-Err.error
    (same_channel g.F.Field.ops.size inv.rules (ap (λ (s : BatchShape). s.pow_bits) inv.shape))
    (ap (λ (s : BatchShape). s.width) inv.shape) inv.played c.rounds-test.true c.requires.counted.as_witnesses inv.walked c.round_at-values.ensures.round c.round_at-values.ensures.witness c.in-Err.ensures.0
