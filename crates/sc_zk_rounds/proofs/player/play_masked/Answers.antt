use Rattle.std.proofs.Common.{rules, arith, ◌∙◌, ap}
use Rattle.sc_definitions.specs.ProverViews.{with_bound}
use Rattle.sc_challenger.specs.Parties.{channel_by}
use Rattle.sc_commitments.specs.Matrices.{numbers_in}
use Rattle.sc_zk_rounds.specs.Data.{masked_wire_in}
use Rattle.sc_zk_rounds.proofs.MaskedRoundLaws.{masked-round, refused-moves}
use Rattle.sc_zk_rounds.proofs.player.play_masked.Goals as goal

-- the round is refused
pub returns-in_err-r-clause-round : goal.returns-in_err-r-clause-round
returns-in_err-r-clause-round g c = λ k rs size of.
    let o = g.EF.Field.ops in
    let shown = g.P.PlainRounds.shown in
    let N = g.EF.Field.number in
    let made = c.in_ok-wire.ensures.wire k rs of.later of.half of.next of.combination of.mixing in
    refused-moves o g.met.EF.Field.is_field.ring (shown c.args.prover.now) c.requires.basis (omega (arith, c.requires.plays, g.met.P.PlainRounds.within c.args.prover.now))
    (N c.in_ok-message.message.c_a) (N c.in_ok-message.message.c_inf) c.in_ok-message.ensures.message N
    (channel_by (g.C.Challenger.party c.args.challenger.now) g.EF.ExtensionField.extension g.F.Field.ops.size c.args.rounds.now.shape.pow_bits) k rs c.args.rounds.now.played
    (shown c.measure.new.self) (g.C.Challenger.party c.args.challenger.now).history (g.C.Challenger.party c.put_round.new.challenger).history
    (masked_wire_in g.F.Field.number N c.args.sent.now) (masked_wire_in g.F.Field.number N c.put_round.new.self) (numbers_in N c.in_ok-wire.wire) c.in_err-r.field-0.0
    c.from_residual-in_err-r.result c.measure.ensures.kept c.in_err-r.ensures.kept size made c.in_err-r.ensures.refused.why (search rules)

-- the round is played
pub returns-clause-round : goal.returns-clause-round
returns-clause-round g c = λ k rs size of.
    let o = g.EF.Field.ops in
    let shown = g.P.PlainRounds.shown in
    let N = g.EF.Field.number in
    let r = N c.in_ok-r.r in
    let made = c.in_ok-wire.ensures.wire k rs of.later of.half of.next of.combination of.mixing in
    let puts = c.in_ok-r.ensures.puts in
    let bound = c.bind.ensures.bound ∙ ap (λ s. with_bound o s r) c.measure.ensures.kept in
    masked-round o g.met.EF.Field.is_field.ring (shown c.args.prover.now) c.requires.basis (omega (arith, c.requires.plays, g.met.P.PlainRounds.within c.args.prover.now))
    (N c.in_ok-message.message.c_a) (N c.in_ok-message.message.c_inf) c.in_ok-message.ensures.message
    (channel_by (g.C.Challenger.party c.args.challenger.now) g.EF.ExtensionField.extension g.F.Field.ops.size c.args.rounds.now.shape.pow_bits) k rs
    (shown c.bind.new.self) (g.C.Challenger.party c.args.challenger.now).history (g.C.Challenger.party c.put_round.new.challenger).history
    (masked_wire_in g.F.Field.number N c.args.sent.now) (masked_wire_in g.F.Field.number N c.put_round.new.self) (numbers_in N c.in_ok-wire.wire) puts.witness r
    bound made puts.plays.sent puts.wire
