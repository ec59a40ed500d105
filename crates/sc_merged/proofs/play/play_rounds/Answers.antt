use Rattle.std.proofs.Common.{◌≡◌, [], ◌∷◌, ◌+◌, ◌<◌, length, map, refl, sym, ◌∙◌, ap, subst, arith, length-append}
use Rattle.std.proofs.lemmas.List.{map-append, length-map}
use Rattle.sc_definitions.specs.Channels.{Channel}
use Rattle.sc_transcript.specs.declared.rounds.BatchShape.{BatchShape}
use Rattle.sc_transcript.specs.Drivers.{channel_of}
use Rattle.sc_transcript.specs.Transcripts.{driver_in}
use Rattle.sc_transcript.proofs.ReplayedLaws.{same_channel}
use Rattle.sc_merged.specs.MergedPlays.{prover_state_in, IsMergedRound, IsHalted, ArePlayed}
use Rattle.sc_merged.proofs.PlayLaws.{played-none, played-more, stopped}
use Rattle.sc_merged.proofs.play.play_rounds.Goals as goal

pub loop-round-init : goal.loop-round-init
loop-round-init g c =
    let e = g.EF.Field in
    let begun = driver_in c.args.transcript.now in
    let C = channel_of g.EF.ExtensionField.extension begun in
    let start = prover_state_in g.F.Field.number e.number c.args.tables.now c.args.sumcheck_data.now begun.history in
    record {
      continues = record { lender = refl; rules = refl; shape = refl; kind = refl };
      count = c.requires.none_played;
      left = omega arith;
      made = ap length c.requires.empty;
      room = c.requires.room;
      played = subst (ArePlayed e.ops C start start) (sym (ap (map e.number) c.requires.empty)) (played-none e.ops C start);
    }

-- one round more
pub loop-round-preserved : goal.loop-round-preserved
loop-round-preserved g c =
    let e = g.EF.Field in
    let base = g.F.Field.number in
    let N = e.number in
    let inv = c.loop-round.invariant in
    let round = c.in-Ok.ensures in
    let begun = driver_in c.args.transcript.now in
    let C = channel_of g.EF.ExtensionField.extension begun in
    let start = prover_state_in base N c.args.tables.now c.args.sumcheck_data.now begun.history in
    let s = prover_state_in base N c.loop-round.tables c.loop-round.sumcheck_data (driver_in c.loop-round.transcript).history in
    let t = prover_state_in base N c.play_round.new.tables c.play_round.new.sumcheck_data (driver_in c.play_round.new.transcript).history in
    let same = same_channel g.F.Field.ops.size inv.continues.rules (ap (λ (b : BatchShape). b.pow_bits) inv.continues.shape) in
    let one = subst (λ (k : Channel). IsMergedRound e.ops k s t (N c.in-Ok.r)) same round.round in
    record {
      continues = record {
        lender = round.continues.lender ∙ inv.continues.lender;
        rules = round.continues.rules ∙ inv.continues.rules;
        shape = round.continues.shape ∙ inv.continues.shape;
        kind = round.continues.kind ∙ inv.continues.kind;
      };
      count = round.counts ∙ ap (λ n. n + 1) inv.count;
      left = omega (arith, one.fewer, inv.left);
      made = ap length c.push_reserved.ensures.items ∙ length-append c.loop-round.challenges.items _ ∙ ap (λ n. n + 1) inv.made;
      room = omega (arith, c.push_reserved.ensures.capacity, inv.room);
      played = subst (ArePlayed e.ops C start t)
          (sym (ap (map N) c.push_reserved.ensures.items ∙ map-append N c.loop-round.challenges.items (c.in-Ok.r ∷ [])))
          (played-more e.ops g.met.EF.Field.is_field.ring C start s (map N c.loop-round.challenges.items) inv.played t (N c.in-Ok.r) one);
    }

-- the next round is refused
pub returns-in-Err-clause-rounds : goal.returns-in-Err-clause-rounds
returns-in-Err-clause-rounds g c =
    let e = g.EF.Field in
    let base = g.F.Field.number in
    let N = e.number in
    let inv = c.loop-round.invariant in
    let begun = driver_in c.args.transcript.now in
    let C = channel_of g.EF.ExtensionField.extension begun in
    let start = prover_state_in base N c.args.tables.now c.args.sumcheck_data.now begun.history in
    let s = prover_state_in base N c.loop-round.tables c.loop-round.sumcheck_data (driver_in c.loop-round.transcript).history in
    let t = prover_state_in base N c.play_round.new.tables c.play_round.new.sumcheck_data (driver_in c.play_round.new.transcript).history in
    let same = same_channel g.F.Field.ops.size inv.continues.rules (ap (λ (b : BatchShape). b.pow_bits) inv.continues.shape) in
    let played = (driver_in c.loop-round.transcript).played in
    let count : length (map N c.loop-round.challenges.items) ≡ played = length-map c.loop-round.challenges.items N ∙ inv.made ∙ sym inv.count in
    let few : played < c.args.tables.now.variables =
    omega (arith, inv.count, c.loop-round-test.true, ap (λ (b : BatchShape). b.num_rounds) c.shape-round-end.ensures.numbers, c.requires.variables) in
    stopped e.ops g.met.EF.Field.is_field.ring C start s (map N c.loop-round.challenges.items) inv.played (Unit {0}) t played c.in-Err.error count few
    (subst (λ (k : Channel). IsHalted e.ops k s t played c.in-Err.error) same c.in-Err.ensures.round)
