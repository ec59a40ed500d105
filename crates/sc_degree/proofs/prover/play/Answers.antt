use Rattle.std.proofs.Common.{◌+◌, refl, ap, sym, ◌∙◌, arith}
use Rattle.std.proofs.lemmas.List.{length-map}
use Rattle.sc_transcript.specs.Transcripts.{driver_in}
use Rattle.sc_transcript.proofs.ReplayedLaws.{same_channel}
use Rattle.sc_transcript.specs.declared.rounds.BatchShape.{BatchShape}
use Rattle.sc_degree.proofs.PlayLaws.{played-none, more_at, stops_after}
use Rattle.sc_degree.proofs.prover.play.Goals as goal

pub loop-round-init : goal.loop-round-init
loop-round-init g c = record {
  continues = record { lender = refl; rules = refl; shape = refl; kind = refl };
  count = c.requires.fresh.played;
  ready = c.requires.ready;
  played = played-none _ _ _ c.requires.fresh;
}

-- one round more
pub loop-round-preserved : goal.loop-round-preserved
loop-round-preserved g c =
    let inv = c.loop-round.invariant in
    let round = c.in-Ok.ensures in
    record {
      continues = record {
        lender = round.continues.lender ∙ inv.continues.lender;
        rules = round.continues.rules ∙ inv.continues.rules;
        shape = round.continues.shape ∙ inv.continues.shape;
        kind = round.continues.kind ∙ inv.continues.kind;
      };
      count = round.round.played ∙ ap (λ n. n + 1) inv.count;
      ready = round.ready;
      played = more_at
          (same_channel g.F.Field.ops.size inv.continues.rules (ap (λ (s : BatchShape). s.pow_bits) inv.continues.shape))
          inv.played round.round;
    }

-- the next round is refused
pub returns-in-Err-clause-rounds : goal.returns-in-Err-clause-rounds
returns-in-Err-clause-rounds g c =
    let inv = c.loop-round.invariant in
    stops_after g.F.Field.number g.EF.Field.number g.EF.Field.ops (driver_in c.loop-round.transcript) (g.P.RoundProver.meaning c.loop-round.prover) c.loop-round.played c.in-Err.error
    (same_channel g.F.Field.ops.size inv.continues.rules (ap (λ (s : BatchShape). s.pow_bits) inv.continues.shape))
    g.met.F.Field.number_below inv.played (length-map _ _ ∙ sym c.loop-round.played.challenges.ok.0 ∙ inv.ready.filled.drawn)
    (omega (arith, inv.count, c.loop-round-test.true, ap (λ (s : BatchShape). s.num_rounds) c.shape-shape.ensures.numbers)) c.in-Err.ensures.round
