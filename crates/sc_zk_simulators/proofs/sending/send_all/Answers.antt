use Rattle.std.proofs.Common.{◌≡◌, ◌+◌, ◌<◌, [], ◌∷◌, length, get_or, map, Err, refl, ap, sym, subst, ◌∙◌, arith}
use Rattle.std.proofs.lemmas.List.{map-append, length-map}
use Rattle.sc_definitions.specs.Transcript.{round_of}
use Rattle.sc_definitions.specs.Channels.{Wire, with_rounds, IsSent}
use Rattle.sc_challenger.specs.Parties.{channel_by}
use Rattle.sc_commitments.specs.Draws.{draws_from, lists_from}
use Rattle.sc_commitments.proofs.CodeLaws.{lists-none}
use Rattle.sc_transcript.specs.declared.rounds.BatchShape.{BatchShape}
use Rattle.sc_transcript.proofs.ReplayedLaws.{same_channel}
use Rattle.sc_zk_rounds.specs.Data.{masked_wire_in}
use Rattle.sc_zk_simulators.specs.Sendings.{Sending, sending, IsUnderWay}
use Rattle.sc_zk_simulators.proofs.SendingLaws.{length-lists, list-at, one-more, none-sent, one-sent, one-at-most, stops-sending}
use Rattle.sc_zk_simulators.proofs.sending.send_all.Goals as goal

-- no round was sent yet
pub loop-round-init : goal.loop-round-init
loop-round-init g c =
    let N = g.EF.Field.number in
    let P = g.C.Challenger.party in
    let from = draws_from g.EF.Field.ops.size c.args.shape.width in
    let s = g.G.Rng.stream c.args.rng.now in
    let none = lists-none from s in
    let empty = c.requires.challenges.empty in
    record {
      rules = refl;
      shape = c.new-rounds.ensures.shape;
      played = c.new-rounds.ensures.played;
      total = refl;
      count = c.args.challenges.now.ok.0 ∙ ap length empty;
      room = c.requires.challenges.room;
      drawn = ap (λ (w : Wire). w.messages) c.requires.new ∙ sym (ap (λ p. p.0) none);
      left = sym (ap (λ p. p.1) none);
      sent = none-sent _ _ _ _ refl (ap (map N) empty) c.requires.new;
    }

-- a round is refused
pub returns-in-Err-clause-sends : goal.returns-in-Err-clause-sends
returns-in-Err-clause-sends g c =
    let o = g.EF.Field.ops in
    let N = g.EF.Field.number in
    let P = g.C.Challenger.party in
    let E = g.EF.ExtensionField.extension in
    let size = g.F.Field.ops.size in
    let inv = c.loop-round.invariant in
    let i = c.loop-round._round in
    let from = draws_from o.size c.args.shape.width in
    let s₀ = g.G.Rng.stream c.args.rng.now in
    let n = c.args.shape.num_rounds in
    let ws = (lists_from from n s₀).0 in
    let s : Sending = sending (channel_by (P c.args.challenger.now) E size c.args.shape.pow_bits) (P c.args.challenger.now).history ws in
    let rs = map N c.loop-round.challenges.items in
    let w = masked_wire_in g.F.Field.number N c.loop-round.zk_data in
    let j = c.loop-round.rounds.played in
    let count : length rs ≡ j = length-map c.loop-round.challenges.items N ∙ sym c.loop-round.challenges.ok.0 ∙ inv.count ∙ sym inv.played in
    let low : i < n = omega (arith, c.loop-round-test.true) in
    let within : j < length ws = let size = length-lists from n s₀ in omega (arith, size, low, inv.played) in
    let values : (from (g.G.Rng.stream c.loop-round.rng)).0 ≡ get_or ws j [] =
    ap (λ t. (from t).0) inv.left ∙ sym (list-at from n i s₀ low) ∙ ap (λ k. get_or ws k []) (sym inv.played) in
    stops-sending {X = Unit {0}} s rs rs w (masked_wire_in g.F.Field.number N c.send_drawn.new.zk_data) (P c.loop-round.challenger).history (P c.send_drawn.new.challenger).history
    (from (g.G.Rng.stream c.loop-round.rng)).0 j c.in-Err.error (Err c.in-Err.error) (same_channel size inv.rules (ap (λ (x : BatchShape). x.pow_bits) inv.shape)) count within values inv.sent
    c.in-Err.ensures.refused.why refl

-- at most its wire was drawn
pub returns-in-Err-clause-drew : goal.returns-in-Err-clause-drew
returns-in-Err-clause-drew g c =
    one-at-most (draws_from g.EF.Field.ops.size c.args.shape.width) c.args.shape.num_rounds c.loop-round._round (g.G.Rng.stream c.args.rng.now) _ _
    c.loop-round.invariant.left (omega (arith, c.loop-round-test.true)) c.in-Err.ensures.drew

-- one round more
pub loop-round-preserved : goal.loop-round-preserved
loop-round-preserved g c =
    let o = g.EF.Field.ops in
    let N = g.EF.Field.number in
    let B = g.F.Field.number in
    let P = g.C.Challenger.party in
    let E = g.EF.ExtensionField.extension in
    let size = g.F.Field.ops.size in
    let inv = c.loop-round.invariant in
    let i = c.loop-round._round in
    let from = draws_from o.size c.args.shape.width in
    let s₀ = g.G.Rng.stream c.args.rng.now in
    let n = c.args.shape.num_rounds in
    let ws = (lists_from from n s₀).0 in
    let channel = channel_by (P c.args.challenger.now) E size c.args.shape.pow_bits in
    let s : Sending = sending channel (P c.args.challenger.now).history ws in
    let rs = map N c.loop-round.challenges.items in
    let before = masked_wire_in B N c.loop-round.zk_data in
    let after = masked_wire_in B N c.send_drawn.new.zk_data in
    let count : length rs ≡ i = length-map c.loop-round.challenges.items N ∙ sym c.loop-round.challenges.ok.0 ∙ inv.count in
    let low : i < n = omega (arith, c.loop-round-test.true) in
    let within : length rs < length ws = let size = length-lists from n s₀ in omega (arith, size, low, count) in
    let wire = (from (g.G.Rng.stream c.loop-round.rng)).0 in
    let values : wire ≡ get_or ws (length rs) [] = ap (λ t. (from t).0) inv.left ∙ sym (list-at from n i s₀ low) ∙ ap (λ k. get_or ws k []) (sym count) in
    let puts = c.in-Ok.ensures.puts in
    let bits = ap (λ (x : BatchShape). x.pow_bits) inv.shape in
    let put = c.push_reserved.ensures in
    let h = (P c.loop-round.challenger).history in
    let h' = (P c.send_drawn.new.challenger).history in
    let r = N c.in-Ok.r in
    let more = one-more from i s₀ (g.G.Rng.stream c.loop-round.rng) (g.G.Rng.stream c.send_drawn.new.rng) before.messages after.messages (ap (λ (w : Wire). w.messages) puts.wire)
    inv.drawn inv.left c.in-Ok.ensures.left in
    record {
      rules = puts.plays.continues.rules ∙ inv.rules;
      shape = puts.plays.continues.shape ∙ inv.shape;
      played = puts.plays.played ∙ ap (λ k. k + 1) inv.played;
      total = c.in-Ok.ensures.total ∙ inv.total;
      count = put.len ∙ ap (λ k. k + 1) inv.count;
      room = omega (arith, put.capacity, inv.room);
      drawn = more.0;
      left = more.1;
      sent = subst (λ l. IsUnderWay s l after h') (sym (ap (map N) put.items ∙ map-append N _ _))
          (one-sent s rs before after h h' wire puts.witness r within values
          (subst (λ k. IsSent k h (round_of wire puts.witness) r h') (same_channel size inv.rules bits) puts.plays.sent)
          (puts.wire ∙ ap (λ k. with_rounds k before (round_of wire puts.witness ∷ [])) bits) inv.sent);
    }
