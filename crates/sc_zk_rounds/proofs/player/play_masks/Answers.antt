use Rattle.std.proofs.Common.{Err, refl, ◌≡◌, ◌+◌, ◌<◌, length, map, sym, ◌∙◌, ap, subst, arith}
use Rattle.std.proofs.lemmas.List.{map-append, length-map}
use Rattle.sc_definitions.specs.Tables.{IsOffered}
use Rattle.sc_definitions.specs.ProverViews.{prover_state_at}
use Rattle.sc_transcript.specs.declared.rounds.BatchShape.{BatchShape}
use Rattle.sc_transcript.proofs.ReplayedLaws.{same_channel}
use Rattle.sc_transcript.proofs.BatchLaws.{same_setting}
use Rattle.sc_definitions.proofs.ProverStateLaws.{IsSized}
use Rattle.sc_zk_definitions.specs.MaskedRuns.{Masking, IsMasked}
use Rattle.sc_zk_rounds.specs.Views.{player, terms, setting_of, stands_at}
use Rattle.sc_zk_rounds.specs.Data.{masked_wire_in}
use Rattle.sc_zk_rounds.specs.Mixings.{IsMixing}
use Rattle.sc_zk_rounds.specs.Rounds.{AreMasks}
use Rattle.sc_zk_rounds.proofs.MaskedRoundLaws.{of-mask, one-more, stops-masks, masked_none}
use Rattle.sc_zk_rounds.proofs.player.play_masks.Goals as goal

-- no round was played yet
pub loop-i-init : goal.loop-i-init
loop-i-init g c =
    let o = g.EF.Field.ops in
    let N = g.EF.Field.number in
    let p = c.args.prover.now in
    let party = g.C.Challenger.party c.args.challenger.now in
    let x = player g.F.Field.number N party (g.P.PlainRounds.shown p) c.args.zk_data.now in
    let s = setting_of (terms g.F.Field.ops o g.EF.ExtensionField.extension c.args.shape.pow_bits) x in
    let t = stands_at x in
    let tables = g.met.P.PlainRounds.tables p in
    let size : IsSized t = record { evals = tables.evals; weights = tables.weights } in
    let empty = c.requires.challenges.empty in
    record {
      rules = refl;
      shape = c.new-rounds.ensures.shape;
      played = c.new-rounds.ensures.played;
      left = omega arith;
      form = record { basis = refl; order = refl };
      total = refl;
      count = c.args.challenges.now.ok.0 ∙ ap length empty;
      room = c.requires.challenges.room;
      batch = λ k are. subst (λ l. IsMasked s k t t (map N l)) (sym empty) (masked_none s k t size);
      mixed = λ k are. subst (λ l. IsMixing o N k (map N l) c.args.mixing) (sym empty) are.mixing;
    }

-- a round is refused
pub returns-in-Err-clause-rounds : goal.returns-in-Err-clause-rounds
returns-in-Err-clause-rounds g c = λ k are.
    let o = g.EF.Field.ops in
    let N = g.EF.Field.number in
    let inv = c.loop-i.invariant in
    let i = c.loop-i.i in
    let rs = map N c.loop-i.challenges.items in
    let size : length rs ≡ i = length-map c.loop-i.challenges.items N ∙ sym c.loop-i.challenges.ok.0 ∙ inv.count in
    let low : i < length c.args.masks.now = omega (arith, c.loop-i-test.true) in
    let of = of-mask o N k c.args.masks.now c.args.eps c.args.mixing c.loop-i.mixing i rs c.index-masks-i.result c.as_slice-mask.result.now low c.index-masks-i.is
    c.as_slice-mask.ensures.value size are (inv.mixed k are) in
    stops-masks {X = Unit {0}} N
    (prover_state_at (g.P.PlainRounds.shown c.play_masked.new.prover) (g.C.Challenger.party c.play_masked.new.challenger).history (masked_wire_in g.F.Field.number N c.play_masked.new.sent)) rs
    (length c.args.masks.now) c.in-Err.error (Err c.in-Err.error)
    (same_setting (same_channel g.F.Field.ops.size inv.rules (ap (λ (s : BatchShape). s.pow_bits) inv.shape)) inv.form.basis inv.form.order)
    g.met.EF.Field.is_field.ring (subst (λ b. IsOffered b (g.P.PlainRounds.shown c.args.prover.now).order) (sym c.requires.basis) tt) (omega (arith, size, low)) (omega (arith, inv.left, low, c.requires.plays, g.met.P.PlainRounds.within c.loop-i.prover))
    (inv.batch k are) (c.in-Err.ensures.round k rs (size ∙ sym inv.played) of) refl

-- one round more
pub loop-i-preserved : goal.loop-i-preserved
loop-i-preserved g c =
    let o = g.EF.Field.ops in
    let N = g.EF.Field.number in
    let inv = c.loop-i.invariant in
    let i = c.loop-i.i in
    let round = c.in-Ok.ensures in
    let rs = map N c.loop-i.challenges.items in
    let size : length rs ≡ i = length-map c.loop-i.challenges.items N ∙ sym c.loop-i.challenges.ok.0 ∙ inv.count in
    let low : i < length c.args.masks.now = omega (arith, c.loop-i-test.true) in
    let drawn = ap (map N) c.push_reserved.ensures.items ∙ map-append N _ _ in
    let of = λ (k : Masking) (are : AreMasks o N k c.args.masks.now c.args.eps c.args.mixing). of-mask o N k c.args.masks.now c.args.eps c.args.mixing c.loop-i.mixing i rs c.index-masks-i.result c.as_slice-mask.result.now low c.index-masks-i.is
    c.as_slice-mask.ensures.value size are (inv.mixed k are) in
    record {
      rules = round.continues.rules ∙ inv.rules;
      shape = round.continues.shape ∙ inv.shape;
      played = round.counts ∙ ap (λ n. n + 1) inv.played;
      left = omega (arith, round.fewer, inv.left);
      form = record { basis = round.form.basis ∙ inv.form.basis; order = round.form.order ∙ inv.form.order };
      total = round.total ∙ inv.total;
      count = c.push_reserved.ensures.len ∙ ap (λ n. n + 1) inv.count;
      room = omega (arith, c.push_reserved.ensures.capacity, inv.room);
      batch = λ k are. one-more g.met.EF.Field.is_field.ring (subst (λ b. IsOffered b (g.P.PlainRounds.shown c.args.prover.now).order) (sym c.requires.basis) tt)
          (same_setting (same_channel g.F.Field.ops.size inv.rules (ap (λ (s : BatchShape). s.pow_bits) inv.shape)) inv.form.basis inv.form.order)
          drawn (inv.batch k are) (round.round k rs (size ∙ sym inv.played) (of k are));
      mixed = λ k are. subst (λ l. IsMixing o N k l c.pass-mixing.result) (sym drawn)
          (c.pass-mixing.ensures k rs (of k are).later are.half (of k are).next (inv.mixed k are));
    }
