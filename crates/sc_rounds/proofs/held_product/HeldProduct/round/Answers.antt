use Rattle.std.proofs.Common.{◌≡◌, ℕ, [], ◌∷◌, map, Some, ap, sym, ◌∙◌, subst, ◌<◌}
use Rattle.std.proofs.lemmas.Simd.{map-map}
use Rattle.sc_definitions.specs.Tables.{entries, rows_of}
use Rattle.sc_transcript.specs.Transcripts.{driver_in}
use Rattle.sc_transcript.specs.Data.{wire_in}
use Rattle.sc_rounds.specs.Provers.{shown_of, held_shown, number_if_some}
use Rattle.sc_definitions.specs.ProverViews.{imaged, message_shown, with_bound, prover_state_at}
use Rattle.sc_definitions.proofs.MappedRounds.{below_entries}
use Rattle.sc_transcript.proofs.BatchLaws.{halts}
use Rattle.sc_rounds.proofs.HeldLaws.{none_held, settled_pair}
use Rattle.sc_definitions.proofs.ImagedRounds.{IsBelow, sent_images, image_round, round_as}
use Rattle.sc_rounds.proofs.held_product.HeldProduct.round.Goals as goal

pub returns-clause-round : goal.returns-clause-round
unfolding entries rows_of
returns-clause-round g c =
    let a = g.EF.Field.ops in let b = g.EG.Field.ops in
    let ra = g.met.EF.Field.is_field.ring in let rb = g.met.EG.Field.is_field.ring in
    let N = g.EF.Field.number in
    let below = g.met.EF.Field.number_below in
    let to = g.EF.FromTable.to_number in
    let represents = g.met.EF.FromTable.represents in
    let t = c.measure-message.new.self in
    let e = c.measure-message.ensures in
    let s = shown_of N t.poly t.sum in
    let same = settled_pair a N t.poly t.sum t.held _ e.settled e.kept in
    let m = c.measure-message.result in
    let drawn = g.EG.Field.number c.in-Ok.drawn in
    let r = N c.from_element.result in
    let r_is : to r ≡ drawn = ap to c.from_element.ensures ∙ represents.back_forth drawn (g.met.EG.Field.number_below c.in-Ok.drawn) in
    let puts = c.in-Ok.ensures.puts in
    let low : IsBelow a s = record {
      evals = below_entries a b ra rb to represents.back N below t.poly.evals.evals.items;
      weights = below_entries a b ra rb to represents.back N below t.poly.weights.evals.items;
      claim = below t.sum;
    } in
    round_as b to drawn s (with_bound a s r) same
    (ap (λ q. with_bound a q r) (sym (none_held a N t.poly t.sum t.held e.settled)) ∙ sym c.bind.ensures.bound)
    (image_round a b ra rb to represents.back s low puts.witness r drawn
    (record {
      first = N m.c_a;
      leading = N m.c_inf;
      first_below = below m.c_a;
      leading_below = below m.c_inf;
      are = e.message ∙ ap (λ q. message_shown a q) (sym same);
      images = ap (λ x. x ∷ g.EG.Field.number c.into_transcript-c_inf.result ∷ []) c.into_transcript-c_a.ensures ∙ ap (λ x. to (N m.c_a) ∷ x ∷ []) c.into_transcript-c_inf.ensures;
    })
    (subst (λ q. 0 < q.variables) (sym same) c.requires.variables) (below c.from_element.result) r_is puts.plays.sent puts.wire)

pub returns-in-Err-clause-round : goal.returns-in-Err-clause-round
unfolding entries rows_of
returns-in-Err-clause-round g c =
    let a = g.EF.Field.ops in let b = g.EG.Field.ops in
    let ra = g.met.EF.Field.is_field.ring in let rb = g.met.EG.Field.is_field.ring in
    let N = g.EF.Field.number in
    let below = g.met.EF.Field.number_below in
    let to = g.EF.FromTable.to_number in
    let represents = g.met.EF.FromTable.represents in
    let t = c.measure-message.new.self in
    let e = c.measure-message.ensures in
    let s = shown_of N t.poly t.sum in
    let same = settled_pair a N t.poly t.sum t.held _ e.settled e.kept in
    let m = c.measure-message.result in
    let low : IsBelow a s = record {
      evals = below_entries a b ra rb to represents.back N below t.poly.evals.evals.items;
      weights = below_entries a b ra rb to represents.back N below t.poly.weights.evals.items;
      claim = below t.sum;
    } in
    let message = sent_images a b ra rb to represents.back s low _ (record {
      first = N m.c_a;
      leading = N m.c_inf;
      first_below = below m.c_a;
      leading_below = below m.c_inf;
      are = e.message ∙ ap (λ q. message_shown a q) (sym same);
      images = ap (λ x. x ∷ g.EG.Field.number c.into_transcript-c_inf.result ∷ []) c.into_transcript-c_a.ensures ∙ ap (λ x. to (N m.c_a) ∷ x ∷ []) c.into_transcript-c_inf.ensures;
    }) in
    let T' = c.observe_and_sample.new.transcript in
    let D = c.args.sumcheck_data.now in
    halts _ _ _ c.in-Err.error c.in-Err.ensures.refused.why (message ∙ ap (λ q. message_shown b (imaged to q)) same)
    (ap (λ w. prover_state_at (imaged to (held_shown a N t.poly t.held t.sum)) (driver_in T').history w) c.in-Err.ensures.kept
    ∙ ap (λ q. prover_state_at (imaged to q) (driver_in T').history (wire_in g.G.Field.number g.EG.Field.number D)) e.kept)

pub returns-clause-holds : goal.returns-clause-holds
returns-clause-holds g c =
    let N = g.EF.Field.number in
    let to = g.EF.FromTable.to_number in
    let T : g.row.EF.Denot → ℕ = λ x. to (N x) in
    let t = c.measure-message.new.self in
    let e = c.measure-message.ensures in
    let poly = c.bind.new.self.poly in
    let same = settled_pair g.EF.Field.ops N t.poly t.sum t.held _ e.settled e.kept in
    let drawn = g.EG.Field.number c.in-Ok.drawn in
    record {
      evals = ap (λ p. map T p.evals.evals.items) c.bind.ensures.poly ∙ sym (map-map to N t.poly.evals.evals.items) ∙ ap (λ q. map to q.evals) same;
      weights = ap (λ p. map T p.weights.evals.items) c.bind.ensures.poly ∙ sym (map-map to N t.poly.weights.evals.items) ∙ ap (λ q. map to q.weights) same;
      held = ap (number_if_some T) c.bind.ensures.held
          ∙ ap Some (ap to c.from_element.ensures ∙ g.met.EF.FromTable.represents.back_forth drawn (g.met.EG.Field.number_below c.in-Ok.drawn));
    }
