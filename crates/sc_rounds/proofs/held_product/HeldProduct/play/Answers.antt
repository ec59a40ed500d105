use Rattle.std.proofs.Common.{◌+◌, ◌≤◌, map, ap, sym, refl, inl, inr, ◌∙◌}
use Rattle.std.proofs.lemmas.List.{map-append}
use Rattle.sc_transcript.proofs.ReplayedLaws.{same_channel}
use Rattle.sc_transcript.specs.declared.rounds.BatchShape.{BatchShape}
use Rattle.sc_definitions.specs.ProverViews.{ProverView}
use Rattle.sc_rounds.specs.HeldProducts.{shown_in, image_in, prover_state_over}
use Rattle.sc_transcript.proofs.BatchLaws.{fits, less_by_one, some_left, less_at, room_at, all_played, sum_at, same_setting, one_round_more, stops, begun_within}
use Rattle.sc_rounds.proofs.held_product.HeldProduct.play.Goals as goal

pub loop-round-init : goal.loop-round-init
loop-round-init g c = record {
  continues = record { lender = refl; rules = refl; shape = refl; kind = refl };
  played = sym (c.len-round.ensures ∙ c.requires.count);
  left = ap (λ k. (shown_in c.args.self.now).variables + k) (c.len-round.ensures ∙ c.requires.count);
  form = record { basis = refl; order = refl };
  len = sym c.len-round.ensures;
  room = c.requires.room;
  batch = λ start before. before;
  holds = λ start before. inl (refl, refl);
}

pub loop-round-preserved : goal.loop-round-preserved
loop-round-preserved g c =
    let M = g.EG.Field.number in
    let inv = c.loop-round.invariant in
    let round = c.in-Ok.ensures in
    let drawn = ap (map M) c.push_reserved.ensures.items ∙ map-append M _ _ in
    record {
      continues = record {
        lender = round.continues.lender ∙ inv.continues.lender;
        rules = round.continues.rules ∙ inv.continues.rules;
        shape = round.continues.shape ∙ inv.continues.shape;
        kind = round.continues.kind ∙ inv.continues.kind;
      };
      played = round.counts ∙ ap (λ n. n + 1) inv.played;
      left = less_by_one _ _ _ _ round.round.fewer inv.left;
      form = record { basis = round.form.basis ∙ inv.form.basis; order = round.form.order ∙ inv.form.order };
      len = c.push_reserved.ensures.len ∙ ap (λ n. n + 1) inv.len;
      room = fits _ _ _ _ (ap (λ (s : BatchShape). s.num_rounds) round.continues.shape) c.push_reserved.ensures.capacity inv.room;
      batch = λ start before. one_round_more g.met.EG.Field.is_field.ring c.args.self.now.poly.offered
          (same_setting (same_channel g.G.Field.ops.size inv.continues.rules (ap (λ (s : BatchShape). s.pow_bits) inv.continues.shape)) inv.form.basis inv.form.order)
          drawn (inv.batch start before) round.round;
      holds = λ start before. inr (record {
        others = _;
        last = _;
        are = drawn;
        held = round.holds.held;
        before = prover_state_over M (image_in g.EF.FromTable.to_number c.loop-round.self) c.loop-round.transcript c.loop-round.sumcheck_data;
        played = inv.batch start before;
        evals = round.holds.evals;
        weights = round.holds.weights;
      });
    }

-- a round is left, and so is a variable
pub round-requires-clause-variables : goal.round-requires-clause-variables
round-requires-clause-variables g c =
    some_left _ _ _ _ c.loop-round.invariant.left c.requires.variables (less_at _ _ _ _ refl c.loop-round-test.true (ap (λ (s : BatchShape). s.num_rounds) c.shape-round-end.ensures.numbers))

-- the round of the loop is the transcript's
pub round-requires-clause-left : goal.round-requires-clause-left
round-requires-clause-left g c =
    let inv = c.loop-round.invariant in
    less_at _ _ _ _ inv.played c.loop-round-test.true (ap (λ (s : BatchShape). s.num_rounds) c.shape-round-end.ensures.numbers ∙ ap (λ (s : BatchShape). s.num_rounds) (sym inv.continues.shape))

-- as many challenges as rounds so far, and there is room for one of each round
pub push_reserved-requires : goal.push_reserved-requires
push_reserved-requires g c =
    let inv = c.loop-round.invariant in
    room_at inv.len c.loop-round-test.true (ap (λ (s : BatchShape). s.num_rounds) c.shape-round-end.ensures.numbers ∙ ap (λ (s : BatchShape). s.num_rounds) (sym inv.continues.shape)) inv.room

-- all rounds are played, and what the invariant says of them holds of all
pub returns : goal.returns
returns g c =
    let inv = c.loop-round.invariant in
    let below : c.len-round.result ≤ c.shape-round-end.result.num_rounds = begun_within c.len-round.ensures c.requires.count c.requires.begun (ap (λ (s : BatchShape). s.num_rounds) c.shape-round-end.ensures.numbers) in
    record {
      continues = inv.continues;
      form = inv.form;
      left = sum_at _ _ _ _ inv.played inv.left;
      rounds = λ start before. (all_played _ _ _ _ inv.played (ap (λ (s : BatchShape). s.num_rounds) inv.continues.shape ∙ ap (λ (s : BatchShape). s.num_rounds) (sym c.shape-round-end.ensures.numbers)) c.loop-round-test.false (c.loop-round.auto._round-end below), inv.batch start before);
      holds = inv.holds;
    }

-- a refused round leaves what the invariant says
pub returns-in-Err : goal.returns-in-Err
returns-in-Err g c =
    let inv = c.loop-round.invariant in
    let round = c.in-Err.ensures in
    record {
      continues = record {
        lender = round.continues.lender ∙ inv.continues.lender;
        rules = round.continues.rules ∙ inv.continues.rules;
        shape = round.continues.shape ∙ inv.continues.shape;
        kind = round.continues.kind ∙ inv.continues.kind;
      };
      form = record { basis = round.form.basis ∙ inv.form.basis; order = round.form.order ∙ inv.form.order };
      left = sum_at _ _ _ _ (round.counts ∙ inv.played) (ap (λ (s : ProverView). s.variables + c.loop-round._round) round.kept ∙ inv.left);
      rounds = λ start before. (
        less_at _ _ _ _ (round.counts ∙ inv.played) c.loop-round-test.true (ap (λ (s : BatchShape). s.num_rounds) c.shape-round-end.ensures.numbers ∙ ap (λ (s : BatchShape). s.num_rounds) (sym inv.continues.shape ∙ sym round.continues.shape)),
        stops _ c.in-Err.error
            (same_setting (same_channel g.G.Field.ops.size inv.continues.rules (ap (λ (s : BatchShape). s.pow_bits) inv.continues.shape)) inv.form.basis inv.form.order)
            (sym round.counts) (inv.batch start before) round.round,
      );
      holds = tt;
    }
