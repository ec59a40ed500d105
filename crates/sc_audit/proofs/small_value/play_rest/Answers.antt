use Rattle.std.proofs.Common.{◌≡◌, ◌+◌, ◌≤◌, map, vec_len, ap, sym, refl, arith, ◌∙◌}
use Rattle.std.proofs.lemmas.List.{map-append}
use Rattle.sc_transcript.proofs.ReplayedLaws.{same_channel}
use Rattle.sc_transcript.specs.declared.rounds.BatchShape.{BatchShape}
use Rattle.sc_rounds.specs.declared.product_polynomial.ProductPolynomial.{ProductPolynomial}
use Rattle.sc_rounds.specs.Products.{variables_in}
use Rattle.sc_transcript.proofs.BatchLaws.{fits, less_by_one, some_left, less_at, room_at, all_played, sum_at, same_setting, one_round_more, stops, begun_within}
use Rattle.sc_audit.proofs.small_value.play_rest.Goals as goal

pub loop-round-init : goal.loop-round-init
loop-round-init g c =
    let count : vec_len c.args.challenges.now ≡ c.args.transcript.now.rounds.played = c.args.challenges.now.ok.0 ∙ c.requires.begun.count in
    record {
      continues = record { lender = refl; rules = refl; shape = refl; kind = refl };
      played = sym (c.len-round.ensures ∙ count);
      left = ap (λ k. variables_in c.args.left.now + k) (c.len-round.ensures ∙ count);
      basis = refl;
      order = refl;
      sum = c.requires.sum;
      len = sym c.len-round.ensures;
      room = c.requires.begun.fits;
      batch = λ start before. before;
    }

pub loop-round-preserved : goal.loop-round-preserved
loop-round-preserved g c =
    let inv = c.loop-round.invariant in
    let round = c.in-Ok.ensures in
    let drawn = ap (map g.EF.Field.number) c.push_reserved.ensures.items ∙ map-append g.EF.Field.number _ _ in
    record {
      continues = record {
        lender = round.continues.lender ∙ inv.continues.lender;
        rules = round.continues.rules ∙ inv.continues.rules;
        shape = round.continues.shape ∙ inv.continues.shape;
        kind = round.continues.kind ∙ inv.continues.kind;
      };
      played = round.counts ∙ ap (λ n. n + 1) inv.played;
      left = less_by_one _ _ _ _ round.round.0.fewer inv.left;
      basis = round.basis ∙ inv.basis;
      order = round.order ∙ inv.order;
      sum = round.sum;
      len = c.push_reserved.ensures.len ∙ ap (λ n. n + 1) inv.len;
      room = fits _ _ _ _ (ap (λ (s : BatchShape). s.num_rounds) round.continues.shape) c.push_reserved.ensures.capacity inv.room;
      batch = λ start before. one_round_more g.met.EF.Field.is_field.ring c.args.left.now.offered
          (same_setting (same_channel g.F.Field.ops.size inv.continues.rules (ap (λ (s : BatchShape). s.pow_bits) inv.continues.shape)) inv.basis inv.order)
          drawn (inv.batch start before) round.round.0;
    }

-- a round is left, and so is a variable
pub round-requires-clause-variables : goal.round-requires-clause-variables
round-requires-clause-variables g c =
    let enough : c.args.transcript.now.rounds.shape.num_rounds ≤ variables_in c.args.left.now + c.args.transcript.now.rounds.played = omega (arith, c.requires.variables) in
    some_left _ _ _ _ c.loop-round.invariant.left enough (less_at _ _ _ _ refl c.loop-round-test.true (ap (λ (s : BatchShape). s.num_rounds) c.shape-round-end.ensures.numbers))

-- the round of the loop is the transcript's
pub round-requires-clause-left : goal.round-requires-clause-left
round-requires-clause-left g c =
    let inv = c.loop-round.invariant in
    less_at _ _ _ _ inv.played c.loop-round-test.true (ap (λ (s : BatchShape). s.num_rounds) c.shape-round-end.ensures.numbers ∙ ap (λ (s : BatchShape). s.num_rounds) (sym inv.continues.shape))

pub round-requires-clause-sum : goal.round-requires-clause-sum
round-requires-clause-sum g c = c.loop-round.invariant.sum

-- as many challenges as rounds so far, and there is room for one of each round
pub push_reserved-requires : goal.push_reserved-requires
push_reserved-requires g c =
    let inv = c.loop-round.invariant in
    room_at inv.len c.loop-round-test.true (ap (λ (s : BatchShape). s.num_rounds) c.shape-round-end.ensures.numbers ∙ ap (λ (s : BatchShape). s.num_rounds) (sym inv.continues.shape)) inv.room

-- all rounds are played, and what the invariant says of them holds of all
pub returns : goal.returns
returns g c =
    let inv = c.loop-round.invariant in
    let count : vec_len c.args.challenges.now ≡ c.args.transcript.now.rounds.played = c.args.challenges.now.ok.0 ∙ c.requires.begun.count in
    let enough : c.args.transcript.now.rounds.played ≤ c.args.transcript.now.rounds.shape.num_rounds = omega (arith, c.requires.variables) in
    let below : c.len-round.result ≤ c.shape-round-end.result.num_rounds = begun_within c.len-round.ensures count enough (ap (λ (s : BatchShape). s.num_rounds) c.shape-round-end.ensures.numbers) in
    record {
      continues = inv.continues;
      left = sum_at _ _ _ _ inv.played inv.left;
      rounds = λ start before. (
        all_played _ _ _ _ inv.played (ap (λ (s : BatchShape). s.num_rounds) inv.continues.shape ∙ ap (λ (s : BatchShape). s.num_rounds) (sym c.shape-round-end.ensures.numbers)) c.loop-round-test.false (c.loop-round.auto._round-end below),
        inv.batch start before,
      );
    }

-- a refused round leaves what the invariant says
pub returns-in-Err : goal.returns-in-Err
returns-in-Err g c =
    let inv = c.loop-round.invariant in
    let round = c.in-Err.ensures in
    record {
      continues = record {
        lender = round.continues.lender ∙ inv.continues.lender;
        rules = round.continues.rules ∙ inv.continues.rules;
        shape = round.continues.shape ∙ inv.continues.shape;
        kind = round.continues.kind ∙ inv.continues.kind;
      };
      left = sum_at _ _ _ _ (round.counts ∙ inv.played) (ap (λ (p : ProductPolynomial g.row.F.Denot g.row.EF.Denot). variables_in p + c.loop-round._round) round.kept.0 ∙ inv.left);
      rounds = λ start before. (
        less_at _ _ _ _ (round.counts ∙ inv.played) c.loop-round-test.true (ap (λ (s : BatchShape). s.num_rounds) c.shape-round-end.ensures.numbers ∙ ap (λ (s : BatchShape). s.num_rounds) (sym inv.continues.shape ∙ sym round.continues.shape)),
        stops _ c.in-Err.error
            (same_setting (same_channel g.F.Field.ops.size inv.continues.rules (ap (λ (s : BatchShape). s.pow_bits) inv.continues.shape)) inv.basis inv.order)
            (sym round.counts) (inv.batch start before) round.round,
      );
    }
