use Rattle.std.proofs.Common.{◌≡◌, [], ◌∷◌, suc, ◌-◌, map, refl, sym, ap, subst, ◌∙◌, arith}
use Rattle.std.proofs.lemmas.List.{length-map}
use Rattle.sc_definitions.specs.Tables.{folded_in}
use Rattle.sc_definitions.specs.Polynomials.{poly_minus}
use Rattle.sc_definitions.specs.Rounds.{sent_polynomial, next_claim}
use Rattle.sc_definitions.specs.Messages.{message_of}
use Rattle.sc_definitions.specs.ProverStates.{half_rows}
use Rattle.sc_transcript.specs.Data.{pair_of}
use Rattle.sc_rounds.specs.Products.{variables_in, order_in, evals_in, weights_in}
use Rattle.sc_definitions.proofs.FindLaws.{Finds, finds-begin, finds-more, finds-here, finds-none}
use Rattle.sc_rounds.specs.Turns.{own_tables, three_of}
use Rattle.sc_rounds.proofs.TurnPairs.{offered_as, own-pair, certified-turn, some-turn}
use Rattle.sc_rounds.proofs.turns.find_turn.Goals as goal

pub loop-i-init : goal.loop-i-init
loop-i-init g c =
    let e = g.EF.Field in
    let N = e.number in
    let pair = c.args.pair in
    record {
      left = omega (arith, c.requires.challenges);
      basis = refl;
      order = refl;
      finds = λ p n is. finds-begin e.ops g.met.EF.Field.is_field.ring p (offered_as is.basis is.order c.args.pair.offered) (variables_in pair) (evals_in N pair) (weights_in N pair) (N c.args.claim) (N c.dot_product-truth.result)
          (map (pair_of N) c.args.messages.now) (map N c.args.challenges.now) is.evals is.weights c.dot_product-truth.ensures;
    }

-- the claim turns true here
pub returns-then-index-clause-found : goal.returns-then-index-clause-found
returns-then-index-clause-found g c = λ p n is.
    let e = g.EF.Field in
    let N = e.number in
    let inv = c.loop-i.invariant in
    let pair = c.loop-i.pair in
    let i = c.loop-i.i in
    let m = variables_in pair - 1 in
    let some : variables_in pair ≡ suc m = omega (arith, inv.left, c.loop-i-test.true) in
    let same = c.basis-basis.ensures ∙ sym is.basis in
    let basis = inv.basis ∙ sym is.basis in
    let order = inv.order ∙ sym is.order in
    let found = subst (λ k. Finds e.ops p k (evals_in N pair) (weights_in N pair) (N c.args.claim) (N c.loop-i.claim) (N c.loop-i.truth) i (map (pair_of N) c.args.messages.now) (map N c.args.challenges.now)) some (inv.finds p n is) in
    let y = c.index-messages-i.result in
    let h = c.measure-honest.result in
    sym (finds-here e.ops g.met.EF.Field.is_field.ring p (offered_as is.basis is.order c.args.pair.offered) N (pair_of N) c.args.messages.now c.args.challenges.now i m (evals_in N pair) (weights_in N pair)
    (N c.args.claim) (N c.loop-i.claim) (N c.loop-i.truth) found y c.index-challenges-i.result
    (omega (arith, c.loop-i-test.true, c.requires.messages, c.requires.challenges)) c.loop-i-test.true c.index-messages-i.is c.index-challenges-i.is
    (omega (arith, c.requires.messages, c.requires.challenges, inv.left, some)) (N c.reduce_claim-next.result) (N c.reduce_claim-next_truth.result)
    (c.reduce_claim-next.ensures.claim ∙ ap (λ d. next_claim d e.ops (N c.loop-i.claim) (pair_of N y) (N c.index-challenges-i.result)) same) (N h.c_a) (N h.c_inf)
    (c.measure-honest.ensures ∙ ap (λ d. message_of d (order_in pair) e.ops (half_rows (variables_in pair)) (evals_in N pair) (weights_in N pair)) basis
    ∙ ap (λ d. message_of p.basis d e.ops (half_rows (variables_in pair)) (evals_in N pair) (weights_in N pair)) order
    ∙ ap (λ k. message_of p.basis p.order e.ops (half_rows k) (evals_in N pair) (weights_in N pair)) some)
    (c.reduce_claim-next_truth.ensures.claim ∙ ap (λ d. next_claim d e.ops (N c.loop-i.truth) (N h.c_a ∷ N h.c_inf ∷ []) (N c.index-challenges-i.result)) same) (sym c.index.ensures ∙ c.if-index.true ∙ c.index-in-loop-i.ensures) (N y.c_a) (N y.c_inf) refl
    (map N c.in_ok-polynomial.polynomial)
    (c.in_ok-polynomial.ensures
    ∙ ap (λ v. poly_minus e.ops v (three_of N c.sent_by-due.result)) (c.sent_by-sent.ensures ∙ ap (λ d. sent_polynomial d e.ops (N c.loop-i.claim) (pair_of N y)) same)
    ∙ ap (poly_minus e.ops (sent_polynomial p.basis e.ops (N c.loop-i.claim) (pair_of N y)))
    (c.sent_by-due.ensures ∙ ap (λ d. sent_polynomial d e.ops (N c.loop-i.truth) (N h.c_a ∷ N h.c_inf ∷ [])) same)))

-- and is certified where it was false
pub returns-then-index-clause-certified : goal.returns-then-index-clause-certified
returns-then-index-clause-certified g c = λ wrong.
    let e = g.EF.Field in
    let N = e.number in
    let pair = c.args.pair in
    certified-turn e.ops g.met.EF.Field.is_field (own_tables N pair) pair.offered (variables_in pair) (pair_of N) (λ y. refl) (N c.args.claim) c.args.messages.now
    (map N c.args.challenges.now) (g.met.EF.Field.number_below c.args.claim) c.requires.messages wrong _
    (returns-then-index-clause-found g c (own_tables N pair) (variables_in pair) (own-pair N pair))

-- it does not
pub loop-i-preserved : goal.loop-i-preserved
loop-i-preserved g c =
    let e = g.EF.Field in
    let N = e.number in
    let inv = c.loop-i.invariant in
    let pair = c.loop-i.pair in
    let new = c.bind.new.self in
    let bound = c.bind.ensures in
    let i = c.loop-i.i in
    let m = variables_in new in
    let some : variables_in pair ≡ suc m = bound.fewer ∙ omega arith in
    let y = c.index-messages-i.result in
    let x = c.index-challenges-i.result in
    let h = c.measure-honest.result in
    record {
      left = omega (arith, inv.left, some);
      basis = bound.basis ∙ inv.basis;
      order = bound.order ∙ inv.order;
      finds = λ p n is.
          let same = c.basis-basis.ensures ∙ sym is.basis in
          let basis = inv.basis ∙ sym is.basis in
          let order = inv.order ∙ sym is.order in
          let found = subst (λ k. Finds e.ops p k (evals_in N pair) (weights_in N pair) (N c.args.claim) (N c.loop-i.claim) (N c.loop-i.truth) i (map (pair_of N) c.args.messages.now) (map N c.args.challenges.now)) some (inv.finds p n is) in
          finds-more e.ops g.met.EF.Field.is_field.ring p (offered_as is.basis is.order c.args.pair.offered) N (pair_of N) c.args.messages.now c.args.challenges.now i m (evals_in N pair) (weights_in N pair)
          (N c.args.claim) (N c.loop-i.claim) (N c.loop-i.truth) found y x
          (omega (arith, c.loop-i-test.true, c.requires.messages, c.requires.challenges)) c.loop-i-test.true c.index-messages-i.is c.index-challenges-i.is
          (omega (arith, c.requires.messages, c.requires.challenges, inv.left, some)) (N c.reduce_claim-next.result) (N c.reduce_claim-next_truth.result)
          (c.reduce_claim-next.ensures.claim ∙ ap (λ d. next_claim d e.ops (N c.loop-i.claim) (pair_of N y) (N c.index-challenges-i.result)) same) (N h.c_a) (N h.c_inf)
          (c.measure-honest.ensures ∙ ap (λ d. message_of d (order_in pair) e.ops (half_rows (variables_in pair)) (evals_in N pair) (weights_in N pair)) basis
          ∙ ap (λ d. message_of p.basis d e.ops (half_rows (variables_in pair)) (evals_in N pair) (weights_in N pair)) order
          ∙ ap (λ k. message_of p.basis p.order e.ops (half_rows k) (evals_in N pair) (weights_in N pair)) some)
          (c.reduce_claim-next_truth.ensures.claim ∙ ap (λ d. next_claim d e.ops (N c.loop-i.truth) (N h.c_a ∷ N h.c_inf ∷ []) (N c.index-challenges-i.result)) same)
          (λ same. c.if-index.false (c.index.ensures ∙ same ∙ sym c.index-in-loop-i.ensures)) (evals_in N new) (weights_in N new)
          (λ b low. bound.evals b low ∙ ap (λ d. folded_in d (order_in pair) e.ops m (N x) (evals_in N pair) b) basis ∙ ap (λ d. folded_in p.basis d e.ops m (N x) (evals_in N pair) b) order)
          (λ b low. bound.weights b low ∙ ap (λ d. folded_in d (order_in pair) e.ops m (N x) (weights_in N pair) b) basis ∙ ap (λ d. folded_in p.basis d e.ops m (N x) (weights_in N pair) b) order);
    }

-- it never does
pub returns-clause-found : goal.returns-clause-found
returns-clause-found g c = λ p n is.
    let e = g.EF.Field in
    let N = e.number in
    sym (finds-none e.ops g.met.EF.Field.is_field.ring p (offered_as is.basis is.order c.args.pair.offered) _ _ _ (N c.args.claim) _ _ c.loop-i.i (map (pair_of N) c.args.messages.now) (map N c.args.challenges.now)
    (c.loop-i.invariant.finds p n is) (omega (arith, c.loop-i-test.false, c.requires.messages, c.requires.challenges, length-map c.args.messages.now (pair_of N))))

-- which cannot be where it was false and ends as the true one
pub returns-clause-some : goal.returns-clause-some
returns-clause-some g c = λ wrong right.
    let e = g.EF.Field in
    let N = e.number in
    let pair = c.args.pair in
    let rs = c.args.challenges.now in
    absurd
    (some-turn e.ops g.met.EF.Field.is_field (own_tables N pair) pair.offered (variables_in pair) (pair_of N) (λ y. refl) (N c.args.claim) c.args.messages.now
    (map N rs) (g.met.EF.Field.number_below c.args.claim) c.requires.messages wrong (length-map rs N ∙ c.requires.challenges) right
    (returns-clause-found g c (own_tables N pair) (variables_in pair) (own-pair N pair)))
