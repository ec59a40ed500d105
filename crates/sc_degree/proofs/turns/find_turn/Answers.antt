use Rattle.std.proofs.Common.{◌≡◌, ℕ, suc, ◌-◌, ◌≤◌, List, [], ◌∷◌, length, map, Vec, Global, sym, ap, subst, ◌∙◌, arith}
use Rattle.std.proofs.lemmas.List.{length-map, length-drop, take_all}
use Rattle.sc_definitions.specs.Interpolation.{node_values, sent_through, next_through}
use Rattle.sc_definitions.specs.Polynomials.{poly_minus}
use Rattle.sc_definitions.specs.Products.{product_round}
use Rattle.sc_table.specs.Polys.{table_of}
use Rattle.sc_degree.specs.Provers.{IsFolded}
use Rattle.sc_degree.specs.Products.{prover_of, tables_of, product_arity}
use Rattle.sc_degree.proofs.PlayLaws.{sent_width}
use Rattle.sc_degree.proofs.TurnLaws.{Finds, finds-more, finds-here, finds-none, folded-rest, folded-whole, value-left}
use Rattle.sc_degree.proofs.CertifiedTurns.{certified-turn, some-turn}
use Rattle.sc_degree.proofs.turns.find_turn.Goals as goal

-- the honest values are as many as the degree
pub eval-next_truth-requires : goal.eval-next_truth-requires
eval-next_truth-requires g c =
    let e = g.EF.Field in
    ap length c.as_slice.ensures.value ∙ sent_width e.number e.ops _ _ _ c.in_ok-honest.ensures ∙ c.loop-i.invariant.degree ∙ sym c.degree.ensures
    ∙ sym c.in_ok-nodes.ensures

pub excess-requires-clause-honest : goal.excess-requires-clause-honest
excess-requires-clause-honest g c =
    let e = g.EF.Field in
    ap length c.as_slice-then-index.ensures.value ∙ sent_width e.number e.ops _ _ _ c.in_ok-honest.ensures ∙ c.loop-i.invariant.degree ∙ sym c.degree.ensures
    ∙ sym c.in_ok-nodes.ensures

-- the claim turns true here
pub returns-then-index-clause-found : goal.returns-then-index-clause-found
returns-then-index-clause-found g c =
    let e = g.EF.Field in
    let o = e.ops in
    let N = e.number in
    let first = c.args.product.now in
    let product = c.loop-i.product in
    let fs = tables_of N first in
    let gs = tables_of N product in
    let i = c.loop-i.i in
    let inv = c.loop-i.invariant in
    let m = product_arity product - 1 in
    let more : product_arity product ≡ suc m = omega (arith, inv.left, c.loop-i-test.true) in
    let y = c.index-messages-i.result in
    let x = c.index-challenges-i.result in
    let ms = c.args.messages.now in
    let rs = c.args.challenges.now in
    let sends : Vec g.row.EF.Denot Global → List ℕ = λ v. map N v.items in
    let found = subst (λ k. Finds o fs (product_arity first) gs k (N c.args.claim) (N c.loop-i.claim) (N c.loop-i.truth) i (map sends ms) (map N rs)) more inv.finds in
    let some : 1 ≤ length fs = omega (arith, length-map first.tables.items (table_of N), first.some, first.tables.ok.0) in
    let honest = c.in_ok-honest.honest.items in
    sym (finds-here o g.met.EF.Field.is_field fs gs (product_arity first) m some c.requires.few N sends ms rs i (N c.args.claim) (N c.loop-i.claim) (N c.loop-i.truth) found y x
    (omega (arith, c.loop-i-test.true, c.requires.rounds.messages, c.requires.rounds.challenges)) c.loop-i-test.true c.index-messages-i.is c.index-challenges-i.is
    (omega (arith, c.requires.rounds.messages, c.requires.rounds.challenges, inv.left, more)) (N c.eval-next.result) (N c.eval-next_truth.result)
    (c.eval-next.ensures ∙ ap (λ l. next_through o (N c.loop-i.claim) (map N l) (N x)) c.as_slice-values.ensures.value)
    (map N honest) c.in_ok-honest.ensures
    (c.eval-next_truth.ensures ∙ ap (λ l. next_through o (N c.loop-i.truth) (map N l) (N x)) c.as_slice.ensures.value)
    (sym c.index.ensures ∙ c.if-index.true ∙ c.index-in-loop-i.ensures) (map N c.in_ok-polynomial.polynomial)
    (c.in_ok-polynomial.ensures
    ∙ ap (λ l. poly_minus o (sent_through o (N c.loop-i.claim) (map N l)) (sent_through o (N c.loop-i.truth) (map N c.as_slice-then-index.result.now))) c.as_slice-values.ensures.value
    ∙ ap (λ l. poly_minus o (sent_through o (N c.loop-i.claim) (sends y)) (sent_through o (N c.loop-i.truth) (map N l))) c.as_slice-then-index.ensures.value))

-- and is certified where it was false
pub returns-then-index-clause-certified : goal.returns-then-index-clause-certified
returns-then-index-clause-certified g c = λ wrong.
    let e = g.EF.Field in
    let N = e.number in
    let first = c.args.product.now in
    let fs = tables_of N first in
    let some : 1 ≤ length fs = omega (arith, length-map first.tables.items (table_of N), first.some, first.tables.ok.0) in
    certified-turn e.ops g.met.EF.Field.is_field fs (product_arity first) some c.requires.few N (N c.args.claim) c.args.messages.now (map N c.args.challenges.now)
    (g.met.EF.Field.number_below c.args.claim) c.requires.rounds.messages c.requires.rounds.widths wrong _ (returns-then-index-clause-found g c)

pub returns-then-index-clause-bound : goal.returns-then-index-clause-bound
returns-then-index-clause-bound g c =
    let e = g.EF.Field in
    let N = e.number in
    let first = c.args.product.now in
    let last = c.fold_all.new.product in
    let rs = c.args.challenges.now in
    let folded =
    folded-rest N rs _ c.loop-i.i _ _ _ (take_all (length rs - c.loop-i.i) _ (omega (arith, length-drop c.loop-i.i rs))) c.loop-i.invariant.finds.folded c.fold_all.ensures in
    record {
      arity = omega (arith, folded.variables, length-map rs N, c.requires.rounds.challenges);
      value = value-left e.ops g.met.EF.Field.is_field.ring (tables_of N first) (tables_of N last) (product_arity first) (product_arity last) (map N rs)
          folded (length-map rs N ∙ c.requires.rounds.challenges);
    }

-- it does not
pub loop-i-preserved : goal.loop-i-preserved
loop-i-preserved g c =
    let e = g.EF.Field in
    let o = e.ops in
    let N = e.number in
    let first = c.args.product.now in
    let product = c.loop-i.product in
    let new = c.fold.new.self in
    let fs = tables_of N first in
    let gs = tables_of N product in
    let hs = tables_of N new in
    let i = c.loop-i.i in
    let inv = c.loop-i.invariant in
    let m = product_arity new in
    let more : product_arity product ≡ suc m = c.fold.ensures.variables ∙ omega arith in
    let one_less : product_arity product - 1 ≡ m = omega (arith, more) in
    let y = c.index-messages-i.result in
    let x = c.index-challenges-i.result in
    let ms = c.args.messages.now in
    let rs = c.args.challenges.now in
    let sends : Vec g.row.EF.Denot Global → List ℕ = λ v. map N v.items in
    let found = subst (λ k. Finds o fs (product_arity first) gs k (N c.args.claim) (N c.loop-i.claim) (N c.loop-i.truth) i (map sends ms) (map N rs)) more inv.finds in
    let some : 1 ≤ length fs = omega (arith, length-map first.tables.items (table_of N), first.some, first.tables.ok.0) in
    let honest = c.in_ok-honest.honest.items in
    record {
      left = omega (arith, inv.left, more);
      degree = c.fold.ensures.degree ∙ inv.degree;
      finds = finds-more o g.met.EF.Field.is_field fs gs (product_arity first) m some c.requires.few N sends ms rs i (N c.args.claim) (N c.loop-i.claim) (N c.loop-i.truth) found y x
          (omega (arith, c.loop-i-test.true, c.requires.rounds.messages, c.requires.rounds.challenges)) c.loop-i-test.true c.index-messages-i.is c.index-challenges-i.is
          (omega (arith, c.requires.rounds.messages, c.requires.rounds.challenges, inv.left, more)) (N c.eval-next.result) (N c.eval-next_truth.result)
          (c.eval-next.ensures ∙ ap (λ l. next_through o (N c.loop-i.claim) (map N l) (N x)) c.as_slice-values.ensures.value)
          (map N honest) (c.in_ok-honest.ensures ∙ ap (λ k. node_values o (length gs) (product_round o gs [] k)) one_less)
          (c.eval-next_truth.ensures ∙ ap (λ l. next_through o (N c.loop-i.truth) (map N l) (N x)) c.as_slice.ensures.value)
          (λ same. c.if-index.false (c.index.ensures ∙ same ∙ sym c.index-in-loop-i.ensures)) hs
          (subst (λ k. IsFolded (N x ∷ []) (prover_of o gs k) (prover_of o hs m)) more c.fold.ensures);
    }

-- it never does
pub returns-clause-found : goal.returns-clause-found
returns-clause-found g c =
    let e = g.EF.Field in
    let N = e.number in
    let ms = c.args.messages.now in
    sym (finds-none e.ops c.loop-i.i (map (λ v. map N v.items) ms) c.loop-i.invariant.finds
    (omega (arith, c.loop-i-test.false, c.requires.rounds.messages, c.requires.rounds.challenges, length-map ms (λ v. map N v.items))))

pub returns-clause-bound : goal.returns-clause-bound
returns-clause-bound g c =
    let e = g.EF.Field in
    let N = e.number in
    let first = c.args.product.now in
    let last = c.loop-i.product in
    let rs = c.args.challenges.now in
    record {
      arity = omega (arith, c.loop-i-test.false, c.loop-i.invariant.left);
      value = value-left e.ops g.met.EF.Field.is_field.ring (tables_of N first) (tables_of N last) (product_arity first) (product_arity last) (map N rs)
          (folded-whole (map N rs) c.loop-i.i _ _ (omega (arith, length-map rs N, c.loop-i-test.false)) c.loop-i.invariant.finds.folded)
          (length-map rs N ∙ c.requires.rounds.challenges);
    }

-- which cannot be where it was false and ends as the true one
pub returns-clause-some : goal.returns-clause-some
returns-clause-some g c = λ wrong right.
    let e = g.EF.Field in
    let N = e.number in
    let first = c.args.product.now in
    let fs = tables_of N first in
    let rs = c.args.challenges.now in
    let some : 1 ≤ length fs = omega (arith, length-map first.tables.items (table_of N), first.some, first.tables.ok.0) in
    absurd
    (some-turn e.ops g.met.EF.Field.is_field fs (product_arity first) some c.requires.few N (N c.args.claim) c.args.messages.now (map N rs)
    (g.met.EF.Field.number_below c.args.claim) c.requires.rounds.messages c.requires.rounds.widths wrong (length-map rs N ∙ c.requires.rounds.challenges) right (returns-clause-found g c))
