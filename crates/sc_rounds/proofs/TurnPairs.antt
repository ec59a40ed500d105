-- Two tables and the pair that has their entries, and what certifies the round that turned a claim on them.
use Rattle.std.proofs.Common.{◌≡◌, ◌≢◌, ℕ, ◌<◌, List, [], ◌∷◌, length, map, Some, None, refl, sym, ◌∙◌, ap, subst}
use Rattle.std.proofs.lemmas.List.{length-map}
use Rattle.sc_definitions.specs.Ring.{Ops, IsField, element}
use Rattle.sc_definitions.specs.Tables.{Basis, Order, IsOffered, inner_product}
use Rattle.sc_definitions.specs.Rounds.{next_claim, claim_along}
use Rattle.sc_definitions.specs.TwoTables.{TwoTables, true_claim_on, end_of}
use Rattle.sc_definitions.specs.Lucky.{course_on, Turn, first_turn, IsTurn}
use Rattle.sc_definitions.proofs.RingLaws.{element-small}
use Rattle.sc_definitions.proofs.BuildLaws.{true_claim-end}
use Rattle.sc_definitions.proofs.LuckyLaws.{AllSend, IsPair, pairs_certify, first-certified, turns}
use Rattle.sc_definitions.proofs.TurnLaws.{walks-begin}
use Rattle.sc_rounds.specs.declared.product_polynomial.ProductPolynomial.{ProductPolynomial}
use Rattle.sc_rounds.specs.Products.{variables_in}
use Rattle.sc_rounds.specs.Turns.{IsPairOf, own_tables}

-- a basis is offered with an order, by other names of both
pub offered_as : {b b' : Basis} {o o' : Order} → b ≡ b' → o ≡ o' → IsOffered b' o' → IsOffered b o
offered_as {b} {b'} {o} {o'} eb eo offered = subst (λ k. IsOffered k o) (sym eb) (subst (IsOffered b') (sym eo) offered)

-- a pair has its own entries
pub own-pair : {F EF : Type 0} (number : EF → ℕ) (pair : ProductPolynomial F EF) → IsPairOf number (own_tables number pair) (variables_in pair) pair
own-pair number pair = record { basis = refl; order = refl; variables = refl; evals = λ b _. refl; weights = λ b _. refl }

-- messages of two values each
all-pairs : {Y : Type 0} (sends : Y → List ℕ) → ((y : Y) → length (sends y) ≡ 2) → (ms : List Y) → AllSend IsPair (map sends ms)
all-pairs sends two [] = tt
all-pairs sends two (m ∷ ms) = (two m, all-pairs sends two ms)

-- rounds on two tables of n variables, under a claim that is false
module _ (o : Ops) (field : IsField o) (t : TwoTables) (offered : IsOffered t.basis t.order) (n : ℕ) {Y : Type 0} (sends : Y → List ℕ) (two : (y : Y) → length (sends y) ≡ 2)
    (claim : ℕ) (ms : List Y) (rs : List ℕ) (low : claim < o.size) (count : length ms ≡ n) (wrong : claim ≢ inner_product o n t.table t.weights) where
  false-first : element o claim ≢ true_claim_on o t [] (length (map sends ms))
  false-first = λ e.
      let begun = walks-begin o field.ring t offered n t.table t.weights _ (λ b _. refl) (λ b _. refl) refl in
      wrong (sym (element-small o field.ring claim low) ∙ e ∙ ap (true_claim_on o t []) (length-map ms sends ∙ count) ∙ sym begun.truth)

  -- a round that is found is certified
  pub certified-turn : (u : Turn) → Some u ≡ first_turn (course_on o t) 0 claim (map sends ms) [] rs → IsTurn o 3 0 rs u
  certified-turn u is =
      first-certified o (course_on o t) IsPair 3 (pairs_certify o field t offered) 0 claim (map sends ms) [] rs u (all-pairs sends two ms) false-first (sym is)

  -- and there is one where the claim ends as the true one
  pub some-turn : length rs ≡ n → claim_along (next_claim t.basis o) claim (map sends ms) rs ≡ end_of o t rs → None ≡ first_turn (course_on o t) 0 claim (map sends ms) [] rs → ⊥
  unfolding end_of
  some-turn drawn right none =
      let found = turns o (course_on o t) IsPair 3 (pairs_certify o field t offered) 0 claim (map sends ms) [] rs
      (length-map ms sends ∙ count ∙ sym drawn) (all-pairs sends two ms) false-first (right ∙ sym (true_claim-end o field.ring t.basis t.order offered t.table t.weights rs)) in
      let both : None ≡ Some found.0 = none ∙ found.1 in cc
