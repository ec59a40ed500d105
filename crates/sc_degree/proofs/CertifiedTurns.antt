-- A round that turns a false claim into the true one certifies that its challenge was lucky.
use Rattle.std.proofs.Common.{◌≡◌, ◌≢◌, ℕ, suc, ◌+◌, ◌<◌, ◌≤◌, List, [], ◌∷◌, All, length, map, Some, None, Vec, Global, sym, ◌∙◌, ap, subst, arith}
use Rattle.std.proofs.lemmas.List.{length-map}
use Rattle.std.proofs.lemmas.List.Elements.{All-head, All-tail}
use Rattle.sc_definitions.specs.Ring.{Ops, IsField, element}
use Rattle.sc_definitions.specs.Rounds.{claim_along}
use Rattle.sc_definitions.specs.Interpolation.{next_through}
use Rattle.sc_definitions.specs.Products.{values_product, product_claim}
use Rattle.sc_definitions.specs.Lucky.{product_course, Turn, first_turn, IsTurn}
use Rattle.sc_definitions.proofs.RingLaws.{element-small}
use Rattle.sc_definitions.proofs.ProductLaws.{product_claim-end}
use Rattle.sc_definitions.proofs.LuckyLaws.{AllSend, turns, first-certified, products_certify, IsWide}

-- messages of as many values each
all-wide : {X : Type 0} (number : X → ℕ) (n : ℕ) (ms : List (Vec X Global)) → All (λ m. length m.items ≡ n) ms →
    AllSend (λ values. length values ≡ n) (map (λ m. map number m.items) ms)
all-wide number n [] wide = tt
all-wide number n (m ∷ ms) wide =
    let W = λ (v : Vec _ Global). length v.items ≡ n in
    (length-map m.items number ∙ All-head W m ms wide, all-wide number n ms (All-tail W m ms wide))

-- rounds on tables of n variables, under a claim that is false
module _ (o : Ops) (field : IsField o) (fs : List (ℕ → ℕ)) (n : ℕ) (some : 1 ≤ length fs) (few : length fs < o.size) {X : Type 0} (number : X → ℕ) (claim : ℕ) (ms : List (Vec X Global))
    (rs : List ℕ) (low : claim < o.size) (count : length ms ≡ n) (wide : All (λ m. length m.items ≡ length fs) ms) (wrong : claim ≢ product_claim o fs [] n) where
  abbrev sent : List (List ℕ)
  sent = map (λ m. map number m.items) ms

  as-many : length sent ≡ n
  as-many = length-map ms (λ m. map number m.items) ∙ count

  false-first : element o claim ≢ product_claim o fs [] (length sent)
  false-first = λ e. wrong (sym (element-small o field.ring claim low) ∙ e ∙ ap (product_claim o fs []) as-many)

  -- a round that is found is certified
  pub certified-turn : (t : Turn) → Some t ≡ first_turn (product_course o fs) 0 claim sent [] rs → IsTurn o (length fs + 1) 0 rs t
  certified-turn t is =
      let more : suc (length fs) ≡ length fs + 1 = omega arith in
      subst (λ w. IsTurn o w 0 rs t) more
      (first-certified o (product_course o fs) (IsWide o field fs some few) (suc (length fs)) (products_certify o field fs some few) 0 claim sent [] rs t
      (all-wide number (length fs) ms wide) false-first (sym is))

  -- and there is one where the claim ends as the true one
  pub some-turn : length rs ≡ n → claim_along (next_through o) claim sent rs ≡ values_product o fs rs → None ≡ first_turn (product_course o fs) 0 claim sent [] rs → ⊥
  some-turn drawn right none =
      let found = turns o (product_course o fs) (IsWide o field fs some few) (suc (length fs)) (products_certify o field fs some few) 0 claim sent [] rs
      (as-many ∙ sym drawn) (all-wide number (length fs) ms wide) false-first (right ∙ sym (product_claim-end o field.ring fs rs)) in
      let both : None ≡ Some found.0 = none ∙ found.1 in cc
