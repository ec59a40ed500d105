-- Where a challenge is lucky, a polynomial certifies it.
use Rattle.std.proofs.Common.{◌≡◌, ◌≢◌, ℕ, zero, suc, ◌+◌, ◌<◌, ◌≤◌, ◌^◌, List, [], ◌∷◌, ◌++◌, All, length, map, if◌then◌else◌, Some, sym, ◌∙◌, ap, refl, subst, arith, ⊎_elim, eq-eqb, ne_eqb, append_assoc}
use Rattle.std.specs.List.{slice_get}
use Rattle.std.proofs.lemmas.Bool.{cases_eq}
use Rattle.std.proofs.lemmas.List.{append-nil, length-map}
use Rattle.sc_definitions.specs.Ring.{Ops, IsRing, IsField, element, plus, times, opposite, minus, power}
use Rattle.sc_definitions.specs.Tables.{evaluation, projective, Basis, Order, IsOffered, inner_product, folded_by}
use Rattle.sc_definitions.specs.Rounds.{true_claim, slow_leading, round_polynomial, honest_message, sent_pair, sent_polynomial, next_claim, claim_along}
use Rattle.sc_definitions.specs.Polynomials.{poly_at, poly_minus, AllZero}
use Rattle.sc_definitions.specs.Roots.{root_count}
use Rattle.sc_definitions.specs.Statements.{Statement, true_value, IsTrueOf, AllTrueOf, batched_by_powers, claimed_values, true_values, weights_at, batched_weight, batched_claim}
use Rattle.sc_definitions.specs.Problem.{Problem, weights_of, claim_of, residual_of, eval_of, weight_value_of}
use Rattle.sc_definitions.specs.TwoTables.{TwoTables, tables_in, true_claim_on}
use Rattle.sc_definitions.specs.Lucky.{IsCertificate, after_zeros, excess, batch_polynomial, true_claim_of, round_excess, product_excess, Course, course_of, course_on, product_course, Turn, first_turn, IsTurn, LuckyChallenge, in_batch, luck_in, luck_of, IsRoundLuck, IsCertified}
use Rattle.sc_definitions.specs.Interpolation.{through, sent_through, next_through}
use Rattle.sc_definitions.specs.Products.{product_claim, product_round}
use Rattle.sc_definitions.proofs.RingLaws.{element-plus, element-small, plus-opposite, plus-element_left, plus-element_right}
use Rattle.sc_definitions.proofs.Identity.{atom, nought, unit, ◌⊕◌, ◌⊗◌, ◌⊖◌, Agree, identity, same_element}
use Rattle.sc_definitions.proofs.StatementLaws.{element-batched_by_powers}
use Rattle.sc_definitions.proofs.PowerSums.{poly_at-zeros}
use Rattle.sc_definitions.proofs.PolyLaws.{poly_at-minus, length-minus}
use Rattle.sc_definitions.proofs.RootLaws.{same-from_minus, element-poly_at}
use Rattle.sc_definitions.proofs.RootCount.{root_count-bound, last_place}
use Rattle.sc_definitions.proofs.InterpolationLaws.{length-through, through-at, same_value}
use Rattle.sc_definitions.proofs.ProductLaws.{product_round-at, product_claim-split, product_round-length}
use Rattle.sc_definitions.proofs.BuildLaws.{inner_product-batched_by_powers, true_claim-end}
use Rattle.sc_definitions.proofs.RoundLaws.{true_claim-inner, true_claim-next, round_polynomial-values}
use Rattle.sc_definitions.proofs.Sums.{element-sum}
use Rattle.std.specs.Option.{option_map}
use Rattle.std.proofs.lemmas.Option.{same_Some}
use Rattle.sc_definitions.proofs.TurnLaws.{turn-here, turn-later}

-- ---- certificates

module _ (o : Ops) (field : IsField o) where
  -- a polynomial that is not zero and vanishes at r is one
  pub certifies : (r : ℕ) (cs : List ℕ) → (AllZero o cs → ⊥) → poly_at o cs r ≡ 0 → IsCertificate o r cs (root_count o cs)
  certifies r cs some vanishes =
      let found = last_place o cs some in
      record {
        not_zero = some;
        vanishes = vanishes;
        count = refl;
        degree = found.0;
        last = found.1;
        few = root_count-bound o field cs found.0 found.1;
      }

module _ (o : Ops) (ring : IsRing o) where
  minus-same : (x y : ℕ) → x ≡ y → minus o x y ≡ 0
  minus-same x y e = ap (minus o x) (sym e) ∙ plus-opposite o ring x

  -- ---- the batching challenge

  -- the batch of the excesses is what the batch of the claims exceeds that of the true values by
  excess-sum : (n : ℕ) (f : ℕ → ℕ) (c p : ℕ) (ss : List Statement) →
      batched_by_powers o c p (map (excess o n f) ss) ≡ minus o (batched_by_powers o c p (claimed_values ss)) (batched_by_powers o c p (true_values o n f ss))
  unfolding batched_by_powers excess Agree
  excess-sum n f c p [] = identity o ring [] nought (nought ⊖ nought) tt tt refl
  excess-sum n f c p (s ∷ ss) =
      let P = atom 0 in let A = atom 1 in let B = atom 2 in let S = atom 3 in let T = atom 4 in
      ap (plus o (times o (power o c p) (minus o s.claimed (true_value o n f s.kind)))) (excess-sum n f c (suc p) ss)
      ∙ identity o ring (power o c p ∷ s.claimed ∷ true_value o n f s.kind ∷ batched_by_powers o c (suc p) (claimed_values ss) ∷ batched_by_powers o c (suc p) (true_values o n f ss) ∷ [])
      (P ⊗ (A ⊖ B) ⊕ (S ⊖ T)) ((P ⊗ A ⊕ S) ⊖ (P ⊗ B ⊕ T)) tt tt refl

  pub batch-at : (p : Problem) → poly_at o (batch_polynomial o p) p.batching ≡ minus o (claim_of o p) (true_claim_of o p [] p.variables)
  unfolding batch_polynomial claim_of weights_of batched_claim batched_weight folded_by
  batch-at p =
      let c = p.batching in let i = p.initial in let n = p.variables in let f = p.table in let ss = p.statements in
      poly_at-zeros o ring i (map (excess o n f) ss) c ∙ excess-sum n f c i ss
      ∙ ap (minus o (batched_by_powers o c i (claimed_values ss)))
      (sym (inner_product-batched_by_powers o ring n f c i ss) ∙ sym (true_claim-inner o ring p.basis p.order f (λ b. batched_by_powers o c i (weights_at o ss b)) [] n))

  -- where no statement exceeds its true value, all are true
  zeros-last : (n : ℕ) (xs : List ℕ) → AllZero o (after_zeros n xs) → AllZero o xs
  zeros-last zero xs h = h
  zeros-last (suc n) xs h = zeros-last n xs h.1

  none-exceeds : (n : ℕ) (f : ℕ → ℕ) (ss : List Statement) → All (λ c. c < o.size) (claimed_values ss) → AllZero o (map (excess o n f) ss) → AllTrueOf o n f ss
  unfolding excess IsTrueOf true_value inner_product
  none-exceeds n f [] low zeros = tt
  none-exceeds n f (s ∷ ss) low zeros =
      let v = true_value o n f s.kind in
      let same : element o s.claimed ≡ element o v = same-from_minus o ring s.claimed v (sym (element-plus o ring s.claimed (opposite o v)) ∙ zeros.0) in
      let whole : element o v ≡ v = element-sum o ring (2 ^ n) _ in (
        sym whole ∙ sym same ∙ element-small o ring s.claimed (low 0 0 (omega arith)),
        none-exceeds n f ss (λ k d less. low (suc k) d (omega (arith, less))) zeros.1,
      )

  pub batch-some : (p : Problem) → All (λ c. c < o.size) (claimed_values p.statements) → (AllTrueOf o p.variables p.table p.statements → ⊥) → AllZero o (batch_polynomial o p) → ⊥
  unfolding batch_polynomial
  batch-some p low some zeros = some (none-exceeds p.variables p.table p.statements low (zeros-last p.initial (map (excess o p.variables p.table) p.statements) zeros))

  -- ---- the challenges of rounds

  three_sent : (basis : Basis) (claim c q : ℕ) → length (sent_polynomial basis o claim (c ∷ q ∷ [])) ≡ 3
  unfolding sent_polynomial sent_pair
  three_sent evaluation claim c q = refl
  three_sent projective claim c q = refl

  three_slow : (basis : Basis) (order : Order) (f w : ℕ → ℕ) (rs : List ℕ) (m : ℕ) → length (round_polynomial basis order o f w rs m) ≡ 3
  unfolding round_polynomial
  three_slow basis order f w rs m = refl

  -- what a round sends exceeds the true polynomial, at its challenge, by as much as the next claim exceeds the true one
  pub excess-at : (t : TwoTables) → IsOffered t.basis t.order → (claim c q : ℕ) (rs : List ℕ) (m r : ℕ) →
      poly_at o (round_excess o t claim (c ∷ q ∷ []) rs m) r ≡ minus o (next_claim t.basis o claim (c ∷ q ∷ []) r) (true_claim_on o t (rs ++ r ∷ []) m)
  unfolding round_excess next_claim
  excess-at t offered claim c q rs m r =
      let S = sent_polynomial t.basis o claim (c ∷ q ∷ []) in
      let T = round_polynomial t.basis t.order o t.table t.weights rs m in
      poly_at-minus o ring S T r (three_sent t.basis claim c q ∙ sym (three_slow t.basis t.order t.table t.weights rs m))
      ∙ ap (minus o (poly_at o S r)) (sym (round_polynomial-values o ring t.basis t.order offered t.table t.weights rs m r))

  pub excess-length : (t : TwoTables) (claim c q : ℕ) (rs : List ℕ) (m : ℕ) → length (round_excess o t claim (c ∷ q ∷ []) rs m) ≡ 3
  unfolding round_excess
  excess-length t claim c q rs m =
      length-minus o ring (sent_polynomial t.basis o claim (c ∷ q ∷ [])) (round_polynomial t.basis t.order o t.table t.weights rs m)
      (three_sent t.basis claim c q ∙ sym (three_slow t.basis t.order t.table t.weights rs m))
      ∙ three_slow t.basis t.order t.table t.weights rs m

  zero_minus : (x y : ℕ) → element o (minus o x y) ≡ 0 → minus o x y ≡ 0
  zero_minus x y e = sym (element-plus o ring x (opposite o y)) ∙ e

  -- where it exceeds it nowhere the claim is the true one
  pub claims-same : (basis : Basis) (order : Order) → IsOffered basis order → (f w : ℕ → ℕ) (claim c q : ℕ) (rs : List ℕ) (m : ℕ) →
      AllZero o (poly_minus o (sent_polynomial basis o claim (c ∷ q ∷ [])) (round_polynomial basis order o f w rs m)) →
      element o claim ≡ element o (true_claim basis order o f w rs (suc m))
  unfolding poly_minus sent_polynomial sent_pair round_polynomial next_claim honest_message poly_at Agree
  claims-same evaluation order offered f w claim c q rs m zeros =
      let t = true_claim evaluation order o f w rs (suc m) in
      let a = true_claim evaluation order o f w (rs ++ 0 ∷ []) m in
      let b = true_claim evaluation order o f w (rs ++ 1 ∷ []) m in
      let l = slow_leading evaluation order o f w rs m in
      let K = atom 0 in let C = atom 1 in let Q = atom 2 in let T = atom 3 in let A = atom 4 in let L = atom 5 in let B = atom 6 in
      let linear = minus o (minus o (minus o claim c) c) q in
      let d0 = minus o c a in let d1 = minus o linear (minus o (minus o b a) l) in let d2 = minus o q l in
      let z0 : d0 ≡ 0 = zero_minus c a zeros.0 in
      let z1 : d1 ≡ 0 = zero_minus linear (minus o (minus o b a) l) zeros.1.0 in
      let z2 : d2 ≡ 0 = zero_minus q l zeros.1.1.0 in
      let at_one : b ≡ plus o a (times o 1 (plus o (minus o (minus o (minus o t a) a) l) (times o 1 (plus o l (times o 1 0))))) =
      true_claim-next o ring evaluation order offered f w rs 1 m in
      let both : element o t ≡ element o (plus o a b) =
      same_element o ring (t ∷ a ∷ l ∷ []) (atom 0) (atom 1 ⊕ (atom 1 ⊕ unit ⊗ ((((atom 0 ⊖ atom 1) ⊖ atom 1) ⊖ atom 2) ⊕ unit ⊗ (atom 2 ⊕ unit ⊗ nought)))) refl
      ∙ ap (λ x. element o (plus o a x)) (sym at_one) in
      same_element o ring (claim ∷ c ∷ q ∷ t ∷ a ∷ l ∷ b ∷ []) K
      ((A ⊕ B) ⊕ (((C ⊖ A) ⊕ (C ⊖ A)) ⊕ (((((K ⊖ C) ⊖ C) ⊖ Q) ⊖ ((B ⊖ A) ⊖ L)) ⊕ (Q ⊖ L)))) refl
      ∙ ap (λ d. element o (plus o (plus o a b) (plus o (plus o d d) (plus o d1 d2)))) z0
      ∙ ap (λ d. element o (plus o (plus o a b) (plus o (plus o 0 0) (plus o d d2)))) z1
      ∙ ap (λ d. element o (plus o (plus o a b) (plus o (plus o 0 0) (plus o 0 d)))) z2
      ∙ same_element o ring (a ∷ b ∷ []) ((atom 0 ⊕ atom 1) ⊕ ((nought ⊕ nought) ⊕ (nought ⊕ nought))) (atom 0 ⊕ atom 1) refl
      ∙ sym both
  claims-same projective order offered f w claim c q rs m zeros =
      let t = true_claim projective order o f w rs (suc m) in
      let a = true_claim projective order o f w (rs ++ 0 ∷ []) m in
      let v = true_claim projective order o f w (rs ++ 1 ∷ []) m in
      let l = slow_leading projective order o f w rs m in
      let K = atom 0 in let Q = atom 1 in let A = atom 2 in let L = atom 3 in
      let d0 = minus o (minus o claim q) a in let d2 = minus o q l in
      let z0 : d0 ≡ 0 = zero_minus (minus o claim q) a zeros.0 in
      let z2 : d2 ≡ 0 = zero_minus q l zeros.1.1.0 in
      let at_zero : a ≡ plus o (minus o t l) (times o 0 (plus o (minus o v t) (times o 0 (plus o l (times o 0 0))))) =
      true_claim-next o ring projective order offered f w rs 0 m in
      let both : element o t ≡ element o (plus o a l) =
      same_element o ring (t ∷ v ∷ l ∷ []) (atom 0) (((atom 0 ⊖ atom 2) ⊕ nought ⊗ ((atom 1 ⊖ atom 0) ⊕ nought ⊗ (atom 2 ⊕ nought ⊗ nought))) ⊕ atom 2) refl
      ∙ ap (λ x. element o (plus o x l)) (sym at_zero) in
      same_element o ring (claim ∷ q ∷ a ∷ l ∷ []) K ((A ⊕ L) ⊕ (((K ⊖ Q) ⊖ A) ⊕ (Q ⊖ L))) refl
      ∙ ap (λ d. element o (plus o (plus o a l) (plus o d d2))) z0
      ∙ ap (λ d. element o (plus o (plus o a l) (plus o 0 d))) z2
      ∙ same_element o ring (a ∷ l ∷ []) ((atom 0 ⊕ atom 1) ⊕ (nought ⊕ nought)) (atom 0 ⊕ atom 1) refl
      ∙ sym both

  pub element-true : (basis : Basis) (order : Order) (f w : ℕ → ℕ) (rs : List ℕ) (m : ℕ) → element o (true_claim basis order o f w rs m) ≡ true_claim basis order o f w rs m
  unfolding true_claim inner_product
  element-true basis order f w rs m = element-sum o ring (2 ^ m) _

  pub element-next : (basis : Basis) (claim : ℕ) (message : List ℕ) (r : ℕ) → element o (next_claim basis o claim message r) ≡ next_claim basis o claim message r
  unfolding next_claim
  element-next basis claim message r = element-poly_at o ring (sent_polynomial basis o claim message) r

module _ (o : Ops) (field : IsField o) (p : Problem) where
  -- where the batched claim is the true one although a statement is false, the batching challenge was lucky
  pub batch_certifies : All (λ c. c < o.size) (claimed_values p.statements) → (AllTrueOf o p.variables p.table p.statements → ⊥) →
      claim_of o p ≡ true_claim_of o p [] p.variables → IsCertificate o p.batching (batch_polynomial o p) (root_count o (batch_polynomial o p))
  batch_certifies low some right =
      certifies o field p.batching (batch_polynomial o p) (batch-some o field.ring p low some) (batch-at o field.ring p ∙ minus-same o field.ring _ _ right)

module _ (o : Ops) (field : IsField o) (t : TwoTables) (offered : IsOffered t.basis t.order) where
  -- the round before whose challenge a claim is false and after which it is true certifies that the challenge was lucky
  round_certifies : (claim : ℕ) (message : List ℕ) (rs : List ℕ) (m r : ℕ) → length message ≡ 2 → element o claim ≢ true_claim_on o t rs (suc m) →
      next_claim t.basis o claim message r ≡ true_claim_on o t (rs ++ r ∷ []) m →
      IsCertificate o r (round_excess o t claim message rs m) (root_count o (round_excess o t claim message rs m)) × (length (round_excess o t claim message rs m) ≡ 3)
  unfolding round_excess
  round_certifies claim [] rs m r two wrong right = absurd (omega (arith, two))
  round_certifies claim (c ∷ []) rs m r two wrong right = absurd (omega (arith, two))
  round_certifies claim (c ∷ (q ∷ (x ∷ xs))) rs m r two wrong right = absurd (omega (arith, two))
  round_certifies claim (c ∷ (q ∷ [])) rs m r two wrong right = (
    certifies o field r (round_excess o t claim (c ∷ q ∷ []) rs m)
        (λ zeros. wrong (claims-same o field.ring t.basis t.order offered t.table t.weights claim c q rs m zeros
        ∙ element-true o field.ring t.basis t.order t.table t.weights rs (suc m)))
        (excess-at o field.ring t offered claim c q rs m r ∙ minus-same o field.ring _ _ right),
    excess-length o field.ring t claim c q rs m,
  )

-- ---- the first round that turns a false claim into the true one

-- each message is one of these
abbrev pub AllSend : (List ℕ → Type 0) → List (List ℕ) → Type 0
AllSend Sends [] = Unit {0}
AllSend Sends (message ∷ messages) = Sends message × AllSend Sends messages

-- claims are elements, and a round that turns one certifies that its challenge was lucky
pub record Certifies (o : Ops) (k : Course) (Sends : List ℕ → Type 0) (width : ℕ) : Type 0 where
  pub next_element : (claim : ℕ) (message : List ℕ) (r : ℕ) → element o (k.next claim message r) ≡ k.next claim message r
  pub true_element : (rs : List ℕ) (m : ℕ) → element o (k.true_after rs m) ≡ k.true_after rs m
  pub round : (claim : ℕ) (message : List ℕ) (rs : List ℕ) (m r : ℕ) → Sends message → element o claim ≢ k.true_after rs (suc m) →
      k.next claim message r ≡ k.true_after (rs ++ r ∷ []) m →
      IsCertificate o r (k.excess claim message rs m) (root_count o (k.excess claim message rs m)) × (length (k.excess claim message rs m) ≡ width)

module _ (o : Ops) (k : Course) (Sends : List ℕ → Type 0) (width : ℕ) (c : Certifies o k Sends width) where
  turn_later : (i r : ℕ) (rs : List ℕ) (t : Turn) → IsTurn o width (suc i) rs t → IsTurn o width i (r ∷ rs) t
  turn_later i r rs t later = record {
    place = suc later.place;
    round = omega (arith, later.round);
    challenge = later.challenge;
    drawn = later.drawn;
    certificate = later.certificate;
    coefficients = later.coefficients;
  }

  -- a round that is found after a false claim is certified
  pub first-certified : (i claim : ℕ) (messages : List (List ℕ)) (before rs : List ℕ) (t : Turn) → AllSend Sends messages →
      element o claim ≢ k.true_after before (length messages) → first_turn k i claim messages before rs ≡ Some t → IsTurn o width i rs t
  unfolding first_turn
  first-certified i claim [] before rs t send wrong is = cc
  first-certified i claim (message ∷ messages) before [] t send wrong is = cc
  first-certified i claim (message ∷ messages) before (r ∷ rs) t send wrong is =
      let m = length messages in
      ⊎_elim
      (λ now.
      let certified = c.round claim message before m r send.0 wrong now in
      subst (IsTurn o width i (r ∷ rs)) (same_Some _ _ (sym (turn-here k i claim message messages before r rs now) ∙ is))
      (record {
        place = 0;
        round = omega arith;
        challenge = r;
        drawn = refl;
        certificate = certified.0;
        coefficients = certified.1;
      }))
      (λ later.
      turn_later i r rs t
      (first-certified (suc i) (k.next claim message r) messages (before ++ r ∷ []) rs t send.1 (λ e. later (sym (c.next_element claim message r) ∙ e))
      (sym (turn-later k i claim message messages before r rs later) ∙ is)))
      (cases_eq (k.next claim message r) (k.true_after (before ++ r ∷ []) m))

  -- and there is one where the last claim is the true one
  pub turns : (i claim : ℕ) (messages : List (List ℕ)) (before rs : List ℕ) → length messages ≡ length rs → AllSend Sends messages →
      element o claim ≢ k.true_after before (length messages) → claim_along k.next claim messages rs ≡ k.true_after (before ++ rs) 0 →
      (t : Turn) × (first_turn k i claim messages before rs ≡ Some t) × IsTurn o width i rs t
  unfolding first_turn claim_along
  turns i claim [] before [] same send wrong right =
      absurd (wrong (ap (element o) (right ∙ ap (λ l. k.true_after l 0) (append-nil before)) ∙ c.true_element before 0))
  turns i claim [] before (r ∷ rs) same send wrong right = absurd (omega (arith, same))
  turns i claim (message ∷ messages) before [] same send wrong right = absurd (omega (arith, same))
  turns i claim (message ∷ messages) before (r ∷ rs) same send wrong right =
      let next = k.next claim message r in
      let m = length messages in
      let here : Turn = record { round = i; polynomial = k.excess claim message before m } in
      let rest = first_turn k (suc i) next messages (before ++ r ∷ []) rs in
      ⊎_elim
      (λ now.
      let certified = c.round claim message before m r send.0 wrong now in (
        here,
        ap (λ b. if b then Some here else rest) (eq-eqb _ _ now),
        record {
          place = 0;
          round = omega arith;
          challenge = r;
          drawn = refl;
          certificate = certified.0;
          coefficients = certified.1;
        },
      ))
      (λ later.
      let found = turns (suc i) next messages (before ++ r ∷ []) rs (omega (arith, same)) send.1
      (λ e. later (sym (c.next_element claim message r) ∙ e))
      (right ∙ ap (λ l. k.true_after l 0) (sym (append_assoc before (r ∷ []) rs))) in
      (found.0, ap (λ b. if b then Some here else rest) (ne_eqb _ _ later) ∙ found.1, turn_later i r rs found.0 found.2))
      (cases_eq next (k.true_after (before ++ r ∷ []) m))

-- the rounds on two tables, which send pairs
abbrev pub IsPair : List ℕ → Type 0
IsPair message = length message ≡ 2

pub pairs_certify : (o : Ops) → IsField o → (t : TwoTables) → IsOffered t.basis t.order → Certifies o (course_on o t) IsPair 3
pairs_certify o field t offered = record {
  next_element = element-next o field.ring t.basis;
  true_element = element-true o field.ring t.basis t.order t.table t.weights;
  round = round_certifies o field t offered;
}

-- ---- the rounds of a product, which send as many values as there are tables

module _ (o : Ops) (field : IsField o) (fs : List (ℕ → ℕ)) (some : 1 ≤ length fs) (few : length fs < o.size) where
  abbrev pub IsWide : List ℕ → Type 0
  IsWide values = length values ≡ length fs

  length-sent : (claim : ℕ) (values : List ℕ) → IsWide values → length (sent_through o claim values) ≡ suc (length fs)
  unfolding sent_through
  length-sent claim [] wide = absurd (omega (arith, wide, some))
  length-sent claim (v ∷ vs) wide = length-through o field.ring v (minus o claim v ∷ vs) ∙ ap suc wide

  element-through : (claim : ℕ) (values : List ℕ) (r : ℕ) → element o (next_through o claim values r) ≡ next_through o claim values r
  unfolding next_through
  element-through claim values r = element-poly_at o field.ring (sent_through o claim values) r

  element-product : (rs : List ℕ) (m : ℕ) → element o (product_claim o fs rs m) ≡ product_claim o fs rs m
  unfolding product_claim
  element-product rs m = element-sum o field.ring (2 ^ m) _

  -- the values at 0 and 1 are the claim in sum
  sent-sum : (claim : ℕ) (values : List ℕ) → IsWide values → plus o (poly_at o (sent_through o claim values) 0) (poly_at o (sent_through o claim values) 1) ≡ element o claim
  unfolding sent_through Agree
  sent-sum claim [] wide = absurd (omega (arith, wide, some))
  sent-sum claim (v ∷ vs) wide =
      let ys = v ∷ minus o claim v ∷ vs in
      let long : length ys ≤ o.size = omega (arith, wide, few) in
      let both : plus o v (minus o claim v) ≡ element o claim =
      sym (element-plus o field.ring v (minus o claim v)) ∙ same_element o field.ring (v ∷ claim ∷ []) (atom 0 ⊕ (atom 1 ⊖ atom 0)) (atom 1) refl in
      ap (λ a. plus o a (poly_at o (through o ys) 1)) (through-at o field ys 0 (omega arith) long)
      ∙ ap (plus o (element o v)) (through-at o field ys 1 (omega arith) long)
      ∙ plus-element_left o field.ring v (element o (minus o claim v)) ∙ plus-element_right o field.ring v (minus o claim v) ∙ both

  -- where what is sent exceeds the true polynomial nowhere the claim is the true one
  product-same : (claim : ℕ) (values : List ℕ) (rs : List ℕ) (m : ℕ) → IsWide values → AllZero o (product_excess o fs claim values rs m) →
      element o claim ≡ product_claim o fs rs (suc m)
  unfolding product_excess
  product-same claim values rs m wide zeros =
      let S = sent_through o claim values in
      let T = product_round o fs rs m in
      let long : length S ≡ length T = length-sent claim values wide ∙ sym (product_round-length o field.ring fs rs m) in
      sym (sent-sum claim values wide)
      ∙ ap (λ a. plus o a (poly_at o S 1)) (same_value o field S T 0 long zeros)
      ∙ ap (plus o (poly_at o T 0)) (same_value o field S T 1 long zeros)
      ∙ sym (product_claim-split o field.ring fs rs m)

  product_certifies : (claim : ℕ) (values rs : List ℕ) (m r : ℕ) → IsWide values → element o claim ≢ product_claim o fs rs (suc m) →
      next_through o claim values r ≡ product_claim o fs (rs ++ r ∷ []) m →
      IsCertificate o r (product_excess o fs claim values rs m) (root_count o (product_excess o fs claim values rs m))
      × (length (product_excess o fs claim values rs m) ≡ suc (length fs))
  unfolding product_excess next_through
  product_certifies claim values rs m r wide wrong right =
      let S = sent_through o claim values in
      let T = product_round o fs rs m in
      let long : length S ≡ length T = length-sent claim values wide ∙ sym (product_round-length o field.ring fs rs m) in (
        certifies o field r (poly_minus o S T) (λ zeros. wrong (product-same claim values rs m wide zeros))
            (poly_at-minus o field.ring S T r long ∙ ap (minus o (poly_at o S r)) (product_round-at o field.ring fs rs m r) ∙ minus-same o field.ring _ _ right),
        length-minus o field.ring S T long ∙ product_round-length o field.ring fs rs m,
      )

  pub products_certify : Certifies o (product_course o fs) IsWide (suc (length fs))
  products_certify = record { next_element = element-through; true_element = element-product; round = product_certifies }

-- ---- the first lucky challenge

length-zeros : (n : ℕ) (xs : List ℕ) → length (after_zeros n xs) ≡ n + length xs
length-zeros zero xs = omega arith
length-zeros (suc n) xs = ap suc (length-zeros n xs) ∙ omega arith

length-batch : (o : Ops) (p : Problem) → length (batch_polynomial o p) ≡ p.initial + length p.statements
unfolding batch_polynomial
length-batch o p = length-zeros p.initial (map (excess o p.variables p.table) p.statements) ∙ ap (λ n. p.initial + n) (length-map p.statements (excess o p.variables p.table))

module _ (o : Ops) (field : IsField o) (p : Problem) (offered : IsOffered p.basis p.order) where
  round_luck : (rs : List ℕ) (t : Turn) → IsTurn o 3 0 rs t → IsRoundLuck o rs t.round t.polynomial (root_count o t.polynomial)
  round_luck rs t turn = record {
    challenge = turn.challenge;
    drawn = (let at : t.round ≡ turn.place = turn.round ∙ omega arith in ap (slice_get rs) at ∙ turn.drawn);
    certificate = turn.certificate;
    three = turn.coefficients;
  }

  -- Where rounds leave the product of the two values although a statement is false, a challenge was lucky, and is certified.
  pub luck-certified : All (λ c. c < o.size) (claimed_values p.statements) → (AllTrueOf o p.variables p.table p.statements → ⊥) →
      (messages : List (List ℕ)) (rs : List ℕ) → length messages ≡ p.variables → length rs ≡ p.variables → AllSend IsPair messages →
      residual_of o p messages rs ≡ times o (eval_of o p rs) (weight_value_of o p rs) →
      (l : LuckyChallenge) × (luck_of o p messages rs ≡ Some l) × IsCertified o p rs l
  unfolding luck_of residual_of eval_of weight_value_of claim_of batched_claim
  luck-certified low some messages rs count drawn pairs right =
      let ring = field.ring in
      let n = p.variables in
      let batch = in_batch (batch_polynomial o p) (root_count o (batch_polynomial o p)) in
      let rest = option_map (luck_in o) (first_turn (course_of o p) 0 (claim_of o p) messages [] rs) in
      ⊎_elim
      (λ same. (batch, ap (λ b. if b then Some batch else rest) (eq-eqb _ _ same), (batch_certifies o field p low some same, length-batch o p)))
      (λ other.
      let whole : element o (claim_of o p) ≡ claim_of o p = element-batched_by_powers o ring p.batching p.initial (claimed_values p.statements) in
      let wrong : element o (claim_of o p) ≢ true_claim_of o p [] (length messages) =
      λ e. other (sym whole ∙ e ∙ ap (true_claim_of o p []) count) in
      let end : claim_along (next_claim p.basis o) (claim_of o p) messages rs ≡ true_claim_of o p ([] ++ rs) 0 =
      right ∙ sym (true_claim-end o ring p.basis p.order offered p.table (weights_of o p) rs) in
      let found = turns o (course_of o p) IsPair 3 (pairs_certify o field (tables_in o p) offered) 0 (claim_of o p) messages [] rs (count ∙ sym drawn) pairs wrong end in
      (luck_in o found.0, ap (λ b. if b then Some batch else rest) (ne_eqb _ _ other) ∙ ap (option_map (luck_in o)) found.1, round_luck rs found.0 found.2))
      (cases_eq (claim_of o p) (true_claim_of o p [] n))
