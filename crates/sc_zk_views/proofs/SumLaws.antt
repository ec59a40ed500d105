-- What is known before a masked round: powers of two and of one half, and the mask of a wire.
use Rattle.std.proofs.Common.{◌≡◌, ℕ, zero, suc, ◌≤◌, List, [], ◌∷◌, ◌++◌, length, map, drop, get_or, sym, ◌∙◌, ap, refl, arith}
use Rattle.sc_definitions.specs.Ring.{Ops, IsRing, element, plus, minus, times, power}
use Rattle.sc_definitions.specs.Polynomials.{poly_scaled}
use Rattle.sc_definitions.proofs.RingLaws.{element-plus, element-zero, plus_comm, plus-zero, times-one}
use Rattle.sc_definitions.proofs.Power.{element-power}
use Rattle.sc_definitions.proofs.Identity.{atom, nought, unit, ◌⊕◌, ◌⊗◌, ◌⊖◌, Agree, identity, same_element}
use Rattle.sc_zk_definitions.specs.Masks.{two_power, sum_of, total_of, Piece}
use Rattle.sc_zk_definitions.specs.MaskedRuns.{IsHalf}
use Rattle.sc_zk_definitions.specs.Explained.{half_of, unmixing, explained_mask}
use Rattle.sc_zk_views.specs.declared.mask_sums.MaskSums.{MaskSums}
use Rattle.sc_zk_views.specs.Sums.{AreMaskSums}

module _ (o : Ops) (ring : IsRing o) where
  element-sum_of : (xs : List ℕ) → element o (sum_of o xs) ≡ sum_of o xs
  unfolding sum_of
  element-sum_of [] = element-zero o ring
  element-sum_of (x ∷ xs) = element-plus o ring x (sum_of o xs)

  -- one factor of a power less
  pub power-less : (b s n : ℕ) → times o b s ≡ 1 → times o (power o b (suc n)) s ≡ power o b n
  unfolding power Agree
  power-less b s n inv =
      let P = power o b n in
      identity o ring (b ∷ P ∷ s ∷ []) ((atom 0 ⊗ atom 1) ⊗ atom 2) (atom 1 ⊗ (atom 0 ⊗ atom 2)) tt tt refl
      ∙ ap (times o P) inv ∙ times-one o ring P ∙ element-power o ring b n

  -- the powers of a number and of one over it
  powers-cancel : (b s n : ℕ) → times o b s ≡ 1 → times o (power o b n) (power o s n) ≡ 1
  unfolding power Agree
  powers-cancel b s zero inv = identity o ring [] (unit ⊗ unit) unit tt tt refl
  powers-cancel b s (suc n) inv =
      identity o ring (b ∷ power o b n ∷ s ∷ power o s n ∷ []) ((atom 0 ⊗ atom 1) ⊗ (atom 2 ⊗ atom 3)) ((atom 0 ⊗ atom 2) ⊗ (atom 1 ⊗ atom 3)) tt tt refl
      ∙ ap (λ z. times o z (times o (power o b n) (power o s n))) inv
      ∙ ap (times o 1) (powers-cancel b s n inv)
      ∙ identity o ring [] (unit ⊗ unit) unit tt tt refl

  -- one endpoint fewer
  pub sum-less : (e : ℕ) (es : List ℕ) → minus o (sum_of o (e ∷ es)) e ≡ sum_of o es
  unfolding sum_of Agree
  sum-less e es =
      identity o ring (e ∷ sum_of o es ∷ []) ((atom 0 ⊕ atom 1) ⊖ atom 0) (nought ⊕ atom 1) tt tt refl
      ∙ plus_comm o ring 0 (sum_of o es) ∙ plus-zero o ring (sum_of o es) ∙ element-sum_of es

  -- the first endpoint, by what all of them sum up to
  pub sum-first : (all : ℕ) (es : List ℕ) → element o all ≡ all → all ≡ sum_of o (minus o all (sum_of o es) ∷ es)
  unfolding sum_of Agree
  sum-first all es small =
      sym small ∙ same_element o ring (all ∷ sum_of o es ∷ []) (atom 0) ((atom 0 ⊖ atom 1) ⊕ atom 1) refl
      ∙ element-plus o ring (minus o all (sum_of o es)) (sum_of o es)

  -- half the power of two for as many, times the sum of the endpoints
  pub half-total : (h : ℕ) (es : List ℕ) → IsHalf o h → times o (times o (two_power o (length es)) h) (sum_of o es) ≡ total_of o es
  unfolding total_of sum_of power Agree
  half-total h [] is = identity o ring (h ∷ []) ((unit ⊗ atom 0) ⊗ nought) nought tt tt refl
  half-total h (e ∷ es) is = ap (λ p. times o p (sum_of o (e ∷ es))) (power-less (plus o 1 1) h (length es) is)

  -- what the other masks make of a round's constant
  pub constant-is : (h f done s c : ℕ) (es : List ℕ) → IsHalf o h → f ≡ two_power o (length es) → s ≡ sum_of o es →
      c ≡ times o f (plus o done (times o h s)) → c ≡ plus o (times o f done) (total_of o es)
  unfolding Agree
  constant-is h f done s c es is f_is s_is c_is =
      c_is ∙ identity o ring (f ∷ done ∷ h ∷ s ∷ []) (atom 0 ⊗ (atom 1 ⊕ atom 2 ⊗ atom 3)) (atom 0 ⊗ atom 1 ⊕ (atom 0 ⊗ atom 2) ⊗ atom 3) tt tt refl
      ∙ ap (plus o (times o f done)) (ap (λ x. times o (times o x h) s) f_is ∙ ap (times o (times o (two_power o (length es)) h)) s_is ∙ half-total h es is)

  -- the total, divided by the power of two
  total-halved : (h : ℕ) (es : List ℕ) → IsHalf o h → times o (power o h (length es)) (total_of o es) ≡ times o h (sum_of o es)
  unfolding total_of sum_of power Agree
  total-halved h [] is = identity o ring (h ∷ []) (unit ⊗ nought) (atom 0 ⊗ nought) tt tt refl
  total-halved h (e ∷ es) is =
      let P = power o h (length es) in
      let K = two_power o (length es) in
      let S = plus o e (sum_of o es) in
      identity o ring (h ∷ P ∷ K ∷ S ∷ []) ((atom 0 ⊗ atom 1) ⊗ (atom 2 ⊗ atom 3)) ((atom 2 ⊗ atom 1) ⊗ (atom 0 ⊗ atom 3)) tt tt refl
      ∙ ap (λ z. times o z (times o h S)) (powers-cancel (plus o 1 1) h (length es) is)
      ∙ identity o ring (h ∷ S ∷ []) (unit ⊗ (atom 0 ⊗ atom 1)) (atom 0 ⊗ atom 1) tt tt refl

  -- the sum of multiples
  sum-scaled : (u : ℕ) (xs : List ℕ) → sum_of o (poly_scaled o u xs) ≡ times o u (sum_of o xs)
  unfolding sum_of poly_scaled Agree
  sum-scaled u [] = identity o ring (u ∷ []) nought (atom 0 ⊗ nought) tt tt refl
  sum-scaled u (x ∷ xs) =
      ap (plus o (times o u x)) (sum-scaled u xs)
      ∙ identity o ring (u ∷ x ∷ sum_of o xs ∷ []) (atom 0 ⊗ atom 1 ⊕ atom 0 ⊗ atom 2) (atom 0 ⊗ (atom 1 ⊕ atom 2)) tt tt refl

  -- the constant of a mask
  first-is : (h a done : ℕ) (es : List ℕ) → IsHalf o h →
      minus o (times o (power o h (length es)) a) (plus o done (times o h (sum_of o es)))
      ≡ minus o (times o (power o h (length es)) (minus o a (total_of o es))) done
  unfolding Agree
  first-is h a done es is =
      let u = power o h (length es) in
      ap (λ z. minus o (times o u a) (plus o done z)) (sym (total-halved h es is))
      ∙ identity o ring (u ∷ a ∷ done ∷ total_of o es ∷ []) (atom 0 ⊗ atom 1 ⊖ (atom 2 ⊕ atom 0 ⊗ atom 3)) (atom 0 ⊗ (atom 1 ⊖ atom 3) ⊖ atom 2) tt tt refl

  module _ {X : Type 0} (number : X → ℕ) where
    -- the mask of a wire, value by value
    pub mask-made : (m : MaskSums X) (left : List ℕ) → AreMaskSums o number (half_of o) left m → (eps e : ℕ) (p : Piece) (wire : List X) (w0 w1 c l s : X) (others total : ℕ)
        (v₁ v₂ v₃ : List X) (v₄ : List ℕ) → 2 ≤ length wire → w0 ≡ get_or wire 0 w0 → w1 ≡ get_or wire 1 w1 →
        others ≡ plus o (number m.done) (times o (number m.half) (number m.ends)) →
        number c ≡ minus o (times o (number m.factor) (minus o (number w0) (times o eps p.constant))) others →
        number s ≡ times o (number m.factor) (minus o (number w1) (times o eps p.leading)) →
        total ≡ sum_of o (map number (drop 2 wire)) →
        number l ≡ minus o (minus o e (plus o (number c) (number c))) (plus o (number s) (times o (number m.factor) total)) →
        v₁ ≡ c ∷ [] → v₂ ≡ v₁ ++ l ∷ [] → v₃ ≡ v₂ ++ s ∷ [] → v₄ ≡ map number v₃ ++ poly_scaled o (number m.factor) (map number (drop 2 wire)) →
        v₄ ≡ explained_mask o (unmixing (half_of o) eps) (number m.done) e left p (map number wire)
    unfolding explained_mask
    mask-made m left sums eps e p [] w0 w1 c l s others total v₁ v₂ v₃ v₄ long is0 is1 o_is c_is s_is t_is l_is p₁ p₂ p₃ p₄ = absurd (omega (arith, long))
    mask-made m left sums eps e p (x ∷ []) w0 w1 c l s others total v₁ v₂ v₃ v₄ long is0 is1 o_is c_is s_is t_is l_is p₁ p₂ p₃ p₄ = absurd (omega (arith, long))
    mask-made m left sums eps e p (x ∷ y ∷ rest) w0 w1 c l s others total v₁ v₂ v₃ v₄ long is0 is1 o_is c_is s_is t_is l_is p₁ p₂ p₃ p₄ =
        let h = half_of o in
        let u = power o h (length left) in
        let done = number m.done in
        let cs = poly_scaled o u (map number rest) in
        let halves : IsHalf o h = ap (times o (plus o 1 1)) (sym sums.half) ∙ sums.twice in
        let a = minus o (number x) (times o eps p.constant) in
        let c0 = minus o (times o u (minus o a (total_of o left))) done in
        let c2 = times o u (minus o (number y) (times o eps p.leading)) in
        let c1 = minus o (minus o e (plus o c0 c0)) (plus o c2 (sum_of o cs)) in
        let others_are : others ≡ plus o done (times o h (sum_of o left)) =
        o_is ∙ ap (λ z. plus o done (times o z (number m.ends))) sums.half ∙ ap (λ z. plus o done (times o h z)) sums.ends in
        let first : number c ≡ c0 =
        c_is ∙ ap (λ z. minus o (times o z (minus o (number w0) (times o eps p.constant))) others) sums.factor
        ∙ ap (λ z. minus o (times o u (minus o (number z) (times o eps p.constant))) others) is0
        ∙ ap (minus o (times o u a)) others_are ∙ first-is h a done left halves in
        let second : number s ≡ c2 =
        s_is ∙ ap (λ z. times o z (minus o (number w1) (times o eps p.leading))) sums.factor
        ∙ ap (λ z. times o u (minus o (number z) (times o eps p.leading))) is1 in
        let higher : times o (number m.factor) total ≡ sum_of o cs =
        ap (λ z. times o z total) sums.factor ∙ ap (times o u) t_is ∙ sym (sum-scaled u (map number rest)) in
        let third : number l ≡ c1 =
        l_is ∙ ap (λ z. minus o (minus o e (plus o z z)) (plus o (number s) (times o (number m.factor) total))) first
        ∙ ap (λ z. minus o (minus o e (plus o c0 c0)) (plus o z (times o (number m.factor) total))) second
        ∙ ap (λ z. minus o (minus o e (plus o c0 c0)) (plus o c2 z)) higher in
        p₄ ∙ ap (λ z. map number v₃ ++ poly_scaled o z (map number rest)) sums.factor
        ∙ ap (λ v. map number v ++ cs) (p₃ ∙ ap (λ v. v ++ s ∷ []) (p₂ ∙ ap (λ v. v ++ l ∷ []) p₁))
        ∙ ap (λ z. z ∷ number l ∷ number s ∷ cs) first ∙ ap (λ z. c0 ∷ z ∷ number s ∷ cs) third ∙ ap (λ z. c0 ∷ c1 ∷ z ∷ cs) second

-- the same endpoints, written otherwise
pub sums-same : {X : Type 0} (o : Ops) (number : X → ℕ) (b : ℕ) (m : MaskSums X) (xs ys : List ℕ) → xs ≡ ys → AreMaskSums o number b xs m → AreMaskSums o number b ys m
sums-same o number b m xs ys e is =
    record {
      half = is.half;
      twice = is.twice;
      step = is.step;
      factor = is.factor ∙ ap (λ l. power o b (length l)) e;
      ends = is.ends ∙ ap (sum_of o) e;
    }

-- the same base, written otherwise
pub base-same : {X : Type 0} (o : Ops) (number : X → ℕ) (a b : ℕ) (m : MaskSums X) (xs : List ℕ) → a ≡ b → AreMaskSums o number a xs m → AreMaskSums o number b xs m
base-same o number a b m xs e is =
    record {
      half = is.half;
      twice = is.twice;
      step = ap (λ x. times o x (number m.step)) (sym e) ∙ is.step;
      factor = is.factor ∙ ap (λ x. power o x (length xs)) e;
      ends = is.ends;
    }
