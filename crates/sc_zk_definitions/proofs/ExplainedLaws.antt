-- Every view, with all endpoints but the first, has masks that explain it.
use Rattle.std.proofs.Common.{◌≡◌, ℕ, zero, suc, ◌<◌, ◌≤◌, List, [], ◌∷◌, length, map, drop, All, sym, ◌∙◌, ap, refl, arith}
use Rattle.std.proofs.lemmas.List.Elements.{All-nil, All-cons}
use Rattle.sc_definitions.specs.Ring.{Ops, IsRing, IsField, plus, times, minus, opposite, power}
use Rattle.sc_definitions.specs.Polynomials.{poly_at, poly_scaled}
use Rattle.sc_zk_definitions.specs.Masks.{masks_total, Piece, two_power, sum_of, endpoint, total_of, masked_round, masked_rounds, wire_of}
use Rattle.sc_zk_definitions.specs.Views.{view_of, later_endpoints, AreListsOf}
use Rattle.sc_zk_definitions.specs.Explained.{half_of, unmixing, explained_mask, explained_masks, first_endpoint, explained, ViewsAreExplained}
use Rattle.sc_definitions.proofs.RingLaws.{element-plus, element-small, plus_below, times_below, times-one}
use Rattle.sc_definitions.proofs.PolyLaws.{length-scaled}
use Rattle.sc_definitions.proofs.InterpolationLaws.{inverse-product}
use Rattle.sc_definitions.proofs.Identity.{atom, unit, ◌⊕◌, ◌⊗◌, ◌⊖◌, Agree, identity, same_element}
use Rattle.sc_zk_definitions.proofs.MaskLaws.{total-endpoints}
use Rattle.sc_zk_definitions.proofs.ToldLaws.{wire-parts}

module _ (o : Ops) (ring : IsRing o) (half : ℕ) (halves : times o (plus o 1 1) half ≡ 1) where
  -- the powers of two and of one half
  power-halves : (n : ℕ) → times o (two_power o n) (power o half n) ≡ 1
  unfolding power Agree
  power-halves zero = identity o ring [] (unit ⊗ unit) unit tt tt refl
  power-halves (suc n) =
      identity o ring (two_power o n ∷ half ∷ power o half n ∷ []) (((unit ⊕ unit) ⊗ atom 0) ⊗ (atom 1 ⊗ atom 2)) (((unit ⊕ unit) ⊗ atom 1) ⊗ (atom 0 ⊗ atom 2)) tt tt refl
      ∙ ap (λ z. times o z (times o (two_power o n) (power o half n))) halves
      ∙ ap (times o 1) (power-halves n)
      ∙ identity o ring [] (unit ⊗ unit) unit tt tt refl

  -- a number below the size, multiplied by what is one
  times-inverse : (k u x : ℕ) → times o k u ≡ 1 → x < o.size → times o k (times o u x) ≡ x
  unfolding Agree
  times-inverse k u x inv low =
      identity o ring (k ∷ u ∷ x ∷ []) (atom 0 ⊗ (atom 1 ⊗ atom 2)) (atom 2 ⊗ (atom 0 ⊗ atom 1)) tt tt refl
      ∙ ap (times o x) inv ∙ times-one o ring x ∙ element-small o ring x low

  scaled-back : (k u : ℕ) (xs : List ℕ) → times o k u ≡ 1 → All (λ x. x < o.size) xs → poly_scaled o k (poly_scaled o u xs) ≡ xs
  unfolding poly_scaled
  scaled-back k u [] inv low = refl
  scaled-back k u (x ∷ xs) inv low =
      ap (λ y. y ∷ poly_scaled o k (poly_scaled o u xs)) (times-inverse k u x inv (low 0 0 (omega arith)))
      ∙ ap (λ ys. x ∷ ys) (scaled-back k u xs inv (λ i d h. low (suc i) d (omega arith)))

  below-scaled : (u : ℕ) (xs : List ℕ) → All (λ x. x < o.size) (poly_scaled o u xs)
  unfolding poly_scaled
  below-scaled u [] = All-nil (λ x. x < o.size)
  below-scaled u (x ∷ xs) = All-cons (λ y. y < o.size) (times o u x) (poly_scaled o u xs) (times_below o ring u x) (below-scaled u xs)

  -- the first value that is sent of the mask
  first-back : (k u w e0 T done : ℕ) → times o k u ≡ 1 → w < o.size →
      plus o (plus o (times o k (minus o (times o u (minus o (minus o w e0) T)) done)) (plus o (times o k done) T)) e0 ≡ w
  unfolding Agree
  first-back k u w e0 T done inv low =
      let K = atom 0 in let U = atom 1 in let W = atom 2 in let E = atom 3 in let Z = atom 4 in let D = atom 5 in
      let X = minus o (minus o w e0) T in
      identity o ring (k ∷ u ∷ w ∷ e0 ∷ T ∷ done ∷ [])
      ((K ⊗ (U ⊗ ((W ⊖ E) ⊖ Z) ⊖ D) ⊕ (K ⊗ D ⊕ Z)) ⊕ E) ((K ⊗ U) ⊗ ((W ⊖ E) ⊖ Z) ⊕ (Z ⊕ E)) tt tt refl
      ∙ ap (λ n. plus o (times o n X) (plus o T e0)) inv
      ∙ sym (element-plus o ring (times o 1 X) (plus o T e0))
      ∙ same_element o ring (w ∷ e0 ∷ T ∷ []) (unit ⊗ ((atom 0 ⊖ atom 1) ⊖ atom 2) ⊕ (atom 2 ⊕ atom 1)) (atom 0) refl
      ∙ element-small o ring w low

  -- the second one
  second-back : (k u v e2 : ℕ) → times o k u ≡ 1 → v < o.size → plus o (times o k (times o u (minus o v e2))) e2 ≡ v
  unfolding Agree
  second-back k u v e2 inv low =
      identity o ring (k ∷ u ∷ v ∷ e2 ∷ []) (atom 0 ⊗ (atom 1 ⊗ (atom 2 ⊖ atom 3)) ⊕ atom 3) ((atom 0 ⊗ atom 1) ⊗ (atom 2 ⊖ atom 3) ⊕ atom 3) tt tt refl
      ∙ ap (λ n. plus o (times o n (minus o v e2)) e2) inv
      ∙ sym (element-plus o ring (times o 1 (minus o v e2)) e2)
      ∙ same_element o ring (v ∷ e2 ∷ []) (unit ⊗ (atom 0 ⊖ atom 1) ⊕ atom 1) (atom 0) refl
      ∙ element-small o ring v low

  -- the endpoint
  end-back : (e c0 c2 r : ℕ) → e < o.size → plus o c0 (plus o c0 (plus o (minus o (minus o e (plus o c0 c0)) (plus o c2 r)) (plus o c2 r))) ≡ e
  unfolding Agree
  end-back e c0 c2 r low =
      sym (element-plus o ring c0 _)
      ∙ same_element o ring (e ∷ c0 ∷ c2 ∷ r ∷ []) (atom 1 ⊕ (atom 1 ⊕ (((atom 0 ⊖ (atom 1 ⊕ atom 1)) ⊖ (atom 2 ⊕ atom 3)) ⊕ (atom 2 ⊕ atom 3)))) (atom 0) refl
      ∙ element-small o ring e low

  -- the mask of one round
  mask-length : (eps done e : ℕ) (ends : List ℕ) (p : Piece) (w v : ℕ) (ws : List ℕ) → length (explained_mask o (unmixing half eps) done e ends p (w ∷ v ∷ ws)) ≡ suc (suc (suc (length ws)))
  unfolding explained_mask
  mask-length eps done e ends p w v ws = ap (λ n. suc (suc (suc n))) (length-scaled o ring (power o half (length ends)) ws)

  three-below : (x y z : ℕ) (cs : List ℕ) → x < o.size → y < o.size → z < o.size → All (λ c. c < o.size) cs → All (λ c. c < o.size) (x ∷ y ∷ z ∷ cs)
  three-below x y z cs hx hy hz h =
      let P : ℕ → Type 0 = λ c. c < o.size in
      All-cons P x (y ∷ z ∷ cs) hx (All-cons P y (z ∷ cs) hy (All-cons P z cs hz h))

  mask-below : (eps done e : ℕ) (ends : List ℕ) (p : Piece) (w v : ℕ) (ws : List ℕ) → All (λ c. c < o.size) (explained_mask o (unmixing half eps) done e ends p (w ∷ v ∷ ws))
  unfolding explained_mask
  mask-below eps done e ends p w v ws =
      let u = power o half (length ends) in
      let a = times o u (minus o (minus o w (times o eps p.constant)) (total_of o ends)) in
      let c0 = minus o a done in
      let d = minus o v (times o eps p.leading) in
      let c2 = times o u d in
      let cs = poly_scaled o u ws in
      let b = minus o e (plus o c0 c0) in
      let r = plus o c2 (sum_of o cs) in
      three-below c0 (minus o b r) c2 cs (plus_below o ring a (opposite o done)) (plus_below o ring b (opposite o r)) (times_below o ring u d) (below-scaled u ws)

  mask-wire : (eps done e : ℕ) (ends : List ℕ) (p : Piece) (w v : ℕ) (ws : List ℕ) → All (λ c. c < o.size) (w ∷ v ∷ ws) →
      wire_of (masked_round o eps done (explained_mask o (unmixing half eps) done e ends p (w ∷ v ∷ ws)) ends p) ≡ w ∷ v ∷ ws
  unfolding explained_mask
  mask-wire eps done e ends p w v ws low =
      let k = two_power o (length ends) in
      let u = power o half (length ends) in
      let inv = power-halves (length ends) in
      let T = total_of o ends in
      let e0 = times o eps p.constant in let e2 = times o eps p.leading in
      let c0 = minus o (times o u (minus o (minus o w e0) T)) done in
      let c2 = times o u (minus o v e2) in
      let cs = poly_scaled o u ws in
      wire-parts o ring eps done c0 (minus o (minus o e (plus o c0 c0)) (plus o c2 (sum_of o cs))) c2 cs ends p
      ∙ ap (λ x. x ∷ plus o (times o k c2) e2 ∷ poly_scaled o k cs) (first-back k u w e0 T done inv (low 0 0 (omega arith)))
      ∙ ap (λ x. w ∷ x ∷ poly_scaled o k cs) (second-back k u v e2 inv (low 1 0 (omega arith)))
      ∙ ap (λ xs. w ∷ v ∷ xs) (scaled-back k u ws inv (λ i d h. low (suc (suc i)) d (omega arith)))

  mask-end : (eps done e : ℕ) (ends : List ℕ) (p : Piece) (w v : ℕ) (ws : List ℕ) → e < o.size → endpoint o (explained_mask o (unmixing half eps) done e ends p (w ∷ v ∷ ws)) ≡ e
  unfolding explained_mask endpoint sum_of
  mask-end eps done e ends p w v ws low =
      let u = power o half (length ends) in
      let c0 = minus o (times o u (minus o (minus o w (times o eps p.constant)) (total_of o ends))) done in
      let c2 = times o u (minus o v (times o eps p.leading)) in
      end-back e c0 c2 (sum_of o (poly_scaled o u ws)) low

  -- the masks of all rounds
  pub record Explains (l eps done : ℕ) (es : List ℕ) (gs : List ℕ) (ps : List Piece) (ws ss : List (List ℕ)) : Type 0 where
    pub are : AreListsOf o (suc l) ss
    pub wires : map wire_of (masked_rounds o eps done ss gs ps) ≡ ws
    pub ends : map (endpoint o) ss ≡ es

  masks-explain : (l eps done : ℕ) (es : List ℕ) (gs : List ℕ) (ps : List Piece) (ws : List (List ℕ)) → 2 ≤ l →
      length ws ≡ length es → length ws ≡ length gs → length ws ≡ length ps → All (λ e. e < o.size) es → AreListsOf o l ws →
      Explains l eps done es gs ps ws (explained_masks o (unmixing half eps) done es gs ps ws)
  unfolding explained_masks masked_rounds
  masks-explain l eps done [] [] [] [] long a b c low are = record { are = tt; wires = refl; ends = refl }
  masks-explain l eps done [] gs ps (w ∷ ws) long a b c low are = absurd (omega arith)
  masks-explain l eps done [] (g ∷ gs) ps [] long a b c low are = absurd (omega arith)
  masks-explain l eps done [] [] (p ∷ ps) [] long a b c low are = absurd (omega arith)
  masks-explain l eps done (e ∷ es) gs ps [] long a b c low are = absurd (omega arith)
  masks-explain l eps done (e ∷ es) [] ps (w ∷ ws) long a b c low are = absurd (omega arith)
  masks-explain l eps done (e ∷ es) (g ∷ gs) [] (w ∷ ws) long a b c low are = absurd (omega arith)
  masks-explain l eps done (e ∷ es) (g ∷ gs) (p ∷ ps) ([] ∷ ws) long a b c low are = absurd (omega (arith, are.0))
  masks-explain l eps done (e ∷ es) (g ∷ gs) (p ∷ ps) ((x ∷ []) ∷ ws) long a b c low are = absurd (omega (arith, are.0))
  masks-explain l eps done (e ∷ es) (g ∷ gs) (p ∷ ps) ((x ∷ y ∷ xs) ∷ ws) long a b c low are =
      let s = explained_mask o (unmixing half eps) done e es p (x ∷ y ∷ xs) in
      let ss = explained_masks o (unmixing half eps) (plus o done (poly_at o s g)) es gs ps ws in
      let later = masks-explain l eps (plus o done (poly_at o s g)) es gs ps ws long (omega arith) (omega arith) (omega arith) (λ i d h. low (suc i) d (omega arith)) are.2 in
      let size : length s ≡ suc l = mask-length eps done e es p x y xs ∙ ap suc are.0 in
      record {
        are = (size, mask-below eps done e es p x y xs, later.are);
        wires = ap (λ ends. wire_of (masked_round o eps done s ends p) ∷ map wire_of (masked_rounds o eps (plus o done (poly_at o s g)) ss gs ps)) later.ends
            ∙ ap (λ w. w ∷ map wire_of (masked_rounds o eps (plus o done (poly_at o s g)) ss gs ps)) (mask-wire eps done e es p x y xs are.1)
            ∙ ap (λ t. (x ∷ y ∷ xs) ∷ t) later.wires;
        ends = ap (λ t. t ∷ map (endpoint o) ss) (mask-end eps done e es p x y xs (low 0 0 (omega arith))) ∙ ap (λ t. e ∷ t) later.ends;
      }

  -- the total of masks whose first endpoint is made of it
  total-back : (mu : ℕ) (es : List ℕ) → mu < o.size → total_of o (first_endpoint o half mu es ∷ es) ≡ mu
  unfolding total_of sum_of first_endpoint Agree
  total-back mu es low =
      let k = two_power o (length es) in
      let u = power o half (length es) in
      identity o ring (k ∷ u ∷ mu ∷ sum_of o es ∷ []) (atom 0 ⊗ ((atom 1 ⊗ atom 2 ⊖ atom 3) ⊕ atom 3)) (atom 0 ⊗ (atom 1 ⊗ atom 2)) tt tt refl
      ∙ times-inverse k u mu (power-halves (length es)) low

-- the endpoints after the first
later_of : (o : Ops) (ss : List (List ℕ)) (e : ℕ) (es : List ℕ) → map (endpoint o) ss ≡ e ∷ es → later_endpoints o ss ≡ es
later_of o [] e es h = ap (drop 1) h
later_of o (s ∷ ss) e es h = ap (drop 1) h

pub views_are_explained : (o : Ops) → IsField o → ViewsAreExplained o
unfolding view_of first_endpoint
views_are_explained o field eps l v es gs ps long two mu low are a b c =
    let ring = field.ring in
    let half = half_of o in
    let halves : times o (plus o 1 1) half ≡ 1 = inverse-product o field (plus o 1 1) (λ z. two (sym (element-plus o ring 1 1) ∙ z)) in
    let e = first_endpoint o half v.mu es in
    let all = All-cons (λ n. n < o.size) e es (plus_below o ring _ _) low in
    let ss = explained o eps v es gs ps in
    let told = masks-explain o ring half halves l eps 0 (e ∷ es) gs ps v.wires long a b c all are in
    let total : masks_total o ss ≡ v.mu = total-endpoints o ring ss ∙ ap (total_of o) told.ends ∙ total-back o ring half halves v.mu es mu in
    (told.are, (λ i. record { mu = total i; wires = told.wires i }), later_of o ss e es told.ends)
