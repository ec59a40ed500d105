-- A masked run over a claim that is greater by aux carries aux, halved in each round, to its end.
use Rattle.std.proofs.Common.{◌≡◌, ℕ, suc, List, [], ◌∷◌, length, map, sym, ◌∙◌, ap, refl, arith}
use Rattle.sc_definitions.specs.Ring.{Ops, IsRing, element, plus, times, power}
use Rattle.sc_definitions.specs.Tables.{evaluation}
use Rattle.sc_definitions.specs.Rounds.{sent_pair, sent_polynomial, next_claim, claim_along}
use Rattle.sc_definitions.specs.Polynomials.{poly_at}
use Rattle.sc_zk_definitions.specs.Masks.{Piece, piece, pair_of, plain_after, with_aux, aux_after, masks_at, masks_total, masked_rounds, wire_of, first_target, target_after}
use Rattle.sc_definitions.proofs.RingLaws.{plus-element_right, times-element_right, times-one}
use Rattle.sc_definitions.proofs.Identity.{atom, nought, unit, ◌⊕◌, ◌⊗◌, ◌⊖◌, Agree, identity, same_element}
use Rattle.sc_zk_definitions.proofs.MaskLaws.{honest_residual}

module _ (o : Ops) (ring : IsRing o) (half : ℕ) (halves : times o (plus o 1 1) half ≡ 1) where
  -- a claim greater by aux is one greater by twice its half
  two_halves_of : (claim aux : ℕ) → plus o claim aux ≡ plus o claim (plus o (times o half aux) (times o half aux))
  unfolding Agree
  two_halves_of claim aux =
      sym (plus-element_right o ring claim aux)
      ∙ ap (plus o claim) (sym (times-one o ring aux) ∙ ap (times o aux) (sym halves)
      ∙ identity o ring (aux ∷ half ∷ []) (atom 0 ⊗ ((unit ⊕ unit) ⊗ atom 1)) (atom 1 ⊗ atom 0 ⊕ atom 1 ⊗ atom 0) tt tt refl)

  sent-aux : (claim aux : ℕ) (p : Piece) (g : ℕ) →
      next_claim evaluation o (plus o claim aux) (pair_of (piece (plus o p.constant (times o half aux)) p.leading)) g
      ≡ plus o (next_claim evaluation o claim (pair_of p) g) (times o half aux)
  unfolding next_claim sent_polynomial sent_pair poly_at Agree
  sent-aux claim aux p g =
      let a = times o half aux in
      let K = atom 0 in let A = atom 1 in let C = atom 2 in let Q = atom 3 in let G = atom 4 in
      ap (λ k. next_claim evaluation o k (pair_of (piece (plus o p.constant a) p.leading)) g) (two_halves_of claim aux)
      ∙ identity o ring (claim ∷ a ∷ p.constant ∷ p.leading ∷ g ∷ [])
      ((C ⊕ A) ⊕ G ⊗ (((((K ⊕ (A ⊕ A)) ⊖ (C ⊕ A)) ⊖ (C ⊕ A)) ⊖ Q) ⊕ G ⊗ (Q ⊕ G ⊗ nought)))
      ((C ⊕ G ⊗ ((((K ⊖ C) ⊖ C) ⊖ Q) ⊕ G ⊗ (Q ⊕ G ⊗ nought))) ⊕ A) tt tt refl

  plain_after-aux : (claim aux : ℕ) (ps : List Piece) (gs : List ℕ) → length ps ≡ length gs →
      element o (plain_after o (plus o claim aux) (with_aux o half aux ps) gs) ≡ element o (plus o (plain_after o claim ps gs) (aux_after o half aux (length ps)))
  unfolding claim_along with_aux power Agree
  plain_after-aux claim aux [] [] e = same_element o ring (claim ∷ aux ∷ []) (atom 0 ⊕ atom 1) (atom 0 ⊕ unit ⊗ atom 1) refl
  plain_after-aux claim aux [] (g ∷ gs) e = absurd (omega arith)
  plain_after-aux claim aux (p ∷ ps) [] e = absurd (omega arith)
  plain_after-aux claim aux (p ∷ ps) (g ∷ gs) e =
      let a = times o half aux in
      let next = next_claim evaluation o claim (pair_of p) g in
      let P = power o half (length ps) in
      ap (λ k. element o (plain_after o k (with_aux o half a ps) gs)) (sent-aux claim aux p g)
      ∙ plain_after-aux next a ps gs (omega arith)
      ∙ same_element o ring (plain_after o next ps gs ∷ P ∷ half ∷ aux ∷ [])
      (atom 0 ⊕ atom 1 ⊗ (atom 2 ⊗ atom 3)) (atom 0 ⊕ (atom 2 ⊗ atom 1) ⊗ atom 3) refl

  pub length-aux : (aux : ℕ) (ps : List Piece) → length (with_aux o half aux ps) ≡ length ps
  unfolding with_aux
  length-aux aux [] = refl
  length-aux aux (p ∷ ps) = ap suc (length-aux (times o half aux) ps)

  -- the residual of an honest masked run: eps times the plain residual with what is left of aux,
  -- and the masks at the challenges
  pub honest_run : (eps claim aux : ℕ) (ss : List (List ℕ)) (gs : List ℕ) (ps : List Piece) → length ss ≡ length gs → length ss ≡ length ps →
      target_after o (first_target o eps (plus o claim aux) (masks_total o ss)) (map wire_of (masked_rounds o eps 0 ss gs (with_aux o half aux ps))) gs
      ≡ plus o (times o eps (plus o (plain_after o claim ps gs) (aux_after o half aux (length ps)))) (masks_at o ss gs)
  honest_run eps claim aux ss gs ps e e' =
      let X = plain_after o (plus o claim aux) (with_aux o half aux ps) gs in
      let Y = plus o (plain_after o claim ps gs) (aux_after o half aux (length ps)) in
      honest_residual o ring eps (plus o claim aux) ss gs (with_aux o half aux ps) e (e' ∙ sym (length-aux aux ps))
      ∙ ap (λ n. plus o n (masks_at o ss gs))
      (sym (times-element_right o ring eps X) ∙ ap (times o eps) (plain_after-aux claim aux ps gs (omega arith)) ∙ times-element_right o ring eps Y)
