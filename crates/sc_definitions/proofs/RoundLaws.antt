-- The round polynomial, its message and the true claims fit together.
use Rattle.std.proofs.Common.{◌≡◌, ℕ, suc, ◌^◌, ◌<◌, List, [], ◌∷◌, ◌++◌, sym, ◌∙◌, ap, refl}
use Rattle.sc_definitions.specs.Ring.{Ops, IsRing, element, times, minus}
use Rattle.sc_definitions.specs.Tables.{Basis, evaluation, projective, Order, prefix, suffix, IsOffered, sum_below, inner_product, folded_in, folded_by}
use Rattle.sc_definitions.specs.Rounds.{true_claim, slow_leading, round_polynomial, honest_message, sent_pair, sent_polynomial, next_claim}
use Rattle.sc_definitions.specs.Messages.{first_term, leading_term, message_first, message_leading, message_of}
use Rattle.sc_definitions.specs.Polynomials.{poly_at}
use Rattle.sc_definitions.proofs.Sums.{sum-same}
use Rattle.sc_definitions.proofs.Identity.{Form, atom, nought, unit, ◌⊕◌, ◌⊗◌, ◌⊖◌, Agree, identity}
use Rattle.sc_definitions.proofs.TableLaws.{times-elements}
use Rattle.sc_definitions.proofs.PlacedLaws.{partial_value-folded_by, folded_by-append}
use Rattle.sc_definitions.proofs.MessageLaws.{inner_product-folded_in, line-at_zero, line-both, slope-values, slope-coefficients}

module _ (o : Ops) (ring : IsRing o) where
  -- sums of products of equal elements
  sum-elements : (n : ℕ) (x y x' y' : ℕ → ℕ) → ((b : ℕ) → b < n → x b ≡ element o (x' b)) → ((b : ℕ) → b < n → y b ≡ element o (y' b)) →
      sum_below o n (λ b. times o (x b) (y b)) ≡ sum_below o n (λ b. times o (x' b) (y' b))
  sum-elements n x y x' y' hx hy = sum-same o n _ _ (λ b low.
      ap (λ k. times o k (y b)) (hx b low) ∙ ap (times o (element o (x' b))) (hy b low) ∙ times-elements o ring (x' b) (y' b))

  -- sums of products of equal numbers
  sum-products : (n : ℕ) (x y x' y' : ℕ → ℕ) → ((b : ℕ) → b < n → x b ≡ x' b) → ((b : ℕ) → b < n → y b ≡ y' b) →
      sum_below o n (λ b. times o (x b) (y b)) ≡ sum_below o n (λ b. times o (x' b) (y' b))
  sum-products n x y x' y' hx hy = sum-same o n _ _ (λ b low. ap (λ k. times o k (y b)) (hx b low) ∙ ap (times o (x' b)) (hy b low))

  -- the true claim is the sum of the bound tables' products
  pub true_claim-inner : (basis : Basis) (order : Order) (f w : ℕ → ℕ) (rs : List ℕ) (m : ℕ) →
      true_claim basis order o f w rs m ≡ inner_product o m (folded_by basis order o rs m f) (folded_by basis order o rs m w)
  unfolding true_claim inner_product
  true_claim-inner basis order f w rs m =
      sum-elements (2 ^ m) _ _ _ _ (partial_value-folded_by o ring basis order f rs m) (partial_value-folded_by o ring basis order w rs m)

  -- what an honest round sends first, from the bound tables: of values, and of coefficients
  value-at_zero : (order : Order) → IsOffered evaluation order → (f w : ℕ → ℕ) (rs : List ℕ) (m : ℕ) →
      true_claim evaluation order o f w (rs ++ 0 ∷ []) m ≡ message_first evaluation order o (2 ^ m) (folded_by evaluation order o rs (suc m) f) (folded_by evaluation order o rs (suc m) w)
  unfolding true_claim inner_product first_term message_first
  value-at_zero order offered f w rs m =
      sum-elements (2 ^ m) _ _ _ _ (line-at_zero o ring evaluation order offered f rs m) (line-at_zero o ring evaluation order offered w rs m)

  value-at_one : (f w : ℕ → ℕ) (rs : List ℕ) (m : ℕ) →
      true_claim projective prefix o f w (rs ++ 1 ∷ []) m ≡ message_first projective prefix o (2 ^ m) (folded_by projective prefix o rs (suc m) f) (folded_by projective prefix o rs (suc m) w)
  unfolding true_claim inner_product first_term message_first
  value-at_one f w rs m = sum-elements (2 ^ m) _ _ _ _ (line-both o ring f rs m) (line-both o ring w rs m)

  -- and its leading coefficient
  leading-message : (basis : Basis) (order : Order) → IsOffered basis order → (f w : ℕ → ℕ) (rs : List ℕ) (m : ℕ) →
      slow_leading basis order o f w rs m ≡ message_leading basis order o (2 ^ m) (folded_by basis order o rs (suc m) f) (folded_by basis order o rs (suc m) w)
  unfolding slow_leading inner_product leading_term message_leading
  leading-message evaluation order offered f w rs m =
      sum-products (2 ^ m) _ _ _ _ (slope-values o ring order offered f rs m) (slope-values o ring order offered w rs m)
  leading-message projective prefix offered f w rs m =
      sum-elements (2 ^ m) _ _ _ _ (slope-coefficients o ring f rs m) (slope-coefficients o ring w rs m)
  leading-message projective suffix offered f w rs m = absurd offered

  -- an honest round sends the message of the bound tables
  pub honest_message-message : (basis : Basis) (order : Order) → IsOffered basis order → (f w : ℕ → ℕ) (rs : List ℕ) (m : ℕ) →
      honest_message basis order o f w rs m ≡ message_of basis order o (2 ^ m) (folded_by basis order o rs (suc m) f) (folded_by basis order o rs (suc m) w)
  unfolding honest_message
  honest_message-message evaluation order offered f w rs m =
      ap (λ c. c ∷ slow_leading evaluation order o f w rs m ∷ []) (value-at_zero order offered f w rs m)
      ∙ ap (λ q. message_first evaluation order o (2 ^ m) (folded_by evaluation order o rs (suc m) f) (folded_by evaluation order o rs (suc m) w) ∷ q ∷ [])
      (leading-message evaluation order offered f w rs m)
  honest_message-message projective prefix offered f w rs m =
      ap (λ c. c ∷ slow_leading projective prefix o f w rs m ∷ []) (value-at_one f w rs m)
      ∙ ap (λ q. message_first projective prefix o (2 ^ m) (folded_by projective prefix o rs (suc m) f) (folded_by projective prefix o rs (suc m) w) ∷ q ∷ [])
      (leading-message projective prefix offered f w rs m)
  honest_message-message projective suffix offered f w rs m = absurd offered

  -- The honest message and the true claim determine the round polynomial: what they send has its value at each r, the true claim at one challenge more.
  pub true_claim-next : (basis : Basis) (order : Order) → IsOffered basis order → (f w : ℕ → ℕ) (rs : List ℕ) (r m : ℕ) →
      true_claim basis order o f w (rs ++ r ∷ []) m
      ≡ next_claim basis o (true_claim basis order o f w rs (suc m)) (honest_message basis order o f w rs m) r
  true_claim-next basis order offered f w rs r m =
      let F = folded_by basis order o rs (suc m) f in let W = folded_by basis order o rs (suc m) w in
      true_claim-inner basis order f w (rs ++ r ∷ []) m
      ∙ ap (λ g. inner_product o m g (folded_by basis order o (rs ++ r ∷ []) m w)) (folded_by-append basis order o rs r m f)
      ∙ ap (inner_product o m (folded_in basis order o m r F)) (folded_by-append basis order o rs r m w)
      ∙ inner_product-folded_in o ring basis order offered m F W r
      ∙ ap (λ c. next_claim basis o c (message_of basis order o (2 ^ m) F W) r) (sym (true_claim-inner basis order f w rs (suc m)))
      ∙ ap (λ p. next_claim basis o (true_claim basis order o f w rs (suc m)) p r) (sym (honest_message-message basis order offered f w rs m))

  -- and its three coefficients make it
  pub round_polynomial-values : (basis : Basis) (order : Order) → IsOffered basis order → (f w : ℕ → ℕ) (rs : List ℕ) (m x : ℕ) →
      true_claim basis order o f w (rs ++ x ∷ []) m ≡ poly_at o (round_polynomial basis order o f w rs m) x
  unfolding round_polynomial honest_message next_claim sent_polynomial sent_pair poly_at Agree
  round_polynomial-values evaluation order offered f w rs m x =
      let c = true_claim evaluation order o f w (rs ++ 0 ∷ []) m in
      let q = slow_leading evaluation order o f w rs m in
      let K = atom 0 in let C = atom 1 in let Q = atom 2 in let X = atom 3 in
      let sent : Form → Form = λ t. C ⊕ t ⊗ ((((K ⊖ C) ⊖ C) ⊖ Q) ⊕ t ⊗ (Q ⊕ t ⊗ nought)) in
      true_claim-next evaluation order offered f w rs x m
      ∙ identity o ring (true_claim evaluation order o f w rs (suc m) ∷ c ∷ q ∷ x ∷ [])
      (sent X) (C ⊕ X ⊗ (((sent unit ⊖ C) ⊖ Q) ⊕ X ⊗ (Q ⊕ X ⊗ nought))) tt tt refl
      ∙ ap (λ v. poly_at o (c ∷ minus o (minus o v c) q ∷ q ∷ []) x) (sym (true_claim-next evaluation order offered f w rs 1 m))
  round_polynomial-values projective order offered f w rs m x =
      let v = true_claim projective order o f w (rs ++ 1 ∷ []) m in
      let q = slow_leading projective order o f w rs m in
      let K = atom 0 in let V = atom 1 in let Q = atom 2 in let X = atom 3 in
      let sent : Form → Form = λ t. (K ⊖ Q) ⊕ t ⊗ ((V ⊖ K) ⊕ t ⊗ (Q ⊕ t ⊗ nought)) in
      true_claim-next projective order offered f w rs x m
      ∙ identity o ring (true_claim projective order o f w rs (suc m) ∷ v ∷ q ∷ x ∷ [])
      (sent X) (sent nought ⊕ X ⊗ (((V ⊖ sent nought) ⊖ Q) ⊕ X ⊗ (Q ⊕ X ⊗ nought))) tt tt refl
      ∙ ap (λ c. poly_at o (c ∷ minus o (minus o v c) q ∷ q ∷ []) x) (sym (true_claim-next projective order offered f w rs 0 m))
