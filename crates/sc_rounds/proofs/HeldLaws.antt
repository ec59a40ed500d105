-- A pair of tables under a claim, where a challenge is held or none.
use Rattle.std.proofs.Common.{◌≡◌, ℕ, suc, ◌+◌, ◌-◌, ◌^◌, ◌<◌, List, [], ◌∷◌, length, Option, Some, None, refl, ap, sym, ◌∙◌, subst, arith}
use Rattle.sc_definitions.specs.Ring.{Ops, IsRing, plus, times}
use Rattle.sc_definitions.specs.Tables.{Basis, Order, IsOffered, entries, rows_of, inner_product, folded_in}
use Rattle.sc_definitions.specs.Messages.{message_of}
use Rattle.sc_definitions.specs.Rounds.{next_claim}
use Rattle.sc_definitions.specs.ProverStates.{half_rows, entries_of}
use Rattle.sc_definitions.proofs.ProverStateLaws.{length-entries_of, rows-entries_of, entries-is}
use Rattle.sc_rounds.specs.declared.product_polynomial.ProductPolynomial.{ProductPolynomial}
use Rattle.sc_rounds.specs.Products.{numbers_of, variables_in, basis_in, order_in, pair_message, BindsPair}
use Rattle.sc_rounds.specs.Provers.{shown_of, IsLeftFor, left_of, held_shown, stored_of, number_if_some}
use Rattle.sc_definitions.specs.ProverViews.{ProverView, settled_as, message_shown, with_bound, sum_with, IsTrueClaim, with_added, with_scaled, honest_shown, imaged}
use Rattle.sc_table.proofs.HonestLaws.{honest_message-first}
use mathlib.Core.List.{map-id}
use Rattle.sc_definitions.proofs.Sums.{sum-same, times-sum}
use Rattle.sc_definitions.proofs.Identity.{atom, ◌⊗◌, Agree, identity}
use Rattle.sc_rounds.proofs.PairRounds.{pair_rows}
use Rattle.sc_definitions.proofs.PairMoves.{sum_after}
use Rattle.sc_definitions.proofs.StatementLaws.{inner_product-parts_of}

pub bound_list : (o : Ops) (basis : Basis) (order : Order) (n m r : ℕ) (xs ys : List ℕ) → n ≡ m + 1 → length ys ≡ 2 ^ m →
    ((b : ℕ) → b < 2 ^ m → rows_of ys b ≡ folded_in basis order o m r (rows_of xs) b) →
    ys ≡ entries_of (n - 1) (folded_in basis order o (n - 1) r (rows_of xs))
bound_list o basis order n m r xs ys fewer size bound =
    let less : m ≡ n - 1 = omega (arith, fewer) in
    entries-is m ys _ size bound ∙ ap (λ k. entries_of k (folded_in basis order o k r (rows_of xs))) less

module _ {F EF : Type 0} (o : Ops) (number : EF → ℕ) where
  -- what is shown where none is held
  pub none_held : (p : ProductPolynomial F EF) (s : EF) (held : Option EF) → held ≡ None → held_shown o number p held s ≡ shown_of number p s
  none_held p s held none = ap (λ h. held_shown o number p h s) none

  -- the tables that are bound at the held challenge show what was shown
  pub settled : (p p' : ProductPolynomial F EF) (s r : EF) (held : Option EF) → held ≡ Some r → BindsPair o number (number r) p p' →
      shown_of number p' s ≡ held_shown o number p held s
  unfolding entries rows_of
  settled p p' s r held is b =
      let n = variables_in p in
      let m = variables_in p' in
      let less : m ≡ n - 1 = omega (arith, b.fewer) in
      let evals = bound_list o (basis_in p) (order_in p) n m (number r) (numbers_of number p.evals) (numbers_of number p'.evals) b.fewer (pair_rows number p').0 b.evals in
      let weights = bound_list o (basis_in p) (order_in p) n m (number r) (numbers_of number p.weights) (numbers_of number p'.weights) b.fewer (pair_rows number p').1 b.weights in
      let bound : shown_of number p' s ≡ held_shown o number p (Some r) s =
      λ i. record { basis = b.basis i; order = b.order i; variables = less i; evals = evals i; weights = weights i; claim = number s } in
      bound ∙ ap (λ h. held_shown o number p h s) (sym is)

  -- as many entries are shown as rows are left
  pub held_sized : (p : ProductPolynomial F EF) (s : EF) (held : Option EF) → let t = held_shown o number p held s in
      (length t.evals ≡ 2 ^ t.variables) × (length t.weights ≡ 2 ^ t.variables)
  held_sized p s None = pair_rows number p
  held_sized p s (Some r) = (length-entries_of _ _, length-entries_of _ _)

  -- the message of a pair
  pub message_pair : (p : ProductPolynomial F EF) (s : EF) (t : ProverView) (message : List ℕ) → message ≡ pair_message o number p → shown_of number p s ≡ t →
      message ≡ message_shown o t
  unfolding entries rows_of
  message_pair p s t message is shown = is ∙ ap (message_shown o) shown

  -- what is shown where a challenge is held that was drawn on a message
  pub bound_shown : (p : ProductPolynomial F EF) (s s' r : EF) (held : Option EF) (message : List ℕ) → held ≡ None →
      message ≡ message_shown o (held_shown o number p held s) → number s' ≡ next_claim (basis_in p) o (number s) message (number r) →
      held_shown o number p (Some r) s' ≡ with_bound o (held_shown o number p held s) (number r)
  bound_shown p s s' r held message none is claim =
      let pair = shown_of number p s in
      let e : number s' ≡ next_claim (basis_in p) o (number s) (message_shown o pair) (number r) =
      claim ∙ ap (λ v. next_claim (basis_in p) o (number s) v (number r)) (is ∙ ap (message_shown o) (none_held p s held none)) in
      let bound : held_shown o number p (Some r) s' ≡ with_bound o pair (number r) =
      λ i. record { basis = basis_in p; order = order_in p; variables = variables_in p - 1; evals = (with_bound o pair (number r)).evals; weights = (with_bound o pair (number r)).weights; claim = e i } in
      bound ∙ ap (λ t. with_bound o t (number r)) (sym (none_held p s held none))

-- the claim with the next variable bound is true
pub true_bound : (o : Ops) → IsRing o → (s : ProverView) → IsOffered s.basis s.order → (r : ℕ) → 0 < s.variables → IsTrueClaim o s → IsTrueClaim o (with_bound o s r)
true_bound o ring s offered r left true_claim =
    let m = s.variables - 1 in
    let more : s.variables ≡ m + 1 = omega (arith, left) in
    let next : s.variables ≡ suc m = omega (arith, left) in
    sum_after s.basis s.order offered o ring s.variables m (rows_of s.evals) (rows_of s.weights) s.claim (message_shown o s) r _ _ _ more true_claim
    (ap (λ k. message_of s.basis s.order o (half_rows k) (rows_of s.evals) (rows_of s.weights)) next)
    (rows-entries_of m _) (rows-entries_of m _) refl

-- a variable is left for a challenge where one was left before it
pub left_before : {X : Type 0} (n : ℕ) (held : Option X) → held ≡ None → 0 < left_of n held → 0 < n
left_before n held none left = subst (λ h. 0 < left_of n h) none left

-- two are, where one is left after a held one
pub two_left : {X : Type 0} (n : ℕ) (held : Option X) (r : X) → held ≡ Some r → 0 < left_of n held → 1 < n
two_left n held r is left = let more : 0 < n - 1 = subst (λ h. 0 < left_of n h) is left in omega (arith, more)

-- none is held
pub nothing_held : {X : Type 0} {A : Type 0} (r : X) → None ≡ Some r → A
nothing_held r e = cc

-- the pair that is left shows what was shown, where none is held any more
pub settled_pair : {F EF : Type 0} (o : Ops) (number : EF → ℕ) (p : ProductPolynomial F EF) (s : EF) (held : Option EF) (t : ProverView) →
    held ≡ None → held_shown o number p held s ≡ t → shown_of number p s ≡ t
settled_pair o number p s held t none kept = sym (none_held o number p s held none) ∙ kept

-- no variable is wanted where none is held
pub none_wanted : {X : Type 0} (n : ℕ) (held : Option X) → held ≡ None → IsLeftFor held n
none_wanted n held none r is = nothing_held r (sym none ∙ is)

-- what is kept where no challenge is held
pub stored_settled : {F EF : Type 0} (o : Ops) (number : EF → ℕ) (p : ProductPolynomial F EF) (s : EF) (held : Option EF) (t : ProverView) →
    held ≡ None → held_shown o number p held s ≡ t → stored_of number p held ≡ settled_as t
stored_settled o number p s held t none kept = ap (stored_of number p) none ∙ ap settled_as (settled_pair o number p s held t none kept)

-- ---- claims that are moved stay true

module _ (o : Ops) (ring : IsRing o) where
  -- with values added to the weights, and their sum to the claim
  pub true_added : (s : ProverView) (v : ℕ → ℕ) (c : ℕ) → IsTrueClaim o s → c ≡ sum_with o s v → IsTrueClaim o (with_added o s v c)
  true_added s v c true_claim is =
      ap (λ x. plus o x c) true_claim ∙ ap (plus o (sum_with o s (rows_of s.weights))) is
      ∙ sym (inner_product-parts_of o ring s.variables (rows_of s.evals) (rows_of s.weights) v _ (rows-entries_of s.variables _))

  -- with the weights and the claim multiplied
  pub true_scaled : (s : ProverView) (k : ℕ) → IsTrueClaim o s → IsTrueClaim o (with_scaled o s k)
  unfolding inner_product Agree
  true_scaled s k true_claim =
      let f = rows_of s.evals in
      let w = rows_of s.weights in
      let n = 2 ^ s.variables in
      let F = atom 0 in let W = atom 1 in let K = atom 2 in
      ap (λ x. times o x k) true_claim
      ∙ identity o ring (sum_with o s w ∷ k ∷ []) (atom 0 ⊗ atom 1) (atom 1 ⊗ atom 0) tt tt refl
      ∙ times-sum o ring k n (λ b. times o (f b) (w b))
      ∙ sum-same o n _ _ (λ b low. identity o ring (f b ∷ w b ∷ k ∷ []) (K ⊗ (F ⊗ W)) (F ⊗ (W ⊗ K)) tt tt refl
      ∙ ap (times o (f b)) (sym (rows-entries_of s.variables (λ i. times o (w i) k) b low)))

-- ---- what readers ask

-- what an honest round sends is the message of what is shown
pub honest_shown-message : (o : Ops) → IsRing o → (s : ProverView) → IsOffered s.basis s.order → 0 < s.variables → honest_shown o s ≡ message_shown o s
honest_shown-message o ring s offered left =
    let m = s.variables - 1 in
    let next : suc m ≡ s.variables = omega (arith, left) in
    honest_message-first s.basis s.order offered o ring (rows_of s.evals) (rows_of s.weights) m
    ∙ ap (λ k. message_of s.basis s.order o (half_rows k) (rows_of s.evals) (rows_of s.weights)) next

-- images under no map
pub imaged_same : (s : ProverView) → imaged (λ n. n) s ≡ s
imaged_same s = λ i. record s { evals = map-id s.evals i; weights = map-id s.weights i }

-- a number that is there is one of a value
pub numbered : {X : Type 0} (number : X → ℕ) (held : Option X) → number_if_some number held ≡ None → held ≡ None
numbered number None none = refl
numbered number (Some x) none = cc
