-- What a prover over a representation shows, where a challenge is held or none.
use Rattle.std.proofs.Common.{◌≡◌, ℕ, zero, suc, ◌-◌, ◌^◌, ◌<◌, List, [], ◌∷◌, length, map, Option, Some, None, refl, ap, sym, ◌∙◌, subst, arith}
use Rattle.std.proofs.lemmas.List.{length-map}
use Rattle.sc_definitions.specs.Ring.{Ops, IsRing, IsRingMap, IsRepresentation}
use Rattle.sc_definitions.specs.Tables.{Basis, evaluation, projective, Order, prefix, suffix, entries, rows_of, bound, bound_low, bound_coefficients, folded_in}
use Rattle.sc_definitions.specs.ProverStates.{entries_of}
use Rattle.sc_definitions.proofs.RingLaws.{size_pos, plus_below}
use Rattle.sc_definitions.proofs.ProverStateLaws.{length-entries_of, rows-entries_of, entries-is}
use Rattle.sc_rounds.specs.declared.product_polynomial.ProductPolynomial.{ProductPolynomial}
use Rattle.sc_rounds.specs.Products.{numbers_of, variables_in, basis_in, order_in}
use Rattle.sc_rounds.specs.Provers.{number_if_some, IsLeftFor, left_of, bound_now, held_shown}
use Rattle.sc_definitions.specs.ProverViews.{ProverView, imaged, IsTrueClaim}
use Rattle.sc_definitions.proofs.MappedRounds.{image_rows, image_bound, below_entries, represented_sum}
use Rattle.sc_definitions.proofs.ImagedRounds.{IsBelow}

-- the rows of a list of numbers below a size
rows_below : (size : ℕ) → 0 < size → (xs : List ℕ) → ((k : ℕ) → k < length xs → rows_of xs k < size) → (k : ℕ) → rows_of xs k < size
unfolding rows_of
rows_below size positive [] all k = positive
rows_below size positive (x ∷ xs) all zero = all zero (omega arith)
rows_below size positive (x ∷ xs) all (suc k) = rows_below size positive xs (λ j low. all (suc j) (omega (arith, low))) k

bound_below : (o : Ops) → IsRing o → (basis : Basis) (order : Order) (m r : ℕ) (f : ℕ → ℕ) (k : ℕ) → folded_in basis order o m r f k < o.size
unfolding bound bound_low bound_coefficients
bound_below o ring evaluation prefix m r f k = plus_below o ring _ _
bound_below o ring evaluation suffix m r f k = plus_below o ring _ _
bound_below o ring projective order m r f k = plus_below o ring _ _

bound_rows_below : (o : Ops) → IsRing o → (basis : Basis) (order : Order) (m r : ℕ) (f : ℕ → ℕ) (k : ℕ) → rows_of (entries_of m (folded_in basis order o m r f)) k < o.size
bound_rows_below o ring basis order m r f =
    let g = folded_in basis order o m r f in
    rows_below o.size (size_pos o ring) (entries_of m g)
    (λ k low. let row : k < 2 ^ m = subst (λ n. k < n) (length-entries_of m g) low in
    subst (λ n. n < o.size) (sym (rows-entries_of m g k row)) (bound_below o ring basis order m r f k))

-- what a pair shows has elements alone
pub held_below : {F EF : Type 0} (o : Ops) → IsRing o → (h : ℕ → ℕ) → (b : Ops) → IsRing b → IsRingMap o b h → (number : EF → ℕ) → ((x : EF) → number x < o.size) →
    (p : ProductPolynomial F EF) (s : EF) (held : Option EF) → IsBelow o (held_shown o number p held s)
unfolding entries rows_of
held_below o ring h b rb image number below p s None = record {
  evals = below_entries o b ring rb h image number below p.evals.evals.items;
  weights = below_entries o b ring rb h image number below p.weights.evals.items;
  claim = below s;
}
held_below o ring h b rb image number below p s (Some r) = record {
  evals = bound_rows_below o ring (basis_in p) (order_in p) (variables_in p - 1) (number r) (rows_of (numbers_of number p.evals));
  weights = bound_rows_below o ring (basis_in p) (order_in p) (variables_in p - 1) (number r) (rows_of (numbers_of number p.weights));
  claim = below s;
}

-- the list of the images of a bound table
image_entries : (a b : Ops) → (ra : IsRing a) (rb : IsRing b) (h : ℕ → ℕ) (image : IsRingMap a b h) (basis : Basis) (order : Order) (n r : ℕ) (xs : List ℕ) → ((k : ℕ) → rows_of xs k < a.size) → r < a.size →
    map h (entries_of n (folded_in basis order a n r (rows_of xs))) ≡ entries_of n (folded_in basis order b n (h r) (rows_of (map h xs)))
image_entries a b ra rb h image basis order n r xs below low =
    let ys = entries_of n (folded_in basis order a n r (rows_of xs)) in
    entries-is n (map h ys) _ (length-map ys h ∙ length-entries_of n _)
    (image_bound a b ra rb h image basis order n r (h r) (rows_of xs) (rows_of ys) _ _ below low refl (image_rows a b ra rb h image xs) (image_rows a b ra rb h image ys) (rows-entries_of n _))

module _ (a b : Ops) (ra : IsRing a) (rb : IsRing b) (h : ℕ → ℕ) (image : IsRingMap a b h) where
  -- a list with a held challenge bound, and its images
  image_now : {X Y : Type 0} (number : X → ℕ) (other : Y → ℕ) → ((x : X) → number x < a.size) → (basis : Basis) (order : Order) (n : ℕ) (held : Option X) (held' : Option Y) (xs : List ℕ) → ((k : ℕ) → rows_of xs k < a.size) →
      number_if_some (λ x. h (number x)) held ≡ number_if_some other held' →
      map h (bound_now a number basis order n held xs) ≡ bound_now b other basis order n held' (map h xs)
  image_now number other low basis order n None None xs below same = refl
  image_now number other low basis order n (Some r) (Some r') xs below same =
      let r_is : h (number r) ≡ other r' = cc same in
      image_entries a b ra rb h image basis order (n - 1) (number r) xs below (low r)
      ∙ ap (λ t. entries_of (n - 1) (folded_in basis order b (n - 1) t (rows_of (map h xs)))) r_is
  image_now number other low basis order n None (Some r') xs below same = cc
  image_now number other low basis order n (Some r) None xs below same = cc

  left_now : {X Y : Type 0} (number : X → ℕ) (other : Y → ℕ) → (n : ℕ) (held : Option X) (held' : Option Y) → number_if_some number held ≡ number_if_some other held' → left_of n held ≡ left_of n held'
  left_now number other n None None same = refl
  left_now number other n (Some r) (Some r') same = refl
  left_now number other n None (Some r') same = cc
  left_now number other n (Some r) None same = cc

  -- what the images show, by the images of the stored tables, the challenge and the claim
  pub image_held : {F X G Y : Type 0} (number : X → ℕ) (other : Y → ℕ) → ((x : X) → number x < a.size) → (p : ProductPolynomial F X) (q : ProductPolynomial G Y)
      (held : Option X) (held' : Option Y) (s : X) (s' : Y) → basis_in p ≡ basis_in q → order_in p ≡ order_in q → variables_in p ≡ variables_in q →
      map h (numbers_of number p.evals) ≡ numbers_of other q.evals → map h (numbers_of number p.weights) ≡ numbers_of other q.weights →
      number_if_some (λ x. h (number x)) held ≡ number_if_some other held' → h (number s) ≡ other s' →
      imaged h (held_shown a number p held s) ≡ held_shown b other q held' s'
  unfolding entries rows_of
  image_held number other low p q held held' s s' basis order size evals weights same claim =
      let n = variables_in p in
      let now : List ℕ → List ℕ = bound_now b other (basis_in p) (order_in p) n held' in
      let table : (xs ys : List ℕ) → ((k : ℕ) → rows_of xs k < a.size) → map h xs ≡ ys →
      map h (bound_now a number (basis_in p) (order_in p) n held xs) ≡ bound_now b other (basis_in q) (order_in q) (variables_in q) held' ys =
      λ xs ys below is. image_now number other low (basis_in p) (order_in p) n held held' xs below same
      ∙ ap now is ∙ ap (λ t. bound_now b other t (order_in p) n held' ys) basis ∙ ap (λ t. bound_now b other (basis_in q) t n held' ys) order
      ∙ ap (λ k. bound_now b other (basis_in q) (order_in q) k held' ys) size in
      let E = table (numbers_of number p.evals) (numbers_of other q.evals) (below_entries a b ra rb h image number low p.evals.evals.items) evals in
      let W = table (numbers_of number p.weights) (numbers_of other q.weights) (below_entries a b ra rb h image number low p.weights.evals.items) weights in
      let V = left_now (λ x. h (number x)) other n held held' same ∙ ap (λ k. left_of k held') size in
      λ i. record { basis = basis i; order = order i; variables = V i; evals = E i; weights = W i; claim = claim i }

-- a claim whose image is true is true
pub true_back : (e r : Ops) (ring_e : IsRing e) (ring : IsRing r) (from to : ℕ → ℕ) → (rep : IsRepresentation e r from to) → (s : ProverView) → IsBelow r s →
    IsTrueClaim e (imaged to s) → IsTrueClaim r s
true_back e r ring_e ring from to rep s below true_claim =
    represented_sum e r ring_e ring from to rep s.variables (rows_of s.evals) (rows_of s.weights) (rows_of (map to s.evals)) (rows_of (map to s.weights)) (to s.claim) s.claim
    below.evals below.weights (image_rows r e ring ring_e to rep.back s.evals) (image_rows r e ring ring_e to rep.back s.weights)
    true_claim (sym (rep.forth_back s.claim below.claim))

-- a variable is left for an image
pub left_for_image : {X Y : Type 0} (number : X → ℕ) (other : Y → ℕ) (n m : ℕ) (held : Option X) (held' : Option Y) → number_if_some other held' ≡ number_if_some number held → m ≡ n →
    IsLeftFor held n → IsLeftFor held' m
left_for_image number other n m (Some x) (Some y) same size left r is = subst (λ k. 0 < k) (sym size) (left x refl)
left_for_image number other n m None None same size left r is = cc
left_for_image number other n m None (Some y) same size left r is = cc
left_for_image number other n m (Some x) None same size left r is = cc
