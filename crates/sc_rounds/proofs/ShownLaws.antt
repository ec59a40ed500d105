-- What a prover shows, by the tables of its pair as functions.
use Rattle.std.proofs.Common.{◌≡◌, ◌↔◌, ℕ, ◌^◌, ◌<◌, List, map, length, slice_index, nat_eq, IsTrue, refl, ap, sym, ◌∙◌, Result, Ok, Err, IfOk}
use Rattle.std.proofs.lemmas.Bool.{eqb-true, eq-eqb}
use Rattle.std.proofs.lemmas.List.{length-map}
use Rattle.std.proofs.lemmas.Grind.{same_number_lists}
use Rattle.sc_definitions.specs.Ring.{Ops, plus, times}
use Rattle.sc_definitions.specs.Tables.{entries, rows_of, inner_product}
use Rattle.sc_definitions.proofs.ProverStateLaws.{entries-is}
use Rattle.sc_table.specs.Polys.{variables_of, table_of}
use Rattle.sc_table.specs.declared.poly.Poly.{Poly}
use Rattle.sc_statements.specs.Batches.{gathered, AddsBatch}
use Rattle.sc_rounds.specs.declared.product_polynomial.ProductPolynomial.{ProductPolynomial}
use Rattle.sc_rounds.specs.Products.{numbers_of, variables_in, basis_in, order_in, evals_in, weights_in, sum_in}
use Rattle.sc_rounds.specs.Provers.{Stated, shown_of, weight_of, claim_of}
use Rattle.sc_definitions.specs.ProverViews.{sum_with, IsTrueClaim, with_added, with_scaled}
use Rattle.sc_rounds.proofs.PairRounds.{pair_rows}
use Rattle.sc_definitions.proofs.PairMoves.{sized, same_lists}

-- a table by the list of its numbers
pub rows-numbers : {X : Type 0} (number : X → ℕ) (xs : List X) → rows_of (map number xs) ≡ entries number xs
unfolding entries rows_of
rows-numbers number xs = refl

lists_same : (xs ys : List ℕ) (n m : ℕ) → length xs ≡ 2 ^ n → length ys ≡ 2 ^ m → m ≡ n → ((k : ℕ) → slice_index ys k ≡ slice_index xs k) → ys ≡ xs
lists_same xs ys n m size other same is = same_number_lists ys xs (other ∙ ap (λ k. 2 ^ k) same ∙ sym size) (λ k low. is k)

-- tables of as many variables that are the same have the same numbers
pub same_numbers : {A B : Type 0} (number : A → ℕ) (image : B → ℕ) (p : Poly A) (q : Poly B) → variables_of q ≡ variables_of p → table_of image q ≡ table_of number p →
    numbers_of image q ≡ numbers_of number p
unfolding entries
same_numbers number image p q size same =
    let P = sized number p.evals.items _ _ p.evals.ok.0 p.sized in
    let Q = sized image q.evals.items _ _ q.evals.ok.0 q.sized in
    lists_same (map number p.evals.items) (map image q.evals.items) (variables_of p) (variables_of q) P Q size (λ k. ap (λ t. t k) same)

-- the entries of a table, as a list that was lent
pub same_entries : {A : Type 0} (number : A → ℕ) (p : Poly A) (xs : List A) → length xs ≡ 2 ^ variables_of p → entries number xs ≡ table_of number p → map number xs ≡ numbers_of number p
unfolding entries
same_entries number p xs size same =
    lists_same (map number p.evals.items) (map number xs) (variables_of p) (variables_of p) (sized number p.evals.items _ _ p.evals.ok.0 p.sized)
    (length-map xs number ∙ size) refl (λ k. ap (λ t. t k) same)

module _ {F EF : Type 0} (number : EF → ℕ) where
  -- values are added to the weights and to the claim
  pub shown_added : (o : Ops) (p p' : ProductPolynomial F EF) (s s' : EF) (v : ℕ → ℕ) (c : ℕ) → variables_in p' ≡ variables_in p → basis_in p' ≡ basis_in p → order_in p' ≡ order_in p →
      evals_in number p' ≡ evals_in number p → ((b : ℕ) → b < 2 ^ variables_in p → weights_in number p' b ≡ plus o (weights_in number p b) (v b)) →
      number s' ≡ plus o (number s) c → shown_of number p' s' ≡ with_added o (shown_of number p s) v c
  unfolding entries rows_of
  shown_added o p p' s s' v c variables basis order evals weights claim =
      let same = same_lists number _ _ p.evals.evals.items p'.evals.evals.items (pair_rows number p).0 (pair_rows number p').0 variables evals in
      let more = entries-is (variables_in p) (numbers_of number p'.weights) _ ((pair_rows number p').1 ∙ ap (λ n. 2 ^ n) variables) weights in
      λ i. record { basis = basis i; order = order i; variables = variables i; evals = same i; weights = more i; claim = claim i }

  -- the weights and the claim are multiplied
  pub shown_scaled : (o : Ops) (p p' : ProductPolynomial F EF) (s s' : EF) (k : ℕ) → variables_in p' ≡ variables_in p → basis_in p' ≡ basis_in p → order_in p' ≡ order_in p →
      evals_in number p' ≡ evals_in number p → ((b : ℕ) → b < 2 ^ variables_in p → weights_in number p' b ≡ times o (weights_in number p b) k) →
      number s' ≡ times o (number s) k → shown_of number p' s' ≡ with_scaled o (shown_of number p s) k
  unfolding entries rows_of
  shown_scaled o p p' s s' k variables basis order evals weights claim =
      let same = same_lists number _ _ p.evals.evals.items p'.evals.evals.items (pair_rows number p).0 (pair_rows number p').0 variables evals in
      let more = entries-is (variables_in p) (numbers_of number p'.weights) _ ((pair_rows number p').1 ∙ ap (λ n. 2 ^ n) variables) weights in
      λ i. record { basis = basis i; order = order i; variables = variables i; evals = same i; weights = more i; claim = claim i }

  -- a constraint is taken in
  pub shown_taken : (o : Ops) (p p' : ProductPolynomial F EF) (s s' : EF) (c : Stated) → variables_in p' ≡ variables_in p → basis_in p' ≡ basis_in p → order_in p' ≡ order_in p →
      evals_in number p' ≡ evals_in number p → AddsBatch o (variables_in p) c.challenge c.power c.statements (gathered (weights_in number p) (number s)) (gathered (weights_in number p') (number s')) →
      shown_of number p' s' ≡ with_added o (shown_of number p s) (weight_of o c) (claim_of o c)
  shown_taken o p p' s s' c variables basis order evals added = shown_added o p p' s s' (weight_of o c) (claim_of o c) variables basis order evals added.weights added.sum

  -- sums by the tables as functions
  pub sum_shown : (o : Ops) (p : ProductPolynomial F EF) (s : EF) (w : ℕ → ℕ) → sum_with o (shown_of number p s) w ≡ inner_product o (variables_in p) (evals_in number p) w
  sum_shown o p s w = ap (λ f. inner_product o (variables_in p) f w) (rows-numbers number p.evals.evals.items)

  -- a sum that is true
  pub true_shown : (o : Ops) (p : ProductPolynomial F EF) (s : EF) → number s ≡ sum_in o number p → IsTrueClaim o (shown_of number p s)
  true_shown o p s true_sum =
      true_sum ∙ sym (sum_shown o p s (rows_of (numbers_of number p.weights)) ∙ ap (inner_product o (variables_in p) (evals_in number p)) (rows-numbers number p.weights.evals.items))

  -- and back
  pub true_of : (o : Ops) (p : ProductPolynomial F EF) (s : EF) → IsTrueClaim o (shown_of number p s) → number s ≡ sum_in o number p
  true_of o p s true_claim =
      true_claim ∙ sum_shown o p s (rows_of (numbers_of number p.weights)) ∙ ap (inner_product o (variables_in p) (evals_in number p)) (rows-numbers number p.weights.evals.items)

-- the numbers of a table that a call answers
pub numbers_if_ok : {A B E : Type 0} (number : A → ℕ) (image : B → ℕ) (p : Poly A) (r : Result (Poly B) E) → IfOk r (λ q. variables_of q ≡ variables_of p) →
    IfOk r (λ q. table_of image q ≡ table_of number p) → IfOk r (λ q. numbers_of image q ≡ numbers_of number p)
numbers_if_ok number image p (Ok q) size same = same_numbers number image p q size same
numbers_if_ok number image p (Err e) size same = tt

-- whether two numbers are the same, by what they are
pub equal_by : (a b m n : ℕ) → a ≡ m → b ≡ n → IsTrue (nat_eq a b) ↔ (n ≡ m)
equal_by a b m n am bn = (λ t. sym bn ∙ sym (eqb-true a b t) ∙ am, λ e. eq-eqb a b (am ∙ sym e ∙ sym bn))
