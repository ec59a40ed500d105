-- A round that moves a prover state sends the honest message of the tables before it, and its bound tables are those with the challenge placed.
use Rattle.std.proofs.Common.{◌≡◌, ℕ, ◌+◌, ◌^◌, ◌<◌, List, [], ◌∷◌, ◌++◌, length, refl, ap, sym, ◌∙◌}
use Rattle.sc_definitions.specs.Ring.{Ops, IsRing, plus, times}
use Rattle.sc_definitions.specs.Tables.{Basis, evaluation, projective, Order, prefix, suffix, IsOffered, sum_below, monomial, coefficient_value, value_in, rows_of, placed, bound_coefficients, folded_in, folded_by}
use Rattle.sc_definitions.specs.Messages.{message_of}
use Rattle.sc_definitions.specs.Channels.{Wire}
use Rattle.sc_definitions.specs.ProverStates.{Setting, ProverState, entries_of, half_rows, honest_in, IsRound, IsHonestRound}
use Rattle.sc_definitions.proofs.Sums.{sum-same, sum-split, sum-plus}
use Rattle.sc_definitions.proofs.Identity.{atom, unit, ◌⊕◌, ◌⊗◌, Agree, identity}
use Rattle.sc_definitions.proofs.TableLaws.{two_halves, value-bound, value-same}
use Rattle.sc_definitions.proofs.SuffixLaws.{value-bound_low}
use Rattle.sc_definitions.proofs.PlacedLaws.{monomial-low, monomial-high}
use Rattle.sc_definitions.proofs.RoundLaws.{honest_message-message}
use Rattle.sc_definitions.proofs.ProverStateLaws.{rows-entries_of}

module _ (o : Ops) (ring : IsRing o) where
  -- a table of coefficients with its first variable bound
  pub coefficient_value-bound : (f : ℕ → ℕ) (r : ℕ) (zs : List ℕ) → coefficient_value o f (r ∷ zs) ≡ coefficient_value o (bound_coefficients o (2 ^ length zs) r f) zs
  unfolding coefficient_value bound_coefficients Agree
  coefficient_value-bound f r zs =
      let p = 2 ^ length zs in
      let g : ℕ → ℕ = λ a. times o (f a) (monomial o (r ∷ zs) a) in
      let A = atom 0 in let B = atom 1 in let R = atom 2 in let W = atom 3 in
      ap (λ n. sum_below o n g) (two_halves (length zs))
      ∙ sum-split o ring p p g
      ∙ sum-plus o ring p g (λ a. g (p + a))
      ∙ sum-same o p _ _ (λ a small.
      ap (λ w. plus o (times o (f a) w) (g (p + a))) (monomial-low o ring r zs a small)
      ∙ ap (λ w. plus o (times o (f a) (times o 1 (monomial o zs a))) (times o (f (p + a)) w)) (monomial-high o ring r zs a small)
      ∙ identity o ring (f a ∷ f (p + a) ∷ r ∷ monomial o zs a ∷ []) (A ⊗ (unit ⊗ W) ⊕ B ⊗ (R ⊗ W)) ((A ⊕ B ⊗ R) ⊗ W) tt tt refl)

  -- a table with the variable of a round bound, in either basis
  pub value_in-bound : (basis : Basis) (order : Order) → IsOffered basis order → (f : ℕ → ℕ) (r : ℕ) (zs : List ℕ) →
      value_in basis o f (placed order (r ∷ []) zs) ≡ value_in basis o (folded_in basis order o (length zs) r f) zs
  value_in-bound evaluation prefix offered f r zs = value-bound o ring f r zs
  value_in-bound evaluation suffix offered f r zs = value-bound_low o ring f zs r
  value_in-bound projective prefix offered f r zs = coefficient_value-bound f r zs
  value_in-bound projective suffix offered f r zs = absurd offered

pub value_in-same : (basis : Basis) (o : Ops) (f g : ℕ → ℕ) (zs : List ℕ) → ((b : ℕ) → b < 2 ^ length zs → f b ≡ g b) → value_in basis o f zs ≡ value_in basis o g zs
unfolding coefficient_value
value_in-same evaluation o f g zs same = value-same o f g zs same
value_in-same projective o f g zs same = sum-same o (2 ^ length zs) _ _ (λ b low. ap (λ n. times o n (monomial o zs b)) (same b low))

-- the value of a table that a round has bound
bound_value : (s : Setting) → IsRing s.ops → IsOffered s.basis s.order → (m r : ℕ) (xs ys zs : List ℕ) →
    ys ≡ entries_of m (folded_in s.basis s.order s.ops m r (rows_of xs)) → length zs ≡ m →
    value_in s.basis s.ops (rows_of ys) zs ≡ value_in s.basis s.ops (rows_of xs) (placed s.order (r ∷ []) zs)
bound_value s ring offered m r xs ys zs bound size =
    value_in-same s.basis s.ops _ _ zs (λ b low.
    ap (λ t. rows_of t b) bound ∙ rows-entries_of m _ b (rw (← size) low)
    ∙ ap (λ n. folded_in s.basis s.order s.ops n r (rows_of xs) b) (sym size))
    ∙ sym (value_in-bound s.ops ring s.basis s.order offered (rows_of xs) r zs)

-- what a round sends
sent_is : (s : Setting) → IsRing s.ops → IsOffered s.basis s.order → (t u : ProverState) (r : ℕ) → (p : IsRound s t u r) → p.round.values ≡ honest_in s t [] u.variables
unfolding folded_by
sent_is s ring offered t u r p =
    p.message
    ∙ ap (λ n. message_of s.basis s.order s.ops (half_rows n) (rows_of t.evals) (rows_of t.weights)) p.fewer
    ∙ sym (honest_message-message s.ops ring s.basis s.order offered (rows_of t.evals) (rows_of t.weights) [] u.variables)

pub honest-round : (s : Setting) → IsRing s.ops → IsOffered s.basis s.order → (t u : ProverState) (r : ℕ) → IsRound s t u r → IsHonestRound s t u r
honest-round s ring offered t u r p = record {
  message = ap (λ (w : Wire). w.messages) p.wire ∙ ap (λ v. t.wire.messages ++ v ∷ []) (sent_is s ring offered t u r p);
  evals = λ zs size. bound_value s ring offered u.variables r t.evals u.evals zs p.evals size;
  weights = λ zs size. bound_value s ring offered u.variables r t.weights u.weights zs p.weights size;
}
