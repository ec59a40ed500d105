-- Tables bound at challenges, as sums over the rows of the variables that are bound; weights that are added up.
use mathlib.Core.Path.{fun_ext}
use Rattle.std.proofs.Common.{◌≡◌, ℕ, suc, ◌+◌, ◌*◌, ◌^◌, ◌<◌, List, [], ◌∷◌, ◌++◌, length, reverse, sym, ◌∙◌, ap, refl, arith, append-nil}
use Rattle.std.proofs.lemmas.List.{length-reverse}
use Rattle.std.proofs.lemmas.Grind.{reverse_onto}
use Rattle.sc_definitions.specs.Ring.{Ops, IsRing, element, plus, times, minus, opposite, power}
use Rattle.sc_definitions.specs.Tables.{Basis, evaluation, projective, Order, prefix, suffix, sum_below, equality_weight, eq_product, value, point_of, bound, bound_low, bound_coefficients, folded_in, folded_by}
use Rattle.sc_definitions.specs.Messages.{low_entry, high_entry}
use Rattle.sc_definitions.specs.Statements.{Statement, weight_of, batched_by_powers, weights_at, batched_weight}
use Rattle.sc_definitions.specs.Partials.{joined_row, summed_first, summed_last, kept_of, behind_of}
use Rattle.sc_definitions.specs.Combined.{Scaled, combined_weight, scaled_from}
use Rattle.sc_definitions.proofs.RingLaws.{plus_below, times_comm, element-plus, element-small, element-zero, times-element_right, plus-element_right}
use Rattle.sc_definitions.proofs.TableLaws.{value-bound, value-same, value-none}
use Rattle.sc_definitions.proofs.SuffixLaws.{value-bound_low}
use Rattle.sc_definitions.proofs.ValueLaws.{value-times, value-weight}
use Rattle.sc_definitions.proofs.GridLaws.{folded_in-line}
use Rattle.sc_definitions.proofs.PartialLaws.{length-kept_of, joined_row-none, joined-low, joined-high, equality_weight-split}
use Rattle.sc_definitions.proofs.Identity.{atom, nought, unit, neg, ◌⊕◌, ◌⊗◌, ◌⊖◌, Agree, identity}

-- the point that challenges make has a coordinate for each
pub length-point_of : (order : Order) (rs : List ℕ) → length (point_of order rs) ≡ length rs
length-point_of prefix rs = ap length (append-nil rs)
length-point_of suffix rs = length-reverse rs

point_of-none : (order : Order) → point_of order [] ≡ []
point_of-none prefix = refl
point_of-none suffix = refl

module _ (o : Ops) (ring : IsRing o) where
  -- ---- sums over the rows of the bound variables

  -- a table's value at the challenges is that of the table with the first one bound at the others
  value-folded_in : (order : Order) (g : ℕ → ℕ) (r : ℕ) (rs : List ℕ) →
      value o g (point_of order (r ∷ rs)) ≡ value o (folded_in evaluation order o (length rs) r g) (point_of order rs)
  value-folded_in prefix g r rs = value-bound o ring g r (rs ++ []) ∙ ap (λ n. value o (bound o (2 ^ n) r g) (rs ++ [])) (length-point_of prefix rs)
  value-folded_in suffix g r rs = ap (value o g) (reverse_onto rs r []) ∙ value-bound_low o ring g (reverse rs) r

  -- an entry of a table bound at challenges is the value, at them, of the table of the rows that end in its row
  pub folded_by-value : (order : Order) (f : ℕ → ℕ) (rs : List ℕ) (m b : ℕ) →
      element o (folded_by evaluation order o rs m f b) ≡ value o (λ a. f (joined_row order (length rs) m a b)) (point_of order rs)
  unfolding folded_by
  folded_by-value order f [] m b =
      let g : ℕ → ℕ = λ a. f (joined_row order 0 m a b) in
      ap (λ k. element o (f k)) (sym (joined_row-none order m b)) ∙ sym (ap (value o g) (point_of-none order) ∙ value-none o ring g)
  folded_by-value order f (r ∷ rs) m b =
      let l = length rs in
      let same : l + 0 ≡ l = omega arith in
      let row : ℕ → ℕ = λ a. joined_row order l m a b in
      let g : ℕ → ℕ = λ a. f (joined_row order (suc l) m a b) in
      let line : ℕ → ℕ → ℕ = λ x y. plus o x (times o (minus o y x) r) in
      let more : (a : ℕ) → folded_in evaluation order o (l + m) r f (row a) ≡ folded_in evaluation order o (l + 0) r g a = λ a.
      ap (λ t. t (row a)) (folded_in-line order o (l + m) r f)
      ∙ ap (λ k. line k (high_entry order (2 ^ (l + m)) f (row a))) (joined-low order f l m a b)
      ∙ ap (line (low_entry order g a)) (joined-high order f l m a b)
      ∙ sym (ap (λ t. t a) (folded_in-line order o (l + 0) r g)) in
      folded_by-value order (folded_in evaluation order o (l + m) r f) rs m b
      ∙ ap (λ t. value o t (point_of order rs)) (fun_ext more)
      ∙ ap (λ n. value o (folded_in evaluation order o n r g) (point_of order rs)) same
      ∙ sym (value-folded_in order g r rs)

  -- prefix: the table bound at challenges is the table summed over its first variables, under the equality weights of the challenges
  pub folded_by-summed_first : (f : ℕ → ℕ) (rs : List ℕ) (m b : ℕ) →
      element o (folded_by evaluation prefix o rs m f b) ≡ summed_first o (length rs) m (equality_weight o rs) f b
  unfolding summed_first value
  folded_by-summed_first f rs m b = folded_by-value prefix f rs m b ∙ ap (value o (λ a. f (a * 2 ^ m + b))) (append-nil rs)

  -- suffix: it is the table summed over its last variables, under the equality weights of the challenges from the last to the first
  pub folded_by-summed_last : (f : ℕ → ℕ) (rs : List ℕ) (m b : ℕ) →
      element o (folded_by evaluation suffix o rs m f b) ≡ summed_last o (length rs) (equality_weight o (reverse rs)) f b
  unfolding summed_last value
  folded_by-summed_last f rs m b =
      folded_by-value suffix f rs m b
      ∙ ap (λ n. sum_below o (2 ^ n) (λ a. times o (f (b * 2 ^ length rs + a)) (equality_weight o (reverse rs) a))) (length-reverse rs)

  -- equality weights bound at challenges: the equality weight of the kept coordinates and the challenges, times that of the row
  pub folded_by-equality_weight : (order : Order) (zs rs : List ℕ) (m b : ℕ) → length zs ≡ length rs + m → b < 2 ^ m →
      element o (folded_by evaluation order o rs m (equality_weight o zs) b)
      ≡ times o (eq_product o (kept_of order (length rs) zs) (point_of order rs)) (equality_weight o (behind_of order (length rs) zs) b)
  folded_by-equality_weight order zs rs m b whole low =
      let l = length rs in
      let kept = kept_of order l zs in
      let W = equality_weight o (behind_of order l zs) b in
      let size : length (point_of order rs) ≡ l = length-point_of order rs in
      folded_by-value order (equality_weight o zs) rs m b
      ∙ value-same o _ (λ a. times o W (equality_weight o kept a)) (point_of order rs) (λ a la.
      equality_weight-split o ring order zs l m a b whole (rw size at la) low ∙ times_comm o ring (equality_weight o kept a) W)
      ∙ value-times o ring W (equality_weight o kept) (point_of order rs)
      ∙ ap (times o W) (value-weight o ring kept (point_of order rs) (length-kept_of order l zs (omega arith) ∙ sym size))
      ∙ times_comm o ring W (eq_product o kept (point_of order rs))

  -- ---- sums of tables

  folded_in-sum : (basis : Basis) (order : Order) (m r c : ℕ) (u v : ℕ → ℕ) →
      folded_in basis order o m r (λ k. plus o (times o c (u k)) (v k))
      ≡ (λ k. plus o (times o c (folded_in basis order o m r u k)) (folded_in basis order o m r v k))
  unfolding bound bound_low bound_coefficients Agree
  folded_in-sum evaluation prefix m r c u v = fun_ext (λ k.
      let C = atom 0 in let A = atom 1 in let B = atom 2 in let X = atom 3 in let Y = atom 4 in let R = atom 5 in
      identity o ring (c ∷ u k ∷ u (2 ^ m + k) ∷ v k ∷ v (2 ^ m + k) ∷ r ∷ [])
      ((C ⊗ A ⊕ X) ⊕ ((C ⊗ B ⊕ Y) ⊖ (C ⊗ A ⊕ X)) ⊗ R) (C ⊗ (A ⊕ (B ⊖ A) ⊗ R) ⊕ (X ⊕ (Y ⊖ X) ⊗ R)) tt tt refl)
  folded_in-sum evaluation suffix m r c u v = fun_ext (λ k.
      let C = atom 0 in let A = atom 1 in let B = atom 2 in let X = atom 3 in let Y = atom 4 in let R = atom 5 in
      identity o ring (c ∷ u (2 * k) ∷ u (2 * k + 1) ∷ v (2 * k) ∷ v (2 * k + 1) ∷ r ∷ [])
      ((C ⊗ A ⊕ X) ⊕ ((C ⊗ B ⊕ Y) ⊖ (C ⊗ A ⊕ X)) ⊗ R) (C ⊗ (A ⊕ (B ⊖ A) ⊗ R) ⊕ (X ⊕ (Y ⊖ X) ⊗ R)) tt tt refl)
  folded_in-sum projective order m r c u v = fun_ext (λ k.
      let C = atom 0 in let A = atom 1 in let B = atom 2 in let X = atom 3 in let Y = atom 4 in let R = atom 5 in
      identity o ring (c ∷ u k ∷ u (2 ^ m + k) ∷ v k ∷ v (2 ^ m + k) ∷ r ∷ [])
      ((C ⊗ A ⊕ X) ⊕ (C ⊗ B ⊕ Y) ⊗ R) (C ⊗ (A ⊕ B ⊗ R) ⊕ (X ⊕ Y ⊗ R)) tt tt refl)

  -- an entry of the sum of two tables, one of them times a number, bound at challenges
  pub folded_by-sum : (basis : Basis) (order : Order) (c : ℕ) (u v : ℕ → ℕ) (rs : List ℕ) (m b : ℕ) →
      folded_by basis order o rs m (λ k. plus o (times o c (u k)) (v k)) b
      ≡ plus o (times o c (folded_by basis order o rs m u b)) (folded_by basis order o rs m v b)
  unfolding folded_by
  folded_by-sum basis order c u v [] m b = refl
  folded_by-sum basis order c u v (r ∷ rs) m b =
      let n = length rs + m in
      ap (λ t. folded_by basis order o rs m t b) (folded_in-sum basis order n r c u v)
      ∙ folded_by-sum basis order c (folded_in basis order o n r u) (folded_in basis order o n r v) rs m b

  -- the same, of the elements that the entries name
  pub folded_by-sum_element : (basis : Basis) (order : Order) (c : ℕ) (u v : ℕ → ℕ) (rs : List ℕ) (m b : ℕ) →
      element o (folded_by basis order o rs m (λ k. plus o (times o c (u k)) (v k)) b)
      ≡ plus o (times o c (element o (folded_by basis order o rs m u b))) (element o (folded_by basis order o rs m v b))
  folded_by-sum_element basis order c u v rs m b =
      let U = folded_by basis order o rs m u b in
      let V = folded_by basis order o rs m v b in
      ap (element o) (folded_by-sum basis order c u v rs m b)
      ∙ element-plus o ring (times o c U) V
      ∙ sym (ap (λ k. plus o k (element o V)) (times-element_right o ring c U) ∙ plus-element_right o ring (times o c U) V)

  -- a table of zeros stays one
  pub folded_by-zero : (basis : Basis) (order : Order) (rs : List ℕ) (m b : ℕ) → folded_by basis order o rs m (λ k. 0) b ≡ 0
  unfolding Agree
  folded_by-zero basis order rs m b =
      let Z = folded_by basis order o rs m (λ k. 0) b in
      ap (λ t. folded_by basis order o rs m t b) (fun_ext (λ k. identity o ring [] nought (neg unit ⊗ nought ⊕ nought) tt tt refl))
      ∙ folded_by-sum basis order (opposite o 1) (λ k. 0) (λ k. 0) rs m b
      ∙ identity o ring (Z ∷ []) (neg unit ⊗ atom 0 ⊕ atom 0) nought tt tt refl

  -- ---- weights that are added up

  -- the weights of no kinds, bound at challenges
  pub folded_by-combined_none : (basis : Basis) (order : Order) (rs : List ℕ) (m b : ℕ) →
      element o (folded_by basis order o rs m (combined_weight o []) b) ≡ 0
  unfolding combined_weight
  folded_by-combined_none basis order rs m b = ap (element o) (folded_by-zero basis order rs m b) ∙ element-zero o ring

  -- the weights of a kind and of others, bound at challenges
  pub folded_by-combined_more : (basis : Basis) (order : Order) (c : Scaled) (cs : List Scaled) (rs : List ℕ) (m b : ℕ) →
      let at : (ℕ → ℕ) → ℕ = λ w. element o (folded_by basis order o rs m w b) in
      at (combined_weight o (c ∷ cs)) ≡ plus o (times o c.coefficient (at (weight_of o c.kind))) (at (combined_weight o cs))
  unfolding combined_weight
  folded_by-combined_more basis order c cs rs m b = folded_by-sum_element basis order c.coefficient (weight_of o c.kind) (combined_weight o cs) rs m b

  -- ---- entries below the size

  folded_in_below : (basis : Basis) (order : Order) (m r : ℕ) (f : ℕ → ℕ) (b : ℕ) → folded_in basis order o m r f b < o.size
  unfolding bound bound_low bound_coefficients
  folded_in_below evaluation prefix m r f b = plus_below o ring (f b) (times o (minus o (f (2 ^ m + b)) (f b)) r)
  folded_in_below evaluation suffix m r f b = plus_below o ring (f (2 * b)) (times o (minus o (f (2 * b + 1)) (f (2 * b))) r)
  folded_in_below projective order m r f b = plus_below o ring (f b) (times o (f (2 ^ m + b)) r)

  -- a table of elements, bound at challenges, has elements
  pub folded_by_below : (basis : Basis) (order : Order) (f : ℕ → ℕ) (rs : List ℕ) (m b : ℕ) →
      ((k : ℕ) → k < 2 ^ (length rs + m) → f k < o.size) → b < 2 ^ m → folded_by basis order o rs m f b < o.size
  unfolding folded_by
  folded_by_below basis order f [] m b below low = let e : length {A = ℕ} [] + m ≡ m = omega arith in below b (rw e low)
  folded_by_below basis order f (r ∷ rs) m b below low =
      folded_by_below basis order (folded_in basis order o (length rs + m) r f) rs m b (λ k _. folded_in_below basis order (length rs + m) r f k) low

  -- the entries of a table of elements, bound at challenges, are the elements that they name
  pub element-folded_by : (basis : Basis) (order : Order) (f : ℕ → ℕ) (rs : List ℕ) (m b : ℕ) →
      ((k : ℕ) → k < 2 ^ (length rs + m) → f k < o.size) → b < 2 ^ m → element o (folded_by basis order o rs m f b) ≡ folded_by basis order o rs m f b
  element-folded_by basis order f rs m b below low = element-small o ring _ (folded_by_below basis order f rs m b below low)

-- ---- batches

-- the sum of statements' weights, each times its power of a number, is that of their kinds with these coefficients
pub batched_by_powers-scaled : (o : Ops) (c p : ℕ) (ss : List Statement) (b : ℕ) →
    batched_by_powers o c p (weights_at o ss b) ≡ combined_weight o (scaled_from o c p ss) b
unfolding batched_by_powers combined_weight scaled_from
batched_by_powers-scaled o c p [] b = refl
batched_by_powers-scaled o c p (s ∷ ss) b = ap (plus o (times o (power o c p) (weight_of o s.kind b))) (batched_by_powers-scaled o c (suc p) ss b)

-- the batched weights are those of the statements' kinds with these coefficients
pub batched_weight-scaled : (o : Ops) (challenge initial : ℕ) (ss : List Statement) →
    batched_weight o challenge initial ss ≡ combined_weight o (scaled_from o challenge initial ss)
unfolding batched_weight
batched_weight-scaled o challenge initial ss = fun_ext (batched_by_powers-scaled o challenge initial ss)
