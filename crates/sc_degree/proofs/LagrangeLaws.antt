-- The polynomial through values, by weights that are known: each the inverse of the product of its node's differences to the others.
use Rattle.std.proofs.Common.{◌≡◌, ◌≢◌, ℕ, zero, suc, ◌+◌, ◌-◌, ◌<◌, ◌≤◌, List, [], ◌∷◌, ◌++◌, length, map, slice_index, if◌then◌else◌, sym, ◌∙◌, ap, refl, subst, arith, append_assoc, eq-eqb, ne_eqb, ⊎_elim}
use Rattle.std.specs.List.{range_with_len}
use Rattle.std.proofs.lemmas.Bool.{cases_lt}
use Rattle.std.proofs.lemmas.List.{append-nil, length-append, length-map}
use Rattle.std.proofs.lemmas.List.FromFn.{map-range_with_len_more}
use Rattle.sc_definitions.specs.Ring.{Ops, IsField, element, plus, times, opposite, minus}
use Rattle.sc_definitions.specs.Tables.{sum_below, entries}
use Rattle.sc_definitions.specs.Polynomials.{poly_at, poly_scaled, poly_times}
use Rattle.sc_definitions.specs.Interpolation.{inverse, others, lagrange, through, with_value_at_one, sent_through, next_through}
use Rattle.sc_definitions.proofs.RingLaws.{element-small, element-one, element-plus, element-times, times_comm, times_assoc, times-zero, times-element_right}
use Rattle.sc_definitions.proofs.Sums.{sum-next, sum-zero, sum-same, times-sum}
use Rattle.sc_definitions.proofs.RootLaws.{same-from_minus, no_zero_divisors}
use Rattle.sc_definitions.proofs.PolyLaws.{poly_at-scaled, poly_at-sum}
use Rattle.sc_definitions.proofs.InterpolationLaws.{inverse-product, others-at}
use Rattle.sc_table.proofs.EntryLaws.{entry-append_left, entry-append_last}
use Rattle.sc_degree.specs.Nodes.{AreWeights, extended}
use Rattle.sc_definitions.proofs.Identity.{atom, nought, unit, ◌⊕◌, ◌⊗◌, Agree, identity}

-- ---- the product of the differences to the other nodes

-- the own node adds none
others-own : (o : Ops) (k n : ℕ) → k ≡ n → others o k (suc n) ≡ others o k n
unfolding others
others-own o k n e = ap (λ t. if t then others o k n else poly_times o (opposite o n ∷ 1 ∷ []) (others o k n)) (eq-eqb k n e)

-- below two nodes it is the same for both
others-below : (o : Ops) (k j n : ℕ) → n ≤ k → n ≤ j → others o k n ≡ others o j n
unfolding others
others-below o k j zero first second = refl
others-below o k j (suc n) first second =
    let not_k : k ≢ n = λ e. omega (arith, e, first) in
    let not_j : j ≢ n = λ e. omega (arith, e, second) in
    ap (λ t. if t then others o k n else poly_times o (opposite o n ∷ 1 ∷ []) (others o k n)) (ne_eqb k n not_k)
    ∙ ap (poly_times o (opposite o n ∷ 1 ∷ [])) (others-below o k j n (omega (arith, first)) (omega (arith, second)))
    ∙ sym (ap (λ t. if t then others o j n else poly_times o (opposite o n ∷ 1 ∷ []) (others o j n)) (ne_eqb j n not_j))

-- p is the product of the differences of node k to the other nodes below n, and not zero
pub record IsApart (o : Ops) (k n p : ℕ) : Type 0 where
  pub is : p ≡ poly_at o (others o k n) k
  pub apart : element o p ≢ 0

module _ (o : Ops) (field : IsField o) where
  others-start : (k x : ℕ) → poly_at o (others o k 0) x ≡ 1
  unfolding others poly_at Agree
  others-start k x = identity o field.ring (x ∷ []) (unit ⊕ atom 0 ⊗ nought) unit tt tt refl

  pub apart-none : (k p : ℕ) → p ≡ 1 → IsApart o k 0 p
  apart-none k p is = record {
    is = is ∙ sym (others-start k k);
    apart = λ e. let wrong : 1 ≡ 0 = sym (ap (element o) is ∙ element-one o field.ring) ∙ e in omega (arith, wrong);
  }

  pub apart-own : (k n p : ℕ) → IsApart o k n p → k ≡ n → IsApart o k (n + 1) p
  apart-own k n p so_far own =
      let next : suc n ≡ n + 1 = omega arith in
      record {
        is = so_far.is ∙ ap (λ cs. poly_at o cs k) (sym (others-own o k n own)) ∙ ap (λ m. poly_at o (others o k m) k) next;
        apart = so_far.apart;
      }

  pub apart-more : (k n p q : ℕ) → IsApart o k n p → k ≢ n → k < o.size → n < o.size → q ≡ times o p (minus o k n) → IsApart o k (n + 1) q
  apart-more k n p q so_far other small low is =
      let ring = field.ring in
      let next : suc n ≡ n + 1 = omega arith in
      let gap = minus o k n in
      record {
        is = is ∙ times_comm o ring p gap ∙ ap (times o gap) so_far.is ∙ sym (others-at o ring k n k other) ∙ ap (λ m. poly_at o (others o k m) k) next;
        apart = λ e.
            let none : times o p gap ≡ 0 = sym (element-times o ring p gap) ∙ ap (element o) (sym is) ∙ e in
            let same : element o gap ≡ 0 = no_zero_divisors o field p gap none so_far.apart in
            other (sym (element-small o ring k small)
            ∙ same-from_minus o ring k n (sym (element-plus o ring k (opposite o n)) ∙ same) ∙ element-small o ring n low);
      }

  -- the inverse of such a product is the weight
  inverse-same : (w x z : ℕ) → times o w x ≡ 1 → times o (inverse o x) z ≡ times o w z
  unfolding Agree
  inverse-same w x z one =
      let ring = field.ring in
      let i = inverse o x in
      let not_zero : element o x ≢ 0 =
      λ e. let wrong : 1 ≡ 0 = sym one ∙ sym (times-element_right o ring w x) ∙ ap (times o w) e ∙ times-zero o ring w in omega (arith, wrong) in
      let W = atom 0 in let X = atom 1 in let I = atom 2 in let Z = atom 3 in
      identity o ring (w ∷ x ∷ i ∷ z ∷ []) (I ⊗ Z) ((unit ⊗ I) ⊗ Z) tt tt refl
      ∙ ap (λ n. times o (times o n i) z) (sym one)
      ∙ identity o ring (w ∷ x ∷ i ∷ z ∷ []) (((W ⊗ X) ⊗ I) ⊗ Z) ((W ⊗ (X ⊗ I)) ⊗ Z) tt tt refl
      ∙ ap (λ n. times o (times o w n) z) (inverse-product o field x not_zero)
      ∙ identity o ring (w ∷ x ∷ i ∷ z ∷ []) ((W ⊗ unit) ⊗ Z) (W ⊗ Z) tt tt refl

-- ---- weights, one after the other

-- The first n weights of so many nodes are there.
pub record AreWeightsSoFar {X : Type 0} (o : Ops) (number : X → ℕ) (nodes n : ℕ) (ws : List X) : Type 0 where
  pub size : length ws ≡ n
  pub are : (k : ℕ) → k < n → times o (entries number ws k) (poly_at o (others o k nodes) k) ≡ 1

module _ {X : Type 0} (o : Ops) (number : X → ℕ) (nodes : ℕ) where
  pub weights-none : (ws : List X) → ws ≡ [] → AreWeightsSoFar o number nodes 0 ws
  weights-none ws none = record { size = ap length none; are = λ k low. absurd (omega (arith, low)) }

  pub weights-more : (n : ℕ) (ws new : List X) (w : X) → new ≡ ws ++ w ∷ [] → AreWeightsSoFar o number nodes n ws →
      times o (number w) (poly_at o (others o n nodes) n) ≡ 1 → AreWeightsSoFar o number nodes (n + 1) new
  weights-more n ws new w more so_far is = record {
    size = ap length more ∙ length-append ws (w ∷ []) ∙ ap (λ k. k + 1) so_far.size;
    are = λ k low. ap (λ l. times o (entries number l k) (poly_at o (others o k nodes) k)) more ∙ ⊎_elim
        (λ less. ap (λ v. times o v (poly_at o (others o k nodes) k)) (entry-append_left number ws (w ∷ []) k (omega (arith, less, so_far.size))) ∙ so_far.are k less)
        (λ at.
        let last : length ws ≡ k = omega (arith, low, at, so_far.size) in
        let same : n ≡ k = omega (arith, low, at) in
        subst (λ j. times o (entries number (ws ++ w ∷ []) k) (poly_at o (others o j nodes) j) ≡ 1) same
        (ap (λ v. times o v (poly_at o (others o n nodes) n)) (sym (ap (entries number (ws ++ w ∷ [])) last) ∙ entry-append_last number ws w) ∙ is))
        (cases_lt k n);
  }

  pub weights-all : (n : ℕ) (ws : List X) → n ≡ nodes → AreWeightsSoFar o number nodes n ws → AreWeights o (map number ws)
  unfolding entries
  weights-all n ws all done k low =
      let size : nodes ≡ length (map number ws) = omega (arith, length-map ws number, done.size, all) in
      subst (λ m. times o (entries number ws k) (poly_at o (others o k m) k) ≡ 1) size (done.are k (omega (arith, low, size, all)))

-- ---- further values

-- none
pub extended-none : (o : Ops) (claim : ℕ) (values : List ℕ) (target : ℕ) → target ≡ length values → extended o claim values target ≡ values
extended-none o claim values target none =
    let no : target - length values ≡ 0 = omega (arith, none) in
    ap (λ n. values ++ map (next_through o claim values) (range_with_len (length values + 1) n)) no ∙ append-nil values

-- one more
pub extended-more : (o : Ops) (claim : ℕ) (values : List ℕ) (n : ℕ) → length values ≤ n →
    extended o claim values (n + 1) ≡ extended o claim values n ++ next_through o claim values (n + 1) ∷ []
extended-more o claim values n low =
    let f = next_through o claim values in
    let k = n - length values in
    let next : n + 1 - length values ≡ k + 1 = omega (arith, low) in
    let at : length values + 1 + k ≡ n + 1 = omega (arith, low) in
    ap (λ m. values ++ map f (range_with_len (length values + 1) m)) next
    ∙ ap (λ l. values ++ l) (map-range_with_len_more f (length values + 1) k (n + 1) at)
    ∙ sym (append_assoc values (map f (range_with_len (length values + 1) k)) (f (n + 1) ∷ []))

-- ---- node by node

-- what a node adds, once all below n are read
share : Ops → (ℕ → ℕ) → (ℕ → ℕ) → ℕ → ℕ → ℕ → ℕ
share o ys ws x n k = times o (times o (ys k) (ws k)) (poly_at o (others o k n) x)

-- Of the nodes below n, p is the product of the differences of x to them, and s the sum of their shares.
pub record IsInterpolated (o : Ops) (ys ws : ℕ → ℕ) (x n p s : ℕ) : Type 0 where
  pub product : p ≡ poly_at o (others o n n) x
  pub sum : s ≡ sum_below o n (λ k. times o (times o (ys k) (ws k)) (poly_at o (others o k n) x))

module _ (o : Ops) (field : IsField o) (ys ws : ℕ → ℕ) (x : ℕ) where
  pub interpolated-none : {p s : ℕ} → p ≡ 1 → s ≡ 0 → IsInterpolated o ys ws x 0 p s
  interpolated-none product sum = record {
    product = product ∙ sym (others-start o field 0 x);
    sum = sum ∙ sym (sum-zero o (λ k. times o (times o (ys k) (ws k)) (poly_at o (others o k 0) x)));
  }

  -- a share of a node below grows by the new difference
  shares-grow : (n k : ℕ) → k < n → share o ys ws x (suc n) k ≡ times o (minus o x n) (share o ys ws x n k)
  unfolding share Agree
  shares-grow n k low =
      let ring = field.ring in
      let apart : k ≢ n = λ e. omega (arith, e, low) in
      let part = times o (ys k) (ws k) in
      let q = poly_at o (others o k n) x in
      ap (times o part) (others-at o ring k n x apart)
      ∙ identity o ring (part ∷ minus o x n ∷ q ∷ []) (atom 0 ⊗ (atom 1 ⊗ atom 2)) (atom 1 ⊗ (atom 0 ⊗ atom 2)) tt tt refl

  pub interpolated-more : (n p s gap part q t : ℕ) → IsInterpolated o ys ws x n p s → gap ≡ minus o x n → part ≡ times o (ys n) (ws n) →
      t ≡ plus o (times o s gap) (times o part p) → q ≡ times o p gap → IsInterpolated o ys ws x (n + 1) q t
  unfolding share
  interpolated-more n p s gap part q t so_far gap_is part_is t_is q_is =
      let ring = field.ring in
      let next : suc n ≡ n + 1 = omega arith in
      let past : suc n ≢ n = λ e. omega (arith, e) in
      let own : poly_at o (others o n (suc n)) x ≡ p = ap (λ cs. poly_at o cs x) (others-own o n n refl) ∙ sym so_far.product in
      let earlier : sum_below o n (share o ys ws x (suc n)) ≡ times o s gap =
      sum-same o n _ _ (λ k low. shares-grow n k low)
      ∙ sym (times-sum o ring (minus o x n) n (share o ys ws x n))
      ∙ times_comm o ring (minus o x n) (sum_below o n (share o ys ws x n))
      ∙ ap (λ v. times o v (minus o x n)) (sym so_far.sum)
      ∙ ap (times o s) (sym gap_is) in
      let whole : sum_below o (n + 1) (share o ys ws x (suc n)) ≡ plus o (times o s gap) (times o part p) =
      sum-next o n (share o ys ws x (suc n))
      ∙ ap (λ v. plus o v (share o ys ws x (suc n) n)) earlier
      ∙ ap (plus o (times o s gap)) (ap (times o (times o (ys n) (ws n))) own ∙ ap (λ v. times o v p) (sym part_is)) in
      record {
        product = q_is ∙ times_comm o ring p gap ∙ ap (λ g. times o g p) gap_is
            ∙ ap (times o (minus o x n)) (so_far.product ∙ ap (λ cs. poly_at o cs x) (others-below o n (suc n) n (omega arith) (omega arith)))
            ∙ sym (others-at o ring (suc n) n x past)
            ∙ ap (λ m. poly_at o (others o m m) x) next;
        sum = t_is ∙ sym whole ∙ ap (λ m. sum_below o (n + 1) (share o ys ws x m)) next;
      }

-- ---- what values send

-- the values at all nodes, one more than there are values
pub length-with_value_at_one : (o : Ops) (claim : ℕ) (values : List ℕ) → 0 < length values → length (with_value_at_one o claim values) ≡ length values + 1
length-with_value_at_one o claim [] some = absurd (omega (arith, some))
length-with_value_at_one o claim (v ∷ vs) some = omega arith

-- those from node 2 on
pub value-later : (o : Ops) (claim : ℕ) (values : List ℕ) (node : ℕ) → 2 ≤ node → slice_index (with_value_at_one o claim values) node ≡ slice_index values (node - 1)
value-later o claim [] node high = refl
value-later o claim (v ∷ vs) zero high = absurd (omega (arith, high))
value-later o claim (v ∷ vs) (suc zero) high = absurd (omega (arith, high))
value-later o claim (v ∷ vs) (suc (suc j)) high = let e : suc j ≡ suc (suc j) - 1 = omega arith in ap (slice_index (v ∷ vs)) e

-- all nodes
pub interpolated-all : (o : Ops) → IsField o → (claim : ℕ) (values weights : List ℕ) (x p s : ℕ) →
    0 < length values → length weights ≡ length values + 1 →
    ((k : ℕ) → k < length weights → times o (slice_index weights k) (poly_at o (others o k (length weights)) k) ≡ 1) →
    IsInterpolated o (slice_index (with_value_at_one o claim values)) (slice_index weights) x (length weights) p s →
    s ≡ next_through o claim values x
unfolding next_through sent_through through lagrange
interpolated-all o field claim values weights x p s some size are done =
    let ring = field.ring in
    let ys = with_value_at_one o claim values in
    let n = length ys in
    let same : length weights ≡ n = size ∙ sym (length-with_value_at_one o claim values some) in
    let y : ℕ → ℕ = slice_index ys in
    let w : ℕ → ℕ = slice_index weights in
    done.sum
    ∙ ap (λ m. sum_below o m (λ k. times o (times o (y k) (w k)) (poly_at o (others o k m) x))) same
    ∙ sum-same o n _ _ (λ k low.
    let q = poly_at o (others o k n) x in
    let at = poly_at o (others o k n) k in
    let one : times o (w k) at ≡ 1 = subst (λ m. times o (w k) (poly_at o (others o k m) k) ≡ 1) same (are k (omega (arith, low, same))) in
    times_assoc o ring (y k) (w k) q
    ∙ ap (times o (y k)) (sym (inverse-same o field (w k) at q one) ∙ sym (poly_at-scaled o ring (inverse o at) (others o k n) x))
    ∙ sym (poly_at-scaled o ring (y k) (lagrange o k n) x))
    ∙ sym (poly_at-sum o ring n (λ k. poly_scaled o (y k) (lagrange o k n)) x)
