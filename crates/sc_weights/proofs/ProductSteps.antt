-- Products of coordinates, by halves.
use Rattle.std.proofs.Common.{◌≡◌, ℕ, suc, ◌+◌, ◌-◌, ◌^◌, ◌<◌, ◌≤◌, List, [], ◌∷◌, length, map, take, drop, sym, ◌∙◌, ap, refl, arith, ◌⊎◌, ⊎_elim}
use Rattle.std.proofs.lemmas.List.{take_all, length-take-le, length-drop}
use Rattle.sc_definitions.specs.Ring.{Ops, IsRing, element, plus, times, minus}
use Rattle.sc_definitions.specs.Tables.{sum_below, monomial, inner_product, value}
use Rattle.sc_definitions.proofs.RingLaws.{element-small, element-one, element-times, times-one, times_comm, times_assoc}
use Rattle.sc_definitions.proofs.Sums.{sum-same, times-sum}
use Rattle.sc_definitions.proofs.Identity.{atom, nought, unit, ◌⊕◌, ◌⊗◌, Agree, identity}
use Rattle.sc_definitions.proofs.TableLaws.{inner_product-halves}
use Rattle.sc_definitions.proofs.ValueLaws.{element-value, value-monomial_none, value-monomial_more}
use Rattle.sc_definitions.proofs.PlacedLaws.{monomial-low, monomial-high}

module _ (o : Ops) (ring : IsRing o) (z : ℕ) (zs all : List ℕ) (split : all ≡ z ∷ zs) where
  -- what a half gains
  pub gain-low : (scale b : ℕ) → b < 2 ^ length zs → times o scale (monomial o zs b) ≡ times o scale (monomial o all b)
  unfolding Agree
  gain-low scale b low =
      identity o ring (scale ∷ monomial o zs b ∷ []) (atom 0 ⊗ atom 1) (atom 0 ⊗ (unit ⊗ atom 1)) tt tt refl
      ∙ ap (times o scale) (sym (ap (λ l. monomial o l b) split ∙ monomial-low o ring z zs b low))

  pub gain-high : (scale b : ℕ) → b < 2 ^ length zs → times o (times o scale z) (monomial o zs b) ≡ times o scale (monomial o all (2 ^ length zs + b))
  unfolding Agree
  gain-high scale b low =
      identity o ring (scale ∷ z ∷ monomial o zs b ∷ []) ((atom 0 ⊗ atom 1) ⊗ atom 2) (atom 0 ⊗ (atom 1 ⊗ atom 2)) tt tt refl
      ∙ ap (times o scale) (sym (ap (λ l. monomial o l (2 ^ length zs + b)) split ∙ monomial-high o ring z zs b low))

  -- the sum over both halves
  pub inner_product-monomial : (f low high : ℕ → ℕ) → ((b : ℕ) → b < 2 ^ length zs → low b ≡ f b) → ((b : ℕ) → b < 2 ^ length zs → high b ≡ f (2 ^ length zs + b)) →
      plus o (inner_product o (length zs) low (monomial o zs)) (times o (inner_product o (length zs) high (monomial o zs)) z) ≡ inner_product o (length all) f (monomial o all)
  unfolding inner_product Agree
  inner_product-monomial f low high low_is high_is =
      let n = 2 ^ length zs in
      let S = sum_below o n (λ b. times o (low b) (monomial o zs b)) in
      let T = sum_below o n (λ b. times o (high b) (monomial o zs b)) in
      ap (plus o S) (identity o ring (T ∷ z ∷ []) (atom 0 ⊗ atom 1) (atom 1 ⊗ atom 0) tt tt refl ∙ times-sum o ring z n (λ b. times o (high b) (monomial o zs b)))
      ∙ ap (λ s. plus o s (sum_below o n (λ b. times o z (times o (high b) (monomial o zs b))))) (sum-same o n _ _ (λ b below.
      ap (λ k. times o k (monomial o zs b)) (low_is b below)
      ∙ identity o ring (f b ∷ monomial o zs b ∷ []) (atom 0 ⊗ atom 1) (atom 0 ⊗ (unit ⊗ atom 1)) tt tt refl
      ∙ ap (times o (f b)) (sym (monomial-low o ring z zs b below))))
      ∙ ap (plus o (sum_below o n (λ b. times o (f b) (monomial o (z ∷ zs) b)))) (sum-same o n _ _ (λ b below.
      ap (λ k. times o z (times o k (monomial o zs b))) (high_is b below)
      ∙ identity o ring (f (n + b) ∷ z ∷ monomial o zs b ∷ []) (atom 1 ⊗ (atom 0 ⊗ atom 2)) (atom 0 ⊗ (atom 1 ⊗ atom 2)) tt tt refl
      ∙ ap (times o (f (n + b))) (sym (monomial-high o ring z zs b below))))
      ∙ sym (inner_product-halves o ring (length zs) f (monomial o (z ∷ zs)))
      ∙ ap (λ l. inner_product o (length l) f (monomial o l)) (sym split)

module _ (o : Ops) (ring : IsRing o) where
  -- of no coordinate
  pub gain-none : (scale : ℕ) (zs : List ℕ) → length zs < 1 → times o scale (monomial o zs 0) ≡ element o scale
  unfolding monomial
  gain-none scale [] none = times-one o ring scale
  gain-none scale (z ∷ zs) none = absurd (omega (arith, none))

  pub inner_product-none : (f : ℕ → ℕ) (zs : List ℕ) → length zs < 1 → f 0 < o.size → f 0 ≡ inner_product o (length zs) f (monomial o zs)
  unfolding inner_product sum_below monomial Agree
  inner_product-none f [] none low = sym (identity o ring (f 0 ∷ []) (nought ⊕ atom 0 ⊗ unit) (atom 0 ⊗ unit) tt tt refl ∙ times-one o ring (f 0) ∙ element-small o ring (f 0) low)
  inner_product-none f (z ∷ zs) none low = absurd (omega (arith, none))

-- ---- the last coordinates, after the first one too

pub last-same : {X : Type 0} (z : List X) (k : ℕ) → k + 1 ≤ length z → drop (length (take (length z - 1) (drop 1 z)) - k) (take (length z - 1) (drop 1 z)) ≡ drop (length z - k) z
last-same [] k fits = absurd (omega (arith, fits))
last-same (y ∷ ys) k fits =
    let rest : take (suc (length ys) - 1) ys ≡ ys = take_all (suc (length ys) - 1) ys (omega arith) in
    let at : suc (length ys - k) ≡ suc (length ys) - k = omega (arith, fits) in
    ap (λ l. drop (length l - k) l) rest ∙ ap (λ n. drop n (y ∷ ys)) at

pub rest-size : {X : Type 0} (z : List X) → 1 ≤ length z → length (take (length z - 1) (drop 1 z)) + 1 ≡ length z
rest-size z some =
    let size : length (take (length z - 1) (drop 1 z)) ≡ length z - 1 = length-take-le (length z - 1) (drop 1 z) (omega (arith, length-drop 1 z)) in
    omega (arith, size, some)

-- ---- a product that is added to nothing

module _ (o : Ops) (ring : IsRing o) where
  element-monomial : (zs : List ℕ) (b : ℕ) → element o (monomial o zs b) ≡ monomial o zs b
  unfolding monomial
  element-monomial [] b = element-one o ring
  element-monomial (z ∷ zs) b = element-times o ring _ _

  pub monomial-alone : (zs : List ℕ) (b : ℕ) → plus o 0 (times o 1 (monomial o zs b)) ≡ monomial o zs b
  unfolding Agree
  monomial-alone zs b =
      let w = monomial o zs b in
      identity o ring (w ∷ []) (nought ⊕ unit ⊗ atom 0) (atom 0 ⊗ unit) tt tt refl ∙ times-one o ring w ∙ element-monomial zs b

-- ---- the value at a point, one coordinate after the other, the first one first

-- With what the coordinates before the rest make, the value of the rest makes that of all.
pub record IsPassed (o : Ops) (all_z all_x zs xs : List ℕ) (product : ℕ) : Type 0 where
  pub size : length zs ≡ length xs
  pub makes : times o product (value o (monomial o zs) xs) ≡ value o (monomial o all_z) all_x

module _ (o : Ops) (ring : IsRing o) where
  pub passed-none : (zs xs : List ℕ) (product : ℕ) → length zs ≡ length xs → product ≡ 1 → IsPassed o zs xs zs xs product
  passed-none zs xs product size is = record {
    size = size;
    makes = ap (λ k. times o k (value o (monomial o zs) xs)) is ∙ times_comm o ring 1 (value o (monomial o zs) xs) ∙ times-one o ring (value o (monomial o zs) xs)
        ∙ element-value o ring (monomial o zs) xs;
  }

  pub passed-more : (all_z all_x zs xs : List ℕ) (z x product product' : ℕ) → IsPassed o all_z all_x (z ∷ zs) (x ∷ xs) product →
      product' ≡ times o product (plus o 1 (times o x (minus o z 1))) → IsPassed o all_z all_x zs xs product'
  passed-more all_z all_x zs xs z x product product' so_far is =
      let size : length zs ≡ length xs = omega (arith, so_far.size) in
      record {
        size = size;
        makes = ap (λ k. times o k (value o (monomial o zs) xs)) is ∙ times_assoc o ring product (plus o 1 (times o x (minus o z 1))) (value o (monomial o zs) xs)
            ∙ ap (times o product) (sym (value-monomial_more o ring z x zs xs size)) ∙ so_far.makes;
      }

  pub passed-all : {X Y : Type 0} (of : X → ℕ) (number : Y → ℕ) (all_z all_x : List ℕ) (zs : List X) (xs : List Y) (product : ℕ) → product < o.size → (zs ≡ []) ⊎ (xs ≡ []) →
      IsPassed o all_z all_x (map of zs) (map number xs) product → product ≡ value o (monomial o all_z) all_x
  passed-all of number all_z all_x [] [] product low none passed =
      sym (times-one o ring product ∙ element-small o ring product low) ∙ ap (times o product) (sym (value-monomial_none o ring)) ∙ passed.makes
  passed-all of number all_z all_x [] (x ∷ xs) product low none passed = let size : 0 ≡ suc (length (map number xs)) = passed.size in absurd (omega (arith, size))
  passed-all of number all_z all_x (z ∷ zs) [] product low none passed = let size : suc (length (map of zs)) ≡ 0 = passed.size in absurd (omega (arith, size))
  passed-all of number all_z all_x (z ∷ zs) (x ∷ xs) product low none passed = absurd (⊎_elim
      (λ e. let size : length (z ∷ zs) ≡ 0 = ap length e in omega (arith, size))
      (λ e. let size : length (x ∷ xs) ≡ 0 = ap length e in omega (arith, size)) none)
