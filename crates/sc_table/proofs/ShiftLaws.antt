-- Rows that are moved up by one place.
use Rattle.std.proofs.Common.{◌≡◌, ℕ, zero, suc, ◌+◌, ◌-◌, ◌^◌, ◌<◌, List, ◌++◌, length, get_or, set, take, drop, sym, ◌∙◌, ap, refl, arith, ⊎_elim}
use Rattle.std.proofs.lemmas.Bool.{cases_eq}
use Rattle.std.proofs.lemmas.List.{length-append, length-set, length-take-le, length-drop}
use Rattle.sc_definitions.specs.Ring.{Ops, IsRing, plus}
use Rattle.sc_definitions.specs.Tables.{entries, equality_weight}
use Rattle.sc_definitions.specs.Shifts.{shifted, only_at}
use Rattle.sc_definitions.specs.Statements.{successor_weight}
use Rattle.sc_definitions.proofs.RingLaws.{element-small, plus-zero}
use Rattle.sc_definitions.proofs.SuccessorLaws.{shifted-zero, shifted-suc, only_at-here, only_at-elsewhere, successor-parts}
use Rattle.sc_table.proofs.EntryLaws.{entry-read, entry-set_same, entry-set_other, entry-take, entry-drop, entry-append_left, entry-append_right, entry-below}

module _ {X : Type 0} (number : X → ℕ) (rows turned : List X) (some : 0 < length rows) (is : turned ≡ drop (length rows - 1) rows ++ take (length rows - 1) rows) where
  last_part : length (drop (length rows - 1) rows) ≡ 1
  last_part = omega (arith, length-drop (length rows - 1) rows, some)

  turned-length : length turned ≡ length rows
  turned-length =
      ap length is ∙ length-append (drop (length rows - 1) rows) (take (length rows - 1) rows)
      ∙ omega (arith, last_part, length-take-le (length rows - 1) rows (omega arith), some)

  turned-first : entries number turned 0 ≡ entries number rows (length rows - 1)
  turned-first =
      let n = length rows - 1 in
      let same : n + 0 ≡ n = omega arith in
      ap (λ l. entries number l 0) is ∙ entry-append_left number (drop n rows) (take n rows) 0 (omega (arith, last_part))
      ∙ entry-drop number rows n 0 ∙ ap (entries number rows) same

  turned-next : (b : ℕ) → suc b < length rows → entries number turned (suc b) ≡ entries number rows b
  turned-next b low =
      let n = length rows - 1 in
      let at : suc b ≡ length (drop n rows) + b = omega (arith, last_part) in
      ap (λ l. entries number l (suc b)) is ∙ ap (entries number (drop n rows ++ take n rows)) at
      ∙ entry-append_right number (drop n rows) (take n rows) b ∙ entry-take number rows n b (omega (arith, low))

  -- with zero written to row 0
  turned-shifted : (none : X) → number none ≡ 0 → (b : ℕ) → b < length rows → entries number (set turned 0 none) b ≡ shifted 0 (entries number rows) b
  turned-shifted none is_zero zero low =
      entry-set_same number turned 0 none (omega (arith, turned-length, some)) ∙ is_zero ∙ sym (shifted-zero 0 (entries number rows))
  turned-shifted none is_zero (suc b) low =
      entry-set_other number turned 0 (suc b) none (λ e. omega (arith, e)) ∙ turned-next b low ∙ sym (shifted-suc 0 (entries number rows) b)

module _ (o : Ops) (ring : IsRing o) {X : Type 0} (number : X → ℕ) (below : (x : X) → number x < o.size) where
  shifted-below : (rows : List X) (b : ℕ) → shifted 0 (entries number rows) b < o.size
  unfolding shifted
  shifted-below rows zero = omega (arith, ring.at_least_two)
  shifted-below rows (suc b) = entry-below o number ring below rows b

  pub moved-up : (rows turned : List X) (none stays last y : X) → 0 < length rows → turned ≡ drop (length rows - 1) rows ++ take (length rows - 1) rows → number none ≡ 0 →
      stays ≡ get_or turned 0 stays → last ≡ get_or (set turned 0 none) (length rows - 1) last → number y ≡ plus o (number last) (number stays) → (b : ℕ) → b < length rows →
      entries number (set (set turned 0 none) (length rows - 1) y) b ≡ plus o (shifted 0 (entries number rows) b) (only_at (length rows - 1) (entries number rows) b)
  moved-up rows turned none stays last y some is is_zero stays_at last_at sum b low =
      let n = length rows - 1 in
      let f = entries number rows in
      let size : length turned ≡ length rows = turned-length number rows turned some is in
      let size' : length (set turned 0 none) ≡ length rows = length-set turned 0 none ∙ size in
      let first : f n ≡ number stays = sym (turned-first number rows turned some is) ∙ entry-read number turned 0 stays (omega (arith, size, some)) stays_at in
      let there : shifted 0 f n ≡ number last =
      sym (turned-shifted number rows turned some is none is_zero n (omega (arith, some))) ∙ entry-read number (set turned 0 none) n last (omega (arith, size', some)) last_at in
      ⊎_elim
      (λ e.
      let back : n ≡ b = sym e in
      sym (ap (entries number (set (set turned 0 none) n y)) back)
      ∙ entry-set_same number (set turned 0 none) n y (omega (arith, size', some)) ∙ sum
      ∙ ap (λ k. plus o k (number stays)) (sym there) ∙ ap (plus o (shifted 0 f n)) (sym first ∙ sym (only_at-here n f n refl))
      ∙ ap (λ k. plus o (shifted 0 f k) (only_at n f k)) back)
      (λ d.
      entry-set_other number (set turned 0 none) n b y d ∙ turned-shifted number rows turned some is none is_zero b low
      ∙ sym (ap (plus o (shifted 0 f b)) (only_at-elsewhere n f b d) ∙ plus-zero o ring (shifted 0 f b) ∙ element-small o ring (shifted 0 f b) (shifted-below rows b)))
      (cases_eq b n)

-- ---- equality weights that are moved up

module _ (n : ℕ) (f g : ℕ → ℕ) (same : (b : ℕ) → b < n → f b ≡ g b) where
  pub shifted-same : (b : ℕ) → b < n → shifted 0 f b ≡ shifted 0 g b
  unfolding shifted
  shifted-same zero low = refl
  shifted-same (suc b) low = same b (omega (arith, low))

  pub only_at-same : (k b : ℕ) → b < n → only_at k f b ≡ only_at k g b
  only_at-same k b low = ⊎_elim
      (λ e. only_at-here k f b e ∙ same b low ∙ sym (only_at-here k g b e))
      (λ d. only_at-elsewhere k f b d ∙ sym (only_at-elsewhere k g b d))
      (cases_eq b k)

-- they are the successor weights
pub successor-moved : (o : Ops) → IsRing o → {X : Type 0} (number : X → ℕ) (rows : List X) (table : ℕ → ℕ) (zs : List ℕ) (n : ℕ) → length zs ≡ n → entries number rows ≡ table → length rows ≡ 2 ^ n →
    ((b : ℕ) → b < 2 ^ n → table b ≡ equality_weight o zs b) → (b : ℕ) → b < 2 ^ n →
    plus o (shifted 0 (entries number rows) b) (only_at (length rows - 1) (entries number rows) b) ≡ successor_weight o zs b
successor-moved o ring number rows table zs n arity is size weights b low =
    let N = 2 ^ n in
    let sized : 2 ^ length zs ≡ N = ap (λ k. 2 ^ k) arity in
    ap (λ f. plus o (shifted 0 f b) (only_at (length rows - 1) f b)) is
    ∙ ap (λ k. plus o (shifted 0 table b) (only_at (k - 1) table b)) size
    ∙ ap (λ k. plus o k (only_at (N - 1) table b)) (shifted-same N table (equality_weight o zs) weights b low)
    ∙ ap (plus o (shifted 0 (equality_weight o zs) b)) (only_at-same N table (equality_weight o zs) weights (N - 1) b low)
    ∙ ap (λ k. plus o (shifted 0 (equality_weight o zs) b) (only_at (k - 1) (equality_weight o zs) b)) (sym sized)
    ∙ sym (successor-parts o ring zs b (omega (arith, low, sized)))
