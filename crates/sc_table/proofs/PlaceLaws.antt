-- Weights of the places of grids, one challenge after the other.
use Rattle.std.proofs.Common.{◌≡◌, ℕ, zero, suc, ◌+◌, ◌-◌, ◌*◌, ◌/◌, ◌%◌, ◌^◌, ◌<◌, ◌≤◌, List, [], ◌∷◌, ◌++◌, length, get_or, map, take, sym, ◌∙◌, ap, refl, subst, arith, ⊎_elim}
use Rattle.std.proofs.lemmas.Bool.{cases_lt}
use Rattle.std.proofs.lemmas.List.{take_more, length-take-le, length-append, length-map, map-append}
use Rattle.std.proofs.lemmas.Nat.{div_below}
use Rattle.std.proofs.Math.Nat.{pow-suc, pow-le-pow_right, one-le-pow, mod-lt}
use Rattle.sc_definitions.specs.Ring.{Ops, IsRing, times, minus}
use Rattle.sc_definitions.specs.Tables.{entries}
use Rattle.sc_definitions.specs.Grids.{digit_of, digit_weight, place_weight}
use Rattle.sc_definitions.proofs.RingLaws.{times_comm, times_assoc}
use Rattle.sc_definitions.proofs.Identity.{atom, unit, ◌⊗◌, ◌⊖◌, Agree, identity}
use Rattle.sc_table.proofs.EntryLaws.{entry-append_left, entry-append_last}

-- ---- a list with multiples after it

-- Behind the old items stand multiples of n of them, from the given one on.
pub record HasMultiples {X : Type 0} (number : X → ℕ) (o : Ops) (from factor n : ℕ) (old new : List X) : Type 0 where
  pub size : length new ≡ length old + n
  pub kept : (b : ℕ) → b < length old → entries number new b ≡ entries number old b
  pub added : (b : ℕ) → b < n → entries number new (length old + b) ≡ times o (entries number old (from + b)) factor

module _ {X : Type 0} (number : X → ℕ) (o : Ops) (from factor : ℕ) (old : List X) where
  pub multiples-none : HasMultiples number o from factor 0 old old
  multiples-none = record { size = omega arith; kept = λ b low. refl; added = λ b low. absurd (omega (arith, low)) }

  pub multiples-more : (n : ℕ) (xs new : List X) (y : X) → new ≡ xs ++ y ∷ [] → HasMultiples number o from factor n old xs →
      number y ≡ times o (entries number old (from + n)) factor →
      HasMultiples number o from factor (n + 1) old new
  multiples-more n xs new y more before is = record {
    size = ap length more ∙ length-append xs (y ∷ []) ∙ omega (arith, before.size);
    kept = λ b low. ap (λ l. entries number l b) more ∙ entry-append_left number xs (y ∷ []) b (omega (arith, low, before.size)) ∙ before.kept b low;
    added = λ b low. ap (λ l. entries number l (length old + b)) more ∙ ⊎_elim
        (λ less. entry-append_left number xs (y ∷ []) (length old + b) (omega (arith, less, before.size)) ∙ before.added b less)
        (λ at.
        let last : length xs ≡ length old + b = omega (arith, low, at, before.size) in
        let same : n ≡ b = omega (arith, low, at) in
        sym (ap (entries number (xs ++ y ∷ [])) last) ∙ entry-append_last number xs y ∙ is
        ∙ ap (λ k. times o (entries number old (from + k)) factor) same)
        (cases_lt b n);
  }

-- ---- one challenge more

-- the weights with a digit more, of the three digits one list after the other
pub digits-added : (o : Ops) → IsRing o → {X : Type 0} (number : X → ℕ) (old mid new : List X) (third r slope : ℕ) → third ≡ length old →
    length mid ≡ length old + length old → slope ≡ minus o r 1 →
    ((b : ℕ) → b < length old → entries number mid b ≡ minus o (entries number old b) (times o (entries number old b) r)) →
    ((b : ℕ) → b < length old → entries number mid (length old + b) ≡ times o (entries number old b) r) →
    ((b : ℕ) → b < length mid → entries number new b ≡ entries number mid b) →
    ((b : ℕ) → b < length mid - third → entries number new (length mid + b) ≡ times o (entries number mid (third + b)) slope) →
    (d k : ℕ) → d < 3 → k < length old → entries number new (d * length old + k) ≡ times o (entries number old k) (digit_weight o (digit_of d) r)
unfolding digit_weight Agree
digits-added o ring number old mid new third r slope third_is size slope_is low high kept added zero k digit below =
    let at : 0 * length old + k ≡ k = omega arith in
    ap (entries number new) at ∙ kept k (omega (arith, below, size)) ∙ low k below
    ∙ identity o ring (entries number old k ∷ r ∷ []) (atom 0 ⊖ atom 0 ⊗ atom 1) (atom 0 ⊗ (unit ⊖ atom 1)) tt tt refl
digits-added o ring number old mid new third r slope third_is size slope_is low high kept added (suc zero) k digit below =
    let at : 1 * length old + k ≡ length old + k = omega arith in
    ap (entries number new) at ∙ kept (length old + k) (omega (arith, below, size)) ∙ high k below
digits-added o ring number old mid new third r slope third_is size slope_is low high kept added (suc (suc zero)) k digit below =
    let at : 2 * length old + k ≡ length mid + k = omega (arith, size) in
    ap (entries number new) at ∙ added k (omega (arith, below, size, third_is)) ∙ ap (λ n. times o (entries number mid (n + k)) slope) third_is
    ∙ ap (times o (entries number mid (length old + k))) slope_is
    ∙ ap (λ n. times o n (minus o r 1)) (high k below) ∙ times_assoc o ring (entries number old k) r (minus o r 1)
digits-added o ring number old mid new third r slope third_is size slope_is low high kept added (suc (suc (suc d))) k digit below =
    absurd (omega (arith, digit))

-- the weight of a place with a digit more, the highest
pub place-append : (o : Ops) → IsRing o → (rs : List ℕ) (r d k : ℕ) → d < 3 → k < 3 ^ length rs →
    place_weight o (rs ++ r ∷ []) (d * 3 ^ length rs + k) ≡ times o (place_weight o rs k) (digit_weight o (digit_of d) r)
unfolding place_weight
place-append o ring [] r d k digit low =
    let none : (d * 1 + k) % 3 ≡ d = omega (arith, digit, low) in
    ap (λ n. times o (digit_weight o (digit_of n) r) 1) none ∙ times_comm o ring (digit_weight o (digit_of d) r) 1
place-append o ring (q ∷ rs) r d k digit low =
    let P = 3 ^ length rs in
    let m = d * P in
    let more : 3 ^ suc (length rs) ≡ P * 3 = pow-suc 3 (length rs) in
    let row : d * 3 ^ suc (length rs) ≡ m * 3 = ap (λ n. d * n) more ∙ omega arith in
    let rest : (d * 3 ^ suc (length rs) + k) / 3 ≡ m + k / 3 = omega (arith, row) in
    let first : (d * 3 ^ suc (length rs) + k) % 3 ≡ k % 3 = omega (arith, row) in
    let w = digit_weight o (digit_of (k % 3)) q in
    ap (λ n. times o (digit_weight o (digit_of n) q) (place_weight o (rs ++ r ∷ []) ((d * 3 ^ suc (length rs) + k) / 3))) first
    ∙ ap (λ n. times o w (place_weight o (rs ++ r ∷ []) n)) rest
    ∙ ap (times o w) (place-append o ring rs r d (k / 3) digit (omega (arith, low, more)))
    ∙ sym (times_assoc o ring w (place_weight o rs (k / 3)) (digit_weight o (digit_of d) r))

-- ---- the weights of all places

-- The items are the weights of the places at some challenges.
pub record ArePlaced {X : Type 0} (number : X → ℕ) (o : Ops) (rs items : List X) : Type 0 where
  pub size : length items ≡ 3 ^ length rs
  pub weights : (k : ℕ) → k < 3 ^ length rs → entries number items k ≡ place_weight o (map number rs) k

module _ {X : Type 0} (number : X → ℕ) (o : Ops) where
  -- of no challenge
  pub placed-none : (x : X) (items : List X) → items ≡ x ∷ [] → number x ≡ 1 → ArePlaced number o [] items
  unfolding place_weight entries
  placed-none x items is one = record {
    size = ap length is;
    weights = λ k low. let first : k ≡ 0 = omega (arith, low) in ap (entries number items) first ∙ ap (λ l. entries number l 0) is ∙ one;
  }

  pub placed-more : IsRing o → (rs old new : List X) (r : X) → ArePlaced number o rs old → length new ≡ 3 * length old →
      ((d k : ℕ) → d < 3 → k < length old → entries number new (d * length old + k)
      ≡ times o (entries number old k) (digit_weight o (digit_of d) (number r))) →
      ArePlaced number o (rs ++ r ∷ []) new
  placed-more ring rs old new r placed size digits =
      let n = length old in
      let P = 3 ^ length rs in
      let numbers = map number rs in
      let more : 3 ^ length (rs ++ r ∷ []) ≡ P * 3 =
      ap (λ k. 3 ^ k) (length-append rs (r ∷ []) ∙ omega arith) ∙ pow-suc 3 (length rs) in
      let P_is : 3 ^ length numbers ≡ P = ap (λ k. 3 ^ k) (length-map rs number) in
      record {
        size = size ∙ omega (arith, more, placed.size);
        weights = λ b low.
            let some : 0 < n = omega (arith, low, more, placed.size) in
            let d = b / n in
            let k = b % n in
            let k_low : k < n = mod-lt b some in
            let d_low : d < 3 = div_below b n 3 some (omega (arith, low, more, placed.size)) in
            let row : d * n + k ≡ b = omega arith in
            let row' : d * 3 ^ length numbers + k ≡ b = ap (λ j. d * j + k) (P_is ∙ sym placed.size) ∙ row in
            sym (ap (entries number new) row) ∙ digits d k d_low k_low
            ∙ ap (λ j. times o j (digit_weight o (digit_of d) (number r))) (placed.weights k (omega (arith, k_low, placed.size)))
            ∙ sym (place-append o ring numbers (number r) d k d_low (omega (arith, k_low, placed.size, P_is)))
            ∙ ap (place_weight o (numbers ++ number r ∷ [])) row'
            ∙ ap (λ l. place_weight o l b) (sym (map-append number rs (r ∷ [])));
      }

  pub placed-next : IsRing o → (rs old new : List X) (i : ℕ) (r : X) → i < length rs → r ≡ get_or rs i r → ArePlaced number o (take i rs) old →
      length new ≡ 3 * length old →
      ((d k : ℕ) → d < 3 → k < length old → entries number new (d * length old + k)
      ≡ times o (entries number old k) (digit_weight o (digit_of d) (number r))) →
      ArePlaced number o (take (i + 1) rs) new
  placed-next ring rs old new i r low is placed size digits =
      subst (λ l. ArePlaced number o l new) (sym (take_more rs i r low ∙ ap (λ x. take i rs ++ x ∷ []) (sym is)))
      (placed-more ring (take i rs) old new r placed size digits)

  -- while a challenge is left, three times the places are no more than all
  pub placed-room : (rs items : List X) (i : ℕ) → i < length rs → ArePlaced number o (take i rs) items → 3 * length items ≤ 3 ^ length rs
  placed-room rs items i low placed =
      let size : length items ≡ 3 ^ i = placed.size ∙ ap (λ k. 3 ^ k) (length-take-le i rs (omega (arith, low))) in
      let three : 0 < 3 = omega arith in
      let most : suc i ≤ length rs = low in
      let within : 3 ^ suc i ≤ 3 ^ length rs = pow-le-pow_right three most in
      omega (arith, size, pow-suc 3 i, within)

-- as many places as at 40 challenges have a number
pub places-fit : (n : ℕ) → n ≤ 40 → 3 ^ n < 2 ^ 64
places-fit n few =
    let three : 0 < 3 = omega arith in
    let most : 3 ^ n ≤ 3 ^ 40 = pow-le-pow_right three few in
    omega (arith, most)

-- there is at least one
pub places-some : (n : ℕ) → 0 < 3 ^ n
places-some n = let three : 0 < 3 = omega arith in one-le-pow n 3 three
