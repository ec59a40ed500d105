-- Equality weights that are added to rows, by halves.
use Rattle.std.proofs.Common.{◌≡◌, ℕ, suc, ◌+◌, ◌-◌, ◌*◌, ◌/◌, ◌^◌, ◌<◌, ◌≤◌, List, [], ◌∷◌, ◌++◌, length, get_or, set, take, drop, map, sym, ◌∙◌, ap, refl, subst, arith, ⊎_elim}
use Rattle.std.proofs.lemmas.Bool.{cases_lt}
use Rattle.std.proofs.lemmas.List.{take_all, take_at, drop_at, length-map, length-append, length-take-le, length-drop, length-set}
use Rattle.std.proofs.Math.Nat.{pow-suc}
use Rattle.sc_definitions.specs.Ring.{Ops, IsRing, element, plus, times, minus}
use Rattle.sc_definitions.specs.Tables.{entries, equality_weight}
use Rattle.sc_definitions.proofs.RingLaws.{times-one, times_assoc, plus-element_right}
use Rattle.sc_definitions.proofs.Identity.{atom, unit, ◌⊗◌, ◌⊖◌, Agree, identity}
use Rattle.sc_definitions.proofs.TableLaws.{equality_weight-low, equality_weight-high, two_halves}
use Rattle.sc_table.proofs.EntryLaws.{entry-set_same, entry-set_other, entry-take, entry-drop, entry-append_left, entry-append_right, entry-read}

-- ---- two parts of a list

-- entries of a list whose first part is low, and high after it
module _ {X : Type 0} (number : X → ℕ) (low high rest post : List X) (half : ℕ) where
  entry-first : (b : ℕ) → length low ≡ half → b < half → entries number (take half (low ++ rest) ++ (high ++ post)) b ≡ entries number low b
  entry-first b size in_low =
      ap (λ l. entries number (l ++ (high ++ post)) b) (take_at low rest half size)
      ∙ entry-append_left number low (high ++ post) b (omega (arith, size, in_low))

  entry-second : (b : ℕ) → length low ≡ half → b < length high → entries number (take half (low ++ rest) ++ (high ++ post)) (half + b) ≡ entries number high b
  entry-second b size in_high =
      ap (λ l. entries number (l ++ (high ++ post)) (half + b)) (take_at low rest half size)
      ∙ ap (λ n. entries number (low ++ (high ++ post)) (n + b)) (sym size)
      ∙ entry-append_right number low (high ++ post) b
      ∙ entry-append_left number high post b in_high

-- a read of row 1 after row 0 was written
pub entry-set_next : {X : Type 0} (number : X → ℕ) (rows : List X) (x y : X) → length rows ≡ 2 → y ≡ get_or (set rows 0 x) 1 y → entries number rows 1 ≡ number y
entry-set_next number rows x y size is =
    sym (entry-set_other number rows 0 1 x (omega arith)) ∙ entry-read number (set rows 0 x) 1 y (omega (arith, size, length-set rows 0 x)) is

-- ---- the weights

module _ (o : Ops) (ring : IsRing o) where
  share-none : (scale : ℕ) → times o scale (equality_weight o [] 0) ≡ element o scale
  unfolding equality_weight
  share-none scale = times-one o ring scale

  share-low : (scale z : ℕ) (zs : List ℕ) (b : ℕ) → b < 2 ^ length zs →
      times o (minus o scale (times o scale z)) (equality_weight o zs b) ≡ times o scale (equality_weight o (z ∷ zs) b)
  unfolding Agree
  share-low scale z zs b low =
      let S = atom 0 in let Z = atom 1 in let W = atom 2 in
      identity o ring (scale ∷ z ∷ equality_weight o zs b ∷ []) ((S ⊖ S ⊗ Z) ⊗ W) (S ⊗ ((unit ⊖ Z) ⊗ W)) tt tt refl
      ∙ ap (times o scale) (sym (equality_weight-low o ring z zs b low))

  share-high : (scale z : ℕ) (zs : List ℕ) (b : ℕ) → b < 2 ^ length zs →
      times o (times o scale z) (equality_weight o zs b) ≡ times o scale (equality_weight o (z ∷ zs) (2 ^ length zs + b))
  share-high scale z zs b low = times_assoc o ring scale z (equality_weight o zs b) ∙ ap (times o scale) (sym (equality_weight-high o ring z zs b low))

  -- the one row of no variable
  pub added-none : {X : Type 0} (number : X → ℕ) (rows zs : List X) (x : X) (scale : ℕ) → length zs < 1 → 0 < length rows →
      number x ≡ plus o (entries number rows 0) scale →
      (b : ℕ) → b < 2 ^ length zs → entries number (set rows 0 x) b ≡ plus o (entries number rows b) (times o scale (equality_weight o (map number zs) b))
  added-none number rows (z ∷ zs) x scale none some is b low = absurd (omega (arith, none))
  added-none number rows [] x scale none some is b low =
      let first : 0 ≡ b = omega (arith, low) in
      subst (λ k. entries number (set rows 0 x) k ≡ plus o (entries number rows k) (times o scale (equality_weight o [] k))) first
      (entry-set_same number rows 0 x some ∙ is
      ∙ sym (ap (plus o (entries number rows 0)) (share-none scale) ∙ plus-element_right o ring (entries number rows 0) scale))

  -- the two rows of one variable
  pub added-one : {X : Type 0} (number : X → ℕ) (rows zs : List X) (z x y : X) (scale : ℕ) → length zs ≡ 1 → z ≡ get_or zs 0 z → length rows ≡ 2 →
      number x ≡ plus o (entries number rows 0) (minus o scale (times o scale (number z))) → number y ≡ plus o (entries number rows 1) (times o scale (number z)) →
      (b : ℕ) → b < 2 ^ length zs → entries number (set (set rows 0 x) 1 y) b ≡ plus o (entries number rows b) (times o scale (equality_weight o (map number zs) b))
  unfolding equality_weight Agree
  added-one number rows [] z x y scale one at size x_is y_is b low = absurd (omega (arith, one))
  added-one number rows (w ∷ (v ∷ zs)) z x y scale one at size x_is y_is b low = absurd (omega (arith, one))
  added-one number rows (w ∷ []) z x y scale one at size x_is y_is b low =
      let w_is : number z ≡ number w = ap number at in
      let S = atom 0 in let Z = atom 1 in
      ⊎_elim
      (λ below.
      let first : 0 ≡ b = omega (arith, below) in
      subst (λ k. entries number (set (set rows 0 x) 1 y) k ≡ plus o (entries number rows k) (times o scale (equality_weight o (number w ∷ []) k))) first
      (entry-set_other number (set rows 0 x) 1 0 y (omega arith)
      ∙ entry-set_same number rows 0 x (omega (arith, size)) ∙ x_is
      ∙ ap (λ k. plus o (entries number rows 0) (minus o scale (times o scale k))) w_is
      ∙ ap (plus o (entries number rows 0)) (identity o ring (scale ∷ number w ∷ []) (S ⊖ S ⊗ Z) (S ⊗ ((unit ⊖ Z) ⊗ unit)) tt tt refl)))
      (λ above.
      let second : 1 ≡ b = omega (arith, above, low) in
      subst (λ k. entries number (set (set rows 0 x) 1 y) k ≡ plus o (entries number rows k) (times o scale (equality_weight o (number w ∷ []) k))) second
      (entry-set_same number (set rows 0 x) 1 y (omega (arith, size, length-set rows 0 x)) ∙ y_is
      ∙ ap (λ k. plus o (entries number rows 1) (times o scale k)) w_is
      ∙ ap (plus o (entries number rows 1)) (identity o ring (scale ∷ number w ∷ []) (S ⊗ Z) (S ⊗ (Z ⊗ unit)) tt tt refl)))
      (cases_lt b 1)

  -- the two halves of more variables
  pub added-more : {X : Type 0} (number : X → ℕ) (rows low high zs : List X) (z : X) (scale scale_low scale_high : ℕ) → 1 ≤ length zs → z ≡ get_or zs 0 z → length rows ≡ 2 ^ length zs →
      scale_low ≡ minus o scale (times o scale (number z)) → scale_high ≡ times o scale (number z) →
      length low ≡ length (take (length rows / 2) rows) →
      length high ≡ length (take (length (low ++ drop (length rows / 2) rows) - length rows / 2) (drop (length rows / 2) (low ++ drop (length rows / 2) rows))) →
      ((b : ℕ) → b < 2 ^ length (take (length zs - 1) (drop 1 zs)) →
      entries number low b ≡ plus o (entries number (take (length rows / 2) rows) b) (times o scale_low (equality_weight o (map number (take (length zs - 1) (drop 1 zs))) b))) →
      ((b : ℕ) → b < 2 ^ length (take (length zs - 1) (drop 1 zs)) →
      entries number high b ≡ plus o (entries number (take (length (low ++ drop (length rows / 2) rows) - length rows / 2) (drop (length rows / 2) (low ++ drop (length rows / 2) rows))) b)
      (times o scale_high (equality_weight o (map number (take (length zs - 1) (drop 1 zs))) b))) →
      (post : List X) (b : ℕ) → b < 2 ^ length zs →
      entries number (take (length rows / 2) (low ++ drop (length rows / 2) rows) ++ (high ++ post)) b ≡ plus o (entries number rows b) (times o scale (equality_weight o (map number zs) b))
  added-more number rows low high [] z scale scale_low scale_high some at size zero_is one_is low_size high_size low_is high_is post b in_rows = absurd (omega (arith, some))
  added-more number rows low high (y ∷ ys) z scale scale_low scale_high some at size zero_is one_is low_size high_size low_is high_is post b in_rows =
      let half = length rows / 2 in
      let p = 2 ^ length ys in
      let none : take (suc (length ys) - 1) ys ≡ ys = take_all (suc (length ys) - 1) ys (omega arith) in
      let twice : length rows ≡ p * 2 = size ∙ pow-suc 2 (length ys) in
      let half_is : half ≡ p = omega arith in
      let lows : length low ≡ half = low_size ∙ length-take-le half rows (omega arith) in
      let rest = drop half rows in
      let joined : drop half (low ++ rest) ≡ rest = drop_at low rest half lows in
      let many : length (low ++ rest) - half ≡ half = omega (arith, length-append low rest, length-drop half rows, lows, twice, half_is) in
      let part : take (length (low ++ rest) - half) (drop half (low ++ rest)) ≡ rest =
      ap (λ n. take n (drop half (low ++ rest))) many ∙ ap (take half) joined ∙ take_all half rest (omega (arith, length-drop half rows, twice, half_is)) in
      let highs : length high ≡ half = high_size ∙ ap length part ∙ omega (arith, length-drop half rows, twice, half_is) in
      let z_is : number z ≡ number y = ap number at in
      let zeros : scale_low ≡ minus o scale (times o scale (number y)) = zero_is ∙ ap (λ k. minus o scale (times o scale k)) z_is in
      let ones : scale_high ≡ times o scale (number y) = one_is ∙ ap (times o scale) z_is in
      let ns = map number ys in
      let ns_size : 2 ^ length ns ≡ p = ap (λ n. 2 ^ n) (length-map ys number) in
      let new = entries number (take half (low ++ rest) ++ (high ++ post)) in
      let Goal : ℕ → Type 0 = λ k. new k ≡ plus o (entries number rows k) (times o scale (equality_weight o (number y ∷ ns) k)) in
      ⊎_elim
      (λ below.
      let in_zs : b < 2 ^ length (take (suc (length ys) - 1) ys) = subst (λ l. b < 2 ^ length l) (sym none) (omega (arith, below, half_is)) in
      entry-first number low high rest post half b lows below
      ∙ low_is b in_zs
      ∙ ap (λ e. plus o e (times o scale_low (equality_weight o (map number (take (suc (length ys) - 1) ys)) b))) (entry-take number rows half b below)
      ∙ ap (λ l. plus o (entries number rows b) (times o scale_low (equality_weight o (map number l) b))) none
      ∙ ap (λ k. plus o (entries number rows b) (times o k (equality_weight o ns b))) zeros
      ∙ ap (plus o (entries number rows b)) (share-low scale (number y) ns b (omega (arith, below, half_is, ns_size))))
      (λ above.
      let a = b - half in
      let in_half : a < p = omega (arith, in_rows, two_halves (length ys), half_is, above) in
      let back : half + a ≡ b = omega (arith, above) in
      let in_zs : a < 2 ^ length (take (suc (length ys) - 1) ys) = subst (λ l. a < 2 ^ length l) (sym none) in_half in
      subst Goal back
      (entry-second number low high rest post half a lows (omega (arith, in_half, highs, half_is))
      ∙ high_is a in_zs
      ∙ ap (λ l. plus o (entries number l a) (times o scale_high (equality_weight o (map number (take (suc (length ys) - 1) ys)) a))) part
      ∙ ap (λ e. plus o e (times o scale_high (equality_weight o (map number (take (suc (length ys) - 1) ys)) a))) (entry-drop number rows half a)
      ∙ ap (λ l. plus o (entries number rows (half + a)) (times o scale_high (equality_weight o (map number l) a))) none
      ∙ ap (λ k. plus o (entries number rows (half + a)) (times o k (equality_weight o ns a))) ones
      ∙ ap (plus o (entries number rows (half + a))) (share-high scale (number y) ns a (omega (arith, in_half, ns_size))
      ∙ ap (λ n. times o scale (equality_weight o (number y ∷ ns) (n + a))) (ns_size ∙ sym half_is))))
      (cases_lt b half)
