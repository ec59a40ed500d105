-- Equality weights by doubling, the last coordinate first.
use Rattle.std.proofs.Common.{◌≡◌, ◌≢◌, ℕ, suc, ◌+◌, ◌-◌, ◌^◌, ◌<◌, ◌≤◌, List, [], ◌∷◌, ◌++◌, length, set, map, sym, ◌∙◌, ap, refl, subst, arith, ⊎_elim, length-append, append_assoc}
use Rattle.std.proofs.lemmas.Bool.{cases_lt}
use Rattle.std.proofs.lemmas.List.{length-map, append-nil}
use Rattle.std.proofs.Math.Pow.{pow_mono}
use lib.ListN.{length-set}
use Rattle.sc_definitions.specs.Ring.{Ops, IsRing, element, times, minus}
use Rattle.sc_definitions.specs.Tables.{entries, equality_weight}
use Rattle.sc_definitions.proofs.RingLaws.{times-one}
use Rattle.sc_definitions.proofs.Identity.{atom, unit, ◌⊗◌, ◌⊖◌, Agree, identity}
use Rattle.sc_definitions.proofs.TableLaws.{two_halves, equality_weight-low, equality_weight-high}
use Rattle.sc_table.proofs.EntryLaws.{entry-set_same, entry-set_other, entry-append_left, entry-append_last}

-- The first i of the old entries are split: what z leaves of each stands in its place, and what z takes
-- stands after the old ones. The others are as they were.
pub record IsSplitSoFar {X : Type 0} (number : X → ℕ) (o : Ops) (z i : ℕ) (old new : List X) : Type 0 where
  pub size : length new ≡ length old + i
  pub low : (b : ℕ) → b < i → entries number new b ≡ minus o (entries number old b) (times o (entries number old b) z)
  pub left : (b : ℕ) → i ≤ b → b < length old → entries number new b ≡ entries number old b
  pub high : (b : ℕ) → b < i → entries number new (length old + b) ≡ times o (entries number old b) z

module _ {X : Type 0} (number : X → ℕ) (o : Ops) (z : ℕ) (old : List X) where
  -- the next entry is split: y is what is left of it, and h what is taken
  pub split-more : (i : ℕ) (new : List X) (y h : X) → i < length old → IsSplitSoFar number o z i old new →
      number h ≡ times o (entries number new i) z → number y ≡ minus o (entries number new i) (number h) →
      IsSplitSoFar number o z (i + 1) old (set new i y ++ h ∷ [])
  split-more i new y h low so_far h_is y_is =
      let same_size : length (set new i y) ≡ length new = length-set new i y in
      let size : length (set new i y) ≡ length old + i = same_size ∙ so_far.size in
      let within : i < length new = omega (arith, so_far.size, low) in
      let was : entries number new i ≡ entries number old i = so_far.left i (omega arith) low in
      let taken : number h ≡ times o (entries number old i) z = h_is ∙ ap (λ k. times o k z) was in
      record {
        size = length-append (set new i y) (h ∷ []) ∙ omega (arith, size);
        low = λ b less.
            entry-append_left number (set new i y) (h ∷ []) b (omega (arith, size, less, low))
            ∙ ⊎_elim
            (λ before. let apart : b ≢ i = omega (arith, before) in entry-set_other number new i b y apart ∙ so_far.low b before)
            (λ at. let same : i ≡ b = omega (arith, at, less) in
            sym (ap (entries number (set new i y)) same)
            ∙ entry-set_same number new i y within ∙ y_is
            ∙ ap (λ k. minus o k (number h)) was ∙ ap (minus o (entries number old i)) taken
            ∙ ap (λ k. minus o (entries number old k) (times o (entries number old k) z)) same)
            (cases_lt b i);
        left = λ b least most.
            let apart : b ≢ i = omega (arith, least) in
            entry-append_left number (set new i y) (h ∷ []) b (omega (arith, size, most))
            ∙ entry-set_other number new i b y apart ∙ so_far.left b (omega (arith, least)) most;
        high = λ b less. ⊎_elim
            (λ before. let apart : length old + b ≢ i = omega (arith, low) in
            entry-append_left number (set new i y) (h ∷ []) (length old + b) (omega (arith, size, before))
            ∙ entry-set_other number new i (length old + b) y apart ∙ so_far.high b before)
            (λ at. let same : i ≡ b = omega (arith, at, less) in
            sym (ap (λ k. entries number (set new i y ++ h ∷ []) (length old + k)) same)
            ∙ ap (entries number (set new i y ++ h ∷ [])) (sym size)
            ∙ entry-append_last number (set new i y) h ∙ taken
            ∙ ap (λ k. times o (entries number old k) z) same)
            (cases_lt b i);
      }

-- The items are `scale` times the weights of the last coordinates; `rest` are the coordinates before those.
pub record IsWeighted {X : Type 0} (number : X → ℕ) (o : Ops) (scale : ℕ) (all rest items : List X) : Type 0 where
  pub done : List X
  pub parts : all ≡ rest ++ done
  pub size : length items ≡ 2 ^ length done
  pub weights : (b : ℕ) → b < 2 ^ length done → entries number items b ≡ times o scale (equality_weight o (map number done) b)

module _ {X : Type 0} (number : X → ℕ) (o : Ops) (ring : IsRing o) (scale : ℕ) (all : List X) where
  -- the one entry `scale`, where no coordinate has been taken
  pub weighted-none : (x : X) (items : List X) → items ≡ x ∷ [] → number x ≡ scale → element o scale ≡ scale → IsWeighted number o scale all all items
  unfolding equality_weight entries
  weighted-none x items is x_is small = record {
    done = [];
    parts = sym (append-nil all);
    size = ap length is;
    weights = λ b low.
        let first : b ≡ 0 = omega (arith, low) in
        ap (λ k. entries number items k) first ∙ ap (λ l. entries number l 0) is ∙ x_is ∙ sym small ∙ sym (times-one o ring scale);
  }

  low_weight : (w z : ℕ) → minus o (times o scale w) (times o (times o scale w) z) ≡ times o scale (times o (minus o 1 z) w)
  unfolding Agree
  low_weight w z =
      let S = atom 0 in let W = atom 1 in let Z = atom 2 in
      identity o ring (scale ∷ w ∷ z ∷ []) (S ⊗ W ⊖ S ⊗ W ⊗ Z) (S ⊗ ((unit ⊖ Z) ⊗ W)) tt tt refl

  high_weight : (w z : ℕ) → times o (times o scale w) z ≡ times o scale (times o z w)
  unfolding Agree
  high_weight w z =
      let S = atom 0 in let W = atom 1 in let Z = atom 2 in
      identity o ring (scale ∷ w ∷ z ∷ []) (S ⊗ W ⊗ Z) (S ⊗ (Z ⊗ W)) tt tt refl

  pub weighted-more : (rest items : List X) (z : X) (items' : List X) → IsWeighted number o scale all (rest ++ z ∷ []) items →
      length items' ≡ length items + length items →
      ((b : ℕ) → b < length items → entries number items' b ≡ minus o (entries number items b) (times o (entries number items b) (number z))) →
      ((b : ℕ) → b < length items → entries number items' (length items + b) ≡ times o (entries number items b) (number z)) →
      IsWeighted number o scale all rest items'
  weighted-more rest items z items' so_far size low high =
      let done = so_far.done in
      let numbers = map number done in
      let p = 2 ^ length done in
      let p_is : 2 ^ length numbers ≡ p = ap (λ k. 2 ^ k) (length-map done number) in
      record {
        done = z ∷ done;
        parts = so_far.parts ∙ append_assoc rest (z ∷ []) done;
        size = size ∙ ap (λ k. k + k) so_far.size ∙ sym (two_halves (length done));
        weights = λ b below. ⊎_elim
            (λ less.
            low b (omega (arith, so_far.size, less))
            ∙ ap (λ k. minus o k (times o k (number z))) (so_far.weights b less)
            ∙ low_weight (equality_weight o numbers b) (number z)
            ∙ ap (times o scale) (sym (equality_weight-low o ring (number z) numbers b (omega (arith, p_is, less)))))
            (λ more.
            let c = b - p in
            let top : b < p + p = subst (λ k. b < k) (two_halves (length done)) below in
            let c_low : c < p = omega (arith, top, more) in
            let back : length items + c ≡ b = omega (arith, so_far.size, more) in
            let back' : 2 ^ length numbers + c ≡ b = omega (arith, p_is, more) in
            ap (entries number items') (sym back)
            ∙ high c (omega (arith, so_far.size, c_low))
            ∙ ap (λ k. times o k (number z)) (so_far.weights c c_low)
            ∙ high_weight (equality_weight o numbers c) (number z)
            ∙ ap (times o scale) (sym (equality_weight-high o ring (number z) numbers c (omega (arith, p_is, c_low))))
            ∙ ap (λ k. times o scale (equality_weight o (number z ∷ numbers) k)) back')
            (cases_lt b p);
      }

module _ {X : Type 0} (number : X → ℕ) (o : Ops) (scale : ℕ) (all : List X) where
  -- while a coordinate is left, twice the entries are no more than all rows
  pub weighted-room : (rest : List X) (z : X) (items : List X) → IsWeighted number o scale all (rest ++ z ∷ []) items → length items + length items ≤ 2 ^ length all
  weighted-room rest z items so_far =
      let n = length so_far.done in
      let size : length all ≡ length rest + 1 + n =
      ap length so_far.parts ∙ length-append (rest ++ z ∷ []) so_far.done ∙ ap (λ k. k + n) (length-append rest (z ∷ [])) in
      let more : suc n ≤ length all = omega (arith, size) in
      let least : 2 ^ suc n ≤ 2 ^ length all = pow_mono more in
      omega (arith, least, two_halves n, so_far.size)

  -- where all coordinates have been taken
  pub weighted-all : (rest items : List X) → length rest ≡ 0 → IsWeighted number o scale all rest items →
      (length items ≡ 2 ^ length all) × ((b : ℕ) → b < 2 ^ length all → entries number items b ≡ times o scale (equality_weight o (map number all) b))
  weighted-all [] items none so_far =
      let same : so_far.done ≡ all = sym so_far.parts in (
        so_far.size ∙ ap (λ l. 2 ^ length l) same,
        subst (λ l. (b : ℕ) → b < 2 ^ length l → entries number items b ≡ times o scale (equality_weight o (map number l) b)) same so_far.weights,
      )
  weighted-all (x ∷ rest) items none so_far = absurd (omega (arith, none))
