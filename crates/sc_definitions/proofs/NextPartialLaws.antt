-- Tables that are summed under parts of successor weights, and what they make.
use mathlib.Core.Path.{fun_ext}
use Rattle.std.proofs.Common.{◌≡◌, ℕ, suc, ◌+◌, ◌-◌, ◌*◌, ◌^◌, ◌<◌, List, [], ◌∷◌, ◌++◌, length, map, get_or, take, drop, sym, ◌∙◌, ap, refl, arith, length-drop, length-take-le, take-append-drop, zero-add}
use Rattle.std.specs.List.{range_with_len}
use Rattle.std.proofs.lemmas.Nat.{pow_pos}
use Rattle.std.proofs.lemmas.List.FromFn.{length-map-range_with_len, get_or-map-range_with_len, map-range_with_len_more, fill_by_all}
use Rattle.sc_definitions.specs.Ring.{Ops, IsRing, plus, times}
use Rattle.sc_definitions.specs.Tables.{Order, prefix, suffix, sum_below, rows_of, equality_weight, inner_product}
use Rattle.sc_definitions.specs.Grids.{Digit, grid_value, grid_entry}
use Rattle.sc_definitions.specs.Shifts.{shifted, only_at}
use Rattle.sc_definitions.specs.Statements.{successor_weight}
use Rattle.sc_definitions.specs.ProverStates.{entries_of}
use Rattle.sc_definitions.specs.Partials.{joined_row, summed_behind, kept_of, behind_of}
use Rattle.sc_definitions.specs.Parts.{Part, Carry, Done, Omega, part_weight, under, beside, closing, next_partial, PartTables, tables_by, next_partials_of}
use Rattle.sc_definitions.proofs.RingLaws.{times_comm, element-times}
use Rattle.sc_definitions.proofs.Sums.{sum-same, sum-plus}
use Rattle.sc_definitions.proofs.SuccessorLaws.{one-place}
use Rattle.sc_definitions.proofs.BlockLaws.{sum-times}
use Rattle.sc_definitions.proofs.GridLaws.{grid_value-same, grid_value-sum}
use Rattle.sc_definitions.proofs.PartialLaws.{behind_of-none, joined_row-none, summed_behind-rows, grid_value-behind, grid_value-summed}
use Rattle.sc_definitions.proofs.ProverStateLaws.{entries-is}
use Rattle.sc_definitions.proofs.PartLaws.{three, three-same, sum-three, successor-append, successor-done_omega, only_at-times}
use Rattle.sc_definitions.proofs.Identity.{atom, unit, ◌⊕◌, ◌⊗◌, Agree, identity}

-- ---- tables summed over the variables that are bound last

-- weights that agree at each row give one table
pub summed_behind-same : (order : Order) (o : Ops) (l m : ℕ) (w v f : ℕ → ℕ) (a : ℕ) → ((c : ℕ) → c < 2 ^ m → w c ≡ v c) →
    summed_behind order o l m w f a ≡ summed_behind order o l m v f a
summed_behind-same order o l m w v f a same =
    summed_behind-rows order o l m w f a
    ∙ sum-same o (2 ^ m) _ _ (λ c low. ap (times o (f (joined_row order l m a c))) (same c low))
    ∙ sym (summed_behind-rows order o l m v f a)

-- the part Done sums under the equality weights, moved up by one row
pub summed_behind-done : (order : Order) (o : Ops) (l m : ℕ) (ys : List ℕ) (f : ℕ → ℕ) (a : ℕ) →
    summed_behind order o l m (part_weight o Done ys) f a ≡ summed_behind order o l m (shifted 0 (equality_weight o ys)) f a
unfolding part_weight
summed_behind-done order o l m ys f a = refl

-- an entry of a part's table, by the table's rows
pub next_partial-rows : (order : Order) (o : Ops) (part : Part) (f : ℕ → ℕ) (zs : List ℕ) (l m a : ℕ) → length zs ≡ l + m →
    next_partial order o part f zs l a
    ≡ sum_below o (2 ^ m) (λ c. times o (f (joined_row order l m a c)) (part_weight o (under order part) (behind_of order l zs) c))
unfolding next_partial
next_partial-rows order o part f zs l m a whole =
    let left : length zs - l ≡ m = omega (arith, whole) in
    let w = part_weight o (under order part) (behind_of order l zs) in
    summed_behind-rows order o l (length zs - l) w f a
    ∙ ap (λ n. sum_below o (2 ^ n) (λ c. times o (f (joined_row order l n a c)) (w c))) left

module _ (o : Ops) (ring : IsRing o) where
  -- ---- first tables

  -- the part Carry sums to the entries with row 0 after, each times the last row's weight
  pub summed_behind-carry : (order : Order) (l m : ℕ) (ys : List ℕ) (f : ℕ → ℕ) (a : ℕ) → length ys ≡ m →
      summed_behind order o l m (part_weight o Carry ys) f a ≡ times o (f (joined_row order l m a 0)) (equality_weight o ys (2 ^ m - 1))
  unfolding part_weight
  summed_behind-carry order l m ys f a size =
      let W = equality_weight o ys (2 ^ length ys - 1) in
      let row : ℕ → ℕ = λ c. f (joined_row order l m a c) in
      summed_behind-rows order o l m (only_at 0 (λ k. W)) f a
      ∙ sum-same o (2 ^ m) _ (only_at 0 (λ c. times o W (row c)))
      (λ c _. times_comm o ring (row c) (only_at 0 (λ k. W) c) ∙ only_at-times o ring 0 (λ k. W) row c)
      ∙ one-place o ring (2 ^ m) 0 (λ c. times o W (row c)) (pow_pos m)
      ∙ element-times o ring W (row 0) ∙ times_comm o ring W (row 0)
      ∙ ap (λ n. times o (row 0) (equality_weight o ys (2 ^ n - 1))) size

  -- the part Omega sums to the entries with the last row after, each times its weight
  pub summed_behind-omega : (order : Order) (l m : ℕ) (ys : List ℕ) (f : ℕ → ℕ) (a : ℕ) → length ys ≡ m →
      summed_behind order o l m (part_weight o Omega ys) f a ≡ times o (f (joined_row order l m a (2 ^ m - 1))) (equality_weight o ys (2 ^ m - 1))
  unfolding part_weight
  summed_behind-omega order l m ys f a size =
      let n = 2 ^ m - 1 in
      let w = equality_weight o ys in
      let row : ℕ → ℕ = λ c. f (joined_row order l m a c) in
      summed_behind-rows order o l m (only_at (2 ^ length ys - 1) w) f a
      ∙ ap (λ k. sum_below o (2 ^ m) (λ c. times o (row c) (only_at (2 ^ k - 1) w c))) size
      ∙ sum-same o (2 ^ m) _ (only_at n (λ c. times o (w c) (row c))) (λ c _. times_comm o ring (row c) (only_at n w c) ∙ only_at-times o ring n w row c)
      ∙ one-place o ring (2 ^ m) n (λ c. times o (w c) (row c)) (omega (arith, pow_pos m))
      ∙ element-times o ring (w n) (row n) ∙ times_comm o ring (w n) (row n)

  -- ---- grids

  -- the successor weight of a row: for each part, that of the kept coordinates times that of the others
  pub successor-split : (order : Order) (zs : List ℕ) (l m a c : ℕ) → length zs ≡ l + m → a < 2 ^ l → c < 2 ^ m →
      successor_weight o zs (joined_row order l m a c)
      ≡ three o (λ part. times o (part_weight o (beside order part) (kept_of order l zs) a) (part_weight o (under order part) (behind_of order l zs) c))
  successor-split prefix zs l m a c whole la lc =
      let first : length (take l zs) ≡ l = length-take-le l zs (omega arith) in
      let second : length (drop l zs) ≡ m = length-drop l zs ∙ omega arith in
      ap (λ t. successor_weight o t (a * 2 ^ m + c)) (sym (take-append-drop l zs))
      ∙ ap (λ n. successor_weight o (take l zs ++ drop l zs) (a * 2 ^ n + c)) (sym second)
      ∙ successor-append o ring (take l zs) (drop l zs) a c (rw first la) (rw second lc)
  successor-split suffix zs l m a c whole la lc =
      let k = length zs - l in
      let first : length (take k zs) ≡ m = length-take-le k zs (omega arith) ∙ omega arith in
      let second : length (drop k zs) ≡ l = length-drop k zs ∙ omega arith in
      ap (λ t. successor_weight o t (c * 2 ^ l + a)) (sym (take-append-drop k zs))
      ∙ ap (λ n. successor_weight o (take k zs ++ drop k zs) (c * 2 ^ n + a)) (sym second)
      ∙ successor-append o ring (take k zs) (drop k zs) c a (rw first lc) (rw second la)
      ∙ three-same o ring _ _ (λ part. times_comm o ring (part_weight o (under suffix part) (take k zs) c) (part_weight o part (drop k zs) a))

  -- the value at digits of a table that is made of three, each times a number
  grid_value-three : (order : Order) (u : Part → ℕ → ℕ) (x : Part → ℕ) (ds : List Digit) →
      grid_value order o (λ a. three o (λ part. times o (u part a) (x part))) ds 0 0 ≡ three o (λ part. times o (grid_value order o (u part) ds 0 0) (x part))
  unfolding Agree
  grid_value-three order u x ds =
      let at : Part → ℕ = λ part. grid_value order o (u part) ds 0 0 in
      let A = atom 0 in let B = atom 1 in let C = atom 2 in let D = atom 3 in let E = atom 4 in let F = atom 5 in
      ap (λ t. grid_value order o t ds 0 0) (fun_ext (λ a. identity o ring (u Done a ∷ x Done ∷ u Carry a ∷ x Carry ∷ u Omega a ∷ x Omega ∷ [])
      ((A ⊗ B ⊕ C ⊗ D) ⊕ E ⊗ F) (unit ⊗ (B ⊗ A ⊕ D ⊗ C) ⊕ F ⊗ E) tt tt refl))
      ∙ grid_value-sum o ring order 1 (x Omega) (λ a. plus o (times o (x Done) (u Done a)) (times o (x Carry) (u Carry a))) (u Omega) ds 0 0
      ∙ ap (λ k. plus o (times o 1 k) (times o (x Omega) (at Omega))) (grid_value-sum o ring order (x Done) (x Carry) (u Done) (u Carry) ds 0 0)
      ∙ identity o ring (at Done ∷ x Done ∷ at Carry ∷ x Carry ∷ at Omega ∷ x Omega ∷ [])
      (unit ⊗ (B ⊗ A ⊕ D ⊗ C) ⊕ F ⊗ E) ((A ⊗ B ⊕ C ⊗ D) ⊕ E ⊗ F) tt tt refl

  -- the entry under weights that are made of three products
  pub grid_entry-products : (order : Order) (f w : ℕ → ℕ) (u v : Part → ℕ → ℕ) (ds : List Digit) (m : ℕ) →
      ((a c : ℕ) → a < 2 ^ length ds → c < 2 ^ m → w (joined_row order (length ds) m a c) ≡ three o (λ part. times o (u part a) (v part c))) →
      grid_entry order o f w ds m
      ≡ three o (λ part. times o (grid_value order o (summed_behind order o (length ds) m (v part) f) ds 0 0) (grid_value order o (u part) ds 0 0))
  unfolding grid_entry inner_product Agree
  grid_entry-products order f w u v ds m is =
      let F = grid_value order o f ds m in
      let U : Part → ℕ = λ part. grid_value order o (u part) ds 0 0 in
      let none : length ds + 0 ≡ length ds = omega arith in
      let X = atom 0 in let A = atom 1 in let B = atom 2 in let C = atom 3 in let D = atom 4 in let E = atom 5 in let G = atom 6 in
      sum-same o (2 ^ m) _ (λ c. three o (λ part. times o (times o (F c) (v part c)) (U part))) (λ c lc.
      ap (times o (F c)) (grid_value-behind order o w ds m c
      ∙ grid_value-same order o _ (λ a. three o (λ part. times o (u part a) (v part c))) ds 0 0 (λ a low. is a c (rw (sym none) low) lc) (omega arith)
      ∙ grid_value-three order u (λ part. v part c) ds)
      ∙ identity o ring (F c ∷ U Done ∷ v Done c ∷ U Carry ∷ v Carry c ∷ U Omega ∷ v Omega c ∷ [])
      (X ⊗ ((A ⊗ B ⊕ C ⊗ D) ⊕ E ⊗ G)) (((X ⊗ B) ⊗ A ⊕ (X ⊗ D) ⊗ C) ⊕ (X ⊗ G) ⊗ E) tt tt refl)
      ∙ sum-three o ring (2 ^ m) (λ part c. times o (times o (F c) (v part c)) (U part))
      ∙ three-same o ring _ _ (λ part. sym (sum-times o ring (2 ^ m) (U part) (λ c. times o (F c) (v part c)))
      ∙ ap (λ s. times o s (U part)) (sym (grid_value-summed o ring order f (v part) ds m)))

  -- the entry under successor weights: for each part, the value at the digits of its table, times that of the weights beside it
  pub grid_entry-next : (order : Order) (f : ℕ → ℕ) (zs : List ℕ) (ds : List Digit) (m : ℕ) → length zs ≡ length ds + m →
      grid_entry order o f (successor_weight o zs) ds m
      ≡ three o (λ part. times o (grid_value order o (next_partial order o part f zs (length ds)) ds 0 0)
      (grid_value order o (part_weight o (beside order part) (kept_of order (length ds) zs)) ds 0 0))
  unfolding next_partial
  grid_entry-next order f zs ds m whole =
      let l = length ds in
      let left : m ≡ length zs - l = omega (arith, whole) in
      let kept : Part → ℕ → ℕ = λ part. part_weight o (beside order part) (kept_of order l zs) in
      let behind : Part → ℕ → ℕ = λ part. part_weight o (under order part) (behind_of order l zs) in
      grid_entry-products order f (successor_weight o zs) kept behind ds m (λ a c la lc. successor-split order zs l m a c whole la lc)
      ∙ three-same o ring _ _ (λ part.
      ap (λ n. times o (grid_value order o (summed_behind order o l n (behind part) f) ds 0 0) (grid_value order o (kept part) ds 0 0)) left)

  -- ---- no variable kept

  -- the entry of a part's table that keeps none
  pub next_partial-sum : (order : Order) (part : Part) (f : ℕ → ℕ) (zs : List ℕ) →
      next_partial order o part f zs 0 0 ≡ inner_product o (length zs) f (part_weight o (under order part) zs)
  unfolding inner_product
  next_partial-sum order part f zs =
      let n = length zs in
      let w = part_weight o (under order part) in
      next_partial-rows order o part f zs 0 n 0 (omega arith)
      ∙ ap (λ t. sum_below o (2 ^ n) (λ c. times o (f (joined_row order 0 n 0 c)) (w t c))) (behind_of-none order zs)
      ∙ sum-same o (2 ^ n) _ _ (λ c _. ap (λ k. times o (f k) (w zs c)) (joined_row-none order n c))

  closing-under : (order : Order) → under order (closing order) ≡ Done
  closing-under prefix = refl
  closing-under suffix = refl

  omega-under : (order : Order) → under order Omega ≡ Omega
  omega-under prefix = refl
  omega-under suffix = refl

  -- the table that closes and that of Omega make the sum of a table's entries times successor weights
  pub next_partial-none : (order : Order) (f : ℕ → ℕ) (zs : List ℕ) →
      plus o (next_partial order o (closing order) f zs 0 0) (next_partial order o Omega f zs 0 0) ≡ inner_product o (length zs) f (successor_weight o zs)
  unfolding inner_product Agree
  next_partial-none order f zs =
      let n = length zs in
      let D = part_weight o Done zs in let W = part_weight o Omega zs in
      ap (plus o (next_partial order o (closing order) f zs 0 0))
      (next_partial-sum order Omega f zs ∙ ap (λ k. inner_product o n f (part_weight o k zs)) (omega-under order))
      ∙ ap (λ s. plus o s (inner_product o n f W)) (next_partial-sum order (closing order) f zs ∙ ap (λ k. inner_product o n f (part_weight o k zs)) (closing-under order))
      ∙ sum-plus o ring (2 ^ n) (λ b. times o (f b) (D b)) (λ b. times o (f b) (W b))
      ∙ sum-same o (2 ^ n) _ _ (λ b low.
      identity o ring (f b ∷ D b ∷ W b ∷ []) (atom 0 ⊗ atom 1 ⊕ atom 0 ⊗ atom 2) (atom 0 ⊗ (atom 1 ⊕ atom 2)) tt tt refl
      ∙ ap (times o (f b)) (sym (successor-done_omega o ring zs b low)))

-- ---- the three tables of rounds

-- tables that have the lengths and the entries are the three tables
pub tables_by-is : (l : ℕ) (t : PartTables) (table : Part → ℕ → ℕ) →
    (length t.done ≡ 2 ^ l) × ((a : ℕ) → a < 2 ^ l → rows_of t.done a ≡ table Done a) →
    (length t.carry ≡ 2 ^ l) × ((a : ℕ) → a < 2 ^ l → rows_of t.carry a ≡ table Carry a) →
    (length t.omega ≡ 2 ^ l) × ((a : ℕ) → a < 2 ^ l → rows_of t.omega a ≡ table Omega a) → t ≡ tables_by l table
tables_by-is l t table d c w =
    ap (λ xs. record { done = xs; carry = t.carry; omega = t.omega }) (entries-is l t.done (table Done) d.0 d.1)
    ∙ ap (λ xs. record { done = entries_of l (table Done); carry = xs; omega = t.omega }) (entries-is l t.carry (table Carry) c.0 c.1)
    ∙ ap (λ xs. record { done = entries_of l (table Done); carry = entries_of l (table Carry); omega = xs }) (entries-is l t.omega (table Omega) w.0 w.1)

module _ (order : Order) (o : Ops) (f : ℕ → ℕ) (zs : List ℕ) where
  -- the three tables of the round that keeps j + 1 variables
  abbrev tables_at : ℕ → PartTables
  tables_at j = tables_by (suc j) (λ part. next_partial order o part f zs (suc j))

  -- those of l rounds are l times three
  pub length-next_partials_of : (l : ℕ) → length (next_partials_of order o f zs l) ≡ l
  unfolding next_partials_of
  length-next_partials_of l = length-map-range_with_len _ 0 l

  -- those at index j keep j + 1 variables
  pub next_partials_of-at : (l j : ℕ) (d : PartTables) → j < l →
      get_or (next_partials_of order o f zs l) j d ≡ tables_by (suc j) (λ part. next_partial order o part f zs (suc j))
  unfolding next_partials_of
  next_partials_of-at l j d low = get_or-map-range_with_len _ 0 l j j d low (zero-add j)

  -- those of no round
  pub next_partials_of-none : next_partials_of order o f zs 0 ≡ []
  unfolding next_partials_of
  next_partials_of-none = refl

  -- those of one round more
  pub next_partials_of-more : (l : ℕ) →
      next_partials_of order o f zs (suc l) ≡ next_partials_of order o f zs l ++ tables_by (suc l) (λ part. next_partial order o part f zs (suc l)) ∷ []
  unfolding next_partials_of
  next_partials_of-more l =
      let e : suc l ≡ l + 1 = omega arith in
      let at : ℕ → PartTables = λ j. tables_at j in
      ap (λ k. map at (range_with_len 0 k)) e ∙ map-range_with_len_more at 0 l l (zero-add l)

  -- a list of the rounds' tables is they
  pub next_partials_of-is : (l : ℕ) (ts : List PartTables) (d : PartTables) → length ts ≡ l →
      ((j : ℕ) → j < l → get_or ts j d ≡ tables_by (suc j) (λ part. next_partial order o part f zs (suc j))) → ts ≡ next_partials_of order o f zs l
  unfolding next_partials_of
  next_partials_of-is l ts d size each = fill_by_all _ ts l d size each
