-- What a claim adds to grids.
use mathlib.Core.Path.{fun_ext}
use Rattle.std.proofs.Common.{◌≡◌, ◌≢◌, ℕ, suc, ◌+◌, ◌-◌, ◌^◌, ◌<◌, ◌≤◌, List, [], ◌∷◌, ◌++◌, length, map, get_or, set, take, drop, Bool, true, false, refl, sym, ◌∙◌, ap, subst, arith, length-append, length-drop, take_all, ⊎_elim}
use Rattle.std.proofs.Math.Seq.{drop-append-add}
use Rattle.std.proofs.lemmas.Bool.{cases_lt}
use Rattle.std.specs.List.{take-map}
use Rattle.std.proofs.lemmas.List.{length-map, drop-map, take-append-le, get_or_default, length-set, get_or-set_same, get_or-set_other}
use Rattle.sc_definitions.specs.Ring.{Ops, IsRing, plus, times}
use Rattle.sc_definitions.specs.Tables.{Order, prefix, suffix, entries, rows_of, equality_weight, value, inner_product, digits}
use Rattle.sc_definitions.specs.Statements.{successor_weight, weight_of, true_value}
use Rattle.sc_definitions.specs.Grids.{Digit, digit_zero, infinity, ternary, grid_value, grid_entry, grid_of}
use Rattle.sc_definitions.specs.Partials.{kept_of, partial}
use Rattle.sc_definitions.specs.Parts.{Part, Equal, Carry, Done, Omega, part_weight, beside, next_partial, tables_by}
use Rattle.sc_definitions.specs.ProverStates.{entries_of}
use Rattle.sc_definitions.proofs.Lengths.{pow-same}
use Rattle.sc_definitions.proofs.ProverStateLaws.{length-entries_of, rows-entries_of}
use Rattle.sc_definitions.proofs.SameTables.{inner_product-same}
use Rattle.sc_definitions.proofs.TableLaws.{length-digits, value-same}
use Rattle.sc_definitions.proofs.Identity.{atom, nought as null, ◌⊕◌, ◌⊗◌, Agree, identity}
use Rattle.sc_definitions.proofs.GridLaws.{length-ternary, grid_entry-same, grid_entry-sum, grid_entry-zero, grid_of-is, grid-is}
use Rattle.sc_definitions.proofs.PartialLaws.{grid_entry-partial}
use Rattle.sc_definitions.proofs.PartLaws.{three, three-same, part-equal, successor-kind}
use Rattle.sc_definitions.proofs.NextPartialLaws.{grid_entry-next}
use Rattle.sc_table.specs.declared.poly.Poly.{Poly}
use Rattle.sc_table.specs.Polys.{variables_of, table_of}
use Rattle.sc_partials.specs.declared.sums.Sums.{Sums}
use Rattle.sc_partials.specs.declared.next_partials.NextPartials.{NextPartials}
use Rattle.sc_partials.specs.declared.partials.EqSvoPartials.{EqSvoPartials}
use Rattle.sc_partials.specs.Partials.{joined, Opening, opened, PartialSums, partial_sums_in, partial_sums_of}
use Rattle.sc_partials.specs.NextPartials.{poly_numbers, parts_in, HasRows, HaveRows, rows_by}
use Rattle.sc_partials.specs.Sums.{AddsGrid, AddsParts, AddsWeights}
use Rattle.sc_partials.proofs.PartialTables.{entries-of_numbers, length-numbers}
use Rattle.sc_partials.proofs.SumLaws.{one-product}
use Rattle.sc_svo.specs.declared.claims.SvoClaim.{SvoClaim}
use Rattle.sc_svo.specs.Claims.{kind_by, scaled_in, scaled_weight, scaled_value, AddsClaim, AddsRows}
use Rattle.sc_svo.proofs.PointParts.{length-joined}

-- ---- the coordinates that are kept

-- in prefix order, the first coordinates are those that are kept
pub kept-first : {X : Type 0} (number : X → ℕ) (order : Order) (n : ℕ) (xs : List X) → order ≡ prefix → map number (take n xs) ≡ kept_of order n (map number xs)
kept-first number order n xs is = subst (λ t. map number (take n xs) ≡ kept_of t n (map number xs)) (sym is) (sym (take-map number n xs))

-- in suffix order, the last ones are
pub kept-last : {X : Type 0} (number : X → ℕ) (order : Order) (n m : ℕ) (xs : List X) → order ≡ suffix → n ≤ length xs → length xs - (length xs - n) ≤ m →
    map number (take m (drop (length xs - n) xs)) ≡ kept_of order n (map number xs)
kept-last number order n m xs is fits most =
    let many : length (map number xs) ≡ length xs = length-map xs number in
    let short : length (drop (length xs - n) xs) ≤ m = omega (arith, length-drop (length xs - n) xs, most) in
    subst (λ t. map number (take m (drop (length xs - n) xs)) ≡ kept_of t n (map number xs)) (sym is)
    (ap (map number) (take_all m (drop (length xs - n) xs) short) ∙ sym (drop-map number (length xs - n) xs) ∙ ap (λ k. drop (k - n) (map number xs)) (sym many))

-- those of a point's first part are those of the point
pub kept-near : (order : Order) (n : ℕ) (near far : List ℕ) → n ≤ length near → kept_of order n near ≡ kept_of order n (joined order near far)
kept-near prefix n near far fits = sym (take-append-le n near far fits)
kept-near suffix n near far fits =
    let at : length (far ++ near) - n ≡ length far + (length near - n) = omega (arith, length-append far near, fits) in
    sym (ap (λ k. drop k (far ++ near)) at ∙ drop-append-add far near (length near - n))

-- ---- grids that are equal

module _ (order : Order) (o : Ops) where
  -- grids with equal entries at each place are equal
  pub grid-by : (f g w v : ℕ → ℕ) (j m n : ℕ) →
      ((d : Digit) (k : ℕ) → grid_entry order o f w (ternary j k ++ d ∷ []) m ≡ grid_entry order o g v (ternary j k ++ d ∷ []) n) →
      grid_of order o f w j m ≡ grid_of order o g v j n
  grid-by f g w v j m n same =
      let is = grid_of-is order o f w j m in
      grid-is order o g v j n (grid_of order o f w j m) (record {
        length_nought = is.length_nought;
        length_infinity = is.length_infinity;
        at_nought = λ k low. is.at_nought k low ∙ same digit_zero k;
        at_infinity = λ k low. is.at_infinity k low ∙ same infinity k;
      })

  -- how many digits a place has, with the one of the round's own variable
  pub length-place : (j k : ℕ) (d : Digit) → length (ternary j k ++ d ∷ []) ≡ suc j
  length-place j k d = omega (arith, length-append (ternary j k) (d ∷ []), length-ternary j k)

  -- grids of tables that agree are equal
  pub grid-same : (f g w v : ℕ → ℕ) (j m : ℕ) → ((b : ℕ) → b < 2 ^ (suc j + m) → f b ≡ g b) → ((b : ℕ) → b < 2 ^ (suc j + m) → w b ≡ v b) →
      grid_of order o f w j m ≡ grid_of order o g v j m
  grid-same f g w v j m tables weights = grid-by f g w v j m m (λ d k.
      let rows : length (ternary j k ++ d ∷ []) + m ≡ suc j + m = ap (λ n. n + m) (length-place j k d) in
      grid_entry-same order o f g w v (ternary j k ++ d ∷ []) m
      (λ b low. tables b (subst (λ n. b < 2 ^ n) rows low)) (λ b low. weights b (subst (λ n. b < 2 ^ n) rows low)))

module _ (o : Ops) (ring : IsRing o) (order : Order) where
  -- the entry under weights that are times a number
  pub grid_entry-times : (x : ℕ) (f w : ℕ → ℕ) (ds : List Digit) (m : ℕ) →
      grid_entry order o f (λ b. times o x (w b)) ds m ≡ times o x (grid_entry order o f w ds m)
  unfolding Agree
  grid_entry-times x f w ds m =
      ap (λ t. grid_entry order o f t ds m) (fun_ext (λ b. identity o ring (x ∷ w b ∷ []) (atom 0 ⊗ atom 1) (atom 0 ⊗ atom 1 ⊕ null) tt tt refl))
      ∙ grid_entry-sum o ring order x f w (λ b. 0) ds m
      ∙ ap (plus o (times o x (grid_entry order o f w ds m))) (grid_entry-zero o ring order f ds m)
      ∙ identity o ring (x ∷ grid_entry order o f w ds m ∷ []) (atom 0 ⊗ atom 1 ⊕ null) (atom 0 ⊗ atom 1) tt tt refl

  -- the entry under equality weights, times a number, is that of the partial table and the kept coordinates' weights
  pub entry-gained : (f : ℕ → ℕ) (zs : List ℕ) (x : ℕ) (ds : List Digit) (m : ℕ) → length zs ≡ length ds + m →
      grid_entry order o (partial order o f zs (length ds)) (λ b. times o x (equality_weight o (kept_of order (length ds) zs) b)) ds 0
      ≡ grid_entry order o f (λ b. times o x (equality_weight o zs b)) ds m
  entry-gained f zs x ds m whole =
      let l = length ds in
      let P = partial order o f zs l in
      let W = equality_weight o (kept_of order l zs) in
      grid_entry-times x P W ds 0
      ∙ ap (times o x) (one-product {EF = ℕ} (λ k. k) o ring order P W ds ∙ sym (grid_entry-partial o ring order f zs ds m whole))
      ∙ sym (grid_entry-times x f (equality_weight o zs) ds m)

  -- the entry under successor weights, times a number, is the sum of those of the three tables, each with the weights beside it
  pub entry-gained_next : (f : ℕ → ℕ) (zs : List ℕ) (x : ℕ) (ds : List Digit) (m : ℕ) → length zs ≡ length ds + m →
      three o (λ part. grid_entry order o (next_partial order o part f zs (length ds))
      (λ b. times o x (part_weight o (beside order part) (kept_of order (length ds) zs) b)) ds 0)
      ≡ grid_entry order o f (λ b. times o x (successor_weight o zs b)) ds m
  unfolding Agree
  entry-gained_next f zs x ds m whole =
      let l = length ds in
      let P : Part → ℕ → ℕ = λ part. next_partial order o part f zs l in
      let W : Part → ℕ → ℕ = λ part. part_weight o (beside order part) (kept_of order l zs) in
      let A : Part → ℕ = λ part. times o (grid_value order o (P part) ds 0 0) (grid_value order o (W part) ds 0 0) in
      three-same o ring _ (λ part. times o x (A part))
      (λ part. grid_entry-times x (P part) (W part) ds 0 ∙ ap (times o x) (one-product {EF = ℕ} (λ k. k) o ring order (P part) (W part) ds))
      ∙ identity o ring (x ∷ A Done ∷ A Carry ∷ A Omega ∷ [])
      ((atom 0 ⊗ atom 1 ⊕ atom 0 ⊗ atom 2) ⊕ atom 0 ⊗ atom 3) (atom 0 ⊗ ((atom 1 ⊕ atom 2) ⊕ atom 3)) tt tt refl
      ∙ ap (times o x) (sym (grid_entry-next o ring order f zs ds m whole))
      ∙ sym (grid_entry-times x f (successor_weight o zs) ds m)

-- three tables that are those of parts have their entries
pub parts-have : {EF : Type 0} (number : EF → ℕ) (n : ℕ) (of : Part → ℕ → ℕ) (p : NextPartials EF) → parts_in number p ≡ tables_by n of → HaveRows number n of p
parts-have number n of p is =
    let one : (f : ℕ → ℕ) (q : Poly _) → poly_numbers number q ≡ entries_of n f → HasRows number n f q =
    λ f q same.
    let many : variables_of q ≡ n = pow-same (variables_of q) n (sym (length-entries_of (variables_of q) (table_of number q)) ∙ ap length same ∙ length-entries_of n f) in
    record {
      variables = many;
      rows = λ a low. sym (rows-entries_of (variables_of q) (table_of number q) a (subst (λ k. a < 2 ^ k) (sym many) low))
          ∙ ap (λ t. rows_of t a) same ∙ rows-entries_of n f a low;
    } in
    record {
      done = one (of Done) p.done (ap (λ t. t.done) is);
      carry = one (of Carry) p.carry (ap (λ t. t.carry) is);
      omega = one (of Omega) p.omega (ap (λ t. t.omega) is);
    }

-- the numbers of a slice that are those of a table
pub poly-entries : {EF : Type 0} (number : EF → ℕ) (xs : List EF) (p : Poly EF) (n b : ℕ) → map number xs ≡ poly_numbers number p → variables_of p ≡ n → b < 2 ^ n →
    entries number xs b ≡ table_of number p b
poly-entries number xs p n b is size low = entries-of_numbers number xs (variables_of p) (table_of number p) b is (subst (λ k. b < 2 ^ k) (sym size) low)

-- there are as many as rows
pub poly-length : {EF : Type 0} (number : EF → ℕ) (xs : List EF) (p : Poly EF) (n : ℕ) → map number xs ≡ poly_numbers number p → variables_of p ≡ n → length xs ≡ 2 ^ n
poly-length number xs p n is size = length-numbers number xs (variables_of p) (table_of number p) is ∙ ap (λ k. 2 ^ k) size

-- the equality weights of a point, times a number, are those of its part Equal
pub equal-has : {EF : Type 0} (number : EF → ℕ) (o : Ops) (x n : ℕ) (zs : List ℕ) (p : Poly EF) → variables_of p ≡ n → length zs ≡ n →
    ((b : ℕ) → b < 2 ^ n → table_of number p b ≡ times o x (equality_weight o zs b)) → HasRows number (length zs) (λ b. times o x (part_weight o Equal zs b)) p
equal-has number o x n zs p many size table = record {
  variables = many ∙ sym size;
  rows = λ b low. table b (subst (λ k. b < 2 ^ k) size low) ∙ ap (times o x) (sym (part-equal o zs b));
}

-- the weights beside three tables are those of the coordinates that a round keeps
pub beside-has : {EF : Type 0} (number : EF → ℕ) (o : Ops) (order : Order) (x j : ℕ) (near kept : List EF) (equal : Poly EF) (weights : NextPartials EF) →
    length kept ≡ j + 1 → map number kept ≡ kept_of order (j + 1) (map number near) → variables_of equal ≡ length kept →
    ((b : ℕ) → b < 2 ^ length kept → table_of number equal b ≡ times o x (equality_weight o (map number kept) b)) →
    ((y : ℕ) (zs : List ℕ) → HasRows number (length zs) (λ b. times o y (part_weight o Equal zs b)) equal →
    HaveRows number (length zs) (λ part b. times o y (part_weight o (beside order part) zs b)) weights) →
    HaveRows number (suc j) (λ part b. times o x (part_weight o (beside order part) (kept_of order (suc j) (map number near)) b)) weights
beside-has number o order x j near kept equal weights size kept_is variables table by =
    let zs = map number kept in
    let next : j + 1 ≡ suc j = omega arith in
    let long : length zs ≡ length kept = length-map kept number in
    let has = by x zs (equal-has number o x (length kept) zs equal variables long table) in
    subst (λ (ns : List ℕ). HaveRows number (suc j) (λ part b. times o x (part_weight o (beside order part) ns b)) weights)
    (kept_is ∙ ap (λ n. kept_of order n (map number near)) next)
    (subst (λ n. HaveRows number n (λ part b. times o x (part_weight o (beside order part) zs b)) weights) (long ∙ size ∙ next) has)

-- ---- what a round gains

module _ {EF : Type 0} (number : EF → ℕ) (o : Ops) where
  -- a grid gains the same of equal grids
  pub adds-as : (j : ℕ) (grid equal : List ℕ × List ℕ) (old new : Sums EF) → grid ≡ equal → AddsGrid number o j grid old new → AddsGrid number o j equal old new
  adds-as j grid equal old new same is = subst (λ t. AddsGrid number o j t old new) same is

  -- what was added for one part after the other was added for three parts
  pub parts-added : IsRing o → (j : ℕ) (grid : Part → List ℕ × List ℕ) (old first second new : Sums EF) → AddsGrid number o j (grid Done) old first →
      AddsGrid number o j (grid Carry) first second → AddsGrid number o j (grid Omega) second new → AddsParts number o j grid old new
  unfolding Agree
  parts-added ring j grid old first second new done carry last =
      let sum : (a d c w : ℕ) → plus o (plus o (plus o a d) c) w ≡ plus o a (plus o (plus o d c) w) =
      λ a d c w. identity o ring (a ∷ d ∷ c ∷ w ∷ []) (((atom 0 ⊕ atom 1) ⊕ atom 2) ⊕ atom 3) (atom 0 ⊕ ((atom 1 ⊕ atom 2) ⊕ atom 3)) tt tt refl in
      record {
        sized = last.sized;
        zero = λ k low. last.zero k low
            ∙ ap (λ t. plus o t (rows_of (grid Omega).0 k)) (carry.zero k low ∙ ap (λ t. plus o t (rows_of (grid Carry).0 k)) (done.zero k low))
            ∙ sum (entries number old.zero.items k) (rows_of (grid Done).0 k) (rows_of (grid Carry).0 k) (rows_of (grid Omega).0 k);
        infinity = λ k low. last.infinity k low
            ∙ ap (λ t. plus o t (rows_of (grid Omega).1 k)) (carry.infinity k low ∙ ap (λ t. plus o t (rows_of (grid Carry).1 k)) (done.infinity k low))
            ∙ sum (entries number old.infinity.items k) (rows_of (grid Done).1 k) (rows_of (grid Carry).1 k) (rows_of (grid Omega).1 k);
      }

  -- what a part's table and weights added, by their entries
  pub part-added : (order : Order) (j : ℕ) (w : ℕ → ℕ) (xs ys : List EF) (p q : Poly EF) (old new : Sums EF) → map number xs ≡ poly_numbers number p → variables_of p ≡ suc j →
      map number ys ≡ poly_numbers number q → HasRows number (suc j) w q → AddsGrid number o j (grid_of order o (entries number xs) (entries number ys) j 0) old new →
      AddsGrid number o j (grid_of order o (table_of number p) w j 0) old new
  part-added order j w xs ys p q old new tables size weights has is =
      let none : suc j + 0 ≡ suc j = omega arith in
      adds-as j _ _ old new (grid-same order o (entries number xs) (table_of number p) (entries number ys) w j 0
      (λ b low. poly-entries number xs p (suc j) b tables size (subst (λ n. b < 2 ^ n) none low))
      (λ b low. let small = subst (λ n. b < 2 ^ n) none low in poly-entries number ys q (suc j) b weights has.variables small ∙ has.rows b small)) is

  module _ (ring : IsRing o) (order : Order) (f : ℕ → ℕ) (near far : List ℕ) (x j : ℕ) (old new : Sums EF) (low : j < length near) where
    abbrev all : List ℕ
    all = joined order near far

    abbrev left : ℕ
    left = length all - suc j

    parts : length all ≡ suc j + left
    parts = omega (arith, low, length-joined order near far)

    digits_split : (k : ℕ) (d : Digit) → length all ≡ length (ternary j k ++ d ∷ []) + left
    digits_split k d = parts ∙ ap (λ n. n + left) (sym (length-place order o j k d))

    kept_all : kept_of order (suc j) near ≡ kept_of order (suc j) all
    kept_all = kept-near order (suc j) near far (omega (arith, low))

    -- by its partial table, it gains the grid of a table and equality weights
    equality-gained : (table : ℕ → ℕ) → ((b : ℕ) → b < 2 ^ suc j → table b ≡ partial order o f all (suc j) b) →
        AddsGrid number o j (grid_of order o table (λ b. times o x (equality_weight o (kept_of order (suc j) near) b)) j 0) old new →
        AddsGrid number o j (grid_of order o f (λ b. times o x (equality_weight o all b)) j left) old new
    equality-gained table same is =
        let none : suc j + 0 ≡ suc j = omega arith in
        adds-as j _ _ old new
        (grid-same order o table (partial order o f all (suc j)) _ (λ b. times o x (equality_weight o (kept_of order (suc j) all) b)) j 0
        (λ b small. same b (subst (λ n. b < 2 ^ n) none small)) (λ b small. ap (λ t. times o x (equality_weight o t b)) kept_all)
        ∙ grid-by order o _ _ _ _ j 0 left (λ d k.
        let ds = ternary j k ++ d ∷ [] in
        ap (λ n. grid_entry order o (partial order o f all n) (λ b. times o x (equality_weight o (kept_of order n all) b)) ds 0) (sym (length-place order o j k d))
        ∙ entry-gained o ring order f all x ds left (digits_split k d))) is

    -- the same by other names of the order and of the kept coordinates
    pub round-gained : (place : Order) (kept : List ℕ) (table : ℕ → ℕ) → place ≡ order → kept ≡ near → ((b : ℕ) → b < 2 ^ suc j → table b ≡ partial order o f all (suc j) b) →
        AddsGrid number o j (grid_of place o table (λ b. times o x (equality_weight o (kept_of place (suc j) kept) b)) j 0) old new →
        AddsGrid number o j (grid_of order o f (λ b. times o x (equality_weight o all b)) j left) old new
    round-gained place kept table same kept_is tables is = equality-gained table tables
        (subst (λ t. AddsGrid number o j (grid_of t o table (λ b. times o x (equality_weight o (kept_of t (suc j) near) b)) j 0) old new) same
        (subst (λ ns. AddsGrid number o j (grid_of place o table (λ b. times o x (equality_weight o (kept_of place (suc j) ns) b)) j 0) old new) kept_is is))

    -- by its three tables, the grid of a table and successor weights
    successor-gained : (table : Part → ℕ → ℕ) →
        ((b : ℕ) → b < 2 ^ suc j → (table Done b ≡ next_partial order o Done f all (suc j) b) × (table Carry b ≡ next_partial order o Carry f all (suc j) b)
        × (table Omega b ≡ next_partial order o Omega f all (suc j) b)) →
        AddsParts number o j (λ part. grid_of order o (table part) (λ b. times o x (part_weight o (beside order part) (kept_of order (suc j) near) b)) j 0) old new →
        AddsGrid number o j (grid_of order o f (λ b. times o x (successor_weight o all b)) j left) old new
    successor-gained table same is =
        let none : suc j + 0 ≡ suc j = omega arith in
        let P : Part → ℕ → ℕ = λ part. next_partial order o part f all (suc j) in
        let W : Part → ℕ → ℕ = λ part b. times o x (part_weight o (beside order part) (kept_of order (suc j) near) b) in
        let V : Part → ℕ → ℕ = λ part b. times o x (part_weight o (beside order part) (kept_of order (suc j) all) b) in
        let S : ℕ → ℕ = λ b. times o x (successor_weight o all b) in
        let grid : (part : Part) → ((b : ℕ) → b < 2 ^ suc j → table part b ≡ P part b) → grid_of order o (table part) (W part) j 0 ≡ grid_of order o (P part) (V part) j 0 =
        λ part equal. grid-same order o (table part) (P part) (W part) (V part) j 0
        (λ b small. equal b (subst (λ n. b < 2 ^ n) none small)) (λ b small. ap (λ t. times o x (part_weight o (beside order part) t b)) kept_all) in
        let done = grid Done (λ b small. (same b small).0) in
        let carry = grid Carry (λ b small. (same b small).1) in
        let last = grid Omega (λ b small. (same b small).2) in
        let entry : (d : Digit) (k : ℕ) →
        three o (λ part. grid_entry order o (P part) (V part) (ternary j k ++ d ∷ []) 0) ≡ grid_entry order o f S (ternary j k ++ d ∷ []) left =
        λ d k.
        let ds = ternary j k ++ d ∷ [] in
        ap (λ n. three o (λ part. grid_entry order o (next_partial order o part f all n) (λ b. times o x (part_weight o (beside order part) (kept_of order n all) b)) ds 0)) (sym (length-place order o j k d))
        ∙ entry-gained_next o ring order f all x ds left (digits_split k d) in
        let at : (part : Part) → _ = λ (part : Part). grid_of-is order o (P part) (V part) j 0 in
        let whole = grid_of-is order o f S j left in
        record {
          sized = is.sized;
          zero = λ k small. is.zero k small ∙ ap (plus o (entries number old.zero.items k))
              (cc (
                ap (λ (t : List ℕ × List ℕ). rows_of t.0 k) done,
                ap (λ (t : List ℕ × List ℕ). rows_of t.0 k) carry,
                ap (λ (t : List ℕ × List ℕ). rows_of t.0 k) last,
                (at Done).at_nought k small,
                (at Carry).at_nought k small,
                (at Omega).at_nought k small,
                entry digit_zero k,
                whole.at_nought k small,
              ));
          infinity = λ k small. is.infinity k small ∙ ap (plus o (entries number old.infinity.items k))
              (cc (
                ap (λ (t : List ℕ × List ℕ). rows_of t.1 k) done,
                ap (λ (t : List ℕ × List ℕ). rows_of t.1 k) carry,
                ap (λ (t : List ℕ × List ℕ). rows_of t.1 k) last,
                (at Done).at_infinity k small,
                (at Carry).at_infinity k small,
                (at Omega).at_infinity k small,
                entry infinity k,
                whole.at_infinity k small,
              ));
        }

    -- the same by other names
    pub next-gained : (place : Order) (kept : List ℕ) (p : NextPartials EF) → place ≡ order → kept ≡ near → HaveRows number (suc j) (λ part. next_partial order o part f all (suc j)) p →
        AddsParts number o j (λ part. grid_of place o (rows_by number p part) (λ b. times o x (part_weight o (beside place part) (kept_of place (suc j) kept) b)) j 0) old new →
        AddsGrid number o j (grid_of order o f (λ b. times o x (successor_weight o all b)) j left) old new
    next-gained place kept p same kept_is has is = successor-gained (rows_by number p) (λ b small. (has.done.rows b small, has.carry.rows b small, has.omega.rows b small))
        (subst (λ t. AddsParts number o j (λ part. grid_of t o (rows_by number p part) (λ b. times o x (part_weight o (beside t part) (kept_of t (suc j) near) b)) j 0) old new) same
        (subst (λ ns. AddsParts number o j (λ part. grid_of place o (rows_by number p part) (λ b. times o x (part_weight o (beside place part) (kept_of place (suc j) ns) b)) j 0) old new)
        kept_is is))

  -- ---- round after round

  -- the first j rounds have gained the grids of a table and weights
  pub record HasAdded (g : Opening) (w : ℕ → ℕ) (old : List (Sums EF)) (j : ℕ) (new : List (Sums EF)) : Type 0 where
    pub same : length new ≡ length old
    pub added : (i : ℕ) (d : Sums EF) → i < j → i < length old →
        AddsGrid number o i (grid_of g.order o g.table w i (length g.point - suc i)) (get_or old i d) (get_or new i d)
    pub kept : (i : ℕ) (d : Sums EF) → j ≤ i → i < length old → get_or new i d ≡ get_or old i d

  module _ (g : Opening) (w : ℕ → ℕ) (old : List (Sums EF)) where
    abbrev grid_at : ℕ → List ℕ × List ℕ
    grid_at i = grid_of g.order o g.table w i (length g.point - suc i)

    -- no round has yet
    pub added-none : HasAdded g w old 0 old
    added-none = record { same = refl; added = λ i d low within. absurd (omega (arith, low)); kept = λ i d later within. refl }

    -- one round more has
    pub added-more : (j : ℕ) (xs : List (Sums EF)) (e after : Sums EF) → j < length old → HasAdded g w old j xs →
        AddsGrid number o j (grid_at j) (get_or xs j e) after → HasAdded g w old (j + 1) (set xs j after)
    added-more j xs e after within so_far gains =
        let here : j < length xs = omega (arith, within, so_far.same) in
        let other : (i : ℕ) (d : Sums EF) → i ≢ j → get_or (set xs j after) i d ≡ get_or xs i d = λ i d apart. get_or-set_other xs j i after d apart in
        record {
          same = length-set xs j after ∙ so_far.same;
          added = λ i d low inside. ⊎_elim
              (λ less. subst (AddsGrid number o i (grid_at i) (get_or old i d)) (sym (other i d (λ e. absurd (omega (arith, e, less))))) (so_far.added i d less inside))
              (λ at.
              let is_j : i ≡ j = omega (arith, low, at) in
              let from : get_or old i d ≡ get_or xs j e = ap (λ n. get_or old n d) is_j ∙ get_or_default old j d e within ∙ sym (so_far.kept j e (omega arith) within) in
              let into : get_or (set xs j after) i d ≡ after = ap (λ n. get_or (set xs j after) n d) is_j ∙ get_or-set_same xs j after d here in
              subst (λ n. AddsGrid number o n (grid_at n) (get_or old i d) (get_or (set xs j after) i d)) (sym is_j)
              (subst (λ t. AddsGrid number o j (grid_at j) (get_or old i d) t) (sym into)
              (subst (λ t. AddsGrid number o j (grid_at j) t after) (sym from) gains)))
              (cases_lt i j);
          kept = λ i d later inside. other i d (λ e. absurd (omega (arith, e, later))) ∙ so_far.kept i d (omega (arith, later)) inside;
        }

    -- all of them have
    pub added-all : (j : ℕ) (new : List (Sums EF)) → length old ≤ j → HasAdded g w old j new → AddsWeights number o g w old new
    added-all j new all done = record { same = done.same; added = λ i d low. done.added i d (omega (arith, low, all)) low }

  -- ---- claims

  -- the grids of weights that agree are the same
  pub weights-as : (g : Opening) (w v : ℕ → ℕ) (old new : List (Sums EF)) → length old ≤ length g.point → ((b : ℕ) → b < 2 ^ length g.point → w b ≡ v b) →
      AddsWeights number o g w old new → AddsWeights number o g v old new
  weights-as g w v old new fits same is = record {
    same = is.same;
    added = λ j d low.
        let left = length g.point - suc j in
        let whole : suc j + left ≡ length g.point = omega (arith, fits, low) in
        adds-as j _ _ (get_or old j d) (get_or new j d)
        (grid-same g.order o g.table g.table w v j left (λ b small. refl) (λ b small. same b (subst (λ n. b < 2 ^ n) whole small))) (is.added j d low);
  }

module _ (o : Ops) (ring : IsRing o) where
  -- the weights of a claim on a value
  pub kind-equality : (on : Bool) (zs : List ℕ) (b : ℕ) → on ≡ false → weight_of o (kind_by on zs) b ≡ equality_weight o zs b
  unfolding weight_of
  kind-equality on zs b is = ap (λ t. weight_of o (kind_by t zs) b) is

  -- those of one on a value through the successor map
  pub kind-successor : (on : Bool) (zs : List ℕ) (b : ℕ) → on ≡ true → b < 2 ^ length zs → weight_of o (kind_by on zs) b ≡ successor_weight o zs b
  kind-successor on zs b is low = ap (λ t. weight_of o (kind_by t zs) b) is ∙ successor-kind o ring prefix zs b low

  module _ {EF : Type 0} (number : EF → ℕ) (f : ℕ → ℕ) (w : List ℕ → ℕ → ℕ) (c : SvoClaim EF) (zs : List ℕ) (whole : zs ≡ map number c.point)
      (kind : (b : ℕ) → b < 2 ^ length (map number c.point) → weight_of o (kind_by c.successor (map number c.point)) b ≡ w (map number c.point) b) where
    -- what weights added that are the claim's at each row
    pub claim-added : (order place : Order) (old new : List (Sums EF)) → place ≡ order → length old ≤ length c.point →
        AddsWeights number o (opened place f zs) (λ b. times o (number c.coefficient) (w zs b)) old new → AddsClaim number o order f c old new
    claim-added order place old new same fits is =
        let ys = map number c.point in
        weights-as number o (opened order f ys) (λ b. times o (number c.coefficient) (w ys b)) (scaled_weight o (scaled_in number c)) old new
        (omega (arith, fits, length-map c.point number)) (λ b low. ap (times o (number c.coefficient)) (sym (kind b low)))
        (subst (λ t. AddsWeights number o (opened order f t) (λ b. times o (number c.coefficient) (w t b)) old new) whole
        (subst (λ t. AddsWeights number o (opened t f zs) (λ b. times o (number c.coefficient) (w zs b)) old new) same is))

    -- the sum of the entries times these is the value that the claim is on
    pub value-true : (v : ℕ) → v ≡ inner_product o (length zs) f (w zs) → v ≡ true_value o (length c.point) f (kind_by c.successor (map number c.point))
    unfolding true_value
    value-true v is =
        let ys = map number c.point in
        is ∙ ap (λ t. inner_product o (length t) f (w t)) whole
        ∙ inner_product-same o (length ys) f f (w ys) _ (λ b _. refl) (λ b low. sym (kind b low))
        ∙ ap (λ k. inner_product o k f (weight_of o (kind_by c.successor ys))) (length-map c.point number)

  -- the value that is answered with partial tables
  pub sums-value : {EF : Type 0} (number : EF → ℕ) (order : Order) (f : ℕ → ℕ) (zs : List ℕ) (l : ℕ) (r : EF × EqSvoPartials EF) →
      partial_sums_in number r ≡ partial_sums_of order o f zs l → number r.0 ≡ value o f zs
  unfolding partial_sums_of
  sums-value number order f zs l r is = ap (λ (s : PartialSums). s.value) is

  -- the value at a point is the sum of the entries times equality weights
  pub value-inner : (f : ℕ → ℕ) (zs : List ℕ) → value o f zs ≡ inner_product o (length zs) f (equality_weight o zs)
  unfolding value inner_product
  value-inner f zs = refl

-- ---- claims at bound points

module _ (o : Ops) (ring : IsRing o) {EF : Type 0} (number : EF → ℕ) (w : List ℕ → ℕ → ℕ) (c : SvoClaim EF) (zs : List ℕ) (whole : zs ≡ map number c.point)
    (kind : (b : ℕ) → b < 2 ^ length (map number c.point) → weight_of o (kind_by c.successor (map number c.point)) b ≡ w (map number c.point) b) where
  -- a claim's weights were added to the rows, where weights were that are the claim's at each row
  pub bound-added : (order place : Order) (at far : List ℕ) (m : ℕ) (old new : List EF) → place ≡ order → length far ≡ m → length c.point ≡ length at + m →
      length new ≡ length old → length old ≡ 2 ^ m →
      ((b : ℕ) → b < length old → entries number new b
      ≡ plus o (entries number old b) (times o (number c.coefficient) (value o (w zs) (joined place at (digits (length far) b))))) →
      AddsRows number o (λ b. scaled_value o (scaled_in number c) (joined order at (digits m b))) old new
  bound-added order place at far m old new same left split size rows_are is = record {
    size = size;
    rows = λ b low.
        let ys = map number c.point in
        let x = number c.coefficient in
        let row = entries number old b in
        let xs = joined order at (digits m b) in
        let long : length xs ≡ length ys = omega (arith, length-joined order at (digits m b), length-digits o ring m b, length-map c.point number, split) in
        is b low
        ∙ ap (λ t. plus o row (times o x (value o (w zs) (joined t at (digits (length far) b))))) same
        ∙ ap (λ n. plus o row (times o x (value o (w zs) (joined order at (digits n b))))) left
        ∙ ap (λ t. plus o row (times o x (value o (w t) xs))) whole
        ∙ ap (λ t. plus o row (times o x t)) (value-same o (w ys) (weight_of o (kind_by c.successor ys)) xs (λ k below. sym (kind k (subst (λ n. k < 2 ^ n) long below))));
  }
