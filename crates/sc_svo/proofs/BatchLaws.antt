-- The grids and the residual tables of a batch.
use mathlib.Core.Path.{fun_ext}
use Rattle.std.proofs.Common.{◌≡◌, ℕ, zero, suc, ◌+◌, ◌-◌, ◌^◌, ◌<◌, ◌≤◌, List, [], ◌∷◌, ◌++◌, length, map, get_or, take, reverse, refl, sym, ◌∙◌, ap, subst, arith}
use Rattle.std.proofs.lemmas.List.{append-nil, length-map, map-append, get_or-map, reverse-append}
use Rattle.std.proofs.lemmas.Nat.{pow_below}
use Rattle.std.proofs.lemmas.List.Elements.{All-append}
use Rattle.std.proofs.lemmas.Grind.{take_at_read}
use Rattle.sc_definitions.specs.Ring.{Ops, IsRing, element, plus, times}
use Rattle.sc_definitions.specs.Tables.{sum_below, inner_product, Order, prefix, suffix, evaluation, entries, rows_of, point_of}
use Rattle.sc_definitions.specs.Statements.{weight_of, true_value}
use Rattle.sc_definitions.specs.Grids.{Digit, digit_zero, infinity, ternary, grid_entry, grid_of, grids_of, place_weight, read_off, read_message}
use Rattle.sc_definitions.specs.Rounds.{honest_message}
use Rattle.sc_definitions.proofs.Sums.{sum-same, element-sum}
use Rattle.sc_field.specs.Products.{products}
use Rattle.sc_definitions.specs.Combined.{Scaled, combined_weight}
use Rattle.sc_definitions.proofs.RingLaws.{plus_comm, plus-zero}
use Rattle.sc_definitions.proofs.Identity.{atom, ◌⊕◌, Agree, identity}
use Rattle.sc_definitions.proofs.GridLaws.{rows-grid_list, grid_entry-sum, grid_entry-zero, IsGrid, grid_of-is, length-grids_of, grids_of-at, grids_of-is, grids_of-honest}
use Rattle.sc_partials.specs.declared.sums.Sums.{Sums}
use Rattle.sc_partials.specs.Sums.{sum_shown, sums_shown, AreSumsSized, AddsWeights}
use Rattle.sc_partials.specs.Partials.{opened}
use Rattle.sc_partials.proofs.SumLaws.{numbers-rows}
use Rattle.sc_svo.specs.declared.grid.Grids.{Grids}
use Rattle.sc_svo.specs.Grids.{grid_shown, grids_shown, AreSized}
use Rattle.sc_svo.specs.declared.claims.SvoClaim.{SvoClaim}
use Rattle.sc_svo.specs.Claims.{kind_by, scaled_in, scaled_weight, claims_in, true_values_of, AreOn, AddsClaim}
use Rattle.sc_svo.proofs.ClaimLaws.{grid_entry-times}

module _ (o : Ops) (ring : IsRing o) where
  -- ---- weights that are added up

  -- one kind more after the others
  pub combined-append : (cs : List Scaled) (c : Scaled) → combined_weight o (cs ++ c ∷ []) ≡ (λ b. plus o (times o c.coefficient (weight_of o c.kind b)) (combined_weight o cs b))
  unfolding combined_weight Agree
  combined-append [] c = refl
  combined-append (d ∷ cs) c = fun_ext (λ b.
      let D = times o d.coefficient (weight_of o d.kind b) in
      let C = times o c.coefficient (weight_of o c.kind b) in
      ap (λ t. plus o D (t b)) (combined-append cs c)
      ∙ identity o ring (D ∷ C ∷ combined_weight o cs b ∷ []) (atom 0 ⊕ (atom 1 ⊕ atom 2)) (atom 1 ⊕ (atom 0 ⊕ atom 2)) tt tt refl)

-- an item of a list that has one at an index
some_item : {X : Type 0} (xs : List X) (j : ℕ) → j < length xs → X
some_item [] j low = absurd (omega (arith, low))
some_item (x ∷ xs) j low = x

module _ {EF : Type 0} (number : EF → ℕ) (o : Ops) (ring : IsRing o) (order : Order) (n : ℕ) (f w : ℕ → ℕ) (l : ℕ) where
  -- ---- grids

  at_round : (xs : List (Sums EF)) (j : ℕ) (d : Sums EF) → sums_shown number xs ≡ grids_of order o n f w l → j < l → sum_shown number (get_or xs j d) ≡ grid_of order o f w j (n - suc j)
  at_round xs j d is low =
      let many : length xs ≡ l = sym (length-map xs (sum_shown number)) ∙ ap length is ∙ length-grids_of order o n f w l in
      sym (get_or-map (sum_shown number) xs j d (sum_shown number d) (subst (λ k. j < k) (sym many) low))
      ∙ ap (λ t. get_or t j (sum_shown number d)) is ∙ grids_of-at order o n f w l j (sum_shown number d) low

  -- the sums that are grids have their lengths
  pub sums-sized : (xs : List (Sums EF)) → sums_shown number xs ≡ grids_of order o n f w l → AreSumsSized xs
  sums-sized xs is j d low =
      let many : length xs ≡ l = sym (length-map xs (sum_shown number)) ∙ ap length is ∙ length-grids_of order o n f w l in
      let here = at_round xs j d is (subst (λ k. j < k) many low) in
      let grid = grid_of-is order o f w j (n - suc j) in
      record {
        zero = sym (length-map (get_or xs j d).zero.items number) ∙ ap (λ (p : List ℕ × List ℕ). length p.0) here ∙ grid.length_nought;
        infinity = sym (length-map (get_or xs j d).infinity.items number) ∙ ap (λ (p : List ℕ × List ℕ). length p.1) here ∙ grid.length_infinity;
      }

  -- there is a grid for each round
  pub count-sums : (xs : List (Sums EF)) → sums_shown number xs ≡ grids_of order o n f w l → length xs ≡ l
  count-sums xs is = sym (length-map xs (sum_shown number)) ∙ ap length is ∙ length-grids_of order o n f w l

  -- with the grids of a claim added, each is the grid with its weights, times its coefficient, added
  gained : (none : Sums EF) (c : Scaled) (u v : ℕ → ℕ) (old new : List (Sums EF)) (zs : List ℕ) → u ≡ (λ b. times o c.coefficient (weight_of o c.kind b)) →
      v ≡ (λ b. plus o (times o c.coefficient (weight_of o c.kind b)) (w b)) → length old ≡ l → length zs ≡ n → sums_shown number old ≡ grids_of order o n f w l →
      AddsWeights number o (opened order f zs) u old new → (j : ℕ) → j < l → IsGrid order o f v j (n - suc j) (get_or (sums_shown number new) j ([], []))
  gained none c u v old new zs u_is v_is many size is gains j low =
      let m = n - suc j in
      let here : j < length old = subst (λ k. j < k) (sym many) low in
      let there : j < length new = subst (λ k. j < k) (sym gains.same) here in
      let before = get_or old j none in
      let after = get_or new j none in
      let added = gains.added j none here in
      let shown : get_or (sums_shown number new) j ([], []) ≡ sum_shown number after = get_or-map (sum_shown number) new j none ([], []) there in
      let old_grid = at_round old j none is low in
      let whole = grid_of-is order o f u j (length zs - suc j) in
      let left : length zs - suc j ≡ m = ap (λ k. k - suc j) size in
      let value_at : (ds : List Digit) (old_value gain : ℕ) → old_value ≡ grid_entry order o f w ds m → gain ≡ grid_entry order o f u ds (length zs - suc j) →
      plus o old_value gain ≡ grid_entry order o f v ds m =
      λ ds old_value gain old_is gain_is.
      let K = weight_of o c.kind in
      ap (λ t. plus o t gain) old_is
      ∙ ap (plus o (grid_entry order o f w ds m)) (gain_is ∙ ap (grid_entry order o f u ds) left ∙ ap (λ t. grid_entry order o f t ds m) u_is ∙ grid_entry-times o ring order c.coefficient f K ds m)
      ∙ plus_comm o ring (grid_entry order o f w ds m) (times o c.coefficient (grid_entry order o f K ds m))
      ∙ sym (grid_entry-sum o ring order c.coefficient f K w ds m)
      ∙ ap (λ t. grid_entry order o f t ds m) (sym v_is) in
      subst (IsGrid order o f v j m) (sym shown) (record {
        length_nought = length-map after.zero.items number ∙ added.sized.zero;
        length_infinity = length-map after.infinity.items number ∙ added.sized.infinity;
        at_nought = λ k k_low. numbers-rows number after.zero.items k ∙ added.zero k k_low
            ∙ value_at (ternary j k ++ digit_zero ∷ []) (entries number before.zero.items k) _
            (sym (numbers-rows number before.zero.items k) ∙ ap (λ (p : List ℕ × List ℕ). rows_of p.0 k) old_grid ∙ rows-grid_list order o f w digit_zero j m k k_low)
            (whole.at_nought k k_low);
        at_infinity = λ k k_low. numbers-rows number after.infinity.items k ∙ added.infinity k k_low
            ∙ value_at (ternary j k ++ infinity ∷ []) (entries number before.infinity.items k) _
            (sym (numbers-rows number before.infinity.items k) ∙ ap (λ (p : List ℕ × List ℕ). rows_of p.1 k) old_grid ∙ rows-grid_list order o f w infinity j m k k_low)
            (whole.at_infinity k k_low);
      })

  -- with a claim added, they are the grids with its weights, times its coefficient, added
  pub claim-gained : (c : SvoClaim EF) (old new : List (Sums EF)) → length c.point ≡ n → sums_shown number old ≡ grids_of order o n f w l →
      AddsClaim number o order f c old new →
      sums_shown number new ≡ grids_of order o n f (λ b. plus o (times o (number c.coefficient) (weight_of o (scaled_in number c).kind b)) (w b)) l
  claim-gained c old new arity is gains =
      let many : length old ≡ l = count-sums old is in
      let v : ℕ → ℕ = λ b. plus o (times o (number c.coefficient) (weight_of o (scaled_in number c).kind b)) (w b) in
      grids_of-is order o n f v l (sums_shown number new) ([], []) (length-map new (sum_shown number) ∙ gains.same ∙ many)
      (λ j low. gained (some_item old j (subst (λ k. j < k) (sym many) low)) (scaled_in number c) (scaled_weight o (scaled_in number c)) v old new (map number c.point)
      refl refl many (length-map c.point number ∙ arity) is gains j low)

  entry-element : (u : ℕ → ℕ) (ds : List Digit) (m : ℕ) → element o (grid_entry order o f u ds m) ≡ grid_entry order o f u ds m
  unfolding grid_entry inner_product
  entry-element u ds m = element-sum o ring (2 ^ m) _

  -- with the grids of weights added to those of none, they are the grids of these weights
  pub weights-gained : (u : ℕ → ℕ) (old new : List (Sums EF)) (zs : List ℕ) → w ≡ (λ b. 0) → length zs ≡ n → sums_shown number old ≡ grids_of order o n f w l →
      AddsWeights number o (opened order f zs) u old new → sums_shown number new ≡ grids_of order o n f u l
  weights-gained u old new zs none size is gains =
      let many : length old ≡ l = count-sums old is in
      grids_of-is order o n f u l (sums_shown number new) ([], []) (length-map new (sum_shown number) ∙ gains.same ∙ many) (λ j low.
      let m = n - suc j in
      let here : j < length old = subst (λ k. j < k) (sym many) low in
      let there : j < length new = subst (λ k. j < k) (sym gains.same) here in
      let item = some_item old j here in
      let before = get_or old j item in
      let after = get_or new j item in
      let added = gains.added j item here in
      let shown : get_or (sums_shown number new) j ([], []) ≡ sum_shown number after = get_or-map (sum_shown number) new j item ([], []) there in
      let old_grid = at_round old j item is low in
      let whole = grid_of-is order o f u j (length zs - suc j) in
      let left : length zs - suc j ≡ m = ap (λ k. k - suc j) size in
      let value_at : (ds : List Digit) (old_value gain : ℕ) → old_value ≡ grid_entry order o f w ds m → gain ≡ grid_entry order o f u ds (length zs - suc j) →
      plus o old_value gain ≡ grid_entry order o f u ds m =
      λ ds old_value gain old_is gain_is.
      let E = grid_entry order o f u ds m in
      ap (λ t. plus o t gain) (old_is ∙ ap (λ t. grid_entry order o f t ds m) none ∙ grid_entry-zero o ring order f ds m)
      ∙ ap (plus o 0) (gain_is ∙ ap (grid_entry order o f u ds) left)
      ∙ plus_comm o ring 0 E ∙ plus-zero o ring E ∙ entry-element u ds m in
      subst (IsGrid order o f u j m) (sym shown) (record {
        length_nought = length-map after.zero.items number ∙ added.sized.zero;
        length_infinity = length-map after.infinity.items number ∙ added.sized.infinity;
        at_nought = λ k k_low. numbers-rows number after.zero.items k ∙ added.zero k k_low
            ∙ value_at (ternary j k ++ digit_zero ∷ []) (entries number before.zero.items k) _
            (sym (numbers-rows number before.zero.items k) ∙ ap (λ (p : List ℕ × List ℕ). rows_of p.0 k) old_grid ∙ rows-grid_list order o f w digit_zero j m k k_low)
            (whole.at_nought k k_low);
        at_infinity = λ k k_low. numbers-rows number after.infinity.items k ∙ added.infinity k k_low
            ∙ value_at (ternary j k ++ infinity ∷ []) (entries number before.infinity.items k) _
            (sym (numbers-rows number before.infinity.items k) ∙ ap (λ (p : List ℕ × List ℕ). rows_of p.1 k) old_grid ∙ rows-grid_list order o f w infinity j m k k_low)
            (whole.at_infinity k k_low);
      }))

-- ---- the claims that were gone through

-- one claim more
pub claims-next : {EF : Type 0} (number : EF → ℕ) (claims : List (SvoClaim EF)) (i : ℕ) (c : SvoClaim EF) → i < length claims → c ≡ get_or claims i c →
    claims_in number (take (i + 1) claims) ≡ claims_in number (take i claims) ++ scaled_in number c ∷ []
claims-next number claims i c low read =
    ap (claims_in number) ((take_at_read claims i c low).1 ∙ ap (λ t. take i claims ++ t ∷ []) (sym read)) ∙ map-append (scaled_in number) (take i claims) (c ∷ [])

module _ {EF : Type 0} (number : EF → ℕ) (o : Ops) (ring : IsRing o) (order : Order) (n : ℕ) (f : ℕ → ℕ) (l : ℕ) (claims : List (SvoClaim EF)) where
  no_weights : combined_weight o [] ≡ (λ b. 0)
  unfolding combined_weight
  no_weights = refl

  -- no claim was added yet
  pub gathered-none : (sums : List (Sums EF)) → sums_shown number sums ≡ grids_of order o n f (λ b. 0) l →
      sums_shown number sums ≡ grids_of order o n f (combined_weight o (claims_in number (take 0 claims))) l
  gathered-none sums zeros = zeros ∙ ap (λ t. grids_of order o n f t l) (sym no_weights)

  -- one claim more
  pub gathered-more : (i : ℕ) (c : SvoClaim EF) (sums new : List (Sums EF)) → i < length claims → c ≡ get_or claims i c → length c.point ≡ n →
      sums_shown number sums ≡ grids_of order o n f (combined_weight o (claims_in number (take i claims))) l → AddsClaim number o order f c sums new →
      sums_shown number new ≡ grids_of order o n f (combined_weight o (claims_in number (take (i + 1) claims))) l
  gathered-more i c sums new low read arity so_far gains =
      let so = claims_in number (take i claims) in
      claim-gained number o ring order n f (combined_weight o so) l c sums new arity so_far gains
      ∙ ap (λ t. grids_of order o n f t l) (sym (ap (combined_weight o) (claims-next number claims i c low read) ∙ combined-append o ring so (scaled_in number c)))

  -- no value was answered yet
  pub valued-none : (xs : List EF) → xs ≡ [] → map number xs ≡ true_values_of o n f (claims_in number (take 0 claims))
  valued-none xs none = ap (map number) none

  -- one value more is that of one claim more
  pub valued-more : (i : ℕ) (c : SvoClaim EF) (xs more : List EF) (x : EF) → i < length claims → c ≡ get_or claims i c →
      map number xs ≡ true_values_of o n f (claims_in number (take i claims)) → number x ≡ true_value o n f (scaled_in number c).kind → more ≡ xs ++ x ∷ [] →
      map number more ≡ true_values_of o n f (claims_in number (take (i + 1) claims))
  valued-more i c xs more x low read so_far value is =
      ap (map number) is ∙ map-append number xs (x ∷ [])
      ∙ ap (λ t. t ++ number x ∷ []) so_far ∙ ap (λ t. true_values_of o n f (claims_in number (take i claims)) ++ t ∷ []) value
      ∙ sym (map-append (λ (k : Scaled). true_value o n f k.kind) (claims_in number (take i claims)) (scaled_in number c ∷ []))
      ∙ ap (true_values_of o n f) (sym (claims-next number claims i c low read))

-- a claim at a point of n coordinates
abbrev IsOn : {EF : Type 0} → ℕ → SvoClaim EF → Type 0
IsOn n c = length c.point ≡ n

one_on : {EF : Type 0} (n : ℕ) (c : SvoClaim EF) → IsOn n c → AreOn n (c ∷ [])
one_on n c is zero d low = is
one_on n c is (suc k) d low = absurd (omega (arith, low))

-- all claims are at points of so many coordinates, so far
pub on-more : {EF : Type 0} (n : ℕ) (xs more : List (SvoClaim EF)) (c : SvoClaim EF) → AreOn n xs → length c.point ≡ n → more ≡ xs ++ c ∷ [] → AreOn n more
on-more n xs more c all is added = subst (AreOn n) (sym added) (All-append (IsOn n) xs (c ∷ []) all (one_on n c is))

-- a claim that was read is at a point of as many coordinates
pub read_on : {EF : Type 0} (n : ℕ) (claims : List (SvoClaim EF)) (i : ℕ) (c : SvoClaim EF) → AreOn n claims → i < length claims → c ≡ get_or claims i c → length c.point ≡ n
read_on n claims i c all low is = subst (IsOn n) (sym is) (all i c low)

-- no claims are
pub none_on : {EF : Type 0} (n : ℕ) (claims : List (SvoClaim EF)) → claims ≡ [] → AreOn n claims
none_on n claims none = subst (AreOn n) (sym none) (λ i x low. absurd (omega (arith, low)))

-- one copy more is one claim more
pub copied-more : {EF : Type 0} (number : EF → ℕ) (claims copies more : List (SvoClaim EF)) (i : ℕ) (c copy : SvoClaim EF) → i < length claims → c ≡ get_or claims i c →
    claims_in number copies ≡ claims_in number (take i claims) → scaled_in number copy ≡ scaled_in number c → more ≡ copies ++ copy ∷ [] →
    claims_in number more ≡ claims_in number (take (i + 1) claims)
copied-more number claims copies more i c copy low read so_far same is =
    ap (claims_in number) is ∙ map-append (scaled_in number) copies (copy ∷ [])
    ∙ ap (λ t. t ++ scaled_in number copy ∷ []) so_far ∙ ap (λ t. claims_in number (take i claims) ++ t ∷ []) same
    ∙ sym (claims-next number claims i c low read)

-- a copy of a claim says the same
pub copy_same : {EF : Type 0} (number : EF → ℕ) (copy c : SvoClaim EF) → copy.point ≡ c.point → copy.successor ≡ c.successor → copy.coefficient ≡ c.coefficient →
    scaled_in number copy ≡ scaled_in number c
copy_same number copy c point successor coefficient =
    ap (λ t. record { kind = kind_by copy.successor (map number t); coefficient = number copy.coefficient }) point
    ∙ ap (λ t. record { kind = kind_by t (map number c.point); coefficient = number copy.coefficient }) successor
    ∙ ap (λ t. record { kind = kind_by c.successor (map number c.point); coefficient = number t }) coefficient

-- a table of 2^40 rows at most has a length that fits
pub rows_fit : (n rows : ℕ) → n ≤ 40 → rows ≡ 2 ^ n → rows < 18446744073709551616
rows_fit n rows few is = subst (λ k. k < 18446744073709551616) (sym is) (pow_below n 64 (omega (arith, few)))

-- ---- a batch that was made

-- the grids that sums became have the lengths of grids
pub grids-sized : {EF : Type 0} (number : EF → ℕ) (o : Ops) (ring : IsRing o) (order : Order) (n : ℕ) (f w : ℕ → ℕ) (l : ℕ) (gs : Grids EF) →
    grids_shown number gs ≡ grids_of order o n f w l → AreSized gs
grids-sized number o ring order n f w l gs is j d low =
    let many : length gs.rounds ≡ l = sym (length-map gs.rounds (grid_shown number)) ∙ ap length is ∙ length-grids_of order o n f w l in
    let within : j < l = subst (λ k. j < k) many low in
    let here : grid_shown number (get_or gs.rounds j d) ≡ grid_of order o f w j (n - suc j) =
    sym (get_or-map (grid_shown number) gs.rounds j d (grid_shown number d) low)
    ∙ ap (λ t. get_or t j (grid_shown number d)) is ∙ grids_of-at order o n f w l j (grid_shown number d) within in
    let grid = grid_of-is order o f w j (n - suc j) in
    record {
      zero = sym (length-map (get_or gs.rounds j d).zero number) ∙ ap (λ (p : List ℕ × List ℕ). length p.0) here ∙ grid.length_nought;
      infinity = sym (length-map (get_or gs.rounds j d).infinity number) ∙ ap (λ (p : List ℕ × List ℕ). length p.1) here ∙ grid.length_infinity;
    }

-- and there is one for each round
pub count-grids : {EF : Type 0} (number : EF → ℕ) (o : Ops) (order : Order) (n : ℕ) (f w : ℕ → ℕ) (l : ℕ) (gs : Grids EF) →
    grids_shown number gs ≡ grids_of order o n f w l → length gs.rounds ≡ l
count-grids number o order n f w l gs is = sym (length-map gs.rounds (grid_shown number)) ∙ ap length is ∙ length-grids_of order o n f w l

-- the same grids, by other names of all that they are of
pub grids-as : (order : Order) (o : Ops) (n n' : ℕ) (f f' : ℕ → ℕ) (cs cs' : List Scaled) (l l' : ℕ) (gs : List (List ℕ × List ℕ)) → n ≡ n' → f ≡ f' → cs' ≡ cs → l' ≡ l →
    gs ≡ grids_of order o n f (combined_weight o cs) l → gs ≡ grids_of order o n' f' (combined_weight o cs') l'
grids-as order o n n' f f' cs cs' l l' gs n_is f_is cs_is l_is is =
    is ∙ ap (λ k. grids_of order o k f (combined_weight o cs) l) n_is
    ∙ ap (λ t. grids_of order o n' t (combined_weight o cs) l) f_is
    ∙ ap (λ t. grids_of order o n' f' (combined_weight o t) l) (sym cs_is)
    ∙ ap (grids_of order o n' f' (combined_weight o cs')) (sym l_is)

-- the same values, by other names of what they are of
pub values-as : (o : Ops) (n n' : ℕ) (f f' : ℕ → ℕ) (cs : List Scaled) (xs : List ℕ) → n ≡ n' → f ≡ f' → xs ≡ true_values_of o n f cs → xs ≡ true_values_of o n' f' cs
values-as o n n' f f' cs xs n_is f_is is = is ∙ ap (λ k. true_values_of o k f cs) n_is ∙ ap (λ t. true_values_of o n' t cs) f_is

-- ---- messages

-- the sum of a list's products with the weights of places is what is read off it
pub products-read : {EF : Type 0} (number : EF → ℕ) (o : Ops) (xs ys : List EF) (rs : List ℕ) → length xs ≡ 3 ^ length rs →
    ((k : ℕ) → k < 3 ^ length rs → entries number ys k ≡ place_weight o rs k) → products o (length xs) (entries number xs) (entries number ys) ≡ read_off o (map number xs) rs
unfolding products read_off
products-read number o xs ys rs size weights =
    ap (λ n. sum_below o n (λ k. times o (entries number xs k) (entries number ys k))) size
    ∙ sum-same o (3 ^ length rs) _ (λ k. times o (rows_of (map number xs) k) (place_weight o rs k))
    (λ k low. ap (times o (entries number xs k)) (weights k low) ∙ ap (λ t. times o t (place_weight o rs k)) (sym (numbers-rows number xs k)))

-- what is read off a grid's two lists is its message
pub message-read : (o : Ops) (grid shown : List ℕ × List ℕ) (rs : List ℕ) (x y : ℕ) → shown ≡ grid → x ≡ read_off o grid.0 rs → y ≡ read_off o grid.1 rs →
    x ∷ y ∷ [] ≡ read_message o shown rs
unfolding read_message
message-read o grid shown rs x y same first second = cc (first, second, ap (λ (p : List ℕ × List ℕ). read_off o p.0 rs) same, ap (λ (p : List ℕ × List ℕ). read_off o p.1 rs) same)

-- what is read off a grid that is one of a table's is what an honest round sends
pub read-honest : (o : Ops) → IsRing o → (order : Order) (n : ℕ) (f w : ℕ → ℕ) (l : ℕ) (gs : List (List ℕ × List ℕ)) (d : List ℕ × List ℕ) (rs : List ℕ) (j : ℕ) →
    gs ≡ grids_of order o n f w l → j < l → length rs ≡ j → read_message o (get_or gs j d) rs ≡ honest_message evaluation order o f w rs (n - suc (length rs))
read-honest o ring order n f w l gs d rs j is low count =
    ap (λ t. read_message o (get_or t j d) rs) is
    ∙ grids_of-honest o ring order n f w l j d rs low count
    ∙ ap (λ k. honest_message evaluation order o f w rs (n - suc k)) (sym count)

-- ---- the point that challenges make

-- in prefix order, challenges are the point that they make
pub point-forward : (order : Order) (rs : List ℕ) → order ≡ prefix → rs ≡ point_of order rs
point-forward order rs is = subst (λ t. rs ≡ point_of t rs) (sym is) (sym (append-nil rs))

-- in suffix order, turned around, they are
pub point-backward : (order : Order) (rs : List ℕ) → order ≡ suffix → reverse rs ≡ point_of order rs
point-backward order rs is = subst (λ t. reverse rs ≡ point_of t rs) (sym is) refl

-- the numbers of a list that is turned around
pub map-reverse : {X : Type 0} (number : X → ℕ) (xs : List X) → map number (reverse xs) ≡ reverse (map number xs)
map-reverse number [] = refl
map-reverse number (x ∷ xs) =
    ap (map number) (reverse-append (x ∷ []) xs) ∙ map-append number (reverse xs) (x ∷ []) ∙ ap (λ t. t ++ number x ∷ []) (map-reverse number xs)
    ∙ sym (reverse-append (number x ∷ []) (map number xs))
