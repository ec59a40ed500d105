-- Partial tables, from one that keeps some variables to those that keep fewer.
use Rattle.std.proofs.Common.{◌≡◌, ℕ, suc, ◌+◌, ◌-◌, ◌^◌, ◌<◌, List, [], ◌∷◌, ◌++◌, length, map, get_or, sym, ◌∙◌, ap, subst, arith, append_assoc, length-append}
use Rattle.std.proofs.Math.Seq.{get_or-append_seam}
use Rattle.std.proofs.lemmas.List.{append-nil, length-map, map-append, get_or-map}
use Rattle.sc_definitions.specs.Ring.{Ops, IsRing}
use Rattle.sc_definitions.specs.Tables.{Order, prefix, suffix, evaluation, entries, rows_of, value, folded_in}
use Rattle.sc_definitions.specs.Partials.{partial, partials_of}
use Rattle.sc_definitions.specs.ProverStates.{entries_of}
use Rattle.sc_definitions.proofs.Lengths.{pow-same}
use Rattle.sc_definitions.proofs.PlayedLaws.{folded_in-same}
use Rattle.sc_definitions.proofs.ProverStateLaws.{entries-is, length-entries_of, rows-entries_of}
use Rattle.sc_definitions.proofs.PartialLaws.{partial-step_prefix, partial-step_suffix, partial-none, length-partials_of, partials_of-at, partials_of-none, partials_of-more}
use Rattle.sc_table.specs.declared.poly.Poly.{Poly}
use Rattle.sc_table.specs.Polys.{variables_of, table_of, IsFixedOf}
use Rattle.sc_partials.specs.declared.partials.EqPartials.{EqPartials}
use Rattle.sc_partials.specs.declared.partials.EqSvoPartials.{EqSvoPartials}
use Rattle.sc_partials.specs.Partials.{numbers_in, rounds_in, other_order, joined, tables_in, IsPartial, LastOf, opened, Leaves, PartialSums, partial_sums_in, partial_sums_of}

module _ {EF : Type 0} (o : Ops) (ring : IsRing o) (number : EF → ℕ) (f : ℕ → ℕ) (zs : List ℕ) where
  step : (order : Order) (kept rest others : List ℕ) (z : ℕ) → LastOf order kept z rest → zs ≡ joined order kept others → (a : ℕ) → a < 2 ^ length rest →
      partial order o f zs (length rest) a ≡ folded_in evaluation (other_order order) o (length rest) z (partial order o f zs (length kept)) a
  step prefix kept rest others z last whole a low =
      let split : zs ≡ rest ++ z ∷ others = whole ∙ ap (λ t. t ++ others) last ∙ append_assoc rest (z ∷ []) others in
      let size : length kept ≡ suc (length rest) = ap length last ∙ length-append rest (z ∷ []) ∙ omega arith in
      let long : length zs ≡ length rest + suc (length others) = ap length split ∙ length-append rest (z ∷ others) in
      let at : z ≡ get_or zs (length rest) z = sym (ap (λ t. get_or t (length rest) z) split ∙ get_or-append_seam rest z others z) in
      partial-step_prefix o ring f zs (length rest) z a (omega (arith, long)) at
      ∙ ap (λ n. folded_in evaluation suffix o (length rest) z (partial prefix o f zs n) a) (sym size)
  step suffix kept rest others z last whole a low =
      let split : zs ≡ others ++ z ∷ rest = whole ∙ ap (λ t. others ++ t) last in
      let size : length kept ≡ suc (length rest) = ap length last in
      let long : length zs ≡ length others + suc (length rest) = ap length split ∙ length-append others (z ∷ rest) in
      let there : length zs - suc (length rest) ≡ length others = omega (arith, long) in
      let at : z ≡ get_or zs (length zs - suc (length rest)) z = sym (ap (λ t. get_or zs t z) there ∙ ap (λ t. get_or t (length others) z) split ∙ get_or-append_seam others z rest z) in
      partial-step_suffix o ring f zs (length rest) z a (omega (arith, long)) at
      ∙ ap (λ n. folded_in evaluation prefix o (length rest) z (partial suffix o f zs n) a) (sym size)

  pub others_more : (order : Order) → List ℕ → ℕ → List ℕ
  others_more prefix others z = z ∷ others
  others_more suffix others z = others ++ z ∷ []

  pub whole_more : (order : Order) (kept rest others : List ℕ) (z : ℕ) → LastOf order kept z rest → zs ≡ joined order kept others → zs ≡ joined order rest (others_more order others z)
  unfolding others_more
  whole_more prefix kept rest others z last whole = whole ∙ ap (λ t. t ++ others) last ∙ append_assoc rest (z ∷ []) others
  whole_more suffix kept rest others z last whole = whole ∙ ap (λ t. others ++ t) last ∙ sym (append_assoc others (z ∷ []) rest)

  pub size_more : (order : Order) (kept rest : List ℕ) (z : ℕ) → LastOf order kept z rest → length kept ≡ suc (length rest)
  size_more prefix kept rest z last = ap length last ∙ length-append rest (z ∷ []) ∙ omega arith
  size_more suffix kept rest z last = ap length last

  -- bound at the coordinate of its last variable, a partial table is the one that keeps one less
  pub partial-fewer : (order : Order) (kept rest : List ℕ) (z : ℕ) (p q : Poly EF) → LastOf order kept z rest → IsPartial order o number f zs kept p →
      IsFixedOf (other_order order) o number z (table_of number p) (2 ^ variables_of p) q → IsPartial order o number f zs rest q
  partial-fewer order kept rest z p q last is fixed =
      let size = size_more order kept rest z last in
      let more : variables_of p ≡ variables_of q + 1 = pow-same (variables_of p) (variables_of q + 1) fixed.fewer in
      let few : variables_of q ≡ length rest = omega (arith, more, is.variables, size) in
      record {
        others = others_more order is.others z;
        whole = whole_more order kept rest is.others z last is.whole;
        variables = few;
        rows = λ a low.
            let there : a < 2 ^ variables_of q = subst (λ n. a < 2 ^ n) (sym few) low in
            fixed.rows_are a there
            ∙ ap (λ n. folded_in evaluation (other_order order) o n z (table_of number p) a) few
            ∙ folded_in-same evaluation (other_order order) o (length rest) z a (table_of number p) (partial order o f zs (length kept)) low
            (λ k small. is.rows k (subst (λ n. k < 2 ^ n) (sym size) small))
            ∙ sym (step order kept rest is.others z last is.whole a low);
      }

  numbers_are : (order : Order) (kept : List ℕ) (l : ℕ) (p : EqPartials EF) → length kept ≡ l → IsPartial order o number f zs kept p.table →
      numbers_in number p ≡ entries_of l (partial order o f zs l)
  numbers_are order kept l p size is =
      let here : variables_of p.table ≡ l = is.variables ∙ size in
      entries-is l (numbers_in number p) (partial order o f zs l) (length-entries_of (variables_of p.table) _ ∙ ap (λ n. 2 ^ n) here)
      (λ b low. rows-entries_of (variables_of p.table) _ b (subst (λ n. b < 2 ^ n) (sym here) low)
      ∙ is.rows b (subst (λ n. b < 2 ^ n) (sym size) low) ∙ ap (λ n. partial order o f zs n b) size)

  -- no variable is kept: the one entry is the value
  pub leaves-none : (order : Order) (kept : List ℕ) (p : Poly EF) (rounds : List (EqPartials EF)) (x : EF) → kept ≡ [] → IsPartial order o number f zs kept p →
      number x ≡ table_of number p 0 → Leaves o number (opened order f zs) (length kept) rounds rounds x
  leaves-none order kept p rounds x none is read =
      let size : length kept ≡ 0 = ap length none in
      record {
        rounds = sym (ap (λ n. rounds_in number rounds ++ partials_of order o f zs n) size
            ∙ ap (λ t. rounds_in number rounds ++ t) (partials_of-none order o f zs) ∙ append-nil (rounds_in number rounds));
        sum = read ∙ is.rows 0 (subst (λ n. 0 < 2 ^ n) (sym size) (omega arith)) ∙ ap (λ n. partial order o f zs n 0) size ∙ partial-none o ring order f zs;
      }

  -- one table more stands after those that keep fewer variables
  pub leaves-more : (order : Order) (kept rest : List ℕ) (z : ℕ) (p : EqPartials EF) (old less new : List (EqPartials EF)) (x : EF) → LastOf order kept z rest →
      IsPartial order o number f zs kept p.table → Leaves o number (opened order f zs) (length rest) old less x → new ≡ less ++ p ∷ [] →
      Leaves o number (opened order f zs) (length kept) old new x
  leaves-more order kept rest z p old less new x last is before more =
      let size = size_more order kept rest z last in
      record {
        rounds = ap (rounds_in number) more ∙ map-append (numbers_in number) less (p ∷ [])
            ∙ ap (λ t. t ++ numbers_in number p ∷ []) before.rounds
            ∙ append_assoc (rounds_in number old) (partials_of order o f zs (length rest)) (numbers_in number p ∷ [])
            ∙ ap (λ t. rounds_in number old ++ (partials_of order o f zs (length rest) ++ t ∷ [])) (numbers_are order kept (suc (length rest)) p size is)
            ∙ ap (λ t. rounds_in number old ++ t) (sym (partials_of-more order o f zs (length rest)))
            ∙ ap (λ n. rounds_in number old ++ partials_of order o f zs n) (sym size);
        sum = before.sum;
      }

-- the same of the coordinates' numbers
pub last-numbers : {X : Type 0} (number : X → ℕ) (order : Order) (kept : List X) (z : X) (rest : List X) → LastOf order kept z rest →
    LastOf order (map number kept) (number z) (map number rest)
last-numbers number prefix kept z rest last = ap (map number) last ∙ map-append number rest (z ∷ [])
last-numbers number suffix kept z rest last = ap (map number) last

-- with one variable less, a table has as many as there are others
pub size_fewer : {X : Type 0} (order : Order) (kept : List X) (z : X) (rest : List X) (n m : ℕ) → LastOf order kept z rest → n ≡ length kept → 2 ^ n ≡ 2 ^ (m + 1) →
    m ≡ length rest
size_fewer prefix kept z rest n m last is fixed =
    let more = pow-same n (m + 1) fixed in
    let size = ap length last ∙ length-append rest (z ∷ []) in
    omega (arith, more, is, size)
size_fewer suffix kept z rest n m last is fixed =
    let more = pow-same n (m + 1) fixed in
    let size = ap length last in
    omega (arith, more, is, size)

-- a variable is kept, where there is a last one
pub some_kept : {X : Type 0} (order : Order) (kept : List X) (z : X) (rest : List X) → LastOf order kept z rest → length rest < length kept
some_kept prefix kept z rest last = let size = ap length last ∙ length-append rest (z ∷ []) in omega (arith, size)
some_kept suffix kept z rest last = let size = ap length last in omega (arith, size)

-- the numbers of a slice are the entries of its table
pub slice-numbers : {X : Type 0} (number : X → ℕ) (xs : List X) (n : ℕ) (f : ℕ → ℕ) → length xs ≡ 2 ^ n → entries number xs ≡ f → map number xs ≡ entries_of n f
unfolding entries rows_of
slice-numbers number xs n f size is = entries-is n (map number xs) f (length-map xs number ∙ size) (λ b low. ap (λ t. t b) is)

-- a value and partial tables that stand after none
pub sums-are : {EF : Type 0} (order : Order) (o : Ops) (number : EF → ℕ) (f : ℕ → ℕ) (zs : List ℕ) (l m : ℕ) (none rounds : List (EqPartials EF)) (x : EF) (r : EF × EqSvoPartials EF) →
    none ≡ [] → l ≡ m → Leaves o number (opened order f zs) l none rounds x → r.0 ≡ x → tables_in r.1 ≡ rounds → partial_sums_in number r ≡ partial_sums_of order o f zs m
unfolding partial_sums_of
sums-are order o number f zs l m none rounds x r empty same is value_is rounds_are =
    ap (λ y. record { value = y; rounds = rounds_in number (tables_in r.1) }) (ap number value_is ∙ is.sum)
    ∙ ap (λ ys. record { value = value o f zs; rounds = ys }) (ap (rounds_in number) rounds_are ∙ is.rounds
    ∙ ap (λ t. rounds_in number t ++ partials_of order o f zs l) empty ∙ ap (partials_of order o f zs) same)

-- as many partial tables as rounds, each that of its round
module _ {EF : Type 0} (order : Order) (o : Ops) (number : EF → ℕ) (f : ℕ → ℕ) (zs : List ℕ) (l : ℕ) (r : EF × EqSvoPartials EF) (is : partial_sums_in number r ≡ partial_sums_of order o f zs l) where
  rounds_are : rounds_in number (tables_in r.1) ≡ partials_of order o f zs l
  unfolding partial_sums_of
  rounds_are = ap (λ (s : PartialSums). s.rounds) is

  pub count-rounds : length (tables_in r.1) ≡ l
  count-rounds = sym (length-map (tables_in r.1) (numbers_in number)) ∙ ap length rounds_are ∙ length-partials_of order o f zs l

  pub round-table : (j : ℕ) (q : EqPartials EF) → j < l → q ≡ get_or (tables_in r.1) j q → numbers_in number q ≡ entries_of (suc j) (partial order o f zs (suc j))
  round-table j q low read =
      let d = numbers_in number q in
      ap (numbers_in number) read
      ∙ sym (get_or-map (numbers_in number) (tables_in r.1) j q d (subst (λ n. j < n) (sym count-rounds) low))
      ∙ ap (λ t. get_or t j d) rounds_are
      ∙ partials_of-at order o f zs l j d low

-- the entries of numbers that are those of a table
pub entries-of_numbers : {X : Type 0} (number : X → ℕ) (xs : List X) (n : ℕ) (f : ℕ → ℕ) (b : ℕ) → map number xs ≡ entries_of n f → b < 2 ^ n → entries number xs b ≡ f b
unfolding entries rows_of
entries-of_numbers number xs n f b is low = ap (λ t. rows_of t b) is ∙ rows-entries_of n f b low

pub length-numbers : {X : Type 0} (number : X → ℕ) (xs : List X) (n : ℕ) (f : ℕ → ℕ) → map number xs ≡ entries_of n f → length xs ≡ 2 ^ n
length-numbers number xs n f is = sym (length-map xs number) ∙ ap length is ∙ length-entries_of n f

-- one more variable is kept than there are others
pub size_kept : {X : Type 0} (order : Order) (kept : List X) (z : X) (rest : List X) → LastOf order kept z rest → length kept ≡ suc (length rest)
size_kept prefix kept z rest last = let size = ap length last ∙ length-append rest (z ∷ []) in omega (arith, size)
size_kept suffix kept z rest last = ap length last
