-- The three tables of a successor, from those that keep some variables to those that keep fewer.
use Rattle.std.proofs.Common.{◌≡◌, ℕ, suc, ◌+◌, ◌-◌, ◌*◌, ◌/◌, ◌^◌, ◌<◌, ◌≤◌, zero, take, length-take-le, List, [], ◌∷◌, ◌++◌, length, get_or, set, true, false, ⊎_elim, refl, sym, ◌∙◌, ap, subst, arith, append_assoc, length-append}
use Rattle.std.proofs.Math.Seq.{get_or-append_seam}
use Rattle.std.proofs.lemmas.List.{append-nil, length-map, map-append, get_or-map}
use Rattle.std.proofs.lemmas.Nat.{pow_pos}
use Rattle.sc_definitions.specs.Ring.{Ops, IsRing, plus, times, minus}
use Rattle.std.proofs.lemmas.Bool.{cases_eq}
use Rattle.sc_definitions.specs.Tables.{Order, prefix, suffix, evaluation, equality_weight, entries, inner_product, folded_in}
use Rattle.sc_definitions.specs.Shifts.{shifted, only_at}
use Rattle.sc_definitions.proofs.Lengths.{pow-same}
use Rattle.sc_definitions.proofs.TableLaws.{two_halves}
use Rattle.sc_definitions.proofs.SuccessorLaws.{shifted-zero, shifted-suc, only_at-here, only_at-elsewhere}
use Rattle.sc_table.proofs.EntryLaws.{entry-read, entry-take, entry-append_left, entry-append_right, entry-set_same, entry-set_other}
use Rattle.sc_table.proofs.SliceLaws.{HasPushed}
use Rattle.sc_definitions.specs.Statements.{successor_weight}
use Rattle.sc_definitions.specs.Parts.{Part, Equal, Carry, Done, Omega, part_weight, closing, next_partial, tables_by, next_partials_of}
use Rattle.sc_definitions.specs.ProverStates.{entries_of}
use Rattle.sc_definitions.proofs.RingLaws.{plus_comm, times_comm, times-one, times-zero}
use Rattle.sc_definitions.proofs.PartLaws.{part-equal, carry-zero, carry-suc, omega-last, omega-before, done-zero, done-suc, element-part}
use Rattle.sc_definitions.proofs.PlayedLaws.{folded_in-same}
use Rattle.sc_definitions.proofs.ProverStateLaws.{entries-is, length-entries_of, rows-entries_of}
use Rattle.sc_definitions.proofs.NextPartialLaws.{next_partial-none, length-next_partials_of, next_partials_of-at, next_partials_of-none, next_partials_of-more}
use Rattle.sc_definitions.proofs.NextPartialSteps.{done-step_prefix, carry-step_prefix, omega-step_prefix, done-step_suffix, carry-step_suffix, omega-step_suffix}
use Rattle.sc_table.specs.declared.poly.Poly.{Poly}
use Rattle.sc_table.specs.Polys.{variables_of, table_of, IsFixedOf}
use Rattle.sc_partials.specs.declared.next_partials.NextPartials.{NextPartials}
use Rattle.sc_partials.specs.declared.next_partials.NextSvoPartials.{NextSvoPartials}
use Rattle.sc_partials.specs.Partials.{joined, other_order, LastOf, opened}
use Rattle.sc_partials.specs.NextPartials.{poly_numbers, parts_in, next_tables_in, next_rounds_in, NextSums, next_sums_of, next_sums_in, HasRows, AreOf, HaveRows, AreNextPartials, NextLeaves, rows_by, half_row, part_fewer, closing_sum}
use Rattle.sc_partials.proofs.PartialTables as tables

-- ---- tables by their entries

module _ {EF : Type 0} (number : EF → ℕ) where
  -- a table that has entries is the list of these
  pub poly-is : (n : ℕ) (f : ℕ → ℕ) (p : Poly EF) → HasRows number n f p → poly_numbers number p ≡ entries_of n f
  poly-is n f p has =
      entries-is n (poly_numbers number p) f (length-entries_of (variables_of p) _ ∙ ap (λ k. 2 ^ k) has.variables)
      (λ b low. rows-entries_of (variables_of p) _ b (subst (λ k. b < 2 ^ k) (sym has.variables) low) ∙ has.rows b low)

  -- three tables that have entries are the lists of these
  pub parts-are : (n : ℕ) (of : Part → ℕ → ℕ) (p : NextPartials EF) → HaveRows number n of p → parts_in number p ≡ tables_by n of
  parts-are n of p has = λ i. record {
    done = poly-is n (of Done) p.done has.done i;
    carry = poly-is n (of Carry) p.carry has.carry i;
    omega = poly-is n (of Omega) p.omega has.omega i;
  }

  -- the entries may be said by others that agree
  pub rows-as : (n : ℕ) (f h : ℕ → ℕ) (p : Poly EF) → ((a : ℕ) → a < 2 ^ n → f a ≡ h a) → HasRows number n f p → HasRows number n h p
  rows-as n f h p same has = record { variables = has.variables; rows = λ a low. has.rows a low ∙ same a low }

  pub have-as : (n : ℕ) (of more : Part → ℕ → ℕ) (p : NextPartials EF) → ((part : Part) (a : ℕ) → a < 2 ^ n → of part a ≡ more part a) → HaveRows number n of p → HaveRows number n more p
  have-as n of more p same has = record {
    done = rows-as n (of Done) (more Done) p.done (same Done) has.done;
    carry = rows-as n (of Carry) (more Carry) p.carry (same Carry) has.carry;
    omega = rows-as n (of Omega) (more Omega) p.omega (same Omega) has.omega;
  }

  -- such tables have so many variables
  pub have-of : (n : ℕ) (of : Part → ℕ → ℕ) (p : NextPartials EF) → HaveRows number n of p → AreOf n p
  have-of n of p has = record { done = has.done.variables; carry = has.carry.variables; omega = has.omega.variables }

  -- the entries of each part's table
  pub rows-by : (n : ℕ) (of : Part → ℕ → ℕ) (p : NextPartials EF) → HaveRows number n of p → (a : ℕ) → a < 2 ^ n →
      (rows_by number p Done a ≡ of Done a) × (rows_by number p Carry a ≡ of Carry a) × (rows_by number p Omega a ≡ of Omega a)
  rows-by n of p has a low = (has.done.rows a low, has.carry.rows a low, has.omega.rows a low)

-- the value that the tables of no variable make
pub closing-as : {EF : Type 0} (o : Ops) (number : EF → ℕ) (order known : Order) (t : NextPartials EF) (x y sum : ℕ) → order ≡ known →
    x ≡ rows_by number t (closing known) 0 → y ≡ rows_by number t Omega 0 → sum ≡ plus o x y → sum ≡ closing_sum order o (rows_by number t)
closing-as o number order known t x y sum same first last is =
    is ∙ cc (first, last) ∙ ap (λ k. closing_sum k o (rows_by number t)) (sym same)

-- a table of zeros with one item written over the one at its row
pub alone-rows : {EF : Type 0} (number : EF → ℕ) (n row : ℕ) (x : EF) (zeros : List EF) (p : Poly EF) → ((b : ℕ) → entries number zeros b ≡ 0) → length zeros ≡ 2 ^ n → row < 2 ^ n →
    table_of number p ≡ entries number (set zeros row x) → length zeros ≡ 2 ^ variables_of p → HasRows number n (only_at row (λ b. number x)) p
alone-rows number n row x zeros p none size low table count = record {
  variables = pow-same (variables_of p) n (sym count ∙ size);
  rows = λ a small. ap (λ t. t a) table ∙ ⊎_elim
      (λ e. ap (entries number (set zeros row x)) e ∙ entry-set_same number zeros row x (subst (λ k. row < k) (sym size) low) ∙ sym (only_at-here row (λ b. number x) a e))
      (λ d. entry-set_other number zeros row a x d ∙ none a ∙ sym (only_at-elsewhere row (λ b. number x) a d))
      (cases_eq a row);
}

-- ---- a variable less

-- the coordinate of the last of the kept variables, as it stands in the point
coordinate_prefix : (zs kept rest others : List ℕ) (z : ℕ) → kept ≡ rest ++ z ∷ [] → zs ≡ kept ++ others → (length rest < length zs) × (z ≡ get_or zs (length rest) z)
coordinate_prefix zs kept rest others z last whole =
    let split : zs ≡ rest ++ z ∷ others = whole ∙ ap (λ t. t ++ others) last ∙ append_assoc rest (z ∷ []) others in
    let long : length zs ≡ length rest + suc (length others) = ap length split ∙ length-append rest (z ∷ others) in
    (omega (arith, long), sym (ap (λ t. get_or t (length rest) z) split ∙ get_or-append_seam rest z others z))

coordinate_suffix : (zs kept rest others : List ℕ) (z : ℕ) → kept ≡ z ∷ rest → zs ≡ others ++ kept → (length rest < length zs) × (z ≡ get_or zs (length zs - suc (length rest)) z)
coordinate_suffix zs kept rest others z last whole =
    let split : zs ≡ others ++ z ∷ rest = whole ∙ ap (λ t. others ++ t) last in
    let long : length zs ≡ length others + suc (length rest) = ap length split ∙ length-append others (z ∷ rest) in
    let there : length zs - suc (length rest) ≡ length others = omega (arith, long) in
    (omega (arith, long), sym (ap (λ t. get_or zs t z) there ∙ ap (λ t. get_or t (length others) z) split ∙ get_or-append_seam others z rest z))

-- the rows at 0 and at 1 of the last variable are rows of a table of one variable more
half_low : (order : Order) (m a : ℕ) → a < 2 ^ m → half_row order false m a < 2 ^ suc m
half_low prefix m a low = omega (arith, low, two_halves m)
half_low suffix m a low = omega (arith, low, two_halves m)

half_high : (order : Order) (m a : ℕ) → a < 2 ^ m → half_row order true m a < 2 ^ suc m
half_high prefix m a low = omega (arith, low, two_halves m)
half_high suffix m a low = omega (arith, low, two_halves m)

module _ {EF : Type 0} (o : Ops) (ring : IsRing o) (number : EF → ℕ) (f : ℕ → ℕ) (zs : List ℕ) where
  -- what a round's tables are with one variable less, by the definition
  step : (order : Order) (kept rest others : List ℕ) (z : ℕ) (of : Part → ℕ → ℕ) → LastOf order kept z rest → zs ≡ joined order kept others →
      ((part : Part) (k : ℕ) → k < 2 ^ suc (length rest) → of part k ≡ next_partial order o part f zs (suc (length rest)) k) → (a : ℕ) → a < 2 ^ length rest →
      (part_fewer order o (length rest) z of Done a ≡ next_partial order o Done f zs (length rest) a)
      × (part_fewer order o (length rest) z of Carry a ≡ next_partial order o Carry f zs (length rest) a)
      × (part_fewer order o (length rest) z of Omega a ≡ next_partial order o Omega f zs (length rest) a)
  step prefix kept rest others z of last whole is a low =
      let m = length rest in
      let N : Part → ℕ → ℕ = λ part. next_partial prefix o part f zs (suc m) in
      let c = coordinate_prefix zs kept rest others z last whole in
      let at_one = half_high prefix m a low in (
        ap (λ t. plus o t (times o (minus o 1 z) (of Carry (2 * a + 1)))) (folded_in-same evaluation suffix o m z a (of Done) (N Done) low (is Done))
            ∙ ap (λ t. plus o (folded_in evaluation suffix o m z (N Done) a) (times o (minus o 1 z) t)) (is Carry (2 * a + 1) at_one)
            ∙ sym (done-step_prefix o ring f zs m z a c.0 c.1),
        ap (times o z) (is Carry (2 * a) (half_low prefix m a low)) ∙ sym (carry-step_prefix o ring f zs m z a c.0 c.1),
        ap (times o z) (is Omega (2 * a + 1) at_one) ∙ sym (omega-step_prefix o ring f zs m z a c.0 c.1),
      )
  step suffix kept rest others z of last whole is a low =
      let m = length rest in
      let N : Part → ℕ → ℕ = λ part. next_partial suffix o part f zs (suc m) in
      let c = coordinate_suffix zs kept rest others z last whole in
      let at_one = half_high suffix m a low in (
        folded_in-same evaluation prefix o m z a (of Done) (N Done) low (is Done) ∙ sym (done-step_suffix o ring f zs m z a c.0 c.1),
        ap (λ t. plus o (times o z t) (times o (minus o 1 z) (of Done (2 ^ m + a)))) (is Carry a (half_low suffix m a low))
            ∙ ap (λ t. plus o (times o z (N Carry a)) (times o (minus o 1 z) t)) (is Done (2 ^ m + a) at_one)
            ∙ plus_comm o ring (times o z (N Carry a)) (times o (minus o 1 z) (N Done (2 ^ m + a)))
            ∙ sym (carry-step_suffix o ring f zs m z a c.0 c.1),
        ap (times o z) (is Omega (2 ^ m + a) at_one) ∙ sym (omega-step_suffix o ring f zs m z a c.0 c.1),
      )

  -- the entries of the three tables, and none for the equality part
  given_of : (order : Order) (n : ℕ) (p : NextPartials EF) → HaveRows number n (λ part. next_partial order o part f zs n) p → (part : Part) (k : ℕ) → k < 2 ^ n → ℕ
  given_of order n p has part k low = rows_by number p part k

  -- bound at the coordinate of its last variable, the tables are those of the round that keeps one less
  pub next-fewer : (order : Order) (kept rest : List ℕ) (z : ℕ) (p q : NextPartials EF) → LastOf order kept z rest → AreNextPartials order o number f zs kept p →
      HaveRows number (length rest) (part_fewer order o (length rest) z (rows_by number p)) q → AreNextPartials order o number f zs rest q
  next-fewer order kept rest z p q last is fewer =
      let m = length rest in
      let size : length kept ≡ suc m = tables.size_more o ring number f zs order kept rest z last in
      let has : HaveRows number (suc m) (λ part. next_partial order o part f zs (suc m)) p = subst (λ n. HaveRows number n (λ part. next_partial order o part f zs n) p) size is.tables in
      let of : Part → ℕ → ℕ = λ part k. with_equal (rows_by number p) (next_partial order o Equal f zs (suc m)) part k in
      let is_of : (part : Part) (k : ℕ) → k < 2 ^ suc m → of part k ≡ next_partial order o part f zs (suc m) k = λ part k low. agrees order p has part k low in
      let now = step order kept rest is.others z of last is.whole is_of in
      record {
        others = tables.others_more o ring number f zs order is.others z;
        whole = tables.whole_more o ring number f zs order kept rest is.others z last is.whole;
        tables = record {
          done = rows-as number m _ (next_partial order o Done f zs m) q.done (λ a low. same_done order m z p a ∙ (now a low).0) fewer.done;
          carry = rows-as number m _ (next_partial order o Carry f zs m) q.carry (λ a low. same_carry order m z p a ∙ (now a low).1) fewer.carry;
          omega = rows-as number m _ (next_partial order o Omega f zs m) q.omega (λ a low. (now a low).2) fewer.omega;
        };
      } where
        with_equal : (Part → ℕ → ℕ) → (ℕ → ℕ) → Part → ℕ → ℕ
        with_equal of e Equal k = e k
        with_equal of e Carry k = of Carry k
        with_equal of e Done k = of Done k
        with_equal of e Omega k = of Omega k

        agrees : (order : Order) (p : NextPartials EF) → HaveRows number (suc (length rest)) (λ part. next_partial order o part f zs (suc (length rest))) p → (part : Part) (k : ℕ) →
            k < 2 ^ suc (length rest) → with_equal (rows_by number p) (next_partial order o Equal f zs (suc (length rest))) part k ≡ next_partial order o part f zs (suc (length rest)) k
        agrees order p has Equal k low = refl
        agrees order p has Carry k low = has.carry.rows k low
        agrees order p has Done k low = has.done.rows k low
        agrees order p has Omega k low = has.omega.rows k low

        same_done : (order : Order) (m z : ℕ) (p : NextPartials EF) (a : ℕ) → part_fewer order o m z (rows_by number p) Done a ≡ part_fewer order o m z (with_equal (rows_by number p) (next_partial order o Equal f zs (suc (length rest)))) Done a
        same_done prefix m z p a = refl
        same_done suffix m z p a = refl

        same_carry : (order : Order) (m z : ℕ) (p : NextPartials EF) (a : ℕ) → part_fewer order o m z (rows_by number p) Carry a ≡ part_fewer order o m z (with_equal (rows_by number p) (next_partial order o Equal f zs (suc (length rest)))) Carry a
        same_carry prefix m z p a = refl
        same_carry suffix m z p a = refl

  -- no variable is kept: they make the value
  closed_by : (order : Order) (p : NextPartials EF) → HaveRows number 0 (λ part. next_partial order o part f zs 0) p →
      closing_sum order o (rows_by number p) ≡ plus o (next_partial order o (closing order) f zs 0 0) (next_partial order o Omega f zs 0 0)
  closed_by prefix p has = let one : 0 < 2 ^ 0 = omega arith in cc (has.done.rows 0 one, has.omega.rows 0 one)
  closed_by suffix p has = let one : 0 < 2 ^ 0 = omega arith in cc (has.carry.rows 0 one, has.omega.rows 0 one)

  pub next-leaves_none : (order : Order) (kept : List ℕ) (p : NextPartials EF) (rounds : List (NextPartials EF)) (x : EF) → kept ≡ [] → AreNextPartials order o number f zs kept p →
      number x ≡ closing_sum order o (rows_by number p) → NextLeaves o number (opened order f zs) (length kept) rounds rounds x
  next-leaves_none order kept p rounds x none is read =
      let size : length kept ≡ 0 = ap length none in
      let has : HaveRows number 0 (λ part. next_partial order o part f zs 0) p = subst (λ n. HaveRows number n (λ part. next_partial order o part f zs n) p) size is.tables in
      record {
        rounds = sym (ap (λ n. next_rounds_in number rounds ++ next_partials_of order o f zs n) size
            ∙ ap (λ t. next_rounds_in number rounds ++ t) (next_partials_of-none order o f zs) ∙ append-nil (next_rounds_in number rounds));
        sum = read ∙ closed_by order p has ∙ next_partial-none o ring order f zs;
      }

  -- the tables of one round more stand after those that keep fewer variables
  pub next-leaves_more : (order : Order) (kept rest : List ℕ) (z : ℕ) (p : NextPartials EF) (old less new : List (NextPartials EF)) (x : EF) → LastOf order kept z rest →
      AreNextPartials order o number f zs kept p → NextLeaves o number (opened order f zs) (length rest) old less x → new ≡ less ++ p ∷ [] →
      NextLeaves o number (opened order f zs) (length kept) old new x
  next-leaves_more order kept rest z p old less new x last is before more =
      let size = tables.size_more o ring number f zs order kept rest z last in
      let m = suc (length rest) in
      let has : HaveRows number m (λ part. next_partial order o part f zs m) p = subst (λ n. HaveRows number n (λ part. next_partial order o part f zs n) p) size is.tables in
      record {
        rounds = ap (next_rounds_in number) more ∙ map-append (parts_in number) less (p ∷ [])
            ∙ ap (λ t. t ++ parts_in number p ∷ []) before.rounds
            ∙ append_assoc (next_rounds_in number old) (next_partials_of order o f zs (length rest)) (parts_in number p ∷ [])
            ∙ ap (λ t. next_rounds_in number old ++ (next_partials_of order o f zs (length rest) ++ t ∷ [])) (parts-are number m _ p has)
            ∙ ap (λ t. next_rounds_in number old ++ t) (sym (next_partials_of-more order o f zs (length rest)))
            ∙ ap (λ n. next_rounds_in number old ++ next_partials_of order o f zs n) (sym size);
        sum = before.sum;
      }

-- a value and the tables of rounds that stand after none
pub next-sums_are : {EF : Type 0} (order : Order) (o : Ops) (number : EF → ℕ) (f : ℕ → ℕ) (zs : List ℕ) (l m : ℕ) (none rounds : List (NextPartials EF)) (x : EF) (r : EF × NextSvoPartials EF) →
    none ≡ [] → l ≡ m → NextLeaves o number (opened order f zs) l none rounds x → r.0 ≡ x → next_tables_in r.1 ≡ rounds → next_sums_in number r ≡ next_sums_of order o f zs m
unfolding next_sums_of
next-sums_are order o number f zs l m none rounds x r empty same is value_is rounds_are =
    ap (λ y. record { value = y; rounds = next_rounds_in number (next_tables_in r.1) }) (ap number value_is ∙ is.sum)
    ∙ ap (λ ys. record { value = inner_product o (length zs) f (successor_weight o zs); rounds = ys }) (ap (next_rounds_in number) rounds_are ∙ is.rounds
    ∙ ap (λ t. next_rounds_in number t ++ next_partials_of order o f zs l) empty ∙ ap (next_partials_of order o f zs) same)

-- as many rounds as variables are kept in the last, each with its tables
module _ {EF : Type 0} (order : Order) (o : Ops) (number : EF → ℕ) (f : ℕ → ℕ) (zs : List ℕ) (l : ℕ) (r : EF × NextSvoPartials EF) (is : next_sums_in number r ≡ next_sums_of order o f zs l) where
  next_rounds_are : next_rounds_in number (next_tables_in r.1) ≡ next_partials_of order o f zs l
  unfolding next_sums_of
  next_rounds_are = ap (λ (s : NextSums). s.rounds) is

  pub next-value : number r.0 ≡ inner_product o (length zs) f (successor_weight o zs)
  unfolding next_sums_of
  next-value = ap (λ (s : NextSums). s.value) is

  pub count-next_rounds : length (next_tables_in r.1) ≡ l
  count-next_rounds = sym (length-map (next_tables_in r.1) (parts_in number)) ∙ ap length next_rounds_are ∙ length-next_partials_of order o f zs l

  pub next-round_tables : (j : ℕ) (q : NextPartials EF) → j < l → q ≡ get_or (next_tables_in r.1) j q → parts_in number q ≡ tables_by (suc j) (λ part. next_partial order o part f zs (suc j))
  next-round_tables j q low read =
      let d = parts_in number q in
      ap (parts_in number) read
      ∙ sym (get_or-map (parts_in number) (next_tables_in r.1) j q d (subst (λ n. j < n) (sym count-next_rounds) low))
      ∙ ap (λ t. get_or t j d) next_rounds_are
      ∙ next_partials_of-at order o f zs l j d low

-- half of a table's rows
pub half-count : (n rows : ℕ) → 0 < n → rows ≡ 2 ^ n → rows / 2 ≡ 2 ^ (n - 1)
half-count n rows some is =
    let more : suc (n - 1) ≡ n = omega (arith, some) in
    let whole : rows ≡ 2 ^ (n - 1) + 2 ^ (n - 1) = is ∙ ap (λ k. 2 ^ k) (sym more) ∙ two_halves (n - 1) in
    omega (arith, whole)

-- the table that was written one value after the other
pub pushed-has : {EF : Type 0} (number : EF → ℕ) (n : ℕ) (f : ℕ → ℕ) (count : ℕ) (xs : List EF) (p : Poly EF) → HasPushed number f count xs → count ≡ 2 ^ n →
    length xs ≡ 2 ^ variables_of p → table_of number p ≡ entries number xs → HasRows number n f p
pushed-has number n f count xs p pushed many size table = record {
  variables = pow-same (variables_of p) n (sym size ∙ pushed.size ∙ many);
  rows = λ a low. ap (λ t. t a) table ∙ pushed.rows a (subst (λ k. a < k) (sym many) low);
}

-- one variable less, in either order: by the tables that were made
module _ {EF : Type 0} (o : Ops) (number : EF → ℕ) (t : NextPartials EF) (m z not_z : ℕ) (not_is : not_z ≡ minus o 1 z) where
  of : Part → ℕ → ℕ
  of = rows_by number t

  pub fewer-prefix : (order : Order) (line sums carried last : Poly EF) → order ≡ prefix →
      HasRows number m (folded_in evaluation suffix o m z (table_of number t.done)) line →
      HasRows number (variables_of line) (λ a. plus o (table_of number line a) (times o not_z (table_of number t.carry (half_row order true (variables_of line) a)))) sums →
      HasRows number m (λ a. times o z (table_of number t.carry (half_row order false m a))) carried →
      HasRows number m (λ a. times o z (table_of number t.omega (half_row order true m a))) last →
      HaveRows number m (part_fewer order o m z (rows_by number t)) (record { done = sums; carry = carried; omega = last })
  fewer-prefix order line sums carried last is lines summed carries lasts =
      let made : HaveRows number m (part_fewer prefix o m z (rows_by number t)) (record { done = sums; carry = carried; omega = last }) = record {
        done = record {
          variables = summed.variables ∙ lines.variables;
          rows = λ a low.
              summed.rows a (subst (λ k. a < 2 ^ k) (sym lines.variables) low)
              ∙ ap (λ x. plus o x (times o not_z (table_of number t.carry (half_row order true (variables_of line) a)))) (lines.rows a low)
              ∙ ap (λ k. plus o (folded_in evaluation suffix o m z (table_of number t.done) a) (times o k (table_of number t.carry (half_row order true (variables_of line) a)))) not_is
              ∙ ap (λ k. plus o (folded_in evaluation suffix o m z (table_of number t.done) a) (times o (minus o 1 z) (table_of number t.carry (half_row order true k a)))) lines.variables
              ∙ ap (λ k. plus o (folded_in evaluation suffix o m z (table_of number t.done) a) (times o (minus o 1 z) (table_of number t.carry (half_row k true m a)))) is;
        };
        carry = rows-as number m _ _ carried (λ a low. ap (λ k. times o z (table_of number t.carry (half_row k false m a))) is) carries;
        omega = rows-as number m _ _ last (λ a low. ap (λ k. times o z (table_of number t.omega (half_row k true m a))) is) lasts;
      } in
      subst (λ k. HaveRows number m (part_fewer k o m z (rows_by number t)) (record { done = sums; carry = carried; omega = last })) (sym is) made

  pub fewer-suffix : (order : Order) (line carried sums last : Poly EF) → order ≡ suffix →
      HasRows number m (folded_in evaluation prefix o m z (table_of number t.done)) line →
      HasRows number m (λ a. times o z (table_of number t.carry (half_row order false m a))) carried →
      HasRows number (variables_of carried) (λ a. plus o (table_of number carried a) (times o not_z (table_of number t.done (half_row order true (variables_of carried) a)))) sums →
      HasRows number m (λ a. times o z (table_of number t.omega (half_row order true m a))) last →
      HaveRows number m (part_fewer order o m z (rows_by number t)) (record { done = line; carry = sums; omega = last })
  fewer-suffix order line carried sums last is lines carries summed lasts =
      let made : HaveRows number m (part_fewer suffix o m z (rows_by number t)) (record { done = line; carry = sums; omega = last }) = record {
        done = lines;
        carry = record {
          variables = summed.variables ∙ carries.variables;
          rows = λ a low.
              summed.rows a (subst (λ k. a < 2 ^ k) (sym carries.variables) low)
              ∙ ap (λ x. plus o x (times o not_z (table_of number t.done (half_row order true (variables_of carried) a)))) (carries.rows a low)
              ∙ ap (λ k. plus o (times o z (table_of number t.carry (half_row order false m a))) (times o k (table_of number t.done (half_row order true (variables_of carried) a)))) not_is
              ∙ ap (λ k. plus o (times o z (table_of number t.carry (half_row order false m a))) (times o (minus o 1 z) (table_of number t.done (half_row order true k a)))) carries.variables
              ∙ ap (λ k. plus o (times o z (table_of number t.carry (half_row k false m a))) (times o (minus o 1 z) (table_of number t.done (half_row k true m a)))) is;
        };
        omega = rows-as number m _ _ last (λ a low. ap (λ k. times o z (table_of number t.omega (half_row k true m a))) is) lasts;
      } in
      subst (λ k. HaveRows number m (part_fewer k o m z (rows_by number t)) (record { done = line; carry = sums; omega = last })) (sym is) made

-- a table that is bound has the entries of the definition, one variable being left
pub bound-rows : {EF : Type 0} (order known : Order) (o : Ops) (number : EF → ℕ) (z m : ℕ) (p q : Poly EF) → other_order order ≡ known → variables_of p ≡ suc m →
    IsFixedOf (other_order order) o number z (table_of number p) (2 ^ variables_of p) q → HasRows number m (folded_in evaluation known o m z (table_of number p)) q
bound-rows order known o number z m p q same size fixed =
    let more : variables_of p ≡ variables_of q + 1 = pow-same (variables_of p) (variables_of q + 1) fixed.fewer in
    let count : variables_of q ≡ m = omega (arith, more, size) in
    record {
      variables = count;
      rows = λ a low.
          fixed.rows_are a (subst (λ k. a < 2 ^ k) (sym count) low)
          ∙ ap (λ k. folded_in evaluation (other_order order) o k z (table_of number p) a) count
          ∙ ap (λ k. folded_in evaluation k o m z (table_of number p) a) same;
    }

-- ---- the parts of weights

-- a list that begins with zero, and goes on with the first items of another, has the entries of this, moved up
pub moved-entries : {EF : Type 0} (number : EF → ℕ) (none : EF) (xs moved : List EF) (n b : ℕ) → number none ≡ 0 → moved ≡ (none ∷ []) ++ take n xs → b < suc n → n ≤ length xs →
    entries number moved b ≡ shifted 0 (entries number xs) b
moved-entries number none xs moved n zero zero_is is low fits =
    ap (λ l. entries number l 0) is ∙ entry-append_left number (none ∷ []) (take n xs) 0 (omega arith) ∙ entry-read number (none ∷ []) 0 none (omega arith) refl ∙ zero_is
    ∙ sym (shifted-zero 0 (entries number xs))
moved-entries number none xs moved n (suc b) zero_is is low fits =
    let at : 1 + b ≡ suc b = omega arith in
    ap (λ l. entries number l (suc b)) is ∙ ap (entries number ((none ∷ []) ++ take n xs)) (sym at) ∙ entry-append_right number (none ∷ []) (take n xs) b
    ∙ entry-take number xs n b (omega (arith, low)) ∙ sym (shifted-suc 0 (entries number xs) b)

module _ {EF : Type 0} (o : Ops) (ring : IsRing o) (number : EF → ℕ) (x : ℕ) (zs : List ℕ) (equal : Poly EF) (weights : List EF) (last_weight : EF)
    (has : HasRows number (length zs) (λ b. times o x (part_weight o Equal zs b)) equal) (weights_are : entries number weights ≡ table_of number equal)
    (last_is : entries number weights (2 ^ length zs - 1) ≡ number last_weight) where
  last_row : number last_weight ≡ times o x (equality_weight o zs (2 ^ length zs - 1))
  last_row =
      let inside : 2 ^ length zs - 1 < 2 ^ length zs = omega (arith, pow_pos (length zs)) in
      sym last_is ∙ ap (λ t. t (2 ^ length zs - 1)) weights_are ∙ has.rows (2 ^ length zs - 1) inside ∙ ap (times o x) (part-equal o zs (2 ^ length zs - 1))

  pub carry-rows : (p : Poly EF) → HasRows number (length zs) (only_at 0 (λ b. number last_weight)) p → HasRows number (length zs) (λ b. times o x (part_weight o Carry zs b)) p
  carry-rows p is = rows-as number (length zs) _ _ p at is where
    at : (a : ℕ) → a < 2 ^ length zs → only_at 0 (λ b. number last_weight) a ≡ times o x (part_weight o Carry zs a)
    at zero low = only_at-here 0 (λ b. number last_weight) 0 refl ∙ last_row ∙ ap (times o x) (sym (carry-zero o zs))
    at (suc a) low =
        only_at-elsewhere 0 (λ b. number last_weight) (suc a) (λ e. omega (arith, e)) ∙ sym (ap (times o x) (carry-suc o zs a) ∙ times-zero o ring x)

  pub omega-rows : (p : Poly EF) → HasRows number (length zs) (only_at (2 ^ length zs - 1) (λ b. number last_weight)) p → HasRows number (length zs) (λ b. times o x (part_weight o Omega zs b)) p
  omega-rows p is = rows-as number (length zs) _ _ p (λ a low. ⊎_elim
      (λ e. only_at-here (2 ^ length zs - 1) (λ b. number last_weight) a e ∙ last_row ∙ ap (λ k. times o x (equality_weight o zs k)) (sym e) ∙ ap (times o x) (sym (omega-last o zs a e)))
      (λ d. only_at-elsewhere (2 ^ length zs - 1) (λ b. number last_weight) a d ∙ sym (ap (times o x) (omega-before o zs a d) ∙ times-zero o ring x))
      (cases_eq a (2 ^ length zs - 1))) is

  pub done-rows : (none : EF) (moved : List EF) (p : Poly EF) → number none ≡ 0 → moved ≡ (none ∷ []) ++ take (2 ^ length zs - 1) weights → length weights ≡ 2 ^ length zs →
      length moved ≡ 2 ^ variables_of p → table_of number p ≡ entries number moved → HasRows number (length zs) (λ b. times o x (part_weight o Done zs b)) p
  done-rows none moved p zero_is is size count table = record {
    variables = pow-same (variables_of p) (length zs) (sym count ∙ ap length is ∙ length-append (none ∷ []) (take (2 ^ length zs - 1) weights) ∙ ap (λ k. 1 + k) (length-take-le (2 ^ length zs - 1) weights (omega (arith, size))) ∙ omega (arith, pow_pos (length zs)));
    rows = λ a low. ap (λ t. t a) table ∙ moved-entries number none weights moved (2 ^ length zs - 1) a zero_is is (omega (arith, low)) (omega (arith, size)) ∙ at a low;
  } where
    at : (a : ℕ) → a < 2 ^ length zs → shifted 0 (entries number weights) a ≡ times o x (part_weight o Done zs a)
    at zero low = shifted-zero 0 (entries number weights) ∙ sym (ap (times o x) (done-zero o zs) ∙ times-zero o ring x)
    at (suc a) low =
        shifted-suc 0 (entries number weights) a ∙ ap (λ t. t a) weights_are ∙ has.rows a (omega (arith, low)) ∙ ap (times o x) (part-equal o zs a) ∙ ap (times o x) (sym (done-suc o zs a))

-- parts that are multiplied by one are the parts
pub parts-once : {EF : Type 0} (o : Ops) (ring : IsRing o) (number : EF → ℕ) (zs : List ℕ) (n : ℕ) (p : NextPartials EF) → length zs ≡ n →
    HaveRows number (length zs) (λ part b. times o 1 (part_weight o part zs b)) p → parts_in number p ≡ tables_by n (λ part. part_weight o part zs)
parts-once o ring number zs n p size has =
    let once : (part : Part) (b : ℕ) → times o 1 (part_weight o part zs b) ≡ part_weight o part zs b =
    λ part b. times_comm o ring 1 (part_weight o part zs b) ∙ times-one o ring (part_weight o part zs b) ∙ element-part o ring part zs b in
    parts-are number (length zs) _ p (have-as number (length zs) _ (λ part. part_weight o part zs) p (λ part b low. once part b) has)
    ∙ ap (λ k. tables_by k (λ part. part_weight o part zs)) size

pub alone-as : {EF : Type 0} (number : EF → ℕ) (v n row place : ℕ) (x : EF) (p : Poly EF) → v ≡ n → row ≡ place →
    HasRows number v (only_at row (λ b. number x)) p → HasRows number n (only_at place (λ b. number x)) p
alone-as number v n row place x p count same has =
    subst (λ k. HasRows number k (only_at place (λ b. number x)) p) count (subst (λ k. HasRows number v (only_at k (λ b. number x)) p) same has)
