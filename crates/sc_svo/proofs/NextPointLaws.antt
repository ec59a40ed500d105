-- The three tables of a successor at a point in two parts, and its weights there.
use Rattle.std.proofs.Common.{◌≡◌, ℕ, zero, suc, [], ◌∷◌, get_or, set, ⊎_elim, ◌+◌, ◌-◌, ◌*◌, ◌^◌, ◌<◌, ◌≤◌, List, ◌++◌, length, take, refl, sym, ◌∙◌, ap, subst, arith, length-append}
use Rattle.std.proofs.Math.Seq.{take-append_seam, drop-append_seam}
use Rattle.std.proofs.Common.{pow-add, Option, None, Some, IfSome}
use Rattle.std.proofs.lemmas.Nat.{mul-le, pow_pos}
use Rattle.sc_definitions.specs.Ring.{Ops, IsRing, plus, times}
use Rattle.std.proofs.lemmas.Bool.{cases_eq}
use Rattle.sc_definitions.specs.Tables.{Order, prefix, suffix, entries, equality_weight, value, digits}
use Rattle.sc_definitions.specs.Statements.{successor_weight}
use Rattle.sc_definitions.specs.Shifts.{shifted, only_at}
use Rattle.sc_definitions.specs.Parts.{Part, Equal, Carry, Done, Omega, part_weight, part_at, under, next_partial}
use Rattle.sc_definitions.specs.Partials.{joined_row, summed_first, summed_last, summed_behind, behind_of}
use Rattle.sc_definitions.proofs.RingLaws.{times_comm, plus-zero, element-small}
use Rattle.sc_definitions.proofs.Identity.{atom, nought, ◌⊕◌, ◌⊗◌, Agree, identity}
use Rattle.sc_definitions.proofs.SuccessorLaws.{only_at-here, only_at-elsewhere}
use Rattle.sc_table.proofs.EntryLaws.{entry-read, entry-set_same, entry-set_other, entry-below}
use Rattle.sc_definitions.proofs.Lengths.{pow-same}
use Rattle.sc_definitions.proofs.PartLaws.{shifted-same, part-equal, part-done, carry-zero, carry-suc, omega-last, omega-before, successor-joined_prefix, successor-joined_suffix}
use Rattle.sc_definitions.proofs.NextPartialLaws.{summed_behind-same, summed_behind-carry, summed_behind-omega}
use Rattle.sc_definitions.proofs.NextPartialSteps.{done-equal_suffix}
use Rattle.sc_table.specs.declared.poly.Poly.{Poly}
use Rattle.sc_table.specs.Polys.{variables_of, table_of}
use Rattle.sc_partials.specs.Partials.{joined, IsPartial}
use Rattle.sc_partials.specs.NextPartials.{HasRows}
use Rattle.sc_partials.proofs.NextTables.{rows-as}
use Rattle.sc_svo.proofs.PointParts.{length-joined}

-- the coordinates of the variables that are bound last are the other part of the point
behind-joined : (order : Order) (near far : List ℕ) → behind_of order (length near) (joined order near far) ≡ far
behind-joined prefix near far = drop-append_seam near far
behind-joined suffix near far =
    let left : length (far ++ near) - length near ≡ length far = omega (arith, length-append far near) in
    ap (λ n. take n (far ++ near)) left ∙ take-append_seam far near

module _ (o : Ops) (order : Order) (f : ℕ → ℕ) (near far : List ℕ) where
  -- a part's table of the round that keeps the one part of a point
  pub part-table : (part : Part) (a : ℕ) → next_partial order o part f (joined order near far) (length near) a
      ≡ summed_behind order o (length near) (length far) (part_weight o (under order part) far) f a
  unfolding next_partial
  part-table part a =
      let zs = joined order near far in
      let left : length zs - length near ≡ length far = omega (arith, length-joined order near far) in
      ap (λ n. summed_behind order o (length near) n (part_weight o (under order part) (behind_of order (length near) zs)) f a) left
      ∙ ap (λ t. summed_behind order o (length near) (length far) (part_weight o (under order part) t) f a) (behind-joined order near far)

module _ {EF : Type 0} (o : Ops) (ring : IsRing o) (number : EF → ℕ) (order : Order) (f : ℕ → ℕ) (near far : List ℕ) (p : Poly EF) where
  -- summed under weights that are moved up, it is the table of a part that is summed so
  pub moved-rows : (part : Part) (w : ℕ → ℕ) → under order part ≡ Done → ((c : ℕ) → c < 2 ^ length far → w c ≡ equality_weight o far c) →
      HasRows number (length near) (λ a. summed_behind order o (length near) (length far) (shifted 0 w) f a) p →
      HasRows number (length near) (λ a. next_partial order o part f (joined order near far) (length near) a) p
  moved-rows part w is same has = rows-as number (length near) _ _ p (λ a low.
      summed_behind-same order o (length near) (length far) (shifted 0 w) (part_weight o Done far) f a
      (λ c small. shifted-same 0 (2 ^ length far) w (equality_weight o far) same c small ∙ sym (part-done o far c))
      ∙ sym (ap (λ k. summed_behind order o (length near) (length far) (part_weight o k far) f a) is) ∙ sym (part-table o order f near far part a)) has

  -- one row of each, times the last weight, is the table of a part that has one row
  pub carried-rows : (part : Part) (factor : ℕ) (at : ℕ → ℕ) → under order part ≡ Carry → factor ≡ equality_weight o far (2 ^ length far - 1) →
      ((a : ℕ) → at a ≡ joined_row order (length near) (length far) a 0) → HasRows number (length near) (λ a. times o factor (f (at a))) p →
      HasRows number (length near) (λ a. next_partial order o part f (joined order near far) (length near) a) p
  carried-rows part factor at is factor_is there has = rows-as number (length near) _ _ p (λ a low.
      times_comm o ring factor (f (at a)) ∙ ap (λ k. times o (f k) factor) (there a) ∙ ap (times o (f (joined_row order (length near) (length far) a 0))) factor_is
      ∙ sym (summed_behind-carry o ring order (length near) (length far) far f a refl)
      ∙ sym (ap (λ k. summed_behind order o (length near) (length far) (part_weight o k far) f a) is) ∙ sym (part-table o order f near far part a)) has

  pub last-rows : (part : Part) (factor : ℕ) (at : ℕ → ℕ) → under order part ≡ Omega → factor ≡ equality_weight o far (2 ^ length far - 1) →
      ((a : ℕ) → at a ≡ joined_row order (length near) (length far) a (2 ^ length far - 1)) → HasRows number (length near) (λ a. times o factor (f (at a))) p →
      HasRows number (length near) (λ a. next_partial order o part f (joined order near far) (length near) a) p
  last-rows part factor at is factor_is there has = rows-as number (length near) _ _ p (λ a low.
      times_comm o ring factor (f (at a)) ∙ ap (λ k. times o (f k) factor) (there a) ∙ ap (times o (f (joined_row order (length near) (length far) a (2 ^ length far - 1)))) factor_is
      ∙ sym (summed_behind-omega o ring order (length near) (length far) far f a refl)
      ∙ sym (ap (λ k. summed_behind order o (length near) (length far) (part_weight o k far) f a) is) ∙ sym (part-table o order f near far part a)) has

-- in suffix order, the partial table is that of the part that is done
pub given-rows : {EF : Type 0} (o : Ops) (ring : IsRing o) (number : EF → ℕ) (f : ℕ → ℕ) (zs near : List ℕ) (p : Poly EF) → IsPartial suffix o number f zs near p →
    HasRows number (length near) (λ a. next_partial suffix o Done f zs (length near) a) p
given-rows o ring number f zs near p is = record { variables = is.variables; rows = λ a low. is.rows a low ∙ sym (done-equal_suffix o ring f zs (length near) a) }

-- ---- rows

-- a row of those that are kept, with a row after it, is a row of the table
pub row-within : (l m kept behind rows a r : ℕ) → kept ≡ 2 ^ l → behind ≡ 2 ^ m → rows ≡ 2 ^ (l + m) → a < kept → r < behind → r + a * behind < rows
row-within l m kept behind rows a r kept_is behind_is whole low small =
    let fits = mul-le (suc a) behind kept behind low (omega arith) in
    let size : rows ≡ kept * behind = whole ∙ pow-add 2 l m ∙ cc (kept_is, behind_is) in
    omega (arith, fits, size, small)

-- the kept rows are no more than all
pub kept-within : (l m kept rows : ℕ) → kept ≡ 2 ^ l → rows ≡ 2 ^ (l + m) → kept ≤ rows
kept-within l m kept rows kept_is whole =
    let fits = mul-le 1 (2 ^ l) (2 ^ m) (2 ^ l) (pow_pos m) (omega arith) in
    omega (arith, fits, kept_is, whole ∙ ap (λ n. 2 ^ n) (omega arith) ∙ pow-add 2 m l)

-- the last rows of a table are those with the last row after them, in suffix order
pub last-at : (l m kept rows a : ℕ) → kept ≡ 2 ^ l → rows ≡ 2 ^ (l + m) → rows - kept + a * 1 ≡ (2 ^ m - 1) * 2 ^ l + a
last-at l m kept rows a kept_is whole =
    let more : suc (2 ^ m - 1) ≡ 2 ^ m = omega (arith, pow_pos m) in
    let size : rows ≡ suc (2 ^ m - 1) * 2 ^ l = whole ∙ ap (λ n. 2 ^ n) (omega arith) ∙ pow-add 2 m l ∙ ap (λ k. k * 2 ^ l) (sym more) in
    omega (arith, size, kept_is)

module _ {EF : Type 0} (o : Ops) (number : EF → ℕ) (f w : ℕ → ℕ) (l m k rows : ℕ) (p : Poly EF) (whole : rows ≡ 2 ^ (l + m)) (size : rows ≡ 2 ^ (k + variables_of p)) (many : k ≡ m) where
  count : variables_of p ≡ l
  count = let same = pow-same (k + variables_of p) (l + m) (sym size ∙ whole) in omega (arith, same, many)

  -- what the compressing forms make is the table summed over the variables that are bound last
  pub compressed-prefix : ((a : ℕ) → a < 2 ^ variables_of p → table_of number p a ≡ summed_last o k w f a) → HasRows number l (λ a. summed_behind prefix o l m w f a) p
  compressed-prefix is = record {
    variables = count;
    rows = λ a low. is a (subst (λ n. a < 2 ^ n) (sym count) low) ∙ ap (λ n. summed_last o n w f a) many;
  }

  pub compressed-suffix : ((a : ℕ) → a < 2 ^ variables_of p → table_of number p a ≡ summed_first o k (variables_of p) w f a) → HasRows number l (λ a. summed_behind suffix o l m w f a) p
  compressed-suffix is = record {
    variables = count;
    rows = λ a low. is a (subst (λ n. a < 2 ^ n) (sym count) low) ∙ ap (λ n. summed_first o n (variables_of p) w f a) many ∙ ap (λ n. summed_first o m n w f a) count;
  }

-- a copy of a partial table is one
pub copied-partial : {EF : Type 0} (order : Order) (o : Ops) (number : EF → ℕ) (f : ℕ → ℕ) (zs kept : List ℕ) (p q : Poly EF) → variables_of q ≡ variables_of p → table_of number q ≡ table_of number p →
    IsPartial order o number f zs kept p → IsPartial order o number f zs kept q
copied-partial order o number f zs kept p q count table is = record {
  others = is.others;
  whole = is.whole;
  variables = count ∙ is.variables;
  rows = λ a low. ap (λ t. t a) table ∙ is.rows a low;
}

-- a table that may be given is a partial one of a table by another name
pub given-as : {EF : Type 0} {X : Type 0} (order known : Order) (o : Ops) (number : EF → ℕ) (f h : ℕ → ℕ) (zs kept : List ℕ) (of : X → Poly EF) (given : Option X) → order ≡ known → f ≡ h →
    IfSome given (λ d. IsPartial known o number h zs kept (of d)) → IfSome given (λ d. IsPartial order o number f zs kept (of d))
given-as order known o number f h zs kept of None same table is = tt
given-as order known o number f h zs kept of (Some d) same table is =
    subst (λ k. IsPartial k o number f zs kept (of d)) (sym same) (subst (λ t. IsPartial known o number t zs kept (of d)) (sym table) is)

-- ---- weights that are added

module _ (o : Ops) (ring : IsRing o) (far : List ℕ) where
  -- what is added at row 0 is the part that is carried
  pub only-carried : (x d last b : ℕ) → last ≡ equality_weight o far (2 ^ length far - 1) → only_at 0 (λ k. times o (times o x last) d) b ≡ times o x (times o d (part_weight o Carry far b))
  unfolding Agree
  only-carried x d last zero last_is =
      only_at-here 0 (λ k. times o (times o x last) d) 0 refl
      ∙ identity o ring (x ∷ last ∷ d ∷ []) ((atom 0 ⊗ atom 1) ⊗ atom 2) (atom 0 ⊗ (atom 2 ⊗ atom 1)) tt tt refl
      ∙ ap (λ k. times o x (times o d k)) (last_is ∙ sym (carry-zero o far))
  only-carried x d last (suc b) last_is =
      only_at-elsewhere 0 (λ k. times o (times o x last) d) (suc b) (λ e. omega (arith, e))
      ∙ identity o ring (x ∷ d ∷ []) nought (atom 0 ⊗ (atom 1 ⊗ nought)) tt tt refl
      ∙ ap (λ k. times o x (times o d k)) (sym (carry-suc o far b))

  -- what is added at the last row is the last row's own part
  pub only-last : (x d last row b : ℕ) → last ≡ equality_weight o far (2 ^ length far - 1) → row ≡ 2 ^ length far - 1 →
      only_at row (λ k. times o (times o x last) d) b ≡ times o x (times o d (part_weight o Omega far b))
  unfolding Agree
  only-last x d last row b last_is row_is = ⊎_elim
      (λ e. only_at-here row (λ k. times o (times o x last) d) b e
      ∙ identity o ring (x ∷ last ∷ d ∷ []) ((atom 0 ⊗ atom 1) ⊗ atom 2) (atom 0 ⊗ (atom 2 ⊗ atom 1)) tt tt refl
      ∙ ap (λ k. times o x (times o d k)) (last_is ∙ ap (equality_weight o far) (sym (e ∙ row_is)) ∙ sym (omega-last o far b (e ∙ row_is))))
      (λ n. only_at-elsewhere row (λ k. times o (times o x last) d) b n
      ∙ identity o ring (x ∷ d ∷ []) nought (atom 0 ⊗ (atom 1 ⊗ nought)) tt tt refl
      ∙ ap (λ k. times o x (times o d k)) (sym (omega-before o far b (λ e. n (e ∙ sym row_is)))))
      (cases_eq b row)

  -- weights that are moved up by one row are the part that is done
  pub moved-done : (x d : ℕ) (w : ℕ → ℕ) (b : ℕ) → b < 2 ^ length far → ((c : ℕ) → c < 2 ^ length far → w c ≡ equality_weight o far c) →
      times o (times o x d) (shifted 0 w b) ≡ times o x (times o d (part_weight o Done far b))
  unfolding Agree
  moved-done x d w b low same =
      ap (times o (times o x d)) (shifted-same 0 (2 ^ length far) w (equality_weight o far) same b low ∙ sym (part-done o far b))
      ∙ identity o ring (x ∷ d ∷ part_weight o Done far b ∷ []) ((atom 0 ⊗ atom 1) ⊗ atom 2) (atom 0 ⊗ (atom 1 ⊗ atom 2)) tt tt refl

  -- weights as they are are the equality part
  pub own-done : (x d : ℕ) (w : ℕ → ℕ) (b : ℕ) → b < 2 ^ length far → ((c : ℕ) → c < 2 ^ length far → w c ≡ equality_weight o far c) →
      times o (times o x d) (w b) ≡ times o x (times o d (part_weight o Equal far b))
  unfolding Agree
  own-done x d w b low same =
      ap (times o (times o x d)) (same b low ∙ sym (part-equal o far b))
      ∙ identity o ring (x ∷ d ∷ part_weight o Equal far b ∷ []) ((atom 0 ⊗ atom 1) ⊗ atom 2) (atom 0 ⊗ (atom 1 ⊗ atom 2)) tt tt refl

  -- in prefix order the three make the weights of the whole point, bound at rs
  pub gained-prefix : (x old new one two : ℕ) (near rs : List ℕ) (b : ℕ) → length rs ≡ length near → b < 2 ^ length far →
      one ≡ plus o old (times o x (times o (part_at o Equal near rs) (part_weight o Done far b))) →
      two ≡ plus o one (times o x (times o (part_at o Done near rs) (part_weight o Carry far b))) →
      new ≡ plus o two (times o x (times o (part_at o Omega near rs) (part_weight o Omega far b))) →
      new ≡ plus o old (times o x (value o (successor_weight o (near ++ far)) (rs ++ digits (length far) b)))
  unfolding Agree
  gained-prefix x old new one two near rs b same low first second third =
      let D = times o (part_at o Equal near rs) (part_weight o Done far b) in
      let C = times o (part_at o Done near rs) (part_weight o Carry far b) in
      let W = times o (part_at o Omega near rs) (part_weight o Omega far b) in
      third ∙ ap (λ k. plus o k (times o x W)) (second ∙ ap (λ k. plus o k (times o x C)) first)
      ∙ identity o ring (old ∷ x ∷ D ∷ C ∷ W ∷ []) (((atom 0 ⊕ atom 1 ⊗ atom 2) ⊕ atom 1 ⊗ atom 3) ⊕ atom 1 ⊗ atom 4) (atom 0 ⊕ atom 1 ⊗ ((atom 2 ⊕ atom 3) ⊕ atom 4)) tt tt refl
      ∙ ap (λ k. plus o old (times o x k)) (sym (successor-joined_prefix o ring near far rs b same low))

  -- and so they do in suffix order
  pub gained-suffix : (x old new one two : ℕ) (near rs : List ℕ) (b : ℕ) → length rs ≡ length near → b < 2 ^ length far →
      one ≡ plus o old (times o x (times o (part_at o Done near rs) (part_weight o Equal far b))) →
      two ≡ plus o one (times o x (times o (part_at o Carry near rs) (part_weight o Done far b))) →
      new ≡ plus o two (times o x (times o (part_at o Omega near rs) (part_weight o Omega far b))) →
      new ≡ plus o old (times o x (value o (successor_weight o (far ++ near)) (digits (length far) b ++ rs)))
  unfolding Agree
  gained-suffix x old new one two near rs b same low first second third =
      let D = times o (part_at o Done near rs) (part_weight o Equal far b) in
      let C = times o (part_at o Carry near rs) (part_weight o Done far b) in
      let W = times o (part_at o Omega near rs) (part_weight o Omega far b) in
      third ∙ ap (λ k. plus o k (times o x W)) (second ∙ ap (λ k. plus o k (times o x C)) first)
      ∙ identity o ring (old ∷ x ∷ D ∷ C ∷ W ∷ []) (((atom 0 ⊕ atom 1 ⊗ atom 2) ⊕ atom 1 ⊗ atom 3) ⊕ atom 1 ⊗ atom 4) (atom 0 ⊕ atom 1 ⊗ ((atom 2 ⊕ atom 3) ⊕ atom 4)) tt tt refl
      ∙ ap (λ k. plus o old (times o x k)) (sym (successor-joined_suffix o ring near far rs b same low))

-- a row to which a value was added, and each other row
pub added-at : {EF : Type 0} (o : Ops) (ring : IsRing o) (number : EF → ℕ) → ((x : EF) → number x < o.size) → (rows : List EF) (row : ℕ) (x sum gain : EF) → row < length rows → x ≡ get_or rows row x →
    number sum ≡ plus o (number x) (number gain) → (b : ℕ) → b < length rows → entries number (set rows row sum) b ≡ plus o (entries number rows b) (only_at row (λ k. number gain) b)
added-at o ring number below rows row x sum gain low read is b small = ⊎_elim
    (λ e. ap (entries number (set rows row sum)) e ∙ entry-set_same number rows row sum low ∙ is ∙ ap (λ k. plus o k (number gain)) (sym (entry-read number rows row x low read))
    ∙ sym (cc (ap (entries number rows) e, only_at-here row (λ k. number gain) b e)))
    (λ n. entry-set_other number rows row b sum n ∙ sym (ap (plus o (entries number rows b)) (only_at-elsewhere row (λ k. number gain) b n)
    ∙ plus-zero o ring (entries number rows b) ∙ element-small o ring (entries number rows b) (entry-below o number ring below rows b)))
    (cases_eq b row)
