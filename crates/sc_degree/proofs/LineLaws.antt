-- Products of the lines through two rows of several tables.
use Rattle.std.proofs.Common.{◌≡◌, ℕ, zero, suc, ◌+◌, ◌<◌, List, [], ◌∷◌, ◌++◌, length, map, take, drop, get_or, replicate, sym, ◌∙◌, ap, refl, arith}
use Rattle.std.proofs.lemmas.List.{length-append, length-drop, length-take, map_more, take_all}
use Rattle.sc_definitions.specs.Ring.{Ops, IsRing, element, plus, times, minus}
use Rattle.sc_definitions.specs.Tables.{sum_below, entries}
use Rattle.sc_definitions.proofs.RingLaws.{element-one, element-plus, element-times, times_comm, times-one}
use Rattle.sc_definitions.proofs.Identity.{atom, nought, ◌⊕◌, ◌⊗◌, ◌⊖◌, Agree, identity, same_element}
use Rattle.sc_field.specs.Products.{products}
use Rattle.sc_table.proofs.EntryLaws.{entry-take}
use Rattle.sc_table.proofs.SumLaws.{products-sum}
use Rattle.sc_degree.specs.Lines.{line_at, lines_at}

module _ (o : Ops) (ring : IsRing o) where
  pub element-line_at : (low high x : ℕ) → element o (line_at o low high x) ≡ line_at o low high x
  unfolding line_at
  element-line_at low high x = element-plus o ring low (times o (minus o high low) x)

  -- at 0 it is the value at 0
  pub line_at-zero : (low high x : ℕ) → x ≡ 0 → line_at o low high x ≡ element o low
  unfolding line_at Agree
  line_at-zero low high x none =
      ap (λ n. plus o low (times o (minus o high low) n)) none
      ∙ sym (element-plus o ring low (times o (minus o high low) 0))
      ∙ same_element o ring (low ∷ high ∷ []) (atom 0 ⊕ (atom 1 ⊖ atom 0) ⊗ nought) (atom 0) refl

  pub element-lines_at : (fs : List (ℕ → ℕ)) (low high x : ℕ) → element o (lines_at o fs low high x) ≡ lines_at o fs low high x
  unfolding lines_at
  element-lines_at [] low high x = element-one o ring
  element-lines_at (f ∷ fs) low high x = element-times o ring (line_at o (f low) (f high) x) (lines_at o fs low high x)

  -- one table more
  lines_at-append : (fs : List (ℕ → ℕ)) (g : ℕ → ℕ) (low high x : ℕ) →
      lines_at o (fs ++ g ∷ []) low high x ≡ times o (lines_at o fs low high x) (line_at o (g low) (g high) x)
  unfolding lines_at Agree
  lines_at-append [] g low high x = times_comm o ring (line_at o (g low) (g high) x) 1
  lines_at-append (f ∷ fs) g low high x =
      let a = line_at o (f low) (f high) x in
      let b = lines_at o fs low high x in
      let c = line_at o (g low) (g high) x in
      ap (times o a) (lines_at-append fs g low high x)
      ∙ identity o ring (a ∷ b ∷ c ∷ []) (atom 0 ⊗ (atom 1 ⊗ atom 2)) ((atom 0 ⊗ atom 1) ⊗ atom 2) tt tt refl

-- ones in an array, and a part of them
ones-array : {X : Type 0} (number : X → ℕ) (x : X) (m b : ℕ) → number x ≡ 1 → b < length (replicate m x) → entries number (replicate m x) b ≡ 1
unfolding entries
ones-array number x zero b is inside = absurd (omega (arith, inside))
ones-array number x (suc m) zero is inside = is
ones-array number x (suc m) (suc b) is inside = ones-array number x m b is (omega (arith, inside))

pub ones-part : {X : Type 0} (number : X → ℕ) (x : X) (n m b : ℕ) → number x ≡ 1 → b < length (take n (replicate m x)) → entries number (take n (replicate m x)) b ≡ 1
ones-part number x n m b is inside =
    let size = length-take n (replicate m x) in
    entry-take number (replicate m x) n b (omega (arith, inside, size)) ∙ ones-array number x m b is (omega (arith, inside, size))

-- a place keeps its size where a part of it was written anew
pub room-kept : {X : Type 0} (size n : ℕ) (xs part : List X) → length xs ≡ size → length part ≡ length (take n xs) → length (part ++ drop n xs) ≡ size
room-kept size n xs part whole same =
    omega (arith, length-append part (drop n xs), length-drop n xs, length-take n xs, same, whole)

-- the product of one table's line
only_line : {T : Type 0} (o : Ops) (table : T → ℕ → ℕ) (ts : List T) (t : T) (i j x : ℕ) → 0 < length ts → t ≡ get_or ts 0 t →
    times o (line_at o (table t i) (table t j) x) 1 ≡ lines_at o (map table (take 1 ts)) i j x
unfolding lines_at
only_line o table [] t i j x some is = absurd (omega (arith, some))
only_line o table (u ∷ us) t i j x some is = ap (λ v. times o (line_at o (table v i) (table v j) x) 1) is

-- Each row holds the product of the lines of the first n of these tables, from a row of those from `low` on to the same one of those from `high` on.
pub record AreProducts {X T : Type 0} (number : X → ℕ) (o : Ops) (table : T → ℕ → ℕ) (tables : List T) (low high x n : ℕ) (rows : List X) : Type 0 where
  pub are : (b : ℕ) → b < length rows → entries number rows b ≡ lines_at o (map table (take n tables)) (low + b) (high + b) x

module _ {T : Type 0} (o : Ops) (ring : IsRing o) (table : T → ℕ → ℕ) (tables : List T) (low high x : ℕ) where
  -- the product of no lines
  pub lines-none : (v : ℕ) → v ≡ 1 → v ≡ lines_at o (map table (take 0 tables)) low high x
  unfolding lines_at
  lines-none v is = is

  -- one table more
  pub lines-next : (n : ℕ) (t : T) (before after line : ℕ) → n < length tables → t ≡ get_or tables n t →
      before ≡ lines_at o (map table (take n tables)) low high x → line ≡ line_at o (table t low) (table t high) x → after ≡ times o before line →
      after ≡ lines_at o (map table (take (n + 1) tables)) low high x
  lines-next n t before after line inside is so_far line_is more =
      more ∙ ap (λ v. times o v line) so_far ∙ ap (times o (lines_at o (map table (take n tables)) low high x)) line_is
      ∙ sym (lines_at-append o ring (map table (take n tables)) (table t) low high x)
      ∙ sym (ap (λ fs. lines_at o fs low high x) (map_more table tables n t inside ∙ ap (λ u. map table (take n tables) ++ table u ∷ []) (sym is)))

module _ {X T : Type 0} (number : X → ℕ) (o : Ops) (ring : IsRing o) (table : T → ℕ → ℕ) (tables : List T) (low high x : ℕ) where
  -- the product of the first one alone
  pub products-first : (rows : List X) (t : T) (f g : ℕ → ℕ) → 0 < length tables → t ≡ get_or tables 0 t →
      ((b : ℕ) → b < length rows → f b ≡ table t (low + b)) → ((b : ℕ) → b < length rows → g b ≡ table t (high + b)) →
      ((b : ℕ) → b < length rows → entries number rows b ≡ line_at o (f b) (g b) x) →
      AreProducts number o table tables low high x 1 rows
  products-first rows t f g some first f_is g_is are = record {
    are = λ b in_rows.
        are b in_rows
        ∙ ap (λ v. line_at o v (g b) x) (f_is b in_rows) ∙ ap (λ v. line_at o (table t (low + b)) v x) (g_is b in_rows)
        ∙ sym (element-line_at o ring (table t (low + b)) (table t (high + b)) x)
        ∙ sym (times-one o ring (line_at o (table t (low + b)) (table t (high + b)) x))
        ∙ only_line o table tables t (low + b) (high + b) x some first;
  }

  -- one table more
  pub products-next : (n : ℕ) (rows new : List X) (t : T) (f g : ℕ → ℕ) → n < length tables → t ≡ get_or tables n t → length new ≡ length rows →
      AreProducts number o table tables low high x n rows →
      ((b : ℕ) → b < length rows → f b ≡ table t (low + b)) → ((b : ℕ) → b < length rows → g b ≡ table t (high + b)) →
      ((b : ℕ) → b < length rows → entries number new b ≡ times o (entries number rows b) (line_at o (f b) (g b) x)) →
      AreProducts number o table tables low high x (n + 1) new
  products-next n rows new t f g inside is same so_far f_is g_is are = record {
    are = λ b in_new.
        let in_rows : b < length rows = omega (arith, in_new, same) in
        let before = map table (take n tables) in
        are b in_rows
        ∙ ap (λ p. times o p (line_at o (f b) (g b) x)) (so_far.are b in_rows)
        ∙ ap (λ v. times o (lines_at o before (low + b) (high + b) x) (line_at o v (g b) x)) (f_is b in_rows)
        ∙ ap (λ v. times o (lines_at o before (low + b) (high + b) x) (line_at o (table t (low + b)) v x)) (g_is b in_rows)
        ∙ sym (lines_at-append o ring before (table t) (low + b) (high + b) x)
        ∙ sym (ap (λ fs. lines_at o fs (low + b) (high + b) x) (map_more table tables n t inside ∙ ap (λ u. before ++ table u ∷ []) (sym is)));
  }

  -- all of them, added up as products with ones
  pub products-total : (n size : ℕ) (rows ones : List X) → AreProducts number o table tables low high x n rows → n ≡ length tables → length rows ≡ size →
      ((b : ℕ) → b < size → entries number ones b ≡ 1) →
      products o (length rows) (entries number rows) (entries number ones) ≡ sum_below o size (λ b. lines_at o (map table tables) (low + b) (high + b) x)
  products-total n size rows ones done all same are_ones =
      let whole : take n tables ≡ tables = take_all n tables (omega (arith, all)) in
      products-sum o (length rows) size (entries number rows) (entries number ones) _ same (λ b inside.
      ap (times o (entries number rows b)) (are_ones b inside)
      ∙ times-one o ring (entries number rows b)
      ∙ ap (element o) (done.are b (omega (arith, inside, same)) ∙ ap (λ ts. lines_at o (map table ts) (low + b) (high + b) x) whole)
      ∙ element-lines_at o ring (map table tables) (low + b) (high + b) x)
