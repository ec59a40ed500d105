-- The steps of a fold in place.
use Rattle.std.proofs.Common.{◌≡◌, ℕ, ◌+◌, ◌*◌, ◌<◌, ◌≤◌, List, ◌++◌, length, take, drop, ◌-◌, sym, ◌∙◌, ap, refl, arith, ⊎_elim}
use Rattle.std.proofs.lemmas.Bool.{cases_lt}
use Rattle.std.proofs.lemmas.List.{length-take-le}
use Rattle.sc_definitions.specs.Ring.{Ops}
use Rattle.sc_definitions.specs.Tables.{entries, bound, bound_low}
pub use Rattle.sc_field.proofs.WrittenLaws.{written-none, written-more, written-block}
use Rattle.sc_field.specs.Written.{HasWritten}
use Rattle.sc_table.proofs.EntryLaws.{entry-take, entry-drop, entry-append_left, entry-append_right}

-- The first n rows of each of the two quarters of a table's first half have become those of the folded table, and the others are as they were.
pub record AreQuartersFolded {X : Type 0} (number : X → ℕ) (folded : ℕ → ℕ) (quarter n : ℕ) (old new : List X) : Type 0 where
  pub low : (b : ℕ) → b < n → entries number new b ≡ folded b
  pub high : (b : ℕ) → b < n → entries number new (quarter + b) ≡ folded (quarter + b)
  pub low_left : (b : ℕ) → n ≤ b → b < quarter → entries number new b ≡ entries number old b
  pub high_left : (b : ℕ) → quarter + n ≤ b → entries number new b ≡ entries number old b

module _ {X : Type 0} (number : X → ℕ) (o : Ops) (r quarter half : ℕ) (whole : half ≡ quarter + quarter) where
  pub quarters-none : (rows : List X) → AreQuartersFolded number (bound o half r (entries number rows)) quarter 0 rows rows
  quarters-none rows = record {
    low = λ b h. absurd (omega (arith, h));
    high = λ b h. absurd (omega (arith, h));
    low_left = λ b h below. refl;
    high_left = λ b h. refl;
  }

  -- a row is bound from rows that are as they were
  bound-left : (f g : ℕ → ℕ) (b : ℕ) → f b ≡ g b → f (half + b) ≡ g (half + b) → bound o half r f b ≡ bound o half r g b
  unfolding bound
  bound-left f g b first second = cc

  -- both quarters' next n rows
  pub quarters-more : (m n : ℕ) (old new low high : List X) → m + n ≤ quarter →
      AreQuartersFolded number (bound o half r (entries number old)) quarter m old new →
      HasWritten number (bound o half r (entries number new)) m n new low →
      HasWritten number (bound o half r (entries number low)) (quarter + m) n low high →
      AreQuartersFolded number (bound o half r (entries number old)) quarter (m + n) old high
  quarters-more m n old new low high within so_far first second = record {
    low = λ b h. second.before b (omega arith) ∙ ⊎_elim
        (λ less. first.before b less ∙ so_far.low b less)
        (λ rest. first.written b rest h
        ∙ bound-left (entries number new) (entries number old) b (so_far.low_left b rest (omega arith)) (so_far.high_left (half + b) (omega (arith, whole, rest))))
        (cases_lt b m);
    high = λ b h. ⊎_elim
        (λ less. second.before (quarter + b) (omega arith) ∙ first.behind (quarter + b) (omega arith) ∙ so_far.high b less)
        (λ rest. second.written (quarter + b) (omega arith) (omega arith)
        ∙ bound-left (entries number low) (entries number old) (quarter + b)
        (first.behind (quarter + b) (omega arith) ∙ so_far.high_left (quarter + b) (omega arith))
        (first.behind (half + (quarter + b)) (omega (arith, whole)) ∙ so_far.high_left (half + (quarter + b)) (omega (arith, whole))))
        (cases_lt b m);
    low_left = λ b h below. second.before b (omega arith) ∙ first.behind b h ∙ so_far.low_left b (omega arith) below;
    high_left = λ b h. second.behind b (omega arith) ∙ first.behind b (omega arith) ∙ so_far.high_left b (omega arith);
  }

-- all rows of both quarters
pub quarters-all : {X : Type 0} (number : X → ℕ) (folded : ℕ → ℕ) (quarter n : ℕ) (old new : List X) → n ≡ quarter →
    AreQuartersFolded number folded quarter n old new → (b : ℕ) → b < 2 * quarter → entries number new b ≡ folded b
quarters-all number folded quarter n old new e done b low = ⊎_elim
    (λ less. done.low b (omega (arith, e, less)))
    (λ rest. let c = b - quarter in let at : quarter + c ≡ b = omega arith in
    sym (ap (entries number new) at) ∙ done.high c (omega arith) ∙ ap folded at)
    (cases_lt b quarter)

-- the last variable of n more rows, which are made from rows that are as they were
pub pairs-more : {X : Type 0} (number : X → ℕ) (o : Ops) (r m n : ℕ) (old new newer : List X) →
    HasWritten number (bound_low o r (entries number old)) 0 m old new → HasWritten number (bound_low o r (entries number new)) m n new newer →
    HasWritten number (bound_low o r (entries number old)) 0 (m + n) old newer
unfolding bound_low
pairs-more number o r m n old new newer first second =
    written-block number (bound_low o r (entries number old)) (bound_low o r (entries number new)) m n old new newer first second
    (λ b high low.
    let lo = first.behind (2 * b) (omega arith) in
    let hi = first.behind (2 * b + 1) (omega arith) in
    cc (lo, hi))

-- n rows of a list, from the given one on, were written as a part of it
pub written-part : {X : Type 0} (number : X → ℕ) (table : ℕ → ℕ) (from n k : ℕ) (rows part : List X) → k ≡ n → from + n ≤ length rows →
    length part ≡ n →
    ((c : ℕ) → c < n → entries number part c ≡ table (from + c)) →
    HasWritten number table from n rows (take from rows ++ (part ++ drop k (drop from rows)))
written-part number table from n k rows part same within size part_is =
    let first : length (take from rows) ≡ from = length-take-le from rows (omega (arith, within)) in
    let post = drop k (drop from rows) in
    let new = entries number (take from rows ++ (part ++ post)) in
    let after : (c : ℕ) → new (from + c) ≡ entries number (part ++ post) c = λ c. sym (ap (λ j. new (j + c)) first)
    ∙ entry-append_right number (take from rows) (part ++ post) c in
    record {
      written = λ b least low.
          let c = b - from in
          let at : from + c ≡ b = omega (arith, least) in
          let inside : c < n = omega (arith, low, least) in
          sym (ap new at) ∙ after c ∙ entry-append_left number part post c (omega (arith, inside, size)) ∙ part_is c inside ∙ ap table at;
      before = λ b low. entry-append_left number (take from rows) (part ++ post) b (omega (arith, low, first)) ∙ entry-take number rows from b low;
      behind = λ b high.
          let c = b - (from + n) in
          let at : from + (n + c) ≡ b = omega (arith, high) in
          let row : from + (k + c) ≡ b = omega (arith, high, same) in
          sym (ap new at) ∙ after (n + c) ∙ sym (ap (λ j. entries number (part ++ post) (j + c)) size) ∙ entry-append_right number part post c
          ∙ entry-drop number (drop from rows) k c ∙ entry-drop number rows from (k + c) ∙ ap (entries number rows) row;
    }
