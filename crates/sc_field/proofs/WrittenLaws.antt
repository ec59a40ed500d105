-- The steps of a loop that writes a part of a list.
use Rattle.std.proofs.Common.{◌≡◌, ◌≢◌, ℕ, ◌+◌, ◌<◌, ◌≤◌, List, length, set, sym, ◌∙◌, ap, refl, arith, ⊎_elim}
use Rattle.std.proofs.lemmas.Bool.{cases_lt}
use Rattle.sc_definitions.specs.Tables.{entries}
use Rattle.sc_field.specs.Written.{HasWritten}
use Rattle.sc_field.proofs.EntryLaws.{entry-set_same, entry-set_other}

module _ {X : Type 0} (number : X → ℕ) where
  -- before the first row
  pub written-none : (table : ℕ → ℕ) (from : ℕ) (rows : List X) → HasWritten number table from 0 rows rows
  written-none table from rows = record {
    written = λ b least low. absurd (omega (arith, least, low));
    before = λ b low. refl;
    behind = λ b high. refl;
  }

  -- one row more
  pub written-more : (table : ℕ → ℕ) (from n : ℕ) (old new : List X) (y : X) → from + n < length new →
      HasWritten number table from n old new → number y ≡ table (from + n) → HasWritten number table from (n + 1) old (set new (from + n) y)
  written-more table from n old new y low so_far is = record {
    written = λ b least h. ⊎_elim
        (λ less. let apart : b ≢ from + n = omega arith in entry-set_other number new (from + n) b y apart ∙ so_far.written b least less)
        (λ at. let same : from + n ≡ b = omega arith in
        sym (ap (entries number (set new (from + n) y)) same) ∙ entry-set_same number new (from + n) y low ∙ is ∙ ap table same)
        (cases_lt b (from + n));
    before = λ b h. let apart : b ≢ from + n = omega arith in entry-set_other number new (from + n) b y apart ∙ so_far.before b h;
    behind = λ b h. let apart : b ≢ from + n = omega arith in entry-set_other number new (from + n) b y apart ∙ so_far.behind b (omega arith);
  }

  -- n rows more, after the first m
  pub written-block : (table next : ℕ → ℕ) (m n : ℕ) (old new newer : List X) → HasWritten number table 0 m old new → HasWritten number next m n new newer →
      ((b : ℕ) → m ≤ b → b < m + n → next b ≡ table b) → HasWritten number table 0 (m + n) old newer
  written-block table next m n old new newer first second same = record {
    written = λ b least h. ⊎_elim
        (λ less. second.before b less ∙ first.written b least (omega arith))
        (λ high. second.written b high (omega arith) ∙ same b high (omega arith))
        (cases_lt b m);
    before = λ b h. absurd (omega (arith, h));
    behind = λ b h. second.behind b (omega arith) ∙ first.behind b (omega arith);
  }
