-- A table that is written one value after the other.
use Rattle.std.proofs.Common.{◌≡◌, ℕ, ◌+◌, ◌<◌, List, [], ◌∷◌, ◌++◌, length, sym, ◌∙◌, ap, arith, ⊎_elim}
use Rattle.std.proofs.lemmas.Bool.{cases_lt}
use Rattle.std.proofs.lemmas.List.{length-append}
use Rattle.sc_definitions.specs.Tables.{entries}
use Rattle.sc_table.proofs.EntryLaws.{entry-append_left, entry-append_last}

-- The first n rows of a table are written.
pub record HasPushed {X : Type 0} (number : X → ℕ) (table : ℕ → ℕ) (n : ℕ) (xs : List X) : Type 0 where
  pub size : length xs ≡ n
  pub rows : (b : ℕ) → b < n → entries number xs b ≡ table b

module _ {X : Type 0} (number : X → ℕ) (table : ℕ → ℕ) where
  pub pushed-none : (xs : List X) → xs ≡ [] → HasPushed number table 0 xs
  pushed-none xs none = record { size = ap length none; rows = λ b low. absurd (omega (arith, low)) }

  pub pushed-more : (n : ℕ) (xs new : List X) (y : X) → new ≡ xs ++ y ∷ [] → HasPushed number table n xs → number y ≡ table n → HasPushed number table (n + 1) new
  pushed-more n xs new y more before is = record {
    size = ap length more ∙ length-append xs (y ∷ []) ∙ ap (λ k. k + 1) before.size;
    rows = λ b low. ap (λ l. entries number l b) more ∙ ⊎_elim
        (λ less. entry-append_left number xs (y ∷ []) b (omega (arith, less, before.size)) ∙ before.rows b less)
        (λ at.
        let last : length xs ≡ b = omega (arith, low, at, before.size) in
        let same : n ≡ b = omega (arith, low, at) in
        sym (ap (entries number (xs ++ y ∷ [])) last) ∙ entry-append_last number xs y ∙ is ∙ ap table same)
        (cases_lt b n);
  }
