-- Tables of which each entry is moved by itself, one after the other.
use Rattle.std.proofs.Common.{◌≡◌, ◌≢◌, ℕ, ◌+◌, ◌<◌, ◌≤◌, List, length, set, sym, ◌∙◌, ap, arith, ⊎_elim}
use Rattle.std.proofs.lemmas.Bool.{cases_lt}
use Rattle.sc_definitions.specs.Tables.{entries}
use Rattle.sc_table.proofs.EntryLaws.{entry-set_same, entry-set_other}

-- the first i entries are moved, each as its place says, and the others are those of old
pub record IsMovedSoFar {X : Type 0} (number : X → ℕ) (move : ℕ → ℕ → ℕ) (i : ℕ) (old new : List X) : Type 0 where
  pub done : (b : ℕ) → b < i → entries number new b ≡ move b (entries number old b)
  pub left : (b : ℕ) → i ≤ b → entries number new b ≡ entries number old b

pub moved-more : {X : Type 0} (number : X → ℕ) (move : ℕ → ℕ → ℕ) (old : List X) (i : ℕ) (new : List X) (y : X) → i < length new → IsMovedSoFar number move i old new →
    number y ≡ move i (entries number new i) → IsMovedSoFar number move (i + 1) old (set new i y)
moved-more number move old i new y low so_far is = record {
  done = λ b h. ⊎_elim
      (λ less. let apart : b ≢ i = omega arith in entry-set_other number new i b y apart ∙ so_far.done b less)
      (λ at. let same : i ≡ b = omega arith in
      sym (ap (entries number (set new i y)) same)
      ∙ entry-set_same number new i y low ∙ is
      ∙ ap (move i) (so_far.left i (omega arith))
      ∙ ap (λ k. move k (entries number old k)) same)
      (cases_lt b i);
  left = λ b h. let apart : b ≢ i = omega arith in entry-set_other number new i b y apart ∙ so_far.left b (omega arith);
}
