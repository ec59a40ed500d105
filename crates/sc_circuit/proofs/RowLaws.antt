-- Rows of a table that are written one after the other.
use Rattle.std.proofs.Common.{◌≡◌, ℕ, ◌+◌, ◌<◌, List, length, set, sym, subst, arith}
use Rattle.sc_field.specs.Written.{HasWritten}
use Rattle.sc_field.proofs.WrittenLaws.{written-more}

-- one row more, from the first on
pub written-next : {X : Type 0} (number : X → ℕ) (table : ℕ → ℕ) (n : ℕ) (old new : List X) (y : X) → n < length new → HasWritten number table 0 n old new → number y ≡ table n →
    HasWritten number table 0 (n + 1) old (set new n y)
written-next number table n old new y low so_far is =
    let at : 0 + n ≡ n = omega arith in
    subst (λ k. HasWritten number table 0 (n + 1) old (set new k y)) at
    (written-more number table 0 n old new y (subst (λ k. k < length new) (sym at) low) so_far (subst (λ k. number y ≡ table k) (sym at) is))
