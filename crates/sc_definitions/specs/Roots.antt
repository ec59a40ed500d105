-- The roots of a polynomial, counted.
use Rattle.std.specs.Prelude.{◌≢◌, ℕ, zero, suc, ◌+◌, ◌==◌, Bool, List, drop, slice_index, if◌then◌else◌}
use Rattle.sc_definitions.specs.Ring.{Ops, element}
use Rattle.sc_definitions.specs.Polynomials.{poly_at, AllZero}

-- how many numbers below n pass a test
unfoldable pub count_below : ℕ → (ℕ → Bool) → ℕ
count_below zero test = 0
count_below (suc n) test = (if test n then 1 else 0) + count_below n test

-- how many elements are roots
unfoldable pub root_count : Ops → List ℕ → ℕ
root_count o cs = count_below o.size (λ x. poly_at o cs x == 0)

-- Some coefficient is not zero, and p is the place of the last one that is not: the degree.
pub record IsLastPlace (o : Ops) (cs : List ℕ) (p : ℕ) : Type 0 where
  pub there : element o (slice_index cs p) ≢ 0
  pub none_after : AllZero o (drop (suc p) cs)
