-- The least number that passes a test.
use Rattle.std.specs.Prelude.{ℕ, zero, suc, Bool, if◌then◌else◌, Option, Some, None, option_map}

-- the least number below a count that passes a test, if one does
unfoldable pub least_below : ℕ → (ℕ → Bool) → Option ℕ
least_below zero test = None
least_below (suc n) test = if test 0 then Some 0 else option_map suc (least_below n (λ k. test (suc k)))
