-- Counts of faults, and what a call says of them.
use Rattle.std.specs.Prelude.{◌≡◌, ◌⊎◌, ◌==◌, if◌then◌else◌, ℕ, ◌+◌, ◌<◌, ◌≤◌, ◌-◌, ◌^◌, min, Result, MatchResult, OnOk, OnErr}

-- one more, up to the last value of a u64
abbrev pub raised : ℕ → ℕ
raised n = min (n + 1) (2 ^ 64 - 1)

-- The count rose, or it stands at its last value.
pub record HasRisen (old new : ℕ) : Type 0 where
  pub never_falls : old ≤ new
  pub risen : (old < new) ⊎ (new ≡ 2 ^ 64 - 1)

-- `Ok` leaves the count, and a fault is told only where the count rose.
abbrev pub Counts : {T E : Type 0} → ℕ → ℕ → Result T E → Type 0
Counts old new result = OnOk result (new ≡ old) × OnErr result (HasRisen old new)

-- A read raises the count of the bytes that it gave by no more than these, and that of reads that gave none by no more than itself.
abbrev pub Spends : {E : Type 0} → ℕ → ℕ → ℕ → ℕ → Result ℕ E → Type 0
Spends given given' dry dry' result = MatchResult result (λ n. (given' ≤ given + n) × (dry' ≤ dry + (if n == 0 then 1 else 0))) (λ _. (given' ≤ given) × (dry' ≤ dry))
