-- Tables whose rows gain weights, row by row or block by block.
use Rattle.std.proofs.Common.{◌≡◌, ℕ, ◌+◌, ◌*◌, ◌/◌, ◌%◌, ◌^◌, ◌<◌, ◌≤◌, sym, ◌∙◌, ap, subst, arith, ⊎_elim, pow-add}
use Rattle.std.proofs.Math.Nat.{mod-lt, mul-div_cancel_left}
use Rattle.std.proofs.Math.Pow.{pow_mono}
use Rattle.std.proofs.lemmas.Bool.{cases_lt}
use Rattle.std.proofs.lemmas.Nat.{div_below, pow_pos}
use Rattle.sc_definitions.specs.Ring.{Ops, plus}

-- rows that were added to, read as the table that they are written back to
pub added-table : (o : Ops) (n : ℕ) (new_table new_rows rows table gain target : ℕ → ℕ) → new_table ≡ new_rows → rows ≡ table → ((b : ℕ) → b < n → new_rows b ≡ plus o (rows b) (gain b)) → ((b : ℕ) → b < n → gain b ≡ target b) →
    (b : ℕ) → b < n → new_table b ≡ plus o (table b) (target b)
added-table o n new_table new_rows rows table gain target back given added same b low =
    ap (λ f. f b) back ∙ added b low ∙ ap (λ f. plus o (f b) (gain b)) given ∙ ap (plus o (table b)) (same b low)

-- what holds at each place of each of q blocks of m rows holds at each row
pub by-blocks : (q m : ℕ) → 0 < m → (P : ℕ → Type 0) → ((a c : ℕ) → a < q → c < m → P (a * m + c)) → (b : ℕ) → b < q * m → P b
by-blocks q m some P at b low =
    let back : b / m * m + b % m ≡ b = omega arith in
    subst P back (at (b / m) (b % m) (div_below b m q some low) (mod-lt b some))

-- a point's rows are a part of all rows, and so few that the number of its coordinates is below that of the bits
pub few-coordinates : (n p k rows : ℕ) → p + k ≡ n → rows ≡ 2 ^ n → rows < 2 ^ 64 → p < 64
few-coordinates n p k rows sum is low = ⊎_elim (λ below. below) (λ above.
    let wide : 64 ≤ n = omega (arith, above, sum) in
    let more : 2 ^ 64 ≤ 2 ^ n = pow_mono wide in absurd (omega (arith, more, is, low))) (cases_lt p 64)

-- the rows of one block
pub block-is : (n p k rows : ℕ) → p + k ≡ n → rows ≡ 2 ^ n → rows / 2 ^ p ≡ 2 ^ k
block-is n p k rows sum is =
    ap (λ r. r / 2 ^ p) (is ∙ ap (λ e. 2 ^ e) (sym sum) ∙ pow-add 2 p k) ∙ mul-div_cancel_left (2 ^ k) (pow_pos p)
