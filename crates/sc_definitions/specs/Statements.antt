-- Statements on a table, their weights by rows, and the batch of several statements.
use Rattle.std.specs.Prelude.{◌≡◌, ℕ, suc, ◌+◌, ◌-◌, ◌/◌, ◌%◌, ◌^◌, ◌==◌, Bool, List, [], ◌∷◌, length, map, nat_lt, if◌then◌else◌, Option, Some, None}
use Rattle.sc_definitions.specs.declared.false_claim.FalseClaim.{FalseClaim}
use Rattle.sc_definitions.specs.Ring.{Ops, ◌+⟨◌⟩◌, ◌*⟨◌⟩◌, power}
use Rattle.sc_definitions.specs.Tables.{Order, prefix, suffix, sum_below, equality_weight, monomial, inner_product}

-- What a statement speaks of: the value at a point; the successor's value at a point, in the slot that
-- a selector's coordinates fix; the sum of the entries times powers, or times products of coordinates.
pub data Kind : Type 0 where
  equality : (point : List ℕ) → Kind
  successor : (order : Order) → (selector : List ℕ) → (point : List ℕ) → Kind
  powers : (base : ℕ) → Kind
  products : (point : List ℕ) → Kind

-- a kind with its claimed value
pub record Statement : Type 0 where
  pub kind : Kind
  pub claimed : ℕ

-- the statement that claims a value
abbrev pub claims : Kind → ℕ → Statement
claims kind claimed = record { kind = kind; claimed = claimed }

-- the row after b; the last row is its own next
unfoldable pub next_row : ℕ → ℕ → ℕ
next_row n b = if nat_lt (b + 1) (2 ^ n) then b + 1 else b

-- the successor weight of a point at a row: the equality weights of all rows whose next is that row, in sum
unfoldable pub successor_weight : Ops → List ℕ → ℕ → ℕ
successor_weight o zs x = sum_below o (2 ^ length zs) (λ b. if next_row (length zs) b == x then equality_weight o zs b else 0)

-- The three sums that make the successor's value at a second point, of one length with the first: that of the last row and row 0;
-- those of each row but the last and the row after it, in sum; and that of the last row and itself.
unfoldable pub next_carry : Ops → List ℕ → List ℕ → ℕ
next_carry o zs xs = equality_weight o zs (2 ^ length zs - 1) *⟨ o ⟩ equality_weight o xs 0

unfoldable pub next_done : Ops → List ℕ → List ℕ → ℕ
next_done o zs xs = sum_below o (2 ^ length zs - 1) (λ b. equality_weight o zs b *⟨ o ⟩ equality_weight o xs (b + 1))

unfoldable pub next_omega : Ops → List ℕ → List ℕ → ℕ
next_omega o zs xs = equality_weight o zs (2 ^ length zs - 1) *⟨ o ⟩ equality_weight o xs (2 ^ length zs - 1)

-- the successor weight in a selector's slot; the selector's coordinates stand first for prefix and last for suffix
unfoldable pub slot_weight : Order → Ops → List ℕ → List ℕ → ℕ → ℕ
slot_weight prefix o selector zs b = equality_weight o selector (b / 2 ^ length zs) *⟨ o ⟩ successor_weight o zs (b % 2 ^ length zs)
slot_weight suffix o selector zs b = equality_weight o selector (b % 2 ^ length selector) *⟨ o ⟩ successor_weight o zs (b / 2 ^ length selector)

-- a statement's weight at a row
unfoldable pub weight_of : Ops → Kind → ℕ → ℕ
weight_of o (equality zs) b = equality_weight o zs b
weight_of o (successor order selector zs) b = slot_weight order o selector zs b
weight_of o (powers z) b = power o z b
weight_of o (products zs) b = monomial o zs b

-- how many variables a statement's point has, if it has one
abbrev pub arity_of : ℕ → Kind → ℕ
arity_of n (equality zs) = length zs
arity_of n (successor order selector zs) = length selector + length zs
arity_of n (powers z) = n
arity_of n (products zs) = length zs

-- the sum over all rows of table times weight
unfoldable pub true_value : Ops → ℕ → (ℕ → ℕ) → Kind → ℕ
true_value o n f kind = inner_product o n f (weight_of o kind)

-- the true value is the claimed one
unfoldable pub IsTrueOf : Ops → ℕ → (ℕ → ℕ) → Statement → Type 0
IsTrueOf o n f s = true_value o n f s.kind ≡ s.claimed

-- the same, as a test
unfoldable pub is_true_of : Ops → ℕ → (ℕ → ℕ) → Statement → Bool
is_true_of o n f s = true_value o n f s.kind == s.claimed

-- each statement is true
abbrev pub AllTrueOf : Ops → ℕ → (ℕ → ℕ) → List Statement → Type 0
AllTrueOf o n f [] = Unit {0}
AllTrueOf o n f (s ∷ ss) = IsTrueOf o n f s × AllTrueOf o n f ss

-- the first false one of statements that are numbered from i on
unfoldable pub first_false_claim : Ops → ℕ → (ℕ → ℕ) → ℕ → List Statement → Option FalseClaim
first_false_claim o n f i [] = None
first_false_claim o n f i (s ∷ ss) =
    if is_true_of o n f s then first_false_claim o n f (suc i) ss
    else Some (record { statement = i; claimed = s.claimed; actual = true_value o n f s.kind })

-- the sum of x_0 c^p + x_1 c^(p+1) + ..
unfoldable pub batched_by_powers : Ops → ℕ → ℕ → List ℕ → ℕ
batched_by_powers o c p [] = 0
batched_by_powers o c p (x ∷ xs) = power o c p *⟨ o ⟩ x +⟨ o ⟩ batched_by_powers o c (suc p) xs

-- the statements' weights at a row
abbrev pub weights_at : Ops → List Statement → ℕ → List ℕ
weights_at o ss b = map (λ s. weight_of o s.kind b) ss

-- the statements' claimed values
abbrev pub claimed_values : List Statement → List ℕ
claimed_values ss = map (λ s. s.claimed) ss

-- the statements' true values
abbrev pub true_values : Ops → ℕ → (ℕ → ℕ) → List Statement → List ℕ
true_values o n f ss = map (λ s. true_value o n f s.kind) ss

-- the batched weights: statement number i has the coefficient challenge^(initial + i)
unfoldable pub batched_weight : Ops → ℕ → ℕ → List Statement → ℕ → ℕ
batched_weight o challenge initial ss b = batched_by_powers o challenge initial (weights_at o ss b)

-- the batched claim
unfoldable pub batched_claim : Ops → ℕ → ℕ → List Statement → ℕ
batched_claim o challenge initial ss = batched_by_powers o challenge initial (claimed_values ss)
