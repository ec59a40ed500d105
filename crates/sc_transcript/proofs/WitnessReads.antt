-- Reads of a list of numbers.
use Rattle.std.proofs.Common.{◌≡◌, ℕ, zero, suc, ◌<◌, ◌≤◌, List, [], ◌∷◌, length, map, get_or, refl, ap, arith}

-- within the list
pub read_at : {X : Type 0} (number : X → ℕ) (xs : List X) (i : ℕ) (x : X) → i < length xs → x ≡ get_or xs i x → number x ≡ get_or (map number xs) i 0
read_at number [] i x low is = absurd (omega arith)
read_at number (y ∷ xs) zero x low is = ap number is
read_at number (y ∷ xs) (suc i) x low is = read_at number xs i x (omega arith) is

-- past its end
pub read_past : {X : Type 0} (number : X → ℕ) (xs : List X) (i : ℕ) → length xs ≤ i → 0 ≡ get_or (map number xs) i 0
read_past number [] i past = refl
read_past number (y ∷ xs) zero past = absurd (omega arith)
read_past number (y ∷ xs) (suc i) past = read_past number xs i (omega arith)

pub ruleset reads = (read_at, read_past)

-- a message within a list, as an entry of the list of messages
pub message_at : {X Y : Type 0} (f : X → Y) (xs : List X) (i : ℕ) (x : X) → i < length xs → x ≡ get_or xs i x → f x ≡ get_or (map f xs) i (f x)
message_at f [] i x low is = absurd (omega arith)
message_at f (y ∷ xs) zero x low is = ap f is
message_at f (y ∷ xs) (suc i) x low is = message_at f xs i x (omega arith) is
