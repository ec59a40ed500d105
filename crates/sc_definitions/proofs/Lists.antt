-- What is known of a list's items.
use Rattle.std.proofs.Common.{◌≡◌, ℕ, ◌<◌, All, List, length, get_or, subst, sym}

-- what all items have, one has that was read at an index
pub read_has : {X : Type 0} (P : X → Type 0) (xs : List X) (i : ℕ) (x : X) → All P xs → i < length xs → x ≡ get_or xs i x → P x
read_has P xs i x all low is = subst P (sym is) (all i x low)
