-- A field is an algebra and an extension of degree 1 of itself.
use Rattle.std.proofs.Common.{◌≡◌, ℕ, zero, suc, ◌<◌, List, [], ◌∷◌, length, get_or, All, refl, arith}
use Rattle.sc_definitions.specs.Ring.{Ops, IsRingMap, IsExtension, IsRepresentation}

pub identity_map : (o : Ops) → IsRingMap o o (λ x. x)
identity_map o = record {
  below = λ x h. h;
  zero_kept = refl;
  one_kept = refl;
  plus_kept = λ x y _ _. refl;
  times_kept = λ x y _ _. refl;
}

first_below : (n : ℕ) (ns : List ℕ) → length ns ≡ 1 → All (λ x. x < n) ns → get_or ns 0 0 < n
first_below n [] e h = absurd (omega arith)
first_below n (x ∷ xs) e h = h 0 0 (omega arith)

one_below : (n x k d : ℕ) → x < n → k < 1 → get_or (x ∷ []) k d < n
one_below n x zero d h low = h
one_below n x (suc k) d h low = absurd (omega arith)

only : (n : ℕ) (ns : List ℕ) → length ns ≡ 1 → get_or ns 0 0 ∷ [] ≡ ns
only n [] e = absurd (omega arith)
only n (x ∷ []) e = refl
only n (x ∷ (y ∷ ys)) e = absurd (omega arith)

pub own_extends : (o : Ops) → IsExtension o o 1 (λ x. x ∷ []) (λ xs. get_or xs 0 0)
own_extends o = record {
  degree_least = omega arith;
  degree_most = omega arith;
  length_parts = λ x _. refl;
  parts_below = λ x h k d low. one_below o.size x k d h low;
  joined_below = λ ns e h. first_below o.size ns e h;
  joined_split = λ x _. refl;
  split_joined = λ ns e _. only o.size ns e;
}

pub own_representation : (o : Ops) → IsRepresentation o o (λ x. x) (λ x. x)
own_representation o = record { forth = identity_map o; back = identity_map o; back_forth = λ x _. refl; forth_back = λ x _. refl }
