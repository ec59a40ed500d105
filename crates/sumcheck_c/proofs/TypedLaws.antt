-- Lists that are put into a caller's memory.
use Rattle.std.proofs.Common.{◌≡◌, ℕ, zero, suc, ◌<◌, ◌+◌, List, [], ◌∷◌, ◌++◌, length, get_or, take, drop, set, map, sym, ◌∙◌, ap, arith}

front-suc : {A : Type 0} (i : ℕ) (xs ys : List A) (x : A) → i < length xs → i < length ys → x ≡ get_or xs i x →
    set (take i xs ++ drop i ys) i x ≡ take (suc i) xs ++ drop (suc i) ys
front-suc i [] ys x low room is = absurd (omega arith)
front-suc i (z ∷ xs) [] x low room is = absurd (omega arith)
front-suc zero (z ∷ xs) (y ∷ ys) x low room is = ap (λ k. k ∷ ys) is
front-suc (suc i) (z ∷ xs) (y ∷ ys) x low room is = ap (λ l. z ∷ l) (front-suc i xs ys x (omega arith) (omega arith) is)

-- one item more of a list stands in front of another
pub front-step : {A : Type 0} (i : ℕ) (xs ys : List A) (x : A) → i < length xs → i < length ys → x ≡ get_or xs i x →
    set (take i xs ++ drop i ys) i x ≡ take (i + 1) xs ++ drop (i + 1) ys
front-step i xs ys x low room is =
    let next : suc i ≡ i + 1 = omega arith in
    front-suc i xs ys x low room is ∙ ap (λ j. take j xs ++ drop j ys) next

-- what an item that was read is made stands at its index
pub mapped-read : {A B : Type 0} (f : A → B) (xs : List A) (i : ℕ) (x : A) → i < length xs → x ≡ get_or xs i x → f x ≡ get_or (map f xs) i (f x)
mapped-read f [] i x low is = absurd (omega arith)
mapped-read f (y ∷ xs) zero x low is = ap f is
mapped-read f (y ∷ xs) (suc i) x low is = mapped-read f xs i x (omega arith) is

-- and one that is read there twice is the same
pub same-read : {A : Type 0} (xs : List A) (i : ℕ) (x y : A) → i < length xs → x ≡ get_or xs i x → y ≡ get_or xs i y → y ≡ x
same-read [] i x y low is other = absurd (omega arith)
same-read (z ∷ xs) zero x y low is other = other ∙ sym is
same-read (z ∷ xs) (suc i) x y low is other = same-read xs i x y (omega arith) is other
