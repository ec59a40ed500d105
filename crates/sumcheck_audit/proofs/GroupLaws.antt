-- What several groups say, group after group.
use Rattle.std.proofs.Common.{◌≡◌, ℕ, ◌+◌, ◌<◌, List, [], ◌∷◌, ◌++◌, length, get_or, take, map, refl, sym, ◌∙◌, ap}
use Rattle.std.specs.List.{flat_map}
use Rattle.std.proofs.lemmas.List.{take_more, flat_map_more}

-- one more of the one list says the same as the item that was read at an index of the other
pub flat_map-read : {X Y A : Type 0} (f : X → List A) (h : Y → List A) (xs : List X) (ys : List Y) (x : X) (y : Y) (i : ℕ) → i < length ys → y ≡ get_or ys i y →
    flat_map f xs ≡ flat_map h (take i ys) → f x ≡ h y → flat_map f (xs ++ x ∷ []) ≡ flat_map h (take (i + 1) ys)
flat_map-read f h xs ys x y i below is before same =
    sym (flat_map_more f [] xs x) ∙ ap (λ l. l ++ f x) before ∙ ap (λ l. flat_map h (take i ys) ++ l) (same ∙ ap h is)
    ∙ flat_map_more h [] (take i ys) (get_or ys i y) ∙ ap (flat_map h) (sym (take_more ys i y below))

-- the images of a list of elements are those of their numbers
pub embedded_numbers : {X : Type 0} (embedding : ℕ → ℕ) (number : X → ℕ) (xs : List X) (ns : List ℕ) → map number xs ≡ ns → map (λ x. embedding (number x)) xs ≡ map embedding ns
embedded_numbers embedding number [] [] same = refl
embedded_numbers embedding number [] (n ∷ ns) same = cc
embedded_numbers embedding number (x ∷ xs) [] same = cc
embedded_numbers embedding number (x ∷ xs) (n ∷ ns) same =
    let head : number x ≡ n = cc in
    let tail : map number xs ≡ ns = cc in
    ap (λ k. embedding k ∷ map (λ x. embedding (number x)) xs) head ∙ ap (λ t. embedding n ∷ t) (embedded_numbers embedding number xs ns tail)
