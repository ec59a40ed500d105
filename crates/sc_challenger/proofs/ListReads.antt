-- Reads of a mapped list.
use Rattle.std.proofs.Common.{◌≡◌, ℕ, zero, suc, ◌<◌, List, [], ◌∷◌, length, map, refl, sym, ◌∙◌, ap, Some, None, get_or}
use Rattle.std.specs.List.{slice_get}
use Rattle.std.proofs.lemmas.List.{get_or-map}

pub get_or-map-read : {X Y : Type 0} (f : X → Y) (xs : List X) (i : ℕ) (x : X) (d : Y) → slice_get xs i ≡ Some x → get_or (map f xs) i d ≡ f x
get_or-map-read f [] i x d h = cc
get_or-map-read f (y ∷ xs) zero x d h = cc
get_or-map-read f (y ∷ xs) (suc i) x d h = get_or-map-read f xs i x d h

pub get_or-map-past : {X Y : Type 0} (f : X → Y) (xs : List X) (i : ℕ) (d : Y) → slice_get xs i ≡ None → get_or (map f xs) i d ≡ d
get_or-map-past f [] i d h = refl
get_or-map-past f (y ∷ xs) zero d h = cc
get_or-map-past f (y ∷ xs) (suc i) d h = get_or-map-past f xs i d h

-- what f gives of entry i
pub get_or-read : {X Y : Type 0} (f : X → Y) (xs : List X) (i j : ℕ) (x : X) (d : Y) → i < length xs → x ≡ get_or xs i x → i ≡ j → f x ≡ get_or (map f xs) j d
get_or-read f xs i j x d low is same =
    ap f is ∙ sym (get_or-map f xs i x d low) ∙ ap (λ k. get_or (map f xs) k d) same

pub ruleset reads = (get_or-map-read, get_or-map-past)
