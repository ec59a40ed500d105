-- Lists of elements, by their numbers.
use Rattle.std.proofs.Common.{◌≡◌, ℕ, zero, suc, ◌+◌, ◌<◌, List, [], ◌∷◌, ◌++◌, length, get_or, take, map, slice_index, sym, ◌∙◌, ap, arith, Some}
use Rattle.std.specs.List.{slice_get}
use Rattle.std.proofs.lemmas.List.{take_more, map_more, map-append, length-map}
use Rattle.sc_definitions.specs.Tables.{entries, rows_of}

-- one more, which the item at an index says
pub pushed : {X S : Type 0} (says : X → S) (xs : List X) (i : ℕ) (d : X) → i < length xs → (old new : List S) (s : S) →
    old ≡ map says (take i xs) → new ≡ old ++ s ∷ [] → s ≡ says (get_or xs i d) → new ≡ map says (take (i + 1) xs)
pushed says xs i d low old new s before more same =
    more ∙ ap (λ t. t ++ s ∷ []) before ∙ ap (λ q. map says (take i xs) ++ q ∷ []) same ∙ sym (map_more says xs i d low)

-- one more element, of the number at an index
pub pushed_number : {X : Type 0} (number : X → ℕ) (ns : List ℕ) (i : ℕ) → i < length ns → (xs new : List X) (x : X) →
    map number xs ≡ take i ns → new ≡ xs ++ x ∷ [] → number x ≡ get_or ns i 0 → map number new ≡ take (i + 1) ns
pushed_number number ns i low xs new x before more same =
    ap (map number) more ∙ map-append number xs (x ∷ []) ∙ ap (λ t. t ++ number x ∷ []) before ∙ ap (λ k. take i ns ++ k ∷ []) same ∙ sym (take_more ns i 0 low)

-- a list of elements is as long as that of their numbers
pub as_long : {X : Type 0} (number : X → ℕ) (xs : List X) (ns : List ℕ) → map number xs ≡ ns → length xs ≡ length ns
as_long number xs ns same = sym (length-map xs number) ∙ ap length same

-- the number of the item at an index
pub number_read : {X : Type 0} (number : X → ℕ) (xs : List X) (i : ℕ) (x : X) → i < length xs → x ≡ get_or xs i x → Some (number x) ≡ slice_get (map number xs) i
number_read number [] i x low is = absurd (omega arith)
number_read number (y ∷ xs) zero x low is = ap (λ v. Some (number v)) is
number_read number (y ∷ xs) (suc i) x low is = number_read number xs i x (omega arith) is

-- the table of elements is that of their numbers
pub entries-numbers : {X : Type 0} (number : X → ℕ) (xs : List X) (ns : List ℕ) → map number xs ≡ ns → entries number xs ≡ rows_of ns
unfolding entries rows_of
entries-numbers number xs ns is = ap (λ ys b. slice_index ys b) is
