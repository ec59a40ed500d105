-- What is read from a list is its table's entry, after each change of the list.
use Rattle.std.proofs.Common.{◌≡◌, ◌≢◌, ℕ, zero, suc, ◌+◌, ◌<◌, ◌≤◌, replicate, get_or, List, [], ◌∷◌, ◌++◌, length, set, take, drop, sym, ◌∙◌, ap, refl, arith}
use Rattle.std.proofs.lemmas.List.{length-drop, length-take-le}
use Rattle.sc_definitions.specs.Ring.{Ops, IsRing}
use Rattle.sc_definitions.specs.Tables.{entries}
pub use Rattle.sc_definitions.proofs.LoopLaws.{entry-read}

-- a read of a list of numbers
pub entry-at : (xs : List ℕ) (i : ℕ) → entries (λ n. n) xs i ≡ get_or xs i 0
unfolding entries
entry-at [] i = refl
entry-at (x ∷ xs) zero = refl
entry-at (x ∷ xs) (suc i) = entry-at xs i

-- ---- a write

pub entry-set_same : {X : Type 0} (number : X → ℕ) (xs : List X) (i : ℕ) (y : X) → i < length xs → entries number (set xs i y) i ≡ number y
unfolding entries
entry-set_same number [] i y low = absurd (omega arith)
entry-set_same number (x ∷ xs) zero y low = refl
entry-set_same number (x ∷ xs) (suc i) y low = entry-set_same number xs i y (omega arith)

pub entry-set_other : {X : Type 0} (number : X → ℕ) (xs : List X) (i j : ℕ) (y : X) → j ≢ i → entries number (set xs i y) j ≡ entries number xs j
unfolding entries
entry-set_other number [] i j y apart = refl
entry-set_other number (x ∷ xs) zero zero y apart = absurd (apart refl)
entry-set_other number (x ∷ xs) zero (suc j) y apart = refl
entry-set_other number (x ∷ xs) (suc i) zero y apart = refl
entry-set_other number (x ∷ xs) (suc i) (suc j) y apart = entry-set_other number xs i j y (λ e. apart (ap suc e))

-- ---- parts of a list, and lists that are joined

pub entry-take : {X : Type 0} (number : X → ℕ) (xs : List X) (n i : ℕ) → i < n → entries number (take n xs) i ≡ entries number xs i
unfolding entries
entry-take number xs zero i low = absurd (omega arith)
entry-take number [] (suc n) i low = refl
entry-take number (x ∷ xs) (suc n) zero low = refl
entry-take number (x ∷ xs) (suc n) (suc i) low = entry-take number xs n i (omega arith)

pub entry-drop : {X : Type 0} (number : X → ℕ) (xs : List X) (n i : ℕ) → entries number (drop n xs) i ≡ entries number xs (n + i)
unfolding entries
entry-drop number xs zero i = let e : i ≡ 0 + i = omega arith in ap (entries number xs) e
entry-drop number [] (suc n) i = refl
entry-drop number (x ∷ xs) (suc n) i =
    let e : suc (n + i) ≡ suc n + i = omega arith in
    entry-drop number xs n i ∙ ap (entries number (x ∷ xs)) e

pub entry-append_left : {X : Type 0} (number : X → ℕ) (xs ys : List X) (i : ℕ) → i < length xs → entries number (xs ++ ys) i ≡ entries number xs i
unfolding entries
entry-append_left number [] ys i low = absurd (omega arith)
entry-append_left number (x ∷ xs) ys zero low = refl
entry-append_left number (x ∷ xs) ys (suc i) low = entry-append_left number xs ys i (omega arith)

pub entry-append_last : {X : Type 0} (number : X → ℕ) (xs : List X) (y : X) → entries number (xs ++ y ∷ []) (length xs) ≡ number y
unfolding entries
entry-append_last number [] y = refl
entry-append_last number (x ∷ xs) y = entry-append_last number xs y

pub entry-append_right : {X : Type 0} (number : X → ℕ) (xs ys : List X) (i : ℕ) → entries number (xs ++ ys) (length xs + i) ≡ entries number ys i
unfolding entries
entry-append_right number [] ys i = let e : 0 + i ≡ i = omega arith in ap (entries number ys) e
entry-append_right number (x ∷ xs) ys i =
    let e : suc (length xs) + i ≡ suc (length xs + i) = omega arith in
    ap (entries number (x ∷ (xs ++ ys))) e ∙ entry-append_right number xs ys i

-- an entry of a part of a list
pub part-entry : {X : Type 0} (number : X → ℕ) (xs : List X) (n from k at : ℕ) → k < n → from + k ≡ at → entries number (take n (drop from xs)) k ≡ entries number xs at
part-entry number xs n from k at low e = entry-take number (drop from xs) n k low ∙ entry-drop number xs from k ∙ ap (entries number xs) e

-- how long a part of a list is
pub part-length : {X : Type 0} (xs : List X) (n from rows : ℕ) → n ≡ rows → from + rows ≤ length xs → length (take n (drop from xs)) ≡ rows
part-length xs n from rows e within = length-take-le n (drop from xs) (omega (arith, e, length-drop from xs, within)) ∙ e

-- ---- other numbers, and equal values

-- an entry of a table is an element
pub entry-below : {X : Type 0} (o : Ops) (number : X → ℕ) → IsRing o → ((x : X) → number x < o.size) → (xs : List X) (b : ℕ) → entries number xs b < o.size
unfolding entries
entry-below o number ring low [] b = omega (arith, ring.at_least_two)
entry-below o number ring low (x ∷ xs) zero = low x
entry-below o number ring low (x ∷ xs) (suc b) = entry-below o number ring low xs b

-- reading through a map that keeps zero
pub entry-embedded : {X : Type 0} (h : ℕ → ℕ) (number : X → ℕ) (xs : List X) (b : ℕ) → h 0 ≡ 0 → entries (λ x. h (number x)) xs b ≡ h (entries number xs b)
unfolding entries
entry-embedded h number [] b z = sym z
entry-embedded h number (x ∷ xs) zero z = refl
entry-embedded h number (x ∷ xs) (suc b) z = entry-embedded h number xs b z

pub entry-replicate : {X : Type 0} (number : X → ℕ) (x : X) (n b : ℕ) → number x ≡ 0 → entries number (replicate n x) b ≡ 0
unfolding entries
entry-replicate number x zero b none = refl
entry-replicate number x (suc n) zero none = none
entry-replicate number x (suc n) (suc b) none = entry-replicate number x n b none

take_none : {X : Type 0} (k : ℕ) → take {A = X} k [] ≡ []
take_none zero = refl
take_none (suc k) = refl

-- an empty list that was filled up
pub entry-filled : {X : Type 0} (number : X → ℕ) (none : List X) (x : X) (k n b : ℕ) → none ≡ [] → number x ≡ 0 → entries number (take k none ++ replicate n x) b ≡ 0
entry-filled number none x k n b is zero_is =
    ap (λ l. entries number (take k l ++ replicate n x) b) is
    ∙ ap (λ l. entries number (l ++ replicate n x) b) (take_none k)
    ∙ entry-replicate number x n b zero_is
