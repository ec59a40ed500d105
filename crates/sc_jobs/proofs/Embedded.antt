-- The table of the images of elements.
use Rattle.std.proofs.Common.{◌≡◌, ℕ, zero, suc, ◌<◌, List, [], ◌∷◌, length, map, slice_index, refl, ap, ◌∙◌, arith}
use Rattle.sc_definitions.specs.Tables.{entries}

mapped : {X : Type 0} (f : ℕ → ℕ) (base : X → ℕ) (xs : List X) (b : ℕ) → b < length xs → slice_index (map (λ x. f (base x)) xs) b ≡ f (slice_index (map base xs) b)
mapped f base [] b low = absurd (omega (arith, low))
mapped f base (x ∷ xs) zero low = refl
mapped f base (x ∷ xs) (suc b) low = mapped f base xs b (omega (arith, low))

-- an entry is the image's number
pub entry-embedded : {X Y : Type 0} (f : ℕ → ℕ) (base : X → ℕ) (number : Y → ℕ) (xs : List X) (ys : List Y) (b : ℕ) → map number ys ≡ map (λ x. f (base x)) xs → b < length xs →
    entries number ys b ≡ f (entries base xs b)
unfolding entries
entry-embedded f base number xs ys b same low = ap (λ zs. slice_index zs b) same ∙ mapped f base xs b low

-- there are as many
pub length-embedded : {X Y : Type 0} (f : ℕ → ℕ) (base : X → ℕ) (number : Y → ℕ) (xs : List X) (ys : List Y) → map number ys ≡ map (λ x. f (base x)) xs → length ys ≡ length xs
length-embedded f base number [] [] same = refl
length-embedded f base number [] (y ∷ ys) same = cc
length-embedded f base number (x ∷ xs) [] same = cc
length-embedded f base number (x ∷ xs) (y ∷ ys) same = ap suc (length-embedded f base number xs ys (cc))
