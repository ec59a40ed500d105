-- Masks and the powers of their challenges.
use Rattle.std.specs.Prelude.{◌≡◌, ℕ, List, [], ◌∷◌, length, map, All}
use Rattle.std.specs.declared.vec.Vec.{Vec}
use Rattle.sc_definitions.specs.Ring.{Ops, ◌+⟨◌⟩◌, ◌*⟨◌⟩◌}
use Rattle.sc_zk_definitions.specs.Masks.{masks_at, powers_below}

-- lists of one length
abbrev pub AreOfLength : {X Z : Type 0} → ℕ → List (Vec X Z) → Type 0
AreOfLength l vs = All (λ v. length v.items ≡ l) vs

-- how long the first of these lists is, and 0 where there is none
abbrev pub first_length : {X Z : Type 0} → List (Vec X Z) → ℕ
first_length [] = 0
first_length (v ∷ vs) = length v.items

-- the sum of the products of two lists, as far as both go
unfoldable pub paired : Ops → List ℕ → List ℕ → ℕ
paired o [] ws = 0
paired o (c ∷ cs) [] = 0
paired o (c ∷ cs) (w ∷ ws) = c *⟨ o ⟩ w +⟨ o ⟩ paired o cs ws

-- the sum of these over two lists of lists
unfoldable pub all_paired : Ops → List (List ℕ) → List (List ℕ) → ℕ
all_paired o [] ws = 0
all_paired o (s ∷ ss) [] = 0
all_paired o (s ∷ ss) (w ∷ ws) = paired o s w +⟨ o ⟩ all_paired o ss ws

-- Masks of one length at their numbers are the sums of their coefficients times the powers of these.
abbrev pub CovectorsTell : Ops → Type 0
CovectorsTell o =
    (l : ℕ) (ss : List (List ℕ)) (xs : List ℕ) → All (λ s. length s ≡ l) ss → masks_at o ss xs ≡ all_paired o ss (map (powers_below o l) xs)
