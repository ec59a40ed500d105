-- What an observer sees of masked rounds, and what tells masks.
use Rattle.std.specs.Prelude.{◌≡◌, ◌≢◌, ℕ, ◌<◌, ◌≤◌, All, List, [], ◌∷◌, length, drop, map}
use Rattle.sc_definitions.specs.Ring.{Ops, ◌+⟨◌⟩◌}
use Rattle.sc_zk_definitions.specs.Masks.{masks_total, endpoint, Piece, masked_rounds, wire_of}

-- What an observer sees: the total of the masks, and the wires.
pub record View : Type 0 where
  pub mu : ℕ
  pub wires : List (List ℕ)

-- the view of masks, by the challenges and the plain pieces of their rounds
unfoldable pub view_of : Ops → ℕ → List (List ℕ) → List ℕ → List Piece → View
view_of o eps ss gs ps = record { mu = masks_total o ss; wires = map wire_of (masked_rounds o eps 0 ss gs ps) }

-- the endpoints of all masks but the first
abbrev pub later_endpoints : Ops → List (List ℕ) → List ℕ
later_endpoints o ss = map (endpoint o) (drop 1 ss)

-- lists of one length, of numbers below the size
abbrev pub AreListsOf : Ops → ℕ → List (List ℕ) → Type 0
AreListsOf o l [] = Unit {0}
AreListsOf o l (s ∷ ss) = (length s ≡ l) × All (λ c. c < o.size) s × AreListsOf o l ss

-- Masks are told by their view and the endpoints of all but the first.
abbrev pub MasksAreTold : Ops → Type 0
MasksAreTold o = (eps l : ℕ) (ss ts : List (List ℕ)) (gs : List ℕ) (ps : List Piece) → 3 ≤ l → 1 +⟨ o ⟩ 1 ≢ 0 →
    length ss ≡ length gs → length ss ≡ length ps → length ts ≡ length ss → AreListsOf o l ss → AreListsOf o l ts →
    view_of o eps ss gs ps ≡ view_of o eps ts gs ps → later_endpoints o ss ≡ later_endpoints o ts → ss ≡ ts
