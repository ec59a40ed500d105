-- Masks that explain a view: the inversion of masked rounds.
use Rattle.std.specs.Prelude.{◌≡◌, ◌≢◌, ℕ, suc, ◌<◌, ◌≤◌, All, List, [], ◌∷◌, length}
use Rattle.sc_definitions.specs.Ring.{Ops, power, ◌+⟨◌⟩◌, ◌-⟨◌⟩◌, ◌*⟨◌⟩◌}
use Rattle.sc_definitions.specs.Polynomials.{poly_at, poly_scaled}
use Rattle.sc_definitions.specs.Interpolation.{inverse}
use Rattle.sc_zk_definitions.specs.Masks.{sum_of, total_of, Piece}
use Rattle.sc_zk_definitions.specs.Views.{View, view_of, later_endpoints, AreListsOf}

-- one half
abbrev pub half_of : Ops → ℕ
half_of o = inverse o (1 +⟨ o ⟩ 1)

-- What undoes the mix of a round: one half, and the combination.
pub record Unmixing : Type 0 where
  pub half : ℕ
  pub eps : ℕ

-- the record of these
abbrev pub unmixing : ℕ → ℕ → Unmixing
unmixing half eps = record { half = half; eps = eps }

-- The mask of a round whose endpoint is e, by the round's wire: `done` is the sum of the earlier
-- masks at their challenges, and `ends` are the endpoints of the masks after it. Each coefficient
-- but the linear one is read off the wire, and that one off the endpoint.
unfoldable pub explained_mask : Ops → Unmixing → ℕ → ℕ → List ℕ → Piece → List ℕ → List ℕ
explained_mask o m done e ends p [] = []
explained_mask o m done e ends p (w ∷ []) = []
explained_mask o m done e ends p (w ∷ v ∷ ws) =
    let u = power o m.half (length ends) in
    let c0 = u *⟨ o ⟩ (w -⟨ o ⟩ m.eps *⟨ o ⟩ p.constant -⟨ o ⟩ total_of o ends) -⟨ o ⟩ done in
    let c2 = u *⟨ o ⟩ (v -⟨ o ⟩ m.eps *⟨ o ⟩ p.leading) in
    let cs = poly_scaled o u ws in
    c0 ∷ e -⟨ o ⟩ (c0 +⟨ o ⟩ c0) -⟨ o ⟩ (c2 +⟨ o ⟩ sum_of o cs) ∷ c2 ∷ cs

-- the masks of rounds whose endpoints are these
unfoldable pub explained_masks : Ops → Unmixing → ℕ → List ℕ → List ℕ → List Piece → List (List ℕ) → List (List ℕ)
explained_masks o m done [] gs ps ws = []
explained_masks o m done (e ∷ es) [] ps ws = []
explained_masks o m done (e ∷ es) (g ∷ gs) [] ws = []
explained_masks o m done (e ∷ es) (g ∷ gs) (p ∷ ps) [] = []
explained_masks o m done (e ∷ es) (g ∷ gs) (p ∷ ps) (w ∷ ws) =
    let s = explained_mask o m done e es p w in
    s ∷ explained_masks o m (done +⟨ o ⟩ poly_at o s g) es gs ps ws

-- the endpoint of the first mask, by the total of all and the endpoints of the others
unfoldable pub first_endpoint : Ops → ℕ → ℕ → List ℕ → ℕ
first_endpoint o half mu es = power o half (length es) *⟨ o ⟩ mu -⟨ o ⟩ sum_of o es

-- the masks that explain a view, given the endpoints of all but the first
abbrev pub explained : Ops → ℕ → View → List ℕ → List ℕ → List Piece → List (List ℕ)
explained o eps v es gs ps =
    explained_masks o (unmixing (half_of o) eps) 0 (first_endpoint o (half_of o) v.mu es ∷ es) gs ps v.wires

-- For every view, and all endpoints but the first, there are masks that have them: the ones that
-- explain it.
abbrev pub ViewsAreExplained : Ops → Type 0
ViewsAreExplained o = (eps l : ℕ) (v : View) (es : List ℕ) (gs : List ℕ) (ps : List Piece) → 2 ≤ l → 1 +⟨ o ⟩ 1 ≢ 0 →
    v.mu < o.size → All (λ e. e < o.size) es → AreListsOf o l v.wires →
    length v.wires ≡ suc (length es) → length v.wires ≡ length gs → length v.wires ≡ length ps →
    AreListsOf o (suc l) (explained o eps v es gs ps) × (view_of o eps (explained o eps v es gs ps) gs ps ≡ v)
    × (later_endpoints o (explained o eps v es gs ps) ≡ es)
