-- Views and plain pieces by the numbers of their elements, and what fits together.
use Rattle.std.specs.Prelude.{◌≡◌, ◌≤◌, ◌+◌, ℕ, All, List, [], ◌∷◌, length, map}
use Rattle.std.specs.declared.vec.Vec.{Vec}
use Rattle.sc_zk_definitions.specs.Masks.{Piece, piece}
use Rattle.sc_zk_definitions.specs.Views.{View}
use Rattle.sc_zk_rounds.specs.Values.{AreOfLength, first_length}
use Rattle.sc_zk_views.specs.declared.view.PlainPiece.{PlainPiece}
use Rattle.sc_zk_views.specs.declared.view.RealView.{RealView}

-- plain pieces by their numbers
abbrev pub pieces_in : {X : Type 0} → (X → ℕ) → List (PlainPiece X) → List Piece
pieces_in number ps = map (λ p. piece (number p.c0) (number p.c_inf)) ps

-- rows by their numbers
abbrev pub rows_in : {X : Type 0} → (X → ℕ) → List (List X) → List (List ℕ)
rows_in number rows = map (map number) rows

-- a view by its numbers
abbrev pub view_in : {X : Type 0} → (X → ℕ) → RealView X → View
view_in number v = record { mu = number v.mu_tilde; wires = rows_in number v.wires }

-- how long the first of these rows is, and 0 where there is none
abbrev pub width_of : {X : Type 0} → List (List X) → ℕ
width_of [] = 0
width_of (row ∷ rows) = length row

-- There are masks, one for each plain piece and challenge, all of one length, which is three or
-- more.
pub record MasksFit {X Z : Type 0} (ps : List (PlainPiece X)) (gs : List X) (masks : List (Vec X Z)) : Type 0 where
  pub some : 1 ≤ length masks
  pub pieces : length masks ≡ length ps
  pub challenges : length masks ≡ length gs
  pub long : 3 ≤ first_length masks
  pub same : AreOfLength (first_length masks) masks

-- There are wires, one for each plain piece and challenge, and one more than endpoints, all of one
-- length, which is two or more.
pub record ViewFits {X : Type 0} (ps : List (PlainPiece X)) (gs : List X) (v : RealView X) (es : List X) : Type 0 where
  pub some : 1 ≤ length v.wires
  pub pieces : length v.wires ≡ length ps
  pub challenges : length v.wires ≡ length gs
  pub ends : length v.wires ≡ length es + 1
  pub long : 2 ≤ width_of v.wires
  pub same : All (λ row. length row ≡ width_of v.wires) v.wires
