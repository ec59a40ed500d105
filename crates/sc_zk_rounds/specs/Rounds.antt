-- A masked round, as one call plays it.
use Rattle.std.specs.Prelude.{◌≡◌, ◌<◌, ◌≤◌, ℕ, ◌+◌, List, [], ◌∷◌, length, map, drop, Result, Ok, Err}
use Rattle.std.specs.declared.vec.Vec.{Vec}
use Rattle.sc_definitions.specs.Ring.{Ops}
use Rattle.sc_definitions.specs.Channels.{NoWitnessFound}
use Rattle.sc_definitions.specs.ProverStates.{Setting, ProverState, message_in}
use Rattle.sc_zk_definitions.specs.MaskedRuns.{Masking, IsHalf, IsMaskedRound, piece_of, wire_after, IsMasked, IsMaskedInPart, IsMaskedWithoutWitness}
use Rattle.sc_commitments.specs.Matrices.{lists_in}
use Rattle.sc_transcript.specs.declared.error.SumcheckError.{SumcheckError}
use Rattle.sc_transcript.specs.declared.error.SumcheckError.TheVariants.{NoWitness, NoMemory}
use Rattle.sc_zk_rounds.specs.declared.mixing.Mixing.{Mixing}
use Rattle.sc_transcript.specs.declared.rounds.BatchShape.{BatchShape}
use Rattle.sc_zk_transcript.specs.declared.shape.ZkSumcheckShape.{ZkSumcheckShape}
use Rattle.sc_zk_transcript.specs.Shapes.{shape_made, IsFit}
use Rattle.sc_zk_rounds.specs.Values.{AreOfLength}
use Rattle.sc_zk_rounds.specs.Mixings.{IsMixing}

-- A round for each of these masks, which have one coefficient more than a round's wire has values.
pub record IsForMasks {X Z : Type 0} (s : BatchShape) (masks : List (Vec X Z)) : Type 0 where
  pub count : s.num_rounds ≡ length masks
  pub long : 2 ≤ s.width
  pub lengths : AreOfLength (s.width + 1) masks

-- The shape of a batch under these masks is fit.
pub record IsShapeOf {X Z : Type 0} (o : Ops) (masks : List (Vec X Z)) (s : ZkSumcheckShape) : Type 0 where
  pub is : s ≡ shape_made s.prelude (length masks) s.ell_zk s.pow_bits
  pub fit : IsFit o s
  pub lengths : AreOfLength s.ell_zk masks

-- The round after the challenges rs is of this mask, with these later ones, and of this combination.
pub record IsOfMask {EF : Type 0} (o : Ops) (number : EF → ℕ) (k : Masking) (rs : List ℕ) (mask : List EF) (x : EF) (m : Mixing EF) : Type 0 where
  pub half : IsHalf o k.half
  pub later : List (List ℕ)
  pub next : drop (length rs) k.masks ≡ map number mask ∷ later
  pub combination : k.eps ≡ number x
  pub mixing : IsMixing o number k rs m

-- What the round after the challenges rs leaves, by its answer: it is played; no witness was found, and the history ends with its wire; or memory ran out,
-- and nothing has moved.
abbrev pub MovesMasked : {X : Type 0} → (X → ℕ) → Setting → Masking → List ℕ → ProverState → ProverState → Result X SumcheckError → Type 0
MovesMasked number s k rs before after (Ok r) = IsMaskedRound s k before after rs (number r)
MovesMasked number s k rs before after (Err (NoWitness j)) =
    (j ≡ length rs) × NoWitnessFound s.channel before.history (wire_after s.ops k rs (piece_of (message_in s before))) after.history
    × (after ≡ record before { history = after.history })
MovesMasked number s k rs before after (Err NoMemory) = after ≡ before
MovesMasked number s k rs before after (Err e) = ⊥

-- What rounds of masks leave, from a start on, by their answer: all n were played, with the challenges rs; or some of them, and then memory ran out or no
-- witness was found.
abbrev pub PlaysMasks : {X : Type 0} → Setting → Masking → ℕ → ProverState → ProverState → List ℕ → Result X SumcheckError → Type 0
PlaysMasks s k n start now rs (Ok x) = IsMasked s k start now rs × (length rs ≡ n)
PlaysMasks s k n start now rs (Err NoMemory) = IsMaskedInPart s k start now
PlaysMasks s k n start now rs (Err (NoWitness i)) = (i < n) × ((p : IsMaskedWithoutWitness s k start now) × (length p.rs ≡ i))
PlaysMasks s k n start now rs (Err e) = ⊥

-- They are these masks, of this combination, and this is what they make of the first round.
pub record AreMasks {EF Z : Type 0} (o : Ops) (number : EF → ℕ) (k : Masking) (masks : List (Vec EF Z)) (x : EF) (m : Mixing EF) : Type 0 where
  pub half : IsHalf o k.half
  pub are : k.masks ≡ lists_in number masks
  pub combination : k.eps ≡ number x
  pub mixing : IsMixing o number k [] m
