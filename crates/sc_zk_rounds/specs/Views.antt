-- What contracts of masked rounds see of a prover, of its data, and of a code with a scheme of commitments.
use Rattle.std.specs.Prelude.{◌≡◌, ℕ, List, length, map, Option, Result}
use Rattle.std.specs.declared.vec.Vec.{Vec}
use Rattle.std.specs.declared.cmp.PartialEq.{Ghosts as PartialEqOf}
use Rattle.sc_definitions.specs.Ring.{Ops}
use Rattle.sc_definitions.specs.Events.{Extension}
use Rattle.sc_definitions.specs.Channels.{Wire}
use Rattle.sc_definitions.specs.ProverStates.{Setting, ProverState}
use Rattle.sc_definitions.specs.ProverViews.{ProverView, setting_at, prover_state_at}
use Rattle.sc_field.specs.declared.field.Field.{Ghosts as FieldOf}
use Rattle.sc_field.specs.declared.algebra.Algebra.{Ghosts as AlgebraOf}
use Rattle.sc_field.specs.declared.algebra.ExtensionField.{Ghosts as ExtensionOf}
use Rattle.sc_challenger.specs.Parties.{Party, channel_by}
use Rattle.sc_commitments.specs.declared.encoding.ZkEncoding.{Ghosts as EncodingOf}
use Rattle.sc_commitments.specs.declared.mmcs.Mmcs.{Ghosts as MmcsOf}
use Rattle.sc_rounds.specs.declared.strategy.SumcheckProver.{SumcheckProver}
use Rattle.sc_rounds.specs.ProverViews.{shown_by, stored_by}
use Rattle.sc_zk_rounds.specs.declared.data.ZkSumcheckData.{ZkSumcheckData}
use Rattle.sc_zk_rounds.specs.declared.data.Handoff.{Handoff}
use Rattle.rand_core.specs.Stream.{Stream}
use Rattle.sc_commitments.specs.Draws.{masks_from}
use Rattle.sc_commitments.specs.Matrices.{lists_in}
use Rattle.sc_zk_rounds.specs.Values.{AreOfLength}
use Rattle.sc_zk_rounds.specs.Data.{masked_wire_in}
use Rattle.sc_transcript.specs.declared.error.SumcheckError.{SumcheckError}
use Rattle.sc_zk_definitions.specs.MaskedRuns.{Masking}
use Rattle.sc_zk_definitions.specs.MaskedBatches.{MaskedBatch}
use Rattle.sc_zk_rounds.specs.Rounds.{MovesMasked, PlaysMasks}
use Rattle.sc_zk_transcript.specs.declared.shape.ZkSumcheckShape.{ZkSumcheckShape}
use Rattle.sc_zk_rounds.specs.Handoffs.{AskedMasks, asked_masks, batch_from, Handed}

-- what a residual prover tells: what it shows, and the challenge that it holds, if it holds one
pub record Residual : Type 0 where
  pub shown : ProverView
  pub held : Option ℕ

-- A prover that plays: its challenger, what it shows, and what is on the wire.
pub record Player : Type 0 where
  pub party : Party
  pub shown : ProverView
  pub wire : Wire

-- the record of these, by data that is on the wire
abbrev pub player : {F EF : Type 0} → (F → ℕ) → (EF → ℕ) → Party → ProverView → ZkSumcheckData F EF → Player
player base number p s d = record { party = p; shown = s; wire = masked_wire_in base number d }

-- where it stands
abbrev pub stands_at : Player → ProverState
stands_at p = prover_state_at p.shown p.party.history p.wire

-- Over which fields rounds go, and at which difficulty: the operations of the base field and of its extension, how elements of the latter go over a
-- channel, and the bits.
pub record Terms : Type 0 where
  pub base : Ops
  pub ops : Ops
  pub extension : Extension
  pub bits : ℕ

-- the record of these
abbrev pub terms : Ops → Ops → Extension → ℕ → Terms
terms base o E bits = record { base = base; ops = o; extension = E; bits = bits }

-- what stays while a player's rounds go on
abbrev pub setting_of : Terms → Player → Setting
setting_of t p = setting_at (channel_by p.party t.extension t.base.size t.bits) t.ops p.shown

-- what a player's masked round after the challenges rs leaves, by its answer
abbrev pub MovesPlayer : {X : Type 0} → (X → ℕ) → Terms → Masking → List ℕ → Player → Player → Result X SumcheckError → Type 0
MovesPlayer number t k rs before after result = MovesMasked number (setting_of t before) k rs (stands_at before) (stands_at after) result

-- what its rounds under n masks leave, by their answer, with the challenges rs
abbrev pub PlaysRounds : {X : Type 0} → Terms → Masking → ℕ → Player → Player → List ℕ → Result X SumcheckError → Type 0
PlaysRounds t k n before after rs result = PlaysMasks (setting_of t before) k n (stands_at before) (stands_at after) rs result

-- masks, with the words of their commitment and aux, as a shape has them
abbrev pub masks_for : {EF Z : Type 0} → (EF → ℕ) → ZkSumcheckShape → List (Vec EF Z) → List ℕ → EF → AskedMasks
masks_for number s masks words aux = asked_masks s.ell_zk (lists_in number masks) words (number aux)

-- the batch of a shape that a player plays under these masks
abbrev pub batch_of : Ops → Ops → Extension → ZkSumcheckShape → Player → AskedMasks → MaskedBatch
batch_of base o E s p m = batch_from s.prelude (setting_of (terms base o E s.pow_bits) p) (stands_at p) m

module _ {F EF : Type 0} {f : FieldOf F} {p : PartialEqOf F} {x : ExtensionOf EF F} {a : AlgebraOf EF F} {e : FieldOf EF} {q : PartialEqOf EF} where
  -- what it tells where it is handed on
  abbrev pub residual_in : SumcheckProver F EF f p x a e q → Residual
  residual_in s = record { shown = shown_by s; held = (stored_by s).held }

-- what is handed on, by what its prover tells
abbrev pub handed_in : {P EF K D : Type 0} → (P → Residual) → (EF → ℕ) → Handoff P EF K D → Handed
handed_in told number h = record {
  shown = (told h.residual_prover).shown;
  held = (told h.residual_prover).held;
  randomness = map number h.randomness;
  eps = number h.eps;
}

-- Masks, each with randomness: as many lists of it as masks, and each of its length.
pub record AreCoded {X Z W : Type 0} (l r : ℕ) (ss : List (Vec X Z)) (rs : List (Vec X W)) : Type 0 where
  pub same : length ss ≡ length rs
  pub masks : AreOfLength l ss
  pub randomness : AreOfLength r rs

-- masks and their randomness, by the numbers of their coefficients
pub record Coded : Type 0 where
  pub masks : List (List ℕ)
  pub randomness : List (List ℕ)

-- the record of these
abbrev pub coded_in : {X Z W : Type 0} → (X → ℕ) → List (Vec X Z) → List (Vec X W) → Coded
coded_in number masks randomness = record { masks = lists_in number masks; randomness = lists_in number randomness }

module _ {Enc M EF K D : Type 0} (z : EncodingOf Enc EF) (m : MmcsOf M EF K D) where
  -- masks and aux to play a batch under, which are encoded with their randomness and committed to
  abbrev pub masks_under : Enc → M → Coded → ℕ → AskedMasks
  masks_under encoding mmcs c aux =
      asked_masks (z.message_length encoding) c.masks (m.words_of mmcs (m.commitment_of mmcs (z.encoded encoding c.masks c.randomness))) aux

  -- the same of as many masks as n, with their randomness, that are drawn from a stream
  abbrev pub masks_drawn : Enc → M → ℕ → Stream → ℕ → AskedMasks
  masks_drawn encoding mmcs n s aux =
      let made = masks_from (z.message_from encoding) (z.randomness_from encoding) n s in masks_under encoding mmcs (record { masks = made.masks; randomness = made.randomness }) aux

  -- a commitment to them, with what is kept of it
  pub record IsOracle (encoding : Enc) (mmcs : M) (c : Coded) (oracle : K × D) : Type 0 where
    pub commitment : oracle.0 ≡ m.commitment_of mmcs (z.encoded encoding c.masks c.randomness)
    pub kept : m.keeps mmcs oracle.1 (z.encoded encoding c.masks c.randomness)

  -- what is handed on has the commitment to its masks
  abbrev pub HasOracle : {P : Type 0} → Enc → M → (EF → ℕ) → Handoff P EF K D → Type 0
  HasOracle encoding mmcs number h = IsOracle encoding mmcs (coded_in number h.mask_messages.items h.mask_randomness.items) h.mask_oracle
