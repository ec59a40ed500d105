-- What a simulator makes of what a generator is going to answer.
use Rattle.std.specs.Prelude.{◌≡◌, ◌⊎◌, ℕ, List}
use Rattle.rand_core.specs.Stream.{Stream}
use Rattle.sc_definitions.specs.Ring.{Ops}
use Rattle.sc_zk_definitions.specs.Masks.{masks_total}
use Rattle.sc_zk_definitions.specs.MaskedTranscripts.{wire_length}
use Rattle.sc_commitments.specs.declared.encoding.ZkEncoding.{Ghosts as EncodingOf}
use Rattle.sc_commitments.specs.declared.mmcs.Mmcs.{Ghosts as MmcsOf}
use Rattle.sc_commitments.specs.Draws.{draws_from, lists_from, masks_from, SomeDrawn, SomeMasksDrawn}
use Rattle.sc_zk_rounds.specs.Data.{Sent}

-- A draft: the commitment to masks with their randomness, its words, the masks' total, the wires, and the stream that is left.
pub record Draft (K : Type 0) : Type 0 where
  pub commitment : K
  pub words : List ℕ
  pub mu : ℕ
  pub wires : List (List ℕ)
  pub left : Stream

-- the next n wires of a stream, each the next draws of elements of a field of so many, as many as a round of masks of a length sends
abbrev pub wires_from : ℕ → ℕ → ℕ → Stream → List (List ℕ) × Stream
wires_from size mask_length n s = lists_from (draws_from size (wire_length mask_length)) n s

module _ {Enc M EF K D : Type 0} (z : EncodingOf Enc EF) (m : MmcsOf M EF K D) where
  -- The draft of n rounds from a stream: all masks are drawn first, then all randomness, and then the wires.
  abbrev pub draft_from : Ops → Enc → M → ℕ → Stream → Draft K
  draft_from o encoding mmcs n s =
      let made = masks_from (z.message_from encoding) (z.randomness_from encoding) n s in
      let wires = wires_from o.size (z.message_length encoding) n made.left in
      let commitment = m.commitment_of mmcs (z.encoded encoding made.masks made.randomness) in
      record {
        commitment = commitment;
        words = m.words_of mmcs commitment;
        mu = masks_total o made.masks;
        wires = wires.0;
        left = wires.1;
      }

-- All of a draft was drawn: this is the commitment, this was sent, and this is left of the stream.
pub record IsDrawn {K : Type 0} (d : Draft K) (made : K) (sent : Sent) (rest : Stream) : Type 0 where
  pub commitment : made ≡ d.commitment
  pub mu : sent.mu ≡ d.mu
  pub wires : sent.wire.messages ≡ d.wires
  pub left : rest ≡ d.left

-- Some of the draft of n rounds was drawn: of its masks and randomness, or all of these and some of its wires.
abbrev pub SomeOfDraft : {Enc EF : Type 0} → EncodingOf Enc EF → ℕ → Enc → ℕ → Stream → Stream → Type 0
SomeOfDraft z size encoding n before after =
    let message = z.message_from encoding in
    let randomness = z.randomness_from encoding in
    let wire = draws_from size (wire_length (z.message_length encoding)) in
    SomeMasksDrawn message randomness n before after ⊎ SomeDrawn wire n (masks_from message randomness n before).left after
