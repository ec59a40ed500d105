-- How much of a draft was drawn where it is refused.
use Rattle.std.proofs.Common.{◌≡◌, ℕ, List, Result, Ok, Err, OnErr, inl, inr, ap, sym, subst, arith}
use Rattle.rand_core.specs.Stream.{Stream}
use Rattle.sc_zk_definitions.specs.MaskedTranscripts.{wire_length}
use Rattle.sc_commitments.specs.declared.encoding.ZkEncoding.{Ghosts as EncodingOf}
use Rattle.sc_commitments.specs.Draws.{Drawn, drawn, draws_from, lists_from, masks_from, SomeDrawn, SomeMasksDrawn}
use Rattle.sc_commitments.proofs.CodeLaws.{none-drawn, masks-drawn}
use Rattle.sc_zk_simulators.specs.Drafts.{SomeOfDraft, wires_from}

module _ {Enc EF T E : Type 0} (z : EncodingOf Enc EF) (size : ℕ) (encoding : Enc) (n : ℕ) (s : Stream) where
  -- nothing
  pub none-of-draft : (result : Result T E) → OnErr result (SomeOfDraft z size encoding n s s)
  none-of-draft (Ok x) = _
  none-of-draft (Err e) = inl (inl (none-drawn {T = T} (Err e) (z.message_from encoding) n s))

  -- some masks and randomness
  pub some-of-draft : (result : Result T E) (after : Stream) → SomeMasksDrawn (z.message_from encoding) (z.randomness_from encoding) n s after →
      OnErr result (SomeOfDraft z size encoding n s after)
  some-of-draft (Ok x) after some = _
  some-of-draft (Err e) after some = inl some

  -- all of these
  pub masks-of-draft : (result : Result T E) (after : Stream) (masks rand : List (List ℕ)) →
      drawn masks rand after ≡ masks_from (z.message_from encoding) (z.randomness_from encoding) n s → OnErr result (SomeOfDraft z size encoding n s after)
  masks-of-draft result after masks rand all = some-of-draft result after (masks-drawn (z.message_from encoding) (z.randomness_from encoding) n s after masks rand all)

  -- these, and some wires
  pub wires-of-draft : (result : Result T E) (mid after : Stream) (masks rand : List (List ℕ)) →
      drawn masks rand mid ≡ masks_from (z.message_from encoding) (z.randomness_from encoding) n s →
      SomeDrawn (draws_from size (wire_length (z.message_length encoding))) n mid after → OnErr result (SomeOfDraft z size encoding n s after)
  wires-of-draft (Ok x) mid after masks rand all some = _
  wires-of-draft (Err e) mid after masks rand all some =
      inr (subst (λ m. SomeDrawn (draws_from size (wire_length (z.message_length encoding))) n m after) (ap (λ (d : Drawn). d.left) all) some)

  -- all
  pub whole-draft : (result : Result T E) (after : Stream) →
      after ≡ (wires_from size (z.message_length encoding) n (masks_from (z.message_from encoding) (z.randomness_from encoding) n s).left).1 →
      OnErr result (SomeOfDraft z size encoding n s after)
  whole-draft (Ok x) after is = _
  whole-draft (Err e) after is = inr (record { count = n; most = omega arith; left = is })
