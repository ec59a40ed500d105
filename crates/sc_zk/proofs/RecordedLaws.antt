-- A replay by other names of its rules, its claim and the words of the masks' commitment.
use Rattle.std.proofs.Common.{◌≡◌, Result, Err, ℕ, List, inl, sym, subst}
use Rattle.sc_definitions.specs.declared.events.Event.{Event}
use Rattle.sc_definitions.specs.Ring.{Ops}
use Rattle.sc_definitions.specs.Events.{Rules, Extension}
use Rattle.sc_definitions.specs.Channels.{Wire, channel}
use Rattle.sc_transcript.specs.declared.error.SumcheckError.{SumcheckError}
use Rattle.sc_transcript.specs.declared.error.SumcheckError.TheVariants.{NoMemory}
use Rattle.sc_zk_definitions.specs.MaskedTranscripts.{head}
use Rattle.sc_zk_transcript.specs.declared.shape.ZkSumcheckShape.{ZkSumcheckShape}
use Rattle.sc_zk_definitions.specs.MaskedBatches.{IsHeadPart}
use Rattle.sc_zk_transcript.specs.Shapes.{fixed_by}
use Rattle.sc_zk_rounds.specs.Verified.{Told, MaskedReplay, CanReplay, claim_asked, LeavesMaskedReplay}

module _ {X : Type 0} (told : X → Told) (base o : Ops) (E : Extension) (s : ZkSumcheckShape) (mu : ℕ) (begun h : List Event) (came : Wire) (result : Result X SumcheckError) where
  abbrev replay-of : Rules → ℕ → List ℕ → Type 0
  replay-of R claim ws = LeavesMaskedReplay told (claim_asked base o (channel R E base.size s.pow_bits) s (head claim ws mu) begun came) result h

  pub replay-as : (R R' : Rules) (claim claim' : ℕ) (ws ws' : List ℕ) → R ≡ R' → claim ≡ claim' → ws ≡ ws' →
      LeavesMaskedReplay told (claim_asked base o (channel R E base.size s.pow_bits) s (head claim ws mu) begun came) result h →
      LeavesMaskedReplay told (claim_asked base o (channel R' E base.size s.pow_bits) s (head claim' ws' mu) begun came) result h
  replay-as R R' claim claim' ws ws' rules claims words is =
      subst (λ r. replay-of r claim' ws') rules (subst (λ x. replay-of R x ws') claims (subst (replay-of R claim) words is))

-- memory ran out before the masks
pub stops-before : {X : Type 0} (told : X → Told) (p : MaskedReplay) (result : Result X SumcheckError) (h : List Event) → result ≡ Err NoMemory → CanReplay p.base p.shape p.came →
    IsHeadPart p.channel (fixed_by p.shape) p.head.claim p.begun h → LeavesMaskedReplay told p result h
stops-before told p result h is can part = subst (λ r. LeavesMaskedReplay told p r h) (sym is) (can, inl part)
