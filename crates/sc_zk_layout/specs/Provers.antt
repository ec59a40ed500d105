-- What a prover of a layout under masks is made of.
use Rattle.std.specs.Prelude.{◌≡◌, ℕ}
use Rattle.rand_core.specs.Stream.{Stream}
use Rattle.sc_commitments.specs.declared.encoding.ZkEncoding.{Ghosts as EncodingOf}
use Rattle.sc_commitments.specs.declared.mmcs.Mmcs.{Ghosts as MmcsOf}
use Rattle.sc_zk_rounds.specs.Handoffs.{AskedMasks}
use Rattle.sc_zk_rounds.specs.Views.{masks_drawn}
use Rattle.sc_zk_layout.specs.declared.prover.ZkProver.{ZkProver}

-- its layout
abbrev pub layout_in : {F EF Enc M L : Type 0} → ZkProver F EF Enc M L → L
layout_in s = s.inner

-- its code
abbrev pub encoding_in : {F EF Enc M L : Type 0} → ZkProver F EF Enc M L → Enc
encoding_in s = s.encoding

-- its scheme of commitments
abbrev pub scheme_in : {F EF Enc M L : Type 0} → ZkProver F EF Enc M L → M
scheme_in s = s.mmcs

-- its code and its scheme of commitments stay
pub record KeepsMasks {F EF Enc M L : Type 0} (before after : ZkProver F EF Enc M L) : Type 0 where
  pub encoding : encoding_in after ≡ encoding_in before
  pub scheme : scheme_in after ≡ scheme_in before

module _ {F EF Enc M L K D : Type 0} (z : EncodingOf Enc EF) (m : MmcsOf M EF K D) where
  -- as many masks as n, with their randomness, that are drawn from a stream for its rounds: aux is zero
  abbrev pub masks_by : ZkProver F EF Enc M L → ℕ → Stream → AskedMasks
  masks_by s n stream = masks_drawn z m (encoding_in s) (scheme_in s) n stream 0
