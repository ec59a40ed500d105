-- The rounds of a masked batch: those that were played are the ones that are asked for, and what a replay leaves of them adds up.
use Rattle.std.proofs.Common.{◌≡◌, ℕ, zero, suc, ◌+◌, ◌-◌, ◌<◌, ◌≤◌, List, [], ◌∷◌, ◌++◌, All, length, refl, ap, sym, ◌∙◌, subst, arith}
use Rattle.std.specs.Prelude.{Ok, Err}
use Rattle.sc_definitions.specs.declared.events.Event.{Event}
use Rattle.sc_definitions.specs.Ring.{IsRing, plus, times}
use Rattle.sc_definitions.specs.Tables.{rows_of, folded_by}
use Rattle.sc_definitions.specs.Events.{NonePasses}
use Rattle.sc_definitions.specs.Transcript.{Round, messages_of, sent, round_events, rounds_events, challenge, challenges}
use Rattle.sc_definitions.specs.Channels.{Channel, Wire, empty_wire, with_rounds, IsBuilt}
use Rattle.sc_definitions.specs.ProverStates.{ProverState, entries_of}
use Rattle.sc_definitions.proofs.RingLaws.{times-plus}
use Rattle.sc_definitions.proofs.BuiltLaws.{length-challenges}
use Rattle.sc_definitions.proofs.WitnessLaws.{honest_rounds-whole, honest_rounds-none, none_passes, IsBuiltOr, honest_rounds-built}
use Rattle.sc_zk_definitions.specs.Masks.{first_target, target_after, plain_after, aux_after, masks_at}
use Rattle.sc_zk_definitions.specs.MaskedRuns.{IsHalf, IsMasked, masked_in, piece_in, along}
use Rattle.sc_zk_definitions.specs.MaskedBatches.{MaskedBatch, PlaysMasked, head_of, eps_of, masking_of, start_of}
use Rattle.sc_zk_definitions.proofs.MaskedLaws.{runs_replay}
use Rattle.sc_zk_rounds.specs.InStep.{LacksWitness}
use Rattle.sc_zk_audit.specs.MaskedReports.{left_of, honest_wire, masked_rounds, challenges_of, masked_report}
use Rattle.sc_zk_audit.specs.MaskedAudits.{AddsUp}

-- ---- rounds before others

-- rounds that are built with so many after them are built by what these leave out of account
pub built-shorter : (honest : List ℕ → ℕ → List ℕ) (c : Channel) (left : ℕ) (h : List Event) (rs : List ℕ) (n k : ℕ) (rounds : List Round) →
    n ≡ k + left → length rounds ≤ k → IsBuilt honest c h rs n rounds → IsBuilt (λ ts m. honest ts (m + left)) c h rs k rounds
built-shorter honest c left h rs n k [] size few built = tt
built-shorter honest c left h rs zero k (r ∷ rounds) size few built = absurd built
built-shorter honest c left h rs (suc n) zero (r ∷ rounds) size few built = absurd (omega (arith, few))
built-shorter honest c left h rs (suc n) (suc k) (r ∷ rounds) size few built =
    let same : n ≡ k + left = omega (arith, size) in (
      built.0 ∙ ap (honest rs) same,
      built.1,
      built-shorter honest c left (h ++ round_events c.extension c.bits r) (rs ++ challenge c.rules c.extension c.bits h r ∷ []) n k rounds same (omega (arith, few)) built.2,
    )

-- and the other way round
pub built-longer : (honest : List ℕ → ℕ → List ℕ) (c : Channel) (left : ℕ) (h : List Event) (rs : List ℕ) (n k : ℕ) (rounds : List Round) →
    n ≡ k + left → IsBuilt (λ ts m. honest ts (m + left)) c h rs k rounds → IsBuilt honest c h rs n rounds
built-longer honest c left h rs n k [] size built = tt
built-longer honest c left h rs n zero (r ∷ rounds) size built = absurd built
built-longer honest c left h rs zero (suc k) (r ∷ rounds) size built = absurd (omega (arith, size))
built-longer honest c left h rs (suc n) (suc k) (r ∷ rounds) size built =
    let same : n ≡ k + left = omega (arith, size) in (
      built.0 ∙ ap (honest rs) (sym same),
      built.1,
      built-longer honest c left (h ++ round_events c.extension c.bits r) (rs ++ challenge c.rules c.extension c.bits h r ∷ []) n k rounds same built.2,
    )

module _ (b : MaskedBatch) (some : length b.masks ≤ b.taken.variables) where
  abbrev all_left : Type 0
  all_left = b.taken.variables ≡ length b.masks + left_of b

  whole : all_left
  whole = omega (arith, some)

  -- ---- rounds that were played

  -- those that were played whole, with witnesses that are numbers of elements, are the ones that are asked for
  pub played-rounds : (after : ProverState) (rs : List ℕ) (p : PlaysMasked b after rs) → b.taken.wire ≡ empty_wire →
      All (λ w. w < b.setting.channel.base_size) after.wire.witnesses → masked_rounds b ≡ Ok p.played.rounds
  played-rounds after rs p none low =
      let c = b.setting.channel in
      let rounds = p.played.rounds in
      let count : length rounds ≡ length b.masks =
      sym (p.whole ∙ ap length p.played.drawn ∙ length-challenges c.rules c.extension c.bits (start_of b).history rounds) in
      let wire : after.wire ≡ with_rounds c.bits empty_wire rounds = p.played.wire ∙ ap (λ w. with_rounds c.bits w rounds) none in
      honest_rounds-whole c.rules c.extension c.base_size (honest_wire b) c.bits (start_of b).history [] (length b.masks) rounds count
      (subst (All (λ w. w < c.base_size)) (ap (λ (w : Wire). w.witnesses) wire) low)
      (built-shorter (masked_in b.setting (start_of b) (masking_of b)) c (left_of b) (start_of b).history [] b.taken.variables (length b.masks) rounds whole (omega (arith, count)) p.played.built)

  -- where no witness was found, that round is the one that has none
  pub lacking-round : (i : ℕ) → LacksWitness b i → b.taken.wire ≡ empty_wire → masked_rounds b ≡ Err i
  lacking-round i s none =
      let c = b.setting.channel in
      let start = (start_of b).history in
      let p = s.played in
      let rounds = p.played.rounds in
      let count : length rounds ≡ i =
      sym (length-challenges c.rules c.extension c.bits start rounds) ∙ ap length (sym p.played.drawn) ∙ s.count in
      let left = length b.masks - suc i in
      let below : i < length b.masks = s.below in
      let more : length rounds + suc left ≡ length b.masks = omega (arith, count, below) in
      let later : p.left ≡ left + left_of b = omega (arith, p.played.count, p.more, count, below, some) in
      let wire : s.after.wire ≡ with_rounds c.bits empty_wire rounds =
      ap (λ (t : ProverState). t.wire) p.kept ∙ p.played.wire ∙ ap (λ w. with_rounds c.bits w rounds) none in
      let message : masked_in b.setting (start_of b) (masking_of b) p.rs p.left ≡ honest_wire b (challenges c.rules c.extension c.bits start rounds) left =
      ap (masked_in b.setting (start_of b) (masking_of b) p.rs) later ∙ ap (λ rs. honest_wire b rs left) p.played.drawn in
      let lacks = subst (λ t. NonePasses c.rules t c.bits c.base_size) (p.none.history ∙ ap (λ t. t ++ sent c.extension (masked_in b.setting (start_of b) (masking_of b) p.rs p.left)) p.played.history
      ∙ ap (λ v. (start ++ rounds_events c.extension c.bits rounds) ++ sent c.extension v) message) p.none.none_passes in
      honest_rounds-none c.rules c.extension c.base_size (honest_wire b) c.bits start [] (length b.masks) rounds left more
      (subst (All (λ w. w < c.base_size)) (ap (λ (w : Wire). w.witnesses) wire) s.low)
      (built-shorter (masked_in b.setting (start_of b) (masking_of b)) c (left_of b) start [] b.taken.variables (length b.masks) rounds whole (omega (arith, count, below)) p.played.built)
      (none_passes c.rules c.extension c.base_size c.bits _ p.none.positive lacks)
      ∙ ap Err count

  -- ---- what a replay leaves

  module _ (ring : IsRing b.setting.ops) (half : IsHalf b.setting.ops b.half) where
    -- of rounds that were played
    pub played-residual : (after : ProverState) (rs : List ℕ) (p : PlaysMasked b after rs) →
        target_after b.setting.ops (first_target b.setting.ops (eps_of b) (head_of b).claim (head_of b).mu) (messages_of p.played.rounds) rs
        ≡ plus b.setting.ops
        (plus b.setting.ops (times b.setting.ops (eps_of b) after.claim) (times b.setting.ops (eps_of b) (aux_after b.setting.ops b.half b.aux (length rs))))
        (masks_at b.setting.ops b.masks rs)
    played-residual after rs p =
        let o = b.setting.ops in
        let first = first_target o (eps_of b) (head_of b).claim (head_of b).mu in
        let replayed = runs_replay b.setting (masking_of b) (start_of b) after rs ring half p.whole p.played in
        ap (target_after o first (messages_of p.played.rounds)) p.played.drawn
        ∙ sym replayed.claim
        ∙ ap (λ n. plus o n (masks_at o b.masks rs)) (times-plus o ring (eps_of b) after.claim (aux_after o b.half b.aux (length rs)))

    -- where rounds that are built lead
    abbrev after_built : List Round → ProverState
    after_built rounds =
        let c = b.setting.channel in
        let t = start_of b in
        let rs = challenges_of b rounds in
        let m = t.variables - length rounds in record {
          variables = m;
          evals = entries_of m (folded_by b.setting.basis b.setting.order b.setting.ops rs m (rows_of t.evals));
          weights = entries_of m (folded_by b.setting.basis b.setting.order b.setting.ops rs m (rows_of t.weights));
          claim = plain_after b.setting.ops t.claim (along (piece_in b.setting t) [] t.variables rs) rs;
          history = t.history ++ rounds_events c.extension c.bits rounds;
          wire = with_rounds c.bits t.wire rounds;
        }

    -- so the figures of rounds that are built add up
    pub built-adds_up : (rounds : List Round) → length rounds ≡ length b.masks →
        IsBuilt (honest_wire b) b.setting.channel (start_of b).history [] (length b.masks) rounds → AddsUp b.setting.ops (masked_report b rounds).figures
    built-adds_up rounds count built =
        let c = b.setting.channel in
        let rs = challenges_of b rounds in
        let played : IsMasked b.setting (masking_of b) (start_of b) (after_built rounds) rs = record {
          rounds = rounds;
          built = built-longer (masked_in b.setting (start_of b) (masking_of b)) c (left_of b) (start_of b).history [] b.taken.variables (length b.masks) rounds whole built;
          count = omega (arith, count, some);
          drawn = refl;
          history = refl;
          wire = refl;
          evals = refl;
          weights = refl;
          claim = refl;
        } in
        played-residual (after_built rounds) rs
        (record { whole = sym count ∙ sym (length-challenges c.rules c.extension c.bits (start_of b).history rounds); played = played })

  -- and those of the rounds that are asked for
  pub rounds-add_up : IsRing b.setting.ops → IsHalf b.setting.ops b.half → (rounds : List Round) → masked_rounds b ≡ Ok rounds → AddsUp b.setting.ops (masked_report b rounds).figures
  rounds-add_up ring half rounds are =
      let c = b.setting.channel in
      let built = subst (IsBuiltOr c.rules c.extension c.base_size (honest_wire b) c.bits (start_of b).history [] (length b.masks)) are
      (honest_rounds-built c.rules c.extension c.base_size (honest_wire b) c.bits (start_of b).history [] (length b.masks)) in
      built-adds_up ring half rounds built.0 built.1
