-- A replay of the masked rounds that a prover played.
use Rattle.std.proofs.Common.{◌≡◌, ℕ, zero, suc, ◌+◌, ◌-◌, ◌<◌, ◌≤◌, List, All, [], ◌∷◌, ◌++◌, length, map, take, drop, refl, ap, sym, subst, ◌∙◌, Some, Result, Ok, Err, ◌⊎◌, inl, inr, Vec, length-append, arith}
use Rattle.std.proofs.lemmas.List.{length-map}
use Rattle.std.specs.List.{slice_get}
use Rattle.sc_definitions.specs.declared.events.Event.{Event}
use Rattle.sc_definitions.specs.Ring.{Ops, IsRing, plus, times}
use Rattle.sc_definitions.specs.Events.{Extension}
use Rattle.sc_definitions.specs.ProverViews.{ProverView}
use Rattle.sc_definitions.proofs.RingLaws.{times_comm}
use Rattle.sc_definitions.proofs.Identity.{atom, ◌⊗◌, ◌⊕◌, Agree, identity}
use Rattle.sc_challenger.specs.Parties.{Party}
use Rattle.sc_definitions.specs.Transcript.{Round, round_events, rounds_events, challenge}
use Rattle.sc_definitions.specs.Channels.{Channel, channel, Wire, empty_wire, with_rounds, VerifierState, verifier_state, IsReplayed, FailsAt, IsBuilt}
use Rattle.sc_definitions.specs.ProverStates.{Setting, ProverState}
use Rattle.sc_definitions.proofs.BuiltLaws.{length-messages, length-challenges}
use Rattle.sc_definitions.proofs.PolyLaws.{length-scaled}
use Rattle.sc_commitments.specs.Matrices.{lists_in}
use Rattle.sc_transcript.specs.declared.error.SumcheckError.{SumcheckError}
use Rattle.sc_transcript.specs.declared.error.SumcheckError.TheVariants as errors
use Rattle.sc_transcript.specs.Data.{witness_count}
use Rattle.sc_transcript.specs.Steps.{rounds_on}
use Rattle.sc_transcript.specs.Replayed.{IsCounted}
use Rattle.sc_transcript.proofs.GivenRounds.{given_played, count_witnesses}
use Rattle.sc_transcript.proofs.InStep.{none_failing}
use Rattle.sc_zk_definitions.specs.declared.prelude.ZkPrelude.{ZkPrelude}
use Rattle.sc_zk_definitions.specs.Masks.{Piece, two_power, masks_at, masks_total, masked_round, wire_of, next_target, first_target, aux_after}
use Rattle.sc_zk_definitions.specs.Explained.{half_of}
use Rattle.sc_zk_definitions.specs.MaskedTranscripts.{Shape, Head, rounds_from, wire_length}
use Rattle.sc_zk_definitions.specs.MaskedRuns.{Masking, IsHalf, masked_in, wire_after, residual_of, target_of}
use Rattle.sc_zk_definitions.specs.MaskedBatches.{MaskedBatch, PlaysMasked, IsHeadPart, head_of, eps_of, masking_of, start_of, combination_of}
use Rattle.sc_zk_definitions.proofs.MaskedLaws.{runs_replay}
use Rattle.sc_zk_definitions.proofs.ToldLaws.{wire-parts}
use Rattle.sc_zk_transcript.specs.declared.shape.ZkSumcheckShape.{ZkSumcheckShape}
use Rattle.sc_zk_transcript.specs.Shapes.{fixed_by, IsFit, IsUnfit}
use Rattle.sc_zk_rounds.specs.Values.{AreOfLength}
use Rattle.sc_zk_rounds.specs.Handoffs.{AskedMasks, batch_from, batch_over, batch_by, Handed, EndsMaskedBy}
use Rattle.sc_zk_rounds.specs.Data.{Sent}
use Rattle.sc_zk_rounds.specs.Verified.{MaskedReplay, claim_asked, begins_at, rounds_of, Told, LeavesMaskedReplay}
use Rattle.sc_zk_rounds.specs.InStep.{EndsInRounds, MaskedFigures, StepsThrough, StaysInStep}

-- ---- how many values a round sends

wire-width : (o : Ops) → IsRing o → (eps done : ℕ) (s ends : List ℕ) (p : Piece) → 3 ≤ length s → length (wire_of (masked_round o eps done s ends p)) ≡ length s - 1
wire-width o ring eps done [] ends p long = absurd (omega arith)
wire-width o ring eps done (s0 ∷ []) ends p long = absurd (omega arith)
wire-width o ring eps done (s0 ∷ s1 ∷ []) ends p long = absurd (omega arith)
wire-width o ring eps done (s0 ∷ s1 ∷ s2 ∷ rest) ends p long =
    ap length (wire-parts o ring eps done s0 s1 s2 rest ends p) ∙ ap (λ n. suc (suc n)) (length-scaled o ring (two_power o (length ends)) rest) ∙ omega arith

-- mask i, if there is one
next-of : {X Z : Type 0} (number : X → ℕ) (vs : List (Vec X Z)) (i l : ℕ) → i < length vs → AreOfLength l vs →
    (s : List ℕ) × (later : List (List ℕ)) × (drop i (lists_in number vs) ≡ s ∷ later) × (length s ≡ l)
next-of number [] i l low all = absurd (omega arith)
next-of number (v ∷ vs) zero l low all = (map number v.items, lists_in number vs, refl, length-map v.items number ∙ all 0 v (omega arith))
next-of number (v ∷ vs) (suc i) l low all = next-of number vs i l (omega arith) (λ j d below. all (suc j) d (omega (arith, below)))

-- the wire of each round of masks of one length
masked-width : {X Z : Type 0} (o : Ops) → IsRing o → (number : X → ℕ) (vs : List (Vec X Z)) (k : Masking) (l : ℕ) → k.masks ≡ lists_in number vs → 3 ≤ l → AreOfLength l vs →
    (qs : List ℕ) (p : Piece) → length qs < length vs → length (wire_after o k qs p) ≡ l - 1
masked-width o ring number vs k l are long all qs p low =
    let next = next-of number vs (length qs) l low all in
    let s = next.0 in
    let size : length s ≡ l = next.3 in
    let found : drop (length qs) k.masks ≡ s ∷ next.1 = ap (drop (length qs)) are ∙ next.2 in
    rw found (wire-width o ring _ _ s _ _ (omega (arith, size, long)) ∙ ap (λ n. n - 1) size)

-- each round sends so many values
pub built-width : (f : List ℕ → ℕ → List ℕ) (c : Channel) (k width : ℕ) → ((qs : List ℕ) (j : ℕ) → length qs < k → length (f qs j) ≡ width) →
    (h : List Event) (rs : List ℕ) (n : ℕ) (rounds : List Round) (i : ℕ) (r : Round) → IsBuilt f c h rs n rounds → length rs + length rounds ≤ k → slice_get rounds i ≡ Some r →
    length r.values ≡ width
built-width f c k width wide h rs n [] i r b few is = cc
built-width f c k width wide h rs zero (q ∷ rounds) i r b few is = absurd b
built-width f c k width wide h rs (suc n) (q ∷ rounds) zero r b few is =
    let same : q ≡ r = cc in
    ap (λ (x : Round). length x.values) (sym same) ∙ ap length b.0 ∙ wide rs n (omega (arith, few))
built-width f c k width wide h rs (suc n) (q ∷ rounds) (suc i) r b few is =
    let more : length (rs ++ challenge c.rules c.extension c.bits h q ∷ []) ≡ length rs + 1 = length-append rs _ in
    built-width f c k width wide (h ++ round_events c.extension c.bits q) (rs ++ challenge c.rules c.extension c.bits h q ∷ []) n rounds i r b.2 (omega (arith, few, more)) is

-- the first of built rounds are built
pub built-take : (f : List ℕ → ℕ → List ℕ) (c : Channel) (h : List Event) (rs : List ℕ) (n : ℕ) (rounds : List Round) (i : ℕ) → IsBuilt f c h rs n rounds → IsBuilt f c h rs n (take i rounds)
built-take f c h rs n [] zero b = tt
built-take f c h rs n [] (suc i) b = tt
built-take f c h rs n (q ∷ rounds) zero b = tt
built-take f c h rs zero (q ∷ rounds) (suc i) b = absurd b
built-take f c h rs (suc n) (q ∷ rounds) (suc i) b = (b.0, b.1, built-take f c (h ++ round_events c.extension c.bits q) (rs ++ challenge c.rules c.extension c.bits h q ∷ []) n rounds i b.2)

-- a shape is fit or unfit
pub fit-or-not : (base : Ops) (shape : ZkSumcheckShape) (e : SumcheckError) → IsFit base shape → IsUnfit base shape e → ⊥
fit-or-not base shape errors.EvenCharacteristic fit none = fit.odd none
fit-or-not base shape (errors.MaskTooShort l) fit short = absurd (omega (arith, fit.long, short.2))
fit-or-not base shape errors.NoRounds fit none = absurd (omega (arith, fit.some, none.2))
fit-or-not base shape e fit none = absurd none

long-wire : (l : ℕ) → 3 ≤ l → wire_length l ≡ l - 1
long-wire l long = omega (arith, long)

-- ---- both sides

-- what an accepted replay tells
pub record IsAccepted (b : MaskedBatch) (after : ProverState) (rs : List ℕ) (told : Told) (h : List Event) : Type 0 where
  pub challenges : told.randomness ≡ rs
  pub eps : told.eps ≡ eps_of b
  pub residual : told.residual ≡ residual_of b.setting.ops (masking_of b) after.claim rs
  pub history : h ≡ after.history

module _ (q : ZkPrelude) (s : Setting) (t : ProverState) (m : AskedMasks) (base : Ops) (shape : ZkSumcheckShape) (after : ProverState) (rs : List ℕ)
    (none_sent : t.wire ≡ empty_wire) (is : fixed_by shape ≡ (batch_from q s t m).shape) (played : PlaysMasked (batch_from q s t m) after rs) where
  abbrev b : MaskedBatch
  b = batch_from q s t m

  -- the replay of what was sent
  abbrev asked : MaskedReplay
  asked = claim_asked base s.ops s.channel shape (head_of b) t.history after.wire

  wire-is : after.wire ≡ with_rounds s.channel.bits empty_wire played.played.rounds
  wire-is = played.played.wire ∙ ap (λ w. with_rounds s.channel.bits w played.played.rounds) none_sent

  given : rounds_on after.wire ≡ played.played.rounds
  given = ap rounds_on wire-is ∙ given_played _ s.channel (start_of b).history [] t.variables played.played.rounds played.played.built

  count : length played.played.rounds ≡ length m.masks
  count =
      sym (length-challenges s.channel.rules s.channel.extension s.channel.bits (start_of b).history played.played.rounds)
      ∙ ap length (sym played.played.drawn) ∙ sym played.whole

  num-rounds : shape.num_rounds ≡ length m.masks
  num-rounds = ap (λ (x : Shape). x.rounds) is

  counted : IsCounted (rounds_of asked)
  counted = record {
    as_rounds = ap (λ (w : Wire). length w.messages) wire-is ∙ length-messages played.played.rounds ∙ count ∙ sym num-rounds;
    as_witnesses =
        ap (λ (w : Wire). length w.witnesses) wire-is ∙ count_witnesses s.channel.bits played.played.rounds
        ∙ ap (witness_count s.channel.bits) (count ∙ sym num-rounds) ∙ ap (λ (x : Shape). witness_count x.bits shape.num_rounds) (sym is);
  }

  -- where it begins
  begins : begins_at asked ≡ verifier_state (start_of b).history (target_of s.ops (masking_of b) t.claim)
  begins = ap (λ (x : Shape). verifier_state (rounds_from s.channel.extension t.history x (head_of b)) (first_target s.ops (combination_of s.channel x (head_of b) t.history) (head_of b).claim (head_of b).mu)) is

  -- a replay of what was sent is one of the rounds that were played
  moved : (end : VerifierState) (out : List ℕ) → IsReplayed (next_target s.ops) s.channel (begins_at asked) end (rounds_on after.wire) out →
      IsReplayed (next_target s.ops) s.channel (verifier_state (start_of b).history (target_of s.ops (masking_of b) t.claim)) end played.played.rounds out
  moved end out r =
      subst (λ f. IsReplayed (next_target s.ops) s.channel f end played.played.rounds out) begins
      (subst (λ qs. IsReplayed (next_target s.ops) s.channel (begins_at asked) end qs out) given r)

  -- it is accepted, and leaves this
  pub accepted : {X : Type 0} (told : X → Told) (x : X) (h : List Event) → IsRing s.ops → IsHalf s.ops b.half → LeavesMaskedReplay told asked (Ok x) h → IsAccepted b after rs (told x) h
  accepted told x h ring half left =
      let r = moved (verifier_state h (told x).residual) (told x).randomness left.walked.replays in
      let q = runs_replay s (masking_of b) (start_of b) after rs ring half played.whole played.played in
      record {
        challenges = r.drawn ∙ sym q.drawn;
        eps = left.eps ∙ ap (λ (y : Shape). combination_of s.channel y (head_of b) t.history) is;
        residual = r.claim ∙ sym q.claim;
        history = r.history ∙ sym q.history;
      }

  -- no witness of it fails
  none-invalid : (i : ℕ) (end : VerifierState) → FailsAt (next_target s.ops) s.channel (begins_at asked) end (rounds_on after.wire) i → ⊥
  none-invalid i end fails =
      none_failing (next_target s.ops) _ s.channel (verifier_state (start_of b).history (target_of s.ops (masking_of b) t.claim)) end t.variables played.played.rounds i played.played.built
      (subst (λ f. FailsAt (next_target s.ops) s.channel f end played.played.rounds i) begins
      (subst (λ qs. FailsAt (next_target s.ops) s.channel (begins_at asked) end qs i) given fails))

  -- it is refused for want of memory alone
  pub refused : {X Y Z : Type 0} (told : X → Told) (number : Y → ℕ) (vs : List (Vec Y Z)) (e : SumcheckError) (h : List Event) → IsRing s.ops → IsFit base shape → m.masks ≡ lists_in number vs →
      AreOfLength m.mask_length vs → LeavesMaskedReplay told asked (Err e) h →
      (e ≡ errors.NoMemory) × (IsHeadPart s.channel b.shape (head_of b).claim t.history h ⊎ EndsInRounds b h)
  refused told number vs errors.NoMemory h ring fit are lengths left = (
    refl,
    elim left.1 [
      | inl head ↦ inl (subst (λ x. IsHeadPart s.channel x (head_of b).claim t.history h) is head)
      | inr part ↦ inr (record {
        rounds = take part.1.count played.played.rounds;
        built = built-take _ s.channel (start_of b).history [] t.variables played.played.rounds part.1.count played.played.built;
        history =
            part.1.walked.replays.history
            ∙ ap (λ (f : VerifierState). f.history ++ rounds_events s.channel.extension s.channel.bits (take part.1.count (rounds_on after.wire))) begins
            ∙ ap (λ qs. (start_of b).history ++ rounds_events s.channel.extension s.channel.bits (take part.1.count qs)) given;
      })
    ],
  )
  refused told number vs (errors.InvalidPowWitness i bits) h ring fit are lengths left = absurd (none-invalid i _ left.1.1.1.at)
  refused told number vs (errors.RoundCountMismatch n k) h ring fit are lengths left = absurd (left.0.1.2 (left.0.1.1 ∙ counted.as_rounds ∙ sym left.0.1.0))
  refused told number vs (errors.PowWitnessCountMismatch n k) h ring fit are lengths left = absurd (left.0.1.2 (left.0.1.1 ∙ counted.as_witnesses ∙ sym left.0.1.0))
  refused told number vs (errors.WireSizeMismatch i n k) h ring fit are lengths left =
      let narrow = left.1.1.1 in
      let same : shape.ell_zk ≡ m.mask_length = ap (λ (x : Shape). x.mask_length) is in
      let few : 0 + length played.played.rounds ≤ length vs = let e = ap length are ∙ length-map vs _ in omega (arith, count, e) in
      let width : length narrow.round.values ≡ m.mask_length - 1 =
      built-width (masked_in s (start_of b) (masking_of b)) s.channel (length vs) (m.mask_length - 1)
      (λ qs j low. masked-width s.ops ring number vs (masking_of b) m.mask_length are (omega (arith, same, fit.long)) lengths qs _ low)
      (start_of b).history [] t.variables played.played.rounds i narrow.round played.played.built few (subst (λ qs. slice_get qs i ≡ Some narrow.round) given narrow.is) in
      absurd (narrow.other (narrow.counts ∙ width ∙ ap (λ n. n - 1) (sym same) ∙ sym (long-wire shape.ell_zk fit.long)))
  refused told number vs e h ring fit are lengths left = absurd (fit-or-not base shape e fit left.0)

-- ---- a run, by what the calls of both sides leave

-- the batch of a challenger's copy is that of the challenger
pub copied-batch : (p q : Party) (E : Extension) (size bits : ℕ) (o : Ops) (s : ProverView) (m : AskedMasks) → q.rules ≡ p.rules → q.history ≡ p.history →
    batch_by q E size bits o s m ≡ batch_by p E size bits o s m
copied-batch p q E size bits o s m rules history =
    ap (λ R. batch_over (channel R E size bits) o s q.history m) rules ∙ ap (λ h. batch_over (channel p.rules E size bits) o s h m) history

-- numbers of elements are below the size
all-below : {X : Type 0} (number : X → ℕ) (size : ℕ) → ((x : X) → number x < size) → (xs : List X) → All (λ w. w < size) (map number xs)
all-below number size below [] i d low = absurd (omega arith)
all-below number size below (x ∷ xs) zero d low = below x
all-below number size below (x ∷ xs) (suc i) d low = all-below number size below xs i d (omega arith)

-- the prover's refusal: the verifier has not begun
pub falls-out : {X Y F : Type 0} (scaled : Ops → ProverView → ℕ → ProverView) (base : F → ℕ) (view : Y → MaskedFigures) (handed : X → Handed) (b : MaskedBatch) (h : List Event) (sent : Sent) (ws : List F) (result : Result Y SumcheckError) (e : SumcheckError) →
    ((x : F) → base x < b.setting.channel.base_size) → sent.wire.witnesses ≡ map base ws → result ≡ Err e → EndsMaskedBy scaled handed b h sent (Err e) → StaysInStep view b result b.taken.history
falls-out {X} {Y} scaled base view handed b h sent ws result e below witnesses is ends = subst (λ r. StaysInStep view b r b.taken.history) (sym is) (cases e ends) where
  cases : (e : SumcheckError) → EndsMaskedBy {X = X} scaled handed b h sent (Err e) → StaysInStep {X = Y} view b (Err e) b.taken.history
  cases errors.NoMemory ends = inl (inl refl)
  cases (errors.NoWitness i) ends = (
    record {
      below = ends.left.low;
      after = ends.after;
      played = ends.left.played;
      count = ends.left.count;
      low = subst (All (λ w. w < b.setting.channel.base_size)) (sym witnesses ∙ ap (λ (w : Wire). w.witnesses) ends.wire) (all-below base b.setting.channel.base_size below ws);
    },
    refl,
  )
  cases e ends = absurd ends.left

-- the verifier's: memory ran out
pub verifier-stops : {X Y EF Z : Type 0} (told : X → Told) (view : Y → MaskedFigures) (number : EF → ℕ) (vs : List (Vec EF Z)) (q : ZkPrelude) (s : Setting) (t : ProverState) (m : AskedMasks) (base : Ops) (shape : ZkSumcheckShape)
    (after : ProverState) (rs : List ℕ) (H : Head) (w : Wire) (h : List Event) (result : Result Y SumcheckError) (e : SumcheckError) → t.wire ≡ empty_wire → fixed_by shape ≡ (batch_from q s t m).shape →
    PlaysMasked (batch_from q s t m) after rs → H ≡ head_of (batch_from q s t m) → w ≡ after.wire → IsRing s.ops → IsFit base shape → m.masks ≡ lists_in number vs → AreOfLength m.mask_length vs →
    result ≡ Err e → LeavesMaskedReplay told (claim_asked base s.ops s.channel shape H t.history w) (Err e) h → StaysInStep view (batch_from q s t m) result h
verifier-stops {X} {Y} told view number vs q s t m base shape after rs H w h result e none is played heads wires ring fit are lengths failed left =
    let left' = subst (λ x. LeavesMaskedReplay told (claim_asked base s.ops s.channel shape x t.history after.wire) (Err e) h) heads
    (subst (λ x. LeavesMaskedReplay told (claim_asked base s.ops s.channel shape H t.history x) (Err e) h) wires left) in
    let why = refused q s t m base shape after rs none is played told number vs e h ring fit are lengths left' in
    subst (λ r. StaysInStep view (batch_from q s t m) r h) (sym (failed ∙ ap Err why.0)) why.1

-- or it accepts
pub verifier-accepts : {X : Type 0} (told : X → Told) (q : ZkPrelude) (s : Setting) (t : ProverState) (m : AskedMasks) (base : Ops) (shape : ZkSumcheckShape) (after : ProverState) (rs : List ℕ) (H : Head) (w : Wire)
    (h : List Event) (x : X) → t.wire ≡ empty_wire → fixed_by shape ≡ (batch_from q s t m).shape → PlaysMasked (batch_from q s t m) after rs → H ≡ head_of (batch_from q s t m) → w ≡ after.wire →
    IsRing s.ops → IsHalf s.ops (half_of s.ops) → LeavesMaskedReplay told (claim_asked base s.ops s.channel shape H t.history w) (Ok x) h → IsAccepted (batch_from q s t m) after rs (told x) h
verifier-accepts told q s t m base shape after rs H w h x none is played heads wires ring half left =
    accepted q s t m base shape after rs none is played told x h ring half
    (subst (λ y. LeavesMaskedReplay told (claim_asked base s.ops s.channel shape y t.history after.wire) (Ok x) h) heads
    (subst (λ y. LeavesMaskedReplay told (claim_asked base s.ops s.channel shape H t.history y) (Ok x) h) wires left))

-- the residual is the sum of its three parts
three-parts : (o : Ops) → IsRing o → (k : Masking) (claim : ℕ) (rs : List ℕ) →
    residual_of o k claim rs ≡ plus o (plus o (times o k.eps claim) (times o k.eps (aux_after o k.half k.aux (length rs)))) (masks_at o k.masks rs)
unfolding Agree
three-parts o ring k claim rs =
    identity o ring (k.eps ∷ claim ∷ aux_after o k.half k.aux (length rs) ∷ masks_at o k.masks rs ∷ []) ((atom 0 ⊗ (atom 1 ⊕ atom 2)) ⊕ atom 3) (((atom 0 ⊗ atom 1) ⊕ (atom 0 ⊗ atom 2)) ⊕ atom 3) tt tt refl

-- what both sides tell
pub steps-through : (b : MaskedBatch) (after : ProverState) (rs : List ℕ) (told : Told) (h : List Event) (f : MaskedFigures) → IsRing b.setting.ops → PlaysMasked b after rs → IsAccepted b after rs told h →
    f.challenges ≡ told.randomness → f.eps ≡ told.eps → f.residual ≡ told.residual → f.mu ≡ masks_total b.setting.ops b.masks → f.wire ≡ after.wire →
    f.scaled ≡ times b.setting.ops after.claim (eps_of b) → f.carried ≡ times b.setting.ops told.eps (aux_after b.setting.ops b.half b.aux (length b.masks)) →
    f.mask_residual ≡ masks_at b.setting.ops b.masks rs → StepsThrough b h f
steps-through b after rs told h f ring played taken drawn eps residual mu wire scaled carried masks =
    let o = b.setting.ops in
    let same : f.challenges ≡ rs = drawn ∙ taken.challenges in
    let scaled' : f.scaled ≡ times o (eps_of b) after.claim = scaled ∙ times_comm o ring after.claim (eps_of b) in
    let count : length b.masks ≡ length f.challenges = played.whole ∙ ap length (sym same) in
    let carried' : f.carried ≡ times o (eps_of b) (aux_after o b.half b.aux (length f.challenges)) =
    carried ∙ ap (λ x. times o x (aux_after o b.half b.aux (length b.masks))) taken.eps ∙ ap (λ n. times o (eps_of b) (aux_after o b.half b.aux n)) count in
    record {
      after = after;
      played = subst (PlaysMasked b after) (sym same) played;
      mu = mu;
      wire = wire;
      eps = eps ∙ taken.eps;
      scaled = scaled';
      carried = carried';
      masks = masks ∙ ap (masks_at o b.masks) (sym same);
      residual =
          residual ∙ taken.residual ∙ three-parts o ring (masking_of b) after.claim rs
          ∙ ap (λ x. plus o (plus o x (times o (eps_of b) (aux_after o b.half b.aux (length rs)))) (masks_at o b.masks rs)) (sym scaled')
          ∙ ap (λ n. plus o (plus o f.scaled (times o (eps_of b) (aux_after o b.half b.aux n))) (masks_at o b.masks rs)) (ap length (sym same))
          ∙ ap (λ x. plus o (plus o f.scaled x) (masks_at o b.masks rs)) (sym carried') ∙ ap (λ x. plus o (plus o f.scaled f.carried) x) (sym masks);
      history = taken.history;
    }
