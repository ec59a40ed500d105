-- A masked batch, from what its head and its rounds leave.
use Rattle.std.proofs.Common.{◌≡◌, ℕ, List, [], length, Vec, Option, None, Result, Ok, Err, inl, inr, refl, sym, ◌∙◌, ap, subst}
use Rattle.std.proofs.lemmas.List.{length-map}
use Rattle.sc_definitions.specs.declared.events.Event.{Event}
use Rattle.sc_definitions.specs.Ring.{Ops, plus}
use Rattle.sc_definitions.specs.Events.{Rules, Extension}
use Rattle.sc_definitions.specs.Channels.{Channel, channel, Wire, empty_wire}
use Rattle.sc_definitions.specs.ProverStates.{Setting, ProverState}
use Rattle.sc_definitions.specs.ProverViews.{ProverView, KeepsForm, with_scaled, setting_at, prover_state_at}
use Rattle.sc_commitments.specs.Matrices.{lists_in}
use Rattle.sc_transcript.specs.declared.error.SumcheckError.{SumcheckError}
use Rattle.sc_transcript.specs.declared.error.SumcheckError.TheVariants as errors
use Rattle.sc_zk_definitions.specs.declared.prelude.ZkPrelude.{ZkPrelude}
use Rattle.sc_zk_definitions.specs.declared.prelude.ZkPrelude.TheVariants.{InheritedClaim}
use Rattle.sc_zk_definitions.specs.Masks.{masks_total}
use Rattle.sc_zk_definitions.specs.Explained.{half_of}
use Rattle.sc_zk_definitions.specs.MaskedTranscripts.{head, combination_at, rounds_from}
use Rattle.sc_zk_definitions.specs.MaskedRuns.{Masking, IsHalf}
use Rattle.sc_zk_definitions.specs.MaskedBatches.{MaskedBatch, PlaysMasked, IsHeadPart, head_of, eps_of, masking_of, start_of}
use Rattle.sc_zk_rounds.specs.declared.mixing.Mixing.{Mixing}
use Rattle.sc_zk_transcript.specs.declared.shape.ZkSumcheckShape.{ZkSumcheckShape}
use Rattle.sc_zk_transcript.specs.Shapes.{shape_made, fixed_by, IsFit}
use Rattle.sc_zk_rounds.specs.Values.{AreOfLength}
use Rattle.sc_zk_rounds.specs.Mixings.{IsMixing}
use Rattle.sc_zk_rounds.specs.Rounds.{AreMasks, IsShapeOf, PlaysMasks}
use Rattle.sc_zk_rounds.specs.Handoffs.{AskedMasks, asked_masks, batch_asked, batch_from, Handed, HandsOn, shown_from, PlaysBatch, EndsMasked}
use Rattle.sc_zk_rounds.specs.Data.{Sent}

-- ---- the head of a batch of these masks, whose numbers are told by elements

module _ {EF Z : Type 0} (number : EF → ℕ) (s : Setting) (t : ProverState) (vs : List (Vec EF Z)) (ws : List ℕ) (shape : ZkSumcheckShape) (aux mu : EF) (claim : ℕ)
    (is : shape ≡ shape_made shape.prelude (length vs) shape.ell_zk shape.pow_bits) (bits : s.channel.bits ≡ shape.pow_bits)
    (claims : claim ≡ plus s.ops t.claim (number aux)) (total : number mu ≡ masks_total s.ops (lists_in number vs)) where
  abbrev asked : MaskedBatch
  asked = batch_from shape.prelude s t (asked_masks shape.ell_zk (lists_in number vs) ws (number aux))

  shape-is : fixed_by shape ≡ asked.shape
  shape-is =
      ap fixed_by is ∙ ap (λ n. fixed_by (shape_made shape.prelude n shape.ell_zk shape.pow_bits)) (sym (length-map vs _))
      ∙ ap (λ n. fixed_by (shape_made shape.prelude (length (lists_in number vs)) shape.ell_zk n)) (sym bits)

  head-is : head claim ws (number mu) ≡ head_of asked
  head-is = ap (λ n. head n ws (number mu)) claims ∙ ap (λ n. head (plus s.ops t.claim (number aux)) ws n) total

  -- the combination
  pub combination-is : (x : EF) → number x ≡ combination_at s.channel.rules s.channel.extension t.history (fixed_by shape) (head claim ws (number mu)) → number x ≡ eps_of asked
  combination-is x drawn =
      drawn ∙ ap (λ y. combination_at s.channel.rules s.channel.extension t.history y (head claim ws (number mu))) shape-is
      ∙ ap (λ y. combination_at s.channel.rules s.channel.extension t.history asked.shape y) head-is

  -- where the rounds begin
  pub history-is : (h : List Event) → h ≡ rounds_from s.channel.extension t.history (fixed_by shape) (head claim ws (number mu)) → h ≡ (start_of asked).history
  history-is h at =
      at ∙ ap (λ y. rounds_from s.channel.extension t.history y (head claim ws (number mu))) shape-is
      ∙ ap (λ y. rounds_from s.channel.extension t.history asked.shape y) head-is

  -- the masks with what they make of the first round
  pub masks-are : (half x : EF) (m : Mixing EF) → number half ≡ half_of s.ops → IsHalf s.ops (number half) →
      ((k : Masking) → k.masks ≡ lists_in number vs → k.half ≡ number half → k.aux ≡ number aux → IsMixing s.ops number k [] m) →
      number x ≡ eps_of asked → AreMasks s.ops number (masking_of asked) vs x m
  masks-are half x m half_is twice mixes drawn = record {
    half = subst (IsHalf s.ops) half_is twice;
    are = refl;
    combination = sym drawn;
    mixing = mixes (masking_of asked) refl (sym half_is) refl;
  }

  -- where the head is broken off
  pub head-stops : (h : List Event) → IsHeadPart s.channel (fixed_by shape) claim t.history h → IsHeadPart s.channel asked.shape (head_of asked).claim t.history h
  head-stops h part = subst (λ y. IsHeadPart s.channel y (head_of asked).claim t.history h) shape-is (subst (λ n. IsHeadPart s.channel (fixed_by shape) n t.history h) claims part)

-- the rounds after the head are those of the batch
pub batch-rounds : {X EF Z : Type 0} (o : Ops) (number : EF → ℕ) (b : MaskedBatch) (vs : List (Vec EF Z)) (x : EF) (m : Mixing EF) {s₁ : Setting} {begun : ProverState} (after : ProverState) (rs : List ℕ)
    (result : Result X SumcheckError) → s₁ ≡ b.setting → begun ≡ start_of b → AreMasks o number (masking_of b) vs x m →
    ((k : Masking) → AreMasks o number k vs x m → PlaysMasks s₁ k (length vs) begun after rs result) →
    PlaysMasks b.setting (masking_of b) (length b.masks) (start_of b) after rs result
batch-rounds o number b vs x m {s₁} {begun} after rs result same at are plays =
    let k = masking_of b in
    let count : length vs ≡ length b.masks = sym (length-map vs _) ∙ sym (ap length are.are) in
    subst (λ z. PlaysMasks z k (length b.masks) (start_of b) after rs result) same
    (subst (λ t. PlaysMasks s₁ k (length b.masks) t after rs result) at
    (subst (λ n. PlaysMasks s₁ k n begun after rs result) count (plays k are)))

-- all of them were played
pub whole-batch : {X : Type 0} (b : MaskedBatch) (after : ProverState) (rs : List ℕ) (x : X) →
    PlaysMasks b.setting (masking_of b) (length b.masks) (start_of b) after rs (Ok x) → PlaysMasked b after rs
whole-batch b after rs x p = record { whole = sym p.1; played = p.0 }

-- or they are broken off
pub broken-batch : (X : Type 0) {Y : Type 0} (number : Y → ℕ) (b : MaskedBatch) (after : ProverState) (rs rs' : List ℕ) (e : SumcheckError) (result : Result Y SumcheckError) → result ≡ Err e →
    PlaysMasks {X = X} b.setting (masking_of b) (length b.masks) (start_of b) after rs (Err e) → PlaysBatch number b after rs' result
broken-batch X {Y} number b after rs rs' e result is p = subst (PlaysBatch number b after rs') (sym is) (cases e p) where
  cases : (e : SumcheckError) → PlaysMasks {X = X} b.setting (masking_of b) (length b.masks) (start_of b) after rs (Err e) → PlaysBatch {X = Y} number b after rs' (Err e)
  cases errors.NoMemory p = inr p
  cases (errors.NoWitness i) p = record { low = p.0; played = p.1.0; count = p.1.1 }
  cases e p = absurd p

-- ---- what a batch hands on, or how it ends

-- one batch under other names
pub same-batch : (R : Rules) (E : Extension) (size : ℕ) {bits bits' : ℕ} (o : Ops) (s : ProverView) (h : List Event) {w : Wire} {l l' : ℕ} {masks masks' : List (List ℕ)} {ws ws' : List ℕ} (aux : ℕ) {q : ZkPrelude} →
    q ≡ InheritedClaim → bits ≡ bits' → w ≡ empty_wire → l ≡ l' → masks ≡ masks' → ws ≡ ws' →
    batch_from q (setting_at (channel R E size bits) o s) (prover_state_at s h w) (asked_masks l masks ws aux)
    ≡ batch_asked (setting_at (channel R E size bits') o s) (prover_state_at s h empty_wire) (asked_masks l' masks' ws' aux)
same-batch R E size o s h aux eq eb ew el em ews = rw (eq, eb, ew, el, em, ews) refl

-- what a prover shows after rounds, by where these stand
pub shown-after : (c : Channel) (o : Ops) (before now : ProverView) (h : List Event) (w : Wire) → KeepsForm before now →
    now ≡ shown_from (setting_at c o before) (prover_state_at now h w)
shown-after c o before now h w form =
    λ i. record { basis = form.basis i; order = form.order i; variables = now.variables; evals = now.evals; weights = now.weights; claim = now.claim }

-- a whole batch is handed on
pub hands-on : (c : Channel) (o : Ops) (before now after : ProverView) (b : MaskedBatch) (h : List Event) (w : Wire) (rs rs' : List ℕ) (x : ℕ) (held : Option ℕ) → b.setting ≡ setting_at c o before →
    KeepsForm before now → PlaysMasked b (prover_state_at now h w) rs → rs' ≡ rs → x ≡ eps_of b → after ≡ with_scaled o now x → held ≡ None →
    HandsOn b (prover_state_at now h w) (record { shown = after; held = held; randomness = rs'; eps = x })
hands-on c o before now after b h w rs rs' x held setting form played drawn eps scaled none = record {
  played = subst (PlaysMasked b (prover_state_at now h w)) (sym drawn) played;
  eps = eps;
  shown =
      scaled ∙ ap (with_scaled o now) eps ∙ ap (λ s. with_scaled o s (eps_of b)) (shown-after c o before now h w form)
      ∙ ap (λ (s : Setting). with_scaled s.ops (shown_from s (prover_state_at now h w)) (eps_of b)) (sym setting);
  settled = none;
}

-- memory ran out before its masks
pub stops-batch : {X : Type 0} (number : X → ℕ) (b : MaskedBatch) (h : List Event) (rs : List ℕ) (result : Result X SumcheckError) → result ≡ Err errors.NoMemory →
    IsHeadPart b.setting.channel b.shape (head_of b).claim b.taken.history h → PlaysBatch number b (record b.taken { history = h }) rs result
stops-batch number b h rs result is part = rw is (inl (record { history = part; kept = refl }))

-- a batch of one setting under other rules of a challenger
pub batch-as : {X : Type 0} (number : X → ℕ) (E : Extension) (size bits : ℕ) (o : Ops) (prelude : ZkPrelude) (v : ProverView) (t after : ProverState) (m : AskedMasks) (rs : List ℕ) (R R' : Rules) (result : Result X SumcheckError) →
    R ≡ R' → PlaysBatch number (batch_from prelude (setting_at (channel R E size bits) o v) t m) after rs result →
    PlaysBatch number (batch_from prelude (setting_at (channel R' E size bits) o v) t m) after rs result
batch-as number E size bits o prelude v t after m rs R R' result same = subst (λ r. PlaysBatch number (batch_from prelude (setting_at (channel r E size bits) o v) t m) after rs result) same

-- nothing of a batch was played
pub ends-before : {X : Type 0} (handed : X → Handed) (b : MaskedBatch) (h : List Event) (sent : Sent) (result : Result X SumcheckError) → result ≡ Err errors.NoMemory →
    h ≡ b.taken.history → sent.wire ≡ b.taken.wire → EndsMasked handed b h sent result
ends-before handed b h sent result is history wire = rw is (record {
  after = b.taken;
  left = inl (record { history = inl refl; kept = refl });
  history = history;
  wire = wire;
  total = tt;
})

-- a batch is broken off
pub ends-broken : {X Y : Type 0} (handed : X → Handed) (number : Y → ℕ) (b : MaskedBatch) (after : ProverState) (rs : List ℕ) (sent : Sent) (result : Result X SumcheckError) (e : SumcheckError) →
    result ≡ Err e → PlaysBatch {X = Y} number b after rs (Err e) → sent.wire ≡ after.wire → EndsMasked handed b after.history sent result
ends-broken handed number b after rs sent result e is broken wire = rw is (record { after = after; left = broken; history = refl; wire = wire; total = tt })

-- the shape of a batch under masks, by what makes it
pub shape-of : {X Z : Type 0} (o : Ops) (vs vs' : List (Vec X Z)) {n l l' bits : ℕ} {prelude : ZkPrelude} (shape : ZkSumcheckShape) → shape ≡ shape_made prelude n l bits → vs ≡ vs' → n ≡ length vs' →
    l ≡ l' → IsFit o (shape_made prelude (length vs') l' bits) → AreOfLength l' vs' → IsShapeOf o vs shape
shape-of o vs vs' {n} {l} {l'} {bits} {prelude} shape is same count long fit lengths =
    subst (λ us. IsShapeOf o us shape) (sym same)
    (subst (IsShapeOf o vs') (sym (is ∙ ap (λ k. shape_made prelude k l bits) count ∙ ap (λ k. shape_made prelude (length vs') k bits) long))
    (record { is = refl; fit = fit; lengths = lengths }))
