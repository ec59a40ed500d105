-- The rounds of all that a layout has recorded, and how they end.
use mathlib.Core.Path.{fun_ext}
use Rattle.std.proofs.Common.{◌≡◌, ℕ, suc, ◌-◌, List, [], ◌∷◌, length, Vec, Result, Ok, Err, IfOk, None, Option, inl, inr, sym, ◌∙◌, ap, subst, refl, arith}
use Rattle.std.proofs.lemmas.List.{length-map}
use Rattle.std.proofs.lemmas.List.Elements.{All-head, All-tail}
use Rattle.sc_definitions.specs.declared.events.Event.{Event}
use Rattle.sc_definitions.specs.Ring.{Ops, IsRing, plus, times, power}
use Rattle.sc_definitions.specs.Tables.{evaluation, inner_product, folded_by}
use Rattle.sc_definitions.specs.Events.{Rules, Extension}
use Rattle.sc_definitions.specs.Channels.{Channel, channel, Wire, empty_wire}
use Rattle.sc_definitions.specs.ProverStates.{Setting, ProverState, entries_of}
use Rattle.sc_definitions.specs.ProverViews.{ProverView, KeepsForm, setting_at, prover_state_at}
use Rattle.sc_definitions.specs.Statements.{Statement, weight_of, true_value, true_values, claimed_values, batched_by_powers, weights_at, batched_weight, batched_claim}
use Rattle.sc_definitions.specs.Combined.{combined_weight, scaled_from}
use Rattle.sc_definitions.proofs.BuildLaws.{inner_product-batched_by_powers}
use Rattle.sc_definitions.proofs.SameTables.{inner_product-same}
use Rattle.sc_commitments.specs.Matrices.{lists_in}
use Rattle.sc_svo.specs.Batches.{GridBatch}
use Rattle.sc_layout.specs.Openings.{Laid, AreTrue, statements_of}
use Rattle.sc_transcript.specs.declared.error.SumcheckError.{SumcheckError}
use Rattle.sc_transcript.specs.declared.error.SumcheckError.TheVariants as errors
use Rattle.sc_zk_definitions.specs.declared.prelude.ZkPrelude.{ZkPrelude}
use Rattle.sc_zk_definitions.specs.MaskedTranscripts.{Shape}
use Rattle.sc_zk_definitions.specs.MaskedBatches.{MaskedBatch, PlaysMasked, IsHeadPart, head_of, eps_of}
use Rattle.sc_zk_transcript.specs.declared.shape.ZkSumcheckShape.{ZkSumcheckShape}
use Rattle.sc_zk_transcript.specs.Shapes.{shape_made, fixed_by}
use Rattle.sc_zk_rounds.specs.Data.{Sent}
use Rattle.sc_zk_rounds.specs.Handoffs.{asked_masks, batch_from, Handed, HandsOnBy, EndsMaskedBy, PlaysBatch, shown_from}
use Rattle.sc_zk_rounds.proofs.MaskedBatchLaws.{shown-after}
use Rattle.sc_zk_layout.specs.Grids.{bound_entries, shown_after, with_side_scaled}
use Rattle.sc_challenger.specs.Parties.{Party}
use Rattle.sc_zk_layout.specs.Recorded.{laid_shown, laid_after, recorded_batch}

-- ---- the batch of all that is recorded

module _ (o : Ops) where
  -- weights that are combined with powers are batched
  pub combined-batched : (a p : ℕ) (ss : List Statement) (b : ℕ) → combined_weight o (scaled_from o a p ss) b ≡ batched_weight o a p ss b
  unfolding combined_weight scaled_from batched_weight batched_by_powers
  combined-batched a p [] b = refl
  combined-batched a p (s ∷ ss) b = ap (plus o (times o (power o a p) (weight_of o s.kind b))) (combined-batched a (suc p) ss b)

  values-claimed : (n : ℕ) (f : ℕ → ℕ) (ss : List Statement) → AreTrue o n f ss → true_values o n f ss ≡ claimed_values ss
  values-claimed n f [] all = refl
  values-claimed n f (s ∷ ss) all =
      let P : Statement → Type 0 = λ t. true_value o n f t.kind ≡ t.claimed in
      ap (λ v. v ∷ true_values o n f ss) (All-head P s ss all) ∙ ap (λ vs. s.claimed ∷ vs) (values-claimed n f ss (All-tail P s ss all))

  -- where all statements are true, so is their batched claim
  pub claim-honest : IsRing o → (n : ℕ) (f : ℕ → ℕ) (a : ℕ) (ss : List Statement) → AreTrue o n f ss → batched_claim o a 0 ss ≡ inner_product o n f (combined_weight o (scaled_from o a 0 ss))
  unfolding batched_claim batched_weight
  claim-honest ring n f a ss all =
      ap (batched_by_powers o a 0) (sym (values-claimed n f ss all)) ∙ sym (inner_product-batched_by_powers o ring n f a 0 ss)
      ∙ inner_product-same o n f f (λ b. batched_by_powers o a 0 (weights_at o ss b)) (combined_weight o (scaled_from o a 0 ss)) (λ b _. refl) (λ b _. sym (combined-batched a 0 ss b))

  -- what its rounds begin with
  pub laid-start : (s : GridBatch) (f : ℕ → ℕ) (l : Laid) (alpha claim : ℕ) → s.order ≡ l.order → s.variables ≡ l.variables → s.claims ≡ scaled_from o alpha 0 (statements_of l.recorded) → f ≡ l.rows →
      claim ≡ batched_claim o alpha 0 (statements_of l.recorded) → shown_after o s f [] claim ≡ laid_shown o l alpha
  unfolding folded_by
  laid-start s f l alpha claim order variables claims rows is =
      let all : s.variables - 0 ≡ l.variables = omega (arith, variables) in
      let evals : entries_of (s.variables - 0) f ≡ entries_of l.variables l.rows = ap (λ n. entries_of n f) all ∙ ap (entries_of l.variables) rows in
      let weights : entries_of (s.variables - 0) (combined_weight o s.claims) ≡ entries_of l.variables (batched_weight o alpha 0 (statements_of l.recorded)) =
      ap (λ n. entries_of n (combined_weight o s.claims)) all ∙ ap (λ cs. entries_of l.variables (combined_weight o cs)) claims
      ∙ ap (entries_of l.variables) (fun_ext (combined-batched alpha 0 (statements_of l.recorded))) in
      λ i. record { basis = evaluation; order = order i; variables = all i; evals = evals i; weights = weights i; claim = is i }

  -- what its rounds leave
  pub laid-left : (s : GridBatch) (f : ℕ → ℕ) (l : Laid) (alpha claim : ℕ) (rs : List ℕ) → s.order ≡ l.order → s.variables ≡ l.variables → s.claims ≡ scaled_from o alpha 0 (statements_of l.recorded) → f ≡ l.rows →
      shown_after o s f rs claim ≡ laid_after o l alpha rs claim
  laid-left s f l alpha claim rs order variables claims rows =
      let w = batched_weight o alpha 0 (statements_of l.recorded) in
      let weights : combined_weight o s.claims ≡ w = ap (combined_weight o) claims ∙ fun_ext (combined-batched alpha 0 (statements_of l.recorded)) in
      λ i. record {
        basis = evaluation;
        order = order i;
        variables = variables i - length rs;
        evals = bound_entries o (order i) rs (variables i - length rs) (rows i);
        weights = bound_entries o (order i) rs (variables i - length rs) (weights i);
        claim = claim;
      }

-- ---- one batch under other names

pub same-recorded : (R R' : Rules) (E : Extension) (size bits : ℕ) (o : Ops) (prelude : ZkPrelude) (s s' : ProverView) (h : List Event) (w : Wire) (l aux : ℕ) (masks : List (List ℕ)) (ws : List ℕ) →
    R ≡ R' → s ≡ s' → w ≡ empty_wire → aux ≡ 0 →
    batch_from prelude (setting_at (channel R E size bits) o s) (prover_state_at s h w) (asked_masks l masks ws aux)
    ≡ batch_from prelude (setting_at (channel R' E size bits) o s') (prover_state_at s' h empty_wire) (asked_masks l masks ws 0)
same-recorded R R' E size bits o prelude s s' h w l aux masks ws er es ew ea = rw (er, es, ew, ea) refl

-- the shape of a batch under masks
pub shape-fixed : {EF Z : Type 0} (number : EF → ℕ) (shape : ZkSumcheckShape) (vs : List (Vec EF Z)) (s : Shape) → shape ≡ shape_made shape.prelude (length vs) shape.ell_zk shape.pow_bits →
    s ≡ record { prelude = shape.prelude; rounds = length (lists_in number vs); mask_length = shape.ell_zk; bits = shape.pow_bits } → fixed_by shape ≡ s
shape-fixed number shape vs s is made =
    ap fixed_by is ∙ ap (λ n. fixed_by (shape_made shape.prelude n shape.ell_zk shape.pow_bits)) (sym (length-map vs _)) ∙ sym made

-- ---- how it ends

module _ {X : Type 0} (scaled : Ops → ProverView → ℕ → ProverView) (handed : X → Handed) (b : MaskedBatch) (sent : Sent) (result : Result X SumcheckError) where
  -- memory ran out before the masks
  pub ends-in-head : (s : Shape) (claim : ℕ) (h : List Event) → result ≡ Err errors.NoMemory → s ≡ b.shape → claim ≡ (head_of b).claim →
      IsHeadPart b.setting.channel s claim b.taken.history h → sent.wire ≡ b.taken.wire → EndsMaskedBy scaled handed b h sent result
  ends-in-head s claim h is shape claims part wire = rw is (record {
    after = record b.taken { history = h };
    left = inl (record { history = subst (λ t. IsHeadPart b.setting.channel t (head_of b).claim b.taken.history h) shape (subst (λ c. IsHeadPart b.setting.channel s c b.taken.history h) claims part); kept = refl });
    history = refl;
    wire = wire;
    total = tt;
  })

  -- the rounds are broken off
  pub ends-broken-by : {Y : Type 0} (number : Y → ℕ) (after : ProverState) (rs : List ℕ) (e : SumcheckError) → result ≡ Err e → PlaysBatch {X = Y} number b after rs (Err e) → sent.wire ≡ after.wire →
      EndsMaskedBy scaled handed b after.history sent result
  ends-broken-by number after rs e is broken wire = rw is (record { after = after; left = broken; history = refl; wire = wire; total = tt })

  -- memory ran out after the rounds
  pub ends-after : (after : ProverState) (rs : List ℕ) → result ≡ Err errors.NoMemory → PlaysMasked b after rs → sent.wire ≡ after.wire → EndsMaskedBy scaled handed b after.history sent result
  ends-after after rs is played wire = rw is (record { after = after; left = inr (record { rs = rs; played = played.played }); history = refl; wire = wire; total = tt })

-- it is handed on
pub hands-on-side : (c : Channel) (o : Ops) (before now shown : ProverView) (b : MaskedBatch) (h : List Event) (w : Wire) (rs : List ℕ) (x : ℕ) (held : Option ℕ) → b.setting ≡ setting_at c o before →
    KeepsForm before now → PlaysMasked b (prover_state_at now h w) rs → x ≡ eps_of b → shown ≡ with_side_scaled o now x → held ≡ None →
    HandsOnBy with_side_scaled b (prover_state_at now h w) (record { shown = shown; held = held; randomness = rs; eps = x })
hands-on-side c o before now shown b h w rs x held setting form played eps scaled none = record {
  played = played;
  eps = eps;
  shown =
      scaled ∙ ap (with_side_scaled o now) eps ∙ ap (λ s. with_side_scaled o s (eps_of b)) (shown-after c o before now h w form)
      ∙ ap (λ (s : Setting). with_side_scaled s.ops (shown_from s (prover_state_at now h w)) (eps_of b)) (sym setting);
  settled = none;
}

-- nothing of it was played
pub ends-unbegun : {X : Type 0} (scaled : Ops → ProverView → ℕ → ProverView) (handed : X → Handed) (b : MaskedBatch) (h : List Event) (sent : Sent) (result : Result X SumcheckError) → result ≡ Err errors.NoMemory →
    h ≡ b.taken.history → sent.wire ≡ b.taken.wire → EndsMaskedBy scaled handed b h sent result
ends-unbegun scaled handed b h sent result is history wire =
    rw is (record { after = b.taken; left = inl (record { history = inl refl; kept = refl }); history = history; wire = wire; total = tt })

-- an error is passed on
pub ends-as : {X Y : Type 0} (scaled : Ops → ProverView → ℕ → ProverView) (handed : X → Handed) (handed' : Y → Handed) (b b' : MaskedBatch) (h : List Event) (sent : Sent) (e : SumcheckError) (result : Result Y SumcheckError) →
    b ≡ b' → result ≡ Err e → EndsMaskedBy {X = X} scaled handed b h sent (Err e) → EndsMaskedBy scaled handed' b' h sent result
ends-as scaled handed handed' b b' h sent e result same is ends =
    subst (λ x. EndsMaskedBy scaled handed' x h sent result) same
    (rw is (record { after = ends.after; left = ends.left; history = ends.history; wire = ends.wire; total = tt }))

-- one batch of a layout under other names
pub same-laid : (p : Party) (E : Extension) (base o : Ops) (l : Laid) (s s' : ZkSumcheckShape) (n n' : ℕ) (masks masks' : List (List ℕ)) (ws ws' : List ℕ) → s ≡ s' → n ≡ n' → masks ≡ masks' → ws ≡ ws' →
    recorded_batch base o E s p l (asked_masks n masks ws 0) ≡ recorded_batch base o E s' p l (asked_masks n' masks' ws' 0)
same-laid p E base o l s s' n n' masks masks' ws ws' es en em ew = rw (es, en, em, ew) refl

-- what holds of an answer by two clauses
pub ok-both : {X E : Type 0} {A B C : X → Type 0} (r : Result X E) → ((x : X) → A x → B x → C x) → IfOk r A → IfOk r B → IfOk r C
ok-both (Ok x) f a b = f x a b
ok-both (Err e) f a b = tt
