-- Rounds whose tables are never in memory: each is read off the grid of a batch.
use Rattle.std.proofs.Common.{◌≡◌, ℕ, suc, ◌+◌, ◌-◌, ◌<◌, ◌≤◌, List, [], ◌∷◌, ◌++◌, length, map, sym, ◌∙◌, ap, refl, subst, inl, inr, arith, length-append, Result, Ok, Err, IsErrAnd}
use Rattle.sc_definitions.specs.declared.events.Event.{Event}
use Rattle.sc_definitions.specs.Ring.{Ops, IsRing}
use Rattle.sc_definitions.specs.Tables.{evaluation, IsOffered, rows_of, folded_in, folded_by}
use Rattle.sc_definitions.specs.Rounds.{honest_message, next_claim}
use Rattle.sc_definitions.specs.Transcript.{round_of}
use Rattle.sc_definitions.specs.Channels.{Channel, Wire, VerifierState, verifier_state, IsSent, with_rounds}
use Rattle.sc_definitions.specs.ProverStates.{Setting, ProverState, entries_of, message_in, honest_in, IsRound, IsPlayed}
use Rattle.sc_definitions.specs.Problem.{Problem, weights_of}
use Rattle.sc_definitions.specs.Combined.{combined_weight}
use Rattle.sc_definitions.proofs.SameTables.{honest-same}
use Rattle.sc_definitions.proofs.ProverStateLaws.{IsSized, entries-is, rows-entries_of, played_none, played_more, message_honest}
use Rattle.sc_transcript.specs.declared.error.SumcheckError.{SumcheckError}
use Rattle.sc_transcript.specs.declared.error.SumcheckError.TheVariants.{NoMemory}
use Rattle.sc_transcript.specs.Causes.{cause_of}
use Rattle.sc_transcript.specs.Drivers.{Driver, HasRoundLeft, IsRefused}
use Rattle.sc_definitions.specs.ProverViews.{setting_at, prover_state_at}
use Rattle.sc_transcript.specs.Batches.{StopsFrom}
use Rattle.sc_transcript.proofs.BatchLaws.{halts, stops}
use Rattle.sc_svo.specs.Batches.{GridBatch, honest_of}
use Rattle.sc_jobs.specs.BuiltCases.{prover_for}
use Rattle.sc_audit.specs.SmallRounds.{with_drawn, LeavesDrawn}
use Rattle.sc_jobs.specs.Taken.{IsBatchOf}

-- the numbers of a list of none
pub no_items : {X : Type 0} (number : X → ℕ) (xs : List X) → length xs ≡ 0 → map number xs ≡ []
no_items number [] none = refl
no_items number (x ∷ xs) none = absurd (omega (arith, none))

-- the table of a batch is of values, which are offered with both orders
pub values_offered : (o : Ops) (p : Problem) (b : GridBatch) → IsBatchOf o p b → IsOffered p.basis p.order
values_offered o p b of = subst (λ k. IsOffered k p.order) (sym of.basis) tt

-- ---- what is read off a grid

module _ (o : Ops) (ring : IsRing o) (p : Problem) (b : GridBatch) (of : IsBatchOf o p b) (c : Channel) (h : List Event) (on : Wire) where
  -- it is what the problem's own tables tell
  read_honest : (rs : List ℕ) → length rs < length b.grids →
      honest_of o b p.table rs ≡ honest_in (setting_at c o (prover_for o p)) (prover_state_at (prover_for o p) h on) rs (p.variables - suc (length rs))
  read_honest rs low =
      let m = p.variables - suc (length rs) in
      let whole : length rs + suc m ≡ p.variables = omega (arith, low, of.within) in
      let w = combined_weight o b.claims in
      ap (λ r. honest_message evaluation r o p.table w rs (b.variables - suc (length rs))) of.order
      ∙ ap (λ n. honest_message evaluation p.order o p.table w rs (n - suc (length rs))) of.variables
      ∙ ap (λ k. honest_message k p.order o p.table w rs m) (sym of.basis)
      ∙ sym (honest-same p.basis p.order o ring (values_offered o p b of) p.variables _ p.table _ w (rows-entries_of p.variables p.table)
      (λ k low. rows-entries_of p.variables (weights_of o p) k low ∙ sym (of.weights k low)) rs m whole)

  -- and so the message of the tables where the rounds before have led
  pub read_message : (rs : List ℕ) (at : VerifierState) (wire : Wire) (values : List ℕ) → length rs < length b.grids →
      IsPlayed (setting_at c o (prover_for o p)) (prover_state_at (prover_for o p) h on)
      (with_drawn (setting_at c o (prover_for o p)) (prover_state_at (prover_for o p) h on) rs at wire) rs →
      values ≡ honest_of o b p.table rs →
      values ≡ message_in (setting_at c o (prover_for o p)) (with_drawn (setting_at c o (prover_for o p)) (prover_state_at (prover_for o p) h on) rs at wire)
  read_message rs at wire values low played is =
      let s = setting_at c o (prover_for o p) in
      let t = prover_state_at (prover_for o p) h on in
      let m = p.variables - suc (length rs) in
      let fewer : p.variables - length rs ≡ suc m = omega (arith, low, of.within) in
      is ∙ read_honest rs low ∙ sym (message_honest s ring (values_offered o p b of) t (with_drawn s t rs at wire) rs m played fewer)

-- ---- one round after the other

module _ (s : Setting) (ring : IsRing s.ops) (offered : IsOffered s.basis s.order) (t : ProverState) where
  -- none was played yet
  drawn_none : IsSized t → IsPlayed s t (with_drawn s t [] (verifier_state t.history t.claim) t.wire) []
  unfolding folded_by
  drawn_none sized =
      let all : t.variables ≡ t.variables - 0 = omega arith in
      let evals : t.evals ≡ entries_of (t.variables - 0) (rows_of t.evals) =
      entries-is t.variables t.evals _ sized.evals (λ b low. refl) ∙ ap (λ n. entries_of n (rows_of t.evals)) all in
      let weights : t.weights ≡ entries_of (t.variables - 0) (rows_of t.weights) =
      entries-is t.variables t.weights _ sized.weights (λ b low. refl) ∙ ap (λ n. entries_of n (rows_of t.weights)) all in
      let here : t ≡ with_drawn s t [] (verifier_state t.history t.claim) t.wire =
      λ i. record { variables = all i; evals = evals i; weights = weights i; claim = t.claim; history = t.history; wire = t.wire } in
      subst (λ u. IsPlayed s t u []) here (played_none s t sized)

  -- by other names of the claim and of no challenges
  pub drawn_begun : IsSized t → (rs : List ℕ) (claim : ℕ) → claim ≡ t.claim → rs ≡ [] → IsPlayed s t (with_drawn s t rs (verifier_state t.history claim) t.wire) rs
  drawn_begun sized rs claim is none =
      subst (λ qs. IsPlayed s t (with_drawn s t qs (verifier_state t.history claim) t.wire) qs) (sym none)
      (subst (λ k. IsPlayed s t (with_drawn s t [] (verifier_state t.history k) t.wire) []) (sym is) (drawn_none sized))

  module _ (rs : List ℕ) (at : VerifierState) (wire : Wire) (played : IsPlayed s t (with_drawn s t rs at wire) rs) (some : length rs < t.variables) (values : List ℕ)
      (message : values ≡ message_in s (with_drawn s t rs at wire)) where
    more_played : (witness r claim : ℕ) (h : List Event) (wire' : Wire) → IsSent s.channel at.history (round_of values witness) r h →
        wire' ≡ with_rounds s.channel.bits wire (round_of values witness ∷ []) → claim ≡ next_claim s.basis s.ops at.claim values r →
        IsPlayed s t (with_drawn s t (rs ++ r ∷ []) (verifier_state h claim) wire') (rs ++ r ∷ [])
    more_played witness r claim h wire' sent on_wire is =
        let u = with_drawn s t rs at wire in
        let m = t.variables - length (rs ++ r ∷ []) in
        let v : ProverState = record {
          variables = m;
          evals = entries_of m (folded_in s.basis s.order s.ops m r (rows_of u.evals));
          weights = entries_of m (folded_in s.basis s.order s.ops m r (rows_of u.weights));
          claim = claim;
          history = h;
          wire = wire';
        } in
        let fewer : t.variables - length rs ≡ suc m = omega (arith, some, length-append rs (r ∷ [])) in
        let round : IsRound s u v r = record { round = round_of values witness; fewer = fewer; message = message; sent = sent; wire = on_wire; evals = refl; weights = refl; claim = is } in
        let more : IsPlayed s t v (rs ++ r ∷ []) = played_more s ring offered t u v rs r played round in
        let there : v ≡ with_drawn s t (rs ++ r ∷ []) (verifier_state h claim) wire' =
        λ i. record { variables = m; evals = more.evals i; weights = more.weights i; claim = claim; history = h; wire = wire' } in
        subst (λ k. IsPlayed s t k (rs ++ r ∷ [])) there more

    -- one more is played, in the channel by another name
    pub drawn_more : (c : Channel) → c ≡ s.channel → (witness r claim : ℕ) (h : List Event) (wire' : Wire) (rs' : List ℕ) → rs' ≡ rs ++ r ∷ [] →
        IsSent c at.history (round_of values witness) r h → wire' ≡ with_rounds c.bits wire (round_of values witness ∷ []) → claim ≡ next_claim s.basis s.ops at.claim values r →
        IsPlayed s t (with_drawn s t rs' (verifier_state h claim) wire') rs'
    drawn_more c same witness r claim h wire' rs' drawn sent on_wire is =
        subst (λ qs. IsPlayed s t (with_drawn s t qs (verifier_state h claim) wire') qs) (sym drawn)
        (more_played witness r claim h wire' (subst (λ k. IsSent k at.history (round_of values witness) r h) same sent)
        (on_wire ∙ ap (λ (k : Channel). with_rounds k.bits wire (round_of values witness ∷ [])) same) is)

    -- the next is refused
    pub drawn_refused : {K : Type 0} (c : Channel) → c ≡ s.channel → (d : Driver K) (wire' : Wire) (i : ℕ) (e : SumcheckError) → IsRefused c i at.history values d.history (cause_of e) → wire' ≡ wire →
        i ≡ length rs → d.played ≡ i → HasRoundLeft d → StopsFrom s t d wire' e
    drawn_refused c same d wire' i e why kept place counts left =
        let u = with_drawn s t rs at wire in
        let v : ProverState = record u { history = d.history } in
        record {
          after = v;
          history = refl;
          wire_is = sym kept;
          left = omega (arith, counts, place, some);
          within = omega (arith, left);
          some = inr left;
          stopped = stops _ e refl (sym counts) played (halts _ _ _ e (subst (λ k. IsRefused k i at.history values d.history (cause_of e)) same why) message refl);
        }

  -- there is no memory for what comes next
  pub drawn_wants : {K : Type 0} (rs : List ℕ) (d : Driver K) (claim : ℕ) (wire : Wire) → IsPlayed s t (with_drawn s t rs (verifier_state d.history claim) wire) rs → length rs ≤ t.variables → d.played ≡ length rs →
      d.played ≤ d.shape.num_rounds → StopsFrom s t d wire NoMemory
  drawn_wants rs d claim wire played some counts within = record {
    after = with_drawn s t rs (verifier_state d.history claim) wire;
    history = refl;
    wire_is = refl;
    left = omega (arith, counts, some);
    within = within;
    some = inl refl;
    stopped = record { rs = rs; played = played };
  }

-- what stops is a result that is an error
pub leaves_stopped : {X K : Type 0} (s : Setting) (t : ProverState) (rs : List ℕ) (claim : ℕ) (d : Driver K) (wire : Wire) (r : Result X SumcheckError) (e : SumcheckError) →
    IsErrAnd r (λ x. x ≡ e) → StopsFrom s t d wire e → LeavesDrawn (record { setting = s; start = t }) rs claim d wire r
leaves_stopped s t rs claim d wire (Ok x) e is p = elim is [ ]
leaves_stopped s t rs claim d wire (Err x) e is p = subst (StopsFrom s t d wire) (sym is) p
