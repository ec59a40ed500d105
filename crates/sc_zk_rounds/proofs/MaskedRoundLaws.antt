-- A masked round, from what its calls leave.
use Rattle.std.proofs.Common.{◌≡◌, ℕ, zero, suc, ◌-◌, ◌<◌, List, [], ◌∷◌, ◌++◌, length, map, drop, get_or, Vec, Result, Err, sym, ◌∙◌, ap, subst, refl, arith}
use Rattle.sc_definitions.specs.declared.events.Event.{Event}
use Rattle.sc_definitions.specs.Ring.{Ops, IsRing}
use Rattle.std.proofs.lemmas.List.{append-nil}
use Rattle.sc_definitions.specs.Tables.{evaluation, IsOffered, folded_by}
use Rattle.sc_definitions.specs.Rounds.{next_claim, claim_along}
use Rattle.sc_definitions.specs.Transcript.{round_of}
use Rattle.sc_definitions.specs.Channels.{Channel, Wire, with_rounds, IsSent, NoWitnessFound}
use Rattle.sc_definitions.specs.ProverViews.{ProverView, honest_shown, message_shown, with_bound, setting_at, prover_state_at}
use Rattle.sc_rounds.proofs.HeldLaws.{honest_shown-message}
use Rattle.sc_transcript.specs.declared.error.SumcheckError.{SumcheckError}
use Rattle.sc_transcript.specs.declared.error.SumcheckError.TheVariants as errors
use Rattle.sc_transcript.specs.Drivers.{IsRefused}
use Rattle.sc_zk_transcript.specs.Causes.{masked_cause}
use Rattle.sc_commitments.specs.Matrices.{lists_in}
use Rattle.sc_definitions.specs.ProverStates.{Setting, ProverState}
use Rattle.sc_zk_definitions.proofs.GrownLaws.{runs_grow, message_honest}
use Rattle.sc_zk_rounds.specs.declared.mixing.Mixing.{Mixing}
use Rattle.sc_zk_rounds.specs.Mixings.{IsMixing}
use Rattle.sc_zk_rounds.specs.Rounds.{MovesMasked, IsOfMask, AreMasks, PlaysMasks}
use Rattle.sc_definitions.proofs.ProverStateLaws.{IsSized, entries-is, with_none}
use Rattle.sc_zk_definitions.specs.Masks.{piece, pair_of}
use Rattle.sc_zk_definitions.specs.MaskedRuns.{Masking, IsMaskedRound, IsMasked, piece_of, wire_after}

module _ (o : Ops) (ring : IsRing o) (s : ProverView) (is : s.basis ≡ evaluation) (some : 0 < s.variables) (c0 c_inf : ℕ) (honest : c0 ∷ c_inf ∷ [] ≡ honest_shown o s) where
  offered : IsOffered s.basis s.order
  offered = subst (λ b. IsOffered b s.order) (sym is) tt

  -- the two values are the message of the tables
  message : c0 ∷ c_inf ∷ [] ≡ message_shown o s
  message = honest ∙ honest_shown-message o ring s offered some

  -- and its piece
  pub piece-is : piece c0 c_inf ≡ piece_of (message_shown o s)
  piece-is = ap piece_of message

  -- what it leaves of the claim
  claim-is : (r : ℕ) → next_claim s.basis o s.claim (message_shown o s) r ≡ next_claim evaluation o s.claim (pair_of (piece_of (message_shown o s))) r
  claim-is r =
      ap (λ b. next_claim b o s.claim (message_shown o s) r) is
      ∙ ap (λ m. next_claim evaluation o s.claim m r) (sym message)
      ∙ ap (λ m. next_claim evaluation o s.claim (pair_of (piece_of m)) r) message

  -- the round
  pub masked-round : (c : Channel) (k : Masking) (rs : List ℕ) (t : ProverView) (h h' : List Event) (w w' : Wire) (values : List ℕ) (witness r : ℕ) →
      t ≡ with_bound o s r → values ≡ wire_after o k rs (piece c0 c_inf) → IsSent c h (round_of values witness) r h' → w' ≡ with_rounds c.bits w (round_of values witness ∷ []) →
      IsMaskedRound (setting_at c o s) k (prover_state_at s h w) (prover_state_at t h' w') rs r
  masked-round c k rs t h h' w w' values witness r bound made sent wire =
      subst (λ u. IsMaskedRound (setting_at c o s) k (prover_state_at s h w) (prover_state_at u h' w') rs r) (sym bound) (record {
        round = round_of values witness;
        fewer = omega (arith, some);
        values = made ∙ ap (wire_after o k rs) piece-is;
        sent = sent;
        wire = wire;
        evals = refl;
        weights = refl;
        claim = claim-is r;
      })

  -- a round that is refused
  pub refused-moves : {X : Type 0} (number : X → ℕ) (c : Channel) (k : Masking) (rs : List ℕ) (i : ℕ) (t : ProverView) (h h' : List Event) (w w' : Wire) (values : List ℕ) (e : SumcheckError)
      (result : Result X SumcheckError) → t ≡ s → w' ≡ w → length rs ≡ i → values ≡ wire_after o k rs (piece c0 c_inf) → IsRefused c i h values h' (masked_cause e) → result ≡ Err e →
      MovesMasked number (setting_at c o s) k rs (prover_state_at s h w) (prover_state_at t h' w') result
  refused-moves {X} number c k rs i t h h' w w' values e result same_shown same_wire size made why is =
      subst (MovesMasked number (setting_at c o s) k rs (prover_state_at s h w) (prover_state_at t h' w')) (sym is) (cases e why) where
        same : prover_state_at t h' w' ≡ prover_state_at s h' w
        same = ap (λ u. prover_state_at u h' w') same_shown ∙ ap (prover_state_at s h') same_wire

        cases : (e : SumcheckError) → IsRefused c i h values h' (masked_cause e) → MovesMasked {X = X} number (setting_at c o s) k rs (prover_state_at s h w) (prover_state_at t h' w') (Err e)
        cases errors.NoMemory why = same ∙ ap (λ x. prover_state_at s x w) why
        cases (errors.NoWitness j) why = (why.0 ∙ sym size, subst (λ v. NoWitnessFound c h v h') (made ∙ ap (wire_after o k rs) piece-is) why.1, same)
        cases e why = absurd why

-- ---- rounds of masks

-- mask i and those after it
next-mask : {X Z : Type 0} (number : X → ℕ) (vs : List (Vec X Z)) (i : ℕ) (v : Vec X Z) → i < length vs → v ≡ get_or vs i v →
    drop i (lists_in number vs) ≡ map number v.items ∷ drop (suc i) (lists_in number vs)
next-mask number [] i v low is = absurd (omega arith)
next-mask number (u ∷ vs) zero v low is = ap (λ w. map number w.items ∷ lists_in number vs) (sym is)
next-mask number (u ∷ vs) (suc i) v low is = next-mask number vs i v (omega arith) is

-- the round after the challenges rs is of mask i, where there are i of them
pub of-mask : {X Z : Type 0} (o : Ops) (number : X → ℕ) (k : Masking) (vs : List (Vec X Z)) (x : X) (first now : Mixing X) (i : ℕ) (rs : List ℕ) (v : Vec X Z) (mask : List X) →
    i < length vs → v ≡ get_or vs i v → mask ≡ v.items → length rs ≡ i → AreMasks o number k vs x first → IsMixing o number k rs now →
    IsOfMask o number k rs mask x now
of-mask o number k vs x first now i rs v mask low is same size are mixing = record {
  half = are.half;
  later = drop (suc i) (lists_in number vs);
  next = ap (λ n. drop n k.masks) size ∙ ap (drop i) are.are ∙ next-mask number vs i v low is ∙ ap (λ l. map number l ∷ drop (suc i) (lists_in number vs)) (sym same);
  combination = are.combination;
  mixing = mixing;
}

-- one round more
pub one-more : {s s₁ : Setting} → IsRing s.ops → IsOffered s.basis s.order → {k : Masking} {t u v : ProverState} {rs rs' : List ℕ} {r : ℕ} → s₁ ≡ s → rs' ≡ rs ++ r ∷ [] →
    IsMasked s k t u rs → IsMaskedRound s₁ k u v rs r → IsMasked s k t v rs'
one-more {s} ring offered {k} {t} {u} {v} {rs} {r} same drawn p q =
    subst (IsMasked s k t v) (sym drawn) (runs_grow s k t u v rs r ring offered p (subst (λ z. IsMaskedRound z k u v rs r) same q))

-- a round that is refused stops them
pub stops-masks : {X Y : Type 0} (number : Y → ℕ) {s s₁ : Setting} {k : Masking} {t u : ProverState} (v : ProverState) {rs : List ℕ} (rs' : List ℕ) (n : ℕ) (e : SumcheckError) (result : Result X SumcheckError) →
    s₁ ≡ s → IsRing s.ops → IsOffered s.basis s.order → length rs < n → 0 < u.variables → IsMasked s k t u rs → MovesMasked {X = Y} number s₁ k rs u v (Err e) → result ≡ Err e →
    PlaysMasks s k n t v rs' result
stops-masks {X} {Y} number {s} {s₁} {k} {t} {u} v {rs} rs' n e result same ring offered low some p why is =
    subst (PlaysMasks s k n t v rs') (sym is) (cases e (subst (λ z. MovesMasked {X = Y} number z k rs u v (Err e)) same why)) where
      cases : (e : SumcheckError) → MovesMasked {X = Y} number s k rs u v (Err e) → PlaysMasks {X = X} s k n t v rs' (Err e)
      cases errors.NoMemory why = record { rs = rs; played = subst (λ z. IsMasked s k t z rs) (sym why) p }
      cases (errors.NoWitness j) why = (
        let at : j ≡ length rs = why.0 in omega (arith, at, low),
        (
          record {
            rs = rs;
            last = u;
            played = p;
            left = u.variables - 1;
            more = omega (arith, some);
            none = subst (λ x. NoWitnessFound s.channel u.history (wire_after s.ops k rs (piece_of x)) v.history)
                (message_honest s ring offered t u rs (u.variables - 1) (omega (arith, some)) p.evals p.weights) why.1;
            kept = why.2;
          },
          sym why.0,
        ),
      )
      cases e why = absurd why

-- no round was played yet
pub masked_none : (s : Setting) (k : Masking) (t : ProverState) → IsSized t → IsMasked s k t t []
unfolding folded_by claim_along
masked_none s k t sized = record {
  rounds = [];
  built = tt;
  count = omega arith;
  drawn = refl;
  history = sym (append-nil t.history);
  wire = with_none s.channel.bits t.wire;
  evals = entries-is t.variables t.evals _ sized.evals (λ b low. refl);
  weights = entries-is t.variables t.weights _ sized.weights (λ b low. refl);
  claim = refl;
}
