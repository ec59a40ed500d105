-- The rounds that came for a layer: none of them is refused, or the first that is.
use Rattle.std.proofs.Common.{◌≡◌, ℕ, zero, suc, ◌+◌, true, false, List, [], ◌∷◌, ◌++◌, length, map, take, if◌then◌else◌, Some, None, refl, ap, sym, ◌∙◌, subst, append_assoc, arith, eq-eqb, ne_eqb, zero-add}
use Rattle.std.specs.Prelude.{◌==◌, Err}
use Rattle.std.specs.List.{slice_get}
use Rattle.std.proofs.lemmas.List.{append-nil}
use Rattle.std.proofs.lemmas.List.Elements.{All-head, All-tail}
use Rattle.std.proofs.lemmas.Option.{same_Some}
use Rattle.sc_definitions.specs.declared.events.Event.{Event}
use Rattle.sc_definitions.specs.Transcript.{Round, messages_of, round_events, rounds_events}
use Rattle.sc_definitions.specs.Replays.{round_passes, given_rounds, AllPass}
use Rattle.sc_definitions.specs.Channels.{Channel, witnesses_of}
use Rattle.sc_definitions.proofs.ReplayLaws.{length-given_rounds, messages-given_rounds}
use Rattle.sc_transcript.specs.Rounds.{witness_count}
use Rattle.sc_transcript.specs.Walks.{AreWide}
use Rattle.sc_degree.specs.declared.error.GenericDegreeError.{GenericDegreeError}
use Rattle.sc_degree.specs.declared.error.GenericDegreeError.TheVariants as errors
use Rattle.sc_degree.specs.Proofs.{LeavesVerify}
use Rattle.sc_circuit.specs.Runs.{GivenLayer, sent_of, LayerRun, run_begun, run_replay, IsReplayedWhole}
use Rattle.sc_circuit.specs.Steps.{IsCauseOfLayer}
use Rattle.sc_circuit.specs.CircuitRounds.{first_refused, given_fault}
use Rattle.sc_circuit.specs.CircuitReports.{wired}

module _ (c : Channel) where
  -- one round more, where it has two values and its witness passes
  refused-later : (i : ℕ) (h : List Event) (r : Round) (rounds : List Round) → length r.values ≡ 2 → round_passes c.rules c.extension c.bits h r ≡ true →
      first_refused c i h (r ∷ rounds) ≡ first_refused c (suc i) (h ++ round_events c.extension c.bits r) rounds
  refused-later i h r rounds wide passes =
      let later = first_refused c (suc i) (h ++ round_events c.extension c.bits r) rounds in
      let narrow = Some (errors.PolyEvalCountMismatch i 2 (length r.values)) in
      ap (λ b. if b then (if round_passes c.rules c.extension c.bits h r then later else Some (errors.InvalidPowWitness i)) else narrow) (eq-eqb _ _ wide)
      ∙ ap (λ b. if b then later else Some (errors.InvalidPowWitness i)) passes

  -- where all have and do none is refused
  refused-none : (i : ℕ) (h : List Event) (rounds : List Round) → AreWide 2 rounds → AllPass c.rules c.extension c.bits h rounds → first_refused c i h rounds ≡ None
  refused-none i h [] wide pass = refl
  refused-none i h (r ∷ rounds) wide pass =
      let W = λ (values : List ℕ). length values ≡ 2 in
      refused-later i h r rounds (All-head W r.values (messages_of rounds) wide) pass.0
      ∙ refused-none (suc i) (h ++ round_events c.extension c.bits r) rounds (All-tail W r.values (messages_of rounds) wide) pass.1

  -- the first of another width
  refused-width : (i : ℕ) (h : List Event) (rounds : List Round) (k : ℕ) (r : Round) → AreWide 2 (take k rounds) →
      AllPass c.rules c.extension c.bits h (take k rounds) → slice_get rounds k ≡ Some r → (length r.values ≡ 2 → ⊥) →
      first_refused c i h rounds ≡ Some (errors.PolyEvalCountMismatch (i + k) 2 (length r.values))
  refused-width i h [] k r wide pass is other = cc
  refused-width i h (q ∷ rounds) zero r wide pass is other =
      let same : q ≡ r = same_Some _ _ is in
      let here : i ≡ i + 0 = omega arith in
      let later = first_refused c (suc i) (h ++ round_events c.extension c.bits q) rounds in
      let first = if round_passes c.rules c.extension c.bits h q then later else Some (errors.InvalidPowWitness i) in
      ap (λ b. if b then first else Some (errors.PolyEvalCountMismatch i 2 (length q.values))) (ne_eqb (length q.values) 2 (λ e. other (sym (ap (λ (t : Round). length t.values) same) ∙ e)))
      ∙ ap (λ (t : Round). Some (errors.PolyEvalCountMismatch i 2 (length t.values))) same
      ∙ ap (λ k. Some (errors.PolyEvalCountMismatch k 2 (length r.values))) here
  refused-width i h (q ∷ rounds) (suc k) r wide pass is other =
      let W = λ (values : List ℕ). length values ≡ 2 in
      let next : suc i + k ≡ i + suc k = omega arith in
      refused-later i h q rounds (All-head W q.values (messages_of (take k rounds)) wide) pass.0
      ∙ refused-width (suc i) (h ++ round_events c.extension c.bits q) rounds k r (All-tail W q.values (messages_of (take k rounds)) wide) pass.1 is other
      ∙ ap (λ k. Some (errors.PolyEvalCountMismatch k 2 (length r.values))) next

  -- the first whose witness fails
  refused-witness : (i : ℕ) (h : List Event) (rounds : List Round) (k : ℕ) (r : Round) → AreWide 2 (take (suc k) rounds) →
      AllPass c.rules c.extension c.bits h (take k rounds) → slice_get rounds k ≡ Some r →
      round_passes c.rules c.extension c.bits (h ++ rounds_events c.extension c.bits (take k rounds)) r ≡ false →
      first_refused c i h rounds ≡ Some (errors.InvalidPowWitness (i + k))
  refused-witness i h [] k r wide pass is fails = cc
  refused-witness i h (q ∷ rounds) zero r wide pass is fails =
      let W = λ (values : List ℕ). length values ≡ 2 in
      let same : q ≡ r = same_Some _ _ is in
      let here : i ≡ i + 0 = omega arith in
      let later = first_refused c (suc i) (h ++ round_events c.extension c.bits q) rounds in
      let narrow = Some (errors.PolyEvalCountMismatch i 2 (length q.values)) in
      let failing : round_passes c.rules c.extension c.bits h q ≡ false =
      ap (round_passes c.rules c.extension c.bits h) same ∙ ap (λ t. round_passes c.rules c.extension c.bits t r) (sym (append-nil h)) ∙ fails in
      ap (λ b. if b then (if round_passes c.rules c.extension c.bits h q then later else Some (errors.InvalidPowWitness i)) else narrow)
      (eq-eqb _ _ (All-head W q.values (messages_of (take 0 rounds)) wide))
      ∙ ap (λ b. if b then later else Some (errors.InvalidPowWitness i)) failing
      ∙ ap (λ k. Some (errors.InvalidPowWitness k)) here
  refused-witness i h (q ∷ rounds) (suc k) r wide pass is fails =
      let W = λ (values : List ℕ). length values ≡ 2 in
      let next : suc i + k ≡ i + suc k = omega arith in
      let place : (h ++ round_events c.extension c.bits q) ++ rounds_events c.extension c.bits (take k rounds)
      ≡ h ++ (round_events c.extension c.bits q ++ rounds_events c.extension c.bits (take k rounds)) =
      append_assoc h (round_events c.extension c.bits q) (rounds_events c.extension c.bits (take k rounds)) in
      refused-later i h q rounds (All-head W q.values (messages_of (take (suc k) rounds)) wide) pass.0
      ∙ refused-witness (suc i) (h ++ round_events c.extension c.bits q) rounds k r (All-tail W q.values (messages_of (take (suc k) rounds)) wide) pass.1 is
      (ap (λ t. round_passes c.rules c.extension c.bits t r) place ∙ fails)
      ∙ ap (λ k. Some (errors.InvalidPowWitness k)) next

-- ---- what came for a layer

-- the witnesses of the rounds are those that came, where these are as many as the rounds, or none without a difficulty
all-witnesses : (ms : List (List ℕ)) (ws : List ℕ) → length ws ≡ length ms → map (λ (r : Round). r.witness) (given_rounds ms ws) ≡ ws
all-witnesses [] [] e = refl
all-witnesses [] (w ∷ ws) e = absurd (omega (arith, e))
all-witnesses (m ∷ ms) [] e = absurd (omega (arith, e))
all-witnesses (m ∷ ms) (w ∷ ws) e = ap (λ t. w ∷ t) (all-witnesses ms ws (omega (arith, e)))

no-witnesses : (ws : List ℕ) → length ws ≡ 0 → ws ≡ []
no-witnesses [] e = refl
no-witnesses (w ∷ ws) e = absurd (omega (arith, e))

pub witnesses-given : (bits : ℕ) (ms : List (List ℕ)) (ws : List ℕ) → length ws ≡ witness_count bits (length ms) → witnesses_of bits (given_rounds ms ws) ≡ ws
witnesses-given zero ms ws many = sym (no-witnesses ws many)
witnesses-given (suc bits) ms ws many =
    all-witnesses ms ws (many ∙ ap (λ b. if b then 0 else length ms) (ne_eqb (suc bits) 0 (λ e. absurd (omega (arith, e)))))

module _ (r : LayerRun) (g : GivenLayer) where
  -- replayed whole, nothing of it is refused
  pub whole-none : IsReplayedWhole r g → given_fault r.channel r.rounds (run_begun r) g ≡ None
  whole-none whole =
      let many = witness_count r.channel.bits r.rounds in
      let first = first_refused r.channel 0 (run_begun r) (sent_of g).rounds in
      let few = Some (errors.PowWitnessCountMismatch many (length g.wire.witnesses)) in
      ap (λ b. if b then (if length g.wire.witnesses == many then first else few) else Some (errors.RoundCountMismatch r.rounds (length g.wire.messages)))
      (eq-eqb _ _ whole.counted.as_rounds)
      ∙ ap (λ b. if b then first else few) (eq-eqb _ _ whole.counted.as_witnesses)
      ∙ refused-none r.channel 0 (run_begun r) (sent_of g).rounds whole.wide whole.passes

  -- as many rounds were sent as there should be, and what was sent is what came
  pub whole-count : IsReplayedWhole r g → length (sent_of g).rounds ≡ r.rounds
  whole-count whole = length-given_rounds g.wire.messages g.wire.witnesses ∙ whole.counted.as_rounds

  pub whole-wired : IsReplayedWhole r g → g ≡ wired r.channel.bits (sent_of g)
  whole-wired whole =
      let ms = messages-given_rounds g.wire.messages g.wire.witnesses in
      let ws = witnesses-given r.channel.bits g.wire.messages g.wire.witnesses
      (whole.counted.as_witnesses ∙ ap (witness_count r.channel.bits) (sym whole.counted.as_rounds)) in
      rw (ms, ws) refl

  -- what is refused of it
  pub refused-as : {EF : Type 0} (number : EF → ℕ) (e : GenericDegreeError) (h' : List Event) → IsCauseOfLayer e →
      LeavesVerify number (run_replay r g) r.history (Err e) h' → given_fault r.channel r.rounds (run_begun r) g ≡ Some e
  refused-as number (errors.InvalidDegree d) h' cause left = absurd (omega (arith, left.1))
  refused-as number (errors.RoundCountMismatch expected actual) h' cause left =
      let why = left.1.1.0 in
      let many = witness_count r.channel.bits r.rounds in
      let rest = if length g.wire.witnesses == many then first_refused r.channel 0 (run_begun r) (sent_of g).rounds else Some (errors.PowWitnessCountMismatch many (length g.wire.witnesses)) in
      ap (λ b. if b then rest else Some (errors.RoundCountMismatch r.rounds (length g.wire.messages))) (ne_eqb _ _ (λ e. why.2 (why.1 ∙ e ∙ sym why.0)))
      ∙ ap (λ n. Some (errors.RoundCountMismatch n (length g.wire.messages))) (sym why.0) ∙ ap (λ n. Some (errors.RoundCountMismatch expected n)) (sym why.1)
  refused-as number (errors.PowWitnessCountMismatch expected actual) h' cause left =
      let why = left.1.1.0 in
      let many = witness_count r.channel.bits r.rounds in
      let first = first_refused r.channel 0 (run_begun r) (sent_of g).rounds in
      let few = Some (errors.PowWitnessCountMismatch many (length g.wire.witnesses)) in
      ap (λ b. if b then (if length g.wire.witnesses == many then first else few) else Some (errors.RoundCountMismatch r.rounds (length g.wire.messages))) (eq-eqb _ _ why.3)
      ∙ ap (λ b. if b then first else few) (ne_eqb _ _ (λ e. why.2 (why.1 ∙ e ∙ sym why.0)))
      ∙ ap (λ n. Some (errors.PowWitnessCountMismatch n (length g.wire.witnesses))) (sym why.0) ∙ ap (λ n. Some (errors.PowWitnessCountMismatch expected n)) (sym why.1)
  refused-as number (errors.PolyEvalCountMismatch i expected actual) h' cause left =
      let told = left.1.1 in
      let narrow = told.1.1 in
      let many = witness_count r.channel.bits r.rounds in
      let first = first_refused r.channel 0 (run_begun r) (sent_of g).rounds in
      let few = Some (errors.PowWitnessCountMismatch many (length g.wire.witnesses)) in
      ap (λ b. if b then (if length g.wire.witnesses == many then first else few) else Some (errors.RoundCountMismatch r.rounds (length g.wire.messages))) (eq-eqb _ _ told.0.as_rounds)
      ∙ ap (λ b. if b then first else few) (eq-eqb _ _ told.0.as_witnesses)
      ∙ refused-width r.channel 0 (run_begun r) (sent_of g).rounds i narrow.round narrow.walked.wide narrow.walked.replays.passes narrow.is (λ e. narrow.other (narrow.counts ∙ e))
      ∙ ap (λ j. Some (errors.PolyEvalCountMismatch j 2 (length narrow.round.values))) (zero-add i)
      ∙ ap (λ n. Some (errors.PolyEvalCountMismatch i n (length narrow.round.values))) (sym told.1.0)
      ∙ ap (λ n. Some (errors.PolyEvalCountMismatch i expected n)) (sym narrow.counts)
  refused-as number (errors.MissingPowWitness i) h' cause left = absurd left.1.1.1
  refused-as number (errors.InvalidPowWitness i) h' cause left =
      let told = left.1.1 in
      let at = told.1.1.at in
      let many = witness_count r.channel.bits r.rounds in
      let first = first_refused r.channel 0 (run_begun r) (sent_of g).rounds in
      let few = Some (errors.PowWitnessCountMismatch many (length g.wire.witnesses)) in
      let fails = ap (λ t. round_passes r.channel.rules r.channel.extension r.channel.bits t at.round) (sym at.replays.history) ∙ at.test.fails in
      let more : i + 1 ≡ suc i = omega arith in
      let wide : AreWide 2 (take (suc i) (sent_of g).rounds) = subst (λ j. AreWide 2 (take j (sent_of g).rounds)) more told.1.1.wide in
      ap (λ b. if b then (if length g.wire.witnesses == many then first else few) else Some (errors.RoundCountMismatch r.rounds (length g.wire.messages))) (eq-eqb _ _ told.0.as_rounds)
      ∙ ap (λ b. if b then first else few) (eq-eqb _ _ told.0.as_witnesses)
      ∙ refused-witness r.channel 0 (run_begun r) (sent_of g).rounds i at.round wide at.replays.passes at.is fails
      ∙ ap (λ j. Some (errors.InvalidPowWitness j)) (zero-add i)
  refused-as number (errors.NoWitness i) h' cause left = absurd left.1.1.1
  refused-as number errors.NoMemory h' cause left = absurd cause
