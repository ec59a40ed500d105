-- Rounds and openings that are built, from what is played on the tables.
use Rattle.std.proofs.Common.{◌≡◌, inl, inr, ⊎_elim, ℕ, suc, ◌+◌, ◌-◌, ◌<◌, List, [], ◌++◌, All, length, Some, None, Result, Ok, Err, refl, ap, sym, ◌∙◌, subst, arith}
use Rattle.std.proofs.lemmas.List.{length-map}
use Rattle.sc_definitions.specs.declared.events.Event.{Event}
use Rattle.sc_definitions.specs.Ring.{IsRing}
use Rattle.sc_definitions.specs.Transcript.{Round, rounds_events, challenges, sent}
use Rattle.sc_definitions.specs.Replays.{AllPass}
use Rattle.sc_definitions.specs.Events.{NonePasses}
use Rattle.sc_definitions.specs.Channels.{Wire, empty_wire, with_rounds, witnesses_of, IsBuilt}
use Rattle.sc_definitions.proofs.BuiltLaws.{length-messages, length-challenges}
use Rattle.sc_definitions.proofs.WitnessLaws.{honest_rounds-whole, honest_rounds-none, none_passes}
use Rattle.sc_challenger.specs.Parties.{Party, IsCopyOf}
use Rattle.sc_transcript.specs.declared.error.SumcheckError.{SumcheckError}
use Rattle.sc_transcript.specs.declared.error.SumcheckError.TheVariants as rounds
use Rattle.sc_transcript.specs.Data.{witness_count}
use Rattle.sc_transcript.proofs.GivenRounds.{given_played, count_witnesses}
use Rattle.sc_transcript.proofs.InStep.{all_pass}
use Rattle.sc_soundness.specs.Merged.{honest_merged}
use Rattle.sc_merge_definitions.specs.Openings.{OpeningsCase, OpeningsFigures, SentOpenings, merging_challenge, weighted_tables, openings_challenges, values_at, openings_figures, first_false_table_claim}
use Rattle.sc_merge_definitions.proofs.GivenLaws.{both-none}
use Rattle.sc_merged.specs.SameRows.{HaveSameRows}
use Rattle.sc_merged.specs.MergedPlays.{MergedState, ArePlayed, StopAt, LeavesPlay, seeded}
use Rattle.sc_merged.proofs.SameRowsLaws.{honest-same, built-same}
use Rattle.sc_openings.specs.declared.error.MergeError.{MergeError}
use Rattle.sc_openings.specs.declared.error.MergeError.TheVariants as errors
use Rattle.sc_openings.specs.OpeningsJobs.{Fields, ClaimedTables, CameOpenings, case_of}
use Rattle.sc_openings.specs.Shapes.{or_later}
use Rattle.sc_openings.specs.OpeningsRounds.{rounds_start, openings_built, with_openings, counts_fault, proof_fault, rounds_given, sent_given, openings_given, unless_fault}
use Rattle.sc_openings.specs.OpeningsReports.{GivesResult, given_result, built_result, task_result, claim_fault}
use Rattle.sc_openings.specs.OpeningsAudits.{IsAnswered, LeavesHistory}
use Rattle.sc_openings.specs.OpeningsPlays.{refusal_by, AreBuilt, LeavesBuilt}
use Rattle.sc_openings.proofs.ReplayLaws.{openings-none, count-from, given-whole}

module _ (q : OpeningsCase) (ring : IsRing q.ops) where
  -- ---- what a play leaves

  module _ (start after : MergedState) (history : start.history ≡ rounds_start q) (variables : start.variables ≡ q.variables)
      (same : HaveSameRows q.variables start.pairs (weighted_tables q)) (empty : start.wire ≡ empty_wire) (low : All (λ w. w < q.channel.base_size) after.wire.witnesses) where
    built_here : (rs : List Round) → IsBuilt (honest_merged q.ops start.pairs) q.channel start.history [] start.variables rs →
        IsBuilt (honest_merged q.ops (weighted_tables q)) q.channel (rounds_start q) [] q.variables rs
    built_here rs b =
        built-same q.ops ring start.pairs (weighted_tables q) q.variables same q.channel (rounds_start q) [] q.variables rs (omega arith)
        (subst (λ h. IsBuilt (honest_merged q.ops start.pairs) q.channel h [] q.variables rs) history
        (subst (λ k. IsBuilt (honest_merged q.ops start.pairs) q.channel start.history [] k rs) variables b))

    -- it was played whole
    pub built-played : (rs openings : List ℕ) → ArePlayed q.ops q.channel start after rs → after.variables ≡ 0 → openings ≡ values_at q.ops (weighted_tables q) rs →
        AreBuilt q (record { wire = after.wire; openings = openings })
    built-played rs openings played none values =
        let n = q.variables in
        let count : length played.rounds ≡ n = omega (arith, played.left, none, variables) in
        let honest = built_here played.rounds played.built in
        let wire : after.wire ≡ with_rounds q.channel.bits empty_wire played.rounds = played.wire ∙ ap (λ w. with_rounds q.channel.bits w played.rounds) empty in
        let drawn : rs ≡ openings_challenges q played.rounds =
        played.drawn ∙ ap (λ h. challenges q.channel.rules q.channel.extension q.channel.bits h played.rounds) history in
        record {
          rounds = played.rounds;
          are = honest_rounds-whole q.channel.rules q.channel.extension q.channel.base_size (honest_merged q.ops (weighted_tables q)) q.channel.bits (rounds_start q) [] n played.rounds
              count (subst (All (λ w. w < q.channel.base_size)) (ap (λ (w : Wire). w.witnesses) wire) low) honest;
          honest = honest;
          count = count;
          wire = wire;
          openings = values ∙ ap (values_at q.ops (weighted_tables q)) drawn;
        }

    -- it stopped for want of a witness
    built_stopped : (i : ℕ) → StopAt q.ops q.channel start after i → openings_built q ≡ Err i
    built_stopped i stop =
        let R = q.channel.rules in
        let E = q.channel.extension in
        let bits = q.channel.bits in
        let size = q.channel.base_size in
        let n = q.variables in
        let o = q.ops in
        let last = stop.last in
        let played = stop.played in
        let m = n - suc i in
        let some : i + suc m ≡ n = omega (arith, stop.some, variables) in
        let least : start.variables - suc i ≡ m = ap (λ k. k - suc i) variables in
        let drawn : stop.rs ≡ challenges R E bits (rounds_start q) played.rounds = played.drawn ∙ ap (λ h. challenges R E bits h played.rounds) history in
        let count : length played.rounds ≡ i = sym (ap length drawn ∙ length-challenges R E bits (rounds_start q) played.rounds) ∙ stop.count in
        let left : length played.rounds + suc m ≡ n = omega (arith, count, some) in
        let whole : length stop.rs + suc m ≡ n = omega (arith, stop.count, some) in
        let message : honest_merged o start.pairs stop.rs (start.variables - suc i) ≡ honest_merged o (weighted_tables q) (challenges R E bits (rounds_start q) played.rounds) m =
        ap (honest_merged o start.pairs stop.rs) least ∙ honest-same o ring start.pairs (weighted_tables q) n stop.rs m same whole
        ∙ ap (λ t. honest_merged o (weighted_tables q) t m) drawn in
        let before : last.history ≡ rounds_start q ++ rounds_events E bits played.rounds = played.history ∙ ap (λ h. h ++ rounds_events E bits played.rounds) history in
        let wire : after.wire.witnesses ≡ witnesses_of bits played.rounds =
        ap (λ (t : MergedState). t.wire.witnesses) stop.kept
        ∙ ap (λ (w : Wire). w.witnesses) (played.wire ∙ ap (λ w. with_rounds bits w played.rounds) empty) in
        let at = stop.none.history ∙ ap (λ h. h ++ sent E (honest_merged o start.pairs stop.rs (start.variables - suc i))) before
        ∙ ap (λ vs. (rounds_start q ++ rounds_events E bits played.rounds) ++ sent E vs) message in
        let passes = subst (λ t. NonePasses R t bits size) at stop.none.none_passes in
        honest_rounds-none R E size (honest_merged o (weighted_tables q)) bits (rounds_start q) [] n played.rounds m left (subst (All (λ w. w < size)) wire low)
        (built_here played.rounds played.built) (none_passes R E size bits _ stop.none.positive passes)
        ∙ ap (λ k. Err k) count

    -- it was refused
    pub built-refused : {F EF C X : Type 0} (base : F → ℕ) (number : EF → ℕ) (party : C → Party) (drawn : X → List ℕ) (before : MergedState) (e : SumcheckError) →
        seeded q.channel before ≡ start → LeavesPlay drawn q.ops q.channel before after (Err e) → LeavesBuilt {F = F} {EF = EF} base number party q (Err (refusal_by e))
    built-refused base number party drawn before (rounds.NoWitness i) is left = built_stopped i (subst (λ s. StopAt q.ops q.channel s after i) is left)
    built-refused base number party drawn before rounds.NoMemory is left = tt
    built-refused base number party drawn before e is left = absurd left

  -- ---- a replay of what was built

  module _ (came : CameOpenings) (b : AreBuilt q came) where
    built_rounds : rounds_given came.wire ≡ b.rounds
    built_rounds = ap rounds_given b.wire ∙ given_played (honest_merged q.ops (weighted_tables q)) q.channel (rounds_start q) [] q.variables b.rounds b.honest

    built_sent : sent_given came ≡ with_openings q b.rounds
    built_sent = (λ i. record { rounds = built_rounds i; openings = b.openings i })

    pub built-counted : proof_fault (length q.tables) q.variables q.channel.bits came ≡ None
    built-counted =
        let opened : length came.openings ≡ length q.tables =
        ap length b.openings ∙ length-map (weighted_tables q) _ ∙ count-from q.ops (merging_challenge q) q.claims 0 q.tables in
        ap (λ t. or_later t (counts_fault q.variables q.channel.bits came.wire)) (openings-none (length q.tables) came.openings opened)
        ∙ both-none (length came.wire.messages) q.variables (length came.wire.witnesses) (witness_count q.channel.bits q.variables) _ _
        (ap (λ (t : Wire). length t.messages) b.wire ∙ length-messages b.rounds ∙ b.count)
        (ap (λ (t : Wire). length t.witnesses) b.wire ∙ count_witnesses q.channel.bits b.rounds ∙ ap (witness_count q.channel.bits) b.count)

    built_given : openings_given q came ≡ Ok (with_openings q b.rounds)
    built_given =
        given-whole q came built-counted
        (subst (AllPass q.channel.rules q.channel.extension q.channel.bits (rounds_start q)) (sym built_rounds)
        (all_pass (honest_merged q.ops (weighted_tables q)) q.channel (rounds_start q) [] q.variables b.rounds b.honest))
        ∙ ap (λ s. Ok s) built_sent

    -- it is answered as a build is
    same_due : first_false_table_claim q 0 q.claims ≡ None → task_result q (Some came) ≡ task_result q None
    same_due none =
        ap (given_result q) built_given ∙ sym (ap (λ t. unless_fault (claim_fault t) (built_result q (openings_built q))) none ∙ ap (built_result q) b.are)

    due_ok : task_result q (Some came) ≡ Ok (openings_figures q (with_openings q b.rounds))
    due_ok = ap (given_result q) built_given

    asked_so : (s : SentOpenings) → sent_given came ≡ s → (openings_built q ≡ Ok s.rounds) × (with_openings q s.rounds ≡ s)
    asked_so s is =
        let same : b.rounds ≡ s.rounds = sym built_rounds ∙ ap (λ (t : SentOpenings). t.rounds) is in
        (b.are ∙ ap (λ rs. Ok rs) same, ap (with_openings q) (sym same) ∙ sym built_sent ∙ is)

    history_as : (answer : Result OpeningsFigures MergeError) (h' : List Event) → GivesResult (task_result q (Some came)) answer → LeavesHistory q (Some came) answer h' → LeavesHistory q None answer h'
    history_as (Ok f) h' gives left = left
    history_as (Err e) h' gives left = ⊎_elim
        (λ memory. subst (λ x. LeavesHistory q None (Err x) h') (sym memory) (broken (subst (λ x. LeavesHistory q (Some came) (Err x) h') memory left)))
        (λ refused. let bad = sym due_ok ∙ refused in cc)
        gives where
          broken : LeavesHistory q (Some came) (Err errors.NoMemory) h' → LeavesHistory q None (Err errors.NoMemory) h'
          broken untold = ⊎_elim
              (λ untouched. inl untouched)
              (λ more. ⊎_elim
              (λ drawn. inr (inl drawn))
              (λ rest. ⊎_elim
              (λ part. inr (inr (inl (part.0, record { sent = part.1.sent; are = asked_so part.1.sent part.1.are; history = part.1.history }))))
              (λ all. inr (inr (inr (record { sent = all.sent; are = asked_so all.sent all.are; history = all.history }))))
              rest)
              more)
              untold

    pub built-answered : first_false_table_claim q 0 q.claims ≡ None → (answer : Result OpeningsFigures MergeError) (h' : List Event) → IsAnswered q (Some came) answer h' → IsAnswered q None answer h'
    built-answered none answer h' a = record {
      result = subst (λ due. GivesResult due answer) (same_due none) a.result;
      history = history_as answer h' a.result a.history;
    }

  -- ---- builds that are refused

  -- rounds that could not be built
  pub unbuilt-answered : {F EF C : Type 0} (base : F → ℕ) (number : EF → ℕ) (party : C → Party) (e : MergeError) → first_false_table_claim q 0 q.claims ≡ None →
      LeavesBuilt {F = F} {EF = EF} base number party q (Err e) → IsAnswered q None (Err e) q.history
  unbuilt-answered base number party (errors.NoWitness i) none left = record {
    result = inr (ap (λ t. unless_fault (claim_fault t) (built_result q (openings_built q))) none ∙ ap (built_result q) left);
    history = refl;
  }
  unbuilt-answered base number party errors.NoMemory none left = record { result = inl refl; history = inl refl }
  unbuilt-answered base number party e none left = absurd left

-- a copy of a challenger has the same case
pub case-copied : (fs : Fields) (m : ClaimedTables) (bits : ℕ) (p copy : Party) → IsCopyOf p copy → case_of fs m bits copy ≡ case_of fs m bits p
case-copied fs m bits p copy is = rw (is.rules, is.history) refl
