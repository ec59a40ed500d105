-- What was built, and the report on its replay.
use Rattle.std.proofs.Common.{◌≡◌, ℕ, suc, ◌+◌, ◌-◌, ◌^◌, ◌<◌, List, [], ◌∷◌, All, length, map, true, None, refl, ap, sym, ◌∙◌, subst, arith, inl, inr, Err}
use Rattle.std.proofs.lemmas.Bool.{eq-eqb}
use Rattle.sc_definitions.specs.declared.events.Event.{Event}
use Rattle.sc_definitions.specs.Ring.{IsRing, element}
use Rattle.sc_definitions.specs.Tables.{IsOffered, entries, rows_of, value_in, point_of, folded_by}
use Rattle.sc_definitions.specs.Rounds.{next_claim}
use Rattle.sc_definitions.specs.Transcript.{Round, messages_of, challenges}
use Rattle.sc_definitions.specs.Replays.{given_rounds}
use Rattle.sc_definitions.specs.Channels.{Wire, empty_wire, witnesses_of, VerifierState, NoWitnessFound, IsReplayed, IsReplayedInPart, FailsAt, IsBuilt, channel}
use Rattle.sc_definitions.specs.ProverStates.{Setting, ProverState, entries_of, message_in, honest_in, IsPlayed, IsPlayedWithoutWitness}
use Rattle.sc_definitions.specs.Problem.{weights_of, claim_of, honest_of, residual_of, eval_of, weight_value_of}
use Rattle.sc_definitions.specs.Lucky.{luck_of}
use Rattle.sc_definitions.proofs.RingLaws.{element-small}
use Rattle.sc_definitions.proofs.PlacedLaws.{partial_value-folded_by}
use Rattle.sc_definitions.proofs.BuildLaws.{first_false_claim-all, built-residual, placed-end}
use Rattle.sc_definitions.proofs.BuiltLaws.{length-messages, length-challenges}
use Rattle.sc_definitions.proofs.SameTables.{folded_by-same, built-same, honest-same}
use Rattle.sc_definitions.proofs.ProverStateLaws.{entries-is, with_none, rows-entries_of, message_honest}
use Rattle.std.proofs.lemmas.Nat.{pow_pos}
use Rattle.sc_transcript.specs.declared.error.SumcheckError.{SumcheckError}
use Rattle.sc_transcript.specs.declared.error.SumcheckError.TheVariants.{RoundCountMismatch, InvalidPowWitness, PowWitnessCountMismatch, NoWitness, NoMemory}
use Rattle.sc_transcript.specs.Data.{witness_count}
use Rattle.sc_transcript.specs.declared.rounds.BatchShape.{BatchShape}
use Rattle.sc_transcript.specs.Causes.{cause_of}
use Rattle.sc_transcript.specs.Replayed.{replay_of, LeavesReplay}
use Rattle.sc_definitions.specs.Events.{Rules}
use Rattle.sc_definitions.specs.ProverViews.{ProverView, setting_at, prover_state_at}
use Rattle.sc_transcript.specs.Batches.{Batch, batch_at, PlaysWhole, BreaksOff}
use Rattle.sc_transcript.proofs.GivenRounds.{given_played, count_witnesses}
use Rattle.sc_transcript.proofs.InStep.{none_failing}
use Rattle.sc_table.specs.declared.strategy.Strategy.{Strategy}
use Rattle.sc_jobs.specs.Cases.{build, Asked, with_task, start_of}
use Rattle.sc_audit_errors.specs.Findings.{holds}
use Rattle.sc_jobs.specs.Figures.{finding_by, false_claim_of, is_matched}
use Rattle.sc_jobs.specs.Audits.{IsAudited, BuildStops, IsCaused, grids_for, refusal_by}
use Rattle.sc_jobs.specs.BuiltCases.{as_build, prover_for, Kept, IsBuiltCase}
use Rattle.sc_jobs.proofs.FigureLaws.{figures-are}

-- the numbers of a list of one
pub one_entry : {X : Type 0} (number : X → ℕ) (xs : List X) (y : ℕ) → length xs ≡ 1 → entries number xs 0 ≡ y → map number xs ≡ y ∷ []
unfolding entries
one_entry number [] y one at = absurd (omega (arith, one))
one_entry number (x ∷ []) y one at = ap (λ n. n ∷ []) at
one_entry number (x ∷ z ∷ xs) y one at = absurd (omega (arith, one))

module _ (q : Asked) (ring : IsRing q.ops) (offered : IsOffered q.case.problem.basis q.case.problem.order) where
  -- what stays, and where the first round stands
  abbrev pub setting_for : Setting
  setting_for = setting_at q.channel q.ops (prover_for q.ops q.case.problem)

  abbrev pub start_for : ProverState
  start_for = prover_state_at (prover_for q.ops q.case.problem) (start_of q).history empty_wire

  -- what the prover's tables tell is what an honest prover sends
  told_honest : (rs : List ℕ) (m : ℕ) → length rs + suc m ≡ q.case.problem.variables → honest_in setting_for start_for rs m ≡ honest_of q.ops q.case.problem rs m
  unfolding honest_of
  told_honest rs m whole =
      let p = q.case.problem in
      honest-same p.basis p.order q.ops ring offered p.variables _ p.table _ (weights_of q.ops p) (rows-entries_of p.variables p.table) (rows-entries_of p.variables (weights_of q.ops p)) rs m whole

  built_honest : (rounds : List Round) → IsBuilt (honest_in setting_for start_for) q.channel (start_of q).history [] q.case.problem.variables rounds →
      IsBuilt (honest_of q.ops q.case.problem) q.channel (start_of q).history [] q.case.problem.variables rounds
  unfolding honest_of
  built_honest rounds b =
      let p = q.case.problem in
      built-same p.basis p.order q.ops ring offered p.variables _ p.table _ (weights_of q.ops p) (rows-entries_of p.variables p.table) (rows-entries_of p.variables (weights_of q.ops p))
      q.channel (start_of q).history [] p.variables rounds (omega arith) b

  -- the one entry that is left is the table's value at the challenges
  value_left : (f : ℕ → ℕ) (rs xs : List ℕ) (x : ℕ) → length rs ≡ q.case.problem.variables →
      xs ≡ entries_of 0 (folded_by q.case.problem.basis q.case.problem.order q.ops rs 0 (rows_of (entries_of q.case.problem.variables f))) → xs ≡ x ∷ [] → x < q.ops.size →
      x ≡ value_in q.case.problem.basis q.ops f (point_of q.case.problem.order rs)
  unfolding rows_of
  value_left f rs xs x count bound one low =
      let p = q.case.problem in
      let n = p.variables in
      let whole : length rs + 0 ≡ n = omega (arith, count) in
      let at : (b : ℕ) → b < 2 ^ 0 → x ≡ folded_by p.basis p.order q.ops rs 0 f b = λ b below.
      let first : 0 ≡ b = omega (arith, below) in
      let entry : x ≡ folded_by p.basis p.order q.ops rs 0 (rows_of (entries_of n f)) 0 =
      ap (λ t. rows_of t 0) (sym one ∙ bound) ∙ rows-entries_of 0 (folded_by p.basis p.order q.ops rs 0 (rows_of (entries_of n f))) 0 (omega arith) in
      entry ∙ folded_by-same p.basis p.order q.ops rs 0 (rows_of (entries_of n f)) f (λ k under. rows-entries_of n f k (subst (λ v. k < 2 ^ v) whole under)) 0 (omega arith)
      ∙ ap (folded_by p.basis p.order q.ops rs 0 f) first in
      sym (element-small q.ops ring x low) ∙ ap (element q.ops) (at 0 (omega arith))
      ∙ sym (partial_value-folded_by q.ops ring p.basis p.order f rs 0 0 (omega arith)) ∙ placed-end q.ops ring p.basis p.order offered f rs

  -- ---- no round

  -- the one entry of a table of no variable
  one_left : (f : ℕ → ℕ) (x : ℕ) → x ≡ f 0 →
      entries_of 0 (folded_by q.case.problem.basis q.case.problem.order q.ops [] 0 (rows_of (entries_of q.case.problem.variables f))) ≡ x ∷ []
  unfolding folded_by rows_of
  one_left f x is =
      let n = q.case.problem.variables in
      sym (entries-is 0 (x ∷ []) _ refl (λ b low.
      let first : 0 ≡ b = omega (arith, low) in
      ap (rows_of (x ∷ [])) (sym first) ∙ is ∙ sym (rows-entries_of n f 0 (pow_pos n)) ∙ ap (rows_of (entries_of n f)) first))

  -- a case of no variable is built of none
  pub built_none : q.case.problem.variables ≡ 0 → (b : Kept) → b.wire ≡ empty_wire → b.challenges ≡ [] → b.claim ≡ claim_of q.ops q.case.problem →
      b.eval ≡ q.case.problem.table 0 → b.weight ≡ weights_of q.ops q.case.problem 0 → b.eval < q.ops.size → b.weight < q.ops.size → b.grids ≡ grids_for q → IsBuiltCase q b
  unfolding eval_of weight_value_of
  built_none none b wire drawn claim eval weight low high grids =
      let p = q.case.problem in
      record {
        rounds = [];
        built = tt;
        count = sym none;
        wire = wire ∙ with_none q.channel.bits empty_wire;
        drawn = drawn;
        claim = claim;
        eval = value_left p.table [] _ b.eval (sym none) refl (one_left p.table b.eval eval) low
            ∙ ap (λ rs. value_in p.basis q.ops p.table (point_of p.order rs)) (sym drawn);
        weight = value_left (weights_of q.ops p) [] _ b.weight (sym none) refl (one_left (weights_of q.ops p) b.weight weight) high
            ∙ ap (λ rs. value_in p.basis q.ops (weights_of q.ops p) (point_of p.order rs)) (sym drawn);
        grids = grids;
      }

  -- ---- a batch of a prover

  module _ (b : Batch) (setting : b.setting ≡ setting_for) (start : b.start ≡ start_for) (rounds_are : b.rounds ≡ q.case.problem.variables) (after : ProverState) where
    -- that was played whole
    pub built_case : {rs : List ℕ} {claim x y : ℕ} {grids : List (List ℕ × List ℕ)} → PlaysWhole b after rs → claim ≡ claim_of q.ops q.case.problem →
        after.evals ≡ x ∷ [] → after.weights ≡ y ∷ [] → x < q.ops.size → y < q.ops.size → grids ≡ grids_for q →
        IsBuiltCase q (record { claim = claim; wire = after.wire; challenges = rs; eval = x; weight = y; grids = grids })
    unfolding eval_of weight_value_of
    built_case {rs} {claim} {x} {y} {grids} whole claimed ex ey low high grids_are =
        let p = q.case.problem in
        let played : IsPlayed setting_for start_for after rs =
        subst (λ t. IsPlayed setting_for t after rs) start (subst (λ s. IsPlayed s b.start after rs) setting whole.played) in
        let none_left : after.variables ≡ 0 = omega (arith, whole.whole, rounds_are, ap (λ (t : ProverState). t.variables) start) in
        let count : length played.rounds ≡ p.variables = omega (arith, played.count, none_left) in
        let drawn : length rs ≡ p.variables = ap length played.drawn ∙ length-challenges _ _ _ _ played.rounds ∙ count in
        record {
          rounds = played.rounds;
          built = built_honest played.rounds played.built;
          count = count;
          wire = played.wire;
          drawn = played.drawn;
          claim = claimed;
          eval = value_left p.table rs after.evals x drawn
              (subst (λ m. after.evals ≡ entries_of m (folded_by p.basis p.order q.ops rs m (rows_of (entries_of p.variables p.table)))) none_left played.evals) ex low;
          weight = value_left (weights_of q.ops p) rs after.weights y drawn
              (subst (λ m. after.weights ≡ entries_of m (folded_by p.basis p.order q.ops rs m (rows_of (entries_of p.variables (weights_of q.ops p))))) none_left played.weights) ey high;
          grids = grids_are;
        }

    -- that stopped for want of a witness
    pub build_stops : (i : ℕ) → All (λ w. w < q.channel.base_size) after.wire.witnesses → BreaksOff b after (NoWitness i) → BuildStops (as_build q) i
    build_stops i low why =
        let p = q.case.problem in
        let stopped : IsPlayedWithoutWitness setting_for start_for after =
        subst (λ t. IsPlayedWithoutWitness setting_for t after) start (subst (λ s. IsPlayedWithoutWitness s b.start after) setting why.2) in
        let last = stopped.last in
        let played = stopped.played in
        let size : after.variables + i ≡ p.variables = why.1 ∙ ap (λ (t : ProverState). t.variables) start in
        let m = p.variables - suc i in
        let some : i + suc m ≡ p.variables = omega (arith, why.0, rounds_are) in
        let variables : last.variables ≡ suc m = sym (ap (λ (t : ProverState). t.variables) stopped.ends.kept) ∙ omega (arith, size, some) in
        let count : length played.rounds ≡ i = omega (arith, played.count, variables, some) in
        let drawn = challenges q.channel.rules q.channel.extension q.channel.bits (start_of q).history played.rounds in
        let full : length drawn + suc m ≡ p.variables = omega (arith, length-challenges q.channel.rules q.channel.extension q.channel.bits (start_of q).history played.rounds, count, some) in
        let message : message_in setting_for last ≡ honest_of q.ops p drawn m =
        message_honest setting_for ring offered start_for last stopped.rs m played variables ∙ ap (λ t. honest_in setting_for start_for t m) played.drawn ∙ told_honest drawn m full in
        let wire : after.wire.witnesses ≡ witnesses_of q.channel.bits played.rounds = ap (λ (t : ProverState). t.wire.witnesses) stopped.ends.kept ∙ ap (λ (w : Wire). w.witnesses) played.wire in
        record {
          rounds = played.rounds;
          built = built_honest played.rounds played.built;
          count = count;
          low = subst (All (λ w. w < q.channel.base_size)) wire low;
          left = m;
          some = some;
          end = after.history;
          none = subst (λ h. NoWitnessFound q.channel h (honest_of q.ops p drawn m) after.history) played.history
              (subst (λ vs. NoWitnessFound q.channel last.history vs after.history) message stopped.ends.none);
        }

  -- ---- the batch that a prover of it plays

  module _ {shown : ProverView} {R : Rules} {h : List Event} {on : Wire} {degree k : ℕ} (rules : R ≡ q.channel.rules) (history : h ≡ q.history) (shows : shown ≡ prover_for q.ops q.case.problem)
      (none_sent : on ≡ empty_wire) (degree_is : degree ≡ q.channel.extension.degree) (count : k ≡ q.case.problem.variables) where
    abbrev pub batch_here : Batch
    batch_here =
        batch_at (setting_at (channel R q.channel.extension q.channel.base_size q.channel.bits) q.ops shown) (prover_state_at shown h on) degree k

    pub same_setting : batch_here.setting ≡ setting_for
    same_setting = rw (rules, shows) refl

    pub same_start : batch_here.start ≡ start_for
    same_start =
        rw (history, shows, none_sent, degree_is, count) refl

  -- ---- a replay of what was built

  module _ (k : Kept) (b : IsBuiltCase q k) where
    rounds_given : given_rounds k.wire.messages k.wire.witnesses ≡ b.rounds
    rounds_given =
        ap (λ (w : Wire). given_rounds w.messages w.witnesses) b.wire
        ∙ given_played (honest_of q.ops q.case.problem) q.channel (start_of q).history [] q.case.problem.variables b.rounds b.built

    -- its counts
    pub rounds_built : length k.wire.messages ≡ q.case.problem.variables
    rounds_built = ap (λ (w : Wire). length w.messages) b.wire ∙ length-messages b.rounds ∙ b.count

    pub witnesses_built : length k.wire.witnesses ≡ witness_count q.channel.bits q.case.problem.variables
    witnesses_built = ap (λ (w : Wire). length w.witnesses) b.wire ∙ count_witnesses q.channel.bits b.rounds ∙ ap (witness_count q.channel.bits) b.count

    -- the report on it, where the statements are true
    pub report_built : (strategy : Strategy) (end : VerifierState) (out : List ℕ) → k.grids ≡ grids_for (with_task q (build strategy)) → false_claim_of q.ops q.case.problem ≡ None →
        IsReplayed (next_claim q.case.problem.basis q.ops) q.channel (start_of q) end (given_rounds k.wire.messages k.wire.witnesses) out →
        IsAudited (with_task q (build strategy))
        (record {
          figures = record {
            claim = k.claim;
            messages = k.wire.messages;
            witnesses = k.wire.witnesses;
            challenges = k.challenges;
            residual = end.claim;
            eval = k.eval;
            weight = k.weight;
            finding = holds;
          };
          grids = k.grids;
        }) end.history
    unfolding residual_of honest_of
    report_built strategy end out grids true_all replays =
        let p = q.case.problem in
        let o = q.ops in
        let rs = challenges q.channel.rules q.channel.extension q.channel.bits (start_of q).history b.rounds in
        let moved : IsReplayed (next_claim p.basis o) q.channel (start_of q) end b.rounds out =
        subst (λ rounds. IsReplayed (next_claim p.basis o) q.channel (start_of q) end rounds out) rounds_given replays in
        let matched : is_matched o p (messages_of b.rounds) rs ≡ true =
        eq-eqb _ _ (built-residual o ring p q.channel (start_of q).history b.rounds offered (first_false_claim-all o p.variables p.table 0 p.statements true_all) b.count b.built) in
        let luck = luck_of o p (messages_of b.rounds) rs in
        let finding : holds ≡ finding_by (is_matched o p (messages_of b.rounds) rs) (false_claim_of o p) luck =
        sym (ap (λ t. finding_by t (false_claim_of o p) luck) matched ∙ ap (λ c. finding_by true c luck) true_all) in
        record {
          played = record {
            rounds = b.rounds;
            are = b.built;
            count = b.count;
            passes = moved.passes;
            history = moved.history;
            is = figures-are o p (messages_of b.rounds) (witnesses_of q.channel.bits b.rounds) rs
                (ap (λ (w : Wire). w.messages) b.wire) (ap (λ (w : Wire). w.witnesses) b.wire) b.drawn b.claim moved.claim
                (b.eval ∙ ap (eval_of o p) b.drawn) (b.weight ∙ ap (weight_value_of o p) b.drawn) finding;
          };
          grids = grids;
        }

    -- a replay of it is broken off for want of memory alone
    pub replay_broken : (strategy : Strategy) (history claim : Type 0) (start end : VerifierState) (batch : BatchShape) (e : SumcheckError) →
        batch.num_rounds ≡ q.case.problem.variables → batch.pow_bits ≡ q.channel.bits → start ≡ start_of q → (history → end.history ≡ q.history) →
        LeavesReplay (history × claim) (replay_of (next_claim q.case.problem.basis q.ops) q.channel batch start k.wire) (Err (cause_of e)) end →
        IsCaused None (with_task q (build strategy)) end.history (refusal_by e)
    replay_broken strategy history claim start end batch NoMemory size same begun kept left = elim left.1 [
      | inl none ↦ inl (kept none.0)
      | inr part ↦
          let next = next_claim q.case.problem.basis q.ops in
          let some : IsReplayedInPart next q.channel (start_of q) end b.rounds =
          subst (λ rounds. IsReplayedInPart next q.channel (start_of q) end rounds) rounds_given
          (subst (λ f. IsReplayedInPart next q.channel f end (given_rounds k.wire.messages k.wire.witnesses)) begun
          (record { count = part.count; rs = part.rs; replays = part.walked.replays })) in
          inr (record { rounds = b.rounds; are = b.built; count = b.count; played = some.count; passes = some.replays.passes; history = some.replays.history })
    ]
    replay_broken strategy history claim start end batch (InvalidPowWitness i bits) size same begun kept left =
        let next = next_claim q.case.problem.basis q.ops in
        absurd (none_failing next (honest_of q.ops q.case.problem) q.channel (start_of q) end q.case.problem.variables b.rounds i b.built
        (subst (λ rounds. FailsAt next q.channel (start_of q) end rounds i) rounds_given
        (subst (λ f. FailsAt next q.channel f end (given_rounds k.wire.messages k.wire.witnesses) i) begun left.1.1.at)))
    replay_broken strategy history claim start end batch (RoundCountMismatch n m) size same begun kept left =
        absurd (left.0.2 (left.0.1 ∙ rounds_built ∙ sym size ∙ sym left.0.0))
    replay_broken strategy history claim start end batch (PowWitnessCountMismatch n m) size same begun kept left =
        let counts : witness_count batch.pow_bits batch.num_rounds ≡ witness_count q.channel.bits q.case.problem.variables = rw (same, size) refl in
        absurd (left.0.2 (left.0.1 ∙ witnesses_built ∙ sym counts ∙ sym left.0.0))
    replay_broken strategy history claim start end batch e size same begun kept left = absurd left.1
