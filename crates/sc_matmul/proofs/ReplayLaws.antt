-- What is answered of rounds that are replayed, and what is left of the history.
use Rattle.std.proofs.Common.{◌≡◌, inl, inr, ⊎_elim, ◌⊎◌, ℕ, List, ◌∷◌, ◌++◌, length, if◌then◌else◌, Option, Some, None, Result, Ok, Err, refl, ap, sym, ◌∙◌, arith}
use Rattle.std.specs.Prelude.{◌==◌, IsErrAnd}
use Rattle.std.proofs.lemmas.List.{take_all}
use Rattle.sc_definitions.specs.declared.events.Event.{Event}
use Rattle.sc_definitions.specs.Tables.{evaluation, value}
use Rattle.sc_definitions.specs.Ring.{times}
use Rattle.sc_definitions.specs.Rounds.{next_claim, claim_along}
use Rattle.sc_definitions.specs.Transcript.{messages_of, before_draw}
use Rattle.sc_definitions.specs.Replays.{AllPass, given_rounds, round_passes}
use Rattle.sc_definitions.specs.Events.{Rules}
use Rattle.sc_definitions.specs.Channels.{Wire, VerifierState, verifier_state, channel, witnesses_of}
use Rattle.sc_definitions.specs.Witnesses.{first_failing}
use Rattle.sc_definitions.proofs.WitnessLaws.{first_failing-at, first_failing-none}
use Rattle.sc_definitions.proofs.BuiltLaws.{length-challenges}
use Rattle.sc_definitions.proofs.ReplayLaws.{length-given_rounds, messages-given_rounds}
use Rattle.sc_table.specs.declared.strategy.Basis.TheVariants.{Evaluation}
use Rattle.sc_transcript.specs.declared.error.SumcheckError.{SumcheckError}
use Rattle.sc_transcript.specs.declared.error.SumcheckError.TheVariants as rounds
use Rattle.sc_transcript.specs.Causes.{cause_of}
use Rattle.sc_transcript.specs.declared.error.RoundError.TheVariants as causes
use Rattle.sc_transcript.specs.Data.{witness_count, pair_replay}
use Rattle.sc_transcript.specs.Shapes.{shape_of, batch_of}
use Rattle.sc_transcript.specs.Walks.{Walk, IsWalked}
use Rattle.sc_transcript.specs.Replayed.{Replay, replay_of, LeavesReplay}
use Rattle.sc_audit_errors.specs.Findings.{Finding}
use Rattle.sc_soundness.specs.Stages.{stage_luck}
use Rattle.sc_merge_definitions.specs.QuadraticPlays.{finding_where}
use Rattle.sc_merge_definitions.specs.Matrices.{MatmulCase, MatmulFigures, drawn_point, after_point, after_rounds, entries_claim, left_table, right_table, inner_variables, matmul_challenges, matmul_stage, matmul_figures, false_entry}
use Rattle.sc_merge_definitions.proofs.GivenLaws.{both-same, witnesses-given}
use Rattle.sc_matmul.specs.declared.error.MatmulError.{MatmulError}
use Rattle.sc_matmul.specs.declared.error.MatmulError.TheVariants as errors
use Rattle.sc_matmul.specs.declared.report.MatmulReport.{MatmulReport}
use Rattle.sc_matmul.specs.MatmulRounds.{rounds_start, unless_fault, counts_fault, rounds_given, failing_fault, witness_fault, matmul_given}
use Rattle.sc_matmul.specs.MatmulReports.{given_result, result_in}
use Rattle.sc_matmul.specs.MatmulAudits.{IsAnswered}
use Rattle.sc_matmul.specs.MatmulPlays.{refusal_by}

-- ---- counts

module _ (n bits : ℕ) (w : Wire) where
  -- where there is no fault as many came as have to
  pub counted : counts_fault n bits w ≡ None → (length w.messages ≡ n) × (length w.witnesses ≡ witness_count bits n)
  counted = both-same (length w.messages) n (length w.witnesses) (witness_count bits n) _ _

-- ---- a replay

-- there are as many challenges as rounds came
pub walked-count : (p : Walk) (w : Wire) (rs : List ℕ) (end : VerifierState) → p.rounds ≡ given_rounds w.messages w.witnesses → IsWalked p rs end → length rs ≡ length w.messages
walked-count p w rs end is walked =
    ap length walked.replays.drawn ∙ length-challenges p.channel.rules p.channel.extension p.channel.bits p.start.history p.rounds ∙ ap length is
    ∙ length-given_rounds w.messages w.witnesses

module _ (q : MatmulCase) (w : Wire) where
  -- where it starts
  abbrev pub start_for : VerifierState
  start_for = verifier_state (rounds_start q) (entries_claim q)

  abbrev pub replay_for : Replay
  replay_for = replay_of (next_claim evaluation q.ops) q.channel (batch_of (shape_of (inner_variables q) q.channel.bits Evaluation)) start_for w

  pub replay-is : {R : Rules} {h : List Event} {n degree claim : ℕ} → R ≡ q.channel.rules → h ≡ after_point q → n ≡ inner_variables q → degree ≡ q.channel.extension.degree →
      claim ≡ entries_claim q →
      pair_replay q.ops (channel R q.channel.extension q.channel.base_size q.channel.bits) degree (shape_of n q.channel.bits Evaluation) w (verifier_state h claim) ≡ replay_for
  replay-is rules history count degree claim = rw (rules, history, count, degree, claim) refl

  module _ (none : counts_fault (inner_variables q) q.channel.bits w ≡ None) where
    rounds_as : length w.messages ≡ inner_variables q
    rounds_as = (counted (inner_variables q) q.channel.bits w none).0

    witnesses_as : length w.witnesses ≡ witness_count q.channel.bits (inner_variables q)
    witnesses_as = (counted (inner_variables q) q.channel.bits w none).1

    -- what comes of the witnesses
    given-by : (found : Option ℕ) → first_failing q.channel.rules q.channel.extension q.channel.bits (rounds_start q) (rounds_given w) ≡ found →
        matmul_given q w ≡ unless_fault (failing_fault q.channel.bits found) (Ok (rounds_given w))
    given-by found is =
        ap (λ t. unless_fault t (unless_fault (witness_fault q (rounds_given w)) (Ok (rounds_given w)))) none
        ∙ ap (λ t. unless_fault (failing_fault q.channel.bits t) (Ok (rounds_given w))) is

    pub given-whole : AllPass q.channel.rules q.channel.extension q.channel.bits (rounds_start q) (rounds_given w) → matmul_given q w ≡ Ok (rounds_given w)
    given-whole pass = given-by None (first_failing-none q.channel.rules q.channel.extension q.channel.bits (rounds_start q) (rounds_given w) pass)

    -- the witnesses of the rounds are those that came
    same_witnesses : witnesses_of q.channel.bits (rounds_given w) ≡ w.witnesses
    same_witnesses = witnesses-given q.channel.bits w.messages w.witnesses (witnesses_as ∙ ap (witness_count q.channel.bits) (sym rounds_as))

    -- the figures show them
    pub shown-rounds : given_rounds (matmul_figures q (rounds_given w)).messages (matmul_figures q (rounds_given w)).witnesses ≡ rounds_given w
    unfolding matmul_figures
    shown-rounds =
        ap (λ ms. given_rounds ms (witnesses_of q.channel.bits (rounds_given w))) (messages-given_rounds w.messages w.witnesses)
        ∙ ap (given_rounds w.messages) same_witnesses

    -- and are these
    pub figures-are : {point claim residual left right : ℕ} {rs : List ℕ} {finding : Finding} → point ≡ drawn_point q → claim ≡ entries_claim q →
        rs ≡ matmul_challenges q (rounds_given w) →
        residual ≡ claim_along (next_claim evaluation q.ops) (entries_claim q) w.messages (matmul_challenges q (rounds_given w)) →
        left ≡ value q.ops (left_table q) rs → right ≡ value q.ops (right_table q) rs →
        finding ≡ finding_where (residual == times q.ops left right) (false_entry q) (stage_luck q.ops (matmul_stage q (rounds_given w))) →
        record {
          point = point;
          claim = claim;
          messages = w.messages;
          witnesses = w.witnesses;
          challenges = rs;
          residual = residual;
          left = left;
          right = right;
          finding = finding;
        } ≡ matmul_figures q (rounds_given w)
    unfolding matmul_figures
    figures-are {residual = residual} {left = left} {right = right} {rs = rs} point_is claim_is drawn residual_is left_is right_is finds =
        let rounds = rounds_given w in
        let luck = stage_luck q.ops (matmul_stage q rounds) in
        let cs = matmul_challenges q rounds in
        let messages = sym (messages-given_rounds w.messages w.witnesses) in
        let left_at = left_is ∙ ap (value q.ops (left_table q)) drawn in
        let right_at = right_is ∙ ap (value q.ops (right_table q)) drawn in
        let residual_at = residual_is ∙ ap (λ ms. claim_along (next_claim evaluation q.ops) (entries_claim q) ms cs) messages in
        let found = finds ∙ ap (λ r. finding_where (r == times q.ops left right) (false_entry q) luck) residual_at
        ∙ ap (λ x. finding_where (claim_along (next_claim evaluation q.ops) (entries_claim q) (messages_of rounds) cs == times q.ops x right) (false_entry q) luck) left_at
        ∙ ap (λ x. finding_where (claim_along (next_claim evaluation q.ops) (entries_claim q) (messages_of rounds) cs == times q.ops (value q.ops (left_table q) cs) x) (false_entry q) luck) right_at in
        (λ i. record {
          point = point_is i;
          claim = claim_is i;
          messages = messages i;
          witnesses = sym same_witnesses i;
          challenges = drawn i;
          residual = residual_at i;
          left = left_at i;
          right = right_at i;
          finding = found i;
        })

    -- the residual
    pub residual-is : (rs : List ℕ) (end : VerifierState) → IsWalked replay_for.walk rs end →
        end.claim ≡ claim_along (next_claim evaluation q.ops) (entries_claim q) w.messages (matmul_challenges q (rounds_given w))
    residual-is rs end walked =
        walked.replays.claim
        ∙ ap (λ ms. claim_along (next_claim evaluation q.ops) (entries_claim q) ms (matmul_challenges q (rounds_given w))) (messages-given_rounds w.messages w.witnesses)

    -- a report on rounds that were replayed whole
    pub whole-answered : (rs : List ℕ) (end : VerifierState) (f : MatmulFigures) → IsWalked replay_for.walk rs end → f ≡ matmul_figures q (rounds_given w) →
        IsAnswered q (Some w) (Ok f) end.history
    whole-answered rs end f walked is = record {
      result = ap (given_result q) (given-whole walked.replays.passes) ∙ ap (λ t. Ok t) (sym is);
      history = walked.replays.history ∙ ap (after_rounds q) (sym (ap (λ (t : MatmulFigures). given_rounds t.messages t.witnesses) is ∙ shown-rounds));
    }

    -- there was no memory for one
    pub whole-broken : (rs : List ℕ) (end : VerifierState) → IsWalked replay_for.walk rs end → IsAnswered q (Some w) (Err errors.NoMemory) end.history
    whole-broken rs end walked = record {
      result = inl refl;
      history = inr (inr (
        length (rounds_given w),
        record {
          rounds = rounds_given w;
          are = refl;
          history = walked.replays.history ∙ ap (after_rounds q) (sym (take_all (length (rounds_given w)) (rounds_given w) (omega arith)));
        },
      ));
    }

    -- a replay that was refused
    pub refused-answered : (untouched : Type 0) (e : SumcheckError) (end : VerifierState) → (untouched → end.history ≡ after_point q) →
        LeavesReplay untouched replay_for (Err (cause_of e)) end → IsAnswered q (Some w) (Err (refusal_by e)) end.history
    refused-answered untouched (rounds.RoundCountMismatch expected actual) end kept left =
        absurd (left.0.2 (left.0.1 ∙ rounds_as ∙ sym left.0.0))
    refused-answered untouched (rounds.PowWitnessCountMismatch expected actual) end kept left =
        absurd (left.0.2 (left.0.1 ∙ witnesses_as ∙ sym left.0.0))
    refused-answered untouched (rounds.InvalidPowWitness i bits) end kept left =
        let R = q.channel.rules in
        let E = q.channel.extension in
        let at = left.1.1.at in
        let fails = ap (λ t. round_passes R E q.channel.bits t at.round) (sym at.replays.history) ∙ at.test.fails in
        let first = first_failing-at R E q.channel.bits (rounds_start q) (rounds_given w) i at.round at.replays.passes at.is fails in
        record {
          result = inr (ap (given_result q) (given-by (Some i) first) ∙ ap (λ b. Err (errors.InvalidPowWitness i b)) (sym left.1.0));
          history = record {
            rounds = rounds_given w;
            are = refl;
            round = at.round;
            is = at.is;
            history = at.test.history ∙ ap (λ t. t ++ before_draw E q.channel.bits at.round) at.replays.history;
          };
        }
    refused-answered untouched rounds.NoMemory end kept left = record {
      result = inl refl;
      history = ⊎_elim
          (λ none. inr (inl (kept none)))
          (λ part. inr (inr (part.count, record { rounds = rounds_given w; are = refl; history = part.walked.replays.history })))
          left.1;
    }
    refused-answered untouched e end kept left = absurd left.1

-- an error that is passed on
pub passed_on : {F EF : Type 0} (base : F → ℕ) (number : EF → ℕ) (r : Result (MatmulReport F EF) MatmulError) (e : MatmulError) → IsErrAnd r (λ x. x ≡ e) →
    result_in base number r ≡ Err e
passed_on base number (Ok x) e is = elim is [ ]
passed_on base number (Err x) e is = ap (λ y. Err y) is
