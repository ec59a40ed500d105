-- What is answered of rounds and openings that are replayed, and what is left of the history.
use Rattle.std.proofs.Common.{◌≡◌, inl, inr, ⊎_elim, ℕ, suc, ◌^◌, ◌<◌, Bool, List, [], ◌∷◌, ◌++◌, length, map, if◌then◌else◌, Option, Some, None, Result, Ok, Err, refl, ap, sym, ◌∙◌, subst, arith, eq-eqb}
use Rattle.std.specs.Prelude.{◌==◌, ◌&&◌, nat_eq, IsErrAnd, Vec}
use Rattle.std.specs.Global.{Global}
use Rattle.std.specs.Cmp.Lexicographic.{pointwise}
use Rattle.std.proofs.lemmas.List.{length-map, take_all}
use Rattle.sc_definitions.specs.declared.events.Event.{Event}
use Rattle.sc_definitions.specs.Ring.{Ops}
use Rattle.sc_definitions.specs.Tables.{evaluation, entries, value}
use Rattle.sc_definitions.specs.Rounds.{next_claim, claim_along}
use Rattle.sc_definitions.specs.Transcript.{messages_of, before_draw, sent}
use Rattle.sc_definitions.specs.Replays.{AllPass, given_rounds, round_passes}
use Rattle.sc_definitions.specs.Events.{Rules}
use Rattle.sc_definitions.specs.Channels.{Wire, VerifierState, verifier_state, channel, witnesses_of}
use Rattle.sc_definitions.specs.Witnesses.{first_failing}
use Rattle.sc_definitions.proofs.TableLaws.{value-same}
use Rattle.sc_definitions.proofs.WitnessLaws.{first_failing-at, first_failing-none}
use Rattle.sc_definitions.proofs.BuiltLaws.{length-challenges}
use Rattle.sc_definitions.proofs.ReplayLaws.{length-given_rounds, messages-given_rounds}
use Rattle.sc_table.specs.declared.strategy.Basis.TheVariants.{Evaluation}
use Rattle.sc_transcript.specs.declared.error.SumcheckError.{SumcheckError}
use Rattle.sc_transcript.specs.declared.error.SumcheckError.TheVariants as rounds
use Rattle.sc_transcript.specs.Causes.{cause_of}
use Rattle.sc_transcript.specs.Data.{witness_count, pair_replay}
use Rattle.sc_transcript.specs.Shapes.{shape_of, batch_of}
use Rattle.sc_transcript.specs.Walks.{Walk, IsWalked}
use Rattle.sc_transcript.specs.Replayed.{Replay, replay_of, LeavesReplay}
use Rattle.sc_audit_errors.specs.Findings.{Finding}
use Rattle.sc_soundness.specs.Merged.{WeightedTable}
use Rattle.sc_soundness.specs.Stages.{stage_luck}
use Rattle.sc_merge_definitions.specs.QuadraticPlays.{finding_where}
use Rattle.sc_merge_definitions.specs.Openings.{OpeningsCase, OpeningsFigures, TableClaim, after_merging, after_openings, merging_claim, weighted_from, weighted_tables, openings_challenges, products_sum, values_at, weight_values_at, openings_stage, openings_match, openings_figures, first_false_table_claim}
use Rattle.sc_merge_definitions.proofs.GivenLaws.{none-same, both-same, witnesses-given}
use Rattle.sc_merged.specs.SameRows.{HaveSameRows}
use Rattle.sc_openings.specs.declared.error.MergeError.{MergeError}
use Rattle.sc_openings.specs.declared.error.MergeError.TheVariants as errors
use Rattle.sc_openings.specs.declared.report.MergeReport.{MergeReport}
use Rattle.sc_openings.specs.OpeningsJobs.{CameOpenings, table_of_entries}
use Rattle.sc_openings.specs.OpeningsRounds.{rounds_start, after_rounds, unless_fault, openings_fault, counts_fault, proof_fault, rounds_given, sent_given, failing_fault, witness_fault, openings_given}
use Rattle.sc_openings.specs.OpeningsReports.{given_result, result_in}
use Rattle.sc_openings.specs.OpeningsAudits.{IsAnswered}
use Rattle.sc_openings.specs.OpeningsPlays.{refusal_by}
use Rattle.sc_openings.proofs.ShapeLaws.{none-first, none-later}
use Rattle.sc_openings.proofs.ValueLaws.{table-is}

-- ---- a proof that is as long as it has to be

pub openings-none : (tables : ℕ) (openings : List ℕ) → length openings ≡ tables → openings_fault tables openings ≡ None
openings-none tables openings same = ap (λ b. if b then None else Some (errors.OpeningCount tables (length openings))) (eq-eqb _ _ same)

module _ (tables n bits : ℕ) (came : CameOpenings) (none : proof_fault tables n bits came ≡ None) where
  pub openings-counted : length came.openings ≡ tables
  openings-counted =
      none-same (length came.openings) tables (errors.OpeningCount tables (length came.openings))
      (none-first (openings_fault tables came.openings) (counts_fault n bits came.wire) none)

  pub rounds-counted : (length came.wire.messages ≡ n) × (length came.wire.witnesses ≡ witness_count bits n)
  rounds-counted =
      both-same (length came.wire.messages) n (length came.wire.witnesses) (witness_count bits n) _ _ (none-later (openings_fault tables came.openings) (counts_fault n bits came.wire) none)

-- ---- values at the challenges

-- those of tables that have the same rows
pub weights-same : (o : Ops) (n : ℕ) (ps qs : List WeightedTable) (zs : List ℕ) → HaveSameRows n ps qs → length zs ≡ n → weight_values_at o ps zs ≡ weight_values_at o qs zs
weights-same o n [] [] zs same size = refl
weights-same o n [] (q ∷ qs) zs same size = absurd same
weights-same o n (p ∷ ps) [] zs same size = absurd same
weights-same o n (p ∷ ps) (q ∷ qs) zs same size =
    let first = value-same o p.weights q.weights zs (λ b low. same.0.weights b (subst (λ k. b < 2 ^ k) size low)) in
    (λ i. first i ∷ weights-same o n ps qs zs same.1 size i)

values_from : (o : Ops) (c : ℕ) (cs : List TableClaim) (k : ℕ) (fs : List (ℕ → ℕ)) (zs : List ℕ) → values_at o (weighted_from o c cs k fs) zs ≡ map (λ f. value o f zs) fs
values_from o c cs k [] zs = refl
values_from o c cs k (f ∷ fs) zs = ap (λ l. value o f zs ∷ l) (values_from o c cs (suc k) fs zs)

pub count-from : (o : Ops) (c : ℕ) (cs : List TableClaim) (k : ℕ) (fs : List (ℕ → ℕ)) → length (weighted_from o c cs k fs) ≡ length fs
count-from o c cs k [] = refl
count-from o c cs k (f ∷ fs) = ap suc (count-from o c cs (suc k) fs)

values_entries : {F : Type 0} (o : Ops) (emb : ℕ → ℕ) (base : F → ℕ) → emb 0 ≡ 0 → (ts : List (Vec F Global)) (zs : List ℕ) →
    map (λ t. value o (entries (λ x. emb (base x)) t.items) zs) ts ≡ map (λ f. value o f zs) (map (table_of_entries emb) (map (λ t. map base t.items) ts))
values_entries o emb base none [] zs = refl
values_entries o emb base none (t ∷ ts) zs =
    let first = ap (λ f. value o f zs) (table-is emb base none (t ∷ ts) 0 t (omega arith)) in
    (λ i. first i ∷ values_entries o emb base none ts zs i)

-- the openings of tables in memory are those of the case's
pub openings-are : {F : Type 0} (q : OpeningsCase) (c : ℕ) (emb : ℕ → ℕ) (base : F → ℕ) → emb 0 ≡ 0 → (ts : List (Vec F Global)) (zs : List ℕ) →
    q.tables ≡ map (table_of_entries emb) (map (λ t. map base t.items) ts) →
    map (λ t. value q.ops (entries (λ x. emb (base x)) t.items) zs) ts ≡ values_at q.ops (weighted_from q.ops c q.claims 0 q.tables) zs
openings-are q c emb base none ts zs is =
    values_entries q.ops emb base none ts zs ∙ ap (map (λ f. value q.ops f zs)) (sym is) ∙ sym (values_from q.ops c q.claims 0 q.tables zs)

-- a test that tells whether they match
pub match-is : (q : OpeningsCase) (residual : ℕ) (openings rs xs ws ts : List ℕ) (b : Bool) → xs ≡ openings → ws ≡ weight_values_at q.ops (weighted_tables q) rs →
    ts ≡ values_at q.ops (weighted_tables q) rs → b ≡ (residual == products_sum q.ops xs ws) && pointwise nat_eq xs ts → b ≡ openings_match q residual openings rs
unfolding openings_match
match-is q residual openings rs xs ws ts b shown weights values is =
    is ∙ ap (λ l. (residual == products_sum q.ops l ws) && pointwise nat_eq l ts) shown
    ∙ ap (λ l. (residual == products_sum q.ops openings l) && pointwise nat_eq openings ts) weights
    ∙ ap (λ l. (residual == products_sum q.ops openings (weight_values_at q.ops (weighted_tables q) rs)) && pointwise nat_eq openings l) values

-- the case has as many tables as are in memory
pub case-tables : {F : Type 0} (q : OpeningsCase) (emb : ℕ → ℕ) (base : F → ℕ) (ts : List (Vec F Global)) →
    q.tables ≡ map (table_of_entries emb) (map (λ t. map base t.items) ts) → length q.tables ≡ length ts
case-tables q emb base ts is = ap length is ∙ length-map (map (λ t. map base t.items) ts) (table_of_entries emb) ∙ length-map ts (λ t. map base t.items)

-- a proof that is as long as it has to be for them is so for the case
pub counted-case : {F : Type 0} (q : OpeningsCase) (came : CameOpenings) (emb : ℕ → ℕ) (base : F → ℕ) (ts : List (Vec F Global)) →
    q.tables ≡ map (table_of_entries emb) (map (λ t. map base t.items) ts) → proof_fault (length ts) q.variables q.channel.bits came ≡ None →
    proof_fault (length q.tables) q.variables q.channel.bits came ≡ None
counted-case q came emb base ts is none =
    ap (λ k. proof_fault k q.variables q.channel.bits came) (case-tables q emb base ts is) ∙ none

-- there are as many challenges as rounds came
pub walked-count : (p : Walk) (w : Wire) (rs : List ℕ) (end : VerifierState) → p.rounds ≡ given_rounds w.messages w.witnesses → IsWalked p rs end → length rs ≡ length w.messages
walked-count p w rs end is walked =
    ap length walked.replays.drawn ∙ length-challenges p.channel.rules p.channel.extension p.channel.bits p.start.history p.rounds ∙ ap length is
    ∙ length-given_rounds w.messages w.witnesses

module _ (q : OpeningsCase) (came : CameOpenings) where
  -- where it starts
  abbrev pub start_for : VerifierState
  start_for = verifier_state (rounds_start q) (merging_claim q)

  abbrev pub replay_for : Replay
  replay_for = replay_of (next_claim evaluation q.ops) q.channel (batch_of (shape_of q.variables q.channel.bits Evaluation)) start_for came.wire

  pub replay-is : {R : Rules} {h : List Event} {n degree claim : ℕ} → R ≡ q.channel.rules → h ≡ after_merging q → n ≡ q.variables → degree ≡ q.channel.extension.degree →
      claim ≡ merging_claim q →
      pair_replay q.ops (channel R q.channel.extension q.channel.base_size q.channel.bits) degree (shape_of n q.channel.bits Evaluation) came.wire (verifier_state h claim) ≡ replay_for
  replay-is rules history count degree claim = rw (rules, history, count, degree, claim) refl

  module _ (none : proof_fault (length q.tables) q.variables q.channel.bits came ≡ None) where
    rounds_as : length came.wire.messages ≡ q.variables
    rounds_as = (rounds-counted (length q.tables) q.variables q.channel.bits came none).0

    witnesses_as : length came.wire.witnesses ≡ witness_count q.channel.bits q.variables
    witnesses_as = (rounds-counted (length q.tables) q.variables q.channel.bits came none).1

    -- what comes of the witnesses
    given-by : (found : Option ℕ) → first_failing q.channel.rules q.channel.extension q.channel.bits (rounds_start q) (rounds_given came.wire) ≡ found →
        openings_given q came ≡ unless_fault (failing_fault q.channel.bits found) (Ok (sent_given came))
    given-by found is =
        ap (λ t. unless_fault t (unless_fault (witness_fault q (rounds_given came.wire)) (Ok (sent_given came)))) none
        ∙ ap (λ t. unless_fault (failing_fault q.channel.bits t) (Ok (sent_given came))) is

    pub given-whole : AllPass q.channel.rules q.channel.extension q.channel.bits (rounds_start q) (rounds_given came.wire) → openings_given q came ≡ Ok (sent_given came)
    given-whole pass = given-by None (first_failing-none q.channel.rules q.channel.extension q.channel.bits (rounds_start q) (rounds_given came.wire) pass)

    -- the witnesses of the rounds are those that came
    same_witnesses : witnesses_of q.channel.bits (rounds_given came.wire) ≡ came.wire.witnesses
    same_witnesses = witnesses-given q.channel.bits came.wire.messages came.wire.witnesses (witnesses_as ∙ ap (witness_count q.channel.bits) (sym rounds_as))

    -- the figures show them
    pub shown-rounds : given_rounds (openings_figures q (sent_given came)).messages (openings_figures q (sent_given came)).witnesses ≡ rounds_given came.wire
    unfolding openings_figures
    shown-rounds =
        ap (λ ms. given_rounds ms (witnesses_of q.channel.bits (rounds_given came.wire))) (messages-given_rounds came.wire.messages came.wire.witnesses)
        ∙ ap (given_rounds came.wire.messages) same_witnesses

    -- and the openings
    shown-openings : (openings_figures q (sent_given came)).openings ≡ came.openings
    unfolding openings_figures
    shown-openings = refl

    -- and are these
    pub figures-are : {claim residual : ℕ} {rs weights : List ℕ} {finding : Finding} → claim ≡ merging_claim q → rs ≡ openings_challenges q (rounds_given came.wire) →
        residual ≡ claim_along (next_claim evaluation q.ops) (merging_claim q) came.wire.messages (openings_challenges q (rounds_given came.wire)) →
        weights ≡ weight_values_at q.ops (weighted_tables q) rs →
        finding ≡ finding_where (openings_match q residual came.openings rs) (first_false_table_claim q 0 q.claims) (stage_luck q.ops (openings_stage q (rounds_given came.wire))) →
        record {
          claim = claim;
          messages = came.wire.messages;
          witnesses = came.wire.witnesses;
          openings = came.openings;
          challenges = rs;
          residual = residual;
          weights = weights;
          finding = finding;
        } ≡ openings_figures q (sent_given came)
    unfolding openings_figures
    figures-are {residual = residual} {rs = rs} claim_is drawn residual_is weights_are finds =
        let rounds = rounds_given came.wire in
        let fault = first_false_table_claim q 0 q.claims in
        let luck = stage_luck q.ops (openings_stage q rounds) in
        let cs = openings_challenges q rounds in
        let messages = sym (messages-given_rounds came.wire.messages came.wire.witnesses) in
        let residual_at = residual_is ∙ ap (λ ms. claim_along (next_claim evaluation q.ops) (merging_claim q) ms cs) messages in
        let found = finds ∙ ap (λ r. finding_where (openings_match q r came.openings rs) fault luck) residual_at
        ∙ ap (λ l. finding_where (openings_match q (claim_along (next_claim evaluation q.ops) (merging_claim q) (messages_of rounds) cs) came.openings l) fault luck) drawn in
        let weights_at = weights_are ∙ ap (weight_values_at q.ops (weighted_tables q)) drawn in
        (λ i. record {
          claim = claim_is i;
          messages = messages i;
          witnesses = sym same_witnesses i;
          openings = came.openings;
          challenges = drawn i;
          residual = residual_at i;
          weights = weights_at i;
          finding = found i;
        })

    -- the residual
    pub residual-is : (rs : List ℕ) (end : VerifierState) → IsWalked replay_for.walk rs end →
        end.claim ≡ claim_along (next_claim evaluation q.ops) (merging_claim q) came.wire.messages (openings_challenges q (rounds_given came.wire))
    residual-is rs end walked =
        walked.replays.claim
        ∙ ap (λ ms. claim_along (next_claim evaluation q.ops) (merging_claim q) ms (openings_challenges q (rounds_given came.wire))) (messages-given_rounds came.wire.messages came.wire.witnesses)

    -- the history after the openings
    opened : (rs : List ℕ) (end : VerifierState) (h' : List Event) → IsWalked replay_for.walk rs end → h' ≡ end.history ++ sent q.channel.extension came.openings →
        h' ≡ after_openings q (sent_given came)
    opened rs end h' walked is =
        is ∙ ap (λ l. l ++ sent q.channel.extension came.openings) walked.replays.history

    -- a report on rounds that were replayed whole
    pub whole-answered : (rs : List ℕ) (end : VerifierState) (f : OpeningsFigures) (h' : List Event) → IsWalked replay_for.walk rs end →
        h' ≡ end.history ++ sent q.channel.extension came.openings → f ≡ openings_figures q (sent_given came) → IsAnswered q (Some came) (Ok f) h'
    whole-answered rs end f h' walked history is =
        let shows : record { rounds = given_rounds f.messages f.witnesses; openings = f.openings } ≡ sent_given came =
        ap (λ (t : OpeningsFigures). record { rounds = given_rounds t.messages t.witnesses; openings = t.openings }) is
        ∙ (λ i. record { rounds = shown-rounds i; openings = shown-openings i }) in
        record {
          result = ap (given_result q) (given-whole walked.replays.passes) ∙ ap (λ t. Ok t) (sym is);
          history = opened rs end h' walked history ∙ ap (after_openings q) (sym shows);
        }

    -- there was no memory for one
    pub whole-broken : (rs : List ℕ) (end : VerifierState) (h' : List Event) → IsWalked replay_for.walk rs end → h' ≡ end.history ++ sent q.channel.extension came.openings →
        IsAnswered q (Some came) (Err errors.NoMemory) h'
    whole-broken rs end h' walked history = record {
      result = inl refl;
      history = inr (inr (inr (record { sent = sent_given came; are = refl; history = opened rs end h' walked history })));
    }

    -- or for the openings
    pub rounds-broken : (rs : List ℕ) (end : VerifierState) (h' : List Event) → IsWalked replay_for.walk rs end → h' ≡ end.history → IsAnswered q (Some came) (Err errors.NoMemory) h'
    rounds-broken rs end h' walked history = record {
      result = inl refl;
      history = inr (inr (inl (
        length (rounds_given came.wire),
        record {
          sent = sent_given came;
          are = refl;
          history = history ∙ walked.replays.history ∙ ap (after_rounds q) (sym (take_all (length (rounds_given came.wire)) (rounds_given came.wire) (omega arith)));
        },
      )));
    }

    -- a replay that was refused
    pub refused-answered : (untouched : Type 0) (e : SumcheckError) (end : VerifierState) → (untouched → end.history ≡ after_merging q) →
        LeavesReplay untouched replay_for (Err (cause_of e)) end → IsAnswered q (Some came) (Err (refusal_by e)) end.history
    refused-answered untouched (rounds.RoundCountMismatch expected actual) end kept left =
        absurd (left.0.2 (left.0.1 ∙ rounds_as ∙ sym left.0.0))
    refused-answered untouched (rounds.PowWitnessCountMismatch expected actual) end kept left =
        absurd (left.0.2 (left.0.1 ∙ witnesses_as ∙ sym left.0.0))
    refused-answered untouched (rounds.InvalidPowWitness i bits) end kept left =
        let R = q.channel.rules in
        let E = q.channel.extension in
        let at = left.1.1.at in
        let fails = ap (λ t. round_passes R E q.channel.bits t at.round) (sym at.replays.history) ∙ at.test.fails in
        let first = first_failing-at R E q.channel.bits (rounds_start q) (rounds_given came.wire) i at.round at.replays.passes at.is fails in
        record {
          result = inr (ap (given_result q) (given-by (Some i) first) ∙ ap (λ b. Err (errors.InvalidPowWitness i b)) (sym left.1.0));
          history = record {
            sent = sent_given came;
            are = refl;
            round = at.round;
            is = at.is;
            history = at.test.history ∙ ap (λ t. t ++ before_draw E q.channel.bits at.round) at.replays.history;
          };
        }
    refused-answered untouched rounds.NoMemory end kept left = record {
      result = inl refl;
      history = ⊎_elim
          (λ none. inr (inl (kept none)))
          (λ part. inr (inr (inl (part.count, record { sent = sent_given came; are = refl; history = part.walked.replays.history }))))
          left.1;
    }
    refused-answered untouched e end kept left = absurd left.1

-- an error that is passed on
pub passed_on : {F EF : Type 0} (base : F → ℕ) (number : EF → ℕ) (r : Result (MergeReport F EF) MergeError) (e : MergeError) → IsErrAnd r (λ x. x ≡ e) →
    result_in base number r ≡ Err e
passed_on base number (Ok x) e is = elim is [ ]
passed_on base number (Err x) e is = ap (λ y. Err y) is
