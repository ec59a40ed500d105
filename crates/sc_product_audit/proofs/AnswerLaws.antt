-- What is answered of the rounds of a product, and what is left of the history, from what a replay leaves.
use Rattle.std.proofs.Common.{◌≡◌, ◌≢◌, inl, inr, ⊎_elim, ℕ, zero, suc, ◌+◌, ◌<◌, ◌≤◌, Bool, true, false, List, [], ◌∷◌, ◌++◌, All, length, map, take, Vec, Global, Option, Some, None, refl, ap, sym, ◌∙◌, subst, arith, eq-eqb, ne_eqb, zero-add}
use Rattle.std.specs.Prelude.{Result, Ok, Err, IsErrAnd, ◌==◌, if◌then◌else◌, option_map}
use Rattle.std.proofs.lemmas.Bool.{cases_eq}
use Rattle.std.proofs.lemmas.List.{length-map, take_all}
use Rattle.std.proofs.lemmas.List.Elements.{All-nil, All-cons, All-head, All-tail}
use Rattle.std.proofs.lemmas.List.FromFn.{length-map-range_with_len}
use Rattle.sc_definitions.specs.declared.events.Event.{Event}
use Rattle.sc_definitions.specs.Ring.{Ops, IsField}
use Rattle.sc_definitions.specs.Transcript.{Round, messages_of, before_draw, round_events, challenge}
use Rattle.sc_definitions.specs.Replays.{round_passes, given_rounds}
use Rattle.sc_definitions.specs.Channels.{Channel, Wire, VerifierState, verifier_state, witnesses_of, IsReplayed, IsBuilt}
use Rattle.sc_definitions.specs.Interpolation.{node_values, next_through}
use Rattle.sc_definitions.specs.Products.{values_product, product_round, honest_values}
use Rattle.sc_definitions.specs.Lucky.{Turn, LuckyChallenge, luck_in, first_turn, product_course}
use Rattle.sc_definitions.proofs.BuiltLaws.{length-challenges, length-messages}
use Rattle.sc_definitions.proofs.ReplayLaws.{length-given_rounds, messages-given_rounds}
use Rattle.sc_definitions.proofs.ProductRounds.{honest_along}
use Rattle.sc_transcript.specs.Data.{witness_count}
use Rattle.sc_transcript.specs.Walks.{AreWide, IsWalked}
use Rattle.sc_transcript.specs.Replayed.{Replay, IsCounted}
use Rattle.sc_transcript.proofs.GivenRounds.{given_played, count_witnesses}
use Rattle.sc_transcript.proofs.InStep.{all_pass}
use Rattle.sc_degree.specs.declared.error.GenericDegreeError.{GenericDegreeError}
use Rattle.sc_degree.specs.declared.error.GenericDegreeError.TheVariants as degree
use Rattle.sc_degree.specs.Proofs.{generic_replay, LeavesVerify}
use Rattle.sc_degree.specs.Shapes.{generic_shape}
use Rattle.sc_audit_errors.specs.Findings.{Finding, holds}
use Rattle.sc_product_audit.specs.declared.error.ProductError.{ProductError}
use Rattle.sc_product_audit.specs.declared.error.ProductError.TheVariants.{RoundCountMismatch, PowWitnessCountMismatch, PolyEvalCountMismatch, InvalidPowWitness, NoMemory}
use Rattle.sc_product_audit.specs.declared.report.ProductReport.{ProductReport}
use Rattle.sc_product_audit.specs.ProductCases.{ProductGiven, to_build, to_check, ProductCase, true_sum, product_start}
use Rattle.sc_product_audit.specs.ProductRounds.{first_refused, unless_refused, product_played, rounds_given, product_given}
use Rattle.sc_product_audit.specs.ProductReports.{ProductFigures, ProductReported, product_figures, product_luck, product_finding, figures_finding, reported_on, given_result, built_result, task_result, result_in}
use Rattle.sc_product_audit.specs.ProductAudits.{GivesResult, product_history, LeavesHistory}
use Rattle.sc_product_audit.specs.ProductPlays.{round_refusal, AreBuilt, LeavesBuilt}
use Rattle.sc_product_audit.proofs.ProductRoundLaws.{refused-none, refused-width, refused-witness}

-- a refusal, and a report
abbrev due_refusal : ProductError → Result ProductReported ProductError
due_refusal e = Err e

abbrev due_report : ProductReported → Result ProductReported ProductError
due_report r = Ok r

-- where a report is due nothing but the want of memory is refused
pub memory-alone : (due : Result ProductReported ProductError) (r : ProductReported) (e : ProductError) → GivesResult due (Err e) → due ≡ Ok r → e ≡ NoMemory
memory-alone due r e given is = ⊎_elim (λ memory. memory) (λ refused. (let both : due_report r ≡ due_refusal e = sym is ∙ refused in cc)) given

-- where the claimed sum is the true one no challenge is named
same_true : (matched : Bool) (luck other : Option LuckyChallenge) → product_finding matched true luck ≡ product_finding matched true other
same_true false luck other = refl
same_true true luck other = refl

-- an honest round sends as many values as there are tables
length-honest : (o : Ops) (fs : List (ℕ → ℕ)) (rs : List ℕ) (n : ℕ) → length (honest_values o fs rs n) ≡ length fs
unfolding honest_values node_values
length-honest o fs rs n = many (length fs) (product_round o fs rs n) where
  many : (d : ℕ) (cs : List ℕ) → length (node_values o d cs) ≡ d
  many zero cs = refl
  many (suc d) cs = ap suc (length-map-range_with_len _ 2 d)

built-wide : (o : Ops) (fs : List (ℕ → ℕ)) (c : Channel) (h : List Event) (rs : List ℕ) (n : ℕ) (rounds : List Round) → IsBuilt (honest_values o fs) c h rs n rounds →
    AreWide (length fs) rounds
built-wide o fs c h rs n [] b = All-nil (λ (values : List ℕ). length values ≡ length fs)
built-wide o fs c h rs zero (r ∷ rounds) b = absurd b
built-wide o fs c h rs (suc n) (r ∷ rounds) b =
    All-cons (λ (values : List ℕ). length values ≡ length fs) r.values (messages_of rounds) (ap length b.0 ∙ length-honest o fs rs n)
    (built-wide o fs c (h ++ round_events c.extension c.bits r) (rs ++ challenge c.rules c.extension c.bits h r ∷ []) n rounds b.2)

module _ (k : ProductCase) where
  -- ---- what figures say

  -- the first lucky challenge is that of the first turn
  pub first-luck : (f : ProductFigures) (turn : Option Turn) → turn ≡ first_turn (product_course k.ops k.tables) 0 f.claimed f.messages [] f.challenges →
      option_map (luck_in k.ops) turn ≡ product_luck k f
  unfolding product_luck
  first-luck f turn is = ap (option_map (luck_in k.ops)) is

  -- it is needed only where the claimed sum is not the true one
  pub figures-found : (f : ProductFigures) (luck : Option LuckyChallenge) → (f.claimed ≢ true_sum k → luck ≡ product_luck k f) →
      product_finding (f.residual == f.product) (f.claimed == true_sum k) luck ≡ figures_finding k f
  figures-found f luck needed =
      let matched = f.residual == f.product in
      ⊎_elim
      (λ same.
      ap (λ b. product_finding matched b luck) (eq-eqb _ _ same) ∙ same_true matched luck (product_luck k f)
      ∙ sym (ap (λ b. product_finding matched b (product_luck k f)) (eq-eqb _ _ same)))
      (λ other. ap (product_finding matched (f.claimed == true_sum k)) (needed other))
      (cases_eq f.claimed (true_sum k))

  -- those of rounds that were built hold
  pub built-holds : IsField k.ops → 1 ≤ length k.tables → length k.tables < k.ops.size → (rounds : List Round) → length rounds ≡ k.variables →
      IsBuilt (honest_values k.ops k.tables) k.channel (product_start k (true_sum k)) [] k.variables rounds →
      figures_finding k (product_figures k (true_sum k) rounds) ≡ holds
  built-holds field some few rounds count honest =
      let f = product_figures k (true_sum k) rounds in
      let matched : f.residual ≡ f.product =
      honest_along k.ops field k.channel k.tables some few (product_start k (true_sum k)) [] k.variables rounds count honest in
      ap (λ b. product_finding b (f.claimed == true_sum k) (product_luck k f)) (eq-eqb _ _ matched)
      ∙ ap (λ b. product_finding true b (product_luck k f)) (eq-eqb (true_sum k) (true_sum k) refl)

  -- ---- replays

  -- the replay of what came with a claimed sum
  abbrev pub replay_for : ℕ → Wire → Replay
  replay_for claimed came = generic_replay k.ops k.channel (generic_shape k.variables (length k.tables) k.channel.bits) claimed came k.history

  -- the replay in a shape of these numbers
  pub replay-is : (n degree claimed : ℕ) (came : Wire) → n ≡ k.variables → degree ≡ length k.tables →
      generic_replay k.ops k.channel (generic_shape n degree k.channel.bits) claimed came k.history ≡ replay_for claimed came
  replay-is n degree claimed came count width = rw (count, width) refl

  -- ---- rounds that were handed in

  module _ (g : ProductGiven) where
    -- as many rounds and witnesses came as have to
    counted : length g.came.messages ≡ k.variables → length g.came.witnesses ≡ witness_count k.channel.bits k.variables → product_given k g ≡ product_played k g.claimed (rounds_given g)
    counted rounds witnesses =
        let others = Err (RoundCountMismatch k.variables (length g.came.messages)) in
        let few = Err (PowWitnessCountMismatch (witness_count k.channel.bits k.variables) (length g.came.witnesses)) in
        ap (λ b. if b then (if length g.came.witnesses == witness_count k.channel.bits k.variables then product_played k g.claimed (rounds_given g) else few) else others)
        (eq-eqb _ _ rounds)
        ∙ ap (λ b. if b then product_played k g.claimed (rounds_given g) else few) (eq-eqb _ _ witnesses)

    -- one of them is refused
    refused-as : (e : ProductError) → IsCounted (replay_for g.claimed g.came) →
        first_refused k.channel (length k.tables) 0 (product_start k g.claimed) (rounds_given g) ≡ Some e → product_given k g ≡ Err e
    refused-as e counts first = counted counts.as_rounds counts.as_witnesses ∙ ap (λ t. unless_refused t (rounds_given g)) first

    -- the witnesses of the rounds are those that came
    all_witnesses : (ms : List (List ℕ)) (ws : List ℕ) → length ws ≡ length ms → map (λ (r : Round). r.witness) (given_rounds ms ws) ≡ ws
    all_witnesses [] [] e = refl
    all_witnesses [] (w ∷ ws) e = absurd (omega (arith, e))
    all_witnesses (m ∷ ms) [] e = absurd (omega (arith, e))
    all_witnesses (m ∷ ms) (w ∷ ws) e = ap (λ t. w ∷ t) (all_witnesses ms ws (omega (arith, e)))

    no_witnesses : (ws : List ℕ) → length ws ≡ 0 → ws ≡ []
    no_witnesses [] e = refl
    no_witnesses (w ∷ ws) e = absurd (omega (arith, e))

    witnesses-given : (bits n : ℕ) → length g.came.messages ≡ n → length g.came.witnesses ≡ witness_count bits n → witnesses_of bits (rounds_given g) ≡ g.came.witnesses
    witnesses-given zero n rounds witnesses = sym (no_witnesses g.came.witnesses witnesses)
    witnesses-given (suc bits) n rounds witnesses =
        let count : length g.came.witnesses ≡ n = witnesses ∙ ap (λ b. if b then 0 else n) (ne_eqb (suc bits) 0 (λ e. absurd (omega (arith, e)))) in
        all_witnesses g.came.messages g.came.witnesses (count ∙ sym rounds)

    -- there are as many challenges as variables
    pub given-count : (rs : List ℕ) (end : VerifierState) → IsCounted (replay_for g.claimed g.came) → IsWalked (replay_for g.claimed g.came).walk rs end →
        length rs ≡ k.variables
    given-count rs end counts replayed =
        ap length replayed.replays.drawn ∙ length-challenges k.channel.rules k.channel.extension k.channel.bits (product_start k g.claimed) (rounds_given g)
        ∙ length-given_rounds g.came.messages g.came.witnesses ∙ counts.as_rounds

    -- each round sends as many values as there are tables
    pub given-wide : (rs : List ℕ) (end : VerifierState) → IsWalked (replay_for g.claimed g.came).walk rs end →
        All (λ values. length values ≡ length k.tables) g.came.messages
    given-wide rs end replayed =
        subst (All (λ values. length values ≡ length k.tables)) (messages-given_rounds g.came.messages g.came.witnesses) replayed.wide

    -- they were replayed whole
    pub given-told : (residual product : ℕ) (rs : List ℕ) (h' : List Event) (finding : Finding) → IsCounted (replay_for g.claimed g.came) →
        IsWalked (replay_for g.claimed g.came).walk rs (verifier_state h' residual) → product ≡ values_product k.ops k.tables rs →
        finding ≡ figures_finding k
        (record { claimed = g.claimed; messages = g.came.messages; witnesses = g.came.witnesses; challenges = rs; residual = residual; product = product }) →
        task_result k (to_check g) ≡ Ok
        (record {
          figures = record { claimed = g.claimed; messages = g.came.messages; witnesses = g.came.witnesses; challenges = rs; residual = residual; product = product };
          finding = finding;
        })
    given-told residual product rs h' finding counts replayed value found =
        let start = product_start k g.claimed in
        let moved = replayed.replays in
        let none : product_given k g ≡ Ok (rounds_given g) =
        counted counts.as_rounds counts.as_witnesses
        ∙ ap (λ t. unless_refused t (rounds_given g)) (refused-none k.channel (length k.tables) 0 start (rounds_given g) replayed.wide moved.passes) in
        let same : ◌≡◌ {A = ProductFigures} (product_figures k g.claimed (rounds_given g))
        (record { claimed = g.claimed; messages = g.came.messages; witnesses = g.came.witnesses; challenges = rs; residual = residual; product = product }) =
        rw (value, moved.claim, moved.drawn, messages-given_rounds g.came.messages g.came.witnesses, witnesses-given k.channel.bits k.variables counts.as_rounds counts.as_witnesses) refl in
        ap (given_result k g.claimed) none ∙ ap (λ f. Ok (reported_on k f)) same
        ∙ ap
        (λ d. Ok
        (record {
          figures = record { claimed = g.claimed; messages = g.came.messages; witnesses = g.came.witnesses; challenges = rs; residual = residual; product = product };
          finding = d;
        }))
        (sym found)

    -- they were refused
    pub given-refused : {X : Type 0} (number : X → ℕ) (e : GenericDegreeError) (h' : List Event) → 1 ≤ length k.tables →
        LeavesVerify number (replay_for g.claimed g.came) k.history (Err e) h' → GivesResult (task_result k (to_check g)) (Err (round_refusal k.channel.bits e))
    given-refused number (degree.InvalidDegree d) h' some left = inl refl
    given-refused number (degree.RoundCountMismatch expected actual) h' some left =
        let why = left.1.1.0 in
        let few = Err (PowWitnessCountMismatch (witness_count k.channel.bits k.variables) (length g.came.witnesses)) in
        let counts = if length g.came.witnesses == witness_count k.channel.bits k.variables then product_played k g.claimed (rounds_given g) else few in
        let other : product_given k g ≡ Err (RoundCountMismatch k.variables (length g.came.messages)) =
        ap (λ b. if b then counts else Err (RoundCountMismatch k.variables (length g.came.messages))) (ne_eqb _ _ (λ e. why.2 (why.1 ∙ e ∙ sym why.0))) in
        inr
        (ap (given_result k g.claimed) other ∙ ap (λ n. due_refusal (RoundCountMismatch n (length g.came.messages))) (sym why.0)
        ∙ ap (λ n. due_refusal (RoundCountMismatch expected n)) (sym why.1))
    given-refused number (degree.PowWitnessCountMismatch expected actual) h' some left =
        let why = left.1.1.0 in
        let expects = witness_count k.channel.bits k.variables in
        let few = Err (PowWitnessCountMismatch expects (length g.came.witnesses)) in
        let others = Err (RoundCountMismatch k.variables (length g.came.messages)) in
        let counts = if length g.came.witnesses == expects then product_played k g.claimed (rounds_given g) else few in
        let other : product_given k g ≡ few =
        ap (λ b. if b then counts else others) (eq-eqb _ _ why.3)
        ∙ ap (λ b. if b then product_played k g.claimed (rounds_given g) else few) (ne_eqb _ _ (λ e. why.2 (why.1 ∙ e ∙ sym why.0))) in
        inr
        (ap (given_result k g.claimed) other ∙ ap (λ n. due_refusal (PowWitnessCountMismatch n (length g.came.witnesses))) (sym why.0)
        ∙ ap (λ n. due_refusal (PowWitnessCountMismatch expected n)) (sym why.1))
    given-refused number (degree.PolyEvalCountMismatch i expected actual) h' some left =
        let told = left.1.1 in
        let narrow = told.1.1 in
        let first = refused-as (PolyEvalCountMismatch i (length k.tables) (length narrow.round.values)) told.0
        (refused-width k.channel (length k.tables) 0 (product_start k g.claimed) (rounds_given g) i narrow.round narrow.walked.wide narrow.walked.replays.passes narrow.is
        (λ e. narrow.other (narrow.counts ∙ e))
        ∙ ap (λ j. Some (PolyEvalCountMismatch j (length k.tables) (length narrow.round.values))) (zero-add i)) in
        inr
        (ap (given_result k g.claimed) first ∙ ap (λ n. due_refusal (PolyEvalCountMismatch i n (length narrow.round.values))) (sym told.1.0)
        ∙ ap (λ n. due_refusal (PolyEvalCountMismatch i expected n)) (sym narrow.counts))
    given-refused number (degree.MissingPowWitness i) h' some left = inl refl
    given-refused number (degree.InvalidPowWitness i) h' some left =
        let R = k.channel.rules in
        let E = k.channel.extension in
        let bits = k.channel.bits in
        let start = product_start k g.claimed in
        let told = left.1.1 in
        let at = told.1.1.at in
        let fails = ap (λ t. round_passes R E bits t at.round) (sym at.replays.history) ∙ at.test.fails in
        let more : i + 1 ≡ suc i = omega arith in
        let wide : AreWide (length k.tables) (take (suc i) (rounds_given g)) = subst (λ j. AreWide (length k.tables) (take j (rounds_given g))) more told.1.1.wide in
        let first = refused-as (InvalidPowWitness i bits) told.0
        (refused-witness k.channel (length k.tables) 0 start (rounds_given g) i at.round wide at.replays.passes at.is fails ∙ ap (λ j. Some (InvalidPowWitness j bits)) (zero-add i)) in
        inr
        (ap (given_result k g.claimed) first)
    given-refused number (degree.NoWitness i) h' some left = absurd left.1.1.1
    given-refused number degree.NoMemory h' some left = inl refl

    -- what that leaves of the history
    pub given-left : {X : Type 0} (number : X → ℕ) (e : GenericDegreeError) (h' : List Event) → 1 ≤ length k.tables →
        LeavesVerify number (replay_for g.claimed g.came) k.history (Err e) h' → LeavesHistory k (to_check g) (Err (round_refusal k.channel.bits e)) h'
    given-left number (degree.InvalidDegree d) h' some left = inl left.2
    given-left number (degree.RoundCountMismatch expected actual) h' some left = left.1.1.1
    given-left number (degree.PowWitnessCountMismatch expected actual) h' some left = left.1.1.1
    given-left number (degree.PolyEvalCountMismatch i expected actual) h' some left = record {
      claimed = g.claimed;
      rounds = rounds_given g;
      are = (refl, refl);
      history = left.1.1.1.1.walked.replays.history;
    }
    given-left number (degree.MissingPowWitness i) h' some left = absurd left.1.1.1
    given-left number (degree.InvalidPowWitness i) h' some left =
        let at = left.1.1.1.1.at in
        record {
          claimed = g.claimed;
          rounds = rounds_given g;
          are = (refl, refl);
          round = at.round;
          is = at.is;
          history = at.test.history ∙ ap (λ t. t ++ before_draw k.channel.extension k.channel.bits at.round) at.replays.history;
        }
    given-left number (degree.NoWitness i) h' some left = absurd left.1.1.1
    given-left number degree.NoMemory h' some left =
        ⊎_elim
        (λ untouched. inl untouched)
        (λ part. inr (part.count, record { claimed = g.claimed; rounds = rounds_given g; are = (refl, refl); history = part.walked.replays.history }))
        left.1.1.1

    -- they were replayed whole, and no report came of it
    pub given-broken : (rs : List ℕ) (end : VerifierState) → IsWalked (replay_for g.claimed g.came).walk rs end → LeavesHistory k (to_check g) (Err NoMemory) end.history
    given-broken rs end replayed =
        inr (
          length (rounds_given g),
          record {
            claimed = g.claimed;
            rounds = rounds_given g;
            are = (refl, refl);
            history = replayed.replays.history ∙ ap (product_history k g.claimed) (sym (take_all (length (rounds_given g)) (rounds_given g) (omega arith)));
          },
        )

  -- ---- rounds that were built

  module _ (claimed product : ℕ) (came : Wire) (b : AreBuilt k claimed came product) where
    -- a proof of what was built
    abbrev built_proof : ProductGiven
    built_proof = record { claimed = claimed; came = came }

    pub built-rounds : rounds_given built_proof ≡ b.rounds
    built-rounds =
        ap (λ (w : Wire). given_rounds w.messages w.witnesses) b.wire
        ∙ given_played (honest_values k.ops k.tables) k.channel (product_start k (true_sum k)) [] k.variables b.rounds b.honest

    -- none of it is refused
    built-given : product_given k built_proof ≡ Ok b.rounds
    built-given =
        let c = k.channel in
        let start = product_start k (true_sum k) in
        let rounds : length came.messages ≡ k.variables = ap (λ (w : Wire). length w.messages) b.wire ∙ length-messages b.rounds ∙ b.count in
        let witnesses : length came.witnesses ≡ witness_count c.bits k.variables =
        ap (λ (w : Wire). length w.witnesses) b.wire ∙ count_witnesses c.bits b.rounds ∙ ap (witness_count c.bits) b.count in
        let none : first_refused c (length k.tables) 0 start b.rounds ≡ None =
        refused-none c (length k.tables) 0 start b.rounds (built-wide k.ops k.tables c start [] k.variables b.rounds b.honest)
        (all_pass (honest_values k.ops k.tables) c start [] k.variables b.rounds b.honest) in
        counted built_proof rounds witnesses ∙ ap (product_played k claimed) built-rounds
        ∙ ap (λ n. product_played k n b.rounds) b.claim ∙ ap (λ t. unless_refused t b.rounds) none

    -- they were replayed whole, and hold
    pub built-told : IsField k.ops → 1 ≤ length k.tables → length k.tables < k.ops.size → (residual : ℕ) (rs : List ℕ) (h' : List Event) →
        IsWalked (replay_for claimed came).walk rs (verifier_state h' residual) →
        task_result k to_build ≡ Ok
        (record {
          figures = record { claimed = claimed; messages = came.messages; witnesses = came.witnesses; challenges = rs; residual = residual; product = product };
          finding = holds;
        })
    built-told field some few residual rs h' replayed =
        let R = k.channel.rules in
        let E = k.channel.extension in
        let bits = k.channel.bits in
        let next = next_through k.ops in
        let start = product_start k (true_sum k) in
        let from_claimed : IsReplayed next k.channel (replay_for claimed came).walk.start (verifier_state h' residual) b.rounds rs =
        subst (λ rounds. IsReplayed next k.channel (replay_for claimed came).walk.start (verifier_state h' residual) rounds rs) built-rounds replayed.replays in
        let moved : IsReplayed next k.channel (verifier_state start (true_sum k)) (verifier_state h' residual) b.rounds rs =
        subst (λ n. IsReplayed next k.channel (verifier_state (product_start k n) n) (verifier_state h' residual) b.rounds rs) b.claim from_claimed in
        let same : ◌≡◌ {A = ProductFigures} (product_figures k (true_sum k) b.rounds)
        (record { claimed = claimed; messages = came.messages; witnesses = came.witnesses; challenges = rs; residual = residual; product = product }) =
        rw (b.claim, b.wire, moved.drawn, moved.claim, b.value) refl in
        let shown : ProductFigures =
        record { claimed = claimed; messages = came.messages; witnesses = came.witnesses; challenges = rs; residual = residual; product = product } in
        let finds : figures_finding k shown ≡ holds = ap (figures_finding k) (sym same) ∙ built-holds field some few b.rounds b.count b.honest in
        ap (built_result k) b.are ∙ ap (λ f. Ok (reported_on k f)) same ∙ ap (λ d. Ok (record { figures = shown; finding = d })) finds

    -- a replay of them is refused for want of memory alone
    built-memory : {X : Type 0} (number : X → ℕ) (e : GenericDegreeError) (h' : List Event) → 1 ≤ length k.tables →
        LeavesVerify number (replay_for claimed came) k.history (Err e) h' → round_refusal k.channel.bits e ≡ NoMemory
    built-memory number e h' some left =
        memory-alone (task_result k (to_check built_proof)) (reported_on k (product_figures k claimed b.rounds)) (round_refusal k.channel.bits e)
        (given-refused built_proof number e h' some left) (ap (given_result k claimed) built-given)

    pub built-refused_answer : {X : Type 0} (number : X → ℕ) (e : GenericDegreeError) (h' : List Event) → 1 ≤ length k.tables →
        LeavesVerify number (replay_for claimed came) k.history (Err e) h' → GivesResult (task_result k to_build) (Err (round_refusal k.channel.bits e))
    built-refused_answer number e h' some left =
        inl (built-memory number e h' some left)

    -- the rounds that stand in the history are those that were built
    ends-built : (h' : List Event) → LeavesHistory k (to_check built_proof) (Err NoMemory) h' → LeavesHistory k to_build (Err NoMemory) h'
    ends-built h' left =
        ⊎_elim
        (λ untouched. inl untouched)
        (λ part.
        let ends = part.1 in
        inr (
          part.0,
          record {
            claimed = ends.claimed;
            rounds = ends.rounds;
            are = (ends.are.0 ∙ b.claim, b.are ∙ ap Ok (sym built-rounds ∙ ends.are.1));
            history = ends.history;
          },
        ))
        left

    pub built-left : {X : Type 0} (number : X → ℕ) (e : GenericDegreeError) (h' : List Event) → 1 ≤ length k.tables →
        LeavesVerify number (replay_for claimed came) k.history (Err e) h' → LeavesHistory k to_build (Err (round_refusal k.channel.bits e)) h'
    built-left number e h' some left =
        let memory = built-memory number e h' some left in
        subst (λ x. LeavesHistory k to_build (Err x) h') (sym memory)
        (ends-built h' (subst (λ x. LeavesHistory k (to_check built_proof) (Err x) h') memory (given-left built_proof number e h' some left)))

  -- rounds that could not be built
  pub unbuilt-answer : {F EF : Type 0} (base : F → ℕ) (number : EF → ℕ) (e : GenericDegreeError) → LeavesBuilt {F = F} {EF = EF} base number k (Err e) →
      GivesResult (task_result k to_build) (Err (round_refusal k.channel.bits e))
  unbuilt-answer base number (degree.NoWitness i) left = inr (ap (built_result k) left)
  unbuilt-answer base number degree.NoMemory left = inl refl
  unbuilt-answer base number e left = absurd left

  pub unbuilt-left : {F EF : Type 0} (base : F → ℕ) (number : EF → ℕ) (e : GenericDegreeError) → LeavesBuilt {F = F} {EF = EF} base number k (Err e) →
      LeavesHistory k to_build (Err (round_refusal k.channel.bits e)) k.history
  unbuilt-left base number (degree.NoWitness i) left = refl
  unbuilt-left base number degree.NoMemory left = inl refl
  unbuilt-left base number e left = absurd left

-- an error that is passed on
pub passed_on : {F EF : Type 0} (base : F → ℕ) (number : EF → ℕ) (r : Result (ProductReport F EF) ProductError) (e : ProductError) → IsErrAnd r (λ x. x ≡ e) →
    result_in base number r ≡ Err e
passed_on base number (Ok x) e is = elim is [ ]
passed_on base number (Err x) e is = ap (λ y. Err y) is

-- lists are as long as those of the numbers of their elements
pub wide_items : {X : Type 0} (number : X → ℕ) (width : ℕ) (vs : List (Vec X Global)) → All (λ values. length values ≡ width) (map (λ v. map number v.items) vs) →
    All (λ v. length v.items ≡ width) vs
wide_items number width [] wide = λ k d less. absurd (omega (arith, less))
wide_items number width (v ∷ vs) wide =
    let W = λ (values : List ℕ). length values ≡ width in
    let more = map (λ v. map number v.items) vs in
    All-cons (λ v. length v.items ≡ width) v vs (sym (length-map v.items number) ∙ All-head W (map number v.items) more wide)
    (wide_items number width vs (All-tail W (map number v.items) more wide))
