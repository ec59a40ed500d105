-- Rounds that are built on two tables, from what a prover plays.
use Rattle.std.proofs.Common.{◌≡◌, inl, inr, ⊎_elim, ℕ, suc, ◌+◌, ◌-◌, ◌^◌, ◌<◌, List, [], ◌++◌, All, length, map, Some, None, Result, Ok, Err, refl, ap, sym, ◌∙◌, subst, arith}
use Rattle.std.proofs.lemmas.List.{length-map}
use Rattle.sc_definitions.specs.declared.events.Event.{Event}
use Rattle.sc_definitions.specs.Ring.{IsRing}
use Rattle.sc_definitions.specs.Tables.{evaluation, prefix, rows_of, entries, inner_product, folded_by}
use Rattle.sc_definitions.specs.TwoTables.{true_claim_on}
use Rattle.sc_definitions.specs.Rounds.{honest_message}
use Rattle.sc_definitions.specs.Statements.{batched_by_powers}
use Rattle.sc_definitions.specs.Transcript.{Round, rounds_events, challenges, sent}
use Rattle.sc_definitions.specs.Replays.{AllPass}
use Rattle.sc_definitions.specs.Events.{Rules, NonePasses}
use Rattle.sc_definitions.specs.Channels.{Wire, empty_wire, witnesses_of, channel, IsBuilt, NoWitnessFound}
use Rattle.sc_definitions.specs.ProverStates.{Setting, ProverState, entries_of, message_in, honest_in, IsPlayedWithoutWitness}
use Rattle.sc_definitions.specs.ProverViews.{ProverView, setting_at, prover_state_at}
use Rattle.sc_definitions.proofs.BuiltLaws.{length-messages, length-challenges}
use Rattle.sc_definitions.proofs.RoundLaws.{true_claim-inner}
use Rattle.sc_definitions.proofs.SameTables.{inner_product-same, built-same, honest-same}
use Rattle.sc_definitions.proofs.ProverStateLaws.{entries-is, rows-entries_of, message_honest}
use Rattle.sc_definitions.proofs.WitnessLaws.{honest_rounds-whole, honest_rounds-none, none_passes}
use Rattle.sc_rounds.specs.declared.product_polynomial.ProductPolynomial.{ProductPolynomial}
use Rattle.std.specs.declared.cmp.PartialEq.{Ghosts as PartialEqOf}
use Rattle.sc_field.specs.declared.field.Field.{Ghosts as FieldOf}
use Rattle.sc_field.specs.declared.algebra.Algebra.{Ghosts as AlgebraOf}
use Rattle.sc_field.specs.declared.algebra.ExtensionField.{Ghosts as ExtensionOf}
use Rattle.sc_challenger.specs.Parties.{Party, IsCopyOf}
use Rattle.sc_table.specs.declared.poly.Poly.{Poly}
use Rattle.sc_table.specs.Polys.{variables_of, table_of}
use Rattle.sc_rounds.specs.Products.{variables_in, basis_in, order_in, evals_in, weights_in, sum_in, numbers_of}
use Rattle.sc_rounds.specs.Provers.{shown_of}
use Rattle.sc_rounds.specs.Turns.{IsPairOf}
use Rattle.sc_transcript.specs.declared.error.SumcheckError.{SumcheckError}
use Rattle.sc_transcript.specs.declared.error.SumcheckError.TheVariants as rounds
use Rattle.sc_transcript.specs.Data.{witness_count}
use Rattle.sc_transcript.specs.Batches.{Batch, batch_at, PlaysWhole, BreaksOff}
use Rattle.sc_transcript.proofs.GivenRounds.{given_played, count_witnesses}
use Rattle.sc_transcript.proofs.InStep.{all_pass}
use Rattle.sc_soundness.proofs.ImageLaws.{same-lists}
use Rattle.sc_merge_definitions.specs.Matrices.{MatmulCase, IsMatmulCase, MatmulFigures, drawn_point, after_point, entries_claim, left_table, right_table, matmul_tables, inner_variables, product_values, false_entry, matmul_figures}
use Rattle.sc_merge_definitions.proofs.MatrixLaws.{values-count, entries-sum}
use Rattle.sc_merge_definitions.proofs.GivenLaws.{both-none}
use Rattle.sc_matmul.specs.declared.error.MatmulError.{MatmulError}
use Rattle.sc_matmul.specs.declared.error.MatmulError.TheVariants as errors
use Rattle.sc_matmul.specs.declared.shape.FittingClaim.{FittingClaim}
use Rattle.sc_matmul.specs.FittingClaims.{case_by}
use Rattle.sc_matmul.specs.MatmulRounds.{rounds_start, matmul_built, counts_fault, rounds_given, matmul_given, unless_fault}
use Rattle.sc_matmul.specs.MatmulReports.{GivesResult, given_result, built_result, task_result, entry_fault}
use Rattle.sc_matmul.specs.MatmulAudits.{IsAnswered, LeavesHistory}
use Rattle.sc_matmul.specs.MatmulPlays.{refusal_by, AreBuilt, LeavesBuilt}
use Rattle.sc_matmul.proofs.ReplayLaws.{given-whole}

-- the entries of a table in memory are those of a table that agrees
pub same-entries : {X : Type 0} (number : X → ℕ) (n : ℕ) (xs : List X) (f : ℕ → ℕ) → length xs ≡ 2 ^ n → ((b : ℕ) → b < 2 ^ n → entries number xs b ≡ f b) →
    map number xs ≡ entries_of n f
unfolding entries rows_of
same-entries number n xs f size same = entries-is n (map number xs) f (length-map xs number ∙ size) same

module _ (q : MatmulCase) (ring : IsRing q.ops) where
  -- what a prover of the claim shows before its first round
  abbrev pub prover_for : ProverView
  prover_for = record {
    basis = evaluation;
    order = prefix;
    variables = inner_variables q;
    evals = entries_of (inner_variables q) (left_table q);
    weights = entries_of (inner_variables q) (right_table q);
    claim = entries_claim q;
  }

  -- and a pair of the two tables does
  pub shown-pair : {F EF : Type 0} (number : EF → ℕ) (pair : ProductPolynomial F EF) (claim : EF) → IsPairOf number (matmul_tables q) (inner_variables q) pair →
      number claim ≡ entries_claim q → shown_of number pair claim ≡ prover_for
  shown-pair number pair claim is claim_is =
      let n = inner_variables q in
      let left : numbers_of number pair.evals ≡ entries_of n (left_table q) =
      same-entries number n pair.evals.evals.items (left_table q) (sym pair.evals.evals.ok.0 ∙ pair.evals.sized ∙ ap (λ k. 2 ^ k) (sym is.variables))
      (λ b low. is.evals b (subst (λ k. b < 2 ^ k) is.variables low)) in
      let right : numbers_of number pair.weights ≡ entries_of n (right_table q) =
      same-entries number n pair.weights.evals.items (right_table q)
      (sym pair.weights.evals.ok.0 ∙ pair.weights.sized ∙ ap (λ k. 2 ^ k) (sym pair.same ∙ sym is.variables))
      (λ b low. is.weights b (subst (λ k. b < 2 ^ k) is.variables low)) in
      (λ i. record { basis = sym is.basis i; order = sym is.order i; variables = sym is.variables i; evals = left i; weights = right i; claim = claim_is i })

  -- the sum over the pair is the true claim
  pub sum-pair : {F EF : Type 0} (number : EF → ℕ) (pair : ProductPolynomial F EF) → IsPairOf number (matmul_tables q) (inner_variables q) pair →
      sum_in q.ops number pair ≡ true_claim_on q.ops (matmul_tables q) [] (inner_variables q)
  unfolding folded_by
  sum-pair number pair is =
      let n = variables_in pair in
      inner_product-same q.ops n (evals_in number pair) (left_table q) (weights_in number pair) (right_table q) is.evals is.weights
      ∙ ap (λ k. inner_product q.ops k (left_table q) (right_table q)) (sym is.variables)
      ∙ sym (true_claim-inner q.ops ring evaluation prefix (left_table q) (right_table q) [] (inner_variables q))

  -- ---- the batch

  abbrev pub setting_for : Setting
  setting_for = setting_at q.channel q.ops prover_for

  abbrev pub batch_for : Batch
  batch_for = batch_at setting_for (prover_state_at prover_for (after_point q) empty_wire) q.channel.extension.degree (inner_variables q)

  pub batch-is : {shown : ProverView} {R : Rules} {h : List Event} {on : Wire} {degree k : ℕ} → R ≡ q.channel.rules → h ≡ after_point q → shown ≡ prover_for → on ≡ empty_wire →
      degree ≡ q.channel.extension.degree → k ≡ inner_variables q →
      batch_at (setting_at (channel R q.channel.extension q.channel.base_size q.channel.bits) q.ops shown) (prover_state_at shown h on) degree k ≡ batch_for
  batch-is rules history shows none_sent degree_is count = rw (rules, history, shows, none_sent, degree_is, count) refl

  -- what its tables tell is what an honest prover sends
  told_honest : (rs : List ℕ) (m : ℕ) → length rs + suc m ≡ inner_variables q → honest_in setting_for batch_for.start rs m ≡ honest_message evaluation prefix q.ops (left_table q) (right_table q) rs m
  told_honest rs m whole =
      let n = inner_variables q in
      honest-same evaluation prefix q.ops ring tt n _ (left_table q) _ (right_table q) (rows-entries_of n (left_table q)) (rows-entries_of n (right_table q)) rs m whole

  built_honest : (rs : List Round) → IsBuilt (honest_in setting_for batch_for.start) q.channel (rounds_start q) [] (inner_variables q) rs →
      IsBuilt (honest_message evaluation prefix q.ops (left_table q) (right_table q)) q.channel (rounds_start q) [] (inner_variables q) rs
  built_honest rs b =
      let n = inner_variables q in
      built-same evaluation prefix q.ops ring tt n _ (left_table q) _ (right_table q) (rows-entries_of n (left_table q)) (rows-entries_of n (right_table q))
      q.channel (rounds_start q) [] n rs (omega arith) b

  -- it was played whole
  pub built-played : (after : ProverState) (rs : List ℕ) → All (λ w. w < q.channel.base_size) after.wire.witnesses → PlaysWhole batch_for after rs → AreBuilt q after.wire
  built-played after rs low whole =
      let played = whole.played in
      let n = inner_variables q in
      let count : length played.rounds ≡ n = omega (arith, played.count, whole.whole) in
      let honest = built_honest played.rounds played.built in
      record {
        rounds = played.rounds;
        are = honest_rounds-whole q.channel.rules q.channel.extension q.channel.base_size (honest_message evaluation prefix q.ops (left_table q) (right_table q)) q.channel.bits (rounds_start q) [] n played.rounds
            count (subst (All (λ w. w < q.channel.base_size)) (ap (λ (w : Wire). w.witnesses) played.wire) low) honest;
        honest = honest;
        count = count;
        wire = played.wire;
      }

  -- it stopped for want of a witness
  built-stopped : (after : ProverState) (i : ℕ) → All (λ w. w < q.channel.base_size) after.wire.witnesses → BreaksOff batch_for after (rounds.NoWitness i) → matmul_built q ≡ Err i
  built-stopped after i low why =
      let R = q.channel.rules in
      let E = q.channel.extension in
      let bits = q.channel.bits in
      let size = q.channel.base_size in
      let n = inner_variables q in
      let start = rounds_start q in
      let honest = honest_message evaluation prefix q.ops (left_table q) (right_table q) in
      let stopped : IsPlayedWithoutWitness setting_for batch_for.start after = why.2 in
      let last = stopped.last in
      let played = stopped.played in
      let m = n - suc i in
      let some : i + suc m ≡ n = omega (arith, why.0) in
      let variables : last.variables ≡ suc m = sym (ap (λ (t : ProverState). t.variables) stopped.ends.kept) ∙ omega (arith, why.1, some) in
      let count : length played.rounds ≡ i = omega (arith, played.count, variables, some) in
      let left : length played.rounds + suc m ≡ n = omega (arith, count, some) in
      let drawn = challenges R E bits start played.rounds in
      let full : length drawn + suc m ≡ n = omega (arith, length-challenges R E bits start played.rounds, count, some) in
      let message : message_in setting_for last ≡ honest drawn m =
      message_honest setting_for ring tt batch_for.start last stopped.rs m played variables ∙ ap (λ t. honest_in setting_for batch_for.start t m) played.drawn ∙ told_honest drawn m full in
      let wire : after.wire.witnesses ≡ witnesses_of bits played.rounds = ap (λ (t : ProverState). t.wire.witnesses) stopped.ends.kept ∙ ap (λ (w : Wire). w.witnesses) played.wire in
      let none : NoWitnessFound q.channel (start ++ rounds_events E bits played.rounds) (honest drawn m) after.history =
      subst (λ h. NoWitnessFound q.channel h (honest drawn m) after.history) played.history
      (subst (λ vs. NoWitnessFound q.channel last.history vs after.history) message stopped.ends.none) in
      let passes : NonePasses R ((start ++ rounds_events E bits played.rounds) ++ sent E (honest drawn m)) bits size =
      subst (λ t. NonePasses R t bits size) none.history none.none_passes in
      honest_rounds-none R E size honest bits start [] n played.rounds m left (subst (All (λ w. w < size)) wire low) (built_honest played.rounds played.built)
      (none_passes R E size bits _ none.positive passes)
      ∙ ap (λ k. Err k) count

  -- a play that was refused
  pub built-refused : {F EF C : Type 0} (base : F → ℕ) (number : EF → ℕ) (party : C → Party) (after : ProverState) (e : SumcheckError) → All (λ w. w < q.channel.base_size) after.wire.witnesses →
      BreaksOff batch_for after e → LeavesBuilt {F = F} {EF = EF} base number party q (Err (refusal_by e))
  built-refused base number party after (rounds.NoWitness i) low why = built-stopped after i low why
  built-refused base number party after rounds.NoMemory low why = tt
  built-refused base number party after e low why = absurd why

  -- ---- a replay of what was built

  module _ (w : Wire) (b : AreBuilt q w) where
    built-rounds : rounds_given w ≡ b.rounds
    built-rounds =
        ap rounds_given b.wire ∙ given_played (honest_message evaluation prefix q.ops (left_table q) (right_table q)) q.channel (rounds_start q) [] (inner_variables q) b.rounds b.honest

    pub built-counted : counts_fault (inner_variables q) q.channel.bits w ≡ None
    built-counted =
        both-none (length w.messages) (inner_variables q) (length w.witnesses) (witness_count q.channel.bits (inner_variables q)) _ _
        (ap (λ (t : Wire). length t.messages) b.wire ∙ length-messages b.rounds ∙ b.count)
        (ap (λ (t : Wire). length t.witnesses) b.wire ∙ count_witnesses q.channel.bits b.rounds ∙ ap (witness_count q.channel.bits) b.count)

    built-given : matmul_given q w ≡ Ok b.rounds
    built-given =
        given-whole q w built-counted
        (subst (AllPass q.channel.rules q.channel.extension q.channel.bits (rounds_start q)) (sym built-rounds) (all_pass (honest_message evaluation prefix q.ops (left_table q) (right_table q)) q.channel (rounds_start q) [] (inner_variables q) b.rounds b.honest))
        ∙ ap (λ rs. Ok rs) built-rounds

    -- it is answered as a build is
    same-due : false_entry q ≡ None → task_result q (Some w) ≡ task_result q None
    same-due none =
        ap (given_result q) built-given ∙ sym (ap (λ t. unless_fault (entry_fault q.claimed.cols t) (built_result q (matmul_built q))) none ∙ ap (built_result q) b.are)

    due-ok : task_result q (Some w) ≡ Ok (matmul_figures q b.rounds)
    due-ok = ap (given_result q) built-given

    history-as : (answer : Result MatmulFigures MatmulError) (h' : List Event) → GivesResult (task_result q (Some w)) answer → LeavesHistory q (Some w) answer h' → LeavesHistory q None answer h'
    history-as (Ok f) h' gives left = left
    history-as (Err e) h' gives left = ⊎_elim
        (λ memory. subst (λ x. LeavesHistory q None (Err x) h') (sym memory) (broken (subst (λ x. LeavesHistory q (Some w) (Err x) h') memory left)))
        (λ refused. let bad = sym due-ok ∙ refused in cc)
        gives where
          broken : LeavesHistory q (Some w) (Err errors.NoMemory) h' → LeavesHistory q None (Err errors.NoMemory) h'
          broken untold = ⊎_elim
              (λ untouched. inl untouched)
              (λ more. ⊎_elim
              (λ drawn. inr (inl drawn))
              (λ part. inr (inr (part.0, record { rounds = part.1.rounds; are = b.are ∙ ap (λ rs. Ok rs) (sym built-rounds ∙ part.1.are); history = part.1.history })))
              more)
              untold

    pub built-answered : false_entry q ≡ None → (answer : Result MatmulFigures MatmulError) (h' : List Event) → IsAnswered q (Some w) answer h' → IsAnswered q None answer h'
    built-answered none answer h' a = record {
      result = subst (λ due. GivesResult due answer) (same-due none) a.result;
      history = history-as answer h' a.result a.history;
    }

  -- ---- builds that are refused

  -- rounds that could not be built
  pub unbuilt-answered : {F EF C : Type 0} (base : F → ℕ) (number : EF → ℕ) (party : C → Party) (e : MatmulError) → false_entry q ≡ None → LeavesBuilt {F = F} {EF = EF} base number party q (Err e) →
      IsAnswered q None (Err e) q.history
  unbuilt-answered base number party (errors.NoWitness i) none left = record {
    result = inr (ap (λ t. unless_fault (entry_fault q.claimed.cols t) (built_result q (matmul_built q))) none ∙ ap (built_result q) left);
    history = refl;
  }
  unbuilt-answered base number party errors.NoMemory none left = record { result = inl refl; history = inl refl }
  unbuilt-answered base number party e none left = absurd left

-- the claim on true entries is the true one
pub claim-true : (q : MatmulCase) → IsMatmulCase q → false_entry q ≡ None → entries_claim q ≡ true_claim_on q.ops (matmul_tables q) [] (inner_variables q)
claim-true q case none =
    let V = product_values q.base q.left q.right in
    ap (λ xs. batched_by_powers q.ops (drawn_point q) 0 (map q.embedding xs)) (same-lists 0 q.claimed.values V (case.claimed_count ∙ sym (values-count q case)) none) ∙ entries-sum q case

-- a copy of a challenger has the same case
pub case-copied : {F EF : Type 0} {f : FieldOf F} {p : PartialEqOf F} {x : ExtensionOf EF F} {a : AlgebraOf EF F} {e : FieldOf EF} {q : PartialEqOf EF} (c : FittingClaim F EF f p x a e q) {before copy : Party} →
    IsCopyOf before copy → case_by c copy ≡ case_by c before
case-copied c is = rw (is.rules, is.history) refl

-- a pair of the two tables in memory
pub pair-made : {F EF : Type 0} (number : EF → ℕ) (q : MatmulCase) (pair : ProductPolynomial F EF) (left right : Poly EF) → variables_of left ≡ inner_variables q →
    variables_of right ≡ inner_variables q → variables_in pair ≡ variables_of left → basis_in pair ≡ evaluation → order_in pair ≡ prefix →
    evals_in number pair ≡ table_of number left → weights_in number pair ≡ table_of number right →
    ((x : ℕ) → x < 2 ^ variables_of left → table_of number left x ≡ left_table q x) →
    ((x : ℕ) → x < 2 ^ variables_of right → table_of number right x ≡ right_table q x) → IsPairOf number (matmul_tables q) (inner_variables q) pair
pair-made number q pair left right left_size right_size size basis order evals weights left_is right_is = record {
  basis = sym basis;
  order = sym order;
  variables = sym (size ∙ left_size);
  evals = λ b low. ap (λ t. t b) evals ∙ left_is b (subst (λ k. b < 2 ^ k) size low);
  weights = λ b low. ap (λ t. t b) weights ∙ right_is b (subst (λ k. b < 2 ^ k) (size ∙ left_size ∙ sym right_size) low);
}
