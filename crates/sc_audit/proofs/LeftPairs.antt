-- The pair of tables that small-value rounds leave, and the rounds on it.
use Rattle.std.proofs.Common.{◌≡◌, ℕ, ◌+◌, ◌-◌, ◌^◌, ◌<◌, List, [], length, sym, ◌∙◌, ap, refl, subst, inr, arith, None, Result, Ok, Err, IsErrAnd}
use Rattle.sc_definitions.specs.declared.events.Event.{Event}
use Rattle.sc_definitions.specs.Ring.{Ops, IsRing}
use Rattle.sc_definitions.specs.Tables.{evaluation, IsOffered, rows_of, inner_product, folded_by, entries}
use Rattle.sc_definitions.specs.Rounds.{true_claim, next_claim, claim_along}
use Rattle.sc_definitions.specs.Transcript.{messages_of, challenges}
use Rattle.sc_definitions.specs.Channels.{Channel, Wire, verifier_state}
use Rattle.sc_definitions.specs.ProverStates.{Setting, ProverState, entries_of, IsPlayed}
use Rattle.sc_definitions.specs.Problem.{Problem, weights_of}
use Rattle.sc_definitions.specs.Combined.{combined_weight}
use Rattle.sc_definitions.specs.Grids.{grids_of}
use Rattle.sc_definitions.proofs.BuildLaws.{built-claim, claim-true, first_false_claim-all}
use Rattle.sc_definitions.proofs.RoundLaws.{true_claim-inner}
use Rattle.sc_definitions.proofs.SameTables.{inner_product-same, folded_by-same}
use Rattle.sc_definitions.proofs.ProverStateLaws.{entries-is, rows-entries_of, evals_at, weights_at}
use Rattle.sc_table.specs.declared.poly.Poly.{Poly}
use Rattle.sc_table.specs.Polys.{variables_of, table_of}
use Rattle.sc_transcript.specs.declared.error.SumcheckError.{SumcheckError}
use Rattle.sc_transcript.specs.Drivers.{Driver, HasRoundLeft, IsDone}
use Rattle.sc_rounds.specs.declared.product_polynomial.ProductPolynomial.{ProductPolynomial}
use Rattle.sc_rounds.specs.Products.{numbers_of, variables_in, basis_in, order_in, evals_in, weights_in, sum_in}
use Rattle.sc_rounds.specs.Provers.{shown_of}
use Rattle.sc_definitions.specs.ProverViews.{setting_at, prover_state_at}
use Rattle.sc_transcript.specs.Batches.{PlaysFrom, StopsFrom, BreaksOffAt, IsStopped, Batch}
use Rattle.sc_rounds.proofs.PairRounds.{pair_rows}
use Rattle.sc_transcript.proofs.BatchLaws.{same_setting, played_at}
use Rattle.sc_svo.specs.Batches.{GridBatch, IsBoundBy}
use Rattle.sc_jobs.specs.Figures.{false_claim_of}
use Rattle.sc_jobs.specs.BuiltCases.{prover_for}
use Rattle.sc_audit.specs.SmallRounds.{with_drawn, LeavesPlayed, LeavesRounds}
use Rattle.sc_jobs.specs.Taken.{IsBatchOf}
use Rattle.sc_jobs.proofs.SameGrids.{grids_of-same}
use Rattle.sc_audit.proofs.DrawnLaws.{values_offered}

-- a prover state's claim is the sum over all rows of evaluation times weight
abbrev pub IsTrueAt : Ops → ProverState → Type 0
IsTrueAt o t = t.claim ≡ inner_product o t.variables (rows_of t.evals) (rows_of t.weights)

-- so it stays along rounds
pub played_true : (s : Setting) → IsRing s.ops → IsOffered s.basis s.order → (t u : ProverState) (rs : List ℕ) → IsPlayed s t u rs → IsTrueAt s.ops t → IsTrueAt s.ops u
unfolding folded_by
played_true s ring offered t u rs p true_sum =
    let o = s.ops in
    let f = rows_of t.evals in
    let w = rows_of t.weights in
    let n = t.variables in
    let m = u.variables in
    let c = s.channel in
    let qs = challenges c.rules c.extension c.bits t.history p.rounds in
    let next = next_claim s.basis o in
    let start : t.claim ≡ true_claim s.basis s.order o f w [] n = true_sum ∙ sym (true_claim-inner o ring s.basis s.order f w [] n) in
    let left : n - length p.rounds ≡ m = omega (arith, p.count) in
    p.claim ∙ ap (claim_along next t.claim (messages_of p.rounds)) p.drawn ∙ ap (λ k. claim_along next k (messages_of p.rounds) qs) start
    ∙ built-claim o ring s.basis s.order offered f w c t.history [] n p.rounds p.built
    ∙ ap (true_claim s.basis s.order o f w qs) left ∙ ap (λ xs. true_claim s.basis s.order o f w xs m) (sym p.drawn)
    ∙ true_claim-inner o ring s.basis s.order f w rs m
    ∙ sym (inner_product-same o m (rows_of u.evals) (folded_by s.basis s.order o rs m f) (rows_of u.weights) (folded_by s.basis s.order o rs m w) (evals_at s t u rs p) (weights_at s t u rs p))

-- and so it is where the statements are true
pub begun_true : (o : Ops) → IsRing o → (p : Problem) (h : List Event) (on : Wire) → false_claim_of o p ≡ None → IsTrueAt o (prover_state_at (prover_for o p) h on)
unfolding folded_by
begun_true o ring p h on true_all =
    claim-true o ring p (first_false_claim-all o p.variables p.table 0 p.statements true_all)
    ∙ true_claim-inner o ring p.basis p.order p.table (weights_of o p) [] p.variables
    ∙ sym (inner_product-same o p.variables (rows_of (entries_of p.variables p.table)) p.table (rows_of (entries_of p.variables (weights_of o p))) (weights_of o p)
    (rows-entries_of p.variables p.table) (rows-entries_of p.variables (weights_of o p)))

-- ---- what the small-value rounds leave

-- a bound table by other names
pub bound_as : {EF : Type 0} (o : Ops) (number : EF → ℕ) (b : GridBatch) (q : Poly EF) (f g : ℕ → ℕ) (rs qs : List ℕ) → f ≡ g → rs ≡ qs → IsBoundBy o number b f rs q → IsBoundBy o number b g qs q
bound_as o number b q f g rs qs ef er bound = subst (λ k. IsBoundBy o number b k qs q) ef (subst (λ xs. IsBoundBy o number b f xs q) er bound)

module _ {EF : Type 0} (o : Ops) (number : EF → ℕ) (p : Problem) (b : GridBatch) (of : IsBatchOf o p b) (rs : List ℕ) where
  -- a table of values with the challenges bound, as a list
  bound_values : (f g : ℕ → ℕ) (q : Poly EF) (m : ℕ) (xs : List ℕ) → IsBoundBy o number b g rs q → ((k : ℕ) → k < 2 ^ p.variables → g k ≡ f k) → m ≡ variables_of q → length xs ≡ 2 ^ m → rows_of xs ≡ table_of number q →
      entries_of (p.variables - length rs) (folded_by evaluation p.order o rs (p.variables - length rs) (rows_of (entries_of p.variables f))) ≡ xs
  bound_values f g q m xs bound same count size rows =
      let n = p.variables in
      let whole : length rs + m ≡ n = omega (arith, bound.variables, of.variables, count) in
      let left : m ≡ n - length rs = omega (arith, whole) in
      let is : xs ≡ entries_of m (folded_by evaluation p.order o rs m (rows_of (entries_of n f))) =
      entries-is m xs _ size (λ k low.
      ap (λ t. t k) rows ∙ bound.rows k (subst (λ v. k < 2 ^ v) count low)
      ∙ ap (λ v. folded_by evaluation b.order o rs v g k) (sym count) ∙ ap (λ r. folded_by evaluation r o rs m g k) of.order
      ∙ folded_by-same evaluation p.order o rs m g (rows_of (entries_of n f)) (λ j under.
      let below = subst (λ v. j < 2 ^ v) whole under in same j below ∙ sym (rows-entries_of n f j below)) k low) in
      sym (is ∙ ap (λ k. entries_of k (folded_by evaluation p.order o rs k (rows_of (entries_of n f)))) left)

  -- the same in the problem's basis
  bound_numbers : (f g : ℕ → ℕ) (q : Poly EF) (m : ℕ) (xs : List ℕ) → IsBoundBy o number b g rs q → ((k : ℕ) → k < 2 ^ p.variables → g k ≡ f k) → m ≡ variables_of q → length xs ≡ 2 ^ m → rows_of xs ≡ table_of number q →
      entries_of (p.variables - length rs) (folded_by p.basis p.order o rs (p.variables - length rs) (rows_of (entries_of p.variables f))) ≡ xs
  bound_numbers f g q m xs bound same count size rows =
      ap (λ k. entries_of (p.variables - length rs) (folded_by k p.order o rs (p.variables - length rs) (rows_of (entries_of p.variables f)))) of.basis
      ∙ bound_values f g q m xs bound same count size rows

  module _ {F : Type 0} (left : ProductPolynomial F EF) (sum : EF) (evals weights : Poly EF) (bound_evals : IsBoundBy o number b p.table rs evals)
      (bound_weights : IsBoundBy o number b (combined_weight o b.claims) rs weights) (count : variables_in left ≡ variables_of evals)
      (evals_are : evals_in number left ≡ table_of number evals) (weights_are : weights_in number left ≡ table_of number weights) where
    left_variables : variables_in left + length rs ≡ p.variables
    left_variables = omega (arith, bound_evals.variables, of.variables, count)

    -- the pair stands where the rounds have led
    left_stands : (c : Channel) (h h' : List Event) (on on' : Wire) →
        with_drawn (setting_at c o (prover_for o p)) (prover_state_at (prover_for o p) h on) rs (verifier_state h' (number sum)) on' ≡ prover_state_at (shown_of number left sum) h' on'
    unfolding entries rows_of
    left_stands c h h' on on' =
        let variables : p.variables - length rs ≡ variables_in left = omega (arith, left_variables) in
        let counts : variables_in left ≡ variables_of weights = omega (arith, left_variables, bound_weights.variables, of.variables) in
        let es = bound_numbers p.table p.table evals (variables_in left) (numbers_of number left.evals) bound_evals (λ k low. refl) count (pair_rows number left).0 evals_are in
        let ws = bound_numbers (weights_of o p) (combined_weight o b.claims) weights (variables_in left) (numbers_of number left.weights) bound_weights of.weights counts
        (pair_rows number left).1 weights_are in
        λ i. record { variables = variables i; evals = es i; weights = ws i; claim = number sum; history = h'; wire = on' }

    module _ (c : Channel) (h h' : List Event) (on on' : Wire)
        (played : IsPlayed (setting_at c o (prover_for o p)) (prover_state_at (prover_for o p) h on)
        (with_drawn (setting_at c o (prover_for o p)) (prover_state_at (prover_for o p) h on) rs (verifier_state h' (number sum)) on') rs) where
      -- and its sum is the claim
      pub left_sum : IsRing o → IsTrueAt o (prover_state_at (prover_for o p) h on) → number sum ≡ sum_in o number left
      unfolding entries rows_of
      left_sum ring true_sum =
          let s = setting_at c o (prover_for o p) in
          let t = prover_state_at (prover_for o p) h on in
          played_true s ring (values_offered o p b of) t (prover_state_at (shown_of number left sum) h' on') rs (subst (λ u. IsPlayed s t u rs) (left_stands c h h' on on') played) true_sum

      -- ---- the rounds on it, in the channel by another name

      module _ {K : Type 0} (c' : Channel) (same : c' ≡ c) (basis : basis_in left ≡ p.basis) (order : order_in left ≡ p.order) (d d' : Driver K) (counts : d.played ≡ length rs) (u : ProverState)
          (size : u.variables + d'.played ≡ variables_in left + d.played) where
        left_setting : setting_at c' o (shown_of number left sum) ≡ setting_at c o (prover_for o p)
        left_setting = same_setting same basis order

        left_begun : IsPlayed (setting_at c' o (shown_of number left sum)) (prover_state_at (prover_for o p) h on) (prover_state_at (shown_of number left sum) h' on') rs
        left_begun =
            played_at (sym left_setting) refl (left_stands c h h' on on') refl played

        -- they are all played
        pub left_played : (qs : List ℕ) → ((start : ProverState) → IsPlayed (setting_at c' o (shown_of number left sum)) start (prover_state_at (shown_of number left sum) h' on') rs →
            IsDone d' × IsPlayed (setting_at c' o (shown_of number left sum)) start u qs) → PlaysFrom (setting_at c o (prover_for o p)) (prover_state_at (prover_for o p) h on) u qs d'
        left_played qs rest =
            let t = prover_state_at (prover_for o p) h on in
            let all = rest t left_begun in
            record {
              left = omega (arith, size, left_variables, counts);
              done = all.0;
              played = played_at left_setting refl refl refl all.1;
            }

        -- or they stop
        pub left_stops : (e : SumcheckError) → u.history ≡ d'.history →
            ((start : ProverState) → IsPlayed (setting_at c' o (shown_of number left sum)) start (prover_state_at (shown_of number left sum) h' on') rs →
            HasRoundLeft d' × IsStopped (setting_at c' o (shown_of number left sum)) start u d'.played e) →
            StopsFrom (setting_at c o (prover_for o p)) (prover_state_at (prover_for o p) h on) d' u.wire e
        left_stops e history rest =
            let t = prover_state_at (prover_for o p) h on in
            let why = rest t left_begun in
            record {
              after = u;
              history = history;
              wire_is = refl;
              left = omega (arith, size, left_variables, counts);
              within = omega (arith, why.0);
              some = inr why.0;
              stopped = subst (λ k. IsStopped k t u d'.played e) left_setting why.1;
            }

-- what stops is a result that is an error
pub plays_stopped : {X K : Type 0} {s : Setting} {t : ProverState} (after : X → ProverState) (rs : List ℕ) {d : Driver K} {wire : Wire} (r : Result X SumcheckError) {e : SumcheckError} →
    IsErrAnd r (λ x. x ≡ e) → StopsFrom s t d wire e → LeavesPlayed (record { setting = s; start = t }) after rs d wire r
plays_stopped after rs (Ok x) is p = elim is [ ]
plays_stopped {s} {t} after rs {d} {wire} (Err x) is p = subst (StopsFrom s t d wire) (sym is) p

-- what breaks off is a result that is an error
pub rounds_broken : {X : Type 0} {b : Batch} (after : X → ProverState) (drawn : X → List ℕ) {h : List Event} {wire : Wire} (r : Result X SumcheckError) (e : SumcheckError) →
    IsErrAnd r (λ x. x ≡ e) → BreaksOffAt b h wire e → LeavesRounds b after drawn h wire r
rounds_broken after drawn (Ok x) e is p = elim is [ ]
rounds_broken {b} after drawn {h} {wire} (Err x) e is p = subst (BreaksOffAt b h wire) (sym is) p

-- the batch's grids are the problem's
pub batch_grids : (o : Ops) (p : Problem) (b : GridBatch) → IsBatchOf o p b → (rounds : ℕ) → length b.grids ≡ rounds → b.grids ≡ grids_of p.order o p.variables p.table (weights_of o p) rounds
batch_grids o p b of rounds count =
    of.grids
    ∙ ap (λ r. grids_of r o b.variables p.table (combined_weight o b.claims) (length b.grids)) of.order
    ∙ ap (λ n. grids_of p.order o n p.table (combined_weight o b.claims) (length b.grids)) of.variables
    ∙ grids_of-same p.order o p.table (combined_weight o b.claims) (weights_of o p) p.variables (length b.grids) of.within of.weights
    ∙ ap (grids_of p.order o p.variables p.table (weights_of o p)) count
