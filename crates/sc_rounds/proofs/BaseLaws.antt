-- The first round of a table of base elements.
use Rattle.std.proofs.Common.{◌≡◌, ◌⊎◌, ℕ, suc, ◌+◌, ◌-◌, ◌^◌, ◌<◌, ◌≤◌, List, [], ◌∷◌, length, map, ap, sym, ◌∙◌, subst, inl, inr, refl, arith, Result, Ok, Err, IfErr, IsErrAnd, Bool, IsTrue, nat_eq, ◌↔◌}
use Rattle.std.proofs.lemmas.Bool.{eqb-true, eq-eqb}
use Rattle.std.proofs.lemmas.List.{length-map}
use Rattle.sc_definitions.specs.declared.events.Event.{Event}
use Rattle.sc_definitions.specs.Ring.{Ops, IsRing}
use Rattle.sc_definitions.specs.Tables.{Basis, Order, IsOffered, entries, rows_of, inner_product, folded_in}
use Rattle.sc_definitions.specs.Messages.{message_of}
use Rattle.sc_definitions.specs.Rounds.{next_claim}
use Rattle.sc_definitions.specs.Transcript.{round_of}
use Rattle.sc_definitions.specs.Channels.{Channel, Wire, IsSent, with_rounds}
use Rattle.sc_definitions.specs.ProverStates.{Setting, ProverState, half_rows, IsRound, IsPlayed}
use Rattle.sc_definitions.proofs.Lengths.{pow-same}
use Rattle.sc_definitions.proofs.ProverStateLaws.{IsSized, length-entries_of, rows-entries_of, played_none}
use Rattle.sc_table.specs.declared.poly.Poly.{Poly}
use Rattle.sc_table.specs.declared.strategy.Basis.{Basis as BasisTag}
use Rattle.sc_table.specs.declared.strategy.VariableOrder.{VariableOrder}
use Rattle.sc_table.specs.Strategy.{basis_of, order_of}
use Rattle.sc_table.specs.Polys.{variables_of, table_of}
use Rattle.sc_table.proofs.EntryLaws.{entry-embedded}
use Rattle.sc_transcript.specs.declared.error.SumcheckError.{SumcheckError}
use Rattle.sc_transcript.specs.declared.error.SumcheckError.TheVariants.{NoMemory, NoWitness}
use Rattle.sc_transcript.specs.declared.rounds.BatchShape.{BatchShape}
use Rattle.sc_transcript.specs.Drivers.{Driver, HasRoundLeft, IsDone}
use Rattle.sc_rounds.specs.declared.product_polynomial.ProductPolynomial.{ProductPolynomial}
use Rattle.sc_rounds.specs.Products.{numbers_of, variables_in, basis_in, order_in, evals_in, weights_in}
use Rattle.sc_rounds.specs.Provers.{shown_of}
use Rattle.sc_definitions.specs.ProverViews.{ProverView, message_shown, with_bound, setting_at, prover_state_at}
use Rattle.sc_rounds.specs.BaseProducts.{based, BaseAgrees}
use Rattle.sc_transcript.specs.Batches.{PlaysFrom, StopsFrom, BreaksOffAt, Batch, PlaysWhole, BreaksOff, IsHalted, IsStopped}
use Rattle.sc_rounds.proofs.PairRounds.{pair_rows}
use Rattle.sc_definitions.proofs.PairMoves.{moves, sized}
use Rattle.sc_rounds.proofs.HeldLaws.{bound_list}
use Rattle.sc_transcript.proofs.BatchLaws.{played_at, one_round_more, stops}

-- a table of images
pub image_entries : {F : Type 0} (h : ℕ → ℕ) (number : F → ℕ) (xs : List F) → h 0 ≡ 0 → rows_of (map (λ x. h (number x)) xs) ≡ (λ b. h (entries number xs b))
unfolding entries rows_of
image_entries h number xs zero_kept = λ i b. entry-embedded h number xs b zero_kept i

-- as many images and weights are shown as rows are left
pub base_rows : {F EF : Type 0} (of : F → ℕ) (number : EF → ℕ) (xs : List F) (w : Poly EF) → length xs ≡ 2 ^ variables_of w →
    (length (map of xs) ≡ 2 ^ variables_of w) × (length (numbers_of number w) ≡ 2 ^ variables_of w)
base_rows of number xs w same = (length-map xs of ∙ same, sized number w.evals.items _ _ w.evals.ok.0 w.sized)

-- the round
pub base_round : {o : Ops} {c : Channel} {s : ProverView} {hist hist' : List Event} {w w' : Wire} {values : List ℕ} (witness : ℕ) {r : ℕ} → values ≡ message_shown o s → 0 < s.variables →
    IsSent c hist (round_of values witness) r hist' → w' ≡ with_rounds c.bits w (round_of values witness ∷ []) →
    IsRound (setting_at c o s) (prover_state_at s hist w) (prover_state_at (with_bound o s r) hist' w') r
base_round {o} {c} {s} {hist} {hist'} {w} {w'} {values} witness {r} message left sent wire =
    let n = s.variables - 1 in
    let more : s.variables ≡ n + 1 = omega (arith, left) in
    let next : s.variables ≡ suc n = omega (arith, left) in
    moves (setting_at c o s) (prover_state_at s hist w) (prover_state_at (with_bound o s r) hist' w') values witness r sent wire more
    (record { evals = length-entries_of n _; weights = length-entries_of n _ })
    (message ∙ ap (λ k. message_of s.basis s.order o (half_rows k) (rows_of s.evals) (rows_of s.weights)) next)
    (rows-entries_of n _) (rows-entries_of n _) (ap (λ v. next_claim s.basis o s.claim v r) (sym message))

-- the pair of the bound tables shows what is bound
pub base_bound : {F EF : Type 0} (o : Ops) (number : EF → ℕ) (p : ProductPolynomial F EF) (claim : EF) (s : ProverView) (r : ℕ) →
    basis_in p ≡ s.basis → order_in p ≡ s.order → s.variables ≡ variables_in p + 1 →
    ((b : ℕ) → b < 2 ^ variables_in p → evals_in number p b ≡ folded_in s.basis s.order o (variables_in p) r (rows_of s.evals) b) →
    ((b : ℕ) → b < 2 ^ variables_in p → weights_in number p b ≡ folded_in s.basis s.order o (variables_in p) r (rows_of s.weights) b) →
    number claim ≡ next_claim s.basis o s.claim (message_shown o s) r → shown_of number p claim ≡ with_bound o s r
unfolding entries rows_of
base_bound o number p claim s r basis order fewer evals weights is =
    let m = variables_in p in
    let less : m ≡ s.variables - 1 = omega (arith, fewer) in
    let e = bound_list o s.basis s.order s.variables m r s.evals (numbers_of number p.evals) fewer (pair_rows number p).0 evals in
    let w = bound_list o s.basis s.order s.variables m r s.weights (numbers_of number p.weights) fewer (pair_rows number p).1 weights in
    λ i. record { basis = basis i; order = order i; variables = less i; evals = e i; weights = w i; claim = is i }

-- A table of base elements and its weights are bound at r: e and w' are what is left of them.
pub record AreBound {EF : Type 0} (o : Ops) (number : EF → ℕ) (basis : Basis) (order : Order) (r : ℕ) (f : ℕ → ℕ) (w e w' : Poly EF) : Type 0 where
  pub fewer : variables_of w ≡ variables_of w' + 1
  pub same : variables_of e ≡ variables_of w'
  pub evals : (b : ℕ) → b < 2 ^ variables_of e → table_of number e b ≡ folded_in basis order o (variables_of e) r f b
  pub weights : (b : ℕ) → b < 2 ^ variables_of w' → table_of number w' b ≡ folded_in basis order o (variables_of w') r (table_of number w) b

-- both tables have one variable less
pub one_fewer : (n v w u : ℕ) → n ≡ 2 ^ w → n ≡ 2 ^ (v + 1) → w ≡ u + 1 → v ≡ u
one_fewer n v w u before is less =
    let same : v + 1 ≡ w = pow-same (v + 1) w (sym is ∙ before) in
    omega (arith, same, less)

-- the weights were bound in their place, and then moved to less memory
pub are_bound : {EF : Type 0} (o : Ops) (number : EF → ℕ) (basis : Basis) (order : Order) (r rows : ℕ) (f : ℕ → ℕ) (w bound e w' : Poly EF) → rows ≡ 2 ^ variables_of w →
    variables_of w ≡ variables_of bound + 1 →
    ((b : ℕ) → b < 2 ^ variables_of bound → table_of number bound b ≡ folded_in basis order o (variables_of bound) r (table_of number w) b) →
    variables_of w' ≡ variables_of bound → table_of number w' ≡ table_of number bound →
    rows ≡ 2 ^ (variables_of e + 1) → ((b : ℕ) → b < 2 ^ variables_of e → table_of number e b ≡ folded_in basis order o (variables_of e) r f b) →
    AreBound o number basis order r f w e w'
are_bound o number basis order r rows f w bound e w' size fewer rows_are moved same halved fixed = record {
  fewer = fewer ∙ ap (λ k. k + 1) (sym moved);
  same = one_fewer _ _ _ _ size halved fewer ∙ sym moved;
  evals = fixed;
  weights = λ b low. ap (λ t. t b) same ∙ rows_are b (subst (λ k. b < 2 ^ k) moved low)
      ∙ ap (λ k. folded_in basis order o k r (table_of number w) b) (sym moved);
}

-- the pair of both shows what is bound
pub base_pair : {F EF : Type 0} (o : Ops) (number : EF → ℕ) (h : ℕ → ℕ) (read : F → ℕ) → h 0 ≡ 0 →
    (basis : BasisTag) (order : VariableOrder) (xs : List F) (w e w' : Poly EF) (sum claim : EF) (r : ℕ) (p : ProductPolynomial F EF) →
    AreBound o number (basis_of basis) (order_of order) r (λ b. h (entries read xs b)) w e w' →
    variables_in p ≡ variables_of e → basis_in p ≡ basis_of basis → order_in p ≡ order_of order → evals_in number p ≡ table_of number e → weights_in number p ≡ table_of number w' →
    number claim ≡ next_claim (basis_of basis) o (number sum) (message_shown o (based (λ x. h (read x)) number basis order xs w sum)) r →
    shown_of number p claim ≡ with_bound o (based (λ x. h (read x)) number basis order xs w sum) r
unfolding entries rows_of
base_pair o number h read zero_kept basis order xs w e w' sum claim r p are count basis_is order_is evals weights is =
    let s = based (λ x. h (read x)) number basis order xs w sum in
    let v = variables_in p in
    let f : ℕ → ℕ = λ b. h (entries read xs b) in
    let size : v ≡ variables_of w' = count ∙ are.same in
    base_bound o number p claim s r basis_is order_is (are.fewer ∙ ap (λ k. k + 1) (sym size))
    (λ b low. ap (λ t. t b) evals ∙ are.evals b (subst (λ k. b < 2 ^ k) count low)
    ∙ ap (λ k. folded_in (basis_of basis) (order_of order) o k r f b) (sym count)
    ∙ ap (λ t. folded_in (basis_of basis) (order_of order) o v r t b) (sym (image_entries h read xs zero_kept)))
    (λ b low. ap (λ t. t b) weights ∙ are.weights b (subst (λ k. b < 2 ^ k) size low)
    ∙ ap (λ k. folded_in (basis_of basis) (order_of order) o k r (table_of number w) b) (sym size)) is

-- what holds of an error holds of a result that passes it on
pub err_as : {X E : Type 0} (r : Result X E) (e : E) (P : E → Type 0) → IsErrAnd r (λ x. x ≡ e) → P e → IfErr r P
err_as (Ok x) e P is p = elim is [ ]
err_as (Err x) e P is p = subst P (sym is) p

-- a comparison of the sum tells whether tables agree that have as many rows
pub base_agrees : {F EF : Type 0} (o : Ops) {of : F → ℕ} (number : EF → ℕ) {xs : List F} (w : Poly EF) {sum total left right : ℕ} {b : Bool} → length xs ≡ 2 ^ variables_of w →
    total ≡ inner_product o (variables_of w) (entries of xs) (table_of number w) → left ≡ total → right ≡ sum → b ≡ nat_eq left right → IsTrue b ↔ BaseAgrees o of number xs w sum
base_agrees o number w {left} {right} rows is first second test = (
  λ t. record { rows = rows; sum_is = sym second ∙ sym (eqb-true left right (sym test ∙ t)) ∙ first ∙ is },
  λ a. test ∙ eq-eqb left right (first ∙ is ∙ sym a.sum_is ∙ sym second),
)

-- ---- the first round, and those after it

module _ {K : Type 0} (s : Setting) (ring : IsRing s.ops) (offered : IsOffered s.basis s.order) (t v : ProverState) (sized : IsSized t) (d d' : Driver K) (none : d.played ≡ 0) (some : HasRoundLeft d)
    (same : d'.shape ≡ d.shape) where
  -- it was refused
  pub first_stops : (e : SumcheckError) → d'.played ≡ d.played → v.variables ≡ t.variables → v.history ≡ d'.history → IsHalted s t v d.played e → StopsFrom s t d' v.wire e
  first_stops e counts variables history why =
      let size : d'.shape.num_rounds ≡ d.shape.num_rounds = ap (λ (k : BatchShape). k.num_rounds) same in
      record {
        after = v;
        history = history;
        wire_is = refl;
        left = omega (arith, counts, none, variables);
        within = omega (arith, counts, some, size);
        some = inr (omega (arith, counts, some, size));
        stopped = stops _ e refl (sym counts) (played_none s t sized) why;
      }

  module _ (r : ℕ) (counts : d'.played ≡ d.played + 1) (round : IsRound s t v r) where
    -- one round is played
    pub first_played : IsPlayed s t v (r ∷ [])
    first_played = one_round_more ring offered refl refl (played_none s t sized) round

    -- and there is no memory for what it leaves
    pub first_wants : v.history ≡ d'.history → StopsFrom s t d' v.wire NoMemory
    first_wants history =
        let size : d'.shape.num_rounds ≡ d.shape.num_rounds = ap (λ (k : BatchShape). k.num_rounds) same in
        record {
          after = v;
          history = history;
          wire_is = refl;
          left = omega (arith, counts, none, round.fewer);
          within = omega (arith, counts, some, none, size);
          some = inl refl;
          stopped = record { rs = r ∷ []; played = first_played };
        }

    -- the rounds after it, in the same setting by another name
    module _ (s' : Setting) (is : s' ≡ s) (v' u u' : ProverState) (here : v ≡ v') (d2 : Driver K) (left : u.variables + d2.played ≡ v.variables + d'.played) where
      pub first_before : (rs : List ℕ) → rs ≡ r ∷ [] → IsPlayed s' t v' rs
      first_before rs one = played_at (sym is) refl here (sym one) first_played

      -- are all played
      pub rest_played : u ≡ u' → (rs : List ℕ) → IsDone d2 × IsPlayed s' t u rs → PlaysFrom s t u' rs d2
      rest_played end rs all = record {
        left = ap (λ (k : ProverState). k.variables + d2.played) (sym end) ∙ omega (arith, left, counts, none, round.fewer);
        done = all.0;
        played = played_at is refl end refl all.1;
      }

      -- or stop
      pub rest_stops : (e : SumcheckError) → u.history ≡ d2.history → HasRoundLeft d2 × IsStopped s' t u d2.played e → StopsFrom s t d2 u.wire e
      rest_stops e history why = record {
        after = u;
        history = history;
        wire_is = refl;
        left = omega (arith, left, counts, none, round.fewer);
        within = omega (arith, why.0);
        some = inr why.0;
        stopped = subst (λ k. IsStopped k t u d2.played e) is why.1;
      }

-- rounds that stop, as a batch that was begun
pub breaks_batch : (b : Batch) (s : Setting) (t u : ProverState) (i n : ℕ) (e : SumcheckError) → s ≡ b.setting → t ≡ b.start →
    u.variables + i ≡ b.start.variables → i ≤ n → (e ≡ NoMemory) ⊎ (i < n) → n ≡ b.rounds → IsStopped s t u i e → BreaksOff b u e
breaks_batch b s t u i n NoMemory es et left within some size why =
    inr (record { within = omega (arith, left, within, size); part = rw (← es, ← et) why })
breaks_batch b s t u i n (NoWitness k) es et left within some size why = elim some [
  | inl other ↦ cc
  | inr less ↦ let place : k ≡ i = why.0 in (omega arith, omega arith, rw (← es, ← et) why.1)
]
breaks_batch b s t u i n e es et left within some size why = absurd why

-- a batch, by other names of it and of what it leaves
pub whole_as : (b : Batch) {b' : Batch} {u u' : ProverState} {rs rs' : List ℕ} → b ≡ b' → u ≡ u' → rs ≡ rs' → PlaysWhole b u rs → PlaysWhole b' u' rs'
whole_as b eb eu er p = rw (← eb, ← eu, ← er) p

pub breaks_as : (b : Batch) {b' : Batch} {h h' : List Event} {w : Wire} {e : SumcheckError} → b ≡ b' → h ≡ h' → BreaksOffAt b h w e → BreaksOffAt b' h' w e
breaks_as b eb eh p = rw (← eb, ← eh) p
