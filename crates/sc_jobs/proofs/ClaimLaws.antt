-- Statements as the claims of a batch.
use Rattle.std.proofs.Common.{◌≡◌, ℕ, zero, suc, ◌+◌, ◌^◌, ◌<◌, ◌≤◌, All, List, [], ◌∷◌, ◌++◌, length, map, get_or, take, drop, slice_index, Bool, true, false, min, nat_lt, ◌||◌, if◌then◌else◌, Option, Some, None, inl, inr, sym, ◌∙◌, ap, refl, subst, arith, append_assoc}
use Rattle.std.proofs.lemmas.Bool.Decides.{eqb_tells, leb_tells}
use Rattle.std.proofs.lemmas.List.{append-nil, length-append, length-map, map-append, take_all}
use Rattle.std.proofs.lemmas.List.Elements.{All-cons, All-head, All-tail, All-nil, All-push, All-same}
use Rattle.sc_definitions.specs.Ring.{Ops, IsRing, plus, times, power}
use Rattle.sc_definitions.specs.Tables.{Order, prefix, inner_product}
use Rattle.sc_definitions.specs.Statements.{Kind, equality, successor, powers, products, Statement, claims, arity_of, weight_of, true_value, true_values, batched_by_powers, weights_at, claimed_values, batched_weight}
use Rattle.sc_definitions.specs.Combined.{Scaled, combined_weight, scaled_from}
use Rattle.sc_definitions.specs.Problem.{Problem, weights_of}
use Rattle.sc_definitions.proofs.Power.{power-suc}
use Rattle.sc_definitions.proofs.RingLaws.{times_comm}
use Rattle.sc_definitions.proofs.SameTables.{inner_product-same}
use Rattle.sc_definitions.proofs.PartLaws.{successor-kind}
use Rattle.sc_table.specs.Strategy.{order_of}
use Rattle.sc_weights.specs.declared.next.NextConstraint.{NextConstraint}
use Rattle.sc_statements.specs.declared.evaluated.EvaluatedConstraint.{EvaluatedConstraint}
use Rattle.sc_constraints.specs.declared.statement.Statements.{Statements}
use Rattle.sc_statements.specs.Lists.{evaluated, evaluated_all}
use Rattle.sc_statements.specs.NextStatements.{next_kind, selector_at, point_at}
use Rattle.sc_statements.specs.SelectStatements.{claims_of}
use Rattle.sc_constraints.specs.Groups.{group_statements, all_statements}
use Rattle.sc_constraints.proofs.GroupSteps.{groups-more, groups-split}
use Rattle.sc_svo.specs.declared.claims.SvoClaim.{SvoClaim}
use Rattle.sc_svo.specs.Claims.{AreOn, kind_by, scaled_in, claims_in, true_values_of}
use Rattle.sc_svo.specs.Grids.{most_rounds}
use Rattle.sc_audit_errors.specs.declared.error.AuditError.{AuditError}
use Rattle.sc_audit_errors.specs.declared.error.AuditError.TheVariants.{StrategyUnfit}
use Rattle.sc_audit_errors.specs.declared.error.FitFault.TheVariants.{Variables}
use Rattle.sc_jobs.specs.declared.claims.Claimed.{Claimed}
use Rattle.sc_jobs.specs.Refusals.{or_later, variables_refusal, unfit, first_unfit, small_refusal}
use Rattle.sc_jobs.specs.Taken.{IsTaken, AreTaken, kind_taken, claims_from, listed_in, Appends}
use Rattle.sc_jobs.proofs.CauseLaws.{no_error}

-- ---- their weights

taken_weight : (o : Ops) → IsRing o → (n : ℕ) (kind : Kind) → IsTaken kind → arity_of n (kind_taken kind) ≡ n → (b : ℕ) → b < 2 ^ n → weight_of o (kind_taken kind) b ≡ weight_of o kind b
taken_weight o ring n (equality zs) taken on b low = refl
taken_weight o ring n (successor order [] zs) taken on b low =
    let same : length zs ≡ n = omega (arith, on) in
    let below = subst (λ k. b < 2 ^ k) (sym same) low in
    successor-kind o ring prefix zs b below ∙ sym (successor-kind o ring order zs b below)
taken_weight o ring n (successor order (x ∷ selector) zs) taken on b low = absurd taken
taken_weight o ring n (powers z) taken on b low = absurd taken
taken_weight o ring n (products zs) taken on b low = absurd taken

-- a claim on tables of n variables
abbrev pub OnScaled : ℕ → Scaled → Type 0
OnScaled n c = arity_of n c.kind ≡ n

kind_on : (successor : Bool) (n : ℕ) (zs : List ℕ) → length zs ≡ n → arity_of n (kind_by successor zs) ≡ n
kind_on true n zs is = omega (arith, is)
kind_on false n zs is = is

claims_on : {EF : Type 0} (number : EF → ℕ) (n : ℕ) (cs : List (SvoClaim EF)) → AreOn n cs → All (OnScaled n) (claims_in number cs)
claims_on number n [] on = All-nil (OnScaled n)
claims_on number n (c ∷ cs) on =
    All-cons (OnScaled n) (scaled_in number c) (claims_in number cs)
    (kind_on c.successor n (map number c.point) (length-map c.point number ∙ All-head (λ (k : SvoClaim _). length k.point ≡ n) c cs on))
    (claims_on number n cs (All-tail (λ (k : SvoClaim _). length k.point ≡ n) c cs on))

-- the claim that a statement is, where it has the power p
abbrev claim_from : Ops → ℕ → ℕ → Statement → Scaled
claim_from o challenge p s = record { kind = kind_taken s.kind; coefficient = power o challenge p }

module _ (o : Ops) (ring : IsRing o) (challenge n : ℕ) where
  taken_weights : (p : ℕ) (ss : List Statement) → AreTaken ss → All (OnScaled n) (claims_from o challenge p ss) → (b : ℕ) → b < 2 ^ n →
      combined_weight o (claims_from o challenge p ss) b ≡ batched_by_powers o challenge p (weights_at o ss b)
  unfolding combined_weight scaled_from batched_by_powers
  taken_weights p [] taken on b low = refl
  taken_weights p (s ∷ ss) taken on b low =
      let here = taken_weight o ring n s.kind (All-head (λ (t : Statement). IsTaken t.kind) s ss taken) (All-head (OnScaled n) _ (claims_from o challenge (suc p) ss) on) b low in
      ap (λ w. plus o (times o (power o challenge p) w) (combined_weight o (claims_from o challenge (suc p) ss) b)) here
      ∙ ap (plus o (times o (power o challenge p) (weight_of o s.kind b)))
      (taken_weights (suc p) ss (All-tail (λ (t : Statement). IsTaken t.kind) s ss taken) (All-tail (OnScaled n) _ (claims_from o challenge (suc p) ss) on) b low)

  taken_values : (f : ℕ → ℕ) (p : ℕ) (ss : List Statement) → AreTaken ss → All (OnScaled n) (claims_from o challenge p ss) →
      true_values_of o n f (claims_from o challenge p ss) ≡ true_values o n f ss
  unfolding scaled_from true_value
  taken_values f p [] taken on = refl
  taken_values f p (s ∷ ss) taken on =
      let is_taken = All-head (λ (t : Statement). IsTaken t.kind) s ss taken in
      let is_on = All-head (OnScaled n) _ (claims_from o challenge (suc p) ss) on in
      ap (λ v. v ∷ true_values_of o n f (claims_from o challenge (suc p) ss))
      (inner_product-same o n f f (weight_of o (kind_taken s.kind)) (weight_of o s.kind) (λ b low. refl) (taken_weight o ring n s.kind is_taken is_on))
      ∙ ap (λ vs. inner_product o n f (weight_of o s.kind) ∷ vs)
      (taken_values f (suc p) ss (All-tail (λ (t : Statement). IsTaken t.kind) s ss taken) (All-tail (OnScaled n) _ (claims_from o challenge (suc p) ss) on))

module _ {EF : Type 0} (o : Ops) (ring : IsRing o) (p : Problem) (number : EF → ℕ) (cs : List (SvoClaim EF)) (is : claims_in number cs ≡ claims_from o p.batching p.initial p.statements) (on : AreOn p.variables cs)
    (taken : AreTaken p.statements) where
  all_on : All (OnScaled p.variables) (claims_from o p.batching p.initial p.statements)
  all_on = subst (All (OnScaled p.variables)) is (claims_on number p.variables cs on)

  -- at each row of the problem's table the claims' weights are the batched ones
  pub batch_weights : (b : ℕ) → b < 2 ^ p.variables → combined_weight o (claims_in number cs) b ≡ weights_of o p b
  unfolding weights_of batched_weight
  batch_weights b low = ap (λ l. combined_weight o l b) is ∙ taken_weights o ring p.batching p.variables p.initial p.statements taken all_on b low

  -- the values that are true of the claims, by other names of the table, are those that are true of the statements
  pub batch_values : (xs : List ℕ) (n : ℕ) (f : ℕ → ℕ) (claims : List Scaled) → xs ≡ true_values_of o n f claims → n ≡ p.variables → f ≡ p.table → claims ≡ claims_in number cs →
      xs ≡ true_values o p.variables p.table p.statements
  batch_values xs n f claims values same_n same_f same =
      values ∙ ap (λ k. true_values_of o k f claims) same_n ∙ ap (λ t. true_values_of o p.variables t claims) same_f ∙ ap (true_values_of o p.variables p.table) (same ∙ is)
      ∙ taken_values o ring p.batching p.variables p.table p.initial p.statements taken all_on

claims_from-append : (o : Ops) (challenge p : ℕ) (ss ts : List Statement) →
    claims_from o challenge p (ss ++ ts) ≡ claims_from o challenge p ss ++ claims_from o challenge (p + length ss) ts
unfolding scaled_from
claims_from-append o challenge p [] ts = let same : p ≡ p + 0 = omega arith in ap (λ k. claims_from o challenge k ts) same
claims_from-append o challenge p (s ∷ ss) ts =
    let more : suc p + length ss ≡ p + suc (length ss) = omega arith in
    ap (λ l. claim_from o challenge p s ∷ l)
    (claims_from-append o challenge (suc p) ss ts ∙ ap (λ k. claims_from o challenge (suc p) ss ++ claims_from o challenge k ts) more)

-- ---- one group

-- a statement on tables of n variables
abbrev pub On : ℕ → Statement → Type 0
On n s = arity_of n s.kind ≡ n

-- the claims of the first k statements of a group were appended, and these are left
pub record IsPushed {EF : Type 0} (number : EF → ℕ) (o : Ops) (challenge n : ℕ) (old now : Claimed EF) (all left : List Statement) (k first factor : ℕ) : Type 0 where
  pub count : k + length left ≡ length all
  pub claims : (p : ℕ) → first ≡ power o challenge p → claims_in number now.claims.items ++ claims_from o challenge (p + k) left ≡ claims_in number old.claims.items ++ claims_from o challenge p all
  pub values : map number now.values.items ++ claimed_values left ≡ map number old.values.items ++ claimed_values all
  pub next : (p : ℕ) → first ≡ power o challenge p → factor ≡ power o challenge (p + k)
  pub points : All (On n) left
  pub taken : AreTaken left
  pub on : AreOn n old.claims.items → AreOn n now.claims.items

-- a claim is that of a statement on tables of n variables
pub record IsClaimOf {EF : Type 0} (number : EF → ℕ) (n : ℕ) (s : Statement) (claim : SvoClaim EF) : Type 0 where
  pub scaled : scaled_in number claim ≡ record { kind = kind_taken s.kind; coefficient = number claim.coefficient }
  pub on : length claim.point ≡ n

-- so it is at a point
pub value_claim : {EF : Type 0} (number : EF → ℕ) (n : ℕ) (point : List EF) (value : ℕ) (c : EF) → On n (claims (equality (map number point)) value) →
    IsClaimOf number n (claims (equality (map number point)) value) (record { point = point; successor = false; coefficient = c })
value_claim number n point value c on = record { scaled = refl; on = sym (length-map point number) ∙ on }

-- and so it is through the successor map
pub successor_claim : {EF : Type 0} (number : EF → ℕ) (n : ℕ) (order : Order) (selector point : List EF) (value : ℕ) (c : EF) →
    On n (claims (successor order (map number selector) (map number point)) value) → IsTaken (successor order (map number selector) (map number point)) →
    IsClaimOf number n (claims (successor order (map number selector) (map number point)) value) (record { point = point; successor = true; coefficient = c })
successor_claim number n order [] point value c on taken = record { scaled = refl; on = omega (arith, length-map point number, on) }
successor_claim number n order (x ∷ selector) point value c on taken = absurd taken

module _ {EF : Type 0} (number : EF → ℕ) (o : Ops) (ring : IsRing o) (challenge n : ℕ) (old : Claimed EF) (all : List Statement) (first : ℕ) where
  pub pushed_none : (left : List Statement) → left ≡ all → All (On n) all → AreTaken all → IsPushed number o challenge n old old all left 0 first first
  pushed_none left same points taken = record {
    count = omega (arith, ap length same);
    claims = λ p is. let none : p + 0 ≡ p = omega arith in ap (λ k. claims_in number old.claims.items ++ claims_from o challenge k left) none
        ∙ ap (λ l. claims_in number old.claims.items ++ claims_from o challenge p l) same;
    values = ap (λ l. map number old.values.items ++ claimed_values l) same;
    next = λ p is. let none : p ≡ p + 0 = omega arith in is ∙ ap (power o challenge) none;
    points = All-same (On n) left all same points;
    taken = All-same (λ (s : Statement). IsTaken s.kind) left all same taken;
    on = λ on. on;
  }

  module _ (now : Claimed EF) (left left' : List Statement) (k factor : ℕ) (s : Statement) (so_far : IsPushed number o challenge n old now all left k first factor) (split : left ≡ s ∷ left') where
    -- the next statement fits
    pub next_on : On n s
    next_on = All-head (On n) s left' (All-same (On n) (s ∷ left') left (sym split) so_far.points)

    pub next_taken : IsTaken s.kind
    next_taken = All-head (λ (t : Statement). IsTaken t.kind) s left' (All-same (λ (t : Statement). IsTaken t.kind) (s ∷ left') left (sym split) so_far.taken)

    -- its claim is appended
    pub pushed_more : (now' : Claimed EF) (k' factor' : ℕ) (claim : SvoClaim EF) (value : EF) → IsClaimOf number n s claim → number value ≡ s.claimed →
        now'.claims.items ≡ now.claims.items ++ claim ∷ [] → now'.values.items ≡ now.values.items ++ value ∷ [] → factor ≡ number claim.coefficient → factor' ≡ times o factor challenge →
        k' ≡ k + 1 → IsPushed number o challenge n old now' all left' k' first factor'
    unfolding scaled_from
    pushed_more now' k' factor' claim value of claimed pushed valued same is more =
        let size : length left ≡ suc (length left') = ap length split in
        let cs = now.claims.items in
        let vs = now.values.items in
        record {
          count = omega (arith, so_far.count, size, more);
          claims = λ p first_is.
              let place : suc (p + k) ≡ p + k' = omega (arith, more) in
              let here : scaled_in number claim ≡ claim_from o challenge (p + k) s =
              of.scaled ∙ ap (λ x. record { kind = kind_taken s.kind; coefficient = x }) (sym same ∙ so_far.next p first_is) in
              ap (λ l. claims_in number l ++ claims_from o challenge (p + k') left') pushed
              ∙ ap (λ l. l ++ claims_from o challenge (p + k') left') (map-append (scaled_in number) cs (claim ∷ []))
              ∙ append_assoc (claims_in number cs) (scaled_in number claim ∷ []) (claims_from o challenge (p + k') left')
              ∙ ap (λ c. claims_in number cs ++ c ∷ claims_from o challenge (p + k') left') here
              ∙ ap (λ j. claims_in number cs ++ claim_from o challenge (p + k) s ∷ claims_from o challenge j left') (sym place)
              ∙ ap (λ l. claims_in number cs ++ claims_from o challenge (p + k) l) (sym split)
              ∙ so_far.claims p first_is;
          values =
              ap (λ l. map number l ++ claimed_values left') valued
              ∙ ap (λ l. l ++ claimed_values left') (map-append number vs (value ∷ []))
              ∙ append_assoc (map number vs) (number value ∷ []) (claimed_values left')
              ∙ ap (λ v. map number vs ++ v ∷ claimed_values left') claimed
              ∙ ap (λ l. map number vs ++ claimed_values l) (sym split)
              ∙ so_far.values;
          next = λ p first_is.
              let place : suc (p + k) ≡ p + k' = omega (arith, more) in
              is ∙ ap (λ x. times o x challenge) (so_far.next p first_is) ∙ times_comm o ring (power o challenge (p + k)) challenge
              ∙ sym (power-suc o challenge (p + k)) ∙ ap (power o challenge) place;
          points = All-tail (On n) s left' (All-same (On n) (s ∷ left') left (sym split) so_far.points);
          taken = All-tail (λ (t : Statement). IsTaken t.kind) s left' (All-same (λ (t : Statement). IsTaken t.kind) (s ∷ left') left (sym split) so_far.taken);
          on = λ on. All-same (λ (c : SvoClaim EF). length c.point ≡ n) now'.claims.items (cs ++ claim ∷ []) pushed
              (All-push (λ (c : SvoClaim EF). length c.point ≡ n) cs claim (so_far.on on) of.on);
        }

  module _ (now : Claimed EF) (left : List Statement) (k factor : ℕ) (so_far : IsPushed number o challenge n old now all left k first factor) (none : left ≡ []) where
    -- no statement is left
    pub pushed_all : (p : ℕ) → first ≡ power o challenge p → Appends o challenge p all (listed_in number old) (listed_in number now)
    unfolding scaled_from
    pushed_all p is = record {
      claims = sym (append-nil (claims_in number now.claims.items)) ∙ ap (λ l. claims_in number now.claims.items ++ claims_from o challenge (p + k) l) (sym none) ∙ so_far.claims p is;
      values = sym (append-nil (map number now.values.items)) ∙ ap (λ l. map number now.values.items ++ claimed_values l) (sym none) ∙ so_far.values;
    }

    pub pushed_next : (p : ℕ) → first ≡ power o challenge p → factor ≡ power o challenge (p + length all)
    pushed_next p is = let whole : k ≡ length all = omega (arith, so_far.count, ap length none) in so_far.next p is ∙ ap (λ j. power o challenge (p + j)) whole

-- values at points are taken
pub points_taken : {EF : Type 0} (number : EF → ℕ) (cs : List (EvaluatedConstraint (List EF) EF)) → AreTaken (evaluated_all (λ point. equality (map number point)) number cs)
points_taken number [] = All-nil (λ (s : Statement). IsTaken s.kind)
points_taken number (c ∷ cs) = All-cons (λ (s : Statement). IsTaken s.kind) _ (evaluated_all (λ point. equality (map number point)) number cs) tt (points_taken number cs)

-- ---- successors, one by one

-- each is on tables of as many variables as all are
pub successors_on : {EF : Type 0} (number : EF → ℕ) (n : ℕ) (cs : List (EvaluatedConstraint (NextConstraint EF) EF)) →
    All (λ (c : EvaluatedConstraint (NextConstraint EF) EF). length c.weights.selector + length c.weights.point ≡ n) cs → All (On n) (evaluated_all (next_kind number) number cs)
successors_on number n [] fits = All-nil (On n)
successors_on number n (c ∷ cs) fits =
    let P = λ (k : EvaluatedConstraint (NextConstraint _) _). length k.weights.selector + length k.weights.point ≡ n in
    All-cons (On n) (evaluated (next_kind number) number c) (evaluated_all (next_kind number) number cs)
    (omega (arith, All-head P c cs fits, length-map c.weights.selector number, length-map c.weights.point number)) (successors_on number n cs (All-tail P c cs fits))

-- the successor at a place, by its parts
pub record IsThere {EF : Type 0} (number : EF → ℕ) (cs : List (EvaluatedConstraint (NextConstraint EF) EF)) (i : ℕ) : Type 0 where
  pub order : Order
  pub split : drop i (evaluated_all (next_kind number) number cs)
      ≡ claims (successor order (map number (selector_at cs i)) (map number (point_at cs i))) (slice_index (claimed_values (evaluated_all (next_kind number) number cs)) i)
      ∷ drop (suc i) (evaluated_all (next_kind number) number cs)

successor_there : {EF : Type 0} (number : EF → ℕ) (cs : List (EvaluatedConstraint (NextConstraint EF) EF)) (i : ℕ) → i < length (evaluated_all (next_kind number) number cs) → IsThere number cs i
successor_there number [] i low = absurd (omega (arith, low))
successor_there number (c ∷ cs) zero low = record { order = order_of c.weights.var_order; split = refl }
successor_there number (c ∷ cs) (suc i) low = let rest = successor_there number cs i (omega (arith, low)) in record { order = rest.order; split = rest.split }

module _ {EF : Type 0} (number : EF → ℕ) (o : Ops) (ring : IsRing o) (challenge n : ℕ) (old now : Claimed EF) (cs : List (EvaluatedConstraint (NextConstraint EF) EF)) (first factor i : ℕ)
    (so_far : IsPushed number o challenge n old now (evaluated_all (next_kind number) number cs) (drop i (evaluated_all (next_kind number) number cs)) i first factor)
    (low : i < length (evaluated_all (next_kind number) number cs)) where
  -- the claim of the successor at a place is appended
  pub pushed_successor : (now' : Claimed EF) (factor' : ℕ) (point : List EF) (value c : EF) → point ≡ point_at cs i →
      number value ≡ slice_index (claimed_values (evaluated_all (next_kind number) number cs)) i →
      now'.claims.items ≡ now.claims.items ++ record { point = point; successor = true; coefficient = c } ∷ [] → now'.values.items ≡ now.values.items ++ value ∷ [] → factor ≡ number c →
      factor' ≡ times o factor challenge →
      IsPushed number o challenge n old now' (evaluated_all (next_kind number) number cs) (drop (i + 1) (evaluated_all (next_kind number) number cs)) (i + 1) first factor'
  pushed_successor now' factor' point value c at value_is pushed valued same is =
      let ss = evaluated_all (next_kind number) number cs in
      let there = successor_there number cs i low in
      let more : suc i ≡ i + 1 = omega arith in
      let claimed = slice_index (claimed_values ss) i in
      let s = claims (successor there.order (map number (selector_at cs i)) (map number (point_at cs i))) claimed in
      let split : drop i ss ≡ s ∷ drop (i + 1) ss = there.split ∙ ap (λ k. s ∷ drop k ss) more in
      let on = next_on number o ring challenge n old ss first now (drop i ss) (drop (i + 1) ss) i factor s so_far split in
      let taken = next_taken number o ring challenge n old ss first now (drop i ss) (drop (i + 1) ss) i factor s so_far split in
      pushed_more number o ring challenge n old ss first now (drop i ss) (drop (i + 1) ss) i factor s so_far split now' (i + 1) factor'
      (record { point = point; successor = true; coefficient = c }) value
      (subst (λ xs. IsClaimOf number n s (record { point = xs; successor = true; coefficient = c })) (sym at)
      (successor_claim number n there.order (selector_at cs i) (point_at cs i) claimed c on taken))
      value_is pushed valued same is refl

-- ---- all groups

all_front : {X : Type 0} (P : X → Type 0) (xs ys : List X) → All P (xs ++ ys) → All P xs
all_front P [] ys p = All-nil P
all_front P (x ∷ xs) ys p = All-cons P x xs (All-head P x (xs ++ ys) p) (all_front P xs ys (All-tail P x (xs ++ ys) p))

all_back : {X : Type 0} (P : X → Type 0) (xs ys : List X) → All P (xs ++ ys) → All P ys
all_back P [] ys p = p
all_back P (x ∷ xs) ys p = all_back P xs ys (All-tail P x (xs ++ ys) p)

-- where each statement is taken, there is no select
pub no_selects : {X Y : Type 0} (of : X → ℕ) (at : Y → List ℕ) (xs : List X) (ys : List Y) (values : List ℕ) →
    AreTaken (claims_of (map (λ x. powers (of x)) xs ++ map (λ y. products (at y)) ys) values) → claims_of (map (λ x. powers (of x)) xs ++ map (λ y. products (at y)) ys) values ≡ []
no_selects of at [] [] values all = refl
no_selects of at [] (y ∷ ys) [] all = refl
no_selects of at [] (y ∷ ys) (v ∷ values) all =
    absurd (All-head (λ (s : Statement). IsTaken s.kind) (claims (products (at y)) v) (claims_of (map (λ z. products (at z)) ys) values) all)
no_selects of at (x ∷ xs) ys [] all = refl
no_selects of at (x ∷ xs) ys (v ∷ values) all =
    absurd (All-head (λ (s : Statement). IsTaken s.kind) (claims (powers (of x)) v) (claims_of (map (λ z. powers (of z)) xs ++ map (λ y. products (at y)) ys) values) all)

-- nothing is appended for no statement
pub appends_none : (o : Ops) {EF : Type 0} (number : EF → ℕ) (challenge p : ℕ) (ss : List Statement) (old : Claimed EF) → ss ≡ [] →
    Appends o challenge p ss (listed_in number old) (listed_in number old)
unfolding scaled_from
appends_none o number challenge p ss old none = record {
  claims = sym (append-nil (claims_in number old.claims.items)) ∙ ap (λ l. claims_in number old.claims.items ++ claims_from o challenge p l) (sym none);
  values = sym (append-nil (map number old.values.items)) ∙ ap (λ l. map number old.values.items ++ claimed_values l) (sym none);
}

-- the claims of the first i groups were appended
pub record IsGathered {F EF : Type 0} (of : F → ℕ) (number : EF → ℕ) (o : Ops) (challenge p n : ℕ) (groups : List (Statements F EF)) (i : ℕ) (now : Claimed EF) (factor : ℕ) : Type 0 where
  pub claims : claims_in number now.claims.items ≡ claims_from o challenge p (all_statements of number (take i groups))
  pub values : map number now.values.items ≡ claimed_values (all_statements of number (take i groups))
  pub next : factor ≡ power o challenge (p + length (all_statements of number (take i groups)))
  pub on : AreOn n now.claims.items
  pub left : AreTaken (all_statements of number (drop i groups))

module _ {F EF : Type 0} (of : F → ℕ) (number : EF → ℕ) (o : Ops) (challenge p n : ℕ) (groups : List (Statements F EF)) (i : ℕ) (now : Claimed EF) (factor : ℕ)
    (so_far : IsGathered of number o challenge p n groups i now factor) where
  module _ (x : Statements F EF) (low : i < length groups) (at : x ≡ get_or groups i x) where
    here : AreTaken (group_statements of number x ++ all_statements of number (drop (i + 1) groups))
    here = subst AreTaken (groups-split (group_statements of number) groups i x low at) so_far.left

    -- the statements of the group at a place are taken
    pub here_taken : AreTaken (group_statements of number x)
    here_taken = all_front (λ (s : Statement). IsTaken s.kind) (group_statements of number x) (all_statements of number (drop (i + 1) groups)) here

    gathered : (now' : Claimed EF) (factor' m : ℕ) → m ≡ n →
        ((q : ℕ) → factor ≡ power o challenge q → Appends o challenge q (group_statements of number x) (listed_in number now) (listed_in number now')) →
        ((q : ℕ) → factor ≡ power o challenge q → factor' ≡ power o challenge (q + length (group_statements of number x))) →
        (AreOn m now.claims.items → AreOn m now'.claims.items) → IsGathered of number o challenge p n groups (i + 1) now' factor'
    gathered now' factor' m arity pushed next on =
        let done = all_statements of number (take i groups) in
        let ss = group_statements of number x in
        let q = p + length done in
        let all = pushed q so_far.next in
        let longer : all_statements of number (take (i + 1) groups) ≡ done ++ ss = groups-more (group_statements of number) groups i x low at in
        let size : q + length ss ≡ p + length (all_statements of number (take (i + 1) groups)) = omega (arith, length-append done ss, ap length longer) in
        record {
          claims = all.claims ∙ ap (λ l. l ++ claims_from o challenge q ss) so_far.claims ∙ sym (claims_from-append o challenge p done ss) ∙ ap (claims_from o challenge p) (sym longer);
          values = all.values ∙ ap (λ l. l ++ claimed_values ss) so_far.values ∙ sym (map-append (λ (s : Statement). s.claimed) done ss) ∙ ap claimed_values (sym longer);
          next = next q so_far.next ∙ ap (power o challenge) size;
          on = subst (λ k. AreOn k now'.claims.items) arity (on (subst (λ k. AreOn k now.claims.items) (sym arity) so_far.on));
          left = all_back (λ (s : Statement). IsTaken s.kind) ss (all_statements of number (drop (i + 1) groups)) here;
        }

    -- its claims were appended, under the challenge by another name
    pub gathered_more : (now' : Claimed EF) (factor' m ch : ℕ) → m ≡ n → ch ≡ challenge →
        ((q : ℕ) → factor ≡ power o ch q → Appends o ch q (group_statements of number x) (listed_in number now) (listed_in number now')) →
        ((q : ℕ) → factor ≡ power o ch q → factor' ≡ power o ch (q + length (group_statements of number x))) →
        (AreOn m now.claims.items → AreOn m now'.claims.items) → IsGathered of number o challenge p n groups (i + 1) now' factor'
    gathered_more now' factor' m ch arity same pushed next on =
        let P : ℕ → Type 0 = λ c. (q : ℕ) → factor ≡ power o c q → Appends o c q (group_statements of number x) (listed_in number now) (listed_in number now') in
        let Q : ℕ → Type 0 = λ c. (q : ℕ) → factor ≡ power o c q → factor' ≡ power o c (q + length (group_statements of number x)) in
        gathered now' factor' m arity (subst P same pushed) (subst Q same next) on

  module _ (all : List (Statements F EF)) (same : groups ≡ all) (past : length groups ≤ i) where
    -- no group is left
    pub gathered_claims : claims_in number now.claims.items ≡ claims_from o challenge p (all_statements of number all)
    gathered_claims = so_far.claims ∙ ap (λ l. claims_from o challenge p (all_statements of number l)) (take_all i groups past ∙ same)

    pub gathered_values : map number now.values.items ≡ claimed_values (all_statements of number all)
    gathered_values = so_far.values ∙ ap (λ l. claimed_values (all_statements of number l)) (take_all i groups past ∙ same)

-- none was appended yet
pub gathered_begun : {F EF : Type 0} (of : F → ℕ) (number : EF → ℕ) (o : Ops) (challenge p n : ℕ) (groups all : List (Statements F EF)) (now : Claimed EF) (factor : ℕ) →
    now.claims.items ≡ [] → now.values.items ≡ [] → factor ≡ power o challenge p → groups ≡ all → AreTaken (all_statements of number all) →
    IsGathered of number o challenge p n groups 0 now factor
unfolding scaled_from
gathered_begun of number o challenge p n groups all now factor no_claim no_value is same taken = record {
  claims = ap (claims_in number) no_claim;
  values = ap (map number) no_value;
  next = let nought : p ≡ p + 0 = omega arith in is ∙ ap (power o challenge) nought;
  on = All-same (λ (c : SvoClaim _). length c.point ≡ n) now.claims.items [] no_claim (All-nil (λ (c : SvoClaim _). length c.point ≡ n));
  left = subst (λ l. AreTaken (all_statements of number l)) (sym same) taken;
}

-- ---- what fits

both_none : (a b : Option AuditError) → or_later a b ≡ None → (a ≡ None) × (b ≡ None)
both_none None b none = (refl, none)
both_none (Some e) b none = cc

is_taken : (i : ℕ) (kind : Kind) → unfit i kind ≡ None → IsTaken kind
is_taken i (equality zs) fits = tt
is_taken i (successor order [] zs) fits = tt
is_taken i (successor order (x ∷ selector) zs) fits = cc
is_taken i (powers z) fits = cc
is_taken i (products zs) fits = cc

all_taken : (i : ℕ) (ss : List Statement) → first_unfit i ss ≡ None → AreTaken ss
unfolding first_unfit
all_taken i [] fits = All-nil (λ (s : Statement). IsTaken s.kind)
all_taken i (s ∷ ss) fits =
    let both = both_none (unfit i s.kind) (first_unfit (suc i) ss) fits in
    All-cons (λ (t : Statement). IsTaken t.kind) s ss (is_taken i s.kind both.0) (all_taken (suc i) ss both.1)

-- small-value rounds for so many of n variables, on statements that fit
pub record FitsSmall (n : ℕ) (ss : List Statement) (variables : ℕ) : Type 0 where
  pub some : 0 < variables
  pub few : variables ≤ most_rounds
  pub within : variables ≤ n
  pub taken : AreTaken ss

number_fits : (bound variables : ℕ) → variables_refusal bound variables ≡ None → (0 < variables) × (variables ≤ bound)
number_fits bound variables none = elim (eqb_tells variables 0) [
  | inl t ↦ absurd (no_error (StrategyUnfit (Variables variables bound)) (sym none ∙ ap (λ b. if b || nat_lt bound variables then Some (StrategyUnfit (Variables variables bound)) else None) t.0))
  | inr t ↦ elim (leb_tells (suc bound) variables) [
    | inl u ↦ absurd (no_error (StrategyUnfit (Variables variables bound))
        (sym none ∙ ap (λ b. if b || nat_lt bound variables then Some (StrategyUnfit (Variables variables bound)) else None) t.0
        ∙ ap (λ b. if b then Some (StrategyUnfit (Variables variables bound)) else None) u.0))
    | inr u ↦ (omega (arith, t.1), omega (arith, u.1))
  ]
]

pub fits_small : (n : ℕ) (ss : List Statement) (variables : ℕ) → small_refusal n ss variables ≡ None → FitsSmall n ss variables
fits_small n ss variables none =
    let bound = min n most_rounds in
    let both = both_none (variables_refusal bound variables) (first_unfit 0 ss) none in
    let number = number_fits bound variables both.0 in
    record { some = number.0; few = omega (arith, number.1); within = omega (arith, number.1); taken = all_taken 0 ss both.1 }
