-- The statements that small-value rounds do not take, group by group.
use Rattle.std.proofs.Common.{◌≡◌, ℕ, zero, suc, ◌+◌, ◌-◌, ◌^◌, ◌<◌, ◌≤◌, min, Option, Some, None, List, [], ◌∷◌, ◌++◌, length, get_or, map, take, drop, sym, ◌∙◌, ap, refl, arith}
use Rattle.std.specs.List.{flat_map}
use Rattle.std.proofs.lemmas.List.{length-append, drop_all}
use Rattle.sc_definitions.specs.Statements.{Kind, equality, successor, powers, products, Statement}
use Rattle.sc_table.specs.Strategy.{order_of}
use Rattle.sc_weights.specs.declared.next.NextConstraint.{NextConstraint}
use Rattle.sc_statements.specs.declared.evaluated.EvaluatedConstraint.{EvaluatedConstraint}
use Rattle.sc_statements.specs.Lists.{evaluated_all}
use Rattle.sc_statements.specs.EqStatements.{point_kind}
use Rattle.sc_statements.specs.NextStatements.{next_kind, selector_at}
use Rattle.sc_statements.specs.SelectStatements.{claims_of}
use Rattle.sc_constraints.proofs.GroupSteps.{groups-more, groups-split}
use Rattle.sc_audit_errors.specs.declared.error.AuditError.{AuditError}
use Rattle.sc_audit_errors.specs.declared.error.AuditError.TheVariants.{StrategyUnfit}
use Rattle.sc_audit_errors.specs.declared.error.FitFault.TheVariants.{Select, Selector}
use Rattle.sc_jobs.specs.Refusals.{or_later, told_number, unfit, first_unfit}

later-assoc : (a b c : Option AuditError) → or_later (or_later a b) c ≡ or_later a (or_later b c)
later-assoc None b c = refl
later-assoc (Some e) b c = refl

-- ---- by the numbers that are told

unfit-same : (i j : ℕ) (kind : Kind) → told_number i ≡ told_number j → unfit i kind ≡ unfit j kind
unfit-same i j (equality zs) same = refl
unfit-same i j (successor order [] zs) same = refl
unfit-same i j (successor order (x ∷ selector) zs) same = ap (λ n. Some (StrategyUnfit (Selector n))) same
unfit-same i j (powers z) same = ap (λ n. Some (StrategyUnfit (Select n))) same
unfit-same i j (products zs) same = ap (λ n. Some (StrategyUnfit (Select n))) same

pub first_unfit-same : (i j : ℕ) (ss : List Statement) → told_number i ≡ told_number j → first_unfit i ss ≡ first_unfit j ss
unfolding first_unfit
first_unfit-same i j [] same = refl
first_unfit-same i j (s ∷ ss) same =
    let next : told_number (suc i) ≡ told_number (suc j) = omega (arith, same) in
    ap (λ r. or_later r (first_unfit (suc i) ss)) (unfit-same i j s.kind same) ∙ ap (or_later (unfit j s.kind)) (first_unfit-same (suc i) (suc j) ss next)

pub first_unfit-append : (i : ℕ) (ss ts : List Statement) → first_unfit i (ss ++ ts) ≡ or_later (first_unfit i ss) (first_unfit (i + length ss) ts)
unfolding first_unfit
first_unfit-append i [] ts = let same : i ≡ i + 0 = omega arith in ap (λ k. first_unfit k ts) same
first_unfit-append i (s ∷ ss) ts =
    let more : suc i + length ss ≡ i + suc (length ss) = omega arith in
    ap (or_later (unfit i s.kind)) (first_unfit-append (suc i) ss ts)
    ∙ sym (later-assoc (unfit i s.kind) (first_unfit (suc i) ss) (first_unfit (suc i + length ss) ts))
    ∙ ap (λ k. or_later (or_later (unfit i s.kind) (first_unfit (suc i) ss)) (first_unfit k ts)) more

-- ---- a group of one kind

-- values at points
pub unfit-points : {EF : Type 0} (number : EF → ℕ) (i : ℕ) (cs : List (EvaluatedConstraint (List EF) EF)) → None ≡ first_unfit i (evaluated_all (point_kind number) number cs)
unfolding first_unfit
unfit-points number i [] = refl
unfit-points number i (c ∷ cs) = unfit-points number (suc i) cs

-- a select is told by the first one's number
pub unfit-selects : (i : ℕ) {X Y : Type 0} (of : X → ℕ) (at : Y → List ℕ) (xs : List X) (ys : List Y) (values : List ℕ) → i < 2 ^ 64 →
    (claims_of (map (λ x. powers (of x)) xs ++ map (λ y. products (at y)) ys) values ≡ [] → ⊥) →
    Some (StrategyUnfit (Select i)) ≡ first_unfit i (claims_of (map (λ x. powers (of x)) xs ++ map (λ y. products (at y)) ys) values)
unfolding first_unfit
unfit-selects i of at [] [] values low some = absurd (some refl)
unfit-selects i of at [] (y ∷ ys) [] low some = absurd (some refl)
unfit-selects i of at [] (y ∷ ys) (v ∷ values) low some = let same : i ≡ told_number i = omega arith in ap (λ n. Some (StrategyUnfit (Select n))) same
unfit-selects i of at (x ∷ xs) ys [] low some = absurd (some refl)
unfit-selects i of at (x ∷ xs) ys (v ∷ values) low some = let same : i ≡ told_number i = omega arith in ap (λ n. Some (StrategyUnfit (Select n))) same

-- ---- successors, one by one

module _ {EF : Type 0} (number : EF → ℕ) where
  selected : (p : ℕ) (c : EvaluatedConstraint (NextConstraint EF) EF) → 0 < length c.weights.selector → unfit p (next_kind number c.weights) ≡ Some (StrategyUnfit (Selector (told_number p)))
  selected p c some = of_some c.weights.selector some where
    of_some : (xs : List EF) → 0 < length xs → unfit p (successor (order_of c.weights.var_order) (map number xs) (map number c.weights.point)) ≡ Some (StrategyUnfit (Selector (told_number p)))
    of_some [] none = absurd (omega (arith, none))
    of_some (x ∷ xs) some = refl

  unselected : (p : ℕ) (c : EvaluatedConstraint (NextConstraint EF) EF) → (0 < length c.weights.selector → ⊥) → unfit p (next_kind number c.weights) ≡ None
  unselected p c none = of_none c.weights.selector none where
    of_none : (xs : List EF) → (0 < length xs → ⊥) → unfit p (successor (order_of c.weights.var_order) (map number xs) (map number c.weights.point)) ≡ None
    of_none [] none = refl
    of_none (x ∷ xs) none = absurd (none (omega arith))

  -- the one at a place has a selector
  pub unfit-selector : (p i : ℕ) (cs : List (EvaluatedConstraint (NextConstraint EF) EF)) → i < length (evaluated_all (next_kind number) number cs) → 0 < length (selector_at cs i) →
      first_unfit p (drop i (evaluated_all (next_kind number) number cs)) ≡ Some (StrategyUnfit (Selector (told_number p)))
  unfolding first_unfit
  unfit-selector p i [] low some = absurd (omega (arith, low))
  unfit-selector p zero (c ∷ cs) low some = ap (λ r. or_later r (first_unfit (suc p) (evaluated_all (next_kind number) number cs))) (selected p c some)
  unfit-selector p (suc i) (c ∷ cs) low some = unfit-selector p i cs (omega (arith, low)) some

  -- it has none
  pub unfit-no_selector : (p i : ℕ) (cs : List (EvaluatedConstraint (NextConstraint EF) EF)) → i < length (evaluated_all (next_kind number) number cs) → (0 < length (selector_at cs i) → ⊥) →
      first_unfit p (drop i (evaluated_all (next_kind number) number cs)) ≡ first_unfit (suc p) (drop (suc i) (evaluated_all (next_kind number) number cs))
  unfolding first_unfit
  unfit-no_selector p i [] low none = absurd (omega (arith, low))
  unfit-no_selector p zero (c ∷ cs) low none = ap (λ r. or_later r (first_unfit (suc p) (evaluated_all (next_kind number) number cs))) (unselected p c none)
  unfit-no_selector p (suc i) (c ∷ cs) low none = unfit-no_selector p i cs (omega (arith, low)) none

-- there is no statement
pub unfit-none : (p : ℕ) (ss : List Statement) → ss ≡ [] → first_unfit p ss ≡ None
unfolding first_unfit
unfit-none p ss none = ap (first_unfit p) none

-- no statement is left
pub unfit-end : (p i : ℕ) (ss : List Statement) → length ss ≤ i → first_unfit p (drop i ss) ≡ None
unfolding first_unfit
unfit-end p i ss past = ap (first_unfit p) (drop_all i ss past)

-- none is some
pub none_from_default : {X : Type 0} (r : Option X) → ((x : X) → r ≡ Some x → ⊥) → r ≡ None
none_from_default None other = refl
none_from_default (Some x) other = absurd (other x refl)

-- ---- the loops over the groups

-- so many statements fit and passed, as they are counted; the first that does not is among those of the groups from i on
pub record IsPassed {G : Type 0} (statements_of : G → List Statement) (groups : List G) (i passed : ℕ) : Type 0 where
  pub counted : passed ≡ told_number (length (flat_map statements_of (take i groups)))
  pub found : first_unfit 0 (flat_map statements_of groups) ≡ first_unfit (length (flat_map statements_of (take i groups))) (flat_map statements_of (drop i groups))

module _ {G : Type 0} (statements_of : G → List Statement) (groups all : List G) (i : ℕ) where
  -- those of the group at a place, and of the groups after it
  split : (passed : ℕ) (x : G) (r : Option AuditError) → IsPassed statements_of groups i passed → i < length groups → x ≡ get_or groups i x → r ≡ first_unfit passed (statements_of x) →
      first_unfit 0 (flat_map statements_of groups)
      ≡ or_later r (first_unfit (length (flat_map statements_of (take i groups)) + length (statements_of x)) (flat_map statements_of (drop (i + 1) groups)))
  split passed x r so_far low at is =
      let p = length (flat_map statements_of (take i groups)) in
      let rest = flat_map statements_of (drop (i + 1) groups) in
      let same : told_number p ≡ told_number passed = omega (arith, so_far.counted) in
      so_far.found ∙ ap (first_unfit p) (groups-split statements_of groups i x low at) ∙ first_unfit-append p (statements_of x) rest
      ∙ ap (λ k. or_later k (first_unfit (p + length (statements_of x)) rest)) (first_unfit-same p passed (statements_of x) same ∙ sym is)

  -- it has the first
  pub passed_found : (passed : ℕ) (x : G) (r : Option AuditError) (e : AuditError) → IsPassed statements_of groups i passed → groups ≡ all → i < length groups → x ≡ get_or groups i x →
      r ≡ first_unfit passed (statements_of x) → r ≡ Some e → Some e ≡ first_unfit 0 (flat_map statements_of all)
  passed_found passed x r e so_far same low at is some =
      let n = length (flat_map statements_of (take i groups)) + length (statements_of x) in
      sym (split passed x r so_far low at is ∙ ap (λ k. or_later k (first_unfit n (flat_map statements_of (drop (i + 1) groups)))) some)
      ∙ ap (λ l. first_unfit 0 (flat_map statements_of l)) same

  -- it has none
  pub passed_more : (passed count passed' : ℕ) (x : G) (r : Option AuditError) → IsPassed statements_of groups i passed → i < length groups → x ≡ get_or groups i x →
      r ≡ first_unfit passed (statements_of x) → r ≡ None → count ≡ length (statements_of x) → passed' ≡ min (passed + count) (2 ^ 64 - 1) → IsPassed statements_of groups (i + 1) passed'
  passed_more passed count passed' x r so_far low at is none count_is passed_is =
      let done = flat_map statements_of (take i groups) in
      let p = length done in
      let rest = flat_map statements_of (drop (i + 1) groups) in
      let size : length (flat_map statements_of (take (i + 1) groups)) ≡ p + length (statements_of x) =
      ap length (groups-more statements_of groups i x low at) ∙ length-append done (statements_of x) in
      record {
        counted = omega (arith, passed_is, count_is, so_far.counted, size);
        found = split passed x r so_far low at is ∙ ap (λ k. or_later k (first_unfit (p + length (statements_of x)) rest)) none ∙ ap (λ k. first_unfit k rest) (sym size);
      }

  -- no group is left
  pub passed_all : (passed : ℕ) → IsPassed statements_of groups i passed → groups ≡ all → length groups ≤ i → None ≡ first_unfit 0 (flat_map statements_of all)
  unfolding first_unfit
  passed_all passed so_far same past =
      sym (so_far.found ∙ ap (λ l. first_unfit (length (flat_map statements_of (take i groups))) (flat_map statements_of l)) (drop_all i groups past))
      ∙ ap (λ l. first_unfit 0 (flat_map statements_of l)) same
