use Rattle.std.proofs.Common.{◌≡◌, ℕ, zero, suc, ◌<◌, List, [], ◌∷◌, ◌++◌, length, get_or, All, sym, ◌∙◌, ap, subst, arith}
use Rattle.std.proofs.lemmas.Bool.{false≢true}
use Rattle.std.proofs.lemmas.List.{length-map, map_push}
use Rattle.std.proofs.lemmas.Iterator.Consumers.{YieldsList-from_first, YieldsList-turn}
use Rattle.sc_definitions.specs.Ring.{Ops}
use Rattle.sc_definitions.specs.Tables.{value}
use Rattle.sc_definitions.specs.Statements.{Statement, equality, arity_of, true_value, IsTrueOf, AllTrueOf}
use Rattle.sc_definitions.proofs.StatementLaws.{true_value-equality}
use Rattle.sc_table.specs.Polys.{table_of}
use Rattle.sc_statements.specs.EqIterators.{pair_statement, pairs_left}
use Rattle.sc_statements.specs.EqStatements.{eq_statements}
use Rattle.sc_statements.proofs.FalseSteps.{other_from_ne, same_from_ne}
use Rattle.sc_tables_statements_tests.proofs.tests.statements.all_true.Goals as goal

-- the true value of an equality statement, by the table's value at its point
true_value-at : (o : Ops) (n : ℕ) (f : ℕ → ℕ) (zs : List ℕ) (actual : ℕ) → length zs ≡ n → actual ≡ value o f zs → true_value o n f (equality zs) ≡ actual
true_value-at o n f zs actual arity is = ap (λ k. true_value o k f (equality zs)) (sym arity) ∙ true_value-equality o f zs ∙ sym is

module _ (o : Ops) (n : ℕ) (f : ℕ → ℕ) where
  all-push : (ss : List Statement) (s : Statement) → AllTrueOf o n f ss → IsTrueOf o n f s → AllTrueOf o n f (ss ++ s ∷ [])
  all-push [] s all is = (is, tt)
  all-push (t ∷ ss) s all is = (all.0, all-push ss s all.1 is)

  true-at : (ss : List Statement) (i : ℕ) (s : Statement) → i < length ss → s ≡ get_or ss i s → AllTrueOf o n f ss → IsTrueOf o n f s
  true-at [] i s low is all = absurd (omega (arith, low))
  true-at (t ∷ ss) zero s low is all = subst (IsTrueOf o n f) (sym is) all.0
  true-at (t ∷ ss) (suc i) s low is all = true-at ss i s (omega (arith, low)) is all.1

  -- where the value at the point is the claimed one
  true-from_value : (zs : List ℕ) (v actual : ℕ) → length zs ≡ n → actual ≡ value o f zs → actual ≡ v → IsTrueOf o n f (record { kind = equality zs; claimed = v })
  unfolding IsTrueOf
  true-from_value zs v actual arity is same = true_value-at o n f zs actual arity is ∙ same

  value-from_true : (zs : List ℕ) (v actual : ℕ) → length zs ≡ n → actual ≡ value o f zs → IsTrueOf o n f (record { kind = equality zs; claimed = v }) → actual ≡ v
  unfolding IsTrueOf
  value-from_true zs v actual arity is holds = sym (true_value-at o n f zs actual arity is) ∙ holds

arity-from : (n : ℕ) (ss : List Statement) (i : ℕ) (s : Statement) → All (λ t. arity_of n t.kind ≡ n) ss → i < length ss → s ≡ get_or ss i s → arity_of n s.kind ≡ n
arity-from n ss i s fits low is = ap (λ t. arity_of n t.kind) is ∙ fits i s low

pub eval-actual-requires : goal.eval-actual-requires
eval-actual-requires g c =
    let number = g.EF.Field.number in
    let turn = YieldsList-turn (YieldsList-from_first (pair_statement number) (pairs_left number) (eq_statements number c.args.statement.now) (cc (c.into_iter-point-iterator.ensures.into_iter_gives, c.iter-point-items.ensures.pairs)))
    c.loop-point.yielded c.loop-point.point-iterator c.loop-point.yielded_by _ c.next.new.self (c.in-Some.point, c.in-Some.eval) c.in-Some.is c.next.ensures.steps in
    sym (length-map c.in-Some.point.now number) ∙ arity-from _ _ _ _ c.iter-point-items.ensures.arity turn.0 turn.1 ∙ sym c.requires

pub returns-then-ne : goal.returns-then-ne
returns-then-ne g c =
    let f = g.EF.Field in
    let number = f.number in
    let turn = YieldsList-turn (YieldsList-from_first (pair_statement number) (pairs_left number) (eq_statements number c.args.statement.now) (cc (c.into_iter-point-iterator.ensures.into_iter_gives, c.iter-point-items.ensures.pairs)))
    c.loop-point.yielded c.loop-point.point-iterator c.loop-point.yielded_by _ c.next.new.self (c.in-Some.point, c.in-Some.eval) c.in-Some.is c.next.ensures.steps in
    let arity = arity-from _ _ _ _ c.iter-point-items.ensures.arity turn.0 turn.1 in
    let differs = other_from_ne _ _ (g.met.EF.Field.equality c.eval-actual.result c.in-Some.eval.now) c.if-ne.ensures in (
      (λ t. absurd (false≢true t)),
      (λ all. absurd (differs (value-from_true f.ops _ (table_of number c.args.table.now) _ _ _ arity c.eval-actual.ensures (true-at f.ops _ _ _ _ _ turn.0 turn.1 all)))),
    )

pub loop-point-preserved : goal.loop-point-preserved
loop-point-preserved g c =
    let f = g.EF.Field in
    let number = f.number in
    let turn = YieldsList-turn (YieldsList-from_first (pair_statement number) (pairs_left number) (eq_statements number c.args.statement.now) (cc (c.into_iter-point-iterator.ensures.into_iter_gives, c.iter-point-items.ensures.pairs)))
    c.loop-point.yielded c.loop-point.point-iterator c.loop-point.yielded_by _ c.next.new.self (c.in-Some.point, c.in-Some.eval) c.in-Some.is c.next.ensures.steps in
    let arity = arity-from _ _ _ _ c.iter-point-items.ensures.arity turn.0 turn.1 in
    let same = same_from_ne _ _ (g.met.EF.Field.equality c.eval-actual.result c.in-Some.eval.now) c.if-ne.ensures in
    let table = table_of number c.args.table.now in
    record {
      can = tt;
      finite = tt;
      true_so_far = subst (AllTrueOf f.ops c.args.statement.now.num_variables table) (sym (map_push (pair_statement number) c.loop-point.yielded (c.in-Some.point, c.in-Some.eval)))
          (all-push f.ops _ table _ _ c.loop-point.invariant.true_so_far (true-from_value f.ops _ table _ _ _ arity c.eval-actual.ensures same));
    }
