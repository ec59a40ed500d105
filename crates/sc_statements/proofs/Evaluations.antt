-- Lists of weights with claimed values, and the statements that they are.
use Rattle.std.proofs.Common.{◌≡◌, ℕ, zero, suc, ◌<◌, List, [], ◌∷◌, ◌++◌, length, All, get_or, map, slice_index, nat_lt, Bool, true, false, if◌then◌else◌, IsTrue, ◌↔◌, sym, ◌∙◌, ap, subst, arith, lt-ltb}
use Rattle.std.proofs.lemmas.Bool.{ltb-true}
use Rattle.std.proofs.lemmas.List.{length-map}
use Rattle.std.proofs.lemmas.List.Elements.{All-tail, All-cons, All-append}
use Rattle.sc_definitions.specs.Statements.{Kind, Statement, arity_of}
use Rattle.sc_statements.specs.declared.evaluated.EvaluatedConstraint.{EvaluatedConstraint}
use Rattle.sc_statements.specs.Lists.{evaluated, evaluated_all}
use Rattle.sc_weights.specs.declared.next.NextConstraint.{NextConstraint}
use Rattle.sc_statements.specs.EqStatements.{point_kind}
use Rattle.sc_statements.specs.NextStatements.{next_kind, selector_at, point_at}

-- ---- the arity that all have

pub eq-arities : {EF : Type 0} (number : EF → ℕ) (n : ℕ) (cs : List (EvaluatedConstraint (List EF) EF)) → All (λ c. length c.weights ≡ n) cs →
    All (λ s. arity_of n s.kind ≡ n) (evaluated_all (point_kind number) number cs)
eq-arities number n [] fits = λ k d low. absurd (omega (arith, low))
eq-arities number n (c ∷ cs) fits =
    All-cons (λ s. arity_of n s.kind ≡ n) (evaluated (point_kind number) number c) (evaluated_all (point_kind number) number cs)
    (length-map c.weights number ∙ fits 0 c (omega arith)) (eq-arities number n cs (All-tail (λ d. length d.weights ≡ n) c cs fits))

-- what all of a list have, all of it have as it was or with such as have it after it
pub all-kept : {X : Type 0} (P : X → Type 0) (added : Bool) (xs more ys : List X) → All P xs → All P more → ys ≡ (if added then xs ++ more else xs) → All P ys
all-kept P true xs more ys old new is = subst (All P) (sym is) (All-append P xs more old new)
all-kept P false xs more ys old new is = subst (All P) (sym is) old

-- ---- one at a place

module _ {W EF : Type 0} (kind : W → Kind) (number : EF → ℕ) where
  -- what is read of its statement
  pub read-evaluated : (f : Statement → ℕ) (cs : List (EvaluatedConstraint W EF)) (i : ℕ) (c : EvaluatedConstraint W EF) → i < length (evaluated_all kind number cs) → c ≡ get_or cs i c →
      f (evaluated kind number c) ≡ slice_index (map f (evaluated_all kind number cs)) i
  read-evaluated f [] i c low is = absurd (omega (arith, low))
  read-evaluated f (d ∷ cs) zero c low is = ap (λ e. f (evaluated kind number e)) is
  read-evaluated f (d ∷ cs) (suc i) c low is = read-evaluated f cs i c (omega (arith, low)) is

  -- a place among the statements is one in the list
  pub place-inside : (cs : List (EvaluatedConstraint W EF)) (size i : ℕ) → size ≡ length cs → i < length (evaluated_all kind number cs) → i < size
  place-inside cs size i is low = subst (λ n. i < n) (length-map cs (evaluated kind number) ∙ sym is) low

-- ---- a successor statement's selector and point

module _ {EF : Type 0} where
  pub selector-read : (number : EF → ℕ) (cs : List (EvaluatedConstraint (NextConstraint EF) EF)) (i : ℕ) (c : EvaluatedConstraint (NextConstraint EF) EF) → i < length (evaluated_all (next_kind number) number cs) → c ≡ get_or cs i c →
      c.weights.selector ≡ selector_at cs i
  selector-read number [] i c low is = absurd (omega (arith, low))
  selector-read number (d ∷ cs) zero c low is = ap (λ e. e.weights.selector) is
  selector-read number (d ∷ cs) (suc i) c low is = selector-read number cs i c (omega (arith, low)) is

  pub point-read : (number : EF → ℕ) (cs : List (EvaluatedConstraint (NextConstraint EF) EF)) (i : ℕ) (c : EvaluatedConstraint (NextConstraint EF) EF) → i < length (evaluated_all (next_kind number) number cs) → c ≡ get_or cs i c →
      c.weights.point ≡ point_at cs i
  point-read number [] i c low is = absurd (omega (arith, low))
  point-read number (d ∷ cs) zero c low is = ap (λ e. e.weights.point) is
  point-read number (d ∷ cs) (suc i) c low is = point-read number cs i c (omega (arith, low)) is

pub some-selector : {EF : Type 0} (n : ℕ) (zs ys : List EF) → n ≡ length zs → zs ≡ ys → IsTrue (nat_lt 0 n) ↔ (0 < length ys)
some-selector n zs ys size same =
    ((λ t. let some : 0 < n = ltb-true 0 n t in omega (arith, some, size, ap length same)), (λ some. lt-ltb 0 n (omega (arith, some, size, ap length same))))
