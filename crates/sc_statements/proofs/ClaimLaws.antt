-- Statements that claim other values, one after the other.
use Rattle.std.proofs.Common.{◌≡◌, ℕ, zero, suc, ◌+◌, ◌<◌, List, [], ◌∷◌, ◌++◌, length, get_or, map, set, take, slice_index, sym, ◌∙◌, ap, refl, arith}
use Rattle.sc_definitions.specs.Ring.{Ops}
use Rattle.sc_definitions.specs.Statements.{Kind, Statement, claims, true_value, true_values}
use Rattle.sc_statements.specs.declared.evaluated.EvaluatedConstraint.{EvaluatedConstraint}
use Rattle.sc_statements.specs.Lists.{evaluated, evaluated_all}
use Rattle.sc_statements.specs.SelectStatements.{claims_of}
use Rattle.sc_statements.specs.Claimed.{with_value, with_values, stated_truly, all_stated_truly}

-- ---- one statement

-- what stands at a place of a list of weights with claimed values gets another value
pub evaluated-set : {W EF : Type 0} (kind : W → Kind) (number : EF → ℕ) (cs : List (EvaluatedConstraint W EF)) (i : ℕ) (c d : EvaluatedConstraint W EF) →
    i < length cs → d ≡ get_or cs i d → c.weights ≡ d.weights → evaluated_all kind number (set cs i c) ≡ with_value (evaluated_all kind number cs) i (number c.eval)
evaluated-set kind number [] i c d low is same = refl
evaluated-set kind number (b ∷ cs) zero c d low is same = ap (λ w. claims (kind w) (number c.eval) ∷ evaluated_all kind number cs) (same ∙ ap (λ x. x.weights) is)
evaluated-set kind number (b ∷ cs) (suc i) c d low is same = ap (λ l. evaluated kind number b ∷ l) (evaluated-set kind number cs i c d (omega (arith, low)) is same)

-- so does a kind
pub claims_of-set : {EF : Type 0} (number : EF → ℕ) (kinds : List Kind) (values : List EF) (i : ℕ) (x : EF) →
    claims_of kinds (map number (set values i x)) ≡ with_value (claims_of kinds (map number values)) i (number x)
claims_of-set number [] values i x = refl
claims_of-set number (k ∷ kinds) [] i x = refl
claims_of-set number (k ∷ kinds) (v ∷ values) zero x = refl
claims_of-set number (k ∷ kinds) (v ∷ values) (suc i) x = ap (λ l. claims k (number v) ∷ l) (claims_of-set number kinds values i x)

-- ---- several

pub with_values-length : (ss : List Statement) (vs : List ℕ) → length (with_values ss vs) ≡ length ss
with_values-length ss [] = refl
with_values-length [] (v ∷ vs) = refl
with_values-length (s ∷ ss) (v ∷ vs) = ap suc (with_values-length ss vs)

-- the value after those that were taken
values-next : (ss : List Statement) (vs : List ℕ) (i v : ℕ) → i < length vs → v ≡ slice_index vs i → with_values ss (take (suc i) vs) ≡ with_value (with_values ss (take i vs)) i v
values-next ss [] i v low is = absurd (omega (arith, low))
values-next [] (w ∷ vs) zero v low is = refl
values-next [] (w ∷ vs) (suc i) v low is = refl
values-next (s ∷ ss) (w ∷ vs) zero v low is = ap (λ k. claims s.kind k ∷ ss) (sym is)
values-next (s ∷ ss) (w ∷ vs) (suc i) v low is = ap (λ l. claims s.kind w ∷ l) (values-next ss vs i v (omega (arith, low)) is)

pub with_values-more : (ss : List Statement) (vs : List ℕ) (i v : ℕ) → i < length vs → v ≡ slice_index vs i → with_values ss (take (i + 1) vs) ≡ with_value (with_values ss (take i vs)) i v
with_values-more ss vs i v low is = let e : i + 1 ≡ suc i = omega arith in ap (λ k. with_values ss (take k vs)) e ∙ values-next ss vs i v low is

-- true values do not hang on what is claimed
pub true_values-with : (o : Ops) (n : ℕ) (f : ℕ → ℕ) (ss : List Statement) (vs : List ℕ) → true_values o n f (with_values ss vs) ≡ true_values o n f ss
true_values-with o n f ss [] = refl
true_values-with o n f [] (v ∷ vs) = refl
true_values-with o n f (s ∷ ss) (v ∷ vs) = ap (λ l. true_value o n f s.kind ∷ l) (true_values-with o n f ss vs)

pub with_true_values : (o : Ops) (n : ℕ) (f : ℕ → ℕ) (ss : List Statement) → with_values ss (true_values o n f ss) ≡ all_stated_truly o n f ss
with_true_values o n f [] = refl
with_true_values o n f (s ∷ ss) = ap (λ l. stated_truly o n f s ∷ l) (with_true_values o n f ss)

-- values at the places of two lists
pub with_values-append : (ss ts : List Statement) (vs ws : List ℕ) → length vs ≡ length ss → with_values (ss ++ ts) (vs ++ ws) ≡ with_values ss vs ++ with_values ts ws
with_values-append [] ts [] ws same = refl
with_values-append [] ts (v ∷ vs) ws same = absurd (omega (arith, same))
with_values-append (s ∷ ss) ts [] ws same = absurd (omega (arith, same))
with_values-append (s ∷ ss) ts (v ∷ vs) ws same = ap (λ l. claims s.kind v ∷ l) (with_values-append ss ts vs ws (omega (arith, same)))
