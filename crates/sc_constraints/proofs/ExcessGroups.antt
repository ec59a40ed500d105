-- The polynomial of a batch, one group after the other.
use Rattle.std.proofs.Common.{◌≡◌, ℕ, zero, suc, ◌+◌, ◌-◌, ◌<◌, All, List, [], ◌∷◌, ◌++◌, length, map, take, get_or, replicate, sym, ◌∙◌, ap, refl, arith}
use Rattle.std.specs.List.{flat_map}
use Rattle.std.proofs.lemmas.List.{map-append, take_all}
use Rattle.sc_definitions.specs.Ring.{Ops}
use Rattle.sc_definitions.proofs.Lists.{read_has}
use Rattle.sc_definitions.specs.Statements.{Statement}
use Rattle.sc_definitions.specs.Lucky.{excess, after_zeros}
use Rattle.sc_constraints.proofs.GroupSteps.{groups-more}

zeros-mapped : {X : Type 0} (number : X → ℕ) (z : X) (p : ℕ) → number z ≡ 0 → map number (replicate p z) ≡ after_zeros p []
zeros-mapped number z zero is = refl
zeros-mapped number z (suc p) is = ap (λ v. v ∷ map number (replicate p z)) is ∙ ap (λ l. 0 ∷ l) (zeros-mapped number z p is)

behind-append : (p : ℕ) (xs ys : List ℕ) → after_zeros p xs ++ ys ≡ after_zeros p (xs ++ ys)
behind-append zero xs ys = refl
behind-append (suc p) xs ys = ap (λ l. 0 ∷ l) (behind-append p xs ys)

take-nothing : {X : Type 0} (p : ℕ) (none : List X) → none ≡ [] → take p none ≡ []
take-nothing p [] is = take_all p [] (omega arith)
take-nothing p (x ∷ xs) is = absurd (omega (arith, ap length is))

-- no group yet: the zeros alone
pub batch-none : {X : Type 0} (number : X → ℕ) (z : X) (p len : ℕ) (none new : List X) → number z ≡ 0 → none ≡ [] → len ≡ 0 →
    new ≡ take p none ++ replicate (p - len) z → map number new ≡ after_zeros p []
batch-none number z p len none new is empty short filled =
    let whole : p - len ≡ p = omega (arith, short) in
    ap (map number) (filled ∙ ap (λ l. l ++ replicate (p - len) z) (take-nothing p none empty) ∙ ap (λ k. replicate k z) whole) ∙ zeros-mapped number z p is

module _ {X G : Type 0} (number : X → ℕ) (statements_of : G → List Statement) (arity : G → ℕ) (o : Ops) (n p : ℕ) (f : ℕ → ℕ) (groups : List G) where
  -- those of one group more
  pub batch-more : (i : ℕ) (x : G) → All (λ y. arity y ≡ n) groups → i < length groups → x ≡ get_or groups i x → (old new : List X) →
      map number old ≡ after_zeros p (map (excess o n f) (flat_map statements_of (take i groups))) →
      map number new ≡ map number old ++ map (excess o (arity x) f) (statements_of x) →
      map number new ≡ after_zeros p (map (excess o n f) (flat_map statements_of (take (i + 1) groups)))
  batch-more i x fits low is old new so_far added =
      let before = flat_map statements_of (take i groups) in
      added ∙ ap (λ l. l ++ map (excess o (arity x) f) (statements_of x)) so_far
      ∙ ap (λ k. after_zeros p (map (excess o n f) before) ++ map (excess o k f) (statements_of x)) (read_has (λ y. arity y ≡ n) groups i x fits low is)
      ∙ behind-append p (map (excess o n f) before) (map (excess o n f) (statements_of x))
      ∙ ap (after_zeros p) (sym (map-append (excess o n f) before (statements_of x)) ∙ ap (map (excess o n f)) (sym (groups-more statements_of groups i x low is)))
