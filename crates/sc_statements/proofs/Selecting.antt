-- Selecting statements: scalars and direct points with their claimed values.
use Rattle.std.proofs.Common.{◌≡◌, ℕ, zero, suc, ◌+◌, ◌-◌, ◌<◌, ◌≤◌, List, [], ◌∷◌, ◌++◌, length, get_or, map, slice_index, Bool, true, false, not, IsTrue, Result, Ok, Err, OnErr, ◌↔◌, ◌==◌, sym, ◌∙◌, ap, refl, arith, eq-eqb, eqb-true}
use Rattle.std.proofs.lemmas.List.{length-map, length-append, map-append, append-nil}
use Rattle.std.proofs.Common.{append_assoc}
use Rattle.std.specs.Borrow.{Bor}
use Rattle.sc_definitions.specs.Statements.{powers, products, Kind, Statement, claims, claimed_values}
use Rattle.sc_weights.specs.declared.select.Selector.{Selector}
use Rattle.sc_weights.specs.declared.select.Selector.TheVariants.{Scalar, Direct}
use Rattle.sc_weights.specs.Selectors.{selected_kind}
use Rattle.sc_statements.specs.Lists.{IsAt}
use Rattle.sc_statements.specs.declared.statement.select.SelectStatement.{SelectStatement}
use Rattle.sc_statements.specs.SelectStatements.{claims_of, select_kinds, select_statements, SelectsAt}
use Rattle.sc_statements.proofs.Places.{read-at}

-- ---- refusals

-- what holds anyway holds on an error
pub on-refusal : {T E : Type 0} (r : Result T E) (P : Type 0) → P → OnErr r P
on-refusal (Ok x) P p = tt
on-refusal (Err e) P p = p

-- ---- claims

pub claims_of-length : (kinds : List Kind) (values : List ℕ) → length kinds ≡ length values → length (claims_of kinds values) ≡ length values
claims_of-length [] [] same = refl
claims_of-length [] (v ∷ values) same = absurd (omega (arith, same))
claims_of-length (k ∷ kinds) [] same = absurd (omega (arith, same))
claims_of-length (k ∷ kinds) (v ∷ values) same = ap suc (claims_of-length kinds values (omega (arith, same)))

-- one statement more
pub claims_of-append : (kinds : List Kind) (values : List ℕ) (k : Kind) (v : ℕ) → length kinds ≡ length values → claims_of (kinds ++ k ∷ []) (values ++ v ∷ []) ≡ claims_of kinds values ++ claims k v ∷ []
claims_of-append [] [] k v same = refl
claims_of-append [] (w ∷ values) k v same = absurd (omega (arith, same))
claims_of-append (j ∷ kinds) [] k v same = absurd (omega (arith, same))
claims_of-append (j ∷ kinds) (w ∷ values) k v same = ap (λ l. claims j w ∷ l) (claims_of-append kinds values k v (omega (arith, same)))

-- ---- what stands at a place

abbrev pub KindAt : List Kind → ℕ → Kind → Type 0
KindAt [] i k = ⊥
KindAt (j ∷ kinds) zero k = j ≡ k
KindAt (j ∷ kinds) (suc i) k = KindAt kinds i k

pub claims_of-at : (kinds : List Kind) (values : List ℕ) (i : ℕ) (k : Kind) → length kinds ≡ length values → KindAt kinds i k → IsAt (claims_of kinds values) i (claims k (slice_index values i))
claims_of-at [] values i k same at = absurd at
claims_of-at (j ∷ kinds) [] i k same at = absurd (omega (arith, same))
claims_of-at (j ∷ kinds) (v ∷ values) zero k same at = ap (λ l. claims l v) at
claims_of-at (j ∷ kinds) (v ∷ values) (suc i) k same at = claims_of-at kinds values i k (omega (arith, same)) at

module _ {X Y : Type 0} (f : X → Kind) (h : Y → Kind) where
  pub kind-first : (xs : List X) (rest : List Kind) (i : ℕ) (x : X) → i < length xs → x ≡ get_or xs i x → KindAt (map f xs ++ rest) i (f x)
  kind-first [] rest i x low is = absurd (omega (arith, low))
  kind-first (y ∷ xs) rest zero x low is = ap f (sym is)
  kind-first (y ∷ xs) rest (suc i) x low is = kind-first xs rest i x (omega (arith, low)) is

  kind-alone : (ys : List Y) (i : ℕ) (y : Y) → i < length ys → y ≡ get_or ys i y → KindAt (map h ys) i (h y)
  kind-alone [] i y low is = absurd (omega (arith, low))
  kind-alone (z ∷ ys) zero y low is = ap h (sym is)
  kind-alone (z ∷ ys) (suc i) y low is = kind-alone ys i y (omega (arith, low)) is

  pub kind-second : (xs : List X) (ys : List Y) (i : ℕ) (y : Y) → length xs ≤ i → i - length xs < length ys → y ≡ get_or ys (i - length xs) y → KindAt (map f xs ++ map h ys) i (h y)
  kind-second [] ys i y past low is =
      let e : i - 0 ≡ i = omega arith in kind-alone ys i y (omega (arith, low)) (is ∙ ap (λ k. get_or ys k y) e)
  kind-second (x ∷ xs) ys zero y past low is = absurd (omega (arith, past))
  kind-second (x ∷ xs) ys (suc i) y past low is =
      let e : suc i - suc (length xs) ≡ i - length xs = omega arith in
      kind-second xs ys i y (omega (arith, past)) (omega (arith, low)) (is ∙ ap (λ k. get_or ys k y) e)

  -- both parts have as many kinds as there are values
  pub kinds-length : (xs : List X) (ys : List Y) → length (map f xs ++ map h ys) ≡ length xs + length ys
  kinds-length xs ys = length-append (map f xs) (map h ys) ∙ ap (λ n. n + length (map h ys)) (length-map xs f) ∙ ap (λ n. length xs + n) (length-map ys h)

  -- one scalar more where there is no point, and one point more
  pub kinds-scalar : (xs : List X) (ys : List Y) (x : X) → ys ≡ [] → map f (xs ++ x ∷ []) ++ map h ys ≡ (map f xs ++ map h ys) ++ f x ∷ []
  kinds-scalar xs ys x none =
      ap (λ l. map f (xs ++ x ∷ []) ++ map h l) none ∙ append-nil (map f (xs ++ x ∷ [])) ∙ map-append f xs (x ∷ [])
      ∙ ap (λ l. l ++ f x ∷ []) (sym (ap (λ l. map f xs ++ map h l) none ∙ append-nil (map f xs)))

  pub kinds-point : (xs : List X) (ys : List Y) (y : Y) → map f xs ++ map h (ys ++ y ∷ []) ≡ (map f xs ++ map h ys) ++ h y ∷ []
  kinds-point xs ys y = ap (λ l. map f xs ++ l) (map-append h ys (y ∷ [])) ∙ sym (append_assoc (map f xs) (map h ys) (h y ∷ []))

-- whether there is no statement, by their number
pub empty-test : (test : Bool) (n : ℕ) (ss : List Statement) → test ≡ (n == 0) → length ss ≡ n → IsTrue test ↔ (ss ≡ [])
empty-test test n [] is size = ((λ _. refl), (λ _. is ∙ eq-eqb n 0 (sym size)))
empty-test test n (s ∷ ss) is size =
    ((λ t. let none : n ≡ 0 = eqb-true n 0 (sym is ∙ t) in absurd (omega (arith, none, size))), (λ none. let none' : suc (length ss) ≡ 0 = ap length none in absurd (omega (arith, none'))))

-- whether there is one of something, by their number
pub holds-test : {X : Type 0} (test : Bool) (n : ℕ) (xs : List X) → test ≡ (n == 0) → n ≡ length xs → IsTrue (not test) ↔ (xs ≡ [] → ⊥)
holds-test true n [] is size = ((λ t _. cc), (λ some. absurd (some refl)))
holds-test false n [] is size = let wrong : false ≡ true = is ∙ eq-eqb n 0 size in cc
holds-test true n (x ∷ xs) is size = let none : n ≡ 0 = eqb-true n 0 (sym is) in absurd (omega (arith, none, size))
holds-test false n (x ∷ xs) is size = ((λ _ e. let none : suc (length xs) ≡ 0 = ap length e in absurd (omega (arith, none))), (λ _. refl))

-- the value at a place of a list of numbers
pub slice_index-map : {X : Type 0} (number : X → ℕ) (xs : List X) (i : ℕ) (x : X) → i < length xs → x ≡ get_or xs i x → slice_index (map number xs) i ≡ number x
slice_index-map number [] i x low is = absurd (omega (arith, low))
slice_index-map number (y ∷ xs) zero x low is = ap number (sym is)
slice_index-map number (y ∷ xs) (suc i) x low is = slice_index-map number xs i x (omega (arith, low)) is

claims_of-claimed : (kinds : List Kind) (values : List ℕ) (i : ℕ) → length kinds ≡ length values → slice_index values i ≡ slice_index (claimed_values (claims_of kinds values)) i
claims_of-claimed [] [] i same = refl
claims_of-claimed [] (v ∷ values) i same = absurd (omega (arith, same))
claims_of-claimed (k ∷ kinds) [] i same = absurd (omega (arith, same))
claims_of-claimed (k ∷ kinds) (v ∷ values) zero same = refl
claims_of-claimed (k ∷ kinds) (v ∷ values) (suc i) same = claims_of-claimed kinds values i (omega (arith, same))

-- ---- a selecting statement

module _ {F EF : Type 0} (of : F → ℕ) (number : EF → ℕ) (s : SelectStatement F EF) where
  lengths : length s.vars.items + length s.points.items ≡ length s.evaluations.items
  lengths = omega (arith, s.aligned, s.vars.ok.0, s.points.ok.0, s.evaluations.ok.0)

  kinds-values : length (select_kinds of s) ≡ length (map number s.evaluations.items)
  kinds-values =
      kinds-length (λ x. powers (of x)) (λ p. products (map of p)) s.vars.items s.points.items ∙ lengths ∙ sym (length-map s.evaluations.items number)

  pub select-length : length (select_statements of number s) ≡ length s.evaluations.items
  select-length = claims_of-length (select_kinds of s) (map number s.evaluations.items) kinds-values ∙ length-map s.evaluations.items number

  module _ (i : ℕ) (low : i < length (select_statements of number s)) where
    pub value-inside : i < length s.evaluations.items
    value-inside = omega (arith, low, select-length)

    -- the value at a place
    pub value-read : (x : EF) → x ≡ get_or s.evaluations.items i x → slice_index (map number s.evaluations.items) i ≡ number x
    value-read x is = slice_index-map number s.evaluations.items i x value-inside is

    pub scalar-at : (x : F) → i < length s.vars.items → x ≡ get_or s.vars.items i x → SelectsAt of number s i (Scalar x)
    scalar-at x inside is =
        claims_of-at (select_kinds of s) (map number s.evaluations.items) i (powers (of x)) kinds-values
        (kind-first (λ y. powers (of y)) (λ p. products (map of p)) s.vars.items (map (λ p. products (map of p)) s.points.items) i x inside is)

    pub point-inside : length s.vars.items ≤ i → i - length s.vars.items < length s.points.items
    point-inside past = omega (arith, past, value-inside, lengths)

    pub point-at : (p : Bor (List F)) → length s.vars.items ≤ i → p.now ≡ get_or s.points.items (i - length s.vars.items) p.now → SelectsAt of number s i (Direct p)
    point-at p past is =
        claims_of-at (select_kinds of s) (map number s.evaluations.items) i (products (map of p.now)) kinds-values
        (kind-second (λ y. powers (of y)) (λ q. products (map of q)) s.vars.items s.points.items i p.now past (point-inside past) is)

    -- what is read of the statement there
    pub selects-read : (f : Statement → ℕ) (selector : Selector F) → SelectsAt of number s i selector →
        f (claims (selected_kind of selector) (slice_index (map number s.evaluations.items) i)) ≡ slice_index (map f (select_statements of number s)) i
    selects-read f selector at = sym (read-at f (select_statements of number s) i _ at)

    pub claimed-read : (x : EF) → x ≡ get_or s.evaluations.items i x → number x ≡ slice_index (claimed_values (select_statements of number s)) i
    claimed-read x is =
        sym (value-read x is) ∙ claims_of-claimed (select_kinds of s) (map number s.evaluations.items) i kinds-values

  -- a scalar more where there is no direct point, and a direct point more
  pub selects-scalar : (x : F) (v : EF) (vars : List F) (values : List EF) → s.points.items ≡ [] → vars ≡ s.vars.items ++ x ∷ [] → values ≡ s.evaluations.items ++ v ∷ [] →
      claims_of (map (λ y. powers (of y)) vars ++ map (λ p. products (map of p)) s.points.items) (map number values) ≡ select_statements of number s ++ claims (powers (of x)) (number v) ∷ []
  selects-scalar x v vars values none vars_is values_is =
      let f : F → Kind = λ y. powers (of y) in
      let h : List F → Kind = λ p. products (map of p) in
      ap (λ l. claims_of (map f l ++ map h s.points.items) (map number values)) vars_is
      ∙ ap (λ l. claims_of l (map number values)) (kinds-scalar f h s.vars.items s.points.items x none)
      ∙ ap (λ l. claims_of (select_kinds of s ++ f x ∷ []) l) (ap (map number) values_is ∙ map-append number s.evaluations.items (v ∷ []))
      ∙ claims_of-append (select_kinds of s) (map number s.evaluations.items) (f x) (number v) kinds-values

  pub selects-point : (q : List F) (v : EF) (points : List (List F)) (values : List EF) → points ≡ s.points.items ++ q ∷ [] → values ≡ s.evaluations.items ++ v ∷ [] →
      claims_of (map (λ y. powers (of y)) s.vars.items ++ map (λ p. products (map of p)) points) (map number values) ≡ select_statements of number s ++ claims (products (map of q)) (number v) ∷ []
  selects-point q v points values points_is values_is =
      let f : F → Kind = λ y. powers (of y) in
      let h : List F → Kind = λ p. products (map of p) in
      ap (λ l. claims_of (map f s.vars.items ++ map h l) (map number values)) points_is
      ∙ ap (λ l. claims_of l (map number values)) (kinds-point f h s.vars.items s.points.items q)
      ∙ ap (λ l. claims_of (select_kinds of s ++ h q ∷ []) l) (ap (map number) values_is ∙ map-append number s.evaluations.items (v ∷ []))
      ∙ claims_of-append (select_kinds of s) (map number s.evaluations.items) (h q) (number v) kinds-values
