-- The lengths of tables, and the tables that are made of lists.
use Rattle.std.proofs.Common.{◌≡◌, ℕ, zero, suc, ◌^◌, ◌<◌, List, [], ◌∷◌, ◌++◌, All, length, get_or, take, map, Some, None, Option, refl, sym, ◌∙◌, ap, subst, arith, eq-eqb, ne_eqb, if◌then◌else◌}
use Rattle.std.specs.Prelude.{Ok, Err}
use Rattle.std.proofs.lemmas.List.Elements.{All-head, All-tail, All-push}
use Rattle.std.proofs.lemmas.List.{length-map}
use Rattle.sc_definitions.specs.Tables.{entries, rows_of}
use Rattle.sc_audit_errors.specs.Arities.{arity_of}
use Rattle.sc_table.specs.declared.poly.Poly.{Poly}
use Rattle.sc_table.specs.Polys.{variables_of}
use Rattle.sc_degree.specs.Arities.{first_arity, HaveArity}
use Rattle.sc_product_audit.specs.ProductShapes.{arity_with, arity_by, arity_over}

-- ---- lengths, of lists of any kind

module _ {X : Type 0} (len : X → ℕ) where
  -- where all lengths are 2^n the number of variables is n
  pub arity_with-all : (n : ℕ) (tables : List X) → All (λ t. len t ≡ 2 ^ n) tables → arity_with n (map len tables) ≡ Ok n
  arity_with-all n [] all = refl
  arity_with-all n (t ∷ ts) all =
      let P = λ (t : X). len t ≡ 2 ^ n in
      ap (λ b. if b then arity_with n (map len ts) else Err (len t)) (eq-eqb _ _ (All-head P t ts all)) ∙ arity_with-all n ts (All-tail P t ts all)

  -- and else the first that is another one is told
  pub arity_with-other : (n : ℕ) (tables : List X) (i : ℕ) (t : X) → i < length tables → t ≡ get_or tables i t →
      All (λ t. len t ≡ 2 ^ n) (take i tables) → (len t ≡ 2 ^ n → ⊥) → arity_with n (map len tables) ≡ Err (len t)
  arity_with-other n [] i t low is all other = absurd (omega (arith, low))
  arity_with-other n (u ∷ ts) zero t low is all other =
      ap (λ b. if b then arity_with n (map len ts) else Err (len u)) (ne_eqb (len u) (2 ^ n) (λ e. other (ap len is ∙ e)))
      ∙ ap (λ (v : X). Err (len v)) (sym is)
  arity_with-other n (u ∷ ts) (suc i) t low is all other =
      let P = λ (t : X). len t ≡ 2 ^ n in
      ap (λ b. if b then arity_with n (map len ts) else Err (len u)) (eq-eqb _ _ (All-head P u (take i ts) all))
      ∙ arity_with-other n ts i t (omega (arith, low)) is (All-tail P u (take i ts) all) other

  -- the lengths after the first one's number of variables
  pub arity_over-first : (n : ℕ) (tables : List X) (t : X) (found : Option ℕ) → 0 < length tables → t ≡ get_or tables 0 t → found ≡ arity_of (len t) → found ≡ Some n →
      len t ≡ 2 ^ n → arity_over (map len tables) ≡ arity_with n (map len tables)
  arity_over-first n [] t found some is told some_arity size = absurd (omega (arith, some))
  arity_over-first n (u ∷ ts) t found some is told some_arity size =
      let same : len u ≡ len t = ap len (sym is) in
      let lens = map len ts in
      ap (λ a. arity_by a (len u) lens) (ap arity_of same ∙ sym told ∙ some_arity)
      ∙ sym (ap (λ b. if b then arity_with n lens else Err (len u)) (eq-eqb _ _ (same ∙ size)))

  pub arity_over-none : (tables : List X) (t : X) (found : Option ℕ) → 0 < length tables → t ≡ get_or tables 0 t → found ≡ arity_of (len t) → found ≡ None →
      arity_over (map len tables) ≡ Err (len t)
  arity_over-none [] t found some is told none = absurd (omega (arith, some))
  arity_over-none (u ∷ ts) t found some is told none =
      let same : len u ≡ len t = ap len (sym is) in
      ap (λ a. arity_by a (len u) (map len ts)) (ap arity_of same ∙ sym told ∙ none) ∙ ap Err same

-- ---- tables that are made of lists

-- tables of one arity have that of the first
pub one_arity : {A : Type 0} (n : ℕ) (ts : List (Poly A)) → 0 < length ts → HaveArity n ts → first_arity ts ≡ n
one_arity n [] some have = absurd (omega (arith, some))
one_arity n (t ∷ ts) some have = have 0 t (omega arith)

-- one table more of an arity
pub one-more : {A : Type 0} (n : ℕ) (ps new : List (Poly A)) (p : Poly A) → new ≡ ps ++ p ∷ [] → HaveArity n ps → variables_of p ≡ n → HaveArity n new
one-more n ps new p more have is = subst (HaveArity n) (sym more) (All-push (λ t. variables_of t ≡ n) ps p have is)

-- lists of which the images are the same are as long
pub as_many : {X Y Z : Type 0} (f : X → Z) (g : Y → Z) (xs : List X) (ys : List Y) → map f xs ≡ map g ys → length xs ≡ length ys
as_many f g xs ys same = sym (length-map xs f) ∙ ap length same ∙ length-map ys g

-- the tables of lists are those of their numbers
pub entries-rows : {X Y : Type 0} (number : X → ℕ) (items : Y → List X) (ts : List Y) →
    map (λ t. entries number (items t)) ts ≡ map rows_of (map (λ t. map number (items t)) ts)
unfolding entries rows_of
entries-rows number items [] = refl
entries-rows number items (t ∷ ts) = ap (λ fs. entries number (items t) ∷ fs) (entries-rows number items ts)
