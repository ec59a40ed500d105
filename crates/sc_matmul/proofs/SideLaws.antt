-- The number of variables of a side, and sides that fit.
use Rattle.std.proofs.Common.{◌≡◌, ℕ, zero, suc, ◌+◌, ◌^◌, ◌<◌, ◌≤◌, Bool, true, false, if◌then◌else◌, Option, Some, None, inl, inr, refl, sym, ◌∙◌, ap, arith, ⊎_elim, eq-eqb, ne_eqb, eqb-true}
use Rattle.std.specs.Prelude.{◌==◌, ◌||◌, ◌&&◌, nat_lt}
use Rattle.std.proofs.Math.Pow.{pow_mono}
use Rattle.std.proofs.lemmas.Nat.{pow_pos}
use Rattle.std.proofs.lemmas.Bool.{cases_eq}
use Rattle.std.proofs.lemmas.Bool.Decides.{eqb_tells, nat_tests}
use Rattle.sc_definitions.specs.Interpolation.{first_below}
use Rattle.sc_definitions.proofs.Lengths.{pow-same}
use Rattle.std.specs.declared.cmp.PartialEq.{Ghosts as PartialEqOf}
use Rattle.sc_field.specs.declared.field.Field.{Ghosts as FieldOf}
use Rattle.sc_field.specs.declared.algebra.Algebra.{Ghosts as AlgebraOf}
use Rattle.sc_field.specs.declared.algebra.ExtensionField.{Ghosts as ExtensionOf}
use Rattle.sc_audit_errors.specs.Arities.{exponent_from, arity_of}
use Rattle.sc_audit_errors.proofs.ArityLaws.{exponent-next, exponent-found, arity-tells}
use Rattle.sc_merge_definitions.specs.Matrices.{side_variables, Matrix}
use Rattle.sc_merge_definitions.proofs.GivenLaws.{none-same}
use Rattle.sc_matmul.specs.declared.shape.FittingClaim.{FittingClaim}
use Rattle.sc_matmul.specs.declared.error.MatmulError.{MatmulError}
use Rattle.sc_matmul.specs.declared.error.MatmulError.TheVariants.{Side, Inner, Outer}
use Rattle.sc_matmul.specs.MatrixViews.{matrix_in}
use Rattle.sc_matmul.specs.Shapes.{or_later, side_fault, sides_fault, inner_fault, outer_fault, shape_fault, AreFitting}

-- ---- the least number that passes

first-is : (n : ℕ) (test : ℕ → Bool) (w : ℕ) → w < n → test w ≡ true → ((k : ℕ) → k < w → test k ≡ false) → first_below n test ≡ w
unfolding first_below
first-is zero test w low passes least = absurd (omega (arith, low))
first-is (suc n) test zero low passes least = ap (λ b. if b then 0 else suc (first_below n (λ k. test (suc k)))) passes
first-is (suc n) test (suc w) low passes least =
    ap (λ b. if b then 0 else suc (first_below n (λ k. test (suc k)))) (least 0 (omega arith))
    ∙ ap suc (first-is n (λ k. test (suc k)) w (omega (arith, low)) passes (λ k less. least (suc k) (omega (arith, less))))

first-none : (n : ℕ) (test : ℕ → Bool) → ((k : ℕ) → k < n → test k ≡ false) → first_below n test ≡ n
unfolding first_below
first-none zero test fail = refl
first-none (suc n) test fail =
    ap (λ b. if b then 0 else suc (first_below n (λ k. test (suc k)))) (fail 0 (omega arith))
    ∙ ap suc (first-none n (λ k. test (suc k)) (λ k less. fail (suc k) (omega (arith, less))))

passes-by : (n : ℕ) (test : ℕ → Bool) (b : Bool) → test 0 ≡ b → (first_below n (λ k. test (suc k)) < n → test (suc (first_below n (λ k. test (suc k)))) ≡ true) →
    (if b then 0 else suc (first_below n (λ k. test (suc k)))) < suc n → test (if b then 0 else suc (first_below n (λ k. test (suc k)))) ≡ true
passes-by n test true is later low = is
passes-by n test false is later low = later (omega (arith, low))

first-passes : (n : ℕ) (test : ℕ → Bool) → first_below n test < n → test (first_below n test) ≡ true
unfolding first_below
first-passes zero test low = absurd (omega (arith, low))
first-passes (suc n) test low = passes-by n test (test 0) refl (first-passes n (λ k. test (suc k))) low

-- ---- sides

pub side-found : (len m : ℕ) → len ≡ 2 ^ m → m ≤ 7 → m ≡ side_variables len
unfolding side_variables
side-found len m is small =
    sym
    (first-is 8 (λ k. len == 2 ^ k) m (omega (arith, small)) (eq-eqb _ _ is)
    (λ k less. ne_eqb _ _ (λ e. let same : k ≡ m = pow-same k m (sym e ∙ is) in absurd (omega (arith, same, less)))))

pub side-other : (len : ℕ) → ((k : ℕ) → k < 8 → len ≡ 2 ^ k → ⊥) → 8 ≡ side_variables len
unfolding side_variables
side-other len other = sym (first-none 8 (λ k. len == 2 ^ k) (λ k less. ne_eqb _ _ (other k less)))

-- a power of two that is small enough is found
exponent-none : (n count len k : ℕ) → n ≤ k → k < n + count → len ≡ 2 ^ k → exponent_from n count len ≡ None → ⊥
exponent-none n zero len k least most is none = absurd (omega (arith, least, most))
exponent-none n (suc count) len k least most is none = elim (eqb_tells len (2 ^ n)) [
  | inl t ↦ (let found : Some n ≡ None = sym (exponent-found n count (suc count) len refl t.1) ∙ none in cc)
  | inr t ↦ ⊎_elim
      (λ same. t.1 (is ∙ ap (λ j. 2 ^ j) (sym same)))
      (λ other. exponent-none (suc n) count len k (omega (arith, least, other)) (omega (arith, most)) is (sym (exponent-next n count (suc count) len refl t.1) ∙ none))
      (cases_eq n k)
]

pub side-none : (len : ℕ) → arity_of len ≡ None → 8 ≡ side_variables len
unfolding arity_of
side-none len none = side-other len (λ k less is. exponent-none 0 25 len k (omega arith) (omega (arith, less)) is none)

pub side-large : (len m : ℕ) → arity_of len ≡ Some m → (m ≤ 7 → ⊥) → 8 ≡ side_variables len
side-large len m some large =
    side-other len (λ k less is. let same : k ≡ m = pow-same k m (sym is ∙ (arity-tells len m some).0) in large (omega (arith, same, less)))

-- a side that fits is a power of two up to 128
pub side-fits : (len : ℕ) → side_variables len ≤ 7 → (len ≡ 2 ^ side_variables len) × (len ≤ 128) × (0 < len)
unfolding side_variables
side-fits len small =
    let k = first_below 8 (λ j. len == 2 ^ j) in
    let is : len ≡ 2 ^ k = eqb-true _ _ (first-passes 8 (λ j. len == 2 ^ j) (omega (arith, small))) in
    let most : 2 ^ k ≤ 2 ^ 7 = pow_mono {i = k} {j = 7} small in
    let some : 0 < 2 ^ k = pow_pos k in
    (is, omega (arith, is, most), omega (arith, is, some))

-- ---- shapes

-- both sides of a matrix fit
pub sides-fit : (which : ℕ) (m : Matrix) → side_fault which m ≡ None → (side_variables m.rows ≤ 7) × (side_variables m.cols ≤ 7)
sides-fit which m none = fit (nat_lt 7 (side_variables m.rows)) (nat_lt 7 (side_variables m.cols)) refl refl none where
  fit : (a b : Bool) → nat_lt 7 (side_variables m.rows) ≡ a → nat_lt 7 (side_variables m.cols) ≡ b → (if a || b then Some (Side which m.rows m.cols) else None) ≡ None →
      (side_variables m.rows ≤ 7) × (side_variables m.cols ≤ 7)
  fit true b ra rb none = cc
  fit false true ra rb none = cc
  fit false false ra rb none = (grind (arith, nat_tests), grind (arith, nat_tests))

pub inner-fits : (left right : Matrix) → inner_fault left right ≡ None → right.rows ≡ left.cols
inner-fits left right none = sym (none-same left.cols right.rows (Inner left.cols right.rows) none)

pub outer-fits : (left right claimed : Matrix) → outer_fault left right claimed ≡ None → (claimed.rows ≡ left.rows) × (claimed.cols ≡ right.cols)
outer-fits left right claimed none = fit (claimed.rows == left.rows) (claimed.cols == right.cols) refl refl none where
  fit : (a b : Bool) → (claimed.rows == left.rows) ≡ a → (claimed.cols == right.cols) ≡ b → (if a && b then None else Some (Outer claimed.rows claimed.cols)) ≡ None →
      (claimed.rows ≡ left.rows) × (claimed.cols ≡ right.cols)
  fit true true ra rb none = (eqb-true _ _ ra, eqb-true _ _ rb)
  fit true false ra rb none = cc
  fit false b ra rb none = cc

pub none-first : (e later : Option MatmulError) → or_later e later ≡ None → e ≡ None
none-first None later is = refl
none-first (Some e) later is = cc

none-later : (e later : Option MatmulError) → or_later e later ≡ None → later ≡ None
none-later None later is = is
none-later (Some e) later is = cc

pub are-fitting : (left right claimed : Matrix) → shape_fault left right claimed ≡ None → AreFitting left right claimed
are-fitting left right claimed none =
    let sides = none-first (sides_fault left right claimed) (or_later (inner_fault left right) (outer_fault left right claimed)) none in
    let rest = none-later (sides_fault left right claimed) (or_later (inner_fault left right) (outer_fault left right claimed)) none in
    let one = none-first (side_fault 0 left) (or_later (side_fault 1 right) (side_fault 2 claimed)) sides in
    let two = none-first (side_fault 1 right) (side_fault 2 claimed) (none-later (side_fault 0 left) (or_later (side_fault 1 right) (side_fault 2 claimed)) sides) in
    let inner = none-first (inner_fault left right) (outer_fault left right claimed) rest in
    let outer = none-later (inner_fault left right) (outer_fault left right claimed) rest in
    let l = sides-fit 0 left one in
    let r = sides-fit 1 right two in
    let o = outer-fits left right claimed outer in
    record {
      rows_most = (side-fits left.rows l.0).1;
      inner_most = (side-fits left.cols l.1).1;
      cols_most = (side-fits right.cols r.1).1;
      cols_some = (side-fits right.cols r.1).2;
      inner = (side-fits left.cols l.1).0;
      inner_few = l.1;
      inner_same = inner-fits left right inner;
      rows_same = o.0;
      cols_same = o.1;
    }

-- those of matrices in memory do
pub fit-by : {F EF : Type 0} {f : FieldOf F} {p : PartialEqOf F} {x : ExtensionOf EF F} {a : AlgebraOf EF F} {e : FieldOf EF} {q : PartialEqOf EF} (c : FittingClaim F EF f p x a e q) →
    AreFitting (matrix_in f.number c.left.now) (matrix_in f.number c.right.now) (matrix_in f.number c.claimed.now)
fit-by {f = f} c = are-fitting (matrix_in f.number c.left.now) (matrix_in f.number c.right.now) (matrix_in f.number c.claimed.now) c.fits
