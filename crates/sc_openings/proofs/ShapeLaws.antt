-- The first refusal of a test, and tables and claims that fit.
use Rattle.std.proofs.Common.{◌≡◌, ℕ, zero, suc, ◌+◌, ◌^◌, ◌<◌, ◌≤◌, Bool, true, false, All, List, [], ◌∷◌, length, map, drop, get_or, if◌then◌else◌, Option, Some, None, refl, sym, ◌∙◌, ap, subst, arith, eq-eqb, ne_eqb}
use Rattle.std.specs.Prelude.{nat_lt, Vec}
use Rattle.std.specs.Global.{Global}
use Rattle.std.proofs.lemmas.Bool.{lt-ltb, ltb-true, le-ltb, ltb-false}
use Rattle.std.proofs.lemmas.List.{length-map}
use Rattle.sc_definitions.specs.Statements.{arity_of}
use Rattle.sc_definitions.proofs.FindLaws.{drop-next, drop-none}
use Rattle.sc_merge_definitions.specs.Openings.{TableClaim, claim_kind}
use Rattle.sc_merge_definitions.proofs.GivenLaws.{none-passed, none-same}
use Rattle.std.specs.declared.cmp.PartialEq.{Ghosts as PartialEqOf}
use Rattle.sc_field.specs.declared.field.Field.{Ghosts as FieldOf}
use Rattle.sc_field.specs.declared.algebra.Algebra.{Ghosts as AlgebraOf}
use Rattle.sc_field.specs.declared.algebra.ExtensionField.{Ghosts as ExtensionOf}
use Rattle.sc_openings.specs.declared.claim.OpeningClaim.{OpeningClaim}
use Rattle.sc_openings.specs.declared.shape.FittingClaims.{FittingClaims}
use Rattle.sc_openings.specs.OpeningsJobs.{claim_in}
use Rattle.sc_openings.specs.declared.error.MergeError.{MergeError}
use Rattle.sc_openings.specs.declared.error.MergeError.TheVariants.{TableLength, ClaimTable, ClaimArity}
use Rattle.sc_openings.specs.Shapes.{or_later, first_fault, length_fault, first_table_fault, tables_fault, name_fault, arity_fault, shape_fault, AreFitting}

-- ---- a test of a list, one by one

module _ {X Y : Type 0} (test : ℕ → Y → Option MergeError) (of : X → Y) (i : ℕ) (xs : List X) where
  rest_is : (x : X) → i < length xs → x ≡ get_or xs i x → first_fault test i (drop i (map of xs)) ≡ or_later (test i (of x)) (first_fault test (suc i) (drop (i + 1) (map of xs)))
  rest_is x low is = ap (first_fault test i) (drop-next of xs i x low is)

  -- it finds nothing here
  pub fault-next : (x : X) → i < length xs → x ≡ get_or xs i x → test i (of x) ≡ None →
      first_fault test i (drop i (map of xs)) ≡ first_fault test (i + 1) (drop (i + 1) (map of xs))
  fault-next x low is none =
      let next : suc i ≡ i + 1 = omega arith in
      rest_is x low is ∙ ap (λ t. or_later t (first_fault test (suc i) (drop (i + 1) (map of xs)))) none ∙ ap (λ k. first_fault test k (drop (i + 1) (map of xs))) next

  -- it finds this here
  pub fault-here : (x : X) (e : MergeError) → i < length xs → x ≡ get_or xs i x → test i (of x) ≡ Some e → first_fault test i (drop i (map of xs)) ≡ Some e
  fault-here x e low is some = rest_is x low is ∙ ap (λ t. or_later t (first_fault test (suc i) (drop (i + 1) (map of xs)))) some

  -- nothing is left
  pub fault-end : length xs ≤ i → first_fault test i (drop i (map of xs)) ≡ None
  fault-end all = ap (first_fault test i) (drop-none (map of xs) i (omega (arith, length-map xs of, all)))

pub none-first : (e later : Option MergeError) → or_later e later ≡ None → e ≡ None
none-first None later is = refl
none-first (Some e) later is = cc

pub none-later : (e later : Option MergeError) → or_later e later ≡ None → later ≡ None
none-later None later is = is
none-later (Some e) later is = cc

-- a test that finds nothing says something of each
none-all : {X : Type 0} (P : X → Type 0) (test : ℕ → X → Option MergeError) → ((i : ℕ) (x : X) → test i x ≡ None → P x) → (i : ℕ) (xs : List X) → first_fault test i xs ≡ None → All P xs
none-all P test so i [] none k d low = absurd (omega (arith, low))
none-all P test so i (x ∷ xs) none zero d low = so i x (none-first (test i x) (first_fault test (suc i) xs) none)
none-all P test so i (x ∷ xs) none (suc k) d low = none-all P test so (suc i) xs (none-later (test i x) (first_fault test (suc i) xs) none) k d (omega (arith, low))

-- ---- the tests

pub length-right : (n j len : ℕ) → len ≡ 2 ^ n → length_fault n j len ≡ None
length-right n j len is = ap (λ b. if b then None else Some (TableLength j len)) (eq-eqb _ _ is)

pub length-wrong : (n j len : ℕ) → (len ≡ 2 ^ n → ⊥) → length_fault n j len ≡ Some (TableLength j len)
length-wrong n j len other = ap (λ b. if b then None else Some (TableLength j len)) (ne_eqb _ _ other)

length-so : (n j len : ℕ) → length_fault n j len ≡ None → len ≡ 2 ^ n
length-so n j len = none-same len (2 ^ n) (TableLength j len)

pub name-right : (tables c : ℕ) (claim : TableClaim) → claim.table < tables → name_fault tables c claim ≡ None
name-right tables c claim low = ap (λ b. if b then None else Some (ClaimTable c claim.table)) (lt-ltb _ _ low)

pub name-wrong : (tables c : ℕ) (claim : TableClaim) → tables ≤ claim.table → name_fault tables c claim ≡ Some (ClaimTable c claim.table)
name-wrong tables c claim past = ap (λ b. if b then None else Some (ClaimTable c claim.table)) (le-ltb _ _ past)

name-so : (tables c : ℕ) (claim : TableClaim) → name_fault tables c claim ≡ None → claim.table < tables
name-so tables c claim none = ltb-true _ _ (none-passed (nat_lt claim.table tables) (ClaimTable c claim.table) none)

pub arity-right : (n c : ℕ) (claim : TableClaim) → arity_of n claim.statement.kind ≡ n → arity_fault n c claim ≡ None
arity-right n c claim is = ap (λ b. if b then None else Some (ClaimArity c n (arity_of n claim.statement.kind))) (eq-eqb _ _ is)

pub arity-wrong : (n c : ℕ) (claim : TableClaim) → (arity_of n claim.statement.kind ≡ n → ⊥) → arity_fault n c claim ≡ Some (ClaimArity c n (arity_of n claim.statement.kind))
arity-wrong n c claim other = ap (λ b. if b then None else Some (ClaimArity c n (arity_of n claim.statement.kind))) (ne_eqb _ _ other)

arity-so : (n c : ℕ) (claim : TableClaim) → arity_fault n c claim ≡ None → arity_of n claim.statement.kind ≡ n
arity-so n c claim = none-same (arity_of n claim.statement.kind) n (ClaimArity c n (arity_of n claim.statement.kind))

-- the coordinates of a claim's point
pub arity-kind : (n : ℕ) (next : Bool) (point : List ℕ) → arity_of n (claim_kind next point) ≡ length point
arity-kind n true point = omega arith
arity-kind n false point = refl

-- ---- all tables

pub tables-many : {X : Type 0} (of : X → ℕ) (n : ℕ) (ts : List X) (t : X) → 16 < n → 0 < length ts → t ≡ get_or ts 0 t → tables_fault n (map of ts) ≡ Some (TableLength 0 (of t))
tables-many of n [] t many some is = absurd (omega (arith, some))
tables-many of n (u ∷ ts) t many some is =
    ap (λ b. if b then first_table_fault (map of (u ∷ ts)) else first_fault (length_fault n) 0 (map of (u ∷ ts))) (lt-ltb _ _ many) ∙ ap (λ x. Some (TableLength 0 (of x))) (sym is)

pub tables-few : (n : ℕ) (lens : List ℕ) → n ≤ 16 → tables_fault n lens ≡ first_fault (length_fault n) 0 lens
tables-few n lens few = ap (λ b. if b then first_table_fault lens else first_fault (length_fault n) 0 lens) (le-ltb _ _ few)

pub are-fitting : (n : ℕ) (lens : List ℕ) (claims : List TableClaim) → 0 < length lens → shape_fault n lens claims ≡ None → AreFitting n lens claims
are-fitting n lens claims some none =
    let tables = none-first (tables_fault n lens) _ none in
    let rest = none-later (tables_fault n lens) _ none in
    let names = none-first (first_fault (name_fault (length lens)) 0 claims) _ rest in
    let arities = none-later (first_fault (name_fault (length lens)) 0 claims) (first_fault (arity_fault n) 0 claims) rest in
    let few = few-so lens (nat_lt 16 n) some refl tables in
    record {
      few = few;
      lengths = none-all (λ len. len ≡ 2 ^ n) (length_fault n) (length-so n) 0 lens (sym (tables-few n lens few) ∙ tables);
      named = none-all (λ c. c.table < length lens) (name_fault (length lens)) (name-so (length lens)) 0 claims names;
      arities = none-all (λ c. arity_of n c.statement.kind ≡ n) (arity_fault n) (arity-so n) 0 claims arities;
    } where
      few-so : (ls : List ℕ) (b : Bool) → 0 < length ls → nat_lt 16 n ≡ b → (if b then first_table_fault ls else first_fault (length_fault n) 0 ls) ≡ None → n ≤ 16
      few-so ls false more is found = ltb-false _ _ is
      few-so [] true more is found = absurd (omega (arith, more))
      few-so (l ∷ ls) true more is found = cc

-- as many entries, by the numbers of these
pub lens-same : {F : Type 0} (base : F → ℕ) (ts : List (Vec F Global)) → map length (map (λ t. map base t.items) ts) ≡ map (λ t. length t.items) ts
lens-same base [] = refl
lens-same base (t ∷ ts) = (λ i. length-map t.items base i ∷ lens-same base ts i)

-- ---- claims that fit

-- what is said of each of a map's values
of-map : {X Y : Type 0} (P : Y → Type 0) (of : X → Y) (xs : List X) → All P (map of xs) → (k : ℕ) (d : X) → k < length xs → P (of (get_or xs k d))
of-map P of [] all k d low = absurd (omega (arith, low))
of-map P of (x ∷ xs) all zero d low = all 0 (of x) (omega arith)
of-map P of (x ∷ xs) all (suc k) d low = of-map P of xs (λ j e less. all (suc j) e (omega (arith, less))) k d (omega (arith, low))

module _ {F EF : Type 0} {f : FieldOf F} {p : PartialEqOf F} {x : ExtensionOf EF F} {a : AlgebraOf EF F} {e : FieldOf EF} {q : PartialEqOf EF} (c : FittingClaims F EF f p x a e q) where
  fit_by : AreFitting c.num_variables (map (λ t. length t.items) c.tables.now) (map (claim_in e.number) c.claims.now)
  fit_by =
      are-fitting c.num_variables (map (λ t. length t.items) c.tables.now) (map (claim_in e.number) c.claims.now) (omega (arith, length-map c.tables.now (λ t. length t.items), c.some)) c.fits

  pub few-variables : c.num_variables ≤ 16
  few-variables = fit_by.few

  -- each table has so many rows
  pub table-rows : (j : ℕ) (d : Vec F Global) → j < length c.tables.now → length (get_or c.tables.now j d).items ≡ 2 ^ c.num_variables
  table-rows = of-map (λ len. len ≡ 2 ^ c.num_variables) (λ t. length t.items) c.tables.now fit_by.lengths

  -- each claim names one of them
  pub claim-names : (k : ℕ) (d : OpeningClaim EF) → k < length c.claims.now → (get_or c.claims.now k d).table < length c.tables.now
  claim-names k d low = subst (λ n. (get_or c.claims.now k d).table < n) (length-map c.tables.now (λ t. length t.items))
      (of-map (λ t. t.table < length (map (λ t. length t.items) c.tables.now)) (claim_in e.number) c.claims.now fit_by.named k d low)

  -- and its point has as many coordinates
  pub claim-point : (k : ℕ) (d : OpeningClaim EF) → k < length c.claims.now → length (get_or c.claims.now k d).point ≡ c.num_variables
  claim-point k d low =
      let t = get_or c.claims.now k d in
      sym (arity-kind c.num_variables t.successor (map e.number t.point) ∙ length-map t.point e.number)
      ∙ of-map (λ t. arity_of c.num_variables t.statement.kind ≡ c.num_variables) (claim_in e.number) c.claims.now fit_by.arities k d low
