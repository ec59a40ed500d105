-- The answer as a whole: what is refused before an event, that a build holds, and that a lucky challenge is certified.
use Rattle.std.proofs.Common.{◌≡◌, inl, inr, ⊎_elim, ℕ, ◌*◌, ◌<◌, Bool, true, false, List, [], All, length, map, if◌then◌else◌, Option, Some, None, Result, Ok, Err, refl, ap, sym, ◌∙◌, subst}
use Rattle.std.specs.Prelude.{nat_lt, ◌==◌, ◌||◌, ◌&&◌, IfOk}
use Rattle.std.proofs.lemmas.List.{length-map}
use Rattle.std.proofs.lemmas.List.Elements.{All-map}
use Rattle.sc_definitions.specs.declared.events.Event.{Event}
use Rattle.sc_definitions.specs.Ring.{IsField, IsRingMap}
use Rattle.sc_definitions.specs.Tables.{evaluation, prefix}
use Rattle.sc_definitions.specs.Rounds.{honest_message}
use Rattle.sc_definitions.specs.Transcript.{Round}
use Rattle.sc_definitions.specs.Channels.{Wire}
use Rattle.sc_definitions.proofs.WitnessLaws.{IsBuiltOr, honest_rounds-built}
use Rattle.sc_definitions.proofs.ReplayLaws.{length-given_rounds, messages-given_rounds}
use Rattle.std.specs.declared.cmp.PartialEq.{Ghosts as PartialEqOf}
use Rattle.sc_field.specs.declared.field.Field.{Ghosts as FieldOf}
use Rattle.sc_field.specs.declared.algebra.Algebra.{Ghosts as AlgebraOf}
use Rattle.sc_field.specs.declared.algebra.ExtensionField.{Ghosts as ExtensionOf}
use Rattle.sc_challenger.specs.Parties.{Party}
use Rattle.sc_transcript.specs.Data.{witness_count}
use Rattle.sc_audit_errors.specs.Findings.{holds, lucky}
use Rattle.sc_soundness.specs.Differences.{Difference}
use Rattle.sc_soundness.proofs.ImageLaws.{same-lists}
use Rattle.sc_merge_definitions.specs.Matrices.{most_side_variables, side_variables, Matrix, MatmulCase, IsMatmulCase, MatmulFigures, matmul_figures, left_table, right_table, inner_variables, product_values, false_entry, CertifiesMatmul}
use Rattle.sc_merge_definitions.proofs.MatrixLaws.{values-count, certified-matmul, holds-matmul}
use Rattle.sc_matmul.specs.declared.error.MatmulError.{MatmulError}
use Rattle.sc_matmul.specs.declared.error.MatmulError.TheVariants.{Side, Inner, Outer, Difficulty, FalseEntry, RoundCountMismatch, PowWitnessCountMismatch, NoMemory}
use Rattle.sc_matmul.specs.declared.matrix.Matrix as stored
use Rattle.sc_matmul.specs.declared.shape.FittingClaim.{FittingClaim}
use Rattle.sc_matmul.specs.MatrixViews.{matrix_in}
use Rattle.sc_matmul.specs.MatmulJobs.{Fields, claimed_in, case_of}
use Rattle.sc_matmul.specs.Shapes.{or_later, side_fault, sides_fault, inner_fault, outer_fault, shape_fault, difficulty_fault, early_fault}
use Rattle.sc_matmul.specs.MatmulRounds.{rounds_start, matmul_built, unless_fault, counts_fault, witness_fault, rounds_given}
use Rattle.sc_matmul.specs.MatmulReports.{GivesResult, given_result, built_result, entry_fault, task_result, matmul_result}
use Rattle.sc_matmul.specs.MatmulAudits.{LeavesHistory, IsAnswered, HoldsOrLacks, HoldsWhereBuilt}
use Rattle.sc_matmul.proofs.SideLaws.{are-fitting, fit-by}
use Rattle.sc_matmul.proofs.EntryLaws.{product-length}
use Rattle.sc_matmul.proofs.ReplayLaws.{counted}

-- ---- the case

pub case-is : {F : Type 0} (number : F → ℕ) (fs : Fields) → IsField fs.base → IsField fs.ops → IsRingMap fs.base fs.ops fs.embedding → ((x : F) → number x < fs.base.size) →
    (left right claimed : stored.Matrix F) (bits : ℕ) (party : Party) → shape_fault (matrix_in number left) (matrix_in number right) (matrix_in number claimed) ≡ None →
    IsMatmulCase (case_of fs (claimed_in number left right claimed) bits party)
case-is number fs base field embeds below left right claimed bits party none =
    let fit = are-fitting (matrix_in number left) (matrix_in number right) (matrix_in number claimed) none in
    let low = λ (x : ℕ). x < fs.base.size in
    record {
      base_field = base;
      field = field;
      embeds = embeds;
      inner = fit.inner;
      claimed_count = length-map claimed.values.items number ∙ sym claimed.values.ok.0 ∙ claimed.fits
          ∙ ap (λ n. n * claimed.cols) fit.rows_same ∙ ap (λ n. left.rows * n) fit.cols_same;
      left_below = All-map low number left.values.items (λ k d less. below _);
      right_below = All-map low number right.values.items (λ k d less. below _);
      claimed_below = All-map low number claimed.values.items (λ k d less. below _);
    }

-- as many entries are claimed as the product has
pub as-many : {F EF : Type 0} {f : FieldOf F} {p : PartialEqOf F} {x : ExtensionOf EF F} {a : AlgebraOf EF F} {e : FieldOf EF} {q : PartialEqOf EF} (c : FittingClaim F EF f p x a e q) (product : List F) →
    map f.number product ≡ product_values f.ops (matrix_in f.number c.left.now) (matrix_in f.number c.right.now) → length c.claimed.now.values.items ≡ length product
as-many {f = f} c product is =
    let fit = fit-by c in
    let claimed = c.claimed.now in
    sym claimed.values.ok.0 ∙ claimed.fits ∙ ap (λ n. n * claimed.cols) fit.rows_same ∙ ap (λ n. c.left.now.rows * n) fit.cols_same
    ∙ sym (product-length f.ops (matrix_in f.number c.left.now) (matrix_in f.number c.right.now)) ∙ sym (ap length is) ∙ length-map product f.number

-- a refusal of a false entry is none where there is none
pub entry-none : (cols : ℕ) (d : Option Difference) → None ≡ entry_fault cols d → d ≡ None
entry-none cols None is = refl
entry-none cols (Some d) is = cc

-- ---- what is refused before an event

abbrev IsEarly : MatmulError → Type 0
IsEarly (Side which rows cols) = Unit {0}
IsEarly (Inner left right) = Unit {0}
IsEarly (Outer rows cols) = Unit {0}
IsEarly (Difficulty bits bound) = Unit {0}
IsEarly (FalseEntry row col claimed actual) = Unit {0}
IsEarly e = ⊥

-- each refusal that is found is such a one
abbrev AreEarly : Option MatmulError → Type 0
AreEarly None = Unit {0}
AreEarly (Some e) = IsEarly e

early-or : (a b : Option MatmulError) → AreEarly a → AreEarly b → AreEarly (or_later a b)
early-or None b pa pb = pb
early-or (Some e) b pa pb = pa

early-then : (b : Bool) (e : MatmulError) → IsEarly e → AreEarly (if b then Some e else None)
early-then true e is = is
early-then false e is = tt

early-else : (b : Bool) (e : MatmulError) → IsEarly e → AreEarly (if b then None else Some e)
early-else true e is = tt
early-else false e is = is

early-side : (which : ℕ) (m : Matrix) → AreEarly (side_fault which m)
early-side which m =
    early-then (nat_lt most_side_variables (side_variables m.rows) || nat_lt most_side_variables (side_variables m.cols)) (Side which m.rows m.cols) tt

early-all : (q : MatmulCase) → AreEarly (early_fault q)
early-all q =
    let sides = early-or (side_fault 0 q.left) (or_later (side_fault 1 q.right) (side_fault 2 q.claimed)) (early-side 0 q.left)
    (early-or (side_fault 1 q.right) (side_fault 2 q.claimed) (early-side 1 q.right) (early-side 2 q.claimed)) in
    let inner = early-else (q.left.cols == q.right.rows) (Inner q.left.cols q.right.rows) tt in
    let outer = early-else ((q.claimed.rows == q.left.rows) && (q.claimed.cols == q.right.cols)) (Outer q.claimed.rows q.claimed.cols) tt in
    let bits = early-then (nat_lt q.channel.rules.max_bits q.channel.bits) (Difficulty q.channel.bits q.channel.rules.max_bits) tt in
    early-or (shape_fault q.left q.right q.claimed) (difficulty_fault q.channel.bits q.channel.rules.max_bits)
    (early-or (sides_fault q.left q.right q.claimed) (or_later (inner_fault q.left q.right) (outer_fault q.left q.right q.claimed)) sides
    (early-or (inner_fault q.left q.right) (outer_fault q.left q.right q.claimed) inner outer)) bits

-- it leaves the history as it was
pub kept-history : (q : MatmulCase) (came : Option Wire) (e : MatmulError) → IsEarly e → LeavesHistory q came (Err e) q.history
kept-history q came (Side which rows cols) is = refl
kept-history q came (Inner left right) is = refl
kept-history q came (Outer rows cols) is = refl
kept-history q came (Difficulty bits bound) is = refl
kept-history q came (FalseEntry row col claimed actual) is = refl
kept-history q came e is = absurd is

module _ (q : MatmulCase) (came : Option Wire) where
  module _ (e : MatmulError) (refused : early_fault q ≡ Some e) where
    pub refused-result : GivesResult (matmul_result q came) (Err e)
    refused-result = inr (ap (λ t. unless_fault t (task_result q came)) refused)

    pub refused-history : LeavesHistory q came (Err e) q.history
    refused-history = kept-history q came e (subst AreEarly refused (early-all q))

  -- what is answered of a claim that fits
  pub answered-result : (answer : Result MatmulFigures MatmulError) (h' : List Event) → early_fault q ≡ None → IsAnswered q came answer h' → GivesResult (matmul_result q came) answer
  answered-result answer h' none a = subst (λ due. GivesResult due answer) (sym (ap (λ t. unless_fault t (task_result q came)) none)) a.result

-- a false entry is refused, and want of memory before an event
pub false-answered : (q : MatmulCase) (e : MatmulError) → entry_fault q.claimed.cols (false_entry q) ≡ Some e → IsAnswered q None (Err e) q.history
false-answered q e is = record {
  result = inr (ap (λ t. unless_fault t (built_result q (matmul_built q))) is);
  history = kept-history q None e (subst AreEarly is (early-entry q.claimed.cols (false_entry q)));
} where
  early-entry : (cols : ℕ) (d : Option Difference) → AreEarly (entry_fault cols d)
  early-entry cols None = tt
  early-entry cols (Some d) = tt

pub no_memory-answered : (q : MatmulCase) (came : Option Wire) → IsAnswered q came (Err NoMemory) q.history
no_memory-answered q came = record { result = inl refl; history = inl refl }

abbrev IsCounts : MatmulError → Type 0
IsCounts (RoundCountMismatch n m) = Unit {0}
IsCounts (PowWitnessCountMismatch n m) = Unit {0}
IsCounts e = ⊥

abbrev AreCounts : Option MatmulError → Type 0
AreCounts None = Unit {0}
AreCounts (Some e) = IsCounts e

counts-are : (n bits : ℕ) (w : Wire) → AreCounts (counts_fault n bits w)
counts-are n bits w = by (length w.messages == n) (length w.witnesses == witness_count bits n) where
  by : (a b : Bool) →
      AreCounts (if a then (if b then None else Some (PowWitnessCountMismatch (witness_count bits n) (length w.witnesses))) else Some (RoundCountMismatch n (length w.messages)))
  by true true = tt
  by true false = tt
  by false b = tt

-- so are other counts than those that have to come
pub counts-answered : (q : MatmulCase) (w : Wire) (e : MatmulError) → counts_fault (inner_variables q) q.channel.bits w ≡ Some e → IsAnswered q (Some w) (Err e) q.history
counts-answered q w e is = record {
  result = inr (ap (λ t. given_result q (unless_fault t (unless_fault (witness_fault q (rounds_given w)) (Ok (rounds_given w))))) is);
  history = kept e (subst AreCounts is (counts-are (inner_variables q) q.channel.bits w));
} where
  kept : (x : MatmulError) → IsCounts x → LeavesHistory q (Some w) (Err x) q.history
  kept (RoundCountMismatch n m) c = refl
  kept (PowWitnessCountMismatch n m) c = refl
  kept x c = absurd c

-- what is answered of a case that is this one
pub asked-answered : (q q' : MatmulCase) (came came' : Option Wire) (answer : Result MatmulFigures MatmulError) (h' : List Event) → q' ≡ q → came ≡ came' →
    IsAnswered q' came' answer h' → IsAnswered q came answer h'
asked-answered q q' came came' answer h' same came_is a =
    subst (λ t. IsAnswered t came answer h') same (subst (λ t. IsAnswered q' t answer h') (sym came_is) a)

-- ---- a build

-- a word of what is due is one of what is answered
answered-so : (bits : ℕ) (due answer : Result MatmulFigures MatmulError) → GivesResult due answer → HoldsOrLacks bits due → HoldsOrLacks bits answer
answered-so bits due (Ok f) is so = subst (HoldsOrLacks bits) is so
answered-so bits due (Err e) given so =
    ⊎_elim (λ memory. subst (λ x. HoldsOrLacks bits (Err x)) (sym memory) tt) (λ is. subst (HoldsOrLacks bits) is so) given

module _ (q : MatmulCase) (case : early_fault q ≡ None → IsMatmulCase q) where
  abbrev IsBuiltHere : Result (List Round) ℕ → Type 0
  IsBuiltHere built =
      IsBuiltOr q.channel.rules q.channel.extension q.channel.base_size (honest_message evaluation prefix q.ops (left_table q) (right_table q)) q.channel.bits (rounds_start q) [] (inner_variables q) built

  is-built : IsBuiltHere (matmul_built q)
  is-built =
      honest_rounds-built q.channel.rules q.channel.extension q.channel.base_size (honest_message evaluation prefix q.ops (left_table q) (right_table q)) q.channel.bits (rounds_start q) [] (inner_variables q)

  -- its entries are the true ones
  true-entries : IsMatmulCase q → false_entry q ≡ None → q.claimed.values ≡ product_values q.base q.left q.right
  true-entries is none = same-lists 0 q.claimed.values (product_values q.base q.left q.right) (is.claimed_count ∙ sym (values-count q is)) none

  holds-so : (built : Result (List Round) ℕ) → IsMatmulCase q → false_entry q ≡ None → IsBuiltHere built → HoldsOrLacks q.channel.bits (built_result q built)
  holds-so (Ok rounds) is none b = holds-matmul q is rounds b.0 b.1 (true-entries is none)
  holds-so (Err i) is none positive = positive

  pub matmul-holds : (came : Option Wire) (answer : Result MatmulFigures MatmulError) → GivesResult (matmul_result q came) answer → HoldsWhereBuilt q came answer
  matmul-holds came answer given = λ fits build none.
      let due : matmul_result q came ≡ built_result q (matmul_built q) =
      ap (λ t. unless_fault t (task_result q came)) fits ∙ ap (task_result q) build
      ∙ ap (λ t. unless_fault (entry_fault q.claimed.cols t) (built_result q (matmul_built q))) none in
      answered-so q.channel.bits (built_result q (matmul_built q)) answer (subst (λ d. GivesResult d answer) due given) (holds-so (matmul_built q) (case fits) none is-built)

  -- ---- certificates

  certified-built : (built : Result (List Round) ℕ) (f : MatmulFigures) → IsMatmulCase q → false_entry q ≡ None → IsBuiltHere built → built_result q built ≡ Ok f → CertifiesMatmul q f
  certified-built (Ok rounds) f is none b due =
      let same : matmul_figures q rounds ≡ f = cc in
      let right = true-entries is none in
      let finds = holds-matmul q is rounds b.0 b.1 right in
      subst (CertifiesMatmul q) same
      (record {
        named = λ l found. (let both : holds ≡ lucky l = sym finds ∙ found in cc);
        no_other = λ matched wrong. absurd (wrong right);
      })
  certified-built (Err i) f is none b due = cc

  certified-true : (fault : Option Difference) (f : MatmulFigures) → false_entry q ≡ fault → IsMatmulCase q →
      unless_fault (entry_fault q.claimed.cols fault) (built_result q (matmul_built q)) ≡ Ok f → CertifiesMatmul q f
  certified-true None f none is due = certified-built (matmul_built q) f is none is-built due
  certified-true (Some d) f some is due = cc

  -- what came sends two values a round
  abbrev pub ArePairs : Option Wire → Type 0
  ArePairs None = Unit {0}
  ArePairs (Some w) = All (λ values. length values ≡ 2) w.messages

  certified-given : (w : Wire) (f : MatmulFigures) → IsMatmulCase q → All (λ values. length values ≡ 2) w.messages →
      (counts witness : Option MatmulError) → counts_fault (inner_variables q) q.channel.bits w ≡ counts →
      given_result q (unless_fault counts (unless_fault witness (Ok (rounds_given w)))) ≡ Ok f → CertifiesMatmul q f
  certified-given w f is pairs None None none due =
      let same : matmul_figures q (rounds_given w) ≡ f = cc in
      subst (CertifiesMatmul q) same
      (certified-matmul q is (rounds_given w) (length-given_rounds w.messages w.witnesses ∙ (counted (inner_variables q) q.channel.bits w none).0)
      (subst (All (λ values. length values ≡ 2)) (sym (messages-given_rounds w.messages w.witnesses)) pairs))
  certified-given w f is pairs None (Some e) none due = cc
  certified-given w f is pairs (Some e) witness none due = cc

  certified-task : (came : Option Wire) (f : MatmulFigures) → IsMatmulCase q → ArePairs came → task_result q came ≡ Ok f → CertifiesMatmul q f
  certified-task None f is pairs due = certified-true (false_entry q) f refl is due
  certified-task (Some w) f is pairs due =
      certified-given w f is pairs (counts_fault (inner_variables q) q.channel.bits w) (witness_fault q (rounds_given w)) refl due

  certified-asked : (fault : Option MatmulError) (came : Option Wire) (f : MatmulFigures) → early_fault q ≡ fault → ArePairs came → unless_fault fault (task_result q came) ≡ Ok f → CertifiesMatmul q f
  certified-asked None came f fits pairs due = certified-task came f (case fits) pairs due
  certified-asked (Some e) came f fits pairs due = cc

  pub matmul-certified : (came : Option Wire) (answer : Result MatmulFigures MatmulError) → ArePairs came → GivesResult (matmul_result q came) answer → IfOk answer (CertifiesMatmul q)
  matmul-certified came (Ok f) pairs given = certified-asked (early_fault q) came f refl pairs given
  matmul-certified came (Err e) pairs given = tt
