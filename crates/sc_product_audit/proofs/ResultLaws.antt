-- The laws on what is answered: a build holds, and a lucky challenge is certified.
use Rattle.std.proofs.Common.{◌≡◌, ◌≢◌, inr, ⊎_elim, ℕ, ◌-◌, ◌<◌, ◌≤◌, Bool, true, false, List, [], ◌∷◌, length, Result, Ok, Err, refl, sym, ◌∙◌, ap, subst, arith, if◌then◌else◌}
use Rattle.std.specs.Prelude.{map, nat_lt, IfOk}
use Rattle.std.proofs.lemmas.List.{length-map}
use Rattle.std.proofs.lemmas.Bool.Decides.{nat_tests}
use Rattle.sc_definitions.specs.declared.events.Event.{Event}
use Rattle.sc_definitions.specs.Ring.{IsField}
use Rattle.sc_definitions.specs.Tables.{rows_of}
use Rattle.sc_definitions.specs.Transcript.{Round}
use Rattle.sc_definitions.specs.Products.{honest_values}
use Rattle.sc_definitions.proofs.WitnessLaws.{IsBuiltOr, honest_rounds-built}
use Rattle.sc_audit_errors.specs.Findings.{holds, lucky}
use Rattle.sc_product_audit.specs.declared.error.ProductError.{ProductError}
use Rattle.sc_product_audit.specs.declared.error.ProductError.TheVariants.{TableLength, TableCount, Difficulty, NoMemory}
use Rattle.sc_product_audit.specs.ProductCases.{ProductGiven, ProductTask, to_build, to_check, ProductAsked, ProductCase, case_over, true_sum, product_start}
use Rattle.sc_product_audit.specs.ProductShapes.{arity_over, shape_from, product_shape, variables_or_none, case_with, case_asked}
use Rattle.sc_product_audit.specs.ProductRounds.{product_built, product_given}
use Rattle.sc_product_audit.specs.ProductReports.{ProductReported, product_figures, reported_on, given_result, built_result, task_result, shaped_result, product_result}
use Rattle.sc_product_audit.specs.ProductAudits.{GivesResult, LeavesHistory, HoldsOrLacks, HoldsWhereBuilt, CertifiesProduct}
use Rattle.sc_product_audit.proofs.AnswerLaws.{built-holds}
use Rattle.sc_product_audit.proofs.CertifiedRounds.{certified-given}

-- ---- the shape

-- where it fits there are tables, fewer than elements
some_tables : (lens : List ℕ) (tables size bits max_bits n : ℕ) → tables ≡ length lens → shape_from (arity_over lens) tables size bits max_bits ≡ Ok n → 1 ≤ tables
some_tables [] tables size bits max_bits n count fits = cc
some_tables (len ∷ lens) tables size bits max_bits n count fits = omega (arith, count)

if_fits : (few : Bool) (rest : Result ℕ ProductError) (e : ProductError) (n : ℕ) → (if few then rest else Err e) ≡ Ok n → few ≡ true
if_fits true rest e n fits = refl
if_fits false rest e n fits = cc

few_tables : (arity : Result ℕ ℕ) (tables size bits max_bits n : ℕ) → shape_from arity tables size bits max_bits ≡ Ok n → nat_lt tables size ≡ true
few_tables (Err len) tables size bits max_bits n fits = cc
few_tables (Ok m) tables size bits max_bits n fits =
    if_fits (nat_lt tables size) (if nat_lt max_bits bits then Err (Difficulty bits max_bits) else Ok m) (TableCount tables (size - 1)) n fits

-- that of lists is that of their numbers
pub lists-shape : {X Y : Type 0} (number : X → ℕ) (items : Y → List X) (ts : List Y) (size bits bound max_bits : ℕ) → bound ≡ max_bits →
    shape_from (arity_over (map (λ t. length (items t)) ts)) (length ts) size bits bound
    ≡ shape_from (arity_over (map length (map (λ t. map number (items t)) ts))) (length (map (λ t. map number (items t)) ts)) size bits max_bits
lists-shape {X = X} {Y = Y} number items ts size bits bound max_bits same =
    let numbers : Y → List ℕ = λ t. map number (items t) in
    ap (λ b. shape_from (arity_over (map (λ t. length (items t)) ts)) (length ts) size bits b) same
    ∙ ap (λ lens. shape_from (arity_over lens) (length ts) size bits max_bits) (lengths ts)
    ∙ ap (λ n. shape_from (arity_over (map length (map numbers ts))) n size bits max_bits) (sym (length-map ts numbers)) where
      lengths : (us : List Y) → map (λ t. length (items t)) us ≡ map length (map (λ t. map number (items t)) us)
      lengths [] = refl
      lengths (u ∷ us) = ap (λ n. n ∷ map (λ t. length (items t)) us) (sym (length-map (items u) number)) ∙ ap (λ ns. length (map number (items u)) ∷ ns) (lengths us)

-- ---- a refusal of the shape

-- what the shape can be refused for
abbrev IsOfShape : ProductError → Type 0
IsOfShape (TableLength len) = Unit {0}
IsOfShape (TableCount tables bound) = Unit {0}
IsOfShape (Difficulty bits bound) = Unit {0}
IsOfShape e = ⊥

same-refusal : (d e : ProductError) → IsOfShape d → ◌≡◌ {A = Result ℕ ProductError} (Err d) (Err e) → IsOfShape e
same-refusal d e of is = let same : d ≡ e = cc in subst IsOfShape same of

refused-bits : (above : Bool) (bits max_bits n : ℕ) (e : ProductError) → (if above then Err (Difficulty bits max_bits) else Ok n) ≡ Err e → IsOfShape e
refused-bits true bits max_bits n e is = same-refusal (Difficulty bits max_bits) e tt is
refused-bits false bits max_bits n e is = cc

refused-count : (few : Bool) (above : Bool) (tables bound bits max_bits n : ℕ) (e : ProductError) →
    (if few then (if above then Err (Difficulty bits max_bits) else Ok n) else Err (TableCount tables bound)) ≡ Err e → IsOfShape e
refused-count true above tables bound bits max_bits n e is = refused-bits above bits max_bits n e is
refused-count false above tables bound bits max_bits n e is = same-refusal (TableCount tables bound) e tt is

refused-by : (arity : Result ℕ ℕ) (tables size bits max_bits : ℕ) (e : ProductError) → shape_from arity tables size bits max_bits ≡ Err e → IsOfShape e
refused-by (Err len) tables size bits max_bits e is = same-refusal (TableLength len) e tt is
refused-by (Ok n) tables size bits max_bits e is = refused-count (nat_lt tables size) (nat_lt max_bits bits) tables (size - 1) bits max_bits n e is

kept-history : (k : ProductCase) (task : ProductTask) (e : ProductError) → IsOfShape e → LeavesHistory k task (Err e) k.history
kept-history k task (TableLength len) of = refl
kept-history k task (TableCount tables bound) of = refl
kept-history k task (Difficulty bits bound) of = refl
kept-history k task e of = absurd of

module _ (q : ProductAsked) (e : ProductError) (refused : product_shape q ≡ Err e) where
  -- it is the answer, and leaves the history as it was
  pub refused-result : GivesResult (product_result q) (Err e)
  refused-result = inr (ap (shaped_result q) refused)

  pub refused-history : LeavesHistory (case_asked q) q.task (Err e) q.history
  refused-history =
      kept-history (case_asked q) q.task e (refused-by (arity_over (map length q.tables)) (length q.tables) q.ops.size q.channel.bits q.channel.rules.max_bits e refused)

-- ---- a shape that fits

module _ (q : ProductAsked) (n : ℕ) (fits : product_shape q ≡ Ok n) where
  -- the case is that on tables of so many variables
  pub case-is : case_asked q ≡ case_with q n
  case-is = ap (λ shape. case_with q (variables_or_none shape)) fits

  -- and the answer is that to the task there
  pub result-is : product_result q ≡ task_result (case_with q n) q.task
  result-is = ap (shaped_result q) fits

  some-here : 1 ≤ length (case_with q n).tables
  some-here =
      let some = some_tables (map length q.tables) (length q.tables) q.ops.size q.channel.bits q.channel.rules.max_bits n (sym (length-map q.tables length)) fits in
      omega (arith, some, length-map q.tables rows_of)

  few-here : length (case_with q n).tables < q.ops.size
  few-here =
      let few = few_tables (arity_over (map length q.tables)) (length q.tables) q.ops.size q.channel.bits q.channel.rules.max_bits n fits in
      let low : length q.tables < q.ops.size = grind (arith, nat_tests) in
      omega (arith, low, length-map q.tables rows_of)

-- the case on tables that are those of the lists
pub case-same : (q : ProductAsked) (n m : ℕ) (fs : List (ℕ → ℕ)) → fs ≡ map rows_of q.tables → m ≡ n → case_over q.ops fs m q.channel q.history ≡ case_with q n
case-same q n m fs tables arity = rw (tables, arity) refl

-- what is answered to a task of this case
module _ (q : ProductAsked) (n : ℕ) (fits : product_shape q ≡ Ok n) (k : ProductCase) (same : k ≡ case_with q n) (task : ProductTask) (asked : q.task ≡ task)
    (answer : Result ProductReported ProductError) where
  pub answered-result : GivesResult (task_result k task) answer → GivesResult (product_result q) answer
  answered-result given =
      subst (λ d. GivesResult d answer) (ap (λ c. task_result c task) same ∙ ap (task_result (case_with q n)) (sym asked) ∙ sym (result-is q n fits)) given

  pub answered-history : (h' : List Event) → LeavesHistory k task answer h' → LeavesHistory (case_asked q) q.task answer h'
  answered-history h' left =
      subst (λ t. LeavesHistory (case_asked q) t answer h') (sym asked)
      (subst (λ c. LeavesHistory c task answer h') (same ∙ sym (case-is q n fits)) left)

-- ---- a build

-- a word of what is due is one of what is answered
answered-so : (bits : ℕ) (due answer : Result ProductReported ProductError) → GivesResult due answer → HoldsOrLacks bits due → HoldsOrLacks bits answer
answered-so bits due (Ok r) is so = subst (HoldsOrLacks bits) is so
answered-so bits due (Err e) given so =
    ⊎_elim (λ memory. subst (λ x. HoldsOrLacks bits (Err x)) (sym memory) tt) (λ is. subst (HoldsOrLacks bits) is so) given

module _ (k : ProductCase) (field : IsField k.ops) (some : 1 ≤ length k.tables) (few : length k.tables < k.ops.size) where
  -- what is built
  abbrev IsBuiltHere : Result (List Round) ℕ → Type 0
  IsBuiltHere built =
      IsBuiltOr k.channel.rules k.channel.extension k.channel.base_size (honest_values k.ops k.tables) k.channel.bits (product_start k (true_sum k)) [] k.variables built

  is-built : IsBuiltHere (product_built k)
  is-built =
      honest_rounds-built k.channel.rules k.channel.extension k.channel.base_size (honest_values k.ops k.tables) k.channel.bits (product_start k (true_sum k)) [] k.variables

  holds-so : (built : Result (List Round) ℕ) → IsBuiltHere built → HoldsOrLacks k.channel.bits (built_result k built)
  holds-so (Ok rounds) b = built-holds k field some few rounds b.0 b.1
  holds-so (Err i) positive = positive

  certified-built : (built : Result (List Round) ℕ) (r : ProductReported) → IsBuiltHere built → built_result k built ≡ Ok r → CertifiesProduct k r
  certified-built (Ok rounds) r b is =
      let same : reported_on k (product_figures k (true_sum k) rounds) ≡ r = cc in
      let finds = built-holds k field some few rounds b.0 b.1 in
      subst (CertifiesProduct k) same
      (record {
        named = λ l found. (let both : holds ≡ lucky l = sym finds ∙ found in cc);
        no_other = λ right wrong. absurd (wrong refl);
      })
  certified-built (Err i) r positive is = cc

  certified-checked : (g : ProductGiven) → g.claimed < k.ops.size → (given : Result (List Round) ProductError) (r : ProductReported) → given ≡ product_given k g →
      given_result k g.claimed given ≡ Ok r → CertifiesProduct k r
  certified-checked g low (Ok rounds) r from is =
      let same : reported_on k (product_figures k g.claimed rounds) ≡ r = cc in
      subst (CertifiesProduct k) same (certified-given k field some few g low rounds (sym from))
  certified-checked g low (Err e) r from is = cc

-- the claimed sum of a proof is the number of an element
abbrev pub ClaimsElement : ℕ → ProductTask → Type 0
ClaimsElement size to_build = Unit {0}
ClaimsElement size (to_check g) = g.claimed < size

certified-task : (k : ProductCase) → IsField k.ops → 1 ≤ length k.tables → length k.tables < k.ops.size → (task : ProductTask) (r : ProductReported) → ClaimsElement k.ops.size task →
    task_result k task ≡ Ok r → CertifiesProduct k r
certified-task k field some few to_build r low is = certified-built k field some few (product_built k) r (is-built k field some few) is
certified-task k field some few (to_check g) r low is = certified-checked k field some few g low (product_given k g) r refl is

-- ---- what is asked

pub product-holds : (q : ProductAsked) → IsField q.ops → (answer : Result ProductReported ProductError) → GivesResult (product_result q) answer → HoldsWhereBuilt q answer
product-holds q field answer given n fits building =
    let k = case_with q n in
    let due : product_result q ≡ built_result k (product_built k) = result-is q n fits ∙ ap (task_result k) building in
    answered-so q.channel.bits (built_result k (product_built k)) answer (subst (λ d. GivesResult d answer) due given)
    (holds-so k field (some-here q n fits) (few-here q n fits) (product_built k) (is-built k field (some-here q n fits) (few-here q n fits)))

certified-shaped : (q : ProductAsked) → IsField q.ops → ClaimsElement q.ops.size q.task → (shape : Result ℕ ProductError) (r : ProductReported) → product_shape q ≡ shape →
    shaped_result q shape ≡ Ok r → CertifiesProduct (case_asked q) r
certified-shaped q field low (Ok n) r fits is =
    subst (λ k. CertifiesProduct k r) (sym (case-is q n fits))
    (certified-task (case_with q n) field (some-here q n fits) (few-here q n fits) q.task r low is)
certified-shaped q field low (Err e) r fits is = cc

pub product-certified : (q : ProductAsked) → IsField q.ops → ClaimsElement q.ops.size q.task → (r : ProductReported) → product_result q ≡ Ok r → CertifiesProduct (case_asked q) r
product-certified q field low r is = certified-shaped q field low (product_shape q) r refl is

-- a refusal but for want of memory is the one that is due
pub due-refusal : (due : Result ProductReported ProductError) (e : ProductError) → GivesResult due (Err e) → e ≢ NoMemory → due ≡ Err e
due-refusal due e given some = ⊎_elim (λ memory. absurd (some memory)) (λ is. is) given

pub certified-answer : (q : ProductAsked) → IsField q.ops → ClaimsElement q.ops.size q.task → (answer : Result ProductReported ProductError) → GivesResult (product_result q) answer →
    IfOk answer (CertifiesProduct (case_asked q))
certified-answer q field low (Ok r) given = product-certified q field low r given
certified-answer q field low (Err e) given = tt

-- what is due is given
pub gives-itself : (due : Result ProductReported ProductError) → GivesResult due due
gives-itself (Ok r) = refl
gives-itself (Err e) = inr refl
