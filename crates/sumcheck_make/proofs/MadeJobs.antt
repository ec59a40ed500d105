-- The job that a recipe makes: what it asks, and that it holds.
use Rattle.std.proofs.Common.{◌≡◌, inl, inr, ℕ, zero, suc, ◌+◌, ◌^◌, ◌<◌, ◌≤◌, ◌==◌, ◌||◌, min, nat_lt, false, if◌then◌else◌, List, [], ◌∷◌, ◌++◌, length, map, None, Some, refl, sym, ap, ◌∙◌, arith}
use Rattle.std.proofs.lemmas.Bool.Decides.{eqb_tells}
use Rattle.std.proofs.lemmas.Bool.{ne_eqb, le-ltb}
use Rattle.std.proofs.Common.{length-append}
use Rattle.sc_definitions.specs.declared.events.Event.{Event}
use Rattle.sc_definitions.specs.Ring.{Ops}
use Rattle.sc_definitions.specs.Residues.{residues}
use Rattle.sc_definitions.specs.Tables.{evaluation, prefix, rows_of}
use Rattle.sc_definitions.specs.Statements.{Kind, equality, successor, Statement, claims, first_false_claim}
use Rattle.sc_definitions.specs.Events.{Rules, own_extension}
use Rattle.sc_definitions.specs.Scripted.{scripted_rules}
use Rattle.sc_definitions.specs.Channels.{channel}
use Rattle.sc_definitions.proofs.Lengths.{pow-same}
use Rattle.sc_definitions.proofs.StatementLaws.{first_false_claim-true, first_false_claim-none}
use Rattle.sc_small_fields.specs.ResiduesLaws.{residues_field}
use Rattle.sc_table.specs.declared.strategy.Strategy.{Strategy}
use Rattle.sc_table.specs.declared.strategy.Strategy.TheVariants.{Plain, Represented, SmallValue}
use Rattle.sc_constraints.specs.declared.statement.Statements.{Statements}
use Rattle.sc_constraints.specs.declared.statement.Statements.TheVariants.{Eq, Next}
use Rattle.sc_statements.specs.declared.statement.eq.EqStatement.{EqStatement}
use Rattle.sc_statements.specs.declared.statement.next.NextStatement.{NextStatement}
use Rattle.sc_statements.specs.EqStatements.{eq_statements}
use Rattle.sc_statements.specs.NextStatements.{next_statements}
use Rattle.sc_constraints.specs.Groups.{all_statements}
use Rattle.sc_constraints.specs.FalseClaims.{capped}
use Rattle.sc_svo.specs.Grids.{most_rounds}
use Rattle.sc_audit_errors.specs.declared.error.AuditError.TheVariants.{StrategyUnfit}
use Rattle.sc_audit_errors.specs.declared.error.FitFault.TheVariants.{Variables}
use Rattle.sc_jobs.specs.Cases.{build, Asked}
use Rattle.sc_audit_errors.specs.Arities.{exponent_from, arity_of}
use Rattle.sc_jobs.specs.Refusals.{or_later, variables_refusal, first_unfit, strategy_refusal, shape_by, false_refusal, shape_refusal, refusal_of}
use Rattle.sc_jobs.specs.Stated.{asked_truly}
use Rattle.sc_audit_errors.proofs.ArityLaws.{exponent-next, exponent-found}
use Rattle.sumcheck_make.specs.declared.recipe.Recipe.{Recipe}
use Rattle.sumcheck_replies.specs.declared.reply.Outcome.TheVariants.{Holds}
use Rattle.sumcheck_audit.specs.Report.{case_reply}
use Rattle.sumcheck_make.specs.Recipes.{most_small, IsNamed, IsMade}
use Rattle.sumcheck_make.specs.Made.{value_at, Parts, parts_of, parts_end, PartsFit, true_statement, true_statements, problem_about, asked_about, values_behind, made_asked, made_reply, summary_lines}
use Rattle.sumcheck_audit.proofs.BuildReplies.{case_holds}
use Rattle.sumcheck_make.proofs.MadeLaws.{values-none, values-more}

-- ---- the parts of a recipe

pub values-count : (number i k : ℕ) → length (values_behind number i k) ≡ k
values-count number i zero = ap length (values-none number i)
values-count number i (suc k) =
    let one : k + 1 ≡ suc k = omega arith in
    ap length (values-more number i k) ∙ length-append (values_behind number i k) _ ∙ ap (λ n. n + 1) (values-count number i k) ∙ one

pub parts-fit : (number n : ℕ) → PartsFit (parts_of number n)
parts-fit number n =
    let points = values-count number (2 ^ n) n in
    record {
      rows = values-count number 0 (2 ^ n) ∙ ap (λ k. 2 ^ k) (sym points);
      same = values-count number (2 ^ n + n) n ∙ sym points;
    }

pub parts-same : (number n : ℕ) (table point next : List ℕ) (batching : ℕ) → table ≡ values_behind number 0 (2 ^ n) → point ≡ values_behind number (2 ^ n) n →
    next ≡ values_behind number (2 ^ n + n) n → batching ≡ value_at number (parts_end n) →
    ◌≡◌ {A = Parts} (record { table = table; point = point; successor = next; batching = batching }) (parts_of number n)
parts-same number n table point next batching et ep es eb = rw (et, ep, es, eb) refl

-- ---- what a job asks

-- the statements of two groups of one each
pub two-groups : {F : Type 0} (number : F → ℕ) (of : F → ℕ) (groups : List (Statements F F)) (e : EqStatement F) (n : NextStatement F) (s t : Statement) →
    groups ≡ [] ++ Eq e ∷ [] ++ Next n ∷ [] → eq_statements number e ≡ s ∷ [] → next_statements number n ≡ t ∷ [] → all_statements of number groups ≡ s ∷ t ∷ []
two-groups number of groups e n s t are one other =
    ap (all_statements of number) are ∙ ap (λ l. l ++ (next_statements number n ++ [])) one ∙ ap (λ l. s ∷ (l ++ [])) other

-- a job that has such a table, with statements at such points, asks this once they claim their true values
pub about-same : (o : Ops) (p : Parts) (strategy : Strategy) (R : Rules) (h : List Event) (rows n : ℕ) (table : ℕ → ℕ) (ss : List Statement) (c i : ℕ) →
    rows ≡ length p.table → n ≡ length p.point → table ≡ rows_of p.table → c ≡ p.batching → i ≡ 0 → ss ≡ claims (equality p.point) 0 ∷ claims (successor prefix [] p.successor) 0 ∷ [] →
    asked_truly (record {
      case = record {
        rows = rows;
        problem = record { basis = evaluation; order = prefix; variables = n; table = λ b. table b; statements = ss; batching = c; initial = i };
        task = build strategy;
      };
      ops = o;
      channel = channel R own_extension o.size 0;
      history = h;
    }) ≡ asked_about o p strategy R h
about-same o p strategy R h rows n table ss c i er en et ec ei es = rw (es, er, en, et, ec, ei) refl

-- what is answered to such a job of a recipe's parts and draws is replied to the recipe
pub about-reply : (r : Recipe) (rows : ℕ) (q : Asked) (p : Parts) (draws : List ℕ) (good : List (List ℕ)) (R : Rules) (h : List Event) →
    rows ≡ 2 ^ r.variables → q ≡ asked_about (residues 65537) p r.strategy R h → p ≡ parts_of r.number r.variables → R ≡ scripted_rules draws good →
    draws ≡ values_behind r.number (parts_end r.variables) r.variables → good ≡ [] → h ≡ [] → case_reply (summary_lines rows 2 (residues 65537)) q ≡ made_reply r
about-reply r rows q p draws good R h er eq ep es ed eg eh =
    let o = residues 65537 in
    ap (case_reply (summary_lines rows 2 o)) (eq ∙ ap (λ k. asked_about o k r.strategy R h) ep ∙ ap (λ k. asked_about o (parts_of r.number r.variables) r.strategy k h)
    (es ∙ ap (λ d. scripted_rules d good) ed ∙ ap (scripted_rules (values_behind r.number (parts_end r.variables) r.variables)) eg)
    ∙ ap (asked_about o (parts_of r.number r.variables) r.strategy (scripted_rules (values_behind r.number (parts_end r.variables) r.variables) [])) eh)
    ∙ ap (λ k. case_reply (summary_lines k 2 o) (made_asked r)) er

-- ---- that it holds

later_than : (k n : ℕ) → k ≤ n → (k ≡ n → ⊥) → suc k ≤ n
later_than k n low other = grind arith

exponent-at : (k n count : ℕ) → k ≤ n → n < k + count → exponent_from k count (2 ^ n) ≡ Some n
exponent-at k n zero low high = absurd (omega arith)
exponent-at k n (suc count) low high = elim (eqb_tells (2 ^ n) (2 ^ k)) [
  | inl t ↦ exponent-found k count (suc count) (2 ^ n) refl t.1 ∙ ap Some (sym (pow-same n k t.1))
  | inr t ↦ (let other : k ≡ n → ⊥ = λ same. t.1 (ap (λ j. 2 ^ j) (sym same)) in
      let later : suc k ≤ n = later_than k n low other in
      exponent-next k count (suc count) (2 ^ n) refl t.1 ∙ exponent-at (suc k) n count later (omega arith))
]

power-arity : (n : ℕ) → n < 25 → arity_of (2 ^ n) ≡ Some n
unfolding arity_of
power-arity n low = exponent-at 0 n 25 (omega arith) (omega arith)

small-fits : (n v : ℕ) → 0 < n → v ≡ min n most_small → variables_refusal (min n most_rounds) v ≡ None
small-fits n v some is =
    let positive : (v == 0) ≡ false = ne_eqb v 0 (λ none. let clash : 0 < 0 = omega (arith, some, is, none) in absurd (omega (arith, clash))) in
    let within : nat_lt (min n most_rounds) v ≡ false = le-ltb (min n most_rounds) v (omega (arith, is)) in
    ap (λ b. if b || nat_lt (min n most_rounds) v then Some (StrategyUnfit (Variables v (min n most_rounds))) else None) positive
    ∙ ap (λ b. if b then Some (StrategyUnfit (Variables v (min n most_rounds))) else None) within

unrefused-strategy : (o : Ops) (p : Parts) (n : ℕ) (strategy : Strategy) → length p.point ≡ n → 0 < n → IsNamed n strategy → strategy_refusal (problem_about o p) strategy ≡ None
unfolding first_unfit
unrefused-strategy o p n Plain count some named = refl
unrefused-strategy o p n Represented count some named = refl
unrefused-strategy o p n (SmallValue v) count some named =
    ap (λ first. or_later first None) (small-fits (length p.point) v (omega (arith, some, count)) (named ∙ ap (λ k. min k most_small) (sym count)))

unrefused-shape : (rows n : ℕ) → n < 25 → rows ≡ 2 ^ n → shape_by (arity_of rows) 16 rows 0 n evaluation prefix ≡ None
unrefused-shape rows n low is =
    ap (λ r. shape_by (arity_of r) 16 rows 0 n evaluation prefix) is ∙ ap (λ k. shape_by k 16 rows 0 n evaluation prefix) (power-arity n low)
    ∙ elim (eqb_tells n n) [ inl t ↦ rw t.0 refl | inr t ↦ absurd (t.1 refl) ]

all_true : (o : Ops) (n : ℕ) (f : ℕ → ℕ) (i : ℕ) (kinds : List Kind) → first_false_claim o n f i (map (true_statement o n f) kinds) ≡ None
all_true o n f i [] = first_false_claim-none o n f i
all_true o n f i (kind ∷ kinds) = first_false_claim-true o n f i (true_statement o n f kind) (map (true_statement o n f) kinds) refl ∙ all_true o n f (suc i) kinds

-- the shape of such a job of a recipe's parts and draws is not refused
pub about-shape : (r : Recipe) (q : Asked) (p : Parts) (draws : List ℕ) (good : List (List ℕ)) (R : Rules) (h : List Event) → IsMade r →
    asked_truly q ≡ asked_about (residues 65537) p r.strategy R h → p ≡ parts_of r.number r.variables → R ≡ scripted_rules draws good → shape_refusal q ≡ None
about-shape r q p draws good R h made eq ep es =
    let o = residues 65537 in
    let parts = parts_of r.number r.variables in
    let n = length parts.point in
    let count : n ≡ r.variables = values-count r.number (2 ^ r.variables) r.variables in
    let low : n < 25 = omega (arith, count, made.few) in
    ap shape_refusal (eq ∙ ap (λ k. asked_about o k r.strategy R h) ep ∙ ap (λ k. asked_about o parts r.strategy k h) es)
    ∙ unrefused-shape (length parts.table) n low (parts-fit r.number r.variables).rows

made-unrefused : (r : Recipe) → IsMade r → refusal_of (made_asked r) ≡ None
made-unrefused r made =
    let p = parts_of r.number r.variables in
    let n = length p.point in
    let count : n ≡ r.variables = values-count r.number (2 ^ r.variables) r.variables in
    let rows : length p.table ≡ 2 ^ n = (parts-fit r.number r.variables).rows in
    let low : n < 25 = omega (arith, made.few) in
    let o = residues 65537 in
    let q = problem_about o p in
    let falsehood = false_refusal (capped (first_false_claim o n (rows_of p.table) 0 (true_statements o p))) in
    ap (λ first. or_later first (or_later (strategy_refusal q r.strategy) falsehood)) (unrefused-shape (length p.table) n low rows)
    ∙ ap (λ first. or_later first falsehood) (unrefused-strategy o p r.variables r.strategy count made.some made.strategy)
    ∙ ap (λ found. false_refusal (capped found)) (all_true o n (rows_of p.table) 0 (equality p.point ∷ successor prefix [] p.successor ∷ []))

-- what is replied to a recipe holds
pub made-holds : (r : Recipe) → IsMade r → (made_reply r).outcome ≡ Holds
made-holds r made =
    elim (case_holds (summary_lines (2 ^ r.variables) 2 (residues 65537)) (made_asked r) residues_field.ring tt r.strategy refl (made-unrefused r made)) [
      | inl holding ↦ holding
      | inr lacking ↦ (let none : 0 < 0 = lacking.0 in absurd (omega arith))
    ]
