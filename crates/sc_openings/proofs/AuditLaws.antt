-- The answer as a whole: what is refused before an event, that a build holds, and that a lucky challenge is certified.
use Rattle.std.proofs.Common.{◌≡◌, inl, inr, ⊎_elim, ℕ, suc, ◌<◌, ◌≤◌, Bool, true, false, List, [], ◌∷◌, All, length, map, if◌then◌else◌, Option, Some, None, Result, Ok, Err, refl, ap, sym, ◌∙◌, subst, arith}
use Rattle.std.specs.Prelude.{nat_lt, ◌==◌, ◌^◌, IfOk, Vec}
use Rattle.std.specs.Global.{Global}
use Rattle.std.proofs.lemmas.List.{length-map}
use Rattle.std.proofs.lemmas.List.Elements.{All-map}
use Rattle.sc_definitions.specs.declared.events.Event.{Event}
use Rattle.sc_definitions.specs.declared.false_claim.FalseClaim.{FalseClaim as FalseStatement}
use Rattle.sc_definitions.specs.Ring.{IsField}
use Rattle.sc_definitions.specs.Statements.{Statement, arity_of}
use Rattle.sc_definitions.specs.Transcript.{Round}
use Rattle.sc_definitions.specs.Channels.{Wire}
use Rattle.sc_definitions.proofs.WitnessLaws.{IsBuiltOr, honest_rounds-built}
use Rattle.sc_definitions.proofs.ReplayLaws.{length-given_rounds, messages-given_rounds}
use Rattle.sc_challenger.specs.Parties.{Party}
use Rattle.sc_transcript.specs.Data.{witness_count}
use Rattle.sc_audit_errors.specs.Findings.{holds, lucky}
use Rattle.sc_soundness.specs.Merged.{honest_merged}
use Rattle.sc_merge_definitions.specs.Openings.{TableClaim, OpeningsCase, IsOpeningsCase, OpeningsFigures, AreBuiltOpenings, weighted_tables, openings_figures, first_false_table_claim, CertifiesOpenings}
use Rattle.sc_merge_definitions.proofs.OpeningLaws.{all-true, certified-openings, holds-openings}
use Rattle.sc_openings.specs.declared.claim.OpeningClaim.{OpeningClaim}
use Rattle.sc_openings.specs.declared.error.MergeError.{MergeError}
use Rattle.sc_openings.specs.declared.error.MergeError.TheVariants.{TableLength, ClaimTable, ClaimArity, Difficulty, FalseClaim, OpeningCount, RoundCountMismatch, PowWitnessCountMismatch, NoMemory}
use Rattle.sc_openings.specs.OpeningsJobs.{Fields, claim_in, claimed_in, case_of, OpeningsJob, CameOpenings}
use Rattle.sc_openings.specs.Shapes.{or_later, first_fault, first_table_fault, length_fault, tables_fault, name_fault, arity_fault, shape_fault, difficulty_fault, early_fault}
use Rattle.sc_openings.specs.OpeningsRounds.{rounds_start, openings_built, with_openings, unless_fault, openings_fault, counts_fault, proof_fault, witness_fault, rounds_given, sent_given}
use Rattle.sc_openings.specs.OpeningsReports.{GivesResult, given_result, built_result, claim_fault, task_result, openings_result}
use Rattle.sc_openings.specs.OpeningsAudits.{LeavesHistory, IsAnswered, HoldsOrLacks, HoldsWhereBuilt}
use Rattle.sc_openings.proofs.ShapeLaws.{are-fitting}
use Rattle.sc_openings.proofs.ReplayLaws.{rounds-counted}

-- ---- the case

module _ {F EF : Type 0} (base : F → ℕ) (number : EF → ℕ) (fs : Fields) (n : ℕ) (tables : List (Vec F Global)) (claims : List (OpeningClaim EF)) (bits : ℕ) (party : Party) where
  pub case-is : IsField fs.ops → ((x : EF) → number x < fs.ops.size) → 1 ≤ length tables →
      shape_fault n (map (λ t. length t.items) tables) (map (claim_in number) claims) ≡ None → IsOpeningsCase (case_of fs (claimed_in base number n tables claims) bits party)
  case-is field below some none =
      let q : OpeningsCase = case_of fs (claimed_in base number n tables claims) bits party in
      let lens = map (λ t. length t.items) tables in
      let count : length lens ≡ length tables = length-map tables _ in
      let size : length lens ≡ length q.tables = count ∙ sym (length-map (claimed_in base number n tables claims).tables _ ∙ length-map tables _) in
      let fit = are-fitting n lens (map (claim_in number) claims) (omega (arith, count, some)) none in
      record {
        field = field;
        named = subst (λ k. All (λ c. c.table < k) q.claims) size fit.named;
        below = All-map (λ x. x < fs.ops.size) (λ (s : Statement). s.claimed) (map (λ (c : TableClaim). c.statement) q.claims)
            (All-map (λ (s : Statement). s.claimed < fs.ops.size) (λ (c : TableClaim). c.statement) q.claims
            (All-map (λ (c : TableClaim). c.statement.claimed < fs.ops.size) (claim_in number) claims (λ k d low. below _)));
      }

-- a refusal of a false claim is none where there is none
pub claim-none : (d : Option FalseStatement) → None ≡ claim_fault d → d ≡ None
claim-none None is = refl
claim-none (Some d) is = cc

-- ---- what is refused before an event

abbrev IsEarly : MergeError → Type 0
IsEarly (TableLength table len) = Unit {0}
IsEarly (ClaimTable claim table) = Unit {0}
IsEarly (ClaimArity claim expected actual) = Unit {0}
IsEarly (Difficulty bits bound) = Unit {0}
IsEarly (FalseClaim claim claimed actual) = Unit {0}
IsEarly (OpeningCount expected actual) = Unit {0}
IsEarly (RoundCountMismatch expected actual) = Unit {0}
IsEarly (PowWitnessCountMismatch expected actual) = Unit {0}
IsEarly e = ⊥

-- each refusal that is found is such a one
abbrev AreEarly : Option MergeError → Type 0
AreEarly None = Unit {0}
AreEarly (Some e) = IsEarly e

early_or : (a b : Option MergeError) → AreEarly a → AreEarly b → AreEarly (or_later a b)
early_or None b pa pb = pb
early_or (Some e) b pa pb = pa

early_if : (b : Bool) (x y : Option MergeError) → AreEarly x → AreEarly y → AreEarly (if b then x else y)
early_if true x y px py = px
early_if false x y px py = py

early_first : {X : Type 0} (test : ℕ → X → Option MergeError) → ((i : ℕ) (x : X) → AreEarly (test i x)) → (i : ℕ) (xs : List X) → AreEarly (first_fault test i xs)
early_first test each i [] = tt
early_first test each i (x ∷ xs) = early_or (test i x) (first_fault test (suc i) xs) (each i x) (early_first test each (suc i) xs)

early_table : (lens : List ℕ) → AreEarly (first_table_fault lens)
early_table [] = tt
early_table (len ∷ lens) = tt

early_all : (job : OpeningsJob) → AreEarly (early_fault job)
early_all job =
    let q = job.case in
    let n = q.variables in
    let lens = job.lengths in
    let lengths = early_first (length_fault n) (λ i len. early_if (len == 2 ^ n) None (Some (TableLength i len)) tt tt) 0 lens in
    let tables = early_if (nat_lt 16 n) (first_table_fault lens) (first_fault (length_fault n) 0 lens) (early_table lens) lengths in
    let names = early_first (name_fault (length lens)) (λ i c. early_if (nat_lt c.table (length lens)) None (Some (ClaimTable i c.table)) tt tt) 0 q.claims in
    let arities = early_first (arity_fault n)
    (λ i c. early_if (arity_of n c.statement.kind == n) None (Some (ClaimArity i n (arity_of n c.statement.kind))) tt tt) 0 q.claims in
    let bits = early_if (nat_lt q.channel.rules.max_bits q.channel.bits) (Some (Difficulty q.channel.bits q.channel.rules.max_bits)) None tt tt in
    let rest = early_or (first_fault (name_fault (length lens)) 0 q.claims) (first_fault (arity_fault n) 0 q.claims) names arities in
    early_or (shape_fault n lens q.claims) (difficulty_fault q.channel.bits q.channel.rules.max_bits)
    (early_or (tables_fault n lens) (or_later (first_fault (name_fault (length lens)) 0 q.claims) (first_fault (arity_fault n) 0 q.claims)) tables rest) bits

-- it leaves the history as it was
kept_history : (q : OpeningsCase) (came : Option CameOpenings) (e : MergeError) → IsEarly e → LeavesHistory q came (Err e) q.history
kept_history q came (TableLength table len) is = refl
kept_history q came (ClaimTable claim table) is = refl
kept_history q came (ClaimArity claim expected actual) is = refl
kept_history q came (Difficulty bits bound) is = refl
kept_history q came (FalseClaim claim claimed actual) is = refl
kept_history q came (OpeningCount expected actual) is = refl
kept_history q came (RoundCountMismatch expected actual) is = refl
kept_history q came (PowWitnessCountMismatch expected actual) is = refl
kept_history q came e is = absurd is

module _ (job : OpeningsJob) (came : Option CameOpenings) where
  module _ (e : MergeError) (refused : early_fault job ≡ Some e) where
    pub refused-result : GivesResult (openings_result job came) (Err e)
    refused-result = inr (ap (λ t. unless_fault t (task_result job.case came)) refused)

    pub refused-history : LeavesHistory job.case came (Err e) job.case.history
    refused-history = kept_history job.case came e (subst AreEarly refused (early_all job))

  -- what is answered of claims that fit
  pub answered-result : (answer : Result OpeningsFigures MergeError) (h' : List Event) → early_fault job ≡ None → IsAnswered job.case came answer h' →
      GivesResult (openings_result job came) answer
  answered-result answer h' none a = subst (λ due. GivesResult due answer) (sym (ap (λ t. unless_fault t (task_result job.case came)) none)) a.result

-- a false claim is refused, and want of memory before an event
pub false-answered : (q : OpeningsCase) (e : MergeError) → claim_fault (first_false_table_claim q 0 q.claims) ≡ Some e → IsAnswered q None (Err e) q.history
false-answered q e is = record {
  result = inr (ap (λ t. unless_fault t (built_result q (openings_built q))) is);
  history = kept_history q None e (subst AreEarly is (early_claim (first_false_table_claim q 0 q.claims)));
} where
  early_claim : (d : Option FalseStatement) → AreEarly (claim_fault d)
  early_claim None = tt
  early_claim (Some d) = tt

pub no_memory-answered : (q : OpeningsCase) (came : Option CameOpenings) → IsAnswered q came (Err NoMemory) q.history
no_memory-answered q came = record { result = inl refl; history = inl refl }

early_counts : (n bits : ℕ) (w : Wire) → AreEarly (counts_fault n bits w)
early_counts n bits w = by (length w.messages == n) (length w.witnesses == witness_count bits n) where
  by : (a b : Bool) →
      AreEarly (if a then (if b then None else Some (PowWitnessCountMismatch (witness_count bits n) (length w.witnesses))) else Some (RoundCountMismatch n (length w.messages)))
  by true true = tt
  by true false = tt
  by false b = tt

early_openings : (tables : ℕ) (openings : List ℕ) → AreEarly (openings_fault tables openings)
early_openings tables openings = by (length openings == tables) where
  by : (a : Bool) → AreEarly (if a then None else Some (OpeningCount tables (length openings)))
  by true = tt
  by false = tt

-- so are other counts than those that have to come
pub counts-answered : (q : OpeningsCase) (came : CameOpenings) (e : MergeError) → proof_fault (length q.tables) q.variables q.channel.bits came ≡ Some e → IsAnswered q (Some came) (Err e) q.history
counts-answered q came e is = record {
  result = inr (ap (λ t. given_result q (unless_fault t (unless_fault (witness_fault q (rounds_given came.wire)) (Ok (sent_given came))))) is);
  history = kept_history q (Some came) e
      (subst AreEarly is
      (early_or (openings_fault (length q.tables) came.openings) (counts_fault q.variables q.channel.bits came.wire) (early_openings (length q.tables) came.openings)
      (early_counts q.variables q.channel.bits came.wire)));
}

-- what is answered of a case that is this one
pub asked-answered : (q q' : OpeningsCase) (came came' : Option CameOpenings) (answer : Result OpeningsFigures MergeError) (h' : List Event) → q' ≡ q → came ≡ came' →
    IsAnswered q' came' answer h' → IsAnswered q came answer h'
asked-answered q q' came came' answer h' same came_is a =
    subst (λ t. IsAnswered t came answer h') same (subst (λ t. IsAnswered q' t answer h') (sym came_is) a)

-- ---- a build

-- a word of what is due is one of what is answered
answered_so : (bits : ℕ) (due answer : Result OpeningsFigures MergeError) → GivesResult due answer → HoldsOrLacks bits due → HoldsOrLacks bits answer
answered_so bits due (Ok f) is so = subst (HoldsOrLacks bits) is so
answered_so bits due (Err e) given so =
    ⊎_elim (λ memory. subst (λ x. HoldsOrLacks bits (Err x)) (sym memory) tt) (λ is. subst (HoldsOrLacks bits) is so) given

module _ (q : OpeningsCase) where
  abbrev IsBuiltHere : Result (List Round) ℕ → Type 0
  IsBuiltHere built =
      IsBuiltOr q.channel.rules q.channel.extension q.channel.base_size (honest_merged q.ops (weighted_tables q)) q.channel.bits (rounds_start q) [] q.variables built

  is_built : IsBuiltHere (openings_built q)
  is_built = honest_rounds-built q.channel.rules q.channel.extension q.channel.base_size (honest_merged q.ops (weighted_tables q)) q.channel.bits (rounds_start q) [] q.variables

  are_built : (rounds : List Round) → IsBuiltHere (Ok rounds) → AreBuiltOpenings q (with_openings q rounds)
  are_built rounds b = record { built = b.1; count = b.0; openings = refl }

  holds_so : (built : Result (List Round) ℕ) → IsOpeningsCase q → first_false_table_claim q 0 q.claims ≡ None → IsBuiltHere built → HoldsOrLacks q.channel.bits (built_result q built)
  holds_so (Ok rounds) is none b = holds-openings q is (with_openings q rounds) (are_built rounds b) (all-true q is 0 q.claims none)
  holds_so (Err i) is none positive = positive

  -- ---- certificates

  certified_built : (built : Result (List Round) ℕ) (f : OpeningsFigures) → IsOpeningsCase q → first_false_table_claim q 0 q.claims ≡ None → IsBuiltHere built → built_result q built ≡ Ok f →
      CertifiesOpenings q f
  certified_built (Ok rounds) f is none b due =
      let same : openings_figures q (with_openings q rounds) ≡ f = cc in
      let all = all-true q is 0 q.claims none in
      let finds = holds-openings q is (with_openings q rounds) (are_built rounds b) all in
      subst (CertifiesOpenings q) same
      (record {
        named = λ l found. (let both : holds ≡ lucky l = sym finds ∙ found in cc);
        no_other = λ matched wrong. absurd (wrong all);
      })
  certified_built (Err i) f is none b due = cc

  certified_true : (fault : Option FalseStatement) (f : OpeningsFigures) → first_false_table_claim q 0 q.claims ≡ fault → IsOpeningsCase q →
      unless_fault (claim_fault fault) (built_result q (openings_built q)) ≡ Ok f → CertifiesOpenings q f
  certified_true None f none is due = certified_built (openings_built q) f is none is_built due
  certified_true (Some d) f some is due = cc

  -- what came sends two values a round
  abbrev pub ArePairs : Option CameOpenings → Type 0
  ArePairs None = Unit {0}
  ArePairs (Some came) = All (λ values. length values ≡ 2) came.wire.messages

  certified_given : (came : CameOpenings) (f : OpeningsFigures) → IsOpeningsCase q → All (λ values. length values ≡ 2) came.wire.messages →
      (counts witness : Option MergeError) → proof_fault (length q.tables) q.variables q.channel.bits came ≡ counts →
      given_result q (unless_fault counts (unless_fault witness (Ok (sent_given came)))) ≡ Ok f → CertifiesOpenings q f
  certified_given came f is pairs None None none due =
      let same : openings_figures q (sent_given came) ≡ f = cc in
      subst (CertifiesOpenings q) same
      (certified-openings q is (sent_given came)
      (length-given_rounds came.wire.messages came.wire.witnesses ∙ (rounds-counted (length q.tables) q.variables q.channel.bits came none).0)
      (subst (All (λ values. length values ≡ 2)) (sym (messages-given_rounds came.wire.messages came.wire.witnesses)) pairs))
  certified_given came f is pairs None (Some e) none due = cc
  certified_given came f is pairs (Some e) witness none due = cc

  certified_task : (came : Option CameOpenings) (f : OpeningsFigures) → IsOpeningsCase q → ArePairs came → task_result q came ≡ Ok f → CertifiesOpenings q f
  certified_task None f is pairs due = certified_true (first_false_table_claim q 0 q.claims) f refl is due
  certified_task (Some came) f is pairs due =
      certified_given came f is pairs (proof_fault (length q.tables) q.variables q.channel.bits came) (witness_fault q (rounds_given came.wire)) refl due

module _ (job : OpeningsJob) (case : early_fault job ≡ None → IsOpeningsCase job.case) where
  pub openings-hold : (came : Option CameOpenings) (answer : Result OpeningsFigures MergeError) → GivesResult (openings_result job came) answer → HoldsWhereBuilt job came answer
  openings-hold came answer given = λ fits build none.
      let q = job.case in
      let due : openings_result job came ≡ built_result q (openings_built q) =
      ap (λ t. unless_fault t (task_result q came)) fits ∙ ap (task_result q) build ∙ ap (λ t. unless_fault (claim_fault t) (built_result q (openings_built q))) none in
      answered_so q.channel.bits (built_result q (openings_built q)) answer (subst (λ d. GivesResult d answer) due given) (holds_so q (openings_built q) (case fits) none (is_built q))

  certified_asked : (fault : Option MergeError) (came : Option CameOpenings) (f : OpeningsFigures) → early_fault job ≡ fault → ArePairs job.case came →
      unless_fault fault (task_result job.case came) ≡ Ok f → CertifiesOpenings job.case f
  certified_asked None came f fits pairs due = certified_task job.case came f (case fits) pairs due
  certified_asked (Some e) came f fits pairs due = cc

  pub openings-certified : (came : Option CameOpenings) (answer : Result OpeningsFigures MergeError) → ArePairs job.case came → GivesResult (openings_result job came) answer →
      IfOk answer (CertifiesOpenings job.case)
  openings-certified came (Ok f) pairs given = certified_asked (early_fault job) came f refl pairs given
  openings-certified came (Err e) pairs given = tt
