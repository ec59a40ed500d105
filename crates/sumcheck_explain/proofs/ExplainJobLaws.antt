-- The numbers of a job of `explain` that a value describes are those of elements, and its lists fit together.
use Rattle.std.proofs.Common.{◌≡◌, ℕ, zero, suc, ◌-◌, ◌<◌, List, [], ◌∷◌, All, length, get_or, take, Bool, true, false, Option, Some, Ok, refl, sym, ◌∙◌, ap, subst, arith, eq-eqb, ne_eqb, if◌then◌else◌}
use Rattle.std.specs.Prelude.{◌==◌, ◌&&◌, codes, nat_le}
use Rattle.std.proofs.lemmas.Bool.{leb-true, eqb-true}
use Rattle.std.proofs.lemmas.List.Elements.{All-nil, All-cons, All-head, All-tail}
use Rattle.std.proofs.lemmas.Option.{cond_some, option_and_then_some}
use Rattle.serde_json.specs.Data.{Data}
use Rattle.sc_forms.specs.Forms.{is_object, list_form, list_of_length_form, pair_form}
use Rattle.sumcheck_members.specs.declared.job.FieldName.{FieldName}
use Rattle.sumcheck_members.specs.Members.{whole_job}
use Rattle.sumcheck_members.specs.Elements.{element_form, field_form, sizes_of}
use Rattle.sumcheck_members.specs.Stated.{AreElements}
use Rattle.sumcheck_members.proofs.FormLaws.{Gives, below-gives, list-gives, list_of_length-gives, pair-gives, needed-gives, any-gives, tested_ok, ok-same}
use Rattle.sumcheck_explain.specs.declared.job.ExplainJob.{ExplainJob}
use Rattle.sumcheck_explain.specs.ExplainJob.{most_masks, least_width, most_width, some_pieces, plain_form, elements_form, are_long, some_width, one_width, wires_form, explain_members_over, explain_members_of, explain_job_of, PlainFits, WiresFit, ElementsFit, ExplainJobFits}

-- ---- lists of one length

-- where all have it
pub are_long-all : (n : ℕ) (ms : List (List ℕ)) → All (λ m. length m ≡ n) ms → are_long n ms ≡ true
are_long-all n [] all = refl
are_long-all n (m ∷ ms) all =
    let P = λ (t : List ℕ). length t ≡ n in
    ap (λ b. if b then are_long n ms else false) (eq-eqb _ _ (All-head P m ms all)) ∙ are_long-all n ms (All-tail P m ms all)

-- where one has another
pub are_long-other : (n : ℕ) (ms : List (List ℕ)) (i : ℕ) (m : List ℕ) → i < length ms → m ≡ get_or ms i m → All (λ t. length t ≡ n) (take i ms) → (length m ≡ n → ⊥) →
    are_long n ms ≡ false
are_long-other n [] i m low is all other = absurd (omega (arith, low))
are_long-other n (t ∷ ms) zero m low is all other =
    ap (λ b. if b then are_long n ms else false) (ne_eqb (length t) n (λ e. other (ap length is ∙ e)))
are_long-other n (t ∷ ms) (suc i) m low is all other =
    let P = λ (t : List ℕ). length t ≡ n in
    ap (λ b. if b then are_long n ms else false) (eq-eqb _ _ (All-head P t (take i ms) all))
    ∙ are_long-other n ms i m (omega (arith, low)) is (All-tail P t (take i ms) all) other

-- what the test tells
long_first : (n : ℕ) (m : List ℕ) (ms : List (List ℕ)) (b : Bool) → (length m == n) ≡ b → (are_long n ms ≡ true → All (λ t. length t ≡ n) ms) →
    (if b then are_long n ms else false) ≡ true → All (λ t. length t ≡ n) (m ∷ ms)
long_first n m ms true same later rest = All-cons (λ t. length t ≡ n) m ms (eqb-true _ _ same) (later rest)
long_first n m ms false same later rest = cc

are_long-gives : (n : ℕ) (ms : List (List ℕ)) → are_long n ms ≡ true → All (λ m. length m ≡ n) ms
are_long-gives n [] is = All-nil (λ m. length m ≡ n)
are_long-gives n (m ∷ ms) is = long_first n m ms (length m == n) refl (λ rest. are_long-gives n ms rest) is

both_true : (a b : Bool) → a && b ≡ true → (a ≡ true) × (b ≡ true)
both_true true b is = (refl, is)
both_true false b is = cc

module _ (size : ℕ) where
  abbrev element : Data → Option ℕ
  element = element_form size

  -- ---- plain pieces

  plain-gives : Gives (plain_form size) (PlainFits size)
  plain-gives d ps is =
      option_and_then_some some_pieces (list_form (pair_form element) d) ps is (λ xs at some.
      let counted = cond_some (nat_le 1 (length xs) && nat_le (length xs) most_masks) xs ps some in
      let both = both_true (nat_le 1 (length xs)) (nat_le (length xs) most_masks) counted.0 in
      subst (PlainFits size) counted.1 (record {
        some = leb-true 1 (length xs) both.0;
        few = leb-true (length xs) most_masks both.1;
        pairs = list-gives (pair_form element) (pair-gives element (below-gives size)) d xs at;
      }))

  -- ---- wires

  wires-fit : (n : ℕ) (ws : List (List ℕ)) → some_width ws ≡ true → All (AreElements size) ws × (length ws ≡ n) → WiresFit size n ws
  wires-fit n [] is whole = cc
  wires-fit n (w ∷ ws) is whole =
      let some = both_true (nat_le least_width (length w)) (nat_le (length w) most_width && are_long (length w) (w ∷ ws)) is in
      let few = both_true (nat_le (length w) most_width) (are_long (length w) (w ∷ ws)) some.1 in
      record {
        count = whole.1;
        long = leb-true least_width (length w) some.0;
        few = leb-true (length w) most_width few.0;
        same = are_long-gives (length w) (w ∷ ws) few.1;
        elements = whole.0;
      }

  -- what the test lets through
  pub wires-kept : (n : ℕ) (xs ws : List (List ℕ)) → one_width xs ≡ Some ws → All (AreElements size) xs × (length xs ≡ n) → WiresFit size n ws
  wires-kept n xs ws some whole =
      let kept = cond_some (some_width xs) xs ws some in
      subst (WiresFit size n) kept.1 (wires-fit n xs kept.0 whole)

  wires-gives : (n : ℕ) → Gives (wires_form size n) (WiresFit size n)
  wires-gives n d ws is =
      option_and_then_some one_width (list_of_length_form (list_form element) n d) ws is (λ xs at some.
      wires-kept n xs ws some (list_of_length-gives (list_form element) (list-gives element (below-gives size)) n d xs at))

  -- ---- the members

  elements-gives : (n : ℕ) → Gives (elements_form size n) (ElementsFit size n)
  elements-gives n d xs is =
      let whole = list_of_length-gives element (below-gives size) n d xs is in
      record { elements = whole.0; count = whole.1 }

  members-fit : (field : FieldName) (d : Data) (job : ExplainJob) → explain_members_over field size d ≡ Ok job → (job.field ≡ field) × ExplainJobFits size job
  members-fit field d job is =
      needed-gives element (codes "eps") d _ job (below-gives size) is (λ eps e is.
      needed-gives (plain_form size) (codes "plain") d _ job plain-gives is (λ plain p is.
      needed-gives (elements_form size (length plain)) (codes "challenges") d _ job (elements-gives (length plain)) is (λ challenges c is.
      needed-gives element (codes "mu") d _ job (below-gives size) is (λ mu m is.
      needed-gives (wires_form size (length plain)) (codes "wires") d _ job (wires-gives (length plain)) is (λ wires w is.
      needed-gives (elements_form size (length plain - 1)) (codes "endpoints") d _ job (elements-gives (length plain - 1)) is (λ endpoints l is.
      subst (λ j. (j.field ≡ field) × ExplainJobFits size j)
      (ok-same (record { field = field; eps = eps; plain = plain; challenges = challenges; mu = mu; wires = wires; endpoints = endpoints }) job is)
      (refl, record { eps = e; plain = p; challenges = c; mu = m; wires = w; endpoints = l })))))))

-- each number of a job that a value describes is that of an element
pub explain_job_of-fits : (d : Data) (job : ExplainJob) → explain_job_of d ≡ Ok job → ExplainJobFits (sizes_of job.field).extension job
explain_job_of-fits d job is =
    needed-gives field_form (codes "field") d (λ field. explain_members_over field (sizes_of field).extension d) job (any-gives field_form)
    (tested_ok (is_object d) (explain_members_of d) whole_job job is) (λ field _ is.
    let fit = members-fit (sizes_of field).extension field d job is in
    subst (λ f. ExplainJobFits (sizes_of f).extension job) (sym fit.0) fit.1)
