-- The numbers of a job of `openings` that a value describes are those of elements, and it has a table.
use Rattle.std.proofs.Common.{◌≡◌, ℕ, ◌≤◌, List, length, Bool, true, false, All, Option, Result, Ok, Err, refl, sym, ap, subst, ◌∙◌}
use Rattle.std.specs.Prelude.{◌&&◌, codes, nat_le, IsErrAnd}
use Rattle.std.proofs.lemmas.Bool.{leb-true}
use Rattle.std.proofs.lemmas.Option.{same_Some, cond_some, option_and_then_some}
use Rattle.serde_json.specs.Data.{Data}
use Rattle.serde_json.specs.Find.{as_bool}
use Rattle.sc_forms.specs.Forms.{at_most_form, is_object, list_form}
use Rattle.sumcheck_audit.specs.Job.{proof_form}
use Rattle.sumcheck_audit.proofs.JobLaws.{proof-gives}
use Rattle.sumcheck_members.specs.declared.job.FieldName.{FieldName}
use Rattle.sumcheck_members.specs.declared.job.Sizes.{Sizes}
use Rattle.sumcheck_members.specs.declared.job.Challenger.{Challenger}
use Rattle.sumcheck_members.specs.declared.mode.BuildOrCheck.{BuildOrCheck}
use Rattle.sumcheck_members.specs.Members.{Name, whole_job, needed, unless_misfit}
use Rattle.sumcheck_members.specs.Elements.{element_form, field_form, sizes_of}
use Rattle.sumcheck_members.specs.Stated.{challenger_form, AreElements}
use Rattle.sumcheck_members.proofs.FormLaws.{Gives, below-gives, at_most-gives, list-gives, with_member-gives, needed-gives, build_or_check-gives, any-gives, tested_ok, ok-same}
use Rattle.sumcheck_members.proofs.StatedLaws.{challenger-gives}
use Rattle.sumcheck_openings.specs.declared.job.ClaimGiven.{ClaimGiven}
use Rattle.sumcheck_openings.specs.declared.job.ProofGiven.{ProofGiven}
use Rattle.sumcheck_openings.specs.declared.job.OpeningsJob.{OpeningsJob}
use Rattle.sumcheck_openings.specs.OpeningsJob.{within, list_within_form, tables_form, claim_form, claims_form, proof_given_form, openings_mode_form, openings_members_over, openings_members_of, openings_job_of, ClaimFits, ProofGivenFits, OpeningsJobFits}

both_true : (a b : Bool) → a && b ≡ true → (a ≡ true) × (b ≡ true)
both_true true b is = (refl, is)
both_true false b is = cc

-- a list of so many items of a form has what each of them has, and as many
within-gives : {B : Type 0} {P : B → Type 0} (least most : ℕ) (form : Data → Option B) → Gives form P → Gives (list_within_form least most form) (λ xs. All P xs × (least ≤ length xs))
within-gives {B} {P} least most form gives d xs is =
    option_and_then_some (within least most) (list_form form d) xs is (λ ys at some.
    let counted = cond_some (nat_le least (length ys) && nat_le (length ys) most) ys xs some in
    let both = both_true (nat_le least (length ys)) (nat_le (length ys) most) counted.0 in
    subst (λ zs. All P zs × (least ≤ length zs)) counted.1 (list-gives form gives d ys at, leb-true least (length ys) both.0))

module _ (sizes : Sizes) where
  abbrev base_element : Data → Option ℕ
  base_element = element_form sizes.base

  abbrev extension_element : Data → Option ℕ
  extension_element = element_form sizes.extension

  tables-gives : Gives (tables_form sizes) (λ tables. All (AreElements sizes.base) tables × (1 ≤ length tables))
  tables-gives = within-gives 1 64 (list_form base_element) (list-gives base_element (below-gives sizes.base))

  claim-gives : Gives (claim_form sizes) (ClaimFits sizes.extension)
  claim-gives d c is =
      with_member-gives d (codes "table") (at_most_form 65535) _ c (at_most-gives 65535) is (λ table _ is.
      with_member-gives d (codes "point") (list_form extension_element) _ c (list-gives extension_element (below-gives sizes.extension)) is (λ point lows is.
      with_member-gives d (codes "successor") as_bool _ c (any-gives as_bool) is (λ successor _ is.
      with_member-gives d (codes "value") extension_element _ c (below-gives sizes.extension) is (λ value low is.
      subst (ClaimFits sizes.extension) (same_Some (record { table = table; point = point; successor = successor; value = value }) c is)
      (record { point = lows; value = low })))))

  claims-gives : Gives (claims_form sizes) (λ claims. All (ClaimFits sizes.extension) claims × (0 ≤ length claims))
  claims-gives = within-gives 0 4096 (claim_form sizes) claim-gives

  proof_given-gives : Gives (proof_given_form sizes) (ProofGivenFits sizes)
  proof_given-gives d p is =
      option_and_then_some _ (proof_form sizes d) p is (λ rounds at is.
      with_member-gives d (codes "openings") (list_form extension_element) _ p (list-gives extension_element (below-gives sizes.extension)) is (λ openings lows is.
      subst (ProofGivenFits sizes) (same_Some (record { rounds = rounds; openings = openings }) p is)
      (record { rounds = proof-gives sizes d rounds at; openings = lows })))

  members-fit : (field : FieldName) (d : Data) (job : OpeningsJob) → openings_members_over field sizes d ≡ Ok job → (job.field ≡ field) × OpeningsJobFits sizes job
  members-fit field d job is =
      needed-gives (challenger_form sizes) (codes "challenger") d _ job (challenger-gives sizes) is (λ challenger c is.
      needed-gives (at_most_form 65535) (codes "bits") d _ job (at_most-gives 65535) is (λ bits _ is.
      needed-gives (tables_form sizes) (codes "tables") d _ job tables-gives is (λ tables t is.
      needed-gives (at_most_form 64) (codes "variables") d _ job (at_most-gives 64) is (λ variables _ is.
      needed-gives (claims_form sizes) (codes "claims") d _ job claims-gives is (λ claims l is.
      needed-gives (openings_mode_form sizes) (codes "mode") d _ job (build_or_check-gives (proof_given_form sizes) proof_given-gives) is (λ mode m is.
      subst (λ j. (j.field ≡ field) × OpeningsJobFits sizes j)
      (ok-same (record { field = field; challenger = challenger; bits = bits; tables = tables; variables = variables; claims = claims; mode = mode }) job is)
      (refl, record { challenger = c; some = t.1; tables = t.0; claims = l.0; mode = m })))))))

-- what goes on with a member that was read
goes-on : {B C : Type 0} (r : Result B Name) (x : B) (rest : B → Result C Name) → r ≡ Ok x → unless_misfit r rest ≡ rest x
goes-on r x rest is = ap (λ t. unless_misfit t rest) is

module _ (field : FieldName) (sizes : Sizes) (d : Data) (challenger : Challenger) (bits : ℕ) (tables : List (List ℕ)) (variables : ℕ)
    (ch : needed (challenger_form sizes) (codes "challenger") d ≡ Ok challenger) (bi : needed (at_most_form 65535) (codes "bits") d ≡ Ok bits)
    (ta : needed (tables_form sizes) (codes "tables") d ≡ Ok tables) (va : needed (at_most_form 64) (codes "variables") d ≡ Ok variables) where
  -- the job of members that were all read
  pub members-read : (claims : List ClaimGiven) (mode : BuildOrCheck ProofGiven) → needed (claims_form sizes) (codes "claims") d ≡ Ok claims →
      needed (openings_mode_form sizes) (codes "mode") d ≡ Ok mode →
      openings_members_over field sizes d ≡ Ok (record { field = field; challenger = challenger; bits = bits; tables = tables; variables = variables; claims = claims; mode = mode })
  members-read claims mode cl mo =
      goes-on _ challenger _ ch ∙ goes-on _ bits _ bi ∙ goes-on _ tables _ ta ∙ goes-on _ variables _ va ∙ goes-on _ claims _ cl ∙ goes-on _ mode _ mo

  -- the claims are not of their form, and what stands before them is
  pub claims-misfit : (m : Name) → needed (claims_form sizes) (codes "claims") d ≡ Err m → openings_members_over field sizes d ≡ Err m
  claims-misfit m cl =
      goes-on _ challenger _ ch ∙ goes-on _ bits _ bi ∙ goes-on _ tables _ ta ∙ goes-on _ variables _ va
      ∙ ap (λ t. unless_misfit t (λ claims. unless_misfit (needed (openings_mode_form sizes) (codes "mode") d) (λ mode.
      Ok (record { field = field; challenger = challenger; bits = bits; tables = tables; variables = variables; claims = claims; mode = mode })))) cl

-- an error that is passed on is the one that came
pub same-error : {X Y E : Type 0} (r : Result X E) (e u : E) → IsErrAnd r (λ x. x ≡ e) → r ≡ Err u → ◌≡◌ {A = Result Y E} (Err e) (Err u)
same-error (Ok x) e u given is = elim given [ ]
same-error (Err x) e u given is = cc

pub openings_job_of-fits : (d : Data) (job : OpeningsJob) → openings_job_of d ≡ Ok job → OpeningsJobFits (sizes_of job.field) job
openings_job_of-fits d job is =
    needed-gives field_form (codes "field") d (λ field. openings_members_over field (sizes_of field) d) job (any-gives field_form)
    (tested_ok (is_object d) (openings_members_of d) whole_job job is) (λ field _ is.
    let fit = members-fit (sizes_of field) field d job is in
    subst (λ f. OpeningsJobFits (sizes_of f) job) (sym fit.0) fit.1)
