-- The numbers of a job of `matmul` that a value describes are those of elements, and its rows are those of matrices.
use Rattle.std.proofs.Common.{◌≡◌, ℕ, ◌+◌, ◌*◌, List, [], ◌∷◌, length, Bool, true, false, Option, Result, Ok, refl, sym, ap, subst, ◌∙◌, arith}
use Rattle.std.specs.Prelude.{◌&&◌, ◌==◌, codes, nat_le}
use Rattle.std.specs.List.{concat}
use Rattle.std.proofs.lemmas.Bool.{eqb-true}
use Rattle.std.proofs.Math.Nat.{zero-mul, suc-mul}
use Rattle.std.proofs.lemmas.List.{length-append}
use Rattle.std.proofs.lemmas.Option.{cond_some, option_and_then_some}
use Rattle.serde_json.specs.Data.{Data}
use Rattle.sc_forms.specs.Forms.{at_most_form, is_object, list_form}
use Rattle.sumcheck_members.specs.declared.job.FieldName.{FieldName}
use Rattle.sumcheck_members.specs.declared.job.Sizes.{Sizes}
use Rattle.sumcheck_members.specs.Members.{Name, whole_job, needed, unless_misfit}
use Rattle.sumcheck_members.specs.declared.job.Challenger.{Challenger}
use Rattle.sumcheck_members.specs.declared.mode.BuildOrCheck.{BuildOrCheck}
use Rattle.sumcheck_audit.specs.declared.job.Proof.{Proof}
use Rattle.sumcheck_members.specs.Elements.{element_form, field_form, sizes_of}
use Rattle.sumcheck_members.specs.Stated.{challenger_form}
use Rattle.sumcheck_members.proofs.FormLaws.{Gives, below-gives, at_most-gives, list-gives, needed-gives, build_or_check-gives, any-gives, tested_ok, ok-same}
use Rattle.sumcheck_members.proofs.StatedLaws.{challenger-gives}
use Rattle.sumcheck_audit.specs.Job.{proof_form}
use Rattle.sumcheck_audit.proofs.JobLaws.{proof-gives}
use Rattle.sumcheck_matmul.specs.declared.job.MatmulJob.{MatmulJob}
use Rattle.sumcheck_matmul.specs.MatmulJob.{of_width, are_even, even_rows, matrix_form, matmul_mode_form, matmul_members_over, matmul_members_of, matmul_job_of, MatrixFits, MatmulJobFits}
use Rattle.sumcheck_matmul.specs.MatmulReplies.{width_of}

-- ---- rows that are even

both_true : (a b : Bool) → a && b ≡ true → (a ≡ true) × (b ≡ true)
both_true true b is = (refl, is)
both_true false b is = cc

turned : (a b : ℕ) → a + b ≡ b + a
turned a b = omega arith

-- the entries of rows of a width
width-count : (width : ℕ) (rows : List (List ℕ)) → of_width width rows ≡ true → length (concat rows) ≡ length rows * width
width-count width [] is = sym (zero-mul width)
width-count width (row ∷ rows) is =
    let both = both_true (length row == width) (of_width width rows) is in
    length-append row (concat rows) ∙ ap (λ n. length row + n) (width-count width rows both.1) ∙ ap (λ n. n + length rows * width) (eqb-true (length row) width both.0)
    ∙ turned width (length rows * width) ∙ sym (suc-mul (length rows) width)

pub even-count : (rows : List (List ℕ)) → are_even rows ≡ true → length (concat rows) ≡ length rows * width_of rows
even-count [] is = cc
even-count (row ∷ rows) is =
    let both = both_true (nat_le 1 (length row)) (of_width (length row) rows) is in
    length-append row (concat rows) ∙ ap (λ n. length row + n) (width-count (length row) rows both.1)
    ∙ turned (length row) (length rows * length row) ∙ sym (suc-mul (length rows) (length row))

-- ---- the job

module _ (sizes : Sizes) where
  abbrev base_element : Data → Option ℕ
  base_element = element_form sizes.base

  matrix-gives : Gives (matrix_form sizes) (MatrixFits sizes.base)
  matrix-gives d rows is =
      option_and_then_some even_rows (list_form (list_form base_element) d) rows is (λ rs at some.
      let even = cond_some (are_even rs) rs rows some in
      subst (MatrixFits sizes.base) even.1
      (record { even = even.0; elements = list-gives (list_form base_element) (list-gives base_element (below-gives sizes.base)) d rs at }))

  members-fit : (field : FieldName) (d : Data) (job : MatmulJob) → matmul_members_over field sizes d ≡ Ok job → (job.field ≡ field) × MatmulJobFits sizes job
  members-fit field d job is =
      needed-gives (challenger_form sizes) (codes "challenger") d _ job (challenger-gives sizes) is (λ challenger c is.
      needed-gives (at_most_form 65535) (codes "bits") d _ job (at_most-gives 65535) is (λ bits _ is.
      needed-gives (matrix_form sizes) (codes "left") d _ job matrix-gives is (λ left l is.
      needed-gives (matrix_form sizes) (codes "right") d _ job matrix-gives is (λ right r is.
      needed-gives (matrix_form sizes) (codes "claimed") d _ job matrix-gives is (λ claimed p is.
      needed-gives (matmul_mode_form sizes) (codes "mode") d _ job (build_or_check-gives (proof_form sizes) (proof-gives sizes)) is (λ mode m is.
      subst (λ j. (j.field ≡ field) × MatmulJobFits sizes j)
      (ok-same (record { field = field; challenger = challenger; bits = bits; left = left; right = right; claimed = claimed; mode = mode }) job is)
      (refl, record { challenger = c; left = l; right = r; claimed = p; mode = m })))))))

-- what goes on with a member that was read
goes-on : {B C : Type 0} (r : Result B Name) (x : B) (rest : B → Result C Name) → r ≡ Ok x → unless_misfit r rest ≡ rest x
goes-on r x rest is = ap (λ t. unless_misfit t rest) is

-- the job of members that were all read
pub members-read : (field : FieldName) (sizes : Sizes) (d : Data) (challenger : Challenger) (bits : ℕ) (left right claimed : List (List ℕ)) (mode : BuildOrCheck Proof) →
    needed (challenger_form sizes) (codes "challenger") d ≡ Ok challenger → needed (at_most_form 65535) (codes "bits") d ≡ Ok bits →
    needed (matrix_form sizes) (codes "left") d ≡ Ok left → needed (matrix_form sizes) (codes "right") d ≡ Ok right → needed (matrix_form sizes) (codes "claimed") d ≡ Ok claimed →
    needed (matmul_mode_form sizes) (codes "mode") d ≡ Ok mode →
    matmul_members_over field sizes d ≡ Ok (record { field = field; challenger = challenger; bits = bits; left = left; right = right; claimed = claimed; mode = mode })
members-read field sizes d challenger bits left right claimed mode ch bi le ri cl mo =
    goes-on _ challenger _ ch ∙ goes-on _ bits _ bi ∙ goes-on _ left _ le ∙ goes-on _ right _ ri ∙ goes-on _ claimed _ cl ∙ goes-on _ mode _ mo

pub matmul_job_of-fits : (d : Data) (job : MatmulJob) → matmul_job_of d ≡ Ok job → MatmulJobFits (sizes_of job.field) job
matmul_job_of-fits d job is =
    needed-gives field_form (codes "field") d (λ field. matmul_members_over field (sizes_of field) d) job (any-gives field_form)
    (tested_ok (is_object d) (matmul_members_of d) whole_job job is) (λ field _ is.
    let fit = members-fit (sizes_of field) field d job is in
    subst (λ f. MatmulJobFits (sizes_of f) job) (sym fit.0) fit.1)
