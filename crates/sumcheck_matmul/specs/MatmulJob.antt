-- The job of `matmul` that a value describes, or the first member for which it describes none.
use Rattle.std.specs.Prelude.{◌≡◌, ℕ, ◌&&◌, ◌==◌, List, [], ◌∷◌, All, length, codes, nat_le, Bool, true, false, if◌then◌else◌, Option, Some, None, option_and_then, Result, Ok, Err}
use Rattle.serde_json.specs.Data.{Data}
use Rattle.sc_forms.specs.Forms.{at_most_form, is_object, list_form}
use Rattle.sumcheck_members.specs.Members.{Name, whole_job, needed, unless_misfit}
use Rattle.sumcheck_members.specs.Elements.{element_form, field_form, sizes_of}
use Rattle.sumcheck_members.specs.Stated.{challenger_form, AreElements, ChallengerFits}
use Rattle.sumcheck_members.specs.Modes.{build_or_check_form, CheckFits}
use Rattle.sumcheck_members.specs.declared.job.FieldName.{FieldName}
use Rattle.sumcheck_members.specs.declared.job.Sizes.{Sizes}
use Rattle.sumcheck_members.specs.declared.mode.BuildOrCheck.{BuildOrCheck}
use Rattle.sumcheck_audit.specs.declared.job.Proof.{Proof}
use Rattle.sumcheck_audit.specs.Job.{proof_form, ProofFits}
use Rattle.sumcheck_matmul.specs.declared.job.MatmulJob.{MatmulJob}

-- each row has so many entries
abbrev pub of_width : ℕ → List (List ℕ) → Bool
of_width width [] = true
of_width width (row ∷ rows) = (length row == width) && of_width width rows

-- the rows of a matrix: one or more, all as long as the first one, which has one entry or more
abbrev pub are_even : List (List ℕ) → Bool
are_even [] = false
are_even (row ∷ rows) = nat_le 1 (length row) && of_width (length row) rows

abbrev pub even_rows : List (List ℕ) → Option (List (List ℕ))
even_rows rows = if are_even rows then Some rows else None

-- a matrix of elements of the base field, row by row
abbrev pub matrix_form : Sizes → Data → Option (List (List ℕ))
matrix_form sizes d = option_and_then even_rows (list_form (list_form (element_form sizes.base)) d)

-- a build, or a check of a proof whose rounds send two values each
abbrev pub matmul_mode_form : Sizes → Data → Option (BuildOrCheck Proof)
matmul_mode_form sizes d = build_or_check_form (proof_form sizes) d

-- the members after the field, in the order in which they are tested
abbrev pub matmul_members_over : FieldName → Sizes → Data → Result MatmulJob Name
matmul_members_over field sizes d =
    unless_misfit (needed (challenger_form sizes) (codes "challenger") d) (λ challenger.
    unless_misfit (needed (at_most_form 65535) (codes "bits") d) (λ bits.
    unless_misfit (needed (matrix_form sizes) (codes "left") d) (λ left.
    unless_misfit (needed (matrix_form sizes) (codes "right") d) (λ right.
    unless_misfit (needed (matrix_form sizes) (codes "claimed") d) (λ claimed.
    unless_misfit (needed (matmul_mode_form sizes) (codes "mode") d) (λ mode.
    Ok (record { field = field; challenger = challenger; bits = bits; left = left; right = right; claimed = claimed; mode = mode })))))))

-- the members, the field first
abbrev pub matmul_members_of : Data → Result MatmulJob Name
matmul_members_of d = unless_misfit (needed field_form (codes "field") d) (λ field. matmul_members_over field (sizes_of field) d)

-- the job that a value describes, over one of three fields; else its first member that is missing or not of its form
abbrev pub matmul_job_of : Data → Result MatmulJob Name
matmul_job_of d = if is_object d then matmul_members_of d else Err whole_job

-- ---- what the numbers of a job that was read have

-- its rows are those of a matrix, and each number is that of an element
pub record MatrixFits (base : ℕ) (rows : List (List ℕ)) : Type 0 where
  pub even : are_even rows ≡ true
  pub elements : All (AreElements base) rows

pub record MatmulJobFits (sizes : Sizes) (job : MatmulJob) : Type 0 where
  pub challenger : ChallengerFits sizes.base job.challenger
  pub left : MatrixFits sizes.base job.left
  pub right : MatrixFits sizes.base job.right
  pub claimed : MatrixFits sizes.base job.claimed
  pub mode : CheckFits (ProofFits sizes) job.mode
