-- The job of `openings` that a value describes, or the first member for which it describes none.
use Rattle.std.specs.Prelude.{ℕ, ◌<◌, ◌≤◌, ◌&&◌, List, All, length, codes, nat_le, if◌then◌else◌, Option, Some, None, option_and_then, Result, Ok, Err}
use Rattle.serde_json.specs.Data.{Data}
use Rattle.serde_json.specs.Find.{as_bool}
use Rattle.sc_forms.specs.Forms.{at_most_form, is_object, list_form}
use Rattle.sumcheck_audit.specs.declared.job.Proof.{Proof}
use Rattle.sumcheck_audit.specs.Job.{proof_form, ProofFits}
use Rattle.sumcheck_members.specs.Members.{Name, whole_job, needed, unless_misfit}
use Rattle.sumcheck_members.specs.Elements.{with_member, element_form, field_form, sizes_of}
use Rattle.sumcheck_members.specs.Stated.{challenger_form, AreElements, ChallengerFits}
use Rattle.sumcheck_members.specs.Modes.{build_or_check_form, CheckFits}
use Rattle.sumcheck_members.specs.declared.job.FieldName.{FieldName}
use Rattle.sumcheck_members.specs.declared.job.Sizes.{Sizes}
use Rattle.sumcheck_members.specs.declared.mode.BuildOrCheck.{BuildOrCheck}
use Rattle.sumcheck_openings.specs.declared.job.ClaimGiven.{ClaimGiven}
use Rattle.sumcheck_openings.specs.declared.job.ProofGiven.{ProofGiven}
use Rattle.sumcheck_openings.specs.declared.job.OpeningsJob.{OpeningsJob}

-- the items of a list, if they are at least so many and at most so many
abbrev pub within : {B : Type 0} → ℕ → ℕ → List B → Option (List B)
within least most xs = if nat_le least (length xs) && nat_le (length xs) most then Some xs else None

-- a list of so many items of a form
abbrev pub list_within_form : {B : Type 0} → ℕ → ℕ → (Data → Option B) → Data → Option (List B)
list_within_form least most form d = option_and_then (within least most) (list_form form d)

-- from 1 to 64 tables, of elements of the base field
abbrev pub tables_form : Sizes → Data → Option (List (List ℕ))
tables_form sizes d = list_within_form 1 64 (list_form (element_form sizes.base)) d

-- a claim: the number of a table, a point, whether it is on the table of next rows, and the value
abbrev pub claim_form : Sizes → Data → Option ClaimGiven
claim_form sizes d =
    with_member d (codes "table") (at_most_form 65535) (λ table.
    with_member d (codes "point") (list_form (element_form sizes.extension)) (λ point.
    with_member d (codes "successor") as_bool (λ successor.
    with_member d (codes "value") (element_form sizes.extension) (λ value.
    Some (record { table = table; point = point; successor = successor; value = value })))))

-- at most 4,096 claims
abbrev pub claims_form : Sizes → Data → Option (List ClaimGiven)
claims_form sizes d = list_within_form 0 4096 (claim_form sizes) d

-- a proof: the two values of each round, the witnesses, and the openings
abbrev pub proof_given_form : Sizes → Data → Option ProofGiven
proof_given_form sizes d =
    option_and_then (λ rounds.
    with_member d (codes "openings") (list_form (element_form sizes.extension)) (λ openings.
    Some (record { rounds = rounds; openings = openings }))) (proof_form sizes d)

-- a build, or a check of a proof
abbrev pub openings_mode_form : Sizes → Data → Option (BuildOrCheck ProofGiven)
openings_mode_form sizes d = build_or_check_form (proof_given_form sizes) d

-- the members after the field, in the order in which they are tested
abbrev pub openings_members_over : FieldName → Sizes → Data → Result OpeningsJob Name
openings_members_over field sizes d =
    unless_misfit (needed (challenger_form sizes) (codes "challenger") d) (λ challenger.
    unless_misfit (needed (at_most_form 65535) (codes "bits") d) (λ bits.
    unless_misfit (needed (tables_form sizes) (codes "tables") d) (λ tables.
    unless_misfit (needed (at_most_form 64) (codes "variables") d) (λ variables.
    unless_misfit (needed (claims_form sizes) (codes "claims") d) (λ claims.
    unless_misfit (needed (openings_mode_form sizes) (codes "mode") d) (λ mode.
    Ok (record { field = field; challenger = challenger; bits = bits; tables = tables; variables = variables; claims = claims; mode = mode })))))))

-- the members, the field first
abbrev pub openings_members_of : Data → Result OpeningsJob Name
openings_members_of d = unless_misfit (needed field_form (codes "field") d) (λ field. openings_members_over field (sizes_of field) d)

-- the job that a value describes, over one of three fields; else its first member that is missing or not of its form
abbrev pub openings_job_of : Data → Result OpeningsJob Name
openings_job_of d = if is_object d then openings_members_of d else Err whole_job

-- ---- what the numbers of a job that was read have

-- those of a claim are those of elements
pub record ClaimFits (size : ℕ) (c : ClaimGiven) : Type 0 where
  pub point : AreElements size c.point
  pub value : c.value < size

pub record ProofGivenFits (sizes : Sizes) (p : ProofGiven) : Type 0 where
  pub rounds : ProofFits sizes p.rounds
  pub openings : AreElements sizes.extension p.openings

pub record OpeningsJobFits (sizes : Sizes) (job : OpeningsJob) : Type 0 where
  pub challenger : ChallengerFits sizes.base job.challenger
  pub some : 1 ≤ length job.tables
  pub tables : All (AreElements sizes.base) job.tables
  pub claims : All (ClaimFits sizes.extension) job.claims
  pub mode : CheckFits (ProofGivenFits sizes) job.mode
