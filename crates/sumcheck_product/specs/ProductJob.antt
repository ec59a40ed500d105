-- The job of `product` that a value describes, or the first member for which it describes none.
use Rattle.std.specs.Prelude.{ℕ, ◌<◌, ◌≤◌, ◌&&◌, List, All, length, codes, nat_le, if◌then◌else◌, Option, Some, None, option_and_then, Result, Ok, Err}
use Rattle.serde_json.specs.Data.{Data}
use Rattle.sc_forms.specs.Forms.{at_most_form, is_object, list_form}
use Rattle.sumcheck_members.specs.Members.{Name, whole_job, needed, unless_misfit}
use Rattle.sumcheck_members.specs.Elements.{with_member, element_form, field_form, sizes_of}
use Rattle.sumcheck_members.specs.Stated.{challenger_form, AreElements, ChallengerFits}
use Rattle.sumcheck_members.specs.Modes.{build_or_check_form, CheckFits}
use Rattle.sumcheck_members.specs.declared.job.FieldName.{FieldName}
use Rattle.sumcheck_members.specs.declared.job.Sizes.{Sizes}
use Rattle.sumcheck_product.specs.declared.job.ProductProof.{ProductProof}
use Rattle.sumcheck_members.specs.declared.mode.BuildOrCheck.{BuildOrCheck}
use Rattle.sumcheck_product.specs.declared.job.ProductJob.{ProductJob}

-- the greatest number of tables
abbrev pub most_tables : ℕ
most_tables = 8

-- one table or more, and no more than there may be
abbrev pub some_tables : List (List ℕ) → Option (List (List ℕ))
some_tables tables = if nat_le 1 (length tables) && nat_le (length tables) most_tables then Some tables else None

-- the tables of a job, of elements of the base field
abbrev pub tables_form : Sizes → Data → Option (List (List ℕ))
tables_form sizes d = option_and_then some_tables (list_form (list_form (element_form sizes.base)) d)

-- a proof: the claimed sum, the values of each round, however many, and the witnesses
abbrev pub product_proof_form : Sizes → Data → Option ProductProof
product_proof_form sizes d =
    with_member d (codes "claimed") (element_form sizes.extension) (λ claimed.
    with_member d (codes "rounds") (list_form (list_form (element_form sizes.extension))) (λ rounds.
    with_member d (codes "witnesses") (list_form (element_form sizes.base)) (λ witnesses.
    Some (record { claimed = claimed; rounds = rounds; witnesses = witnesses }))))

-- a build, or a check of a proof
abbrev pub product_mode_form : Sizes → Data → Option (BuildOrCheck ProductProof)
product_mode_form sizes d = build_or_check_form (product_proof_form sizes) d

-- the members after the field, in the order in which they are tested
abbrev pub product_members_over : FieldName → Sizes → Data → Result ProductJob Name
product_members_over field sizes d =
    unless_misfit (needed (challenger_form sizes) (codes "challenger") d) (λ challenger.
    unless_misfit (needed (at_most_form 65535) (codes "bits") d) (λ bits.
    unless_misfit (needed (tables_form sizes) (codes "tables") d) (λ tables.
    unless_misfit (needed (product_mode_form sizes) (codes "mode") d) (λ mode.
    Ok (record { field = field; challenger = challenger; bits = bits; tables = tables; mode = mode })))))

-- the members, the field first
abbrev pub product_members_of : Data → Result ProductJob Name
product_members_of d = unless_misfit (needed field_form (codes "field") d) (λ field. product_members_over field (sizes_of field) d)

-- the job that a value describes, from 1 to 8 tables over one of three fields; else its first member that is missing or not of its form
abbrev pub product_job_of : Data → Result ProductJob Name
product_job_of d = if is_object d then product_members_of d else Err whole_job

-- ---- what the numbers of a job that was read have

pub record ProductProofFits (sizes : Sizes) (p : ProductProof) : Type 0 where
  pub claimed : p.claimed < sizes.extension
  pub rounds : All (AreElements sizes.extension) p.rounds
  pub witnesses : AreElements sizes.base p.witnesses

-- there are from 1 to 8 tables, and each number is that of an element
pub record TablesFit (base : ℕ) (tables : List (List ℕ)) : Type 0 where
  pub some : 1 ≤ length tables
  pub few : length tables ≤ most_tables
  pub elements : All (AreElements base) tables

pub record ProductJobFits (sizes : Sizes) (job : ProductJob) : Type 0 where
  pub challenger : ChallengerFits sizes.base job.challenger
  pub tables : TablesFit sizes.base job.tables
  pub mode : CheckFits (ProductProofFits sizes) job.mode
