-- The job that a value describes, or the first member for which it describes none.
use Rattle.std.specs.Prelude.{ℕ, ◌<◌, List, All, ⊤, codes, bytes_eq, if◌then◌else◌, Option, Some, None, is_some, option_map, Result, Ok, Err}
use Rattle.serde_json.specs.Data.{Data}
use Rattle.serde_json.specs.Find.{get, as_null, as_str}
use Rattle.sc_forms.specs.Forms.{at_most_form, is_object, list_form, member_form, pair_form}
use Rattle.sumcheck_members.specs.Members.{Name, whole_job, needed, needed_or, unless_misfit}
use Rattle.sumcheck_members.specs.Elements.{with_member, basis_form, element_form, field_form, sizes_of}
use Rattle.sumcheck_members.specs.Stated.{AreElements, StatedFits, stated_over}
use Rattle.sumcheck_members.specs.declared.job.FieldName.{FieldName}
use Rattle.sumcheck_members.specs.declared.job.Sizes.{Sizes}
use Rattle.sc_table.specs.declared.strategy.Basis.TheVariants.{Evaluation}
use Rattle.sc_table.specs.declared.strategy.Strategy.{Strategy}
use Rattle.sc_table.specs.declared.strategy.Strategy.TheVariants.{Plain, Represented, SmallValue}
use Rattle.sumcheck_audit.specs.declared.job.Proof.{Proof}
use Rattle.sumcheck_audit.specs.declared.job.Mode.{Mode}
use Rattle.sumcheck_audit.specs.declared.job.Mode.TheVariants.{Build, Check}
use Rattle.sumcheck_audit.specs.declared.job.Job.{Job}

-- a proof: the two values of each round, and the witnesses
abbrev pub proof_form : Sizes → Data → Option Proof
proof_form sizes d =
    with_member d (codes "rounds") (list_form (pair_form (element_form sizes.extension))) (λ rounds.
    with_member d (codes "witnesses") (list_form (element_form sizes.base)) (λ witnesses.
    Some (record { rounds = rounds; witnesses = witnesses })))

-- a proof, or none
abbrev pub check_form : Sizes → Data → Option (Option Proof)
check_form sizes d = if is_some (as_null d) then Some None else option_map (λ proof. Some proof) (proof_form sizes d)

-- the strategy of this name
abbrev pub strategy_named : List ℕ → Option Strategy
strategy_named name = if bytes_eq name (codes "plain") then Some Plain else (if bytes_eq name (codes "represented") then Some Represented else None)

-- an object that names for how many variables rounds are built on small values
abbrev pub small_value_form : Data → Option Strategy
small_value_form d = option_map (λ n. SmallValue n) (member_form (at_most_form 64) (codes "small-value") d)

abbrev pub strategy_by : Option (List ℕ) → Data → Option Strategy
strategy_by (Some name) d = strategy_named name
strategy_by None d = small_value_form d

-- how rounds are built: a string that names a strategy, or such an object
abbrev pub strategy_form : Data → Option Strategy
strategy_form d = strategy_by (as_str d) d

abbrev pub mode_by : Sizes → Option Data → Option Data → Option Mode
mode_by sizes (Some build) None = option_map (λ strategy. Build strategy) (strategy_form build)
mode_by sizes None (Some check) = option_map (λ proof. Check proof) (check_form sizes check)
mode_by sizes None None = None
mode_by sizes (Some build) (Some check) = None

-- exactly one of a build and a check
abbrev pub mode_form : Sizes → Data → Option Mode
mode_form sizes d = mode_by sizes (get (codes "build") d) (get (codes "check") d)

-- the members after the field: what is stated, then what is done, and then in which basis; a job without one is on values
abbrev pub members_over : FieldName → Sizes → Data → Result Job Name
members_over field sizes d =
    unless_misfit (stated_over field sizes d) (λ stated.
    unless_misfit (needed (mode_form sizes) (codes "mode") d) (λ mode.
    unless_misfit (needed_or Evaluation basis_form (codes "basis") d) (λ basis.
    Ok (record { stated = stated; mode = mode; basis = basis }))))

-- the members, the field first
abbrev pub members_of : Data → Result Job Name
members_of d = unless_misfit (needed field_form (codes "field") d) (λ field. members_over field (sizes_of field) d)

-- the job that a value describes: one over one of three fields under a scripted or the hash challenger, in either order and in
-- either basis, at any difficulty, with statements of every kind; else its first member that is missing or not of its form
abbrev pub job_of : Data → Result Job Name
job_of d = if is_object d then members_of d else Err whole_job

-- ---- what the numbers of a job that was read have

-- both numbers of each pair are below a size
abbrev pub ArePairs : ℕ → List (ℕ × ℕ) → Type 0
ArePairs size pairs = All (λ pair. (pair.0 < size) × (pair.1 < size)) pairs

pub record ProofFits (sizes : Sizes) (p : Proof) : Type 0 where
  pub rounds : ArePairs sizes.extension p.rounds
  pub witnesses : AreElements sizes.base p.witnesses

abbrev pub ModeFits : Sizes → Mode → Type 0
ModeFits sizes (Build strategy) = ⊤
ModeFits sizes (Check None) = ⊤
ModeFits sizes (Check (Some proof)) = ProofFits sizes proof

pub record JobFits (sizes : Sizes) (job : Job) : Type 0 where
  pub stated : StatedFits sizes job.stated
  pub mode : ModeFits sizes job.mode
