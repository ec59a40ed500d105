-- The job of `circuit` that a value describes, or the first member for which it describes none.
use Rattle.std.specs.Prelude.{ℕ, ◌<◌, ◌==◌, List, [], ◌∷◌, All, codes, nat_le, if◌then◌else◌, Option, Some, None, option_and_then, Result, Ok, Err}
use Rattle.serde_json.specs.Data.{Data}
use Rattle.sc_forms.specs.Forms.{at_most_form, is_object, list_form, list_of_length_form, member_form}
use Rattle.sc_circuit_definitions.specs.declared.gate.Gate.{Gate}
use Rattle.sumcheck_members.specs.Members.{Name, whole_job, needed, unless_misfit}
use Rattle.sumcheck_members.specs.Elements.{with_member, element_form, field_form, sizes_of}
use Rattle.sumcheck_members.specs.Stated.{challenger_form, AreElements, ChallengerFits}
use Rattle.sumcheck_members.specs.Modes.{build_or_check_form, CheckFits}
use Rattle.sumcheck_members.specs.declared.job.FieldName.{FieldName}
use Rattle.sumcheck_members.specs.declared.job.Sizes.{Sizes}
use Rattle.sumcheck_members.specs.declared.mode.BuildOrCheck.{BuildOrCheck}
use Rattle.sumcheck_circuit.specs.declared.job.CircuitJob.{CircuitJob}
use Rattle.sumcheck_circuit.specs.declared.job.LayerGiven.{LayerGiven}

-- the gate that three numbers name: 0 for a sum or 1 for a product, and two places
abbrev pub gate_of : List ℕ → Option Gate
gate_of [] = None
gate_of (kind ∷ []) = None
gate_of (kind ∷ left ∷ []) = None
gate_of (kind ∷ left ∷ right ∷ []) = if nat_le kind 1 then Some (record { product = kind == 1; left = left; right = right }) else None
gate_of (kind ∷ left ∷ right ∷ more ∷ ns) = None

-- a gate, whose places are at most 65,535
abbrev pub gate_form : Data → Option Gate
gate_form d = option_and_then gate_of (list_of_length_form (at_most_form 65535) 3 d)

-- what a proof sends for a layer: the values of each round, however many, the witnesses, and the two values
abbrev pub layer_form : Sizes → Data → Option LayerGiven
layer_form sizes d =
    with_member d (codes "rounds") (list_form (list_form (element_form sizes.extension))) (λ rounds.
    with_member d (codes "witnesses") (list_form (element_form sizes.base)) (λ witnesses.
    with_member d (codes "left") (element_form sizes.extension) (λ left.
    with_member d (codes "right") (element_form sizes.extension) (λ right.
    Some (record { rounds = rounds; witnesses = witnesses; left = left; right = right })))))

-- a proof: what it sends for each layer
abbrev pub layers_given_form : Sizes → Data → Option (List LayerGiven)
layers_given_form sizes d = member_form (list_form (layer_form sizes)) (codes "layers") d

-- a build, or a check of a proof
abbrev pub circuit_mode_form : Sizes → Data → Option (BuildOrCheck (List LayerGiven))
circuit_mode_form sizes d = build_or_check_form (layers_given_form sizes) d

-- the members after the field, in the order in which they are tested
abbrev pub circuit_members_over : FieldName → Sizes → Data → Result CircuitJob Name
circuit_members_over field sizes d =
    unless_misfit (needed (challenger_form sizes) (codes "challenger") d) (λ challenger.
    unless_misfit (needed (at_most_form 65535) (codes "bits") d) (λ bits.
    unless_misfit (needed (list_form (element_form sizes.base)) (codes "inputs") d) (λ inputs.
    unless_misfit (needed (list_form (list_form gate_form)) (codes "layers") d) (λ layers.
    unless_misfit (needed (list_form (element_form sizes.base)) (codes "outputs") d) (λ outputs.
    unless_misfit (needed (circuit_mode_form sizes) (codes "mode") d) (λ mode.
    Ok (record { field = field; challenger = challenger; bits = bits; inputs = inputs; layers = layers; outputs = outputs; mode = mode })))))))

-- the members, the field first
abbrev pub circuit_members_of : Data → Result CircuitJob Name
circuit_members_of d = unless_misfit (needed field_form (codes "field") d) (λ field. circuit_members_over field (sizes_of field) d)

-- the job that a value describes, over one of three fields; else its first member that is missing or not of its form
abbrev pub circuit_job_of : Data → Result CircuitJob Name
circuit_job_of d = if is_object d then circuit_members_of d else Err whole_job

-- ---- what the numbers of a job that was read have

pub record LayerFits (sizes : Sizes) (layer : LayerGiven) : Type 0 where
  pub rounds : All (AreElements sizes.extension) layer.rounds
  pub witnesses : AreElements sizes.base layer.witnesses
  pub left : layer.left < sizes.extension
  pub right : layer.right < sizes.extension

pub record CircuitJobFits (sizes : Sizes) (job : CircuitJob) : Type 0 where
  pub challenger : ChallengerFits sizes.base job.challenger
  pub inputs : AreElements sizes.base job.inputs
  pub outputs : AreElements sizes.base job.outputs
  pub mode : CheckFits (All (LayerFits sizes)) job.mode
