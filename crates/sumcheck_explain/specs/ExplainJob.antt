-- The job of `explain` that a value describes, or the first member for which it describes none.
use Rattle.std.specs.Prelude.{◌≡◌, ℕ, ◌<◌, ◌≤◌, ◌-◌, ◌==◌, ◌&&◌, Bool, true, false, List, [], ◌∷◌, All, length, codes, nat_le, if◌then◌else◌, Option, Some, None, option_and_then, Result, Ok, Err}
use Rattle.serde_json.specs.Data.{Data}
use Rattle.sc_forms.specs.Forms.{is_object, list_form, list_of_length_form, pair_form}
use Rattle.sc_zk_views.specs.Views.{width_of}
use Rattle.sumcheck_members.specs.Members.{Name, whole_job, needed, unless_misfit}
use Rattle.sumcheck_members.specs.Elements.{element_form, field_form, sizes_of}
use Rattle.sumcheck_members.specs.Stated.{AreElements}
use Rattle.sumcheck_members.specs.declared.job.FieldName.{FieldName}
use Rattle.sumcheck_explain.specs.declared.job.ExplainJob.{ExplainJob}

-- the greatest number of masks
abbrev pub most_masks : ℕ
most_masks = 64

-- the least number of values of a wire, and the greatest
abbrev pub least_width : ℕ
least_width = 2

abbrev pub most_width : ℕ
most_width = 63

-- ---- forms, over a field of so many elements

-- one piece or more, and no more than there may be masks
abbrev pub some_pieces : List (ℕ × ℕ) → Option (List (ℕ × ℕ))
some_pieces pieces = if nat_le 1 (length pieces) && nat_le (length pieces) most_masks then Some pieces else None

-- plain pieces
abbrev pub plain_form : ℕ → Data → Option (List (ℕ × ℕ))
plain_form size d = option_and_then some_pieces (list_form (pair_form (element_form size)) d)

-- so many elements
abbrev pub elements_form : ℕ → ℕ → Data → Option (List ℕ)
elements_form size n d = list_of_length_form (element_form size) n d

-- each list has this length
abbrev pub are_long : ℕ → List (List ℕ) → Bool
are_long n [] = true
are_long n (m ∷ ms) = if length m == n then are_long n ms else false

-- wires have one length, which is from the least to the greatest one
abbrev pub some_width : List (List ℕ) → Bool
some_width [] = false
some_width (w ∷ ws) = nat_le least_width (length w) && (nat_le (length w) most_width && are_long (length w) (w ∷ ws))

abbrev pub one_width : List (List ℕ) → Option (List (List ℕ))
one_width wires = if some_width wires then Some wires else None

-- so many wires
abbrev pub wires_form : ℕ → ℕ → Data → Option (List (List ℕ))
wires_form size n d = option_and_then one_width (list_of_length_form (list_form (element_form size)) n d)

-- ---- the members

-- the members after the field, whose extension has so many elements, in the order in which they are tested
abbrev pub explain_members_over : FieldName → ℕ → Data → Result ExplainJob Name
explain_members_over field size d =
    unless_misfit (needed (element_form size) (codes "eps") d) (λ eps.
    unless_misfit (needed (plain_form size) (codes "plain") d) (λ plain.
    unless_misfit (needed (elements_form size (length plain)) (codes "challenges") d) (λ challenges.
    unless_misfit (needed (element_form size) (codes "mu") d) (λ mu.
    unless_misfit (needed (wires_form size (length plain)) (codes "wires") d) (λ wires.
    unless_misfit (needed (elements_form size (length plain - 1)) (codes "endpoints") d) (λ endpoints.
    Ok (record { field = field; eps = eps; plain = plain; challenges = challenges; mu = mu; wires = wires; endpoints = endpoints })))))))

-- the members, the field first
abbrev pub explain_members_of : Data → Result ExplainJob Name
explain_members_of d = unless_misfit (needed field_form (codes "field") d) (λ field. explain_members_over field (sizes_of field).extension d)

-- the job that a value describes, over one of three fields; else its first member that is missing or not of its form
abbrev pub explain_job_of : Data → Result ExplainJob Name
explain_job_of d = if is_object d then explain_members_of d else Err whole_job

-- ---- what the numbers of a job that was read have, over a field of so many elements

-- both numbers of each pair are those of elements
abbrev pub ArePairs : ℕ → List (ℕ × ℕ) → Type 0
ArePairs size pairs = All (λ pair. (pair.0 < size) × (pair.1 < size)) pairs

-- there are from 1 to 64 plain pieces
pub record PlainFits (size : ℕ) (plain : List (ℕ × ℕ)) : Type 0 where
  pub some : 1 ≤ length plain
  pub few : length plain ≤ most_masks
  pub pairs : ArePairs size plain

-- there are so many wires, all of one length, from 2 to 63
pub record WiresFit (size masks : ℕ) (wires : List (List ℕ)) : Type 0 where
  pub count : length wires ≡ masks
  pub long : least_width ≤ width_of wires
  pub few : width_of wires ≤ most_width
  pub same : All (λ w. length w ≡ width_of wires) wires
  pub elements : All (AreElements size) wires

-- there are so many elements
pub record ElementsFit (size n : ℕ) (xs : List ℕ) : Type 0 where
  pub elements : AreElements size xs
  pub count : length xs ≡ n

pub record ExplainJobFits (size : ℕ) (job : ExplainJob) : Type 0 where
  pub eps : job.eps < size
  pub plain : PlainFits size job.plain
  pub challenges : ElementsFit size (length job.plain) job.challenges
  pub mu : job.mu < size
  pub wires : WiresFit size (length job.plain) job.wires
  pub endpoints : ElementsFit size (length job.plain - 1) job.endpoints
