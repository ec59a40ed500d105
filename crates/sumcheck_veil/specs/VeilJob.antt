-- The job of `veil` that a value describes, or the first member for which it describes none.
use Rattle.std.specs.Prelude.{◌≡◌, ℕ, ◌<◌, ◌≤◌, ◌-◌, ◌^◌, ◌==◌, ◌&&◌, Bool, true, false, List, [], ◌∷◌, All, length, codes, nat_le, if◌then◌else◌, Option, Some, None, option_map, option_and_then, Result, Ok, Err}
use Rattle.serde_json.specs.Data.{Data}
use Rattle.serde_json.specs.Find.{get}
use Rattle.sc_forms.specs.Forms.{at_most_form, is_object, list_form, list_of_length_form}
use Rattle.sumcheck_members.specs.Members.{Name, whole_job, needed, unless_misfit}
use Rattle.sumcheck_members.specs.Elements.{with_member, element_form, field_form, sizes_of}
use Rattle.sumcheck_members.specs.Stated.{AreElements, StatedFits, stated_over}
use Rattle.sumcheck_members.specs.declared.job.FieldName.{FieldName}
use Rattle.sumcheck_members.specs.declared.job.Sizes.{Sizes}
use Rattle.sumcheck_veil.specs.declared.job.WrittenMasks.{WrittenMasks}
use Rattle.sumcheck_veil.specs.declared.job.DrawnMasks.{DrawnMasks}
use Rattle.sumcheck_veil.specs.declared.job.Masks.{Masks}
use Rattle.sumcheck_veil.specs.declared.job.Masks.TheVariants.{Written, Drawn}
use Rattle.sumcheck_veil.specs.declared.job.Veil.{Veil}
use Rattle.sumcheck_veil.specs.declared.job.VeilJob.{VeilJob}

-- the greatest number of coefficients of a mask
abbrev pub most_length : ℕ
most_length = 64

-- how many elements a mask is encoded with
abbrev pub randomness_length : ℕ
randomness_length = 2

-- ---- masks that are written out

-- each list has this length
abbrev pub are_long : ℕ → List (List ℕ) → Bool
are_long n [] = true
are_long n (m ∷ ms) = if length m == n then are_long n ms else false

-- lists have one length, which is from 1 to the greatest one
abbrev pub some_length : List (List ℕ) → Bool
some_length [] = true
some_length (m ∷ ms) = nat_le 1 (length m) && (nat_le (length m) most_length && are_long (length m) (m ∷ ms))

abbrev pub one_length : List (List ℕ) → Option (List (List ℕ))
one_length lists = if some_length lists then Some lists else None

-- so many masks, of elements of the extension
abbrev pub messages_form : Sizes → ℕ → Data → Option (List (List ℕ))
messages_form sizes rounds d = option_and_then one_length (list_of_length_form (list_form (element_form sizes.extension)) rounds d)

-- what each of so many is encoded with
abbrev pub randomness_form : Sizes → ℕ → Data → Option (List (List ℕ))
randomness_form sizes rounds d = list_of_length_form (list_of_length_form (element_form sizes.extension) randomness_length) rounds d

-- both
abbrev pub written_form : Sizes → ℕ → Data → Option WrittenMasks
written_form sizes rounds d =
    with_member d (codes "messages") (messages_form sizes rounds) (λ messages.
    with_member d (codes "randomness") (randomness_form sizes rounds) (λ randomness.
    Some (record { messages = messages; randomness = randomness })))

-- ---- masks that are drawn

-- a length of masks: from 1 to the greatest one
abbrev pub length_form : Data → Option ℕ
length_form d = option_and_then (λ n. if nat_le 1 n then Some n else None) (at_most_form most_length d)

-- a seed of 64 bits, and a length
abbrev pub drawn_form : Data → Option DrawnMasks
drawn_form d =
    with_member d (codes "seed") (at_most_form (2 ^ 64 - 1)) (λ seed.
    with_member d (codes "length") length_form (λ length.
    Some (record { seed = seed; length = length })))

-- ---- the members

abbrev pub masks_by : Sizes → ℕ → Data → Option Data → Option Data → Option Masks
masks_by sizes rounds d (Some messages) None = option_map (λ masks. Written masks) (written_form sizes rounds d)
masks_by sizes rounds d None (Some seed) = option_map (λ masks. Drawn masks) (drawn_form d)
masks_by sizes rounds d None None = None
masks_by sizes rounds d (Some messages) (Some seed) = None

-- so many masks, by exactly one of messages and a seed
abbrev pub masks_form : Sizes → ℕ → Data → Option Masks
masks_form sizes rounds d = masks_by sizes rounds d (get (codes "messages") d) (get (codes "seed") d)

-- what rounds are played under
abbrev pub veil_over : Sizes → Data → Result Veil Name
veil_over sizes d =
    unless_misfit (needed (at_most_form 64) (codes "rounds") d) (λ rounds.
    unless_misfit (needed (masks_form sizes rounds) (codes "masks") d) (λ masks.
    unless_misfit (needed (element_form sizes.extension) (codes "aux") d) (λ aux.
    Ok (record { rounds = rounds; masks = masks; aux = aux }))))

-- the members after the field: what is stated, and then what rounds are played under
abbrev pub veil_members_over : FieldName → Sizes → Data → Result VeilJob Name
veil_members_over field sizes d =
    unless_misfit (stated_over field sizes d) (λ stated.
    unless_misfit (veil_over sizes d) (λ veil.
    Ok (record { stated = stated; veil = veil })))

-- the members, the field first
abbrev pub veil_members_of : Data → Result VeilJob Name
veil_members_of d = unless_misfit (needed field_form (codes "field") d) (λ field. veil_members_over field (sizes_of field) d)

-- the job that a value describes, over one of three fields; else its first member that is missing or not of its form
abbrev pub veil_job_of : Data → Result VeilJob Name
veil_job_of d = if is_object d then veil_members_of d else Err whole_job

-- ---- what the numbers of a job that was read have

-- how many coefficients masks have: as many as the first one, and none where there is no mask
abbrev pub first_mask_length : List (List ℕ) → ℕ
first_mask_length [] = 0
first_mask_length (m ∷ ms) = length m

-- there are so many masks, all of one length, at most the greatest one, and each number is that of an element
pub record MessagesFit (sizes : Sizes) (rounds : ℕ) (messages : List (List ℕ)) : Type 0 where
  pub count : length messages ≡ rounds
  pub few : first_mask_length messages ≤ most_length
  pub long : All (λ m. length m ≡ first_mask_length messages) messages
  pub elements : All (AreElements sizes.extension) messages

-- the same of lists of this length
abbrev pub IsListOf : ℕ → ℕ → List ℕ → Type 0
IsListOf size n list = AreElements size list × (length list ≡ n)

pub record WrittenFits (sizes : Sizes) (rounds : ℕ) (w : WrittenMasks) : Type 0 where
  pub messages : MessagesFit sizes rounds w.messages
  pub randomness : All (IsListOf sizes.extension randomness_length) w.randomness
  pub count : length w.randomness ≡ rounds

-- it is a length of masks
pub record IsLength (n : ℕ) : Type 0 where
  pub some : 1 ≤ n
  pub few : n ≤ most_length

abbrev pub DrawnFits : DrawnMasks → Type 0
DrawnFits d = IsLength d.length

abbrev pub MasksFit : Sizes → ℕ → Masks → Type 0
MasksFit sizes rounds (Written w) = WrittenFits sizes rounds w
MasksFit sizes rounds (Drawn d) = DrawnFits d

pub record VeilFits (sizes : Sizes) (v : Veil) : Type 0 where
  pub few : v.rounds ≤ 64
  pub masks : MasksFit sizes v.rounds v.masks
  pub aux : v.aux < sizes.extension

pub record VeilJobFits (sizes : Sizes) (job : VeilJob) : Type 0 where
  pub stated : StatedFits sizes job.stated
  pub veil : VeilFits sizes job.veil
