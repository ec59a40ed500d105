-- What a value states of a job, or the first member for which it states nothing.
use Rattle.std.specs.Prelude.{ℕ, ◌<◌, ◌≤◌, List, All, ⊤, codes, if◌then◌else◌, Option, Some, is_some, option_map, Result, Ok}
use Rattle.serde_json.specs.Data.{Data}
use Rattle.sc_forms.specs.Forms.{at_most_form, list_form, literal_form}
use Rattle.sumcheck_members.specs.Members.{Name, needed, unless_misfit}
use Rattle.sumcheck_members.specs.Elements.{with_member, element_form, order_form}
use Rattle.sumcheck_members.specs.Groups.{groups_form}
use Rattle.sumcheck_members.specs.Statements.{GroupFits}
use Rattle.sumcheck_members.specs.declared.job.FieldName.{FieldName}
use Rattle.sumcheck_members.specs.declared.job.Sizes.{Sizes}
use Rattle.sumcheck_members.specs.declared.job.Script.{Script}
use Rattle.sumcheck_members.specs.declared.job.Challenger.{Challenger}
use Rattle.sumcheck_members.specs.declared.job.Challenger.TheVariants.{Scripted, Hash}
use Rattle.sumcheck_members.specs.declared.job.Stated.{Stated}

-- a scripted challenger: its draws, and for each test the witnesses that pass, in the base field
abbrev pub script_form : Sizes → Data → Option Script
script_form sizes d =
    with_member d (codes "draws") (list_form (element_form sizes.base)) (λ draws.
    with_member d (codes "witnesses") (list_form (list_form (element_form sizes.base))) (λ witnesses.
    Some (record { draws = draws; witnesses = witnesses })))

-- a challenger: the hash challenger by its name, or a scripted one
abbrev pub challenger_form : Sizes → Data → Option Challenger
challenger_form sizes d = if is_some (literal_form (codes "hash") d) then Some Hash else option_map (λ script. Scripted script) (script_form sizes d)

-- what a value states after the field, member by member in the order in which they are tested
abbrev pub stated_over : FieldName → Sizes → Data → Result Stated Name
stated_over field sizes d =
    unless_misfit (needed (challenger_form sizes) (codes "challenger") d) (λ challenger.
    unless_misfit (needed order_form (codes "order") d) (λ order.
    unless_misfit (needed (at_most_form 65535) (codes "bits") d) (λ bits.
    unless_misfit (needed (list_form (element_form sizes.base)) (codes "table") d) (λ table.
    unless_misfit (needed (at_most_form 64) (codes "variables") d) (λ variables.
    unless_misfit (needed (groups_form sizes variables) (codes "groups") d) (λ groups.
    unless_misfit (needed (element_form sizes.extension) (codes "batching") d) (λ batching.
    Ok (record { field = field; challenger = challenger; order = order; bits = bits; table = table; variables = variables; groups = groups; batching = batching }))))))))

-- ---- what the numbers have that were read

-- each number is that of an element of a field of so many
abbrev pub AreElements : ℕ → List ℕ → Type 0
AreElements size ns = All (λ n. n < size) ns

pub record ScriptFits (base : ℕ) (s : Script) : Type 0 where
  pub draws : AreElements base s.draws
  pub witnesses : All (AreElements base) s.witnesses

abbrev pub ChallengerFits : ℕ → Challenger → Type 0
ChallengerFits base (Scripted script) = ScriptFits base script
ChallengerFits base Hash = ⊤

pub record StatedFits (sizes : Sizes) (s : Stated) : Type 0 where
  pub challenger : ChallengerFits sizes.base s.challenger
  pub table : AreElements sizes.base s.table
  pub few : s.variables ≤ 64
  pub groups : All (GroupFits sizes s.variables) s.groups
  pub batching : s.batching < sizes.extension
