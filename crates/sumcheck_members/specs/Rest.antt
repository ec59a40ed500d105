-- The members of what a job states that stand after its table.
use Rattle.std.specs.Prelude.{◌<◌, ◌≤◌, All, codes, Result, Ok}
use Rattle.serde_json.specs.Data.{Data}
use Rattle.sc_forms.specs.Forms.{at_most_form}
use Rattle.sumcheck_members.specs.Members.{Name, needed, unless_misfit}
use Rattle.sumcheck_members.specs.Elements.{element_form}
use Rattle.sumcheck_members.specs.Groups.{groups_form}
use Rattle.sumcheck_members.specs.Statements.{GroupFits}
use Rattle.sumcheck_members.specs.declared.job.Sizes.{Sizes}
use Rattle.sumcheck_members.specs.declared.reading.Rest.{Rest}

-- these members, in the order in which they are tested
abbrev pub rest_over : Sizes → Data → Result Rest Name
rest_over sizes d =
    unless_misfit (needed (at_most_form 64) (codes "variables") d) (λ variables.
    unless_misfit (needed (groups_form sizes variables) (codes "groups") d) (λ groups.
    unless_misfit (needed (element_form sizes.extension) (codes "batching") d) (λ batching.
    Ok (record { variables = variables; groups = groups; batching = batching }))))

-- what their numbers have
pub record RestFits (sizes : Sizes) (rest : Rest) : Type 0 where
  pub few : rest.variables ≤ 64
  pub groups : All (GroupFits sizes rest.variables) rest.groups
  pub batching : rest.batching < sizes.extension
