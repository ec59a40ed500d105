-- The groups of claims that a value describes, over fields of these sizes.
use Rattle.std.specs.Prelude.{ℕ, ◌+◌, List, length, codes, nat_eq, nat_le, bytes_eq, if◌then◌else◌, Option, Some, None, option_map, option_and_then}
use Rattle.serde_json.specs.Data.{Data}
use Rattle.serde_json.specs.Find.{get, as_str}
use Rattle.sc_forms.specs.Forms.{list_form, list_of_length_form, member_form}
use Rattle.sumcheck_members.specs.declared.job.EqualityClaim.{EqualityClaim}
use Rattle.sumcheck_members.specs.declared.job.SuccessorClaim.{SuccessorClaim}
use Rattle.sumcheck_members.specs.declared.job.ScalarClaim.{ScalarClaim}
use Rattle.sumcheck_members.specs.declared.job.ProductClaim.{ProductClaim}
use Rattle.sumcheck_members.specs.declared.job.Group.{Group}
use Rattle.sumcheck_members.specs.declared.job.Group.TheVariants.{Equality, Successor, Scalars, Products}
use Rattle.sumcheck_members.specs.declared.job.Sizes.{Sizes}
use Rattle.sumcheck_members.specs.Elements.{with_member, element_form, order_form}
use Rattle.sumcheck_members.specs.Statements.{statement_count}

-- a point of as many coordinates as the job has variables, and the value there
abbrev pub equality_form : Sizes → ℕ → Data → Option EqualityClaim
equality_form sizes variables d =
    with_member d (codes "point") (list_of_length_form (element_form sizes.extension) variables) (λ point.
    with_member d (codes "value") (element_form sizes.extension) (λ value.
    Some (record { point = point; value = value })))

-- a claim whose selector and point have together so many coordinates
abbrev pub of_arity : ℕ → SuccessorClaim → Option SuccessorClaim
of_arity variables c = if nat_eq (length c.selector + length c.point) variables then Some c else None

-- a selector and a point, of together as many coordinates as the job has variables, the selector's side, and the value
abbrev pub successor_form : Sizes → ℕ → Data → Option SuccessorClaim
successor_form sizes variables d =
    with_member d (codes "selector") (list_form (element_form sizes.extension)) (λ selector.
    with_member d (codes "point") (list_form (element_form sizes.extension)) (λ point.
    with_member d (codes "order") order_form (λ order.
    with_member d (codes "value") (element_form sizes.extension) (λ value.
    of_arity variables (record { selector = selector; point = point; order = order; value = value })))))

-- a scalar of the base field, and the value of the sum
abbrev pub scalar_form : Sizes → Data → Option ScalarClaim
scalar_form sizes d =
    with_member d (codes "at") (element_form sizes.base) (λ scalar.
    with_member d (codes "value") (element_form sizes.extension) (λ value.
    Some (record { scalar = scalar; value = value })))

-- a direct point, in the base field, of as many coordinates as the job has variables, and the value of the sum
abbrev pub product_form : Sizes → ℕ → Data → Option ProductClaim
product_form sizes variables d =
    with_member d (codes "at") (list_of_length_form (element_form sizes.base) variables) (λ point.
    with_member d (codes "value") (element_form sizes.extension) (λ value.
    Some (record { point = point; value = value })))

abbrev pub select_by : Sizes → ℕ → Option Data → Option Data → Option Group
select_by sizes variables (Some scalars) None = option_map (λ cs. Scalars cs) (list_form (scalar_form sizes) scalars)
select_by sizes variables None (Some points) = option_map (λ cs. Products cs) (list_form (product_form sizes variables) points)
select_by sizes variables None None = None
select_by sizes variables (Some scalars) (Some points) = None

-- exactly one of claims at scalars and claims at direct points
abbrev pub select_form : Sizes → ℕ → Data → Option Group
select_form sizes variables d = select_by sizes variables (get (codes "scalars") d) (get (codes "points") d)

-- a group of the kind of this name
abbrev pub group_named : Sizes → ℕ → Data → List ℕ → Option Group
group_named sizes variables d kind =
    if bytes_eq kind (codes "eq") then option_map (λ cs. Equality cs) (member_form (list_form (equality_form sizes variables)) (codes "claims") d) else
    (if bytes_eq kind (codes "next") then option_map (λ cs. Successor cs) (member_form (list_form (successor_form sizes variables)) (codes "claims") d) else
    (if bytes_eq kind (codes "select") then select_form sizes variables d else None))

-- a group of claims of one kind
abbrev pub group_form : Sizes → ℕ → Data → Option Group
group_form sizes variables d = with_member d (codes "kind") as_str (group_named sizes variables d)

-- the greatest number of statements in a job
abbrev pub most_statements : ℕ
most_statements = 4096

-- groups of no more statements than a job may have
abbrev pub few_statements : List Group → Option (List Group)
few_statements groups = if nat_le (statement_count groups) most_statements then Some groups else None

-- the groups of a job
abbrev pub groups_form : Sizes → ℕ → Data → Option (List Group)
groups_form sizes variables d = option_and_then few_statements (list_form (group_form sizes variables) d)
