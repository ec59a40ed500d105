-- The numbers of what a value states are those of elements.
use Rattle.std.proofs.Common.{◌≡◌, ℕ, ◌+◌, ◌<◌, length, Bool, true, false, Option, Some, None, Ok, refl, subst, if◌then◌else◌}
use Rattle.std.specs.Prelude.{All, codes, bytes_eq, nat_eq, nat_le, is_some, option_map}
use Rattle.std.proofs.lemmas.Bool.{eqb-true}
use Rattle.std.proofs.lemmas.Option.{same_Some, none-some, cond_some, option_and_then_some}
use Rattle.serde_json.specs.Data.{Data}
use Rattle.serde_json.specs.Find.{get, as_str}
use Rattle.sc_forms.specs.Forms.{at_most_form, list_form, list_of_length_form, literal_form, member_form}
use Rattle.sumcheck_members.specs.declared.job.FieldName.{FieldName}
use Rattle.sumcheck_members.specs.declared.job.Sizes.{Sizes}
use Rattle.sumcheck_members.specs.declared.job.Script.{Script}
use Rattle.sumcheck_members.specs.declared.job.Challenger.{Challenger}
use Rattle.sumcheck_members.specs.declared.job.Challenger.TheVariants.{Scripted, Hash}
use Rattle.sumcheck_members.specs.declared.job.Group.{Group}
use Rattle.sumcheck_members.specs.declared.job.Group.TheVariants.{Equality, Successor, Scalars, Products}
use Rattle.sumcheck_members.specs.declared.job.Stated.{Stated}
use Rattle.sumcheck_members.specs.Elements.{element_form, order_form}
use Rattle.sumcheck_members.specs.Statements.{EqualityFits, SuccessorFits, ScalarFits, ProductFits, GroupFits, statement_count}
use Rattle.sumcheck_members.specs.Groups.{equality_form, successor_form, scalar_form, product_form, select_by, select_form, group_named, group_form, most_statements, few_statements, groups_form}
use Rattle.sumcheck_members.specs.Stated.{script_form, challenger_form, stated_over, ScriptFits, ChallengerFits, StatedFits}
use Rattle.sumcheck_members.proofs.FormLaws.{Gives, option_map_some, below-gives, at_most-gives, list-gives, list_of_length-gives, member-gives, with_member-gives, needed-gives, any-gives, ok-same}

module _ (sizes : Sizes) where
  abbrev base_element : Data → Option ℕ
  base_element = element_form sizes.base

  abbrev extension_element : Data → Option ℕ
  extension_element = element_form sizes.extension

  base-gives : Gives base_element (λ n. n < sizes.base)
  base-gives = below-gives sizes.base

  extension-gives : Gives extension_element (λ n. n < sizes.extension)
  extension-gives = below-gives sizes.extension

  -- ---- challengers

  script-gives : Gives (script_form sizes) (ScriptFits sizes.base)
  script-gives d script is =
      with_member-gives d (codes "draws") (list_form base_element) _ script (list-gives base_element base-gives) is (λ draws low is.
      with_member-gives d (codes "witnesses") (list_form (list_form base_element)) _ script (list-gives (list_form base_element) (list-gives base_element base-gives)) is (λ witnesses lows is.
      subst (ScriptFits sizes.base) (same_Some (record { draws = draws; witnesses = witnesses }) script is) (record { draws = low; witnesses = lows })))

  challenger-by : (hash : Bool) (script : Option Script) (c : Challenger) → ((s : Script) → script ≡ Some s → ScriptFits sizes.base s) →
      (if hash then Some Hash else option_map (λ s. Scripted s) script) ≡ Some c → ChallengerFits sizes.base c
  challenger-by true script c fits is = subst (ChallengerFits sizes.base) (same_Some Hash c is) tt
  challenger-by false script c fits is =
      option_map_some (λ s. Scripted s) script c is (λ s at same. subst (ChallengerFits sizes.base) same (fits s at))

  pub challenger-gives : Gives (challenger_form sizes) (ChallengerFits sizes.base)
  challenger-gives d c is = challenger-by (is_some (literal_form (codes "hash") d)) (script_form sizes d) c (script-gives d) is

  -- ---- groups of claims

  module _ (variables : ℕ) where
    equality-gives : Gives (equality_form sizes variables) (EqualityFits sizes.extension variables)
    equality-gives d c is =
        with_member-gives d (codes "point") (list_of_length_form extension_element variables) _ c (list_of_length-gives extension_element extension-gives variables) is (λ point whole is.
        with_member-gives d (codes "value") extension_element _ c extension-gives is (λ value low is.
        subst (EqualityFits sizes.extension variables) (same_Some (record { point = point; value = value }) c is)
        (record { arity = whole.1; point = whole.0; value = low })))

    successor-gives : Gives (successor_form sizes variables) (SuccessorFits sizes.extension variables)
    successor-gives d c is =
        with_member-gives d (codes "selector") (list_form extension_element) _ c (list-gives extension_element extension-gives) is (λ selector fixed is.
        with_member-gives d (codes "point") (list_form extension_element) _ c (list-gives extension_element extension-gives) is (λ point lows is.
        with_member-gives d (codes "order") order_form _ c (any-gives order_form) is (λ order _ is.
        with_member-gives d (codes "value") extension_element _ c extension-gives is (λ value low is.
        let whole = cond_some (nat_eq (length selector + length point) variables) (record { selector = selector; point = point; order = order; value = value }) c is in
        subst (SuccessorFits sizes.extension variables) whole.1
        (record { arity = eqb-true _ _ whole.0; selector = fixed; point = lows; value = low })))))

    scalar-gives : Gives (scalar_form sizes) (ScalarFits sizes)
    scalar-gives d c is =
        with_member-gives d (codes "at") base_element _ c base-gives is (λ scalar few is.
        with_member-gives d (codes "value") extension_element _ c extension-gives is (λ value low is.
        subst (ScalarFits sizes) (same_Some (record { scalar = scalar; value = value }) c is) (record { scalar = few; value = low })))

    product-gives : Gives (product_form sizes variables) (ProductFits sizes variables)
    product-gives d c is =
        with_member-gives d (codes "at") (list_of_length_form base_element variables) _ c (list_of_length-gives base_element base-gives variables) is (λ point whole is.
        with_member-gives d (codes "value") extension_element _ c extension-gives is (λ value low is.
        subst (ProductFits sizes variables) (same_Some (record { point = point; value = value }) c is)
        (record { arity = whole.1; point = whole.0; value = low })))

    select-by : (scalars points : Option Data) (g : Group) → select_by sizes variables scalars points ≡ Some g → GroupFits sizes variables g
    select-by (Some scalars) None g is =
        option_map_some (λ cs. Scalars cs) (list_form (scalar_form sizes) scalars) g is (λ cs at same.
        subst (GroupFits sizes variables) same (list-gives (scalar_form sizes) scalar-gives scalars cs at))
    select-by None (Some points) g is =
        option_map_some (λ cs. Products cs) (list_form (product_form sizes variables) points) g is (λ cs at same.
        subst (GroupFits sizes variables) same (list-gives (product_form sizes variables) product-gives points cs at))
    select-by None None g is = absurd (none-some g is)
    select-by (Some scalars) (Some points) g is = absurd (none-some g is)

    named-by : (eq next select : Bool) (d : Data) (g : Group) →
        (if eq then option_map (λ cs. Equality cs) (member_form (list_form (equality_form sizes variables)) (codes "claims") d) else
        (if next then option_map (λ cs. Successor cs) (member_form (list_form (successor_form sizes variables)) (codes "claims") d) else
        (if select then select_form sizes variables d else None))) ≡ Some g → GroupFits sizes variables g
    named-by true next select d g is =
        option_map_some (λ cs. Equality cs) (member_form (list_form (equality_form sizes variables)) (codes "claims") d) g is (λ cs at same.
        subst (GroupFits sizes variables) same
        (member-gives (list_form (equality_form sizes variables)) (list-gives (equality_form sizes variables) equality-gives) (codes "claims") d cs at))
    named-by false true select d g is =
        option_map_some (λ cs. Successor cs) (member_form (list_form (successor_form sizes variables)) (codes "claims") d) g is (λ cs at same.
        subst (GroupFits sizes variables) same
        (member-gives (list_form (successor_form sizes variables)) (list-gives (successor_form sizes variables) successor-gives) (codes "claims") d cs at))
    named-by false false true d g is = select-by (get (codes "scalars") d) (get (codes "points") d) g is
    named-by false false false d g is = absurd (none-some g is)

    group-gives : Gives (group_form sizes variables) (GroupFits sizes variables)
    group-gives d g is =
        with_member-gives d (codes "kind") as_str (group_named sizes variables d) g (any-gives as_str) is (λ kind _ is.
        named-by (bytes_eq kind (codes "eq")) (bytes_eq kind (codes "next")) (bytes_eq kind (codes "select")) d g is)

    pub groups-gives : Gives (groups_form sizes variables) (All (GroupFits sizes variables))
    groups-gives d groups is =
        option_and_then_some few_statements (list_form (group_form sizes variables) d) groups is (λ gs at some.
        subst (All (GroupFits sizes variables)) (cond_some (nat_le (statement_count gs) most_statements) gs groups some).1
        (list-gives (group_form sizes variables) group-gives d gs at))

  -- ---- the members

  pub stated-fit : (field : FieldName) (d : Data) (stated : Stated) → stated_over field sizes d ≡ Ok stated → (stated.field ≡ field) × StatedFits sizes stated
  stated-fit field d stated is =
      needed-gives (challenger_form sizes) (codes "challenger") d _ stated challenger-gives is (λ challenger c is.
      needed-gives order_form (codes "order") d _ stated (any-gives order_form) is (λ order _ is.
      needed-gives (at_most_form 65535) (codes "bits") d _ stated (at_most-gives 65535) is (λ bits _ is.
      needed-gives (list_form base_element) (codes "table") d _ stated (list-gives base_element base-gives) is (λ table t is.
      needed-gives (at_most_form 64) (codes "variables") d _ stated (at_most-gives 64) is (λ variables v is.
      needed-gives (groups_form sizes variables) (codes "groups") d _ stated (groups-gives variables) is (λ groups g is.
      needed-gives extension_element (codes "batching") d _ stated extension-gives is (λ batching b is.
      subst (λ s. (s.field ≡ field) × StatedFits sizes s) (ok-same (record { field = field; challenger = challenger; order = order; bits = bits; table = table; variables = variables; groups = groups; batching = batching }) stated is)
      (refl, record { challenger = c; table = t; few = v; groups = g; batching = b }))))))))
