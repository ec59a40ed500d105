-- The members of a job after its table are those that are read together.
use Rattle.std.proofs.Common.{◌≡◌, ℕ, List, codes, Result, Ok, Err, refl, ◌∙◌, ap}
use Rattle.serde_json.specs.Data.{Data}
use Rattle.sc_forms.specs.Forms.{at_most_form, list_form}
use Rattle.sc_table.specs.declared.strategy.VariableOrder.{VariableOrder}
use Rattle.sumcheck_members.specs.Members.{Name, needed, unless_misfit}
use Rattle.sumcheck_members.specs.Elements.{element_form, order_form}
use Rattle.sumcheck_members.specs.Groups.{groups_form}
use Rattle.sumcheck_members.specs.Stated.{challenger_form, stated_over}
use Rattle.sumcheck_members.specs.Rest.{rest_over}
use Rattle.sumcheck_members.specs.declared.job.FieldName.{FieldName}
use Rattle.sumcheck_members.specs.declared.job.Sizes.{Sizes}
use Rattle.sumcheck_members.specs.declared.job.Challenger.{Challenger}
use Rattle.sumcheck_members.specs.declared.job.Stated.{Stated}
use Rattle.sumcheck_members.specs.declared.reading.Rest.{Rest}

-- three members, one after the other, and what is made of them
module _ {V G B R S : Type 0} (make : V → G → B → R) (into : R → S) where
  last_one : (b : Result B Name) (v : V) (g : G) →
      unless_misfit b (λ y. Ok (into (make v g y))) ≡ unless_misfit (unless_misfit b (λ y. Ok (make v g y))) (λ r. Ok (into r))
  last_one (Ok y) v g = refl
  last_one (Err e) v g = refl

  last_two : (gs : Result G Name) (b : Result B Name) (v : V) →
      unless_misfit gs (λ g. unless_misfit b (λ y. Ok (into (make v g y))))
      ≡ unless_misfit (unless_misfit gs (λ g. unless_misfit b (λ y. Ok (make v g y)))) (λ r. Ok (into r))
  last_two (Ok g) b v = last_one b v g
  last_two (Err e) b v = refl

  all_three : (v : Result V Name) (gs : V → Result G Name) (b : Result B Name) →
      unless_misfit v (λ x. unless_misfit (gs x) (λ g. unless_misfit b (λ y. Ok (into (make x g y)))))
      ≡ unless_misfit (unless_misfit v (λ x. unless_misfit (gs x) (λ g. unless_misfit b (λ y. Ok (make x g y))))) (λ r. Ok (into r))
  all_three (Ok x) gs b = last_two (gs x) b x
  all_three (Err e) gs b = refl

-- what is stated by what stands before and after the table
abbrev stated_with : FieldName → Challenger → VariableOrder → ℕ → List ℕ → Rest → Stated
stated_with field challenger order bits table rest = record {
  field = field;
  challenger = challenger;
  order = order;
  bits = bits;
  table = table;
  variables = rest.variables;
  groups = rest.groups;
  batching = rest.batching;
}

module _ (field : FieldName) (sizes : Sizes) (d : Data) (challenger : Challenger) (order : VariableOrder) (bits : ℕ) (table : List ℕ)
    (has_challenger : needed (challenger_form sizes) (codes "challenger") d ≡ Ok challenger) (has_order : needed order_form (codes "order") d ≡ Ok order)
    (has_bits : needed (at_most_form 65535) (codes "bits") d ≡ Ok bits) (has_table : needed (list_form (element_form sizes.base)) (codes "table") d ≡ Ok table) where
  behind : stated_over field sizes d ≡ unless_misfit (rest_over sizes d) (λ rest. Ok (stated_with field challenger order bits table rest))
  behind =
      rw (has_challenger, has_order, has_bits, has_table)
      (all_three (λ v g b. record { variables = v; groups = g; batching = b }) (stated_with field challenger order bits table)
      (needed (at_most_form 64) (codes "variables") d) (λ v. needed (groups_form sizes v) (codes "groups") d) (needed (element_form sizes.extension) (codes "batching") d))

  -- a misfit among these members is told
  pub rest_misfit : (m : Name) → rest_over sizes d ≡ Err m → stated_over field sizes d ≡ Err m
  rest_misfit m is = behind ∙ ap (λ r. unless_misfit r (λ rest. Ok (stated_with field challenger order bits table rest))) is

  -- and without one they make what is stated
  pub rest_ok : (rest : Rest) → rest_over sizes d ≡ Ok rest → stated_over field sizes d ≡ Ok (stated_with field challenger order bits table rest)
  rest_ok rest is = behind ∙ ap (λ r. unless_misfit r (λ rest. Ok (stated_with field challenger order bits table rest))) is
