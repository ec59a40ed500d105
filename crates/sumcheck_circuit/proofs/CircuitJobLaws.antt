-- The numbers of a job of `circuit` that a value describes are those of elements.
use Rattle.std.proofs.Common.{◌≡◌, ℕ, Option, Ok, refl, sym, subst}
use Rattle.std.specs.Prelude.{All, codes}
use Rattle.std.proofs.lemmas.Option.{same_Some}
use Rattle.serde_json.specs.Data.{Data}
use Rattle.sc_forms.specs.Forms.{at_most_form, is_object, list_form}
use Rattle.sumcheck_members.specs.declared.job.FieldName.{FieldName}
use Rattle.sumcheck_members.specs.declared.job.Sizes.{Sizes}
use Rattle.sumcheck_members.specs.Members.{whole_job}
use Rattle.sumcheck_members.specs.Elements.{element_form, field_form, sizes_of}
use Rattle.sumcheck_members.specs.Stated.{challenger_form}
use Rattle.sumcheck_members.proofs.FormLaws.{Gives, below-gives, at_most-gives, list-gives, member-gives, with_member-gives, needed-gives, build_or_check-gives, any-gives, tested_ok, ok-same}
use Rattle.sumcheck_members.proofs.StatedLaws.{challenger-gives}
use Rattle.sumcheck_circuit.specs.declared.job.CircuitJob.{CircuitJob}
use Rattle.sumcheck_circuit.specs.CircuitJob.{gate_form, layer_form, layers_given_form, circuit_mode_form, circuit_members_over, circuit_members_of, circuit_job_of, LayerFits, CircuitJobFits}

module _ (sizes : Sizes) where
  abbrev base_element : Data → Option ℕ
  base_element = element_form sizes.base

  abbrev extension_element : Data → Option ℕ
  extension_element = element_form sizes.extension

  layer-gives : Gives (layer_form sizes) (LayerFits sizes)
  layer-gives d l is =
      with_member-gives d (codes "rounds") (list_form (list_form extension_element)) _ l (list-gives (list_form extension_element) (list-gives extension_element (below-gives sizes.extension))) is (λ rounds lows is.
      with_member-gives d (codes "witnesses") (list_form base_element) _ l (list-gives base_element (below-gives sizes.base)) is (λ witnesses fews is.
      with_member-gives d (codes "left") extension_element _ l (below-gives sizes.extension) is (λ left a is.
      with_member-gives d (codes "right") extension_element _ l (below-gives sizes.extension) is (λ right b is.
      subst (LayerFits sizes) (same_Some (record { rounds = rounds; witnesses = witnesses; left = left; right = right }) l is)
      (record { rounds = lows; witnesses = fews; left = a; right = b })))))

  layers-gives : Gives (layers_given_form sizes) (All (LayerFits sizes))
  layers-gives = member-gives (list_form (layer_form sizes)) (list-gives (layer_form sizes) layer-gives) (codes "layers")

  members-fit : (field : FieldName) (d : Data) (job : CircuitJob) → circuit_members_over field sizes d ≡ Ok job → (job.field ≡ field) × CircuitJobFits sizes job
  members-fit field d job is =
      needed-gives (challenger_form sizes) (codes "challenger") d _ job (challenger-gives sizes) is (λ challenger c is.
      needed-gives (at_most_form 65535) (codes "bits") d _ job (at_most-gives 65535) is (λ bits _ is.
      needed-gives (list_form base_element) (codes "inputs") d _ job (list-gives base_element (below-gives sizes.base)) is (λ inputs i is.
      needed-gives (list_form (list_form gate_form)) (codes "layers") d _ job (any-gives (list_form (list_form gate_form))) is (λ layers _ is.
      needed-gives (list_form base_element) (codes "outputs") d _ job (list-gives base_element (below-gives sizes.base)) is (λ outputs o is.
      needed-gives (circuit_mode_form sizes) (codes "mode") d _ job (build_or_check-gives (layers_given_form sizes) layers-gives) is (λ mode m is.
      subst (λ j. (j.field ≡ field) × CircuitJobFits sizes j)
      (ok-same (record { field = field; challenger = challenger; bits = bits; inputs = inputs; layers = layers; outputs = outputs; mode = mode }) job is)
      (refl, record { challenger = c; inputs = i; outputs = o; mode = m })))))))

pub circuit_job_of-fits : (d : Data) (job : CircuitJob) → circuit_job_of d ≡ Ok job → CircuitJobFits (sizes_of job.field) job
circuit_job_of-fits d job is =
    needed-gives field_form (codes "field") d (λ field. circuit_members_over field (sizes_of field) d) job (any-gives field_form)
    (tested_ok (is_object d) (circuit_members_of d) whole_job job is) (λ field _ is.
    let fit = members-fit (sizes_of field) field d job is in
    subst (λ f. CircuitJobFits (sizes_of f) job) (sym fit.0) fit.1)
