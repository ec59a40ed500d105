-- The numbers of a job that a value describes are those of elements.
use Rattle.std.proofs.Common.{◌≡◌, ℕ, ◌<◌, Bool, true, false, Option, Some, None, Ok, sym, subst, if◌then◌else◌}
use Rattle.std.specs.Prelude.{codes, is_some, option_map}
use Rattle.std.proofs.lemmas.Option.{same_Some, none-some}
use Rattle.serde_json.specs.Data.{Data}
use Rattle.serde_json.specs.Find.{get, as_null}
use Rattle.sc_forms.specs.Forms.{is_object, list_form, pair_form}
use Rattle.sc_table.specs.declared.strategy.Basis.TheVariants.{Evaluation}
use Rattle.sumcheck_members.specs.declared.job.FieldName.{FieldName}
use Rattle.sumcheck_members.specs.declared.job.Sizes.{Sizes}
use Rattle.sumcheck_audit.specs.declared.job.Proof.{Proof}
use Rattle.sumcheck_audit.specs.declared.job.Mode.{Mode}
use Rattle.sumcheck_audit.specs.declared.job.Mode.TheVariants.{Build, Check}
use Rattle.sumcheck_audit.specs.declared.job.Job.{Job}
use Rattle.sumcheck_members.specs.Members.{whole_job, needed_or}
use Rattle.sumcheck_members.specs.Elements.{basis_form, element_form, field_form, sizes_of}
use Rattle.sumcheck_members.specs.Stated.{stated_over}
use Rattle.sumcheck_audit.specs.Job.{proof_form, check_form, strategy_form, mode_by, mode_form, members_over, members_of, job_of, ProofFits, ModeFits, JobFits}
use Rattle.sumcheck_members.proofs.StatedLaws.{stated-fit}
use Rattle.sumcheck_members.proofs.FormLaws.{Gives, option_map_some, below-gives, list-gives, pair-gives, with_member-gives, needed-gives, any-gives, tested_ok, unless_misfit-gives, ok-same}

module _ (sizes : Sizes) where
  abbrev base_element : Data → Option ℕ
  base_element = element_form sizes.base

  abbrev extension_element : Data → Option ℕ
  extension_element = element_form sizes.extension

  base-gives : Gives base_element (λ n. n < sizes.base)
  base-gives = below-gives sizes.base

  extension-gives : Gives extension_element (λ n. n < sizes.extension)
  extension-gives = below-gives sizes.extension

  -- ---- what is done

  pub proof-gives : Gives (proof_form sizes) (ProofFits sizes)
  proof-gives d p is =
      with_member-gives d (codes "rounds") (list_form (pair_form extension_element)) _ p (list-gives (pair_form extension_element) (pair-gives extension_element extension-gives)) is (λ rounds lows is.
      with_member-gives d (codes "witnesses") (list_form base_element) _ p (list-gives base_element base-gives) is (λ witnesses fews is.
      subst (ProofFits sizes) (same_Some (record { rounds = rounds; witnesses = witnesses }) p is) (record { rounds = lows; witnesses = fews })))

  check-by : (null : Bool) (proof : Option Proof) (checked : Option Proof) → ((p : Proof) → proof ≡ Some p → ProofFits sizes p) →
      (if null then Some None else option_map (λ p. Some p) proof) ≡ Some checked → ModeFits sizes (Check checked)
  check-by true proof checked fits is = subst (λ c. ModeFits sizes (Check c)) (same_Some None checked is) tt
  check-by false proof checked fits is =
      option_map_some (λ p. Some p) proof checked is (λ p at same. subst (λ c. ModeFits sizes (Check c)) same (fits p at))

  mode-by : (build check : Option Data) (mode : Mode) → mode_by sizes build check ≡ Some mode → ModeFits sizes mode
  mode-by (Some build) None mode is =
      option_map_some (λ s. Build s) (strategy_form build) mode is (λ s at same. subst (ModeFits sizes) same tt)
  mode-by None (Some check) mode is =
      option_map_some (λ c. Check c) (check_form sizes check) mode is (λ c at same.
      subst (ModeFits sizes) same (check-by (is_some (as_null check)) (proof_form sizes check) c (proof-gives check) at))
  mode-by None None mode is = absurd (none-some mode is)
  mode-by (Some build) (Some check) mode is = absurd (none-some mode is)

  pub mode-gives : Gives (mode_form sizes) (ModeFits sizes)
  mode-gives d mode is = mode-by (get (codes "build") d) (get (codes "check") d) mode is

  -- ---- the members

  members-fit : (field : FieldName) (d : Data) (job : Job) → members_over field sizes d ≡ Ok job → (job.stated.field ≡ field) × JobFits sizes job
  members-fit field d job is =
      unless_misfit-gives (stated_over field sizes d) _ job is (λ stated s is.
      needed-gives (mode_form sizes) (codes "mode") d _ job mode-gives is (λ mode m is.
      let fit = stated-fit sizes field d stated s in
      unless_misfit-gives (needed_or Evaluation basis_form (codes "basis") d) _ job is (λ basis _ is.
      subst (λ j. (j.stated.field ≡ field) × JobFits sizes j) (ok-same (record { stated = stated; mode = mode; basis = basis }) job is)
      (fit.0, record { stated = fit.1; mode = m }))))

-- each number of a job that a value describes is that of an element
pub job_of-fits : (d : Data) (job : Job) → job_of d ≡ Ok job → JobFits (sizes_of job.stated.field) job
job_of-fits d job is =
    needed-gives field_form (codes "field") d (λ field. members_over field (sizes_of field) d) job (any-gives field_form)
    (tested_ok (is_object d) (members_of d) whole_job job is) (λ field _ is.
    let fit = members-fit (sizes_of field) field d job is in
    subst (λ f. JobFits (sizes_of f) job) (sym fit.0) fit.1)
