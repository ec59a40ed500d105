-- The numbers of a job of `product` that a value describes are those of elements.
use Rattle.std.proofs.Common.{◌≡◌, ℕ, length, Bool, true, false, Option, Ok, refl, sym, subst}
use Rattle.std.specs.Prelude.{◌&&◌, codes, nat_le}
use Rattle.std.proofs.lemmas.Bool.{leb-true}
use Rattle.std.proofs.lemmas.Option.{same_Some, cond_some, option_and_then_some}
use Rattle.serde_json.specs.Data.{Data}
use Rattle.sc_forms.specs.Forms.{at_most_form, is_object, list_form}
use Rattle.sumcheck_members.specs.declared.job.FieldName.{FieldName}
use Rattle.sumcheck_members.specs.declared.job.Sizes.{Sizes}
use Rattle.sumcheck_product.specs.declared.job.ProductJob.{ProductJob}
use Rattle.sumcheck_members.specs.Members.{whole_job}
use Rattle.sumcheck_members.specs.Elements.{element_form, field_form, sizes_of}
use Rattle.sumcheck_members.specs.Stated.{challenger_form}
use Rattle.sumcheck_product.specs.ProductJob.{most_tables, some_tables, tables_form, product_proof_form, product_mode_form, product_members_over, product_members_of, product_job_of, ProductProofFits, TablesFit, ProductJobFits}
use Rattle.sumcheck_members.proofs.FormLaws.{Gives, below-gives, at_most-gives, list-gives, with_member-gives, needed-gives, build_or_check-gives, any-gives, tested_ok, ok-same}
use Rattle.sumcheck_members.proofs.StatedLaws.{challenger-gives}

both_true : (a b : Bool) → a && b ≡ true → (a ≡ true) × (b ≡ true)
both_true true b is = (refl, is)
both_true false b is = cc

module _ (sizes : Sizes) where
  abbrev base_element : Data → Option ℕ
  base_element = element_form sizes.base

  abbrev extension_element : Data → Option ℕ
  extension_element = element_form sizes.extension

  tables-gives : Gives (tables_form sizes) (TablesFit sizes.base)
  tables-gives d tables is =
      option_and_then_some some_tables (list_form (list_form base_element) d) tables is (λ ts at some.
      let counted = cond_some (nat_le 1 (length ts) && nat_le (length ts) most_tables) ts tables some in
      let both = both_true (nat_le 1 (length ts)) (nat_le (length ts) most_tables) counted.0 in
      subst (TablesFit sizes.base) counted.1 (record {
        some = leb-true 1 (length ts) both.0;
        few = leb-true (length ts) most_tables both.1;
        elements = list-gives (list_form base_element) (list-gives base_element (below-gives sizes.base)) d ts at;
      }))

  proof-gives : Gives (product_proof_form sizes) (ProductProofFits sizes)
  proof-gives d p is =
      with_member-gives d (codes "claimed") extension_element _ p (below-gives sizes.extension) is (λ claimed low is.
      with_member-gives d (codes "rounds") (list_form (list_form extension_element)) _ p (list-gives (list_form extension_element) (list-gives extension_element (below-gives sizes.extension))) is (λ rounds lows is.
      with_member-gives d (codes "witnesses") (list_form base_element) _ p (list-gives base_element (below-gives sizes.base)) is (λ witnesses fews is.
      subst (ProductProofFits sizes) (same_Some (record { claimed = claimed; rounds = rounds; witnesses = witnesses }) p is)
      (record { claimed = low; rounds = lows; witnesses = fews }))))

  members-fit : (field : FieldName) (d : Data) (job : ProductJob) → product_members_over field sizes d ≡ Ok job → (job.field ≡ field) × ProductJobFits sizes job
  members-fit field d job is =
      needed-gives (challenger_form sizes) (codes "challenger") d _ job (challenger-gives sizes) is (λ challenger c is.
      needed-gives (at_most_form 65535) (codes "bits") d _ job (at_most-gives 65535) is (λ bits _ is.
      needed-gives (tables_form sizes) (codes "tables") d _ job tables-gives is (λ tables t is.
      needed-gives (product_mode_form sizes) (codes "mode") d _ job (build_or_check-gives (product_proof_form sizes) proof-gives) is (λ mode m is.
      subst (λ j. (j.field ≡ field) × ProductJobFits sizes j) (ok-same (record { field = field; challenger = challenger; bits = bits; tables = tables; mode = mode }) job is)
      (refl, record { challenger = c; tables = t; mode = m })))))

-- each number of a job that a value describes is that of an element
pub product_job_of-fits : (d : Data) (job : ProductJob) → product_job_of d ≡ Ok job → ProductJobFits (sizes_of job.field) job
product_job_of-fits d job is =
    needed-gives field_form (codes "field") d (λ field. product_members_over field (sizes_of field) d) job (any-gives field_form)
    (tested_ok (is_object d) (product_members_of d) whole_job job is) (λ field _ is.
    let fit = members-fit (sizes_of field) field d job is in
    subst (λ f. ProductJobFits (sizes_of f) job) (sym fit.0) fit.1)
