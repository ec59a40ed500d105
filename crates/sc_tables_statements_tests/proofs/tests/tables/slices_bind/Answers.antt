use Rattle.std.proofs.Common.{length, ap, ◌∙◌}
use Rattle.sc_tables_statements_tests.proofs.tests.tables.slices_bind.Goals as goal

-- there are four values, and so two variables
pub fix_prefix_var_slice-requires : goal.fix_prefix_var_slice-requires
fix_prefix_var_slice-requires g c = (1, ap length c.deref.ensures.value ∙ c.in_ok-evals.ensures)

pub fix_suffix_var_slice-requires : goal.fix_suffix_var_slice-requires
fix_suffix_var_slice-requires g c = (1, ap length c.deref-2.ensures.value ∙ c.in_ok-evals.ensures)
