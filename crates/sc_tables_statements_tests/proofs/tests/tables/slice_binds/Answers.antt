use Rattle.std.proofs.Common.{length, ap, ◌∙◌}
use Rattle.sc_tables_statements_tests.proofs.tests.tables.slice_binds.Goals as goal

-- there are four values, and so two variables
pub fix_var_slice-requires : goal.fix_var_slice-requires
fix_var_slice-requires g c = (1, ap length c.deref.ensures.value ∙ c.in_ok-evals.ensures)
