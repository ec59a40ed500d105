use Rattle.sc_tables_statements_tests.proofs.tests.tables.four.Goals as goal

pub new-requires : goal.new-requires
new-requires c = (2, c.in_ok-elements.ensures)
