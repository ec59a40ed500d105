use Rattle.std.proofs.Common.{◌≡◌, map}
use Rattle.sc_definitions.specs.Tables.{entries}
use Rattle.sc_table.specs.Polys.{table_of}
use Rattle.sc_degree.specs.Arities.{HaveArity}
use Rattle.sc_product_audit.proofs.tables.product_of.Given as goal

-- the tables so far
abbrev pub invariant-loop-table : goal.invariant-loop-table
invariant-loop-table g l = record {
  tables : map (table_of g.EF.Field.number) l.polys.items ≡ map (λ t. entries g.EF.Field.number t.items) l.yielded;
  arity : HaveArity l.n l.polys.items;
}
