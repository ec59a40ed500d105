-- What clauses see of the holder of a table.
use Rattle.std.specs.declared.cmp.PartialEq.{Ghosts as PartialEqOf}
use Rattle.sc_field.specs.declared.field.Field.{Ghosts as FieldOf}
use Rattle.sc_field.specs.declared.algebra.Algebra.{Ghosts as AlgebraOf}
use Rattle.sc_field.specs.declared.algebra.ExtensionField.{Ghosts as ExtensionOf}
use Rattle.sc_table.specs.Polys.{variables_of, table_of}
use Rattle.sc_layout.specs.declared.prover.BindingOrder.{Ghosts as BindingOf}
use Rattle.sc_layout.specs.declared.prover.TableProver.{TableProver}
use Rattle.sc_layout.specs.Openings.{Laid}
use Rattle.sc_layout.specs.Books.{prover_recorded}

module _ {F EF O : Type 0} {f : FieldOf F} {p : PartialEqOf F} {x : ExtensionOf EF F} {a : AlgebraOf EF F} {e : FieldOf EF} {q : PartialEqOf EF} {b : BindingOf O} where
  -- what the holder of a table shows
  abbrev pub laid_by : TableProver F EF O f p x a e q b → Laid
  laid_by t = record {
    order = b.binds;
    folding = t.folding;
    variables = variables_of t.table;
    rows = λ i. a.embedding (table_of f.number t.table i);
    recorded = prover_recorded t.claims;
  }
