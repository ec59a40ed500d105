use Rattle.std.proofs.Common.{◌^◌, ◌<◌, ◌∙◌, sym, ap, subst, ◌≡◌, length, refl, ◌+◌, map}
use Rattle.std.proofs.lemmas.List.{length-map}
use Rattle.sc_definitions.specs.Ring.{plus, times}
use Rattle.sc_definitions.specs.Statements.{weight_of}
use Rattle.sc_table.specs.Polys.{table_of}
use Rattle.sc_statements.specs.NextStatements.{next_kind}
use Rattle.sc_definitions.proofs.Lists.{read_has}
use Rattle.sc_statements.proofs.Evaluations.{read-evaluated, place-inside}
use Rattle.sc_statements.proofs.statement.next.NextStatementStatementList.add_weights.Goals as goal

pub returns-clause-table : goal.returns-clause-table
returns-clause-table g c = λ b low.
    let f = g.EF.Field in
    c.add_to.ensures.table b (subst (λ n. b < 2 ^ n) (sym c.requires.arity) low)
    ∙ ap (λ w. plus f.ops (table_of f.number c.args.table.now b) (times f.ops (f.number c.args.scale) w))
    (read-evaluated (next_kind f.number) f.number (λ s. weight_of f.ops s.kind b) c.args.self.now.constraints.items c.args.index c.index.result.now c.requires.index c.index.ensures)

-- the place is in the list
pub index-requires : goal.index-requires
index-requires g c =
    let constraints = c.args.self.now.constraints in
    place-inside (next_kind g.EF.Field.number) g.EF.Field.number constraints.items constraints.len c.args.index constraints.ok.0 c.requires.index

-- what stands there fits the number of variables
pub add_to-requires : goal.add_to-requires
add_to-requires g c =
    let self = c.args.self.now in
    let one = c.index.result.now in
    ap (λ k. k + length (map g.EF.Field.number one.weights.point)) (length-map one.weights.selector g.EF.Field.number) ∙ ap (λ k. length one.weights.selector + k) (length-map one.weights.point g.EF.Field.number)
    ∙ read_has (λ d. length d.weights.selector + length d.weights.point ≡ self.num_variables) self.constraints.items c.args.index one self.fits
    (place-inside (next_kind g.EF.Field.number) g.EF.Field.number self.constraints.items (length self.constraints.items) c.args.index refl c.requires.index) c.index.ensures
    ∙ sym c.requires.arity
