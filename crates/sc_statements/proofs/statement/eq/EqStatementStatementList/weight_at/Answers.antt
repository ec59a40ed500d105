use Rattle.std.proofs.Common.{◌∙◌, map, ◌≡◌, length, sym, refl}
use Rattle.std.proofs.lemmas.List.{length-map}
use Rattle.sc_definitions.specs.Tables.{value_in}
use Rattle.sc_definitions.specs.Statements.{weight_of}
use Rattle.sc_table.specs.Strategy.{basis_of}
use Rattle.sc_statements.specs.EqStatements.{point_kind}
use Rattle.sc_definitions.proofs.Lists.{read_has}
use Rattle.sc_statements.proofs.Evaluations.{read-evaluated, place-inside}
use Rattle.sc_statements.proofs.statement.eq.EqStatementStatementList.weight_at.Goals as goal

pub returns : goal.returns
returns g c =
    let f = g.EF.Field in
    c.value_at.ensures
    ∙ read-evaluated (point_kind f.number) f.number (λ s. value_in (basis_of c.args.basis) f.ops (weight_of f.ops s.kind) (map f.number c.args.row.now)) c.args.self.now.constraints.items c.args.index c.index.result.now c.requires.index c.index.ensures

-- the place is in the list
pub index-requires : goal.index-requires
index-requires g c =
    let constraints = c.args.self.now.constraints in
    place-inside (point_kind g.EF.Field.number) g.EF.Field.number constraints.items constraints.len c.args.index constraints.ok.0 c.requires.index

-- what stands there fits the number of variables
pub value_at-requires : goal.value_at-requires
value_at-requires g c =
    let self = c.args.self.now in
    let one = c.index.result.now in
    length-map one.weights g.EF.Field.number
    ∙ read_has (λ d. length d.weights ≡ self.num_variables) self.constraints.items c.args.index one self.fits
    (place-inside (point_kind g.EF.Field.number) g.EF.Field.number self.constraints.items (length self.constraints.items) c.args.index refl c.requires.index) c.index.ensures
    ∙ sym c.requires.arity
