use Rattle.std.proofs.Common.{ℕ, ◌∙◌, ◌≡◌, length, map, refl}
use Rattle.std.proofs.lemmas.List.{length-map}
use Rattle.sc_definitions.specs.Tables.{entries}
use Rattle.sc_definitions.specs.Statements.{true_value}
use Rattle.sc_statements.specs.EqStatements.{point_kind}
use Rattle.sc_definitions.proofs.Lists.{read_has}
use Rattle.sc_statements.proofs.Evaluations.{read-evaluated, place-inside}
use Rattle.sc_statements.proofs.statement.eq.EqStatementStatementList.truth_at.Goals as goal

pub returns : goal.returns
returns g c =
    let f = g.EF.Field in
    let self = c.args.self.now in
    let one = c.index.result.now in
    let table : ℕ → ℕ = λ b. g.EF.Algebra.embedding (entries g.A.Field.number c.args.rows.now b) in
    c.true_value.ensures self.num_variables c.requires.size
    ∙ read-evaluated (point_kind f.number) f.number (λ s. true_value f.ops self.num_variables table s.kind) self.constraints.items c.args.index one c.requires.index c.index.ensures

-- the place is in the list
pub index-requires : goal.index-requires
index-requires g c =
    let constraints = c.args.self.now.constraints in
    place-inside (point_kind g.EF.Field.number) g.EF.Field.number constraints.items constraints.len c.args.index constraints.ok.0 c.requires.index

-- what stands there fits the number of variables
pub true_value-requires : goal.true_value-requires
true_value-requires g c =
    let self = c.args.self.now in
    let one = c.index.result.now in
    let arity : length (map g.EF.Field.number one.weights) ≡ self.num_variables =
    length-map one.weights g.EF.Field.number
    ∙ read_has (λ d. length d.weights ≡ self.num_variables) self.constraints.items c.args.index one self.fits
    (place-inside (point_kind g.EF.Field.number) g.EF.Field.number self.constraints.items (length self.constraints.items) c.args.index refl c.requires.index) c.index.ensures in
    (self.num_variables, (c.requires.size, arity))
