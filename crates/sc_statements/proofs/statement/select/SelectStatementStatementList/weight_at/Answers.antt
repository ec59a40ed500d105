use Rattle.std.proofs.Common.{ℕ, ◌∙◌, map}
use Rattle.sc_definitions.specs.Tables.{value_in}
use Rattle.sc_definitions.specs.Statements.{weight_of}
use Rattle.sc_table.specs.Strategy.{basis_of}
use Rattle.sc_statements.proofs.Selecting.{selects-read}
use Rattle.sc_statements.proofs.statement.select.SelectStatementStatementList.weight_at.Goals as goal

pub returns : goal.returns
returns g c =
    let f = g.EF.Field in
    let of : g.row.F.Denot → ℕ = λ x. g.EF.Algebra.embedding (g.F.Field.number x) in
    c.value_at.ensures
    ∙ selects-read of f.number c.args.self.now c.args.index c.requires.index (λ s. value_in (basis_of c.args.basis) f.ops (weight_of f.ops s.kind) (map f.number c.args.row.now)) c.selector.result c.selector.ensures.kind
