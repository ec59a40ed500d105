use Rattle.std.proofs.Common.{ℕ, ◌∙◌}
use Rattle.sc_definitions.specs.Tables.{entries}
use Rattle.sc_definitions.specs.Statements.{true_value}
use Rattle.sc_statements.proofs.Selecting.{selects-read}
use Rattle.sc_statements.proofs.statement.select.SelectStatementStatementList.truth_at.Goals as goal

pub returns : goal.returns
returns g c =
    let f = g.EF.Field in
    let of : g.row.F.Denot → ℕ = λ x. g.EF.Algebra-1.embedding (g.F.Field.number x) in
    let self = c.args.self.now in
    let table : ℕ → ℕ = λ b. g.EF.Algebra-2.embedding (entries g.A.Field.number c.args.rows.now b) in
    c.true_value.ensures self.num_variables c.requires.size
    ∙ selects-read of f.number self c.args.index c.requires.index (λ s. true_value f.ops self.num_variables table s.kind) c.selector.result c.selector.ensures.kind
