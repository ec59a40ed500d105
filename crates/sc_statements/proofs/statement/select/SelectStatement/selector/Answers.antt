use Rattle.std.proofs.Common.{◌≡◌, ℕ, ◌-◌, ◌<◌, ◌≤◌, length, get_or, ◌∙◌, ap, arith}
use Rattle.std.proofs.lemmas.List.{length-map}
use Rattle.sc_statements.proofs.Selecting.{point-inside, scalar-at, point-at}
use Rattle.sc_definitions.proofs.Lists.{read_has}
use Rattle.sc_statements.proofs.statement.select.SelectStatement.selector.Goals as goal

pub index-requires-else-index-scalars : goal.index-requires-else-index-scalars
index-requires-else-index-scalars g c =
    let f = g.EF.Field in
    let of : g.row.F.Denot → ℕ = λ x. g.EF.Algebra.embedding (g.F.Field.number x) in
    let self = c.args.self.now in
    let scalars : c.len-scalars.result ≡ length self.vars.items = c.len-scalars.ensures ∙ self.vars.ok.0 in
    let past : length self.vars.items ≤ c.args.index = omega (arith, scalars, c.if-index-scalars.false) in
    omega (arith, point-inside of f.number self c.args.index c.requires past, scalars, self.points.ok.0)

pub returns-then-index-scalars-clause-kind : goal.returns-then-index-scalars-clause-kind
returns-then-index-scalars-clause-kind g c =
    let f = g.EF.Field in
    let of : g.row.F.Denot → ℕ = λ x. g.EF.Algebra.embedding (g.F.Field.number x) in
    let self = c.args.self.now in
    let inside : c.args.index < length self.vars.items = omega (arith, c.if-index-scalars.true, c.len-scalars.ensures, self.vars.ok.0) in
    scalar-at of f.number self c.args.index c.requires c.index.result.now inside c.index.ensures

pub returns-else-index-scalars-clause-kind : goal.returns-else-index-scalars-clause-kind
returns-else-index-scalars-clause-kind g c =
    let f = g.EF.Field in
    let of : g.row.F.Denot → ℕ = λ x. g.EF.Algebra.embedding (g.F.Field.number x) in
    let self = c.args.self.now in
    let one = c.index-else-index-scalars.result in
    let scalars : c.len-scalars.result ≡ length self.vars.items = c.len-scalars.ensures ∙ self.vars.ok.0 in
    let past : length self.vars.items ≤ c.args.index = omega (arith, scalars, c.if-index-scalars.false) in
    point-at of f.number self c.args.index c.requires one past (c.index-else-index-scalars.ensures ∙ ap (λ n. get_or self.points.items (c.args.index - n) one.now) scalars)

pub returns-else-index-scalars-clause-arity : goal.returns-else-index-scalars-clause-arity
returns-else-index-scalars-clause-arity g c =
    let f = g.EF.Field in
    let of : g.row.F.Denot → ℕ = λ x. g.EF.Algebra.embedding (g.F.Field.number x) in
    let self = c.args.self.now in
    let one = c.index-else-index-scalars.result in
    let scalars : c.len-scalars.result ≡ length self.vars.items = c.len-scalars.ensures ∙ self.vars.ok.0 in
    let past : length self.vars.items ≤ c.args.index = omega (arith, scalars, c.if-index-scalars.false) in
    length-map one.now of
    ∙ read_has (λ p. length p ≡ self.num_variables) self.points.items (c.args.index - c.len-scalars.result) one.now self.fits
    (omega (arith, point-inside of f.number self c.args.index c.requires past, scalars)) c.index-else-index-scalars.ensures
