use Rattle.std.proofs.Common.{ℕ, map, sym, ◌∙◌, ap}
use Rattle.sc_definitions.specs.Ring.{power}
use Rattle.sc_definitions.specs.Tables.{monomial, value_in}
use Rattle.sc_table.specs.Strategy.{basis_of}
use Rattle.sc_weights.proofs.SelectReads.{value-scalar, value-direct}
use Rattle.sc_weights.proofs.select.SelectorRowWeights.value_at.Goals as goal

pub returns-in-Scalar : goal.returns-in-Scalar
returns-in-Scalar g c =
    let f = g.EF.Field in
    let of : g.row.F.Denot → ℕ = λ x. g.EF.Algebra.embedding (g.F.Field.number x) in
    c.powers_in.ensures ∙ ap (λ l. value_in (basis_of c.args.basis) f.ops (power f.ops (of c.in-Scalar.var)) (map f.number l)) c.as_slice.ensures
    ∙ sym (value-scalar f.ops of c.args.self.now c.in-Scalar.var c.in-Scalar.is (basis_of c.args.basis) (map f.number c.args.row.now))

pub returns-in-Direct : goal.returns-in-Direct
returns-in-Direct g c =
    let f = g.EF.Field in
    let of : g.row.F.Denot → ℕ = λ x. g.EF.Algebra.embedding (g.F.Field.number x) in
    c.products_in.ensures ∙ ap (λ l. value_in (basis_of c.args.basis) f.ops (monomial f.ops (map of l)) (map f.number c.as_slice-in-Direct-2.result.now)) c.as_slice-in-Direct.ensures
    ∙ ap (λ l. value_in (basis_of c.args.basis) f.ops (monomial f.ops (map of c.in-Direct.point.now)) (map f.number l)) c.as_slice-in-Direct-2.ensures
    ∙ sym (value-direct f.ops of c.args.self.now c.in-Direct.point c.in-Direct.is (basis_of c.args.basis) (map f.number c.args.row.now))
