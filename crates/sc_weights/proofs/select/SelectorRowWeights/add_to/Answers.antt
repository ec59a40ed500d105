use Rattle.std.proofs.Common.{◌≡◌, ℕ, ◌^◌, length, map, sym, ◌∙◌, ap, arith}
use Rattle.std.proofs.lemmas.List.{length-map}
use Rattle.sc_definitions.specs.Ring.{times, power}
use Rattle.sc_definitions.specs.Tables.{entries, monomial}
use Rattle.sc_definitions.specs.Statements.{arity_of, weight_of}
use Rattle.sc_table.specs.Polys.{table_of}
use Rattle.sc_weights.specs.Selectors.{selected_kind}
use Rattle.sc_weights.proofs.Written.{added-table}
use Rattle.sc_weights.proofs.SelectReads.{weight_of-scalar, weight_of-direct}
use Rattle.sc_weights.proofs.select.SelectorRowWeights.add_to.Goals as goal

pub returns-in-Scalar-clause-table : goal.returns-in-Scalar-clause-table
returns-in-Scalar-clause-table g c =
    let f = g.EF.Field in
    let of : g.row.F.Denot → ℕ = λ x. g.EF.Algebra.embedding (g.F.Field.number x) in
    let lent = c.as_mut_slice.ensures in
    let scale = f.number c.args.scale in
    added-table f.ops (2 ^ c.args.table.now.variables) _ (entries f.number c.add_powers.new.rows) (entries f.number c.as_mut_slice.result.now) (table_of f.number c.args.table.now)
    (λ b. times f.ops scale (power f.ops (of c.in-Scalar.var) b)) (λ b. times f.ops scale (weight_of f.ops (selected_kind of c.args.self.now) b))
    (lent.written c.add_powers.new.rows (c.add_powers.auto.rows ∙ lent.size)) lent.numbers
    (λ b low. c.add_powers.ensures b (omega (arith, low, lent.size)))
    (λ b _. ap (times f.ops scale) (sym (weight_of-scalar f.ops of c.args.self.now c.in-Scalar.var c.in-Scalar.is b)))

pub returns-in-Direct-clause-table : goal.returns-in-Direct-clause-table
returns-in-Direct-clause-table g c =
    let f = g.EF.Field in
    let of : g.row.F.Denot → ℕ = λ x. g.EF.Algebra.embedding (g.F.Field.number x) in
    let lent = c.as_mut_slice-in-Direct.ensures in
    let scale = f.number c.args.scale in
    let n = c.args.table.now.variables in
    let arity : length (map of c.in-Direct.point.now) ≡ n = sym (ap (λ s. arity_of n (selected_kind of s)) c.in-Direct.is) ∙ c.requires in
    let sized : 2 ^ n ≡ 2 ^ length c.as_slice.result.now = ap (λ k. 2 ^ k) (sym arity ∙ length-map c.in-Direct.point.now of ∙ ap length (sym c.as_slice.ensures)) in
    added-table f.ops (2 ^ n) _ (entries f.number c.add_products.new.rows) (entries f.number c.as_mut_slice-in-Direct.result.now) (table_of f.number c.args.table.now)
    (λ b. times f.ops scale (monomial f.ops (map of c.as_slice.result.now) b)) (λ b. times f.ops scale (weight_of f.ops (selected_kind of c.args.self.now) b))
    (lent.written c.add_products.new.rows (c.add_products.auto.rows ∙ lent.size)) lent.numbers
    (λ b low. c.add_products.ensures b (omega (arith, low, sized)))
    (λ b _. ap (λ l. times f.ops scale (monomial f.ops (map of l) b)) c.as_slice.ensures ∙ ap (times f.ops scale) (sym (weight_of-direct f.ops of c.args.self.now c.in-Direct.point c.in-Direct.is b)))
