use Rattle.std.proofs.Common.{◌≡◌, ℕ, length, map, sym, ◌∙◌, ap}
use Rattle.std.proofs.lemmas.List.{length-map}
use Rattle.sc_definitions.specs.Ring.{times, power}
use Rattle.sc_definitions.specs.Tables.{entries, monomial, sum_below, inner_product}
use Rattle.sc_definitions.specs.Statements.{arity_of}
use Rattle.sc_definitions.proofs.Lengths.{pow-same}
use Rattle.sc_table.proofs.PowerLaws.{variables_of_length}
use Rattle.sc_weights.specs.Selectors.{selected_kind}
use Rattle.sc_weights.proofs.SelectReads.{inner_product-is, true_value-scalar, true_value-direct}
use Rattle.sc_weights.proofs.select.SelectorRowWeights.true_value.Goals as goal

pub powers_value-requires : goal.powers_value-requires
powers_value-requires g c =
    variables_of_length c.requires.0 (length c.args.rows.now) c.requires.1.0 c.well_formed.1.0.0

pub returns-in-Scalar : goal.returns-in-Scalar
returns-in-Scalar g c n size =
    let f = g.EF.Field in
    let of : g.row.F.Denot → ℕ = λ x. g.EF.Algebra-1.embedding (g.F.Field.number x) in
    let table : ℕ → ℕ = λ b. g.EF.Algebra-2.embedding (entries g.A.Field.number c.args.rows.now b) in
    let w = power f.ops (of c.in-Scalar.var) in
    c.powers_value.ensures
    ∙ ap (λ k. sum_below f.ops k (λ b. times f.ops (table b) (w b))) size
    ∙ sym (inner_product-is f.ops n table w)
    ∙ sym (true_value-scalar f.ops of c.args.self.now c.in-Scalar.var c.in-Scalar.is n table)

pub returns-in-Direct : goal.returns-in-Direct
returns-in-Direct g c n size =
    let f = g.EF.Field in
    let of : g.row.F.Denot → ℕ = λ x. g.EF.Algebra-1.embedding (g.F.Field.number x) in
    let table : ℕ → ℕ = λ b. g.EF.Algebra-2.embedding (entries g.A.Field.number c.args.rows.now b) in
    let point = c.as_slice.result.now in
    let m = c.requires.0 in
    let arity : length point ≡ n =
    ap length c.as_slice.ensures ∙ sym (length-map c.in-Direct.point.now of)
    ∙ sym (ap (λ s. arity_of m (selected_kind of s)) c.in-Direct.is) ∙ c.requires.1.1 ∙ pow-same m n (sym c.requires.1.0 ∙ size) in
    c.products_value.ensures
    ∙ ap (λ k. inner_product f.ops k table (monomial f.ops (map of point))) arity
    ∙ ap (λ l. inner_product f.ops n table (monomial f.ops (map of l))) c.as_slice.ensures
    ∙ sym (true_value-direct f.ops of c.args.self.now c.in-Direct.point c.in-Direct.is n table)
