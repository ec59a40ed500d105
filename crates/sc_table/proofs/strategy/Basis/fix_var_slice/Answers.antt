use Rattle.std.proofs.Common.{◌≡◌, ℕ, ◌^◌, ◌<◌, IfOk, sym, subst}
use Rattle.sc_definitions.specs.Tables.{entries, folded_in}
use Rattle.sc_table.specs.Polys.{variables_of, table_of}
use Rattle.sc_table.specs.Strategy.{basis_of, order_of}
use Rattle.sc_table.proofs.strategy.Basis.fix_var_slice.Goals as goal

pub returns-in-Projective-clause-rows : goal.returns-in-Projective-clause-rows
returns-in-Projective-clause-rows g c =
    let a = g.A.Field in
    let f : ℕ → ℕ = λ b. g.A.Algebra.embedding (entries g.B.Field.number c.args.evals.now b) in
    subst (λ t. IfOk c.fix_prefix_var_slice_projective.result (λ p. (b : ℕ) → b < 2 ^ variables_of p →
    table_of a.number p b ≡ folded_in (basis_of t) (order_of c.args.order) a.ops (variables_of p) (a.number c.args.r) f b))
    (sym c.in-Projective.is) c.fix_prefix_var_slice_projective.ensures.rows
