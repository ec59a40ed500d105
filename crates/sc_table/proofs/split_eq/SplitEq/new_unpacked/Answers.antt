use Rattle.std.proofs.Common.{◌≡◌, ◌++◌, ◌∙◌, ap}
use Rattle.sc_table.specs.Polys.{table_of}
use Rattle.sc_table.specs.SplitEqs.{split_weight}
use Rattle.sc_table.proofs.SplitLaws.{parts-weigh}
use Rattle.sc_table.proofs.split_eq.SplitEq.new_unpacked.Goals as goal

pub returns-clause-weights : goal.returns-clause-weights
unfolding split_weight
returns-clause-weights g c = λ b low.
    let f = g.EF.Field in
    let front = c.split_at.result.0.now in
    let back = c.split_at.result.1.now in
    let joined : front ++ back ≡ c.args.z.now = cc (c.as_slice.ensures) in
    let outer = c.in_ok-outer.outer in
    let inner = c.in_ok-inner.inner in
    parts-weigh f.ops g.met.EF.Field.is_field.ring f.number front back c.args.z.now (f.number c.args.scale) (f.number c.ONE.result) inner.variables
    (table_of f.number outer) (table_of f.number inner)
    joined c.in_ok-inner.ensures.variables (ap f.number c.ONE.ensures
    ∙ g.met.EF.Field.one_is) c.in_ok-outer.ensures.table c.in_ok-inner.ensures.table b low
