use Rattle.std.proofs.Common.{◌≡◌, sym, ap, ◌∙◌}
use Rattle.sc_definitions.specs.Tables.{Order, prefix, suffix}
use Rattle.sc_table.specs.Strategy.{order_of}
use Rattle.sc_zk_layout.specs.Grids.{pair_shown, side_scaled}
use Rattle.sc_zk_layout.proofs.GridLaws.{shown-of-pair, scaled-pair, weighted-pair}
use Rattle.sc_zk_layout.proofs.scaled.scaled_pair.Goals as goal

-- the weights are scaled
pub returns-in-Prefix : goal.returns-in-Prefix
returns-in-Prefix g c = λ claim scaled is.
    let e = g.EF.Field in
    let made = c.new_unpacked.ensures in
    let k = e.number c.args.scale in
    let table = c.scaled_table.ensures in
    let order : order_of c.args.order ≡ prefix = ap order_of c.in-Prefix.is in
    shown-of-pair e.number c.new_unpacked.result prefix c.args.evals c.scaled_table.result scaled made.variables made.basis (made.order ∙ order) made.evals made.weights
    (c.requires.same ∙ sym table.variables)
    ∙ ap (pair_shown e.number prefix c.args.evals c.scaled_table.result) is
    ∙ weighted-pair e.ops e.number prefix c.args.evals c.args.weights c.scaled_table.result claim k c.requires.same table.variables table.rows
    ∙ ap (λ (d : Order). side_scaled d e.ops (pair_shown e.number d c.args.evals c.args.weights claim) k) (sym order)

-- the evaluations are
pub returns-in-Suffix : goal.returns-in-Suffix
returns-in-Suffix g c = λ claim scaled is.
    let e = g.EF.Field in
    let made = c.new_unpacked-in-Suffix.ensures in
    let k = e.number c.args.scale in
    let table = c.scaled_table-in-Suffix.ensures in
    let order : order_of c.args.order ≡ suffix = ap order_of c.in-Suffix.is in
    shown-of-pair e.number c.new_unpacked-in-Suffix.result suffix c.scaled_table-in-Suffix.result c.args.weights scaled made.variables made.basis (made.order ∙ order) made.evals made.weights
    (table.variables ∙ c.requires.same)
    ∙ ap (pair_shown e.number suffix c.scaled_table-in-Suffix.result c.args.weights) is
    ∙ scaled-pair e.ops e.number suffix c.args.evals c.scaled_table-in-Suffix.result c.args.weights claim k table.variables table.rows
    ∙ ap (λ (d : Order). side_scaled d e.ops (pair_shown e.number d c.args.evals c.args.weights claim) k) (sym order)
