use Rattle.std.proofs.Common.{[], ◌∷◌, ap, sym, ◌∙◌}
use Rattle.sc_definitions.specs.Tables.{entries}
use Rattle.sc_definitions.specs.Grids.{grid_value}
use Rattle.sc_table.specs.Strategy.{order_of}
use Rattle.sc_partials.proofs.ProductLaws.{square-prefix, square-suffix}
use Rattle.sc_partials.proofs.products.square_of.Goals as goal

pub returns-in-Prefix : goal.returns-in-Prefix
returns-in-Prefix g c d e =
    let f = g.EF.Field in
    let table = entries f.number c.args.values.now in
    square-prefix f.number f.ops table c.square_in.result c.square_in.ensures d e
    ∙ ap (λ t. grid_value t f.ops table (d ∷ e ∷ []) 0 0) (sym (ap order_of c.in-Prefix.is))

pub returns-in-Suffix : goal.returns-in-Suffix
returns-in-Suffix g c d e =
    let f = g.EF.Field in
    let table = entries f.number c.args.values.now in
    square-suffix f.number f.ops table c.square_in-in-Suffix.result c.square_in-in-Suffix.ensures d e
    ∙ ap (λ t. grid_value t f.ops table (d ∷ e ∷ []) 0 0) (sym (ap order_of c.in-Suffix.is))
