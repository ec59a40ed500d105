use Rattle.std.proofs.Common.{[], ◌∷◌, ap, sym, ◌∙◌}
use Rattle.sc_definitions.specs.Tables.{entries}
use Rattle.sc_definitions.specs.Grids.{grid_value}
use Rattle.sc_table.specs.Strategy.{order_of}
use Rattle.sc_partials.proofs.ProductLaws.{cube-prefix, cube-suffix}
use Rattle.sc_partials.proofs.products.cube_of.Goals as goal

pub returns-in-Prefix : goal.returns-in-Prefix
returns-in-Prefix g c d e h =
    let f = g.EF.Field in
    let table = entries f.number c.args.values.now in
    cube-prefix f.number f.ops table _ c.square_in.ensures c.square_in-in-Prefix.ensures d e h
    ∙ ap (λ t. grid_value t f.ops table (d ∷ e ∷ h ∷ []) 0 0) (sym (ap order_of c.in-Prefix.is))

pub returns-in-Suffix : goal.returns-in-Suffix
returns-in-Suffix g c d e h =
    let f = g.EF.Field in
    let table = entries f.number c.args.values.now in
    cube-suffix f.number f.ops table _ c.square_in-in-Suffix.ensures c.square_in-in-Suffix-2.ensures d e h
    ∙ ap (λ t. grid_value t f.ops table (d ∷ e ∷ h ∷ []) 0 0) (sym (ap order_of c.in-Suffix.is))
