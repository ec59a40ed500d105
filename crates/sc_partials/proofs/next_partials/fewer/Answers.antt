use Rattle.std.proofs.Common.{◌≡◌, suc, ◌∙◌, refl, ap, sym, arith}
use Rattle.sc_definitions.specs.Ring.{minus}
use Rattle.sc_definitions.specs.Tables.{prefix, suffix}
use Rattle.sc_table.specs.Strategy.{order_of}
use Rattle.sc_partials.specs.Partials.{other_order}
use Rattle.sc_partials.proofs.NextTables.{fewer-prefix, fewer-suffix, bound-rows}
use Rattle.sc_partials.proofs.next_partials.fewer.Goals as goal

pub sum_over-requires : goal.sum_over-requires
sum_over-requires g c = omega (arith, c.requires.1.done)

pub half_of-requires : goal.half_of-requires
half_of-requires g c = omega (arith, c.requires.1.carry)

pub with_half-requires : goal.with_half-requires
with_half-requires g c =
    let order = order_of c.args.order in
    let line = bound-rows order (other_order order) g.EF.Field.ops g.EF.Field.number (g.EF.Field.number c.args.z) c.requires.0 c.args.tables.now.done c.in_ok-line.line refl c.requires.1.done
    c.in_ok-line.ensures in
    c.requires.1.carry ∙ ap suc (sym line.variables)

pub with_half-requires-in-Suffix : goal.with_half-requires-in-Suffix
with_half-requires-in-Suffix g c = c.requires.1.done ∙ ap suc (sym (c.in_ok-carried.ensures c.requires.0 c.requires.1.carry).variables)

pub returns-in-Prefix : goal.returns-in-Prefix
returns-in-Prefix g c = λ m are.
    let e = g.EF.Field in
    let t = c.args.tables.now in
    let order = order_of c.args.order in
    let is : order ≡ prefix = ap order_of c.in-Prefix.is in
    let not_is = c.sub-not_z.ensures ∙ ap (λ k. minus e.ops k (e.number c.args.z)) (ap e.number c.ONE.ensures ∙ g.met.EF.Field.one_is) in
    fewer-prefix e.ops e.number t m (e.number c.args.z) (e.number c.sub-not_z.result) not_is order c.in_ok-line.line c.with_half.result c.in_ok-carried.carried c.in_ok-omega.omega is
    (bound-rows order suffix e.ops e.number (e.number c.args.z) m t.done c.in_ok-line.line (ap other_order is) are.done c.in_ok-line.ensures)
    c.with_half.ensures (c.in_ok-carried.ensures m are.carry) (c.in_ok-omega.ensures m are.omega)

pub returns-in-Suffix : goal.returns-in-Suffix
returns-in-Suffix g c = λ m are.
    let e = g.EF.Field in
    let t = c.args.tables.now in
    let order = order_of c.args.order in
    let is : order ≡ suffix = ap order_of c.in-Suffix.is in
    let not_is = c.sub-not_z.ensures ∙ ap (λ k. minus e.ops k (e.number c.args.z)) (ap e.number c.ONE.ensures ∙ g.met.EF.Field.one_is) in
    fewer-suffix e.ops e.number t m (e.number c.args.z) (e.number c.sub-not_z.result) not_is order c.in_ok-line.line c.in_ok-carried.carried c.with_half-in-Suffix.result c.in_ok-omega.omega is
    (bound-rows order prefix e.ops e.number (e.number c.args.z) m t.done c.in_ok-line.line (ap other_order is) are.done c.in_ok-line.ensures)
    (c.in_ok-carried.ensures m are.carry) c.with_half-in-Suffix.ensures (c.in_ok-omega.ensures m are.omega)
