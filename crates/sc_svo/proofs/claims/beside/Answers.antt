use Rattle.std.proofs.Common.{length, sym, subst}
use Rattle.sc_definitions.specs.Ring.{times}
use Rattle.sc_definitions.specs.Parts.{part_weight, beside}
use Rattle.sc_table.specs.declared.strategy.VariableOrder.{VariableOrder}
use Rattle.sc_table.specs.Strategy.{order_of}
use Rattle.sc_partials.specs.NextPartials.{HaveRows}
use Rattle.sc_svo.proofs.claims.beside.Goals as goal

pub returns-in-Prefix : goal.returns-in-Prefix
returns-in-Prefix g c = λ x zs is.
    let e = g.EF.Field in
    let has = c.in_ok-done.ensures x zs is in
    subst (λ (t : VariableOrder). HaveRows e.number (length zs) (λ part b. times e.ops x (part_weight e.ops (beside (order_of t) part) zs b))
    (record { done = c.args.equal; carry = c.in_ok-done.field-0.done; omega = c.in_ok-done.field-0.omega })) (sym c.in-Prefix.is)
    (record { done = is; carry = has.done; omega = has.omega })

pub returns-in-Suffix : goal.returns-in-Suffix
returns-in-Suffix g c = λ x zs is.
    let e = g.EF.Field in
    let has = c.in_ok-done.ensures x zs is in
    subst (λ (t : VariableOrder). HaveRows e.number (length zs) (λ part b. times e.ops x (part_weight e.ops (beside (order_of t) part) zs b))
    (record { done = c.in_ok-done.field-0.done; carry = c.in_ok-done.field-0.carry; omega = c.in_ok-done.field-0.omega })) (sym c.in-Suffix.is)
    (record { done = has.done; carry = has.carry; omega = has.omega })
