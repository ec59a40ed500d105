use Rattle.std.proofs.Common.{◌∙◌, ap, sym, arith}
use Rattle.std.proofs.lemmas.Nat.{pow_pos}
use Rattle.sc_table.specs.Polys.{variables_of}
use Rattle.sc_table.specs.Strategy.{order_of}
use Rattle.sc_table.proofs.EntryLaws.{entry-read}
use Rattle.sc_partials.proofs.NextTables.{closing-as}
use Rattle.sc_partials.proofs.next_partials.closed.Goals as goal

pub returns-in-Prefix : goal.returns-in-Prefix
returns-in-Prefix g c =
    let e = g.EF.Field in
    let t = c.args.tables.now in
    let last = entry-read e.number c.as_slice.result.now 0 c.index-as_slice-0.result (omega (arith, c.as_slice.ensures.size, pow_pos (variables_of t.omega))) c.index-as_slice-0.is in
    let first = entry-read e.number c.as_slice-in-Prefix.result.now 0 c.index-as_slice-0-in-Prefix.result
    (omega (arith, c.as_slice-in-Prefix.ensures.size, pow_pos (variables_of t.done))) c.index-as_slice-0-in-Prefix.is in
    closing-as e.ops e.number (order_of c.args.order) _ t _ _ _ (ap order_of c.in-Prefix.is)
    (sym first ∙ ap (λ h. h 0) c.as_slice-in-Prefix.ensures.numbers) (sym last ∙ ap (λ h. h 0) c.as_slice.ensures.numbers) c.add.ensures

pub returns-in-Suffix : goal.returns-in-Suffix
returns-in-Suffix g c =
    let e = g.EF.Field in
    let t = c.args.tables.now in
    let last = entry-read e.number c.as_slice.result.now 0 c.index-as_slice-0.result (omega (arith, c.as_slice.ensures.size, pow_pos (variables_of t.omega))) c.index-as_slice-0.is in
    let first = entry-read e.number c.as_slice-in-Suffix.result.now 0 c.index-as_slice-0-in-Suffix.result
    (omega (arith, c.as_slice-in-Suffix.ensures.size, pow_pos (variables_of t.carry))) c.index-as_slice-0-in-Suffix.is in
    closing-as e.ops e.number (order_of c.args.order) _ t _ _ _ (ap order_of c.in-Suffix.is)
    (sym first ∙ ap (λ h. h 0) c.as_slice-in-Suffix.ensures.numbers) (sym last ∙ ap (λ h. h 0) c.as_slice.ensures.numbers) c.add-in-Suffix.ensures
