use Rattle.std.proofs.Common.{◌≡◌, ◌^◌, length, set, ◌∙◌, ap, sym, arith}
use Rattle.std.proofs.lemmas.List.{length-set, with_items_is}
use Rattle.sc_definitions.specs.Tables.{entries}
use Rattle.sc_partials.proofs.NextTables.{alone-rows}
use Rattle.sc_partials.proofs.next_partials.alone.Goals as goal

pub write-requires : goal.write-requires
write-requires g c =
    omega (arith, c.requires.row, ap length c.deref_mut.ensures.value, c.into_evals-rows.ensures.size, ap (λ n. 2 ^ n) c.in_ok-zero.ensures.variables)

pub returns : goal.returns
returns g c =
    let e = g.EF.Field in
    let rows = c.into_evals-rows.result in
    let new = c.write.new.items in
    let written : new ≡ set rows.items c.args.row c.args.value = c.write.ensures ∙ ap (λ xs. set xs c.args.row c.args.value) c.deref_mut.ensures.value in
    let items = with_items_is rows new (ap length written ∙ length-set rows.items c.args.row c.args.value ∙ sym rows.ok.0) in
    let size : length rows.items ≡ 2 ^ c.args.variables = c.into_evals-rows.ensures.size ∙ ap (λ n. 2 ^ n) c.in_ok-zero.ensures.variables in
    alone-rows e.number c.args.variables c.args.row c.args.value rows.items c.new.result (λ b. ap (λ t. t b) c.into_evals-rows.ensures.numbers ∙ c.in_ok-zero.ensures.table b) size c.requires.row
    (c.new.ensures.table ∙ ap (entries e.number) (items ∙ written)) (sym (length-set rows.items c.args.row c.args.value) ∙ sym (ap length (items ∙ written)) ∙ c.new.ensures.size)
