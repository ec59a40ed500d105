use Rattle.std.proofs.Common.{◌≡◌, ◌-◌, length, map, take, drop, sym, ◌∙◌, ap, arith, length-drop}
use Rattle.std.specs.List.{take-map, drop-map}
use Rattle.std.proofs.lemmas.List.{take_all}
use Rattle.sc_definitions.specs.Tables.{entries, value}
use Rattle.sc_circuit.proofs.building.values_at.Goals as goal

pub returns-clause-left : goal.returns-clause-left
returns-clause-left g c =
    let e = g.EF.Field in
    c.eval_slice-left.ensures ∙ ap (value e.ops (entries e.number c.args.below.now)) (sym (take-map e.number c.args.variables c.args.point.now))

pub returns-clause-right : goal.returns-clause-right
returns-clause-right g c =
    let e = g.EF.Field in
    let k = c.args.variables in
    let xs = c.args.point.now in
    let whole : take (length xs - k) (drop k xs) ≡ drop k xs = take_all (length xs - k) (drop k xs) (omega (arith, length-drop k xs)) in
    c.eval_slice-right.ensures ∙ ap (λ l. value e.ops (entries e.number c.args.below.now) (map e.number l)) whole
    ∙ ap (value e.ops (entries e.number c.args.below.now)) (sym (drop-map e.number k xs))
