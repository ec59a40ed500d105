use Rattle.std.proofs.Common.{◌≡◌, ◌^◌, length, map, sym, ◌∙◌, ap, arith}
use Rattle.std.proofs.lemmas.List.{length-map}
use Rattle.sc_definitions.specs.Ring.{times}
use Rattle.sc_definitions.specs.Tables.{entries, equality_weight}
use Rattle.sc_definitions.specs.Statements.{equality, weight_of}
use Rattle.sc_table.specs.Polys.{table_of}
use Rattle.sc_weights.proofs.EqualityValues.{weight_of-equality}
use Rattle.sc_weights.proofs.Written.{added-table}
use Rattle.sc_weights.proofs.equality.PointRowWeights.add_to.Goals as goal

pub returns-clause-table : goal.returns-clause-table
returns-clause-table g c =
    let f = g.EF.Field in
    let lent = c.as_mut_slice.ensures in
    let scale = f.number c.args.scale in
    let zs = map f.number c.args.self.now in
    let sized : 2 ^ c.args.table.now.variables ≡ 2 ^ length c.as_slice.result.now =
    ap (λ n. 2 ^ n) (sym c.requires ∙ length-map c.args.self.now f.number ∙ ap length (sym c.as_slice.ensures)) in
    added-table f.ops (2 ^ c.args.table.now.variables) _ (entries f.number c.add_point.new.rows) (entries f.number c.as_mut_slice.result.now) (table_of f.number c.args.table.now)
    (λ b. times f.ops scale (equality_weight f.ops (map f.number c.as_slice.result.now) b)) (λ b. times f.ops scale (weight_of f.ops (equality zs) b))
    (lent.written c.add_point.new.rows (c.add_point.auto.rows ∙ lent.size)) lent.numbers
    (λ b low. c.add_point.ensures b (omega (arith, low, sized)))
    (λ b _. ap (λ l. times f.ops scale (equality_weight f.ops (map f.number l) b)) c.as_slice.ensures ∙ ap (times f.ops scale) (sym (weight_of-equality f.ops zs b)))
