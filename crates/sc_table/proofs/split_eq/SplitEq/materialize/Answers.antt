use Rattle.std.proofs.Common.{◌≡◌, ◌∙◌, ap}
use Rattle.sc_definitions.specs.Ring.{plus, times}
use Rattle.sc_definitions.specs.Tables.{entries}
use Rattle.sc_table.specs.SplitEqs.{split_weight}
use Rattle.sc_table.proofs.SplitLaws.{weight-alone}
use Rattle.sc_table.proofs.split_eq.SplitEq.materialize.Goals as goal

pub returns-clause-table : goal.returns-clause-table
returns-clause-table g c = λ b low.
    let f = g.EF.Field in
    let s = c.args.self.now in
    let w = times f.ops 1 (split_weight f.number f.ops s b) in
    let zero : entries f.number c.as_mut_slice.result.now b ≡ 0 = ap (λ t. t b) c.as_mut_slice.ensures.numbers ∙ c.in_ok-table.ensures.table b in
    ap (λ t. t b) (c.as_mut_slice.ensures.written c.accumulate_into.new.out (c.accumulate_into.auto.out ∙ c.as_mut_slice.ensures.size))
    ∙ c.accumulate_into.ensures b low ∙ ap (λ k. plus f.ops k w) zero ∙ weight-alone f.number f.ops g.met.EF.Field.is_field.ring s b
