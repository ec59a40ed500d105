use Rattle.std.proofs.Common.{◌≡◌, ◌+◌, ◌-◌, ◌*◌, ◌/◌, ◌%◌, ◌^◌, ◌<◌, ◌≤◌, length, take, drop, sym, ◌∙◌, ap, subst, arith}
use Rattle.sc_definitions.specs.Tables.{entries}
use Rattle.sc_definitions.specs.Partials.{summed_last}
use Rattle.sc_table.specs.SplitEqs.{split_variables, split_weight, shifted_by}
use Rattle.sc_table.proofs.KernelLaws.{part-length, part-entry}
use Rattle.sc_table.proofs.PowerLaws.{one-shifted}
use Rattle.sc_table.proofs.SliceLaws.{pushed-more}
use Rattle.sc_table.proofs.SplitLaws.{rows-left, size-again, piece-within, piece-summed}
use Rattle.sc_table.proofs.split_eq.SplitEq.single_sums.Goals as goal

pub loop-a-preserved : goal.loop-a-preserved
loop-a-preserved g c =
    let f = g.EF.Field in
    let of = λ (x : g.row.A.Denot). g.EF.Algebra.embedding (g.A.Field.number x) in
    let s = c.args.self.now in
    let n = split_variables s in
    let poly = c.args.poly.now in
    let images = entries of poly in
    let w = split_weight f.number f.ops s in
    let up = c.args.up in
    let a = c.loop-a.a in
    let rows = 1 * 2 ^ c.num_variables-rows.result % 18446744073709551616 in
    let rows_are : rows ≡ 2 ^ n = ap (λ k. 1 * 2 ^ k % 18446744073709551616) c.num_variables-rows.ensures ∙ one-shifted n s.few in
    let from = a * rows + up in
    let k = a * rows + rows - from in
    let count = 2 ^ n - up in
    let start : a * rows ≡ a * 2 ^ n = ap (λ r. a * r) rows_are in
    let low : a < length poly / 2 ^ n = subst (λ i. a < length poly / 2 ^ i) c.num_variables.ensures c.loop-a-test.true in
    let same : k ≡ count = omega (arith, rows_are, start) in
    let within : from + count ≤ length poly = omega (
      arith,
      piece-within n c.requires.size.0
          (length poly) c.requires.size.1 a low,
      start,
      c.requires.up,
    ) in
    let size : length (take k (drop from poly)) ≡ count = part-length poly k from count same within in
    record {
      pushed = pushed-more f.number (summed_last f.ops n (shifted_by up w) images) a c.loop-a.sums.items _ c.dot.result
          c.push_reserved.ensures.items c.loop-a.invariant.pushed
          (c.dot.ensures ∙ piece-summed f.ops g.met.EF.Field.is_field.ring n up (length (take k (drop from poly))) c.requires.up size images
          (entries of (take k (drop from poly))) w a
          (λ i inside. part-entry of poly k from i (a * 2 ^ n + up + i) (omega (arith, inside, size, same)) (omega (arith, start))));
      room = c.push_reserved.ensures.capacity ∙ c.loop-a.invariant.room;
    }

pub new-requires : goal.new-requires
new-requires g c =
    let n = split_variables c.args.self.now in
    let poly = c.args.poly.now in
    let left : length poly / 2 ^ c.num_variables.result ≡ 2 ^ c.requires.size.0 =
    ap (λ k. length poly / 2 ^ k) c.num_variables.ensures ∙ rows-left n c.requires.size.0 (length poly) c.requires.size.1 in
    (c.requires.size.0, c.loop-a.invariant.pushed.size ∙ omega (arith, c.loop-a-test.false, c.loop-a.auto.a-end) ∙ left)

pub returns-clause-size : goal.returns-clause-size
returns-clause-size g c =
    let n = split_variables c.args.self.now in
    let poly = c.args.poly.now in
    let all : length poly / 2 ^ n ≡ c.loop-a.a = sym (ap (λ k. length poly / 2 ^ k) c.num_variables.ensures)
    ∙ omega (arith, c.loop-a-test.false, c.loop-a.auto.a-end) in
    size-again n c.requires.size.0 (length poly) c.requires.size.1 c.new.result.variables (all ∙ sym c.loop-a.invariant.pushed.size
    ∙ c.new.ensures.size)
