use Rattle.std.proofs.Common.{ℕ, ◌≡◌, ◌+◌, ◌*◌, ◌^◌, ◌%◌, length, take, ◌∙◌, ap, arith}
use Rattle.std.proofs.lemmas.List.{length-take-le}
use Rattle.sc_definitions.specs.Ring.{plus, times}
use Rattle.sc_definitions.specs.Tables.{entries}
use Rattle.sc_field.proofs.EntryLaws.{entry-take}
use Rattle.sc_table.specs.SplitEqs.{split_variables, split_weight}
use Rattle.sc_table.proofs.PowerLaws.{one-shifted}
use Rattle.sc_table.proofs.SumLaws.{gained-none, gained-block, products-sum}
use Rattle.sc_table.proofs.split_eq.SplitEq.add_pieces.Goals as goal

pub loop-from-init : goal.loop-from-init
loop-from-init g c = record {
  within = omega arith;
  rows = gained-none g.EF.Field.number g.EF.Field.ops g.met.EF.Field.is_field.ring _ c.args.sums.now
      g.met.EF.Field.number_below;
}

pub weights_from-weights-requires : goal.weights_from-weights-requires
weights_from-weights-requires g c =
    let s = c.args.self.now in
    let rows_are = ap (λ k. 1 * 2 ^ k % 18446744073709551616) c.num_variables-rows.ensures ∙ one-shifted (split_variables s) s.few in
    (c.requires.fits, (omega (arith, rows_are), omega arith))

pub loop-from-preserved : goal.loop-from-preserved
loop-from-preserved g c =
    let f = g.EF.Field in
    let of = λ (x : g.row.A.Denot). g.EF.Algebra.embedding (g.A.Field.number x) in
    let s = c.args.self.now in
    let q = 2 ^ split_variables s in
    let w = split_weight f.number f.ops s in
    let old = c.args.sums.now in
    let new = c.loop-from.sums in
    let table = c.args.table.now in
    let up = c.args.up in
    let from = c.loop-from.from in
    let len = c.min-len.result in
    let rows = 1 * 2 ^ c.num_variables-rows.result % 18446744073709551616 in
    let rows_are : rows ≡ q = ap (λ k. 1 * 2 ^ k % 18446744073709551616) c.num_variables-rows.ensures ∙ one-shifted (split_variables s) s.few in
    let weights = c.weights_from-weights.result in
    let gain : ℕ → ℕ → ℕ = λ k i. times f.ops (entries of table (k * q + up + i)) (w i) in
    let size : length (take len weights) ≡ len = length-take-le len weights (omega arith) in
    record {
      within = omega arith;
      rows = gained-block f.number f.ops g.met.EF.Field.is_field.ring gain old from len new c.add_dots.new.sums c.loop-from.invariant.rows
          (λ k low.
          c.add_dots.ensures k (omega (arith, low, c.loop-from.auto.sums))
          ∙ ap (plus f.ops (entries f.number new k))
          (products-sum f.ops (length (take len weights)) len (λ i. entries of table (k * rows + (up + from) + i)) (entries f.number (take len weights))
          (λ i. gain k (from + i)) size
          (λ i inside.
          let same : k * rows ≡ k * q = ap (λ j. k * j) rows_are in
          let row : k * rows + (up + from) + i ≡ k * q + up + (from + i) = omega (arith, same) in
          let entry = ap (entries of table) row in
          let weight = entry-take f.number weights len i inside ∙ c.weights_from-weights.ensures i inside in
          cc (entry, weight))));
    }
