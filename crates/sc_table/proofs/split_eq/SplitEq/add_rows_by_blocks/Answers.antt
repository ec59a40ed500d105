use Rattle.std.proofs.Common.{ℕ, ◌≡◌, ◌+◌, ◌-◌, ◌*◌, ◌<◌, length, take, drop, ◌∙◌, ap, refl, arith}
use Rattle.std.proofs.Math.Nat.{add-mul}
use Rattle.std.proofs.lemmas.List.{length-take-le}
use Rattle.sc_definitions.specs.Ring.{plus, times}
use Rattle.sc_definitions.specs.Tables.{entries}
use Rattle.sc_field.proofs.EntryLaws.{entry-take, part-entry}
use Rattle.sc_table.specs.SplitEqs.{split_weight}
use Rattle.sc_table.proofs.SumLaws.{gained-none, gained-block, products-sum}
use Rattle.sc_table.proofs.SplitLaws.{row-within}
use Rattle.sc_table.proofs.split_eq.SplitEq.add_rows_by_blocks.Goals as goal

pub loop-from-init : goal.loop-from-init
loop-from-init g c = record {
  within = omega arith;
  rows = gained-none g.EF.Field.number g.EF.Field.ops g.met.EF.Field.is_field.ring _ c.args.sums.now
      g.met.EF.Field.number_below;
}

pub loop-from-preserved : goal.loop-from-preserved
loop-from-preserved g c =
    let f = g.EF.Field in
    let of = λ (x : g.row.A.Denot). g.EF.Algebra.embedding (g.A.Field.number x) in
    let w = split_weight f.number f.ops c.args.self.now in
    let old = c.args.sums.now in
    let new = c.loop-from.sums in
    let table = c.args.table.now in
    let width = length old in
    let from = c.loop-from.from in
    let len = c.min-len.result in
    let start = from * width in
    let n = (from + len) * width - start in
    let block = take n (drop start table) in
    let weights = c.weights_from-weights.result in
    let gain : ℕ → ℕ → ℕ = λ k i. times f.ops (entries of table (i * width + k)) (w i) in
    let size : length (take len weights) ≡ len = length-take-le len weights (omega arith) in
    record {
      within = omega arith;
      rows = gained-block f.number f.ops g.met.EF.Field.is_field.ring gain old from len new c.add_columns_base.new.sums c.loop-from.invariant.rows
          (λ k low.
          c.add_columns_base.ensures k (omega (arith, low, c.loop-from.auto.sums))
          ∙ ap (plus f.ops (entries f.number new k))
          (products-sum f.ops (length (take len weights)) len (λ i. entries of block (i * length new + k)) (entries f.number (take len weights))
          (λ i. gain k (from + i)) size
          (λ i inside.
          let same : i * length new ≡ i * width = ap (λ j. i * j) c.loop-from.auto.sums in
          let row : start + (i * length new + k) ≡ (from + i) * width + k = omega (arith, same, add-mul from i width) in
          let fits = row-within (len * width) len width i refl inside in
          let low_row : i * length new + k < n = omega (arith, same, low, fits, add-mul from len width) in
          let entry = part-entry of table n start (i * length new + k) ((from + i) * width + k) low_row row in
          let weight = entry-take f.number weights len i inside ∙ c.weights_from-weights.ensures i inside in
          cc (entry, weight))));
    }
