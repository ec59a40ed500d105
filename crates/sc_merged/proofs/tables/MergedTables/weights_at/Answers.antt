use Rattle.std.proofs.Common.{ℕ, [], ◌∷◌, ◌+◌, ◌++◌, ◌<◌, ◌≤◌, length, map, take, sym, ◌∙◌, ap, arith, length-append}
use Rattle.std.proofs.lemmas.List.{length-map, map-append, take_all}
use Rattle.std.proofs.lemmas.Simd.{map-map}
use Rattle.sc_definitions.specs.Tables.{value}
use Rattle.sc_definitions.proofs.FindLaws.{take-next}
use Rattle.sc_soundness.specs.Merged.{WeightedTable}
use Rattle.sc_merged.specs.declared.weighted.WeightedPoly.{WeightedPoly}
use Rattle.sc_merged.specs.WeightedPolys.{weights_in, weighted_in}
use Rattle.sc_merged.proofs.tables.MergedTables.weights_at.Goals as goal

-- one value more
pub loop-i-preserved : goal.loop-i-preserved
loop-i-preserved g c =
    let e = g.EF.Field in
    let N = e.number in
    let self = c.args.self.now in
    let i = c.loop-i.i in
    let inv = c.loop-i.invariant in
    let pair = c.index.result.now in
    let at : WeightedPoly g.row.EF.Denot → ℕ = λ p. value e.ops (weights_in N p) (map N c.args.point.now) in
    let low : i < length self.pairs.items = omega (arith, c.loop-i-test.true, c.len-i-end.ensures, self.pairs.ok.0) in
    record {
      made = ap length c.push_reserved.ensures.items ∙ length-append c.loop-i.values.items _ ∙ ap (λ n. n + 1) inv.made;
      room = omega (arith, c.push_reserved.ensures.capacity, inv.room);
      values = ap (map N) c.push_reserved.ensures.items ∙ map-append N c.loop-i.values.items _ ∙ ap (λ l. l ++ N c.weights_at.result ∷ []) inv.values
          ∙ ap (λ v. take i (map at self.pairs.items) ++ v ∷ []) c.weights_at.ensures ∙ sym (take-next at self.pairs.items i pair low c.index.ensures);
    }

pub returns : goal.returns
returns g c =
    let e = g.EF.Field in
    let N = e.number in
    let self = c.args.self.now in
    let items = self.pairs.items in
    let at : WeightedPoly g.row.EF.Denot → ℕ = λ p. value e.ops (weights_in N p) (map N c.args.point.now) in
    let all : length items ≤ c.loop-i.i = omega (arith, c.loop-i-test.false, c.len-i-end.ensures, self.pairs.ok.0) in
    c.loop-i.invariant.values ∙ take_all c.loop-i.i (map at items) (omega (arith, length-map items at, all))
    ∙ sym (map-map (λ (p : WeightedTable). value e.ops p.weights (map N c.args.point.now)) (weighted_in N) items)
