use Rattle.std.proofs.Common.{◌≡◌, ◌+◌, ◌-◌, ◌<◌, ◌≤◌, length, sym, ◌∙◌, ap, subst, arith}
use Rattle.sc_definitions.specs.Ring.{times}
use Rattle.sc_definitions.specs.Tables.{entries}
use Rattle.sc_definitions.proofs.LoopLaws.{entry-read}
use Rattle.sc_table.proofs.PlaceLaws.{HasMultiples, multiples-more}
use Rattle.sc_table.proofs.lagrange.push_multiples.Goals as goal

pub loop-k-preserved : goal.loop-k-preserved
loop-k-preserved g c =
    let f = g.F.Field in
    let old = c.args.items.now.items in
    let now = c.loop-k.items.items in
    let from = c.args.from in
    let k = c.loop-k.k in
    let n = k - from in
    let so_far = c.loop-k.invariant.multiples in
    let end : c.len-k-end.result ≡ length old = c.len-k-end.ensures ∙ c.args.items.now.ok.0 in
    let least : from ≤ k = omega (arith, c.loop-k.auto.k, c.requires.from, c.len-k-end.ensures) in
    let low : k < length old = omega (arith, c.loop-k-test.true, end) in
    let at : from + n ≡ k = omega (arith, least) in
    let next : n + 1 ≡ k + 1 - from = omega (arith, least) in
    let read = entry-read f.number now k c.index.result.now (omega (arith, low, so_far.size)) c.index.ensures in
    record {
      multiples = subst (λ m. HasMultiples f.number f.ops from (f.number c.args.factor) m old c.push_reserved.new.self.items) next
          (multiples-more f.number f.ops from (f.number c.args.factor) old n now c.push_reserved.new.self.items c.mul-multiple.result
          c.push_reserved.ensures.items so_far
          (c.mul-multiple.ensures ∙ ap (λ x. times f.ops x (f.number c.args.factor)) (sym read ∙ so_far.kept k low
          ∙ ap (entries f.number old) (sym at))));
      room = c.push_reserved.ensures.capacity ∙ c.loop-k.invariant.room;
    }
