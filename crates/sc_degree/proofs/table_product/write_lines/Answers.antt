use Rattle.std.proofs.Common.{◌≡◌, ℕ, ◌+◌, ◌<◌, length, set, subst, sym, ◌∙◌, ap, arith}
use Rattle.sc_definitions.specs.Tables.{entries}
use Rattle.sc_definitions.proofs.LoopLaws.{entry-read}
use Rattle.sc_definitions.proofs.RingLaws.{element-small}
use Rattle.sc_table.specs.Blocks.{HasWritten}
use Rattle.sc_table.proofs.EntryLaws.{entry-below}
use Rattle.sc_table.proofs.FoldLaws.{written-none, written-more}
use Rattle.sc_degree.specs.Lines.{line_at}
use Rattle.sc_degree.proofs.LineLaws.{line_at-zero}
use Rattle.sc_degree.proofs.table_product.write_lines.Goals as goal

pub returns-then-eq : goal.returns-then-eq
returns-then-eq g c = λ b inside.
    let e = g.EF.Field in
    let ring = g.met.EF.Field.is_field.ring in
    let none : e.number c.args.x ≡ 0 = (g.met.EF.Field.equality c.args.x c.ZERO.result).0 (sym c.eq.ensures ∙ c.if-eq.true) ∙ ap e.number c.ZERO.ensures ∙ g.met.EF.Field.zero_is in
    let low = entries e.number c.args.low.now b in
    let high = entries e.number c.args.high.now b in
    ap (λ xs. entries e.number xs b) c.copy_from_slice.ensures.after
    ∙ sym (element-small e.ops ring low (entry-below e.ops e.number ring g.met.EF.Field.number_below c.args.low.now b))
    ∙ sym (line_at-zero e.ops ring low high (e.number c.args.x) none)

pub loop-b-init : goal.loop-b-init
loop-b-init g c = written-none g.EF.Field.number _ 0 c.args.lines.now

pub loop-b-preserved : goal.loop-b-preserved
unfolding line_at
loop-b-preserved g c =
    let e = g.EF.Field in
    let b = c.loop-b.b in
    let low = c.args.low.now in
    let high = c.args.high.now in
    let old = c.args.lines.now in
    let new = c.loop-b.lines in
    let table : ℕ → ℕ = λ k. line_at e.ops (entries e.number low k) (entries e.number high k) (e.number c.args.x) in
    let inside : b < length new = omega (arith, c.loop-b-test.true, c.loop-b.auto.lines) in
    let at : 0 + b ≡ b = omega arith in
    let back : b ≡ 0 + b = omega arith in
    let lo = entry-read e.number low b c.index-low-b.result (omega (arith, c.loop-b-test.true, c.requires.low)) c.index-low-b.is in
    let hi = entry-read e.number high b c.index-high-b.result (omega (arith, c.loop-b-test.true, c.requires.high)) c.index-high-b.is in
    subst (λ k. HasWritten e.number table 0 (b + 1) old (set new k c.add.result)) at
    (written-more e.number table 0 b old new c.add.result (omega (arith, inside)) c.loop-b.invariant
    (subst (λ k. e.number c.add.result ≡ table k) back (cc (c.add.ensures, c.mul.ensures, c.sub.ensures, lo, hi))))

pub returns : goal.returns
returns g c = λ b low. c.loop-b.invariant.written b (omega arith) (omega (arith, low, c.loop-b-test.false))
