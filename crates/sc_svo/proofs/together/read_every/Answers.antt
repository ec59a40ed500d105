use Rattle.std.proofs.Common.{◌≡◌, ℕ, ◌+◌, ◌*◌, ◌<◌, length, set, ◌∙◌, ap, sym, subst, arith}
use Rattle.sc_definitions.specs.Tables.{entries}
use Rattle.sc_table.specs.Blocks.{HasWritten}
use Rattle.sc_table.proofs.EntryLaws.{entry-read, entry-embedded}
use Rattle.sc_table.proofs.FoldLaws.{written-none, written-more}
use Rattle.sc_svo.proofs.together.read_every.Goals as goal

pub loop-a-init : goal.loop-a-init
loop-a-init g c = written-none g.E.Field.number _ 0 c.args.rows.now

pub loop-a-preserved : goal.loop-a-preserved
loop-a-preserved g c =
    let e = g.E.Field in
    let h : ℕ → ℕ = g.E.Algebra.embedding in
    let n = g.B.Field.number in
    let a = c.loop-a.a in
    let table = c.args.table.now in
    let read : ℕ → ℕ = λ k. entries (λ x. h (n x)) table (c.args.from + k * c.args.step) in
    let row = c.args.from + a * c.args.step in
    let low : a < length c.args.rows.now = omega (arith, c.loop-a-test.true, c.loop-a.auto.rows) in
    let at : 0 + a ≡ a = omega arith in
    let back : a ≡ 0 + a = omega arith in
    let is = entry-read n table row c.index-table-from.result (c.requires a low) c.index-table-from.is in
    let value : e.number c.embed.result ≡ read a = c.embed.ensures ∙ ap h (sym is) ∙ sym (entry-embedded h n table row g.met.E.Algebra.embeds.zero_kept) in
    subst (λ k. HasWritten e.number read 0 (a + 1) c.args.rows.now (set c.loop-a.rows k c.embed.result)) at
    (written-more e.number read 0 a c.args.rows.now c.loop-a.rows c.embed.result (omega (arith, low)) c.loop-a.invariant (subst (λ k. e.number c.embed.result ≡ read k) back value))

pub returns : goal.returns
returns g c = λ a low. c.loop-a.invariant.written a (omega arith) (omega (arith, low, c.loop-a-test.false))
