use Rattle.std.proofs.Common.{ℕ, ◌+◌, ◌*◌, ◌<◌, length, ◌∙◌, ap, sym, arith}
use Rattle.sc_definitions.specs.Ring.{times}
use Rattle.sc_table.proofs.EntryLaws.{entry-read, entry-embedded}
use Rattle.sc_table.proofs.SliceLaws.{pushed-none, pushed-more}
use Rattle.sc_partials.proofs.NextTables.{pushed-has}
use Rattle.sc_svo.proofs.next_point.every.Goals as goal

pub loop-a-init : goal.loop-a-init
loop-a-init g c = record { pushed = pushed-none g.EF.Field.number _ c.in_ok-kept.kept.items c.in_ok-kept.ensures.items; room = c.in_ok-kept.ensures.exact }

pub loop-a-preserved : goal.loop-a-preserved
loop-a-preserved g c =
    let e = g.EF.Field in
    let h : ℕ → ℕ = g.EF.Algebra.embedding in
    let n = g.F.Field.number in
    let rows = c.args.rows.now in
    let a = c.loop-a.a in
    let place = c.args.from + a * c.args.step in
    let low : place < length rows = c.requires.within a c.loop-a-test.true in
    let read = entry-read n rows place c.index-rows-from.result low c.index-rows-from.is in
    record {
      pushed = pushed-more e.number _ a c.loop-a.kept.items _ c.mul_base.result c.push_reserved.ensures.items c.loop-a.invariant.pushed
          (c.mul_base.ensures ∙ ap (times e.ops (e.number c.args.factor)) (ap h (sym read) ∙ sym (entry-embedded h n rows place g.met.EF.Algebra.embeds.zero_kept)));
      room = c.push_reserved.ensures.capacity ∙ c.loop-a.invariant.room;
    }

pub new-requires : goal.new-requires
new-requires g c = (c.requires.power.0, c.loop-a.invariant.pushed.size ∙ omega (arith, c.loop-a-test.false, c.loop-a.auto.a-end) ∙ c.requires.power.1)

pub returns : goal.returns
returns g c = λ m is.
    pushed-has g.EF.Field.number m _ c.loop-a.a c.loop-a.kept.items c.new.result c.loop-a.invariant.pushed (omega (arith, c.loop-a-test.false, c.loop-a.auto.a-end, is)) c.new.ensures.size c.new.ensures.table
