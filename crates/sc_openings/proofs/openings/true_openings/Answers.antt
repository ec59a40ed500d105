use Rattle.std.proofs.Common.{ℕ, ◌+◌, length, map, ◌∙◌, ap, arith, length-append, Vec}
use Rattle.std.specs.Global.{Global}
use Rattle.sc_definitions.specs.Tables.{entries, value}
use Rattle.sc_openings.proofs.ValueLaws.{made-next, made-all}
use Rattle.sc_openings.proofs.openings.true_openings.Goals as goal

pub push_reserved-requires : goal.push_reserved-requires
push_reserved-requires g c = omega (arith, c.loop-i.invariant.made, c.loop-i.invariant.room, c.loop-i-test.true, c.loop-i.openings.ok.0)

-- one value more
pub loop-i-preserved : goal.loop-i-preserved
loop-i-preserved g c =
    let e = g.EF.Field in
    let image = λ (x : g.row.F.Denot). g.EF.Algebra.embedding (g.F.Field.number x) in
    let zs = map e.number c.args.point.now in
    let of : Vec g.row.F.Denot Global → ℕ = λ t. value e.ops (entries image t.items) zs in
    let inv = c.loop-i.invariant in
    let is = c.eval_slice.ensures ∙ ap (λ l. value e.ops (entries image l) (map e.number c.as_slice.result.now)) c.deref.ensures.value
    ∙ ap (λ l. value e.ops (entries image c.index-tables-i.result.items) (map e.number l)) c.as_slice.ensures in
    record {
      made = ap length c.push_reserved.ensures.items ∙ length-append c.loop-i.openings.items _ ∙ ap (λ n. n + 1) inv.made;
      room = omega (arith, c.push_reserved.ensures.capacity, inv.room);
      openings = made-next e.number of c.args.tables.now c.loop-i.i c.index-tables-i.result c.loop-i.openings.items c.push_reserved.new.self.items c.eval_slice.result c.loop-i-test.true
          c.index-tables-i.is inv.openings is c.push_reserved.ensures.items;
    }

pub returns : goal.returns
returns g c =
    let e = g.EF.Field in
    let image = λ (x : g.row.F.Denot). g.EF.Algebra.embedding (g.F.Field.number x) in
    let zs = map e.number c.args.point.now in
    let of : Vec g.row.F.Denot Global → ℕ = λ t. value e.ops (entries image t.items) zs in
    made-all e.number of c.args.tables.now c.loop-i.i c.loop-i.openings.items (omega (arith, c.loop-i-test.false)) c.loop-i.invariant.openings
