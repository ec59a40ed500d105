use Rattle.std.proofs.Common.{◌≡◌, suc, ◌+◌, length, sym, ◌∙◌, ap, arith, length-append}
use Rattle.sc_definitions.specs.Ring.{times, power}
use Rattle.sc_definitions.specs.Tables.{entries}
use Rattle.sc_definitions.proofs.RingLaws.{times_comm}
use Rattle.sc_definitions.proofs.Power.{power-zero, power-suc}
use Rattle.sc_matmul.proofs.TableLaws.{entry-more}
use Rattle.sc_matmul.proofs.tables.powers_of.Goals as goal

pub loop-i-init : goal.loop-i-init
loop-i-init g c =
    let f = g.EF.Field in
    record {
      made = ap length c.in_ok-powers.ensures.empty;
      room = c.in_ok-powers.ensures.room;
      next = ap f.number c.ONE-next.ensures ∙ g.met.EF.Field.one_is ∙ sym (power-zero f.ops g.met.EF.Field.is_field.ring (f.number c.args.x));
      powers = λ i low. absurd (omega (arith, low));
    }

pub push_reserved-requires : goal.push_reserved-requires
push_reserved-requires g c = omega (arith, c.loop-i.invariant.made, c.loop-i.invariant.room, c.loop-i-test.true, c.loop-i.powers.ok.0)

pub loop-i-preserved : goal.loop-i-preserved
loop-i-preserved g c =
    let f = g.EF.Field in
    let o = f.ops in
    let ring = g.met.EF.Field.is_field.ring in
    let x = f.number c.args.x in
    let i = c.loop-i.i in
    let inv = c.loop-i.invariant in
    let more : suc i ≡ i + 1 = omega arith in
    record {
      made = ap length c.push_reserved.ensures.items ∙ length-append c.loop-i.powers.items _ ∙ ap (λ n. n + 1) inv.made;
      room = omega (arith, c.push_reserved.ensures.capacity, inv.room);
      next = c.mul-next.ensures ∙ ap (λ t. times o t x) inv.next ∙ times_comm o ring (power o x i) x ∙ sym (power-suc o x i) ∙ ap (power o x) more;
      powers = λ k low. ap (λ l. entries f.number l k) c.push_reserved.ensures.items
          ∙ entry-more f.number (power o x) c.loop-i.powers.items c.loop-i.next i inv.made inv.powers inv.next k low;
    }

pub returns-clause-count : goal.returns-clause-count
returns-clause-count g c = c.loop-i.invariant.made ∙ omega (arith, c.loop-i.auto.i-end, c.loop-i-test.false)

pub returns-clause-powers : goal.returns-clause-powers
returns-clause-powers g c = λ i low. c.loop-i.invariant.powers i (omega (arith, low, c.loop-i-test.false, c.loop-i.auto.i-end))
