use Rattle.std.proofs.Common.{◌≡◌, ◌∙◌, ◌+◌, ◌-◌, ◌<◌, length, ap, sym, map, add-zero, arith}
use Rattle.std.proofs.lemmas.Grind.{common_steps}
use Rattle.sc_definitions.specs.Tables.{entries}
use Rattle.sc_definitions.proofs.LoopLaws.{entry-read}
use Rattle.sumcheck_make.specs.Made.{values_behind}
use Rattle.sumcheck_make.specs.Values.{number_of}
use Rattle.sumcheck_make.proofs.MadeLaws.{values-none, taken_more}
use Rattle.sumcheck_make.proofs.StrideLaws.{values_last}
use Rattle.sumcheck_make.proofs.values.Values.take.Goals as goal

pub loop-i-init : goal.loop-i-init
loop-i-init c = record {
  values = λ number i is. (ap (map number_of) c.in_ok-taken.ensures.items ∙ sym (values-none number i), rw add-zero is);
  count = ap length c.in_ok-taken.ensures.items;
  room = c.in_ok-taken.ensures.exact;
}

pub loop-i-preserved : goal.loop-i-preserved
loop-i-preserved c = record {
  values = λ number i is.
      let before = c.loop-i.invariant.values number i is in
      taken_more number_of number i c.loop-i._i c.loop-i.taken.items c.push_reserved.new.self.items c.advance.result before.0 c.push_reserved.ensures.items
      c.advance.ensures.value (c.advance.ensures.next number (i + c.loop-i._i) before.1);
  count = grind (arith, common_steps);
  room = c.push_reserved.ensures.capacity ∙ c.loop-i.invariant.room;
}

-- the values after the first eight are made of them
pub returns : goal.returns
unfolding entries
returns c = λ number i is.
    let count = c.args.count in
    let some : 8 < count = omega (arith, c.if-count-le-STRIDE.false) in
    let eight : c.loop-i._i ≡ 8 = omega (arith, c.loop-i-test.false, c.loop-i.auto._i-end, c.min-i-end.ensures, some) in
    let size : length c.loop-i.taken.items ≡ c.loop-i._i = c.loop-i.invariant.count in
    let first = (c.loop-i.invariant.values number i is).0 ∙ ap (values_behind number i) (sym size) in
    let all = c.push_rest.ensures.values number i first ∙ ap (values_behind number i) c.push_rest.ensures.size in
    let xs = c.push_rest.new.taken.items in
    let within : count - 1 < length xs = omega (arith, some, c.push_rest.ensures.size) in
    let read = entry-read number_of xs (count - 1) c.index.result.now within c.index.ensures in
    (all, values_last number_of number i count c.index-self.result xs c.index.result.now (omega (arith, some)) all (sym read) c.index-self.ensures)
