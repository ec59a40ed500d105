use Rattle.std.proofs.Common.{◌≡◌, ◌+◌, ◌-◌, ◌<◌, ◌≤◌, length, map, take, set, sym, ◌∙◌, ap, arith}
use Rattle.std.proofs.lemmas.List.{length-set, length-take-le, take_more_set, take_all}
use Rattle.sumcheck_make.specs.Made.{values_behind}
use Rattle.sumcheck_make.specs.Values.{number_of}
use Rattle.sumcheck_make.proofs.StrideLaws.{taken-read, rest_more}
use Rattle.sumcheck_make.proofs.stride.write_rest.Goals as goal

pub loop-k-preserved : goal.loop-k-preserved
loop-k-preserved c =
    let k = c.loop-k.k in
    let rows = c.loop-k.rows in
    let x = c.value_behind.result in
    let y = c.index-rows-k.result in
    let inv = c.loop-k.invariant in
    let some : 8 ≤ k = omega (arith, c.requires.some, c.loop-k.auto.k) in
    let low : k < length rows = omega (arith, inv.size, c.loop-k-test.true, c.loop-k.auto.k-end) in
    record {
      values = λ number i is.
          rest_more number_of number i k (take k rows) (take (k + 1) (set rows k x)) y x some (inv.values number i is)
          (taken-read number_of rows k (k - 8) y (omega (arith, some)) (omega (arith, low)) c.index-rows-k.is) c.value_behind.ensures (take_more_set rows k x low);
      size = length-set rows k x ∙ inv.size;
    }

pub returns-clause-values : goal.returns-clause-values
returns-clause-values c = λ number i is.
    let rows = c.loop-k.rows in
    let inv = c.loop-k.invariant in
    let past : length rows ≤ c.loop-k.k = omega (arith, inv.size, c.loop-k-test.false, c.loop-k.auto.k-end) in
    let end : c.loop-k.k ≡ length rows = omega (arith, inv.size, past, c.loop-k.auto.k-end) in
    let first = is ∙ ap (values_behind number i) (length-take-le c.args.from c.args.rows.now c.requires.within) in
    ap (map number_of) (sym (take_all c.loop-k.k rows past)) ∙ inv.values number i first ∙ ap (values_behind number i) end
