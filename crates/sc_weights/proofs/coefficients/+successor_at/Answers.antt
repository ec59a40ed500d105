use Rattle.std.proofs.Common.{◌≡◌, ◌≤◌, length, sym, ◌∙◌, ap, arith}
use Rattle.sc_definitions.specs.Ring.{times, minus}
use Rattle.sc_definitions.specs.Parts.{Carry, Done}
use Rattle.sc_weights.proofs.CoefficientReads.{later, done-sum, carry-none, done-none, omega-none, carry-more, done-more, omega-more}
use Rattle.sc_weights.proofs.coefficients.+successor_at.Goals as goal

pub returns-in_default-clause-carry : goal.returns-in_default-clause-carry
returns-in_default-clause-carry g t c =
    let e = g.EF.Field in
    ap e.number c.ONE.ensures ∙ g.met.EF.Field.one_is
    ∙ sym (carry-none e.ops g.met.EF.Field.is_field.ring e.number e.number c.args.z.now c.args.x.now c.requires (omega (arith, c.in_default.len_below)))

pub returns-in_default-clause-done : goal.returns-in_default-clause-done
returns-in_default-clause-done g t c =
    let e = g.EF.Field in
    ap e.number c.ZERO.ensures ∙ g.met.EF.Field.zero_is
    ∙ sym (done-none e.ops g.met.EF.Field.is_field.ring e.number e.number c.args.z.now c.args.x.now c.requires (omega (arith, c.in_default.len_below)))

pub returns-in_default-clause-omega : goal.returns-in_default-clause-omega
returns-in_default-clause-omega g t c =
    let e = g.EF.Field in
    ap e.number c.ONE-in_default.ensures ∙ g.met.EF.Field.one_is
    ∙ sym (omega-none e.ops g.met.EF.Field.is_field.ring e.number e.number c.args.z.now c.args.x.now c.requires (omega (arith, c.in_default.len_below)))

pub returns-clause-carry : goal.returns-clause-carry
returns-clause-carry g t c =
    let e = g.EF.Field in
    let N = e.number in
    c.mul-3.ensures ∙ ap (times e.ops (N c.first-item.result)) c.successor_at-carry.ensures.carry
    ∙ carry-more e.ops g.met.EF.Field.is_field.ring N N c.args.z.now c.args.x.now c.requires (omega (arith, c.in-len1-up.len_at_least)) c.first-item.result c.index-x-0.result
    c.first-item.is c.index-x-0.is

pub returns-clause-done : goal.returns-clause-done
returns-clause-done g t c =
    let e = g.EF.Field in
    let N = e.number in
    let o = e.ops in
    let z = N c.first-item.result in
    let x = N c.index-x-0.result in
    let one : N c.ONE-2.result ≡ 1 = ap N c.ONE-2.ensures ∙ g.met.EF.Field.one_is in
    let ring = g.met.EF.Field.is_field.ring in
    let some : 1 ≤ length c.args.z.now = omega (arith, c.in-len1-up.len_at_least) in
    let d = later o ring N N Done c.args.z.now c.args.x.now in
    let k = later o ring N N Carry c.args.z.now c.args.x.now in
    done-sum o z x d k (N c.sub-falls.result) (N c.mul-both.result) (N c.add.result) (N c.mul-2.result) (N c.mul.result) (N c.mul-carried.result) (N c.add-done.result)
    (c.sub-falls.ensures ∙ ap (λ v. minus o v z) one) c.mul-both.ensures c.add.ensures
    (c.mul-2.ensures ∙ ap (times o (N c.add.result)) c.successor_at-carry.ensures.done) c.mul.ensures
    (c.mul-carried.ensures ∙ ap (times o (N c.mul.result)) c.successor_at-carry.ensures.carry) c.add-done.ensures
    ∙ done-more o ring N N c.args.z.now c.args.x.now c.requires some c.first-item.result c.index-x-0.result c.first-item.is c.index-x-0.is

pub returns-clause-omega : goal.returns-clause-omega
returns-clause-omega g t c =
    let e = g.EF.Field in
    let N = e.number in
    c.mul-4.ensures ∙ ap (λ k. times e.ops k (N c.successor_at-carry.result.2)) c.mul-both.ensures
    ∙ ap (times e.ops (times e.ops (N c.first-item.result) (N c.index-x-0.result))) c.successor_at-carry.ensures.omega
    ∙ omega-more e.ops g.met.EF.Field.is_field.ring N N c.args.z.now c.args.x.now c.requires (omega (arith, c.in-len1-up.len_at_least)) c.first-item.result c.index-x-0.result
    c.first-item.is c.index-x-0.is
