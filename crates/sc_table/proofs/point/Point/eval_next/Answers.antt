use Rattle.std.proofs.Common.{◌≡◌, ◌∷◌, length, map, sym, ◌∙◌, ap, subst}
use Rattle.std.proofs.lemmas.List.{length-map}
use Rattle.std.proofs.lemmas.Slice.Zip.{Zip-more, either_empty_from_Zip}
use Rattle.sc_definitions.specs.Ring.{plus, times}
use Rattle.sc_definitions.specs.Statements.{next_done}
use Rattle.sc_definitions.proofs.SuccessorLaws.{value-successor}
use Rattle.sc_definitions.proofs.PartLaws.{carry-at, done-at, omega-at}
use Rattle.sc_table.proofs.NextLaws.{IsPassed, passed-none, passed-more, passed-all, factors}
use Rattle.sc_table.proofs.point.Point.eval_next.Goals as goal

pub loop-z_i-init : goal.loop-z_i-init
loop-z_i-init g c =
    let f = g.EF.Field in
    let met = g.met.EF.Field in
    let first : c.into_iter-z_i-iterator.result.a.rest.now ≡ c.args.z.now = cc in
    let second : c.into_iter-z_i-iterator.result.b.rest.now ≡ c.args.x.now = cc in
    let zs = map f.number c.args.z.now in
    let xs = map f.number c.args.x.now in
    let size : length zs ≡ length xs = length-map c.args.z.now f.number ∙ c.requires ∙ sym (length-map c.args.x.now f.number) in
    let equal = f.number c.ONE-equal.result in
    let carry = f.number c.ONE-carry.result in
    let done = f.number c.ZERO-done.result in
    let omega_ = f.number c.ONE-omega.result in
    subst (λ l. IsPassed f.ops zs xs (map f.number l) (map f.number c.into_iter-z_i-iterator.result.b.rest.now) equal carry done omega_) (sym first)
    (subst (λ l. IsPassed f.ops zs xs zs (map f.number l) equal carry done omega_) (sym second)
    (passed-none f.ops met.is_field.ring zs xs equal carry done omega_ size
    (ap f.number c.ONE-equal.ensures ∙ met.one_is) (ap f.number c.ONE-carry.ensures ∙ met.one_is) (ap f.number c.ZERO-done.ensures ∙ met.zero_is) (ap f.number c.ONE-omega.ensures ∙ met.one_is)))

pub loop-z_i-preserved : goal.loop-z_i-preserved
loop-z_i-preserved g c =
    let f = g.EF.Field in
    let met = g.met.EF.Field in
    let l = c.loop-z_i in
    let z = f.number c.in-Some.z_i.now in
    let x = f.number c.in-Some.x_i.now in
    let zs = map f.number c.next.new.self.a.rest.now in
    let xs = map f.number c.next.new.self.b.rest.now in
    let all_z = map f.number c.args.z.now in
    let all_x = map f.number c.args.x.now in
    let parts = Zip-more l.z_i-iterator c.next.new.self _ (c.in-Some.z_i, c.in-Some.x_i) c.in-Some.is c.next.ensures.steps in
    let is = factors f.ops met.is_field.ring z x (f.number c.mul-both.result) (f.number c.sub-falls.result) (f.number c.sub-rises.result) (f.number c.sub-neither.result) (f.number c.ONE.result)
    c.mul-both.ensures c.sub-falls.ensures c.sub-rises.ensures (ap f.number c.ONE.ensures ∙ met.one_is) (cc (c.sub-neither.ensures, c.sub.ensures)) in
    let so_far : IsPassed f.ops all_z all_x (z ∷ zs) (x ∷ xs) (f.number l.equal) (f.number l.carry) (f.number l.done) (f.number l.omega) =
    subst (λ t. IsPassed f.ops all_z all_x (z ∷ zs) (map f.number t) (f.number l.equal) (f.number l.carry) (f.number l.done) (f.number l.omega)) parts.1
    (subst (λ t. IsPassed f.ops all_z all_x (map f.number t) (map f.number l.z_i-iterator.b.rest.now) (f.number l.equal) (f.number l.carry) (f.number l.done) (f.number l.omega)) parts.0 l.invariant) in
    passed-more f.ops met.is_field.ring all_z all_x zs xs z x so_far
    (c.mul-equal.ensures ∙ ap (times f.ops (f.number l.equal)) (c.add.ensures ∙ is.1.1))
    (c.mul-carry.ensures ∙ ap (times f.ops (f.number l.carry)) is.0)
    (cc (c.add-done.ensures, c.mul.ensures, c.mul-in-loop-z_i.ensures, is.0, is.1.0))
    (c.mul-omega.ensures ∙ ap (times f.ops (f.number l.omega)) c.mul-both.ensures)

pub returns : goal.returns
returns g c =
    let f = g.EF.Field in
    let met = g.met.EF.Field in
    let l = c.loop-z_i in
    let zs = map f.number c.args.z.now in
    let xs = map f.number c.args.x.now in
    let size : length zs ≡ length xs = length-map c.args.z.now f.number ∙ c.requires ∙ sym (length-map c.args.x.now f.number) in
    let none = either_empty_from_Zip l.z_i-iterator c.next.new.self _ c.in-None.is c.next.ensures.steps in
    let sums = passed-all f.ops met.is_field.ring f.number zs xs l.z_i-iterator.a.rest.now l.z_i-iterator.b.rest.now
    (f.number l.equal) (f.number l.carry) (f.number l.done) (f.number l.omega) (met.number_below l.equal) (met.number_below l.carry) (met.number_below l.done) (met.number_below l.omega) none l.invariant in
    record {
      carry = sums.0 ∙ sym (carry-at f.ops met.is_field.ring zs xs size);
      done = sums.1.0 ∙ sym (done-at f.ops met.is_field.ring zs xs size);
      omega = sums.1.1 ∙ sym (omega-at f.ops met.is_field.ring zs xs size);
      value = ap (λ k. plus f.ops k (f.number l.omega)) sums.1.0 ∙ ap (plus f.ops (next_done f.ops zs xs)) sums.1.1 ∙ sym (value-successor f.ops met.is_field.ring zs xs size);
    }
