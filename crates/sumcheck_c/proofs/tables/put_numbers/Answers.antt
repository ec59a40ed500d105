use Rattle.std.proofs.Common.{◌≡◌, ℕ, ◌<◌, length, map, slice_set, ◌∙◌, ap, arith}
use Rattle.std.proofs.lemmas.List.{length-map}
use Rattle.sc_small_fields.specs.declared.f65537.F65537.{F65537}
use Rattle.sumcheck_c.proofs.TypedLaws.{front-step, mapped-read}
use Rattle.sumcheck_c.proofs.tables.put_numbers.Goals as goal

pub loop-i-preserved : goal.loop-i-preserved
loop-i-preserved c =
    let number : F65537 → ℕ = λ x. x.value in
    let xs = c.args.elements.now in
    let i = c.loop-i.i in
    let x = c.index-elements-i.result in
    let few = c.min-n.ensures in
    let long = length-map xs number in
    let low : i < length xs = omega (arith, few) in
    let low' : i < length (map number xs) = omega (arith, few, long) in
    let room : i < length c.args.out.now = omega (arith, few) in
    ap (λ v. slice_set c.loop-i.out i v) c.number_of.ensures ∙ ap (λ l. slice_set l i (number x)) c.loop-i.invariant
    ∙ front-step i (map number xs) c.args.out.now (number x) low' room (mapped-read number xs i x low c.index-elements-i.is)
