use Rattle.std.proofs.Common.{rules, ◌≡◌, suc, ◌+◌, ◌*◌, ◌^◌, ◌<◌, ◌≤◌, ◌++◌, length, map, sym, ◌∙◌, ap, subst, arith, pow-add}
use Rattle.std.proofs.lemmas.Nat.{mul-le}
use Rattle.std.proofs.lemmas.List.{length-map}
use Rattle.sc_definitions.specs.Ring.{plus, times}
use Rattle.sc_definitions.specs.Tables.{prefix, entries}
use Rattle.sc_definitions.specs.Statements.{slot_weight}
use Rattle.sc_definitions.proofs.BlockLaws.{slot-prefix}
use Rattle.sc_weights.proofs.Halves.{eight-few}
use Rattle.sc_weights.proofs.NextSteps.{slots-joined}
use Rattle.sc_weights.proofs.SlotParts.{front-size, front-size_of, front-inner, front-joined}
use Rattle.sc_weights.proofs.next.add_slots_by_blocks.Goals as goal

pub add_blocks-requires-clause-size : goal.add_blocks-requires-clause-size
add_blocks-requires-clause-size g c =
    let of = g.EF.Field.number in
    let point = c.args.point.now in
    let selector = c.args.selector.now in
    let outer = c.split_at.result.0.now in
    let inner = c.split_at.result.1.now in
    let weights = c.slot_weights-weights.result in
    let parted = c.split_at.ensures in
    let many : length weights ≡ 256 = search rules in
    let long : 8 ≤ length selector + length point = eight-few (length c.args.rows.now) (length selector + length point) c.requires.long c.requires.size in
    c.requires.size ∙ front-size of selector point outer inner weights (omega (arith, c.requires.short)) long parted.front parted.back many

pub returns : goal.returns
returns g c = λ a e low below.
    let f = g.EF.Field in
    let ring = g.met.EF.Field.is_field.ring in
    let point = c.args.point.now in
    let selector = c.args.selector.now in
    let outer = c.split_at.result.0.now in
    let inner = c.split_at.result.1.now in
    let weights = c.slot_weights-weights.result in
    let parted = c.split_at.ensures in
    let many : length weights ≡ 256 = search rules in
    let long : 8 ≤ length selector + length point = eight-few (length c.args.rows.now) (length selector + length point) c.requires.long c.requires.size in
    let few : length point ≤ 8 = omega (arith, c.requires.short) in
    let ss = map f.number selector in
    let zs = map f.number point in
    let outers = map f.number outer in
    let inners = map f.number inner in
    let m = 2 ^ length point in
    let rows = entries f.number c.args.rows.now in
    let scale = f.number c.args.scale in
    let width : 2 ^ length zs ≡ m = ap (λ k. 2 ^ k) (length-map point f.number) in
    let tall : 2 ^ length inners ≡ 2 ^ length inner = ap (λ k. 2 ^ k) (length-map inner f.number) in
    let b = a * m + e in
    let inside : b < length c.args.rows.now =
    omega (arith, mul-le (suc a) m (2 ^ length selector) m low (omega arith), c.requires.size, pow-add 2 (length selector) (length point), below) in
    let size : length c.args.rows.now ≡ 2 ^ length outers * length weights = c.requires.size ∙ front-size_of f.number selector point outer inner weights few long parted.front parted.back many in
    let joined : outers ++ inners ≡ ss = front-joined f.number selector point outer inner weights few long parted.front parted.back many in
    c.add_blocks.ensures b inside
    ∙ ap (λ k. plus f.ops (rows b) (times f.ops scale k))
    (slots-joined f.ops ring outers inners zs (length weights) (entries f.number weights) (front-inner f.number selector point outer inner weights few long parted.front parted.back many)
    (λ i j li lj. ap (λ k. entries f.number weights (i * k + j)) width ∙ c.slot_weights-weights.ensures i j (subst (λ k. i < k) tall li) (subst (λ k. j < k) width lj))
    b (subst (λ k. b < k) size inside)
    ∙ ap (λ l. slot_weight prefix f.ops l zs b) joined ∙ ap (λ k. slot_weight prefix f.ops ss zs (a * k + e)) (sym width) ∙ slot-prefix f.ops ring ss zs a e (subst (λ k. e < k) (sym width) below))
