use Rattle.std.proofs.Common.{◌≡◌, ℕ, ◌+◌, ◌-◌, ◌*◌, ◌^◌, ◌<◌, ◌≤◌, ◌∷◌, length, map, take, drop, sym, ◌∙◌, ap, arith, pow-add}
use Rattle.std.proofs.lemmas.List.{length-map}
use Rattle.sc_definitions.specs.Ring.{plus, times, minus}
use Rattle.sc_definitions.specs.Tables.{value}
use Rattle.sc_weights.proofs.Halves.{split-first, two_parts}
use Rattle.sc_weights.proofs.NextValues.{slot_value, slots-none, slots-more, slot-low, slot-high}
use Rattle.sc_weights.proofs.next.+slots_value_by_halves.Goals as goal

pub returns-in_default : goal.returns-in_default
returns-in_default g t c =
    let f = g.EF.Field in
    let selector = c.args.selector.now in
    let zs = map f.number c.args.point.now in
    c.successor_value.ensures
    ∙ slots-none f.ops g.met.EF.Field.is_field.ring g.EF.Algebra.embedding g.A.Field.number zs (length c.args.point.now) c.args.rows.now (map f.number selector)
    (omega (arith, c.in_default.len_below, length-map selector f.number))

pub returns : goal.returns
returns g t c =
    let f = g.EF.Field in
    let embed = g.EF.Algebra.embedding in
    let of : g.row.A.Denot → ℕ = g.A.Field.number in
    let rows = c.args.rows.now in
    let selector = c.args.selector.now in
    let first = c.first-item.result in
    let rest = take (length selector - 1) (drop 1 selector) in
    let some : 1 ≤ length selector = omega (arith, c.in-len1-up.len_at_least) in
    let split : selector ≡ first ∷ rest = split-first selector first some c.first-item.is in
    let ss = map f.number rest in
    let all = map f.number selector in
    let p = length c.args.point.now in
    let zs = map f.number c.args.point.now in
    let q = 2 ^ length ss in
    let m = 2 ^ p in
    let sized : 2 ^ length rest ≡ q = ap (λ n. 2 ^ n) (sym (length-map rest f.number)) in
    let half : 2 ^ (length rest + p) ≡ q * m = pow-add 2 (length rest) p ∙ ap (λ n. n * m) sized in
    let size : length rows ≡ q * m + q * m = two_parts rows selector c.args.point.now c.requires some ∙ ap (λ n. n + n) half in
    let arity : length zs ≡ p = length-map c.args.point.now f.number in
    let v : ℕ → ℕ = slot_value f.ops embed of zs p rows in
    let low : ℕ → ℕ = slot_value f.ops embed of zs p c.split_at.result.0.now in
    let high : ℕ → ℕ = slot_value f.ops embed of zs p c.split_at.result.1.now in
    let front : (a : ℕ) → a < q → low a ≡ v a = slot-low f.ops embed of zs p arity rows q size c.split_at.result.0.now c.split_at.ensures.front in
    let back : (a : ℕ) → high a ≡ v (q + a) = slot-high f.ops embed of zs p rows q size c.split_at.result.1.now c.split_at.ensures.back in
    let slope : f.number c.mul.result ≡ times f.ops (minus f.ops (f.number c.slots_value_by_halves-hi.result) (f.number c.slots_value_by_halves-lo.result)) (f.number first) = cc (c.mul.ensures, c.sub.ensures) in
    c.add.ensures ∙ ap (plus f.ops (f.number c.slots_value_by_halves-lo.result)) slope
    ∙ ap (λ n. plus f.ops n (times f.ops (minus f.ops (f.number c.slots_value_by_halves-hi.result) n) (f.number first))) c.slots_value_by_halves-lo.ensures
    ∙ ap (λ n. plus f.ops (value f.ops low ss) (times f.ops (minus f.ops n (value f.ops low ss)) (f.number first))) c.slots_value_by_halves-hi.ensures
    ∙ slots-more f.ops g.met.EF.Field.is_field.ring (f.number first) ss all v low high (ap (map f.number) split) front (λ a _. back a)
