use Rattle.std.proofs.Common.{◌≡◌, ℕ, ◌+◌, ◌-◌, ◌*◌, ◌^◌, ◌<◌, ◌≤◌, ◌∷◌, length, map, take, drop, sym, ◌∙◌, ap, arith, pow-add}
use Rattle.std.proofs.lemmas.List.{length-map}
use Rattle.sc_definitions.specs.Ring.{plus, times, minus}
use Rattle.sc_definitions.specs.Tables.{entries, value}
use Rattle.sc_weights.proofs.Halves.{split-first, two_parts, first-block}
use Rattle.sc_weights.specs.Moved.{moved_down}
use Rattle.sc_weights.proofs.NextValues.{down-none, down-more, block_value, block-low, block-high, block-first}
use Rattle.sc_weights.proofs.successor.+moved_down_value.Goals as goal

pub returns-in_default : goal.returns-in_default
returns-in_default g t c =
    let f = g.EF.Field in
    let point = c.args.point.now in
    let zs = map f.number point in
    let ss = map f.number c.args.selector.now in
    let m = 2 ^ length c.args.selector.now in
    let v : ℕ → ℕ = block_value f.ops g.EF.Algebra.embedding g.A.Field.number g.met.EF.Algebra.embeds.zero_kept ss c.args.rows.now m in
    down-none f.ops g.met.EF.Field.is_field.ring (f.number c.args.after) v zs (omega (arith, c.in_default.len_below, length-map point f.number)) (g.met.EF.Field.number_below c.args.after)
    ∙ ap (λ n. value f.ops (moved_down (2 ^ n) 1 (λ _. f.number c.args.after) v) zs) (length-map point f.number)

pub slice_bounds-eval_slice-end : goal.slice_bounds-eval_slice-end
slice_bounds-eval_slice-end g t c =
    sym (first-block c.args.rows.now c.split_at.result.1.now c.args.point.now c.args.selector.now c.args.block c.requires.size c.in-len1-up.len_at_least c.requires.block c.split_at.ensures.back_len)

pub eval_slice-between-requires : goal.eval_slice-between-requires
eval_slice-between-requires g t c =
    first-block c.args.rows.now c.split_at.result.1.now c.args.point.now c.args.selector.now c.args.block c.requires.size c.in-len1-up.len_at_least c.requires.block c.split_at.ensures.back_len ∙ c.requires.block

pub returns : goal.returns
returns g t c =
    let f = g.EF.Field in
    let met = g.met.EF.Field in
    let embed = g.EF.Algebra.embedding in
    let kept = g.met.EF.Algebra.embeds.zero_kept in
    let of : g.row.A.Denot → ℕ = g.A.Field.number in
    let rows = c.args.rows.now in
    let point = c.args.point.now in
    let first = c.first-item.result in
    let rest = take (length point - 1) (drop 1 point) in
    let some : 1 ≤ length point = omega (arith, c.in-len1-up.len_at_least) in
    let split : point ≡ first ∷ rest = split-first point first some c.first-item.is in
    let zs = map f.number rest in
    let all = map f.number point in
    let ss = map f.number c.args.selector.now in
    let k = length c.args.selector.now in
    let q = 2 ^ length zs in
    let m = 2 ^ k in
    let sized : 2 ^ length rest ≡ q = ap (λ n. 2 ^ n) (sym (length-map rest f.number)) in
    let width : 2 ^ length ss ≡ m = ap (λ n. 2 ^ n) (length-map c.args.selector.now f.number) in
    let half : 2 ^ (length rest + k) ≡ q * m = pow-add 2 (length rest) k ∙ ap (λ n. n * m) sized in
    let size : length rows ≡ q * m + q * m = two_parts rows point c.args.selector.now c.requires.size some ∙ ap (λ n. n + n) half in
    let v : ℕ → ℕ = block_value f.ops embed of kept ss rows m in
    let low : ℕ → ℕ = block_value f.ops embed of kept ss c.split_at.result.0.now m in
    let high : ℕ → ℕ = block_value f.ops embed of kept ss c.split_at.result.1.now m in
    let after = f.number c.args.after in
    let between = f.number c.eval_slice-between.result in
    let front : (a : ℕ) → a < q → low a ≡ v a = block-low f.ops embed of kept ss rows q m size width c.split_at.result.0.now c.split_at.ensures.front in
    let back : (a : ℕ) → high a ≡ v (q + a) = block-high f.ops embed of kept ss rows q m size width c.split_at.result.1.now c.split_at.ensures.back in
    let at : q + 0 ≡ q = omega arith in
    let is : between ≡ v q =
    c.eval_slice-between.ensures ∙ ap (λ n. value f.ops (entries (λ x. embed (of x)) (take n c.split_at.result.1.now)) ss) c.requires.block
    ∙ block-first f.ops embed of kept ss c.split_at.result.1.now m width ∙ back 0 ∙ ap v at in
    let lo : f.number c.moved_down_value-lo.result ≡ value f.ops (moved_down q 1 (λ _. between) low) zs = c.moved_down_value-lo.ensures ∙ ap (λ n. value f.ops (moved_down n 1 (λ _. between) low) zs) sized in
    let hi : f.number c.moved_down_value-hi.result ≡ value f.ops (moved_down q 1 (λ _. after) high) zs = c.moved_down_value-hi.ensures ∙ ap (λ n. value f.ops (moved_down n 1 (λ _. after) high) zs) sized in
    let slope : f.number c.mul.result ≡ times f.ops (minus f.ops (f.number c.moved_down_value-hi.result) (f.number c.moved_down_value-lo.result)) (f.number first) = cc (c.mul.ensures, c.sub.ensures) in
    c.add.ensures ∙ ap (plus f.ops (f.number c.moved_down_value-lo.result)) slope
    ∙ ap (λ n. plus f.ops n (times f.ops (minus f.ops (f.number c.moved_down_value-hi.result) n) (f.number first))) lo
    ∙ ap (λ n. plus f.ops (value f.ops (moved_down q 1 (λ _. between) low) zs) (times f.ops (minus f.ops n (value f.ops (moved_down q 1 (λ _. between) low) zs)) (f.number first))) hi
    ∙ down-more f.ops met.is_field.ring (f.number first) zs all after between v low high (ap (map f.number) split) front (λ a _. back a) is
    ∙ ap (λ n. value f.ops (moved_down (2 ^ n) 1 (λ _. after) v) all) (length-map point f.number)
