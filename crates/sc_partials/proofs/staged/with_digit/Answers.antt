use Rattle.std.proofs.Common.{◌≡◌, ℕ, ◌+◌, ◌*◌, ◌-◌, ◌^◌, ◌<◌, ◌≤◌, take, drop, refl, ◌∙◌, ap, arith}
use Rattle.std.proofs.Math.Nat.{le-mul_of_pos_right, mul-le-mul_right}
use Rattle.sc_definitions.specs.Tables.{entries}
use Rattle.sc_table.specs.Strategy.{order_of}
use Rattle.sc_table.proofs.KernelLaws.{part-length, part-entry}
use Rattle.sc_partials.proofs.StagedLaws.{rows-none, rows-more}
use Rattle.sc_partials.proofs.staged.with_digit.Goals as goal

pub pair_of-low-requires-clause-few : goal.pair_of-low-requires-clause-few
pair_of-low-requires-clause-few g c =
    let most = le-mul_of_pos_right (c.args.rows + c.args.rows) c.requires.some in
    omega (arith, most, c.requires.size, c.requires.few)

-- a row ends within the table
row_within : (row rows places : ℕ) → row < rows → row * places + places ≤ rows * places
row_within row rows places low = let most = mul-le-mul_right {m = row + 1} {n = rows} places (omega (arith, low)) in omega (arith, most)

pub slice_bounds-at_zero-end : goal.slice_bounds-at_zero-end
slice_bounds-at_zero-end g c =
    let p = c.pair_of-low in
    let most = row_within p.result.0 (c.args.rows + c.args.rows) c.args.places (omega (arith, p.ensures.within, p.ensures.below)) in
    omega (arith, most, c.requires.size)

pub slice_bounds-at_one-end : goal.slice_bounds-at_one-end
slice_bounds-at_one-end g c =
    let p = c.pair_of-low in
    let most = row_within p.result.1 (c.args.rows + c.args.rows) c.args.places p.ensures.below in
    omega (arith, most, c.requires.size)

pub loop-row-init : goal.loop-row-init
loop-row-init g c m is = rows-none g.EF.Field.number g.EF.Field.ops (order_of c.args.order) m c.args.places c.args.values.now _ c.in_ok-wider.ensures.items

pub loop-row-preserved : goal.loop-row-preserved
loop-row-preserved g c m is =
    let e = g.EF.Field in
    let p = c.pair_of-low in
    let places = c.args.places in
    let xs = c.args.values.now in
    let row = c.loop-row.row in
    let i = p.result.0 * places in
    let j = p.result.1 * places in
    let n = i + places - i in
    let n' = j + places - j in
    let e_n : n ≡ places = omega arith in
    let e_n' : n' ≡ places = omega arith in
    let low_within = row_within p.result.0 (c.args.rows + c.args.rows) places (omega (arith, p.ensures.within, p.ensures.below)) in
    rows-more e.number e.ops (order_of c.args.order) m places xs row (take n (drop i xs)) (take n' (drop j xs)) c.loop-row.wider.items _
    (c.loop-row.invariant m is) c.in_ok-push_digits.ensures
    (part-length xs n i places e_n (omega (arith, low_within, c.requires.size)))
    (λ k small. part-entry e.number xs n i k (i + k) (omega (arith, e_n, small)) refl ∙ ap (λ r. entries e.number xs (r * places + k)) p.ensures.low)
    (λ k small. part-entry e.number xs n' j k (j + k) (omega (arith, e_n', small)) refl ∙ ap (λ r. entries e.number xs (r * places + k)) (p.ensures.high m is))

pub returns : goal.returns
returns g c m is =
    let done = c.loop-row.invariant m is in
    let all : c.loop-row.row ≡ 2 ^ m = omega (arith, c.loop-row.auto.row-end, c.loop-row-test.false, is) in
    record {
      size = done.size ∙ ap (λ n. n * (3 * c.args.places)) all;
      at = λ b d k low digit small. done.at b d k (omega (arith, low, all)) digit small;
    }
