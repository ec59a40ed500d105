use Rattle.std.proofs.Common.{rules, ◌≡◌, ℕ, suc, ◌+◌, ◌-◌, ◌*◌, ◌^◌, ◌<◌, ◌≤◌, ◌++◌, length, map, take, drop, refl, sym, ◌∙◌, ap, subst, arith, ⊎_elim, pow-add}
use Rattle.std.proofs.lemmas.Bool.{cases_eq}
use Rattle.std.proofs.lemmas.Nat.{mul-le, pow_pos}
use Rattle.std.proofs.lemmas.List.{length-map}
use Rattle.sc_definitions.specs.Ring.{plus, times}
use Rattle.sc_definitions.specs.Tables.{entries, equality_weight}
use Rattle.sc_definitions.specs.Shifts.{shifted}
use Rattle.sc_definitions.specs.Statements.{successor_weight}
use Rattle.sc_table.specs.Blocks.{block_weight}
use Rattle.sc_table.proofs.BlockWeights.{ends-size, ends-inner, ends-joined, blocks-joined}
use Rattle.sc_weights.specs.Moved.{moved_up}
use Rattle.sc_weights.proofs.Halves.{before-end, in-end, end-given, end-length, block-fits, last-of, eight-few, rows-few}
use Rattle.sc_weights.proofs.NextSteps.{gains-moved, gains-both, up-same, moved-rows, last-rows}
use Rattle.sc_weights.proofs.successor.add_successor_by_blocks.Goals as goal

pub add_moved_blocks-stays-requires-clause-size : goal.add_moved_blocks-stays-requires-clause-size
add_moved_blocks-stays-requires-clause-size g c =
    let of = g.EF.Field.number in
    let point = c.args.point.now in
    let selector = c.args.selector.now in
    let outer = c.split_at.result.0.now in
    let weights = c.joined_block_weights-joined.result in
    let parted = c.split_at.ensures in
    let many : length weights ≡ 256 = search rules in
    let long : 8 ≤ length point + length selector = eight-few (length c.args.rows.now) (length point + length selector) c.requires.long c.requires.size in
    c.requires.size ∙ ends-size of point selector outer c.split_at.result.1.now weights c.requires.short long parted.front parted.back many
    ∙ ap (λ k. 2 ^ k * length weights) (length-map outer of)

pub add_scaled-requires : goal.add_scaled-requires
add_scaled-requires g c =
    let N = length c.args.rows.now in
    let weights = c.joined_block_weights-joined.result in
    let many : length weights ≡ 256 = search rules in
    let fits = block-fits (length c.args.point.now) (length c.args.selector.now) N c.args.block c.requires.size c.requires.block in
    let few = rows-few (length c.args.selector.now) (length weights) c.args.block c.requires.short many c.requires.block in
    end-length c.add_moved_blocks-stays.new.rows N c.args.block c.add_moved_blocks-stays.auto.rows fits ∙ sym (end-length weights (length weights) c.args.block refl few)

pub returns : goal.returns
returns g c = λ a e low below.
    let f = g.EF.Field in
    let met = g.met.EF.Field in
    let ring = met.is_field.ring in
    let rows = entries f.number c.args.rows.now in
    let point = c.args.point.now in
    let selector = c.args.selector.now in
    let outer = c.split_at.result.0.now in
    let inner = c.split_at.result.1.now in
    let weights = c.joined_block_weights-joined.result in
    let n = length weights in
    let w = entries f.number weights in
    let parted = c.split_at.ensures in
    let many : n ≡ 256 = search rules in
    let N = length c.args.rows.now in
    let p = length point in
    let k = length selector in
    let q = 2 ^ p in
    let m = 2 ^ k in
    let long : 8 ≤ p + k = eight-few N (p + k) c.requires.long c.requires.size in
    let zs = map f.number point in
    let ss = map f.number selector in
    let outers = map f.number outer in
    let inners = map f.number inner ++ ss in
    let scale = f.number c.args.scale in
    let sel : 2 ^ length ss ≡ m = ap (λ i. 2 ^ i) (length-map selector f.number) in
    let tall : 2 ^ length zs ≡ q = ap (λ i. 2 ^ i) (length-map point f.number) in
    let whole : N ≡ q * m = c.requires.size ∙ pow-add 2 p k in
    let size : N ≡ 2 ^ length outers * n = c.requires.size ∙ ends-size f.number point selector outer inner weights c.requires.short long parted.front parted.back many in
    let width : n ≡ 2 ^ length inners = ends-inner f.number point selector outer inner weights c.requires.short long parted.front parted.back many in
    let joined : outers ++ inners ≡ zs ++ ss = ends-joined f.number point selector outer inner weights c.requires.short long parted.front parted.back many in
    let inner_is : (i : ℕ) → i < n → w i ≡ equality_weight f.ops inners i = λ i under. c.joined_block_weights-joined.ensures i (subst (λ j. i < j) many under) in
    let all = block_weight f.ops outers n w in
    let all_is : (b : ℕ) → b < N → times f.ops scale (all b) ≡ times f.ops scale (equality_weight f.ops (zs ++ ss) b) = λ b inside.
    ap (times f.ops scale) (blocks-joined f.ops ring outers inners n width w inner_is b (subst (λ j. b < j) size inside) ∙ ap (λ l. equality_weight f.ops l b) joined) in
    let moved = c.add_moved_blocks-stays.new.rows in
    let ending = c.add_scaled.new.rows in
    let at = N - c.args.block in
    let fits = block-fits p k N c.args.block c.requires.size c.requires.block in
    let whole' : (q - 1) * m + m ≡ q * m = last-of q m (pow_pos p) in
    let start : at ≡ (q - 1) * m = omega (arith, whole, whole', c.requires.block) in
    let moved_size : length moved ≡ N = c.add_moved_blocks-stays.auto.rows in
    let inside : at ≤ length moved = omega (arith, moved_size) in
    let ends : length ending ≡ m = c.add_scaled.auto.rows ∙ end-length moved N c.args.block moved_size fits ∙ c.requires.block in
    let v = equality_weight f.ops ss e in
    let zero : f.number c.ZERO.result ≡ 0 = ap f.number c.ZERO.ensures ∙ met.zero_is in
    let up : ℕ → ℕ = shifted 0 (λ b. times f.ops scale (equality_weight f.ops zs b)) in
    let row_low : a * m + e < N = omega (arith, mul-le (suc a) m q m low (omega arith), whole, below) in
    let narrow : c.args.block ≡ 2 ^ length ss = c.requires.block ∙ sym sel in
    let g0 : ℕ → ℕ = λ j. w (n - c.args.block + j) in
    let gained : entries f.number moved (a * m + e) ≡ plus f.ops (rows (a * m + e)) (times f.ops (up a) v) =
    c.add_moved_blocks-stays.ensures.rows (a * m + e) row_low
    ∙ ap (plus f.ops (rows (a * m + e))) (up-same c.args.block (λ j. times f.ops (f.number c.ZERO.result) (g0 j)) (λ j. times f.ops 0 (g0 j)) (λ b. times f.ops scale (all b))
    (λ b. times f.ops scale (equality_weight f.ops (zs ++ ss) b)) N (a * m + e) (λ j _. ap (λ i. times f.ops i (g0 j)) zero) all_is row_low)
    ∙ ap (λ s. plus f.ops (rows (a * m + e)) (moved_up s (λ j. times f.ops 0 (g0 j)) (λ b. times f.ops scale (equality_weight f.ops (zs ++ ss) b)) (a * m + e))) narrow
    ∙ ap (λ s. plus f.ops (rows (a * m + e)) (moved_up (2 ^ length ss) (λ j. times f.ops 0 (g0 j)) (λ b. times f.ops scale (equality_weight f.ops (zs ++ ss) b)) (a * s + e))) (sym sel)
    ∙ moved-rows f.ops ring (rows (a * m + e)) scale zs ss g0 a e (omega (arith, low, tall)) (omega (arith, below, sel)) in
    ⊎_elim
    (λ last.
    let back : q - 1 ≡ a = sym last in
    let row : at + e ≡ a * m + e = ap (λ i. i + e) start ∙ ap (λ i. i * m + e) back in
    let few : c.args.block ≤ n = rows-few k n c.args.block c.requires.short many c.requires.block in
    let stays_is = c.add_moved_blocks-stays.ensures.last ∙ ap (λ i. times f.ops scale (equality_weight f.ops outers (2 ^ i - 1))) (sym (length-map outer f.number)) in
    let tail : times f.ops (f.number c.add_moved_blocks-stays.result) (g0 e) ≡ times f.ops (times f.ops scale (equality_weight f.ops zs (2 ^ length zs - 1))) v =
    last-rows f.ops ring scale (f.number c.add_moved_blocks-stays.result) n c.args.block w outers inners zs ss (omega (arith, many)) width narrow few inner_is joined
    (ap (λ i. i * c.args.block) tall ∙ ap (λ i. q * i) c.requires.block ∙ sym whole ∙ size) stays_is e (omega (arith, below, c.requires.block)) in
    in-end f.number moved ending _ at inside (a * m + e) e row (omega (arith, ends, below))
    ∙ c.add_scaled.ensures e (omega (arith, below, end-length moved N c.args.block moved_size fits, c.requires.block))
    ∙ ap (λ i. plus f.ops i (times f.ops (f.number c.add_moved_blocks-stays.result) (entries f.number (take (n - (n - c.args.block)) (drop (n - c.args.block) weights)) e)))
    (end-given f.number moved at (length moved - at) e (omega (arith, moved_size, fits, c.requires.block, below)) ∙ ap (entries f.number moved) row ∙ gained)
    ∙ ap (λ i. plus f.ops (plus f.ops (rows (a * m + e)) (times f.ops (up a) v)) (times f.ops (f.number c.add_moved_blocks-stays.result) i))
    (end-given f.number weights (n - c.args.block) (n - (n - c.args.block)) e (omega (arith, few, below, c.requires.block)))
    ∙ ap (plus f.ops (plus f.ops (rows (a * m + e)) (times f.ops (up a) v))) tail
    ∙ ap (λ i. plus f.ops (plus f.ops (rows (a * m + e)) (times f.ops (up i) v)) (times f.ops (times f.ops scale (equality_weight f.ops zs (2 ^ length zs - 1))) v)) (last ∙ ap (λ i. i - 1) (sym tall))
    ∙ gains-both f.ops ring (rows (a * m + e)) scale zs v (times f.ops scale (equality_weight f.ops zs (2 ^ length zs - 1))) refl
    ∙ ap (λ i. plus f.ops (rows (a * m + e)) (times f.ops scale (times f.ops (successor_weight f.ops zs i) v))) (ap (λ i. i - 1) tall ∙ back))
    (λ other.
    let less : suc a ≤ q - 1 = omega (arith, other, low) in
    let before : a * m + e < at = omega (arith, mul-le (suc a) m (q - 1) m less (omega arith), start, below) in
    before-end f.number moved ending _ at inside (a * m + e) before ∙ gained
    ∙ gains-moved f.ops ring (rows (a * m + e)) scale zs v a (omega (arith, low, tall)) (λ i. other (i ∙ ap (λ j. j - 1) tall)))
    (cases_eq a (q - 1))
