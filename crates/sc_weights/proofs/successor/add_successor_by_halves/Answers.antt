use Rattle.std.proofs.Common.{◌≡◌, ℕ, suc, ◌+◌, ◌-◌, ◌*◌, ◌^◌, ◌<◌, ◌≤◌, length, map, sym, ◌∙◌, ap, arith, ⊎_elim, pow-add}
use Rattle.std.proofs.lemmas.Bool.{cases_eq}
use Rattle.std.proofs.lemmas.Nat.{mul-le, pow_pos}
use Rattle.std.proofs.lemmas.List.{length-map}
use Rattle.sc_definitions.specs.Ring.{plus, times}
use Rattle.sc_definitions.specs.Tables.{entries, equality_weight}
use Rattle.sc_definitions.specs.Shifts.{shifted}
use Rattle.sc_definitions.specs.Statements.{successor_weight}
use Rattle.sc_weights.proofs.Halves.{before-end, in-end, end-given, end-length, block-fits, last-of}
use Rattle.sc_weights.proofs.NextSteps.{gains-moved, gains-both}
use Rattle.sc_weights.proofs.successor.add_successor_by_halves.Goals as goal

pub overflow_sub-last : goal.overflow_sub-last
overflow_sub-last g c = block-fits (length c.args.point.now) (length c.args.selector.now) _ _ c.requires.size c.requires.block

pub add_moved_up-stays-requires : goal.add_moved_up-stays-requires
add_moved_up-stays-requires g c = c.requires.size

pub add_point-requires : goal.add_point-requires
add_point-requires g c =
    end-length c.add_moved_up-stays.new.rows (length c.args.rows.now) c.args.block c.add_moved_up-stays.auto.rows
    (block-fits (length c.args.point.now) (length c.args.selector.now) _ _ c.requires.size c.requires.block) ∙ c.requires.block

pub returns : goal.returns
returns g c = λ a e low below.
    let f = g.EF.Field in
    let ring = g.met.EF.Field.is_field.ring in
    let point = c.args.point.now in
    let selector = c.args.selector.now in
    let p = length point in
    let k = length selector in
    let q = 2 ^ p in
    let m = 2 ^ k in
    let zs = map f.number point in
    let sized : 2 ^ length zs ≡ q = ap (λ n. 2 ^ n) (length-map point f.number) in
    let scale = f.number c.args.scale in
    let rows = entries f.number c.args.rows.now in
    let moved = c.add_moved_up-stays.new.rows in
    let ending = c.add_point.new.rows in
    let at = length c.args.rows.now - c.args.block in
    let fits = block-fits (length c.args.point.now) (length c.args.selector.now) _ _ c.requires.size c.requires.block in
    let whole : length c.args.rows.now ≡ q * m = c.requires.size ∙ pow-add 2 p k in
    let whole' : (q - 1) * m + m ≡ q * m = last-of q m (pow_pos p) in
    let start : at ≡ (q - 1) * m = omega (arith, whole, whole', c.requires.block) in
    let inside : at ≤ length moved = omega (arith, c.add_moved_up-stays.auto.rows) in
    let size : length ending ≡ m = c.add_point.auto.rows ∙ end-length moved (length c.args.rows.now) c.args.block c.add_moved_up-stays.auto.rows fits ∙ c.requires.block in
    let v = equality_weight f.ops (map f.number selector) e in
    let none : f.number c.ZERO.result ≡ 0 = ap f.number c.ZERO.ensures ∙ g.met.EF.Field.zero_is in
    let up : ℕ → ℕ = shifted 0 (λ b. times f.ops scale (equality_weight f.ops zs b)) in
    let gained : entries f.number moved (a * m + e) ≡ plus f.ops (rows (a * m + e)) (times f.ops (up a) v) =
    c.add_moved_up-stays.ensures.rows a e low below ∙ ap (λ z. plus f.ops (rows (a * m + e)) (times f.ops (shifted z (λ b. times f.ops scale (equality_weight f.ops zs b)) a) v)) none in
    ⊎_elim
    (λ last.
    let back : q - 1 ≡ a = sym last in
    let row : at + e ≡ a * m + e = ap (λ n. n + e) start ∙ ap (λ n. n * m + e) back in
    in-end f.number moved ending _ at inside (a * m + e) e row (omega (arith, size, below))
    ∙ c.add_point.ensures e below
    ∙ ap (λ n. plus f.ops n (times f.ops (f.number c.add_moved_up-stays.result) v)) (end-given f.number moved at (length moved - at) e (omega (arith, c.add_moved_up-stays.auto.rows, fits, c.requires.block, below)) ∙ ap (entries f.number moved) row ∙ gained)
    ∙ ap (λ n. plus f.ops (plus f.ops (rows (a * m + e)) (times f.ops (up n) v)) (times f.ops (f.number c.add_moved_up-stays.result) v)) (last ∙ ap (λ n. n - 1) (sym sized))
    ∙ gains-both f.ops ring (rows (a * m + e)) scale zs v (f.number c.add_moved_up-stays.result) (c.add_moved_up-stays.ensures.last ∙ ap (λ n. times f.ops scale (equality_weight f.ops zs (n - 1))) (sym sized))
    ∙ ap (λ n. plus f.ops (rows (a * m + e)) (times f.ops scale (times f.ops (successor_weight f.ops zs n) v))) (ap (λ n. n - 1) sized ∙ back))
    (λ other.
    let less : suc a ≤ q - 1 = omega (arith, other, low) in
    let before : a * m + e < at = omega (arith, mul-le (suc a) m (q - 1) m less (omega arith), start, below) in
    before-end f.number moved ending _ at inside (a * m + e) before ∙ gained
    ∙ gains-moved f.ops ring (rows (a * m + e)) scale zs v a (omega (arith, low, sized)) (λ i. other (i ∙ ap (λ n. n - 1) sized)))
    (cases_eq a (q - 1))
