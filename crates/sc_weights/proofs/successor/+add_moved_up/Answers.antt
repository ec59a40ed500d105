use Rattle.std.proofs.Common.{◌≡◌, ℕ, ◌+◌, ◌-◌, ◌*◌, ◌^◌, ◌<◌, ◌≤◌, ◌∷◌, length, map, take, drop, sym, ◌∙◌, ap, subst, arith, pow-add}
use Rattle.std.proofs.lemmas.List.{length-map}
use Rattle.std.proofs.lemmas.Nat.{pow_pos}
use Rattle.sc_definitions.specs.Ring.{plus, times, minus}
use Rattle.sc_definitions.specs.Tables.{entries, equality_weight}
use Rattle.sc_definitions.specs.Shifts.{shifted}
use Rattle.sc_definitions.proofs.SuccessorLaws.{shifted-zero}
use Rattle.sc_definitions.proofs.TableLaws.{two_halves}
use Rattle.sc_table.proofs.BlockWeights.{IsSplit, split-weight}
use Rattle.sc_weights.proofs.Halves.{split-first, blocks-added, two_parts}
use Rattle.sc_weights.proofs.NextSteps.{moved-low, moved-high, last-row, last-none}
use Rattle.sc_weights.proofs.successor.+add_moved_up.Goals as goal

pub returns-in_default-clause-rows : goal.returns-in_default-clause-rows
returns-in_default-clause-rows g t c = λ a k low inside.
    let f = g.EF.Field in
    let rows = entries f.number c.args.rows.now in
    let new = entries f.number c.add_point.new.rows in
    let m = 2 ^ length c.args.selector.now in
    let up : ℕ → ℕ = shifted (f.number c.args.before) (λ b. times f.ops (f.number c.args.scale) (equality_weight f.ops (map f.number c.args.point.now) b)) in
    let v = equality_weight f.ops (map f.number c.args.selector.now) k in
    let none : length c.args.point.now ≡ 0 = omega (arith, c.in_default.len_below) in
    let first : a ≡ 0 = omega (arith, low, ap (λ n. 2 ^ n) none) in
    let row : k ≡ 0 * m + k = omega arith in
    let Goal : ℕ → Type 0 = λ b. new (b * m + k) ≡ plus f.ops (rows (b * m + k)) (times f.ops (up b) v) in
    subst Goal (sym first)
    (subst (λ n. new n ≡ plus f.ops (rows n) (times f.ops (up 0) v)) row
    (c.add_point.ensures k inside ∙ ap (λ s. plus f.ops (rows k) (times f.ops s v)) (sym (shifted-zero (f.number c.args.before) _))))

pub returns-in_default-clause-last : goal.returns-in_default-clause-last
returns-in_default-clause-last g t c =
    let f = g.EF.Field in
    let met = g.met.EF.Field in
    let point = c.args.point.now in
    last-none f.ops met.is_field.ring (f.number c.args.scale) (map f.number point) (omega (arith, c.in_default.len_below, length-map point f.number)) (met.number_below c.args.scale)
    ∙ ap (λ n. times f.ops (f.number c.args.scale) (equality_weight f.ops (map f.number point) (2 ^ n - 1))) (length-map point f.number)

pub returns-clause-rows : goal.returns-clause-rows
returns-clause-rows g t c = λ a k low inside.
    let f = g.EF.Field in
    let ring = g.met.EF.Field.is_field.ring in
    let point = c.args.point.now in
    let first = c.first-item.result in
    let rest = take (length point - 1) (drop 1 point) in
    let some : 1 ≤ length point = omega (arith, c.in-len1-up.len_at_least) in
    let split : point ≡ first ∷ rest = split-first point first some c.first-item.is in
    let zs = map f.number rest in
    let all = map f.number point in
    let mapped : all ≡ f.number first ∷ zs = ap (map f.number) split in
    let scale = f.number c.args.scale in
    let ss = map f.number c.args.selector.now in
    let q = 2 ^ length rest in
    let m = 2 ^ length c.args.selector.now in
    let sized : 2 ^ length zs ≡ q = ap (λ n. 2 ^ n) (length-map rest f.number) in
    let whole : q * m ≡ 2 ^ (length rest + length c.args.selector.now) = sym (pow-add 2 (length rest) (length c.args.selector.now)) in
    let halves : IsSplit f.ops (f.number first) (2 ^ length zs) (equality_weight f.ops zs) (equality_weight f.ops all) = split-weight f.ops ring (f.number first) zs all mapped in
    let all_rows : 2 ^ length point ≡ q + q = ap (λ l. 2 ^ length l) split ∙ two_halves (length rest) in
    let ones : f.number c.mul-at_one.result ≡ times f.ops scale (f.number first) = c.mul-at_one.ensures in
    let zeros : f.number c.sub.result ≡ minus f.ops scale (times f.ops scale (f.number first)) = c.sub.ensures ∙ ap (minus f.ops scale) ones in
    let before = f.number c.args.before in
    let between = f.number c.add_moved_up-between.result in
    let between_is : between ≡ times f.ops (minus f.ops scale (times f.ops scale (f.number first))) (equality_weight f.ops zs (2 ^ length zs - 1)) =
    c.add_moved_up-between.ensures.last ∙ ap (λ s. times f.ops s (equality_weight f.ops zs (q - 1))) zeros
    ∙ ap (λ n. times f.ops (minus f.ops scale (times f.ops scale (f.number first))) (equality_weight f.ops zs (n - 1))) (sym sized) in
    let v = equality_weight f.ops ss in
    let gain : ℕ → ℕ → ℕ = λ b e. times f.ops (shifted before (λ n. times f.ops scale (equality_weight f.ops all n)) b) (v e) in
    let low_gain : ℕ → ℕ → ℕ = λ b e. times f.ops (shifted before (λ n. times f.ops (f.number c.sub.result) (equality_weight f.ops zs n)) b) (v e) in
    let high_gain : ℕ → ℕ → ℕ = λ b e. times f.ops (shifted between (λ n. times f.ops (f.number c.mul-at_one.result) (equality_weight f.ops zs n)) b) (v e) in
    blocks-added f.ops f.number c.args.rows.now c.add_moved_up-between.new.rows c.add_moved_up.new.rows _ (2 ^ (length rest + length c.args.selector.now))
    (two_parts c.args.rows.now point c.args.selector.now c.requires some) c.add_moved_up-between.auto.rows c.add_moved_up.auto.rows q m whole gain low_gain high_gain
    c.add_moved_up-between.ensures.rows c.add_moved_up.ensures.rows
    (λ b e below. ap (λ s. times f.ops (shifted before (λ n. times f.ops s (equality_weight f.ops zs n)) b) (v e)) zeros
    ∙ ap (λ s. times f.ops s (v e)) (moved-low f.ops ring (f.number first) (2 ^ length zs) (equality_weight f.ops zs) (equality_weight f.ops all) halves scale before b (omega (arith, below, sized))))
    (λ b e below. ap (λ s. times f.ops (shifted between (λ n. times f.ops s (equality_weight f.ops zs n)) b) (v e)) ones
    ∙ ap (λ s. times f.ops s (v e)) (moved-high f.ops ring (f.number first) (2 ^ length zs) (equality_weight f.ops zs) (equality_weight f.ops all) halves scale before between b between_is (omega (arith, below, sized)))
    ∙ ap (λ n. gain (n + b) e) sized)
    a k (subst (λ n. a < n) all_rows low) inside

pub returns-clause-last : goal.returns-clause-last
returns-clause-last g t c =
    let f = g.EF.Field in
    let point = c.args.point.now in
    let first = c.first-item.result in
    let rest = take (length point - 1) (drop 1 point) in
    let split : point ≡ first ∷ rest = split-first point first (omega (arith, c.in-len1-up.len_at_least)) c.first-item.is in
    let zs = map f.number rest in
    let all = map f.number point in
    let scale = f.number c.args.scale in
    let whole : length all ≡ length point = length-map point f.number in
    let ring = g.met.EF.Field.is_field.ring in
    c.add_moved_up.ensures.last
    ∙ ap (λ s. times f.ops s (equality_weight f.ops zs (2 ^ length rest - 1))) c.mul-at_one.ensures
    ∙ ap (λ n. times f.ops (times f.ops scale (f.number first)) (equality_weight f.ops zs (2 ^ n - 1))) (sym (length-map rest f.number))
    ∙ last-row f.ops ring (f.number first) (2 ^ length zs) (equality_weight f.ops zs) (equality_weight f.ops all) (split-weight f.ops ring (f.number first) zs all (ap (map f.number) split)) scale (2 ^ length all)
    (pow_pos (length zs)) (ap (λ l. 2 ^ length (map f.number l)) split ∙ two_halves (length zs))
    ∙ ap (λ n. times f.ops scale (equality_weight f.ops all (2 ^ n - 1))) whole
