use Rattle.std.proofs.Common.{◌≡◌, ℕ, ◌+◌, ◌-◌, ◌*◌, ◌^◌, ◌<◌, ◌≤◌, ◌∷◌, length, map, take, drop, sym, ◌∙◌, ap, subst, arith, pow-add}
use Rattle.std.proofs.lemmas.List.{length-map}
use Rattle.sc_definitions.specs.Ring.{plus, times, minus}
use Rattle.sc_definitions.specs.Tables.{entries, equality_weight}
use Rattle.sc_definitions.specs.Statements.{successor_weight}
use Rattle.sc_definitions.proofs.TableLaws.{two_halves}
use Rattle.sc_weights.proofs.Halves.{split-first, blocks-added, two_parts}
use Rattle.sc_weights.proofs.NextSteps.{slot-none, slot-low, slot-high}
use Rattle.sc_weights.proofs.next.+add_slots_by_halves.Goals as goal

pub returns-in_default : goal.returns-in_default
returns-in_default g t c = λ a k low inside.
    let f = g.EF.Field in
    let rows = entries f.number c.args.rows.now in
    let new = entries f.number c.add_successor.new.rows in
    let selector = c.args.selector.now in
    let m = 2 ^ length c.args.point.now in
    let scale = f.number c.args.scale in
    let u = successor_weight f.ops (map f.number c.args.point.now) k in
    let none : length selector ≡ 0 = omega (arith, c.in_default.len_below) in
    let first : a ≡ 0 = omega (arith, low, ap (λ n. 2 ^ n) none) in
    let row : k * 2 ^ 0 + 0 ≡ a * m + k = omega (arith, ap (λ n. n * m) first) in
    subst (λ n. new n ≡ plus f.ops (rows n) (times f.ops scale (times f.ops (equality_weight f.ops (map f.number selector) a) u))) row
    (c.add_successor.ensures k 0 inside (omega arith)
    ∙ ap (plus f.ops (rows (k * 2 ^ 0 + 0))) (slot-none f.ops g.met.EF.Field.is_field.ring scale u a (map f.number selector) (omega (arith, none, length-map selector f.number))))

pub returns : goal.returns
returns g t c = λ a k low inside.
    let f = g.EF.Field in
    let ring = g.met.EF.Field.is_field.ring in
    let selector = c.args.selector.now in
    let first = c.first-item.result in
    let rest = take (length selector - 1) (drop 1 selector) in
    let some : 1 ≤ length selector = omega (arith, c.in-len1-up.len_at_least) in
    let split : selector ≡ first ∷ rest = split-first selector first some c.first-item.is in
    let ss = map f.number rest in
    let all = map f.number selector in
    let mapped : all ≡ f.number first ∷ ss = ap (map f.number) split in
    let scale = f.number c.args.scale in
    let u = successor_weight f.ops (map f.number c.args.point.now) in
    let q = 2 ^ length rest in
    let m = 2 ^ length c.args.point.now in
    let sized : 2 ^ length ss ≡ q = ap (λ n. 2 ^ n) (length-map rest f.number) in
    let whole : q * m ≡ 2 ^ (length rest + length c.args.point.now) = sym (pow-add 2 (length rest) (length c.args.point.now)) in
    let all_rows : 2 ^ length selector ≡ q + q = ap (λ l. 2 ^ length l) split ∙ two_halves (length rest) in
    let ones : f.number c.mul-at_one.result ≡ times f.ops scale (f.number first) = c.mul-at_one.ensures in
    let zeros : f.number c.sub.result ≡ minus f.ops scale (times f.ops scale (f.number first)) = c.sub.ensures ∙ ap (minus f.ops scale) ones in
    let gain : ℕ → ℕ → ℕ = λ b e. times f.ops scale (times f.ops (equality_weight f.ops all b) (u e)) in
    let low_gain : ℕ → ℕ → ℕ = λ b e. times f.ops (f.number c.sub.result) (times f.ops (equality_weight f.ops ss b) (u e)) in
    let high_gain : ℕ → ℕ → ℕ = λ b e. times f.ops (f.number c.mul-at_one.result) (times f.ops (equality_weight f.ops ss b) (u e)) in
    blocks-added f.ops f.number c.args.rows.now c.add_slots_by_halves.new.rows c.add_slots_by_halves-2.new.rows _ (2 ^ (length rest + length c.args.point.now))
    (two_parts c.args.rows.now selector c.args.point.now c.requires some) c.add_slots_by_halves.auto.rows c.add_slots_by_halves-2.auto.rows q m whole gain low_gain high_gain
    c.add_slots_by_halves.ensures c.add_slots_by_halves-2.ensures
    (λ b e below. ap (λ s. times f.ops s (times f.ops (equality_weight f.ops ss b) (u e))) zeros ∙ slot-low f.ops ring (f.number first) ss all mapped scale (u e) b (omega (arith, below, sized)))
    (λ b e below. ap (λ s. times f.ops s (times f.ops (equality_weight f.ops ss b) (u e))) ones ∙ slot-high f.ops ring (f.number first) ss all mapped scale (u e) b (omega (arith, below, sized))
    ∙ ap (λ n. gain (n + b) e) sized)
    a k (subst (λ n. a < n) all_rows low) inside
