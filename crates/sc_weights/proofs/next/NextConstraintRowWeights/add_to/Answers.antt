use Rattle.std.proofs.Common.{◌≡◌, ℕ, ◌+◌, ◌*◌, ◌^◌, length, map, sym, ◌∙◌, ap, arith, pow-add}
use Rattle.std.proofs.lemmas.List.{length-map}
use Rattle.std.proofs.Math.Nat.{add_comm}
use Rattle.sc_definitions.specs.Ring.{times}
use Rattle.sc_definitions.specs.Tables.{entries}
use Rattle.sc_definitions.specs.Statements.{successor, weight_of}
use Rattle.sc_table.specs.Polys.{table_of}
use Rattle.sc_table.specs.Strategy.{order_of}
use Rattle.sc_weights.proofs.Written.{added-table, few-coordinates, block-is}
use Rattle.sc_weights.proofs.NextReads.{parts-sum, rows-prefix, rows-suffix}
use Rattle.sc_weights.proofs.next.NextConstraintRowWeights.add_to.Goals as goal

pub overflow_shr-block : goal.overflow_shr-block
overflow_shr-block g c =
    let self = c.args.self.now in
    let sum = parts-sum g.EF.Field.number self.selector self.point c.as_slice-selector.result.now c.as_slice-point.result.now c.args.table.now.variables
    c.as_slice-selector.ensures c.as_slice-point.ensures c.requires in
    few-coordinates c.args.table.now.variables (length c.as_slice-point.result.now) (length c.as_slice-selector.result.now) c.num_evals.result sum c.num_evals.ensures c.num_evals.type_inv

pub add_successor-requires-clause-block : goal.add_successor-requires-clause-block
add_successor-requires-clause-block g c =
    let self = c.args.self.now in
    let sum = parts-sum g.EF.Field.number self.selector self.point c.as_slice-selector.result.now c.as_slice-point.result.now c.args.table.now.variables
    c.as_slice-selector.ensures c.as_slice-point.ensures c.requires in
    block-is c.args.table.now.variables (length c.as_slice-point.result.now) (length c.as_slice-selector.result.now) c.num_evals.result sum c.num_evals.ensures

pub returns-in-Prefix-clause-table : goal.returns-in-Prefix-clause-table
returns-in-Prefix-clause-table g c =
    let f = g.EF.Field in
    let self = c.args.self.now in
    let lent = c.as_mut_slice-rows.ensures in
    let scale = f.number c.args.scale in
    let n = c.args.table.now.variables in
    let selector = c.as_slice-selector.result.now in
    let point = c.as_slice-point.result.now in
    let ss = map f.number selector in
    let zs = map f.number point in
    let sum : length point + length selector ≡ n = parts-sum f.number self.selector self.point selector point n c.as_slice-selector.ensures c.as_slice-point.ensures c.requires in
    let m = 2 ^ length point in
    let width : m ≡ 2 ^ length zs = ap (λ k. 2 ^ k) (sym (length-map point f.number)) in
    let tall : 2 ^ length ss ≡ 2 ^ length selector = ap (λ k. 2 ^ k) (length-map selector f.number) in
    let whole : 2 ^ n ≡ 2 ^ length ss * m = ap (λ k. 2 ^ k) (sym sum ∙ add_comm (length point) (length selector)) ∙ pow-add 2 (length selector) (length point) ∙ ap (λ k. k * m) (sym tall) in
    let rows : ℕ → ℕ = entries f.number c.as_mut_slice-rows.result.now in
    let new : ℕ → ℕ = entries f.number c.add_slots.new.rows in
    let order = order_of self.var_order in
    let gain : ℕ → ℕ = λ b. times f.ops scale (weight_of f.ops (successor order ss zs) b) in
    added-table f.ops (2 ^ n) _ new rows (table_of f.number c.args.table.now) gain
    (λ b. times f.ops scale (weight_of f.ops (successor order (map f.number self.selector) (map f.number self.point)) b))
    (lent.written c.add_slots.new.rows (c.add_slots.auto.rows ∙ lent.size)) lent.numbers
    (λ b low. rows-prefix f.ops g.met.EF.Field.is_field.ring order ss zs scale m rows new (ap order_of c.in-Prefix.is) width
    (λ a k la lk. c.add_slots.ensures a k (omega (arith, la, tall)) lk) b (omega (arith, low, whole)))
    (λ b _. ap (λ l. times f.ops scale (weight_of f.ops (successor order (map f.number l) zs) b)) c.as_slice-selector.ensures
    ∙ ap (λ l. times f.ops scale (weight_of f.ops (successor order (map f.number self.selector) (map f.number l)) b)) c.as_slice-point.ensures)

pub returns-in-Suffix-clause-table : goal.returns-in-Suffix-clause-table
returns-in-Suffix-clause-table g c =
    let f = g.EF.Field in
    let self = c.args.self.now in
    let lent = c.as_mut_slice-rows.ensures in
    let scale = f.number c.args.scale in
    let n = c.args.table.now.variables in
    let selector = c.as_slice-selector.result.now in
    let point = c.as_slice-point.result.now in
    let ss = map f.number selector in
    let zs = map f.number point in
    let sum : length point + length selector ≡ n = parts-sum f.number self.selector self.point selector point n c.as_slice-selector.ensures c.as_slice-point.ensures c.requires in
    let m = 2 ^ length selector in
    let width : m ≡ 2 ^ length ss = ap (λ k. 2 ^ k) (sym (length-map selector f.number)) in
    let tall : 2 ^ length zs ≡ 2 ^ length point = ap (λ k. 2 ^ k) (length-map point f.number) in
    let whole : 2 ^ n ≡ 2 ^ length zs * m = ap (λ k. 2 ^ k) (sym sum) ∙ pow-add 2 (length point) (length selector) ∙ ap (λ k. k * m) (sym tall) in
    let rows : ℕ → ℕ = entries f.number c.as_mut_slice-rows.result.now in
    let new : ℕ → ℕ = entries f.number c.add_successor.new.rows in
    let order = order_of self.var_order in
    let gain : ℕ → ℕ = λ b. times f.ops scale (weight_of f.ops (successor order ss zs) b) in
    added-table f.ops (2 ^ n) _ new rows (table_of f.number c.args.table.now) gain
    (λ b. times f.ops scale (weight_of f.ops (successor order (map f.number self.selector) (map f.number self.point)) b))
    (lent.written c.add_successor.new.rows (c.add_successor.auto.rows ∙ lent.size)) lent.numbers
    (λ b low. rows-suffix f.ops g.met.EF.Field.is_field.ring order ss zs scale m rows new (ap order_of c.in-Suffix.is) width
    (λ a k la lk. c.add_successor.ensures a k (omega (arith, la, tall)) lk) b (omega (arith, low, whole)))
    (λ b _. ap (λ l. times f.ops scale (weight_of f.ops (successor order (map f.number l) zs) b)) c.as_slice-selector.ensures
    ∙ ap (λ l. times f.ops scale (weight_of f.ops (successor order (map f.number self.selector) (map f.number l)) b)) c.as_slice-point.ensures)
