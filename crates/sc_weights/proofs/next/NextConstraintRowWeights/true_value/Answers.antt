use Rattle.std.proofs.Common.{◌≡◌, ℕ, ◌+◌, length, map, sym, ◌∙◌, ap}
use Rattle.std.proofs.lemmas.List.{length-map}
use Rattle.sc_definitions.specs.Tables.{entries}
use Rattle.sc_definitions.specs.Statements.{successor, true_value}
use Rattle.sc_definitions.proofs.Lengths.{pow-same}
use Rattle.sc_table.specs.Strategy.{order_of}
use Rattle.sc_weights.proofs.Written.{few-coordinates, block-is}
use Rattle.sc_weights.proofs.NextReads.{parts-sum, true-prefix, true-suffix}
use Rattle.sc_weights.proofs.next.NextConstraintRowWeights.true_value.Goals as goal

pub overflow_shr-block : goal.overflow_shr-block
overflow_shr-block g c =
    let self = c.args.self.now in
    let n = c.requires.0 in
    let sum = parts-sum g.EF.Field.number self.selector self.point c.as_slice-selector.result.now c.as_slice-point.result.now n
    c.as_slice-selector.ensures c.as_slice-point.ensures c.requires.1.1 in
    few-coordinates n (length c.as_slice-point.result.now) (length c.as_slice-selector.result.now) (length c.args.rows.now) sum c.requires.1.0 c.well_formed.1.0.0

pub successor_value-requires-clause-block : goal.successor_value-requires-clause-block
successor_value-requires-clause-block g c =
    let self = c.args.self.now in
    let n = c.requires.0 in
    let sum = parts-sum g.EF.Field.number self.selector self.point c.as_slice-selector.result.now c.as_slice-point.result.now n
    c.as_slice-selector.ensures c.as_slice-point.ensures c.requires.1.1 in
    block-is n (length c.as_slice-point.result.now) (length c.as_slice-selector.result.now) (length c.args.rows.now) sum c.requires.1.0

pub returns-in-Prefix : goal.returns-in-Prefix
returns-in-Prefix g c n size =
    let f = g.EF.Field in
    let self = c.args.self.now in
    let selector = c.as_slice-selector.result.now in
    let point = c.as_slice-point.result.now in
    let ss = map f.number selector in
    let zs = map f.number point in
    let p = length point in
    let order = order_of self.var_order in
    let table : ℕ → ℕ = λ b. g.EF.Algebra.embedding (entries g.A.Field.number c.args.rows.now b) in
    let sum : p + length selector ≡ n =
    parts-sum f.number self.selector self.point selector point c.requires.0 c.as_slice-selector.ensures c.as_slice-point.ensures c.requires.1.1
    ∙ pow-same c.requires.0 n (sym c.requires.1.0 ∙ size) in
    c.slots_value.ensures
    ∙ true-prefix f.ops g.met.EF.Field.is_field.ring order ss zs table p n (ap order_of c.in-Prefix.is) (sym (length-map point f.number)) (ap (λ k. p + k) (length-map selector f.number) ∙ sum)
    ∙ ap (λ l. true_value f.ops n table (successor order (map f.number l) zs)) c.as_slice-selector.ensures
    ∙ ap (λ l. true_value f.ops n table (successor order (map f.number self.selector) (map f.number l))) c.as_slice-point.ensures

pub returns-in-Suffix : goal.returns-in-Suffix
returns-in-Suffix g c n size =
    let f = g.EF.Field in
    let self = c.args.self.now in
    let selector = c.as_slice-selector.result.now in
    let point = c.as_slice-point.result.now in
    let ss = map f.number selector in
    let zs = map f.number point in
    let p = length point in
    let k = length selector in
    let order = order_of self.var_order in
    let table : ℕ → ℕ = λ b. g.EF.Algebra.embedding (entries g.A.Field.number c.args.rows.now b) in
    let sum : p + k ≡ n =
    parts-sum f.number self.selector self.point selector point c.requires.0 c.as_slice-selector.ensures c.as_slice-point.ensures c.requires.1.1
    ∙ pow-same c.requires.0 n (sym c.requires.1.0 ∙ size) in
    c.successor_value.ensures
    ∙ true-suffix f.ops g.met.EF.Field.is_field.ring order ss zs table p k n (ap order_of c.in-Suffix.is) (sym (length-map point f.number)) (sym (length-map selector f.number)) sum
    ∙ ap (λ l. true_value f.ops n table (successor order (map f.number l) zs)) c.as_slice-selector.ensures
    ∙ ap (λ l. true_value f.ops n table (successor order (map f.number self.selector) (map f.number l))) c.as_slice-point.ensures
