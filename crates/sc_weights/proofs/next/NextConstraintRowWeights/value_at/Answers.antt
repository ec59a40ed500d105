use Rattle.std.proofs.Common.{◌≡◌, ◌+◌, length, map, sym, ◌∙◌, ap, arith}
use Rattle.std.proofs.lemmas.List.{length-map}
use Rattle.sc_definitions.specs.Ring.{times}
use Rattle.sc_definitions.specs.Tables.{equality_weight, value_in}
use Rattle.sc_definitions.specs.Statements.{successor_weight, successor, weight_of}
use Rattle.sc_table.specs.Strategy.{basis_of, order_of}
use Rattle.sc_weights.proofs.NextReads.{at-prefix, at-suffix, row-parts, parts-sum}
use Rattle.sc_weights.proofs.next.NextConstraintRowWeights.value_at.Goals as goal
use Rattle.sc_weights.proofs.next.NextConstraintRowWeights.value_at.Goals.{in-Prefix, in-Suffix}

pub returns : goal.returns
returns g c =
    let f = g.EF.Field in
    let ring = g.met.EF.Field.is_field.ring in
    let self = c.args.self.now in
    let selector = c.as_slice-selector.result.now in
    let point = c.as_slice-point.result.now in
    let row = c.args.row.now in
    let ss = map f.number selector in
    let zs = map f.number point in
    let order = order_of self.var_order in
    let basis = basis_of c.args.basis in
    let sum : length point + length selector ≡ length row = parts-sum f.number self.selector self.point selector point (length row) c.as_slice-selector.ensures c.as_slice-point.ensures c.requires in
    let product : f.number c.mul.result ≡ times f.ops (f.number c.equality_in.result) (f.number c.successor_in.result) = c.mul.ensures in
    let own : value_in basis f.ops (weight_of f.ops (successor order ss zs)) (map f.number row)
    ≡ value_in basis f.ops (weight_of f.ops (successor order (map f.number self.selector) (map f.number self.point))) (map f.number row) =
    ap (λ l. value_in basis f.ops (weight_of f.ops (successor order (map f.number l) zs)) (map f.number row)) c.as_slice-selector.ensures
    ∙ ap (λ l. value_in basis f.ops (weight_of f.ops (successor order (map f.number self.selector) (map f.number l))) (map f.number row)) c.as_slice-point.ensures in
    elim c.match-self.branch [
      | in-Prefix w ↦
          let slot = w.split_at.result.0.now in
          let rest = w.split_at.result.1.now in
          let same : w.as_slice.result.now ≡ row = w.as_slice.ensures in
          let first : length ss ≡ length (map f.number slot) =
          length-map selector f.number ∙ sym (length-map slot f.number ∙ w.split_at.ensures.front_len) in
          let second : length zs ≡ length (map f.number rest) =
          omega (arith, length-map point f.number, length-map rest f.number, w.split_at.ensures.back_len, ap length same, sum) in
          let equal : f.number c.equality_in.result ≡ value_in basis f.ops (equality_weight f.ops ss) (map f.number slot) =
          c.equality_in.ensures ∙ ap (λ t. value_in basis f.ops (equality_weight f.ops ss) (map f.number t.0.now)) w.t-15-is in
          let next : f.number c.successor_in.result ≡ value_in basis f.ops (successor_weight f.ops zs) (map f.number rest) =
          c.successor_in.ensures ∙ ap (λ t. value_in basis f.ops (successor_weight f.ops zs) (map f.number t.1.now)) w.t-15-is in
          product ∙ at-prefix f.ops ring order ss zs basis (map f.number slot) (map f.number rest) (map f.number row) _ _ (ap order_of w.in-Prefix.is)
          (ap (map f.number) (sym same) ∙ row-parts f.number w.as_slice.result.now slot rest (length selector) w.split_at.ensures.front w.split_at.ensures.back) first second equal next ∙ own
      | in-Suffix w ↦
          let rest = w.split_at-in-Suffix.result.0.now in
          let slot = w.split_at-in-Suffix.result.1.now in
          let same : w.as_slice-in-Suffix.result.now ≡ row = w.as_slice-in-Suffix.ensures in
          let first : length ss ≡ length (map f.number slot) =
          omega (arith, length-map selector f.number, length-map slot f.number, w.split_at-in-Suffix.ensures.back_len, ap length same, sum) in
          let second : length zs ≡ length (map f.number rest) =
          length-map point f.number ∙ sym (length-map rest f.number ∙ w.split_at-in-Suffix.ensures.front_len) in
          let equal : f.number c.equality_in.result ≡ value_in basis f.ops (equality_weight f.ops ss) (map f.number slot) =
          c.equality_in.ensures ∙ ap (λ t. value_in basis f.ops (equality_weight f.ops ss) (map f.number t.0.now)) w.t-15-is in
          let next : f.number c.successor_in.result ≡ value_in basis f.ops (successor_weight f.ops zs) (map f.number rest) =
          c.successor_in.ensures ∙ ap (λ t. value_in basis f.ops (successor_weight f.ops zs) (map f.number t.1.now)) w.t-15-is in
          product ∙ at-suffix f.ops ring order ss zs basis (map f.number slot) (map f.number rest) (map f.number row) _ _ (ap order_of w.in-Suffix.is)
          (ap (map f.number) (sym same) ∙ row-parts f.number w.as_slice-in-Suffix.result.now rest slot (length point) w.split_at-in-Suffix.ensures.front w.split_at-in-Suffix.ensures.back) first second equal next ∙ own
    ]
