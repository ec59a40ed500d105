use Rattle.std.proofs.Common.{◌≡◌, ℕ, ◌+◌, ◌^◌, List, length, map, ◌∙◌, ap, sym, subst, arith}
use Rattle.std.proofs.lemmas.List.{length-map}
use Rattle.sc_definitions.specs.Tables.{Order, prefix, suffix, equality_weight, digits}
use Rattle.sc_definitions.specs.Statements.{successor_weight}
use Rattle.sc_table.specs.Strategy.{order_of}
use Rattle.sc_partials.specs.Partials.{joined}
use Rattle.sc_svo.specs.Points.{order_in, near_in, far_in, point_in}
use Rattle.sc_svo.specs.Claims.{scaled_in, scaled_value, AddsRows}
use Rattle.sc_svo.proofs.PointParts.{length-joined}
use Rattle.sc_svo.proofs.ClaimLaws.{kind-equality, kind-successor, bound-added}
use Rattle.sc_svo.proofs.claims.add_bound.Goals as goal
use Rattle.sc_svo.proofs.claims.add_bound.Goals.{then-claim+in-Prefix, then-claim+in-Suffix, else-claim}

-- the rows are those of the variables that are left
rows_left : (order : Order) (near far zs : List ℕ) (rows near_size size m : ℕ) → joined order near far ≡ zs → length zs ≡ size → length near ≡ near_size → size ≡ near_size + m →
    rows ≡ 2 ^ m → rows ≡ 2 ^ length far
rows_left order near far zs rows near_size size m whole zs_size count split is =
    let left : m ≡ length far = omega (arith, length-joined order near far, ap length whole, zs_size, count, split) in
    is ∙ ap (λ n. 2 ^ n) left

pub accumulate_into-requires-clause-size : goal.accumulate_into-requires-clause-size
accumulate_into-requires-clause-size g c =
    let p = c.in_ok-point.point in
    rows_left (order_in p) (near_in p) (far_in p) _ _ _ _ c.requires.rows.0 c.in_ok-point.ensures.point (length-map c.args.claim.now.point g.EF.Field.number)
    (c.in_ok-point.ensures.near ∙ c.num_variables.ensures) c.requires.rows.2 c.requires.rows.1

pub accumulate_next_prefix_into-requires-clause-size : goal.accumulate_next_prefix_into-requires-clause-size
accumulate_next_prefix_into-requires-clause-size g c =
    let p = c.in_ok-point.point in
    rows_left (order_in p) (near_in p) (far_in p) _ _ _ _ c.requires.rows.0 c.in_ok-point.ensures.point (length-map c.args.claim.now.point g.EF.Field.number)
    (c.in_ok-point.ensures.near ∙ c.num_variables.ensures) c.requires.rows.2 c.requires.rows.1

pub accumulate_next_suffix_into-requires-clause-size : goal.accumulate_next_suffix_into-requires-clause-size
accumulate_next_suffix_into-requires-clause-size g c =
    let p = c.in_ok-point.point in
    rows_left (order_in p) (near_in p) (far_in p) _ _ _ _ c.requires.rows.0 c.in_ok-point.ensures.point (length-map c.args.claim.now.point g.EF.Field.number)
    (c.in_ok-point.ensures.near ∙ c.num_variables.ensures) c.requires.rows.2 c.requires.rows.1

pub returns : goal.returns
returns g c m split =
    let e = g.EF.Field in
    let ring = g.met.EF.Field.is_field.ring in
    let p = c.in_ok-point.point in
    let claim = c.args.claim.now in
    let order = order_of c.args.order in
    let at = map e.number c.args.at.now in
    let ys = map e.number claim.point in
    let old = c.args.rows.now in
    let parts = length-joined (order_in p) (near_in p) (far_in p) in
    let whole = c.in_ok-point.ensures.point in
    let left : length (far_in p) ≡ m =
    omega (arith, parts, ap length whole, length-map claim.point e.number, c.in_ok-point.ensures.near, c.num_variables.ensures, split) in
    let same : c.requires.rows.0 ≡ m = omega (arith, c.requires.rows.2, split) in
    let long : length claim.point ≡ length at + m = omega (arith, split, length-map c.args.at.now e.number) in
    let many : length old ≡ 2 ^ m = c.requires.rows.1 ∙ ap (λ n. 2 ^ n) same in
    let gain : ℕ → ℕ = λ b. scaled_value e.ops (scaled_in e.number claim) (joined order at (digits m b)) in
    elim c.if-claim.branch [
      | then-claim+in-Prefix w ↦ subst (λ new. AddsRows e.number e.ops gain old new) (sym w.rows-is)
          (bound-added e.ops ring e.number (successor_weight e.ops) claim (point_in p) whole (λ b low. kind-successor e.ops ring claim.successor ys b w.if-claim.true low)
          order prefix at (far_in p) m old w.accumulate_next_prefix_into.new.out (sym (ap order_of w.in-Prefix.is)) left long w.accumulate_next_prefix_into.auto.out many
          w.accumulate_next_prefix_into.ensures)
      | then-claim+in-Suffix w ↦ subst (λ new. AddsRows e.number e.ops gain old new) (sym w.rows-is)
          (bound-added e.ops ring e.number (successor_weight e.ops) claim (point_in p) whole (λ b low. kind-successor e.ops ring claim.successor ys b w.if-claim.true low)
          order suffix at (far_in p) m old w.accumulate_next_suffix_into.new.out (sym (ap order_of w.in-Suffix.is)) left long w.accumulate_next_suffix_into.auto.out many
          w.accumulate_next_suffix_into.ensures)
      | else-claim w ↦ subst (λ new. AddsRows e.number e.ops gain old new) (sym w.rows-is)
          (bound-added e.ops ring e.number (equality_weight e.ops) claim (point_in p) whole (λ b low. kind-equality e.ops ring claim.successor ys b w.if-claim.false)
          order (order_in p) at (far_in p) m old w.accumulate_into.new.out c.in_ok-point.ensures.order left long w.accumulate_into.auto.out many w.accumulate_into.ensures)
    ]
