use Rattle.std.proofs.Common.{◌≡◌, ◌+◌, ◌-◌, ◌<◌, length, get_or, map, take, drop, sym, ◌∙◌, ap, arith}
use Rattle.std.specs.List.{take-map}
use Rattle.std.proofs.lemmas.List.{length-map, drop-map}
use Rattle.sc_constraints.specs.Groups.{group_arity, group_statements}
use Rattle.sc_constraints.proofs.ClaimGroups.{claimed-within, claimed-more}
use Rattle.sc_constraints.proofs.constraint.Constraint.claim_values.Goals as goal

-- there is a value for each statement of the group
pub slice_bounds-claim_values-end : goal.slice_bounds-claim_values-end
slice_bounds-claim_values-end g c =
    let self = c.args.self.now in
    let N = g.EF.Field.number in
    let vs = c.args.values.now in
    let l = c.loop-group in
    let item = get_or l.group-items l.group-index in
    let low : l.group-index < length l.group-items = omega (arith, c.loop-group-test.true, l.auto.group-items) in
    omega (
      arith,
      length-map vs N,
      claimed-within (group_statements (λ x. g.EF.Algebra.embedding (g.F.Field.number x)) N) group_arity self.num_variables self.statements.items
          l.group-items l.group-index l.from (map N vs) l.invariant (length-map vs N ∙ c.requires) (item c.group-item.result) low (ap item c.group-item.is) c.len.result c.len.ensures,
    )

pub overflow_add-to : goal.overflow_add-to
overflow_add-to g c =
    let self = c.args.self.now in
    let N = g.EF.Field.number in
    let vs = c.args.values.now in
    let l = c.loop-group in
    let item = get_or l.group-items l.group-index in
    let low : l.group-index < length l.group-items = omega (arith, c.loop-group-test.true, l.auto.group-items) in
    omega (
      arith,
      length-map vs N,
      claimed-within (group_statements (λ x. g.EF.Algebra.embedding (g.F.Field.number x)) N) group_arity self.num_variables self.statements.items
          l.group-items l.group-index l.from (map N vs) l.invariant (length-map vs N ∙ c.requires) (item c.group-item.result) low (ap item c.group-item.is) c.len.result c.len.ensures,
    )

pub offset_bounds-values-from : goal.offset_bounds-values-from
offset_bounds-values-from g c =
    let self = c.args.self.now in
    let N = g.EF.Field.number in
    let vs = c.args.values.now in
    let l = c.loop-group in
    let item = get_or l.group-items l.group-index in
    let low : l.group-index < length l.group-items = omega (arith, c.loop-group-test.true, l.auto.group-items) in
    omega (
      arith,
      length-map vs N,
      claimed-within (group_statements (λ x. g.EF.Algebra.embedding (g.F.Field.number x)) N) group_arity self.num_variables self.statements.items
          l.group-items l.group-index l.from (map N vs) l.invariant (length-map vs N ∙ c.requires) (item c.group-item.result) low (ap item c.group-item.is) c.len.result c.len.ensures,
    )

pub loop-group-preserved : goal.loop-group-preserved
loop-group-preserved g c =
    let self = c.args.self.now in
    let N = g.EF.Field.number in
    let vs = c.args.values.now in
    let l = c.loop-group in
    let count = c.len.result in
    let item = get_or l.group-items l.group-index in
    let low : l.group-index < length l.group-items = omega (arith, c.loop-group-test.true, l.auto.group-items) in
    let size : l.from + count - l.from ≡ count = omega arith in
    let part = map N (take (l.from + count - l.from) (drop l.from vs)) in
    let cut : part ≡ take count (drop l.from (map N vs)) =
    ap (λ k. map N (take k (drop l.from vs))) size ∙ sym (take-map N count (drop l.from vs)) ∙ ap (take count) (sym (drop-map N l.from vs)) in
    claimed-more (group_statements (λ x. g.EF.Algebra.embedding (g.F.Field.number x)) N) group_arity self.num_variables self.statements.items
    l.group-items l.group-index l.from (map N vs) l.invariant (length-map vs N ∙ c.requires) (item c.group-item.result) low (ap item c.group-item.is) count part c.claim_values.new.self c.len.ensures
    cut c.claim_values.ensures.statements c.claim_values.ensures.arity
