use Rattle.std.proofs.Common.{◌≡◌, ℕ, List, ◌+◌, ◌-◌, ◌^◌, length, map, take, take_all, ◌∙◌, ap, sym, subst, arith}
use Rattle.std.proofs.lemmas.List.{length-map, with_items_is}
use Rattle.sc_definitions.specs.Tables.{digits}
use Rattle.sc_definitions.proofs.Lengths.{pow-same}
use Rattle.sc_definitions.proofs.PlacedSums.{length-point_of}
use Rattle.sc_table.specs.Strategy.{order_of}
use Rattle.sc_partials.specs.Partials.{joined}
use Rattle.sc_svo.specs.Claims.{scaled_in, scaled_value, AddsRows}
use Rattle.sc_svo.proofs.BatchLaws.{read_on}
use Rattle.sc_svo.proofs.BoundLaws.{AreBound, bound-none, bound-more, bound-all}
use Rattle.sc_svo.proofs.batch.weights_at.Goals as goal

pub loop-claim-init : goal.loop-claim-init
loop-claim-init g c =
    let m = c.args.variables - length c.args.point.now in
    let left : c.args.variables - c.num_variables.result ≡ m = ap (λ n. c.args.variables - n) c.num_variables.ensures in
    record {
      size = c.into_evals-rows.ensures.size ∙ ap (λ n. 2 ^ n) (c.in_ok-zero.ensures.variables ∙ left);
      bound = λ rs is. bound-none g.EF.Field.ops g.met.EF.Field.is_field.ring g.EF.Field.number (order_of c.args.order) m rs c.into_evals-rows.result.items
          (λ b low. ap (λ t. t b) c.into_evals-rows.ensures.numbers ∙ c.in_ok-zero.ensures.table b);
    }

pub add_bound-requires-clause-few : goal.add_bound-requires-clause-few
add_bound-requires-clause-few g c =
    let arity = read_on c.args.variables c.args.claims.now c.loop-claim.claim-index c.claim-item.result c.requires.on c.loop-claim-test.true c.claim-item.is in
    omega (arith, arity, c.requires.few)

pub add_bound-requires-clause-rows : goal.add_bound-requires-clause-rows
add_bound-requires-clause-rows g c =
    let arity = read_on c.args.variables c.args.claims.now c.loop-claim.claim-index c.claim-item.result c.requires.on c.loop-claim-test.true c.claim-item.is in (
      c.args.variables - length c.args.point.now,
      ap length c.deref_mut.ensures.value ∙ c.loop-claim.invariant.size,
      omega (arith, arity, c.requires.point),
    )

pub loop-claim-preserved : goal.loop-claim-preserved
loop-claim-preserved g c =
    let e = g.EF.Field in
    let ring = g.met.EF.Field.is_field.ring in
    let order = order_of c.args.order in
    let m = c.args.variables - length c.args.point.now in
    let claims = c.args.claims.now in
    let i = c.loop-claim.claim-index in
    let claim = c.claim-item.result in
    let rows = c.loop-claim.rows in
    let new = c.add_bound.new.rows in
    let arity : length claim.point ≡ c.args.variables = read_on c.args.variables claims i claim c.requires.on c.loop-claim-test.true c.claim-item.is in
    let split : length claim.point ≡ length c.args.point.now + m = omega (arith, arity, c.requires.point) in
    let gain : List ℕ → ℕ → ℕ = λ at b. scaled_value e.ops (scaled_in e.number claim) (joined order at (digits m b)) in
    let gains : AddsRows e.number e.ops (gain (map e.number c.args.point.now)) rows.items new =
    subst (λ xs. AddsRows e.number e.ops (gain (map e.number c.args.point.now)) xs new) c.deref_mut.ensures.value (c.in_ok-add_bound.ensures m split) in
    let items = with_items_is rows new (gains.size ∙ sym rows.ok.0) in
    record {
      size = ap length items ∙ gains.size ∙ c.loop-claim.invariant.size;
      bound = λ rs is. subst (AreBound e.ops e.number order m rs (take (i + 1) claims)) (sym items)
          (bound-more e.ops ring e.number order m rs claims i claim rows.items new c.loop-claim-test.true c.claim-item.is c.loop-claim.invariant.size (c.loop-claim.invariant.bound rs is)
          (subst (λ at. AddsRows e.number e.ops (gain at) rows.items new) is gains));
    }

pub returns : goal.returns
returns g c rs is =
    let e = g.EF.Field in
    let order = order_of c.args.order in
    let m = c.args.variables - length c.args.point.now in
    let rows = c.loop-claim.rows.items in
    let done : take c.loop-claim.claim-index c.args.claims.now ≡ c.args.claims.now =
    take_all c.loop-claim.claim-index c.args.claims.now (omega (arith, c.loop-claim-test.false)) in
    let same = pow-same m _ (sym c.loop-claim.invariant.size ∙ c.new.ensures.size) in
    let count = length-point_of order rs in
    let point = ap length is in
    let numbers = length-map c.args.point.now e.number in
    record {
      size = ap (λ n. 2 ^ n) (omega (arith, same, count, point, numbers, c.requires.point));
      entries_are = bound-all e.ops g.met.EF.Field.is_field.ring e.number order m rs c.args.claims.now rows c.new.result c.loop-claim.invariant.size c.new.ensures.size c.new.ensures.table
          (subst (λ cs. AreBound e.ops e.number order m rs cs rows) done (c.loop-claim.invariant.bound rs is));
    }
