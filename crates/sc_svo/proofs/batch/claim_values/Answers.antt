use Rattle.std.proofs.Common.{◌≡◌, ◌^◌, length, take_all, ◌∙◌, ap, sym, arith}
use Rattle.sc_definitions.specs.Tables.{entries}
use Rattle.sc_definitions.specs.Statements.{true_value}
use Rattle.sc_definitions.proofs.Lengths.{pow-same}
use Rattle.sc_table.specs.Strategy.{order_of}
use Rattle.sc_svo.specs.Claims.{scaled_in, claims_in, true_values_of}
use Rattle.sc_svo.proofs.BatchLaws.{valued-none, valued-more, read_on}
use Rattle.sc_svo.proofs.batch.claim_values.Goals as goal

pub claim_value-requires-clause-few : goal.claim_value-requires-clause-few
claim_value-requires-clause-few g c =
    let fits = c.requires in
    let arity = read_on fits.arity c.args.claims.now c.loop-claim.claim-index c.claim-item.result fits.on c.loop-claim-test.true c.claim-item.is in
    omega (arith, fits.few, arity)

pub claim_value-requires-clause-rows : goal.claim_value-requires-clause-rows
claim_value-requires-clause-rows g c =
    let fits = c.requires in
    let arity = read_on fits.arity c.args.claims.now c.loop-claim.claim-index c.claim-item.result fits.on c.loop-claim-test.true c.claim-item.is in
    fits.rows_are ∙ ap (λ n. 2 ^ n) (sym arity)

pub loop-claim-init : goal.loop-claim-init
loop-claim-init g c = λ n size.
    let e = g.EF.Field in
    valued-none e.number e.ops g.met.EF.Field.is_field.ring (order_of c.args.order) n
    (entries (λ (x : g.row.F.Denot). g.EF.Algebra.embedding (g.F.Field.number x)) c.args.table.now) 0 c.args.claims.now c.in_ok-values.values.items c.in_ok-values.ensures.empty

pub loop-claim-preserved : goal.loop-claim-preserved
loop-claim-preserved g c = λ n size.
    let e = g.EF.Field in
    let fits = c.requires in
    let f = entries (λ (x : g.row.F.Denot). g.EF.Algebra.embedding (g.F.Field.number x)) c.args.table.now in
    let i = c.loop-claim.claim-index in
    let claim = c.claim-item.result in
    let arity : length claim.point ≡ n = read_on fits.arity c.args.claims.now i claim fits.on c.loop-claim-test.true c.claim-item.is ∙ pow-same fits.arity n (sym fits.rows_are ∙ size) in
    valued-more e.number e.ops g.met.EF.Field.is_field.ring (order_of c.args.order) n f 0 c.args.claims.now i claim c.loop-claim.values.items c.push.new.self.items c.in_ok-claim_value.field-0
    c.loop-claim-test.true c.claim-item.is (c.loop-claim.invariant n size)
    (c.in_ok-claim_value.ensures ∙ ap (λ k. true_value e.ops k f (scaled_in e.number claim).kind) arity) c.in_ok-push.ensures.items

pub returns : goal.returns
returns g c = λ n size.
    let e = g.EF.Field in
    let f = entries (λ (x : g.row.F.Denot). g.EF.Algebra.embedding (g.F.Field.number x)) c.args.table.now in
    c.loop-claim.invariant n size
    ∙ ap (λ cs. true_values_of e.ops n f (claims_in e.number cs)) (take_all c.loop-claim.claim-index c.args.claims.now (omega (arith, c.loop-claim-test.false)))
