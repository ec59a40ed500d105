use Rattle.std.proofs.Common.{◌≡◌, ℕ, ◌^◌, length, take_all, ◌∙◌, ap, sym, subst, arith}
use Rattle.std.proofs.lemmas.List.{with_items_is}
use Rattle.sc_definitions.specs.Tables.{entries}
use Rattle.sc_definitions.specs.Statements.{true_value}
use Rattle.sc_definitions.specs.Grids.{grids_of}
use Rattle.sc_definitions.specs.Combined.{combined_weight}
use Rattle.sc_definitions.proofs.Lengths.{pow-same}
use Rattle.sc_table.specs.Strategy.{order_of}
use Rattle.sc_partials.specs.Sums.{AreSumsSized, sums_shown}
use Rattle.sc_svo.specs.Claims.{scaled_in, claims_in, true_values_of, AddsClaim}
use Rattle.sc_svo.proofs.BatchLaws.{sums-sized, count-sums, gathered-none, gathered-more, valued-none, valued-more, read_on}
use Rattle.sc_svo.proofs.batch.gathered_apart.Goals as goal

pub add_claim-requires-clause-rounds : goal.add_claim-requires-clause-rounds
add_claim-requires-clause-rounds g c =
    let fits = c.requires.fits in
    let many = count-sums g.EF.Field.number g.EF.Field.ops g.met.EF.Field.is_field.ring (order_of c.args.order) fits.arity _ _ c.args.l0 c.loop-claim.sums.items
    (c.loop-claim.invariant.grids fits.arity fits.rows_are) in
    omega (arith, many, ap length c.deref_mut.ensures.value, c.requires.few)

pub add_claim-requires-clause-within : goal.add_claim-requires-clause-within
add_claim-requires-clause-within g c =
    let fits = c.requires.fits in
    let many = count-sums g.EF.Field.number g.EF.Field.ops g.met.EF.Field.is_field.ring (order_of c.args.order) fits.arity _ _ c.args.l0 c.loop-claim.sums.items
    (c.loop-claim.invariant.grids fits.arity fits.rows_are) in
    let arity = read_on fits.arity c.args.claims.now c.loop-claim.claim-index c.claim-item.result fits.on c.loop-claim-test.true c.claim-item.is in
    omega (arith, many, ap length c.deref_mut.ensures.value, fits.within, arity)

pub add_claim-requires-clause-few : goal.add_claim-requires-clause-few
add_claim-requires-clause-few g c =
    let fits = c.requires.fits in
    let arity = read_on fits.arity c.args.claims.now c.loop-claim.claim-index c.claim-item.result fits.on c.loop-claim-test.true c.claim-item.is in
    omega (arith, fits.few, arity)

pub add_claim-requires-clause-rows : goal.add_claim-requires-clause-rows
add_claim-requires-clause-rows g c =
    let fits = c.requires.fits in
    let arity = read_on fits.arity c.args.claims.now c.loop-claim.claim-index c.claim-item.result fits.on c.loop-claim-test.true c.claim-item.is in
    fits.rows_are ∙ ap (λ n. 2 ^ n) (sym arity)

pub add_claim-requires-clause-sized : goal.add_claim-requires-clause-sized
add_claim-requires-clause-sized g c =
    let fits = c.requires.fits in
    subst AreSumsSized (sym c.deref_mut.ensures.value)
    (sums-sized g.EF.Field.number g.EF.Field.ops g.met.EF.Field.is_field.ring (order_of c.args.order) fits.arity _ _ c.args.l0 c.loop-claim.sums.items
    (c.loop-claim.invariant.grids fits.arity fits.rows_are))

pub loop-claim-init : goal.loop-claim-init
loop-claim-init g c =
    let e = g.EF.Field in
    let f = entries (λ (x : g.row.F.Denot). g.EF.Algebra.embedding (g.F.Field.number x)) c.args.table.now in
    record {
      grids = λ n size. gathered-none e.number e.ops g.met.EF.Field.is_field.ring (order_of c.args.order) n f c.args.l0 c.args.claims.now c.in_ok-sums.sums.items
          (c.in_ok-sums.ensures (order_of c.args.order) n f);
      values = λ n size. valued-none e.number e.ops g.met.EF.Field.is_field.ring (order_of c.args.order) n f c.args.l0 c.args.claims.now c.in_ok-values.values.items
          c.in_ok-values.ensures.empty;
    }

pub loop-claim-preserved : goal.loop-claim-preserved
loop-claim-preserved g c =
    let e = g.EF.Field in
    let ring = g.met.EF.Field.is_field.ring in
    let fits = c.requires.fits in
    let f = entries (λ (x : g.row.F.Denot). g.EF.Algebra.embedding (g.F.Field.number x)) c.args.table.now in
    let order = order_of c.args.order in
    let i = c.loop-claim.claim-index in
    let claim = c.claim-item.result in
    let arity : (n : ℕ) → length c.args.table.now ≡ 2 ^ n → length claim.point ≡ n =
    λ n size. read_on fits.arity c.args.claims.now i claim fits.on c.loop-claim-test.true c.claim-item.is ∙ pow-same fits.arity n (sym fits.rows_are ∙ size) in
    let new = c.add_claim.new.sums in
    let gains : AddsClaim e.number e.ops order f claim c.loop-claim.sums.items new =
    subst (λ xs. AddsClaim e.number e.ops order f claim xs new) c.deref_mut.ensures.value c.in_ok-add_claim.ensures.adds in
    record {
      grids = λ n size. ap (sums_shown e.number) (with_items_is c.loop-claim.sums new (gains.same ∙ sym c.loop-claim.sums.ok.0))
          ∙ gathered-more e.number e.ops ring order n f c.args.l0 c.args.claims.now i claim c.loop-claim.sums.items new c.loop-claim-test.true c.claim-item.is (arity n size)
          (c.loop-claim.invariant.grids n size) gains;
      values = λ n size. valued-more e.number e.ops ring order n f c.args.l0 c.args.claims.now i claim c.loop-claim.values.items c.push.new.self.items c.in_ok-add_claim.field-0
          c.loop-claim-test.true c.claim-item.is (c.loop-claim.invariant.values n size)
          (c.in_ok-add_claim.ensures.value ∙ ap (λ k. true_value e.ops k f (scaled_in e.number claim).kind) (arity n size)) c.in_ok-push.ensures.items;
    }

pub returns-clause-grids : goal.returns-clause-grids
returns-clause-grids g c n size =
    let e = g.EF.Field in
    let f = entries (λ (x : g.row.F.Denot). g.EF.Algebra.embedding (g.F.Field.number x)) c.args.table.now in
    c.loop-claim.invariant.grids n size
    ∙ ap (λ cs. grids_of (order_of c.args.order) e.ops n f (combined_weight e.ops (claims_in e.number cs)) c.args.l0)
    (take_all c.loop-claim.claim-index c.args.claims.now (omega (arith, c.loop-claim-test.false)))

pub returns-clause-values : goal.returns-clause-values
returns-clause-values g c n size =
    let e = g.EF.Field in
    let f = entries (λ (x : g.row.F.Denot). g.EF.Algebra.embedding (g.F.Field.number x)) c.args.table.now in
    c.loop-claim.invariant.values n size
    ∙ ap (λ cs. true_values_of e.ops n f (claims_in e.number cs)) (take_all c.loop-claim.claim-index c.args.claims.now (omega (arith, c.loop-claim-test.false)))
