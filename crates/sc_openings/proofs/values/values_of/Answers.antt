use Rattle.std.proofs.Common.{◌+◌, ◌^◌, ◌≤◌, length, map, get_or, refl, sym, ◌∙◌, ap, arith, length-append}
use Rattle.std.proofs.lemmas.Simd.{map-map}
use Rattle.sc_definitions.specs.Tables.{entries}
use Rattle.sc_definitions.specs.Statements.{Statement, true_value}
use Rattle.sc_merge_definitions.specs.Openings.{TableClaim, OpeningsCase, claim_kind, true_claim_value}
use Rattle.sc_openings.specs.declared.claim.OpeningClaim.{OpeningClaim}
use Rattle.sc_openings.specs.OpeningsJobs.{claim_in}
use Rattle.sc_openings.specs.FittingClaims.{case_by}
use Rattle.sc_openings.proofs.ShapeLaws.{few-variables, table-rows, claim-names, claim-point}
use Rattle.sc_openings.proofs.ValueLaws.{made-next, made-all, table-is}
use Rattle.sc_openings.proofs.values.values_of.Goals as goal

pub push_reserved-requires : goal.push_reserved-requires
push_reserved-requires g c = omega (arith, c.loop-i.invariant.made, c.loop-i.invariant.room, c.loop-i-test.true, c.loop-i.claimed.ok.0)

pub offset_bounds-fitting-claim : goal.offset_bounds-fitting-claim
offset_bounds-fitting-claim g c =
    omega (arith, claim-names c.args.fitting.now c.loop-i.i c.index-fitting-i.result c.loop-i-test.true, c.type_inv.fitting)

pub bounds-fitting-claim : goal.bounds-fitting-claim
bounds-fitting-claim g c = claim-names c.args.fitting.now c.loop-i.i c.index-fitting-i.result c.loop-i-test.true

pub true_value-requires-clause-rows : goal.true_value-requires-clause-rows
true_value-requires-clause-rows g c =
    let fitting = c.args.fitting.now in
    let d = c.index-fitting-i.result in
    let low = claim-names fitting c.loop-i.i d c.loop-i-test.true in
    ap length c.deref.ensures.value
    ∙ table-rows fitting _ c.index-fitting-claim.result low ∙ ap (λ n. 2 ^ n) (sym (claim-point fitting c.loop-i.i d c.loop-i-test.true))

pub true_value-requires-clause-few : goal.true_value-requires-clause-few
true_value-requires-clause-few g c =
    let fitting = c.args.fitting.now in
    omega (arith, few-variables fitting, claim-point fitting c.loop-i.i c.index-fitting-i.result c.loop-i-test.true)

pub push_reserved-requires-in-loop-i : goal.push_reserved-requires-in-loop-i
push_reserved-requires-in-loop-i g c = omega (arith, c.loop-i.invariant.made_too, c.loop-i.invariant.room_too, c.loop-i-test.true, c.loop-i.truths.ok.0)

pub loop-i-preserved : goal.loop-i-preserved
loop-i-preserved g c =
    let e = g.EF.Field in
    let N = e.number in
    let B = g.F.Field.number in
    let emb = g.EF.Algebra.embedding in
    let image = λ (x : g.row.F.Denot). emb (B x) in
    let fitting = c.args.fitting.now in
    let i = c.loop-i.i in
    let d = c.index-fitting-i.result in
    let x = get_or fitting.claims.now i d in
    let t = c.index-fitting-claim.result in
    let at_x = ap (λ y. get_or fitting.claims.now i y) c.index-fitting-i.is in
    let inv = c.loop-i.invariant in
    let low = claim-names fitting i d c.loop-i-test.true in
    let kind = claim_kind x.successor (map N x.point) in
    let table = ap (entries image) c.deref.ensures.value
    ∙ table-is emb B g.met.EF.Algebra.embeds.zero_kept fitting.tables.now x.table t low in
    record {
      made = ap length c.push_reserved.ensures.items ∙ length-append c.loop-i.claimed.items _ ∙ ap (λ n. n + 1) inv.made;
      made_too = ap length c.push_reserved-in-loop-i.ensures.items ∙ length-append c.loop-i.truths.items _ ∙ ap (λ n. n + 1) inv.made_too;
      room = omega (arith, c.push_reserved.ensures.capacity, inv.room);
      room_too = omega (arith, c.push_reserved-in-loop-i.ensures.capacity, inv.room_too);
      claimed = made-next N (λ (y : OpeningClaim g.row.EF.Denot). N y.value) fitting.claims.now i x c.loop-i.claimed.items c.push_reserved.new.self.items x.value c.loop-i-test.true at_x
          inv.claimed refl c.push_reserved.ensures.items;
      truths = λ at. (let q : OpeningsCase = case_by fitting at in
          made-next N (λ (y : OpeningClaim g.row.EF.Denot). true_claim_value q (claim_in N y)) fitting.claims.now i x c.loop-i.truths.items c.push_reserved-in-loop-i.new.self.items
          c.in_ok-true_value.field-0 c.loop-i-test.true at_x (inv.truths at)
          (c.in_ok-true_value.ensures ∙ ap (λ n. true_value e.ops n (entries image c.deref.result.now) kind) (claim-point fitting i d c.loop-i-test.true)
          ∙ ap (λ f. true_value e.ops fitting.num_variables f kind) table) c.push_reserved-in-loop-i.ensures.items);
    }

pub returns : goal.returns
returns g c = λ at.
    let N = g.EF.Field.number in
    let fitting = c.args.fitting.now in
    let q : OpeningsCase = case_by fitting at in
    let claims = fitting.claims.now in
    let all : length claims ≤ c.loop-i.i = omega (arith, c.loop-i-test.false) in
    record {
      claimed = made-all N (λ (y : OpeningClaim g.row.EF.Denot). N y.value) claims c.loop-i.i c.loop-i.claimed.items all c.loop-i.invariant.claimed
          ∙ sym (map-map (λ (s : Statement). s.claimed) (λ (y : OpeningClaim g.row.EF.Denot). (claim_in N y).statement) claims)
          ∙ ap (map (λ (s : Statement). s.claimed)) (sym (map-map (λ (y : TableClaim). y.statement) (claim_in N) claims));
      truths = made-all N (λ (y : OpeningClaim g.row.EF.Denot). true_claim_value q (claim_in N y)) claims c.loop-i.i c.loop-i.truths.items all (c.loop-i.invariant.truths at)
          ∙ sym (map-map (true_claim_value q) (claim_in N) claims);
    }
