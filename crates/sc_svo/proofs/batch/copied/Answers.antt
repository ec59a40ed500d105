use Rattle.std.proofs.Common.{length, take_all, ◌∙◌, ap, arith}
use Rattle.sc_svo.specs.Claims.{claims_in}
use Rattle.sc_svo.proofs.BatchLaws.{none_on, on-more, read_on, copied-more, copy_same}
use Rattle.sc_svo.proofs.batch.copied.Goals as goal

pub loop-claim-init : goal.loop-claim-init
loop-claim-init g c = record {
  same = ap (claims_in g.EF.Field.number) c.in_ok-copies.ensures.empty;
  on = λ n all. none_on n c.in_ok-copies.copies.items c.in_ok-copies.ensures.empty;
}

pub loop-claim-preserved : goal.loop-claim-preserved
loop-claim-preserved g c =
    let i = c.loop-claim.claim-index in
    let claim = c.claim-item.result in
    let copy = c.in_ok-copy.field-0 in
    let same = copy_same g.EF.Field.number copy claim c.in_ok-copy.ensures.point c.in_ok-copy.ensures.successor c.in_ok-copy.ensures.coefficient in
    record {
      same = copied-more g.EF.Field.number c.args.claims.now c.loop-claim.copies.items c.push.new.self.items i claim copy c.loop-claim-test.true c.claim-item.is
          c.loop-claim.invariant.same same c.in_ok-push.ensures.items;
      on = λ n all. on-more n c.loop-claim.copies.items c.push.new.self.items copy (c.loop-claim.invariant.on n all)
          (ap length c.in_ok-copy.ensures.point ∙ read_on n c.args.claims.now i claim all c.loop-claim-test.true c.claim-item.is)
          c.in_ok-push.ensures.items;
    }

pub returns-clause-same : goal.returns-clause-same
returns-clause-same g c =
    c.loop-claim.invariant.same ∙ ap (claims_in g.EF.Field.number) (take_all c.loop-claim.claim-index c.args.claims.now (omega (arith, c.loop-claim-test.false)))
