use Rattle.std.proofs.Common.{◌<◌, refl, subst, ◌∙◌, arith}
use Rattle.sc_transcript.proofs.RoundWords.{sent_none, sent_more}
use Rattle.sc_transcript.proofs.rounds.observe_values.Goals as goal

pub loop-i-init : goal.loop-i-init
loop-i-init g c = record {
  rules = refl;
  history = sent_none g.EF.ExtensionField.extension _;
  room = omega (arith, c.requires);
  spare = omega arith;
}

-- a value more is its parts more
pub loop-i-preserved : goal.loop-i-preserved
loop-i-preserved g c =
    let told = rw c.unwrap.ensures at c.observe_ext.ensures in
    let before = c.loop-i.invariant in
    record {
      rules = told.rules ∙ before.rules;
      history = sent_more g.EF.ExtensionField.extension g.EF.Field.number (g.V.RoundValues.list c.args.values.now) c.loop-i.i _ _ _ _
          (subst (λ n. c.loop-i.i < n) c.count-i-end.ensures c.loop-i-test.true) c.at.ensures before.history told.history;
      room = omega (arith, before.room, told.spare);
      spare = omega (arith, before.spare, told.spare);
    }
