use Rattle.std.proofs.Common.{rules}
use Rattle.sc_transcript.proofs.RoundWords.{is_taken, untaken}
use Rattle.sc_transcript.proofs.rounds.take_rest.Goals as goal

pub returns-in_err-test_witness-clause-taken : goal.returns-in_err-test_witness-clause-taken
returns-in_err-test_witness-clause-taken g c = λ h values absorbed.
    untaken g.F.Field.number g.EF.Field.number (g.C.Challenger.party c.args.challenger.now).rules g.EF.ExtensionField.extension g.F.Field.ops.size c.args.pow_bits h
    (g.C.Challenger.party c.args.challenger.now).history (g.C.Challenger.party c.test_witness.new.challenger).history values c.args.witness c.in_err-test_witness.field-0.0 _
    absorbed (search rules) c.in_err-test_witness.ensures.left

pub returns-clause-taken : goal.returns-clause-taken
returns-clause-taken g c = λ h values absorbed.
    let H = λ (x : g.row.C.Denot). (g.C.Challenger.party x).history in
    let R = λ (x : g.row.C.Denot). (g.C.Challenger.party x).rules in
    let told = c.in_ok-test_witness.ensures.left in (
      λ positive. (told.1 positive).0,
      is_taken (R c.args.challenger.now) g.EF.ExtensionField.extension g.F.Field.ops.size c.args.pow_bits h (H c.args.challenger.now) values _ absorbed (R c.test_witness.new.challenger) _
          (H c.test_witness.new.challenger) _ _ (λ positive. (told.1 positive).1) told.0 c.in_ok-test_witness.ensures.rules
          g.met.EF.ExtensionField.degree_is (rw c.unwrap.ensures at c.sample_ext.ensures.drawn) (rw c.unwrap.ensures at c.sample_ext.ensures.left).history,
    )
