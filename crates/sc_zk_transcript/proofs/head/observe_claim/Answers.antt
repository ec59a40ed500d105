use Rattle.std.proofs.Common.{[], ◌∷◌, sym, subst}
use Rattle.sc_definitions.specs.Transcript.{sent}
use Rattle.sc_challenger.specs.Parties.{LeavesAppended}
use Rattle.sc_zk_transcript.proofs.HeadLaws.{sent-one, sent-length}
use Rattle.sc_zk_transcript.proofs.head.observe_claim.Goals as goal

-- the words of a value are its parts'
pub returns : goal.returns
returns g c =
    let E = g.EF.ExtensionField.extension in
    let x = g.EF.Field.number c.args.claim in
    let before = g.C.Challenger.party c.args.challenger.now in
    let after = g.C.Challenger.party c.observe_ext.new.challenger in
    let parts = g.EF.ExtensionField.DEGREE in
    let many = g.met.EF.ExtensionField.extends.length_parts x (g.met.EF.Field.number_below c.args.claim) in
    subst (λ n. LeavesAppended (sent E (x ∷ [])) n before after c.observe_ext.result) (sym (sent-length E x parts many))
    (subst (λ events. LeavesAppended events parts before after c.observe_ext.result) (sym (sent-one E x)) c.observe_ext.ensures)
