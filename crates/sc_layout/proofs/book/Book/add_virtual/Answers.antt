use Rattle.std.proofs.Common.{sym, subst}
use Rattle.sc_challenger.specs.Parties.{Appends}
use Rattle.sc_layout.proofs.DrawLaws.{sent-one}
use Rattle.sc_layout.proofs.book.Book.add_virtual.Goals as goal

pub returns-clause-left : goal.returns-clause-left
returns-clause-left g c =
    let d = g.EF.ExtensionField.DEGREE in
    subst (λ events. Appends events d (g.C.Challenger.party c.args.challenger.now) (g.C.Challenger.party c.observe_ext.new.challenger))
    (sym (sent-one g.EF.ExtensionField.extension (g.EF.Field.number c.args.value))) c.in_ok-observe_ext.ensures
