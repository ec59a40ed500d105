use Rattle.std.proofs.Common.{sym, arith}
use Rattle.std.proofs.lemmas.Grind.{common_steps}
use Rattle.sc_forms.proofs.Reading.{pair_form_none}
use Rattle.sc_forms.proofs.lists.PairOfForm.read.Goals as goal

pub returns-then-len-ne2-clause-not_of_form : goal.returns-then-len-ne2-clause-not_of_form
returns-then-len-ne2-clause-not_of_form g c = λ e.
    let items = c.in-Some.items.now in
    let is_len = items.ok.0 in
    pair_form_none _ _ items.items (sym c.in-Some.ensures) (λ two. c.if-len-ne2.true (omega arith))

-- the first item, and the second
pub returns-clause-ok : goal.returns-clause-ok
returns-clause-ok g c = grind (arith, common_steps)
