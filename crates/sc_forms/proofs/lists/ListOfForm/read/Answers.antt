use Rattle.std.proofs.Common.{Some, None, rules, sym, ap, ◌∙◌}
use Rattle.std.specs.Prelude.{IsErrOf}
use Rattle.sc_forms.specs.declared.form.Misread.TheVariants.{NotOfForm}
use Rattle.sc_forms.proofs.Reading.{list_form_of}
use Rattle.sc_forms.proofs.lists.ListOfForm.read.Goals as goal

pub returns-in_err-read_items-clause-not_of_form : goal.returns-in_err-read_items-clause-not_of_form
returns-in_err-read_items-clause-not_of_form g c = λ e.
    let told : IsErrOf c.read_items.result NotOfForm = search rules in
    list_form_of _ _ c.in-Some.items.now.items None (sym c.in-Some.ensures) (rw c.deref.ensures.value at (c.read_items.ensures.not_of_form told))

pub returns-clause-ok : goal.returns-clause-ok
returns-clause-ok g c =
    list_form_of _ _ c.in-Some.items.now.items _ (sym c.in-Some.ensures) ((rw c.deref.ensures.value at c.in_ok-read_items.ensures.ok) ∙ ap Some (sym c.new.ensures))
