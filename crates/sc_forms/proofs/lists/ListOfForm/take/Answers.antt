use Rattle.std.proofs.Common.{Some, None, rules, sym, ap, ◌∙◌}
use Rattle.std.specs.Prelude.{IsErrOf}
use Rattle.sc_forms.specs.declared.form.Misread.TheVariants.{NotOfForm}
use Rattle.sc_forms.proofs.Reading.{list_form_of, items-of_array}
use Rattle.sc_forms.proofs.lists.ListOfForm.take.Goals as goal

pub returns-in_err-take_items-in-Array-clause-not_of_form : goal.returns-in_err-take_items-in-Array-clause-not_of_form
returns-in_err-take_items-in-Array-clause-not_of_form g c = λ e.
    let told : IsErrOf c.take_items.result NotOfForm = search rules in
    list_form_of _ _ c.in-Array.items.items None (items-of_array _ _ c.in-Array.is) (c.take_items.ensures.not_of_form told)

pub returns-in-Array-clause-ok : goal.returns-in-Array-clause-ok
returns-in-Array-clause-ok g c =
    list_form_of _ _ c.in-Array.items.items _ (items-of_array _ _ c.in-Array.is) (c.in_ok-take_items-in-Array.ensures.ok ∙ ap Some (sym c.new.ensures))
