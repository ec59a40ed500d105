use Rattle.std.proofs.Common.{◌≡◌, Some, None, length, arith, rules, sym, ap, ◌∙◌}
use Rattle.std.specs.Prelude.{IsErrOf}
use Rattle.sc_forms.specs.declared.form.Misread.TheVariants.{NotOfForm}
use Rattle.sc_forms.proofs.Reading.{list_of_length_form_none, list_of_length_form_of}
use Rattle.sc_forms.proofs.lists.ListOfLengthForm.read.Goals as goal

pub returns-then-len-self-clause-not_of_form : goal.returns-then-len-self-clause-not_of_form
returns-then-len-self-clause-not_of_form g c = λ e.
    let items = c.in-Some.items.now in
    let is_len = items.ok.0 in
    list_of_length_form_none _ _ items.items _ (sym c.in-Some.ensures) (λ same. c.if-len-self.true (omega arith))

pub returns-in_err-read_items-clause-not_of_form : goal.returns-in_err-read_items-clause-not_of_form
returns-in_err-read_items-clause-not_of_form g c = λ e.
    let told : IsErrOf c.read_items.result NotOfForm = search rules in
    let items = c.in-Some.items.now in
    let is_len = items.ok.0 in
    let count : length items.items ≡ c.args.self.now.length = omega arith in
    list_of_length_form_of _ _ items.items _ None (sym c.in-Some.ensures) count (rw c.deref.ensures.value at (c.read_items.ensures.not_of_form told))

pub returns-clause-ok : goal.returns-clause-ok
returns-clause-ok g c =
    let items = c.in-Some.items.now in
    let is_len = items.ok.0 in
    let count : length items.items ≡ c.args.self.now.length = omega arith in
    list_of_length_form_of _ _ items.items _ _ (sym c.in-Some.ensures) count ((rw c.deref.ensures.value at c.in_ok-read_items.ensures.ok) ∙ ap Some (sym c.new.ensures))
