use Rattle.std.proofs.Common.{rules, ◌∙◌, arith}
use Rattle.std.proofs.lemmas.Result.{IfOk-from_err}
use Rattle.std.specs.Prelude.{IsErrOf}
use Rattle.std.proofs.lemmas.Grind.{common_steps}
use Rattle.std.proofs.lemmas.List.Elements.{All-push}
use Rattle.sc_forms.specs.declared.form.Misread.TheVariants.{NotOfForm}
use Rattle.sc_forms.proofs.Reading.{all_of_none_read, all_of_more_read}
use Rattle.sc_forms.proofs.lists.read_items.Goals as goal

pub returns-in_err-read-clause-not_of_form : goal.returns-in_err-read-clause-not_of_form
returns-in_err-read-clause-not_of_form g c = λ e.
    let told : IsErrOf c.read.result NotOfForm = search rules in
    all_of_none_read _ c.args.items.now c.loop-item.item-index c.item-item.result (omega arith) c.item-item.is (c.read.ensures.not_of_form told)

pub loop-item-preserved : goal.loop-item-preserved
loop-item-preserved g c =
    let longer = all_of_more_read _ c.args.items.now c.loop-item.found.items c.in_ok-read.field-0 c.loop-item.item-index c.item-item.result (omega arith) c.item-item.is c.loop-item.invariant.read c.in_ok-read.ensures.ok in
    let still = All-push (g.F.Form.fits c.args.form.now) c.loop-item.found.items c.in_ok-read.field-0 c.loop-item.invariant.fits c.in_ok-read.ensures.fits in
    record {
      read = rw c.push_reserved.ensures.items longer;
      fits = rw c.push_reserved.ensures.items still;
      count = grind (arith, common_steps);
      room = c.push_reserved.ensures.capacity ∙ c.loop-item.invariant.room;
    }

-- a refusal tells nothing of an answer
pub returns-in_err-found-clause-ok : goal.returns-in_err-found-clause-ok
returns-in_err-found-clause-ok g c = IfOk-from_err c.from_residual.result _ c.from_residual.ensures.0

pub returns-in_err-found-clause-fits : goal.returns-in_err-found-clause-fits
returns-in_err-found-clause-fits g c = IfOk-from_err c.from_residual.result _ c.from_residual.ensures.0

pub returns-in_err-found-clause-length : goal.returns-in_err-found-clause-length
returns-in_err-found-clause-length g c = IfOk-from_err c.from_residual.result _ c.from_residual.ensures.0

pub returns-in_err-read-clause-ok : goal.returns-in_err-read-clause-ok
returns-in_err-read-clause-ok g c = IfOk-from_err c.from_residual-in_err-read.result _ c.from_residual-in_err-read.ensures.0

pub returns-in_err-read-clause-fits : goal.returns-in_err-read-clause-fits
returns-in_err-read-clause-fits g c = IfOk-from_err c.from_residual-in_err-read.result _ c.from_residual-in_err-read.ensures.0

pub returns-in_err-read-clause-length : goal.returns-in_err-read-clause-length
returns-in_err-read-clause-length g c = IfOk-from_err c.from_residual-in_err-read.result _ c.from_residual-in_err-read.ensures.0
