use Rattle.std.proofs.Common.{rules, arith, ◌∙◌}
use Rattle.std.specs.Prelude.{IsErrOf}
use Rattle.std.proofs.lemmas.Grind.{common_steps}
use Rattle.std.proofs.lemmas.Iterator.Adapters.{YieldsList-from_vec}
use Rattle.std.proofs.lemmas.Iterator.Consumers.{YieldsList-turn}
use Rattle.std.proofs.lemmas.List.Elements.{All-push}
use Rattle.std.proofs.lemmas.Result.{IfOk-from_err}
use Rattle.sc_forms.specs.declared.form.Misread.TheVariants.{NotOfForm}
use Rattle.sc_forms.proofs.Reading.{all_of_none_read, all_of_push}
use Rattle.sc_forms.proofs.lists.take_items.Goals as goal

pub returns-in_err-take-clause-not_of_form : goal.returns-in_err-take-clause-not_of_form
returns-in_err-take-clause-not_of_form g c = λ e.
    let told : IsErrOf c.take.result NotOfForm = search rules in
    let turn = YieldsList-turn (YieldsList-from_vec c.args.items.items c.into_iter-item-iterator.ensures.into_iter_gives.0 (cc (c.into_iter-item-iterator.ensures.into_iter_gives.1, c.args.items.ok.0)))
    c.loop-item.yielded c.loop-item.item-iterator c.loop-item.yielded_by _ c.next.new.self c.in-Some.item c.in-Some.is c.next.ensures.steps in
    all_of_none_read _ c.args.items.items _ c.in-Some.item turn.0 turn.1 (c.take.ensures.not_of_form told)

pub loop-item-preserved : goal.loop-item-preserved
loop-item-preserved g c =
    let longer = all_of_push _ c.loop-item.yielded c.loop-item.taken.items c.in-Some.item c.in_ok-take.field-0 c.loop-item.invariant.read c.in_ok-take.ensures.ok in
    let still = All-push (g.F.Form.fits c.args.form.now) c.loop-item.taken.items c.in_ok-take.field-0 c.loop-item.invariant.fits c.in_ok-take.ensures.fits in
    record {
      read = rw c.push_reserved.ensures.items longer;
      fits = rw c.push_reserved.ensures.items still;
      count = grind (arith, common_steps);
      room = c.push_reserved.ensures.capacity ∙ c.loop-item.invariant.room;
    }

pub push_reserved-requires : goal.push_reserved-requires
push_reserved-requires g c =
    let turn = YieldsList-turn (YieldsList-from_vec c.args.items.items c.into_iter-item-iterator.ensures.into_iter_gives.0 (cc (c.into_iter-item-iterator.ensures.into_iter_gives.1, c.args.items.ok.0)))
    c.loop-item.yielded c.loop-item.item-iterator c.loop-item.yielded_by _ c.next.new.self c.in-Some.item c.in-Some.is c.next.ensures.steps in
    omega (arith, turn.0, c.loop-item.taken.ok.0, c.loop-item.invariant.count, c.loop-item.invariant.room)

-- a refusal tells nothing of an answer
pub returns-in_err-taken-clause-ok : goal.returns-in_err-taken-clause-ok
returns-in_err-taken-clause-ok g c = IfOk-from_err c.from_residual.result _ c.from_residual.ensures.0

pub returns-in_err-taken-clause-fits : goal.returns-in_err-taken-clause-fits
returns-in_err-taken-clause-fits g c = IfOk-from_err c.from_residual.result _ c.from_residual.ensures.0

pub returns-in_err-take-clause-ok : goal.returns-in_err-take-clause-ok
returns-in_err-take-clause-ok g c = IfOk-from_err c.from_residual-in_err-take.result _ c.from_residual-in_err-take.ensures.0

pub returns-in_err-take-clause-fits : goal.returns-in_err-take-clause-fits
returns-in_err-take-clause-fits g c = IfOk-from_err c.from_residual-in_err-take.result _ c.from_residual-in_err-take.ensures.0
