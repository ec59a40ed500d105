use Rattle.std.proofs.Common.{Err, sym, ap, ◌∙◌, arith}
use Rattle.sc_forms.specs.Values.{value_of}
use Rattle.sumcheck_replies.specs.Kinds.{too_long, bad_json, value_reply}
use Rattle.sumcheck_replies.proofs.KindLaws.{long-reply, short-reply}
use Rattle.sumcheck_replies.proofs.kind.parse.Goals as goal

pub returns-in-Ok : goal.returns-in-Ok
returns-in-Ok c = λ reply.
    short-reply reply c.args.input.items (omega arith) ∙ ap (value_reply reply) (ap value_of (sym c.deref.ensures.value) ∙ c.in-Ok.ensures.ok)

pub returns-then-len-gt-MAX_INPUT : goal.returns-then-len-gt-MAX_INPUT
unfolding too_long
returns-then-len-gt-MAX_INPUT c = λ reply. long-reply reply c.args.input.items (omega arith) ∙ sym c.in_ok-refused.ensures

pub returns-in-Err-Bad : goal.returns-in-Err-Bad
unfolding bad_json
returns-in-Err-Bad c = λ reply.
    short-reply reply c.args.input.items (omega arith)
    ∙ ap (value_reply reply) (ap value_of (sym c.deref.ensures.value) ∙ c.in-Err-Bad.ensures.bad (ap Err c.in-Err-Bad.field-0-is))
    ∙ sym c.in_ok-refused-in-Err-Bad.ensures
