use Rattle.std.proofs.Common.{◌≡◌, All, length, sym, ◌∙◌, ap, subst, arith}
use Rattle.std.proofs.lemmas.List.{take_all}
use Rattle.std.proofs.lemmas.List.Elements.{All-more}
use Rattle.sumcheck_veil.proofs.VeilJobLaws.{are_long-all, are_long-other}
use Rattle.sumcheck_veil.proofs.reading.have_length.Goals as goal

-- a list has another length
pub returns-then-len-length : goal.returns-then-len-length
returns-then-len-length c =
    sym (are_long-other c.args.length c.args.lists.now c.loop-list.list-index c.list-item.result (omega arith) c.list-item.is c.loop-list.invariant
    (λ e. c.if-len-length.true (c.len.ensures ∙ e)))

-- one list more has it
pub loop-list-preserved : goal.loop-list-preserved
loop-list-preserved c =
    All-more (λ m. length m ≡ c.args.length) c.args.lists.now c.loop-list.list-index c.list-item.result (omega arith) c.loop-list.invariant
    (ap length (sym c.list-item.is) ∙ sym c.len.ensures ∙ c.if-len-length.false)

pub returns : goal.returns
returns c =
    sym (are_long-all c.args.length c.args.lists.now
    (subst (All (λ m. length m ≡ c.args.length)) (take_all c.loop-list.list-index c.args.lists.now (omega arith)) c.loop-list.invariant))
