use Rattle.std.proofs.Common.{◌≡◌, suc, ◌+◌, ◌*◌, ◌%◌, ◌^◌, ◌∙◌, zero-add, sym, ap, arith}
use Rattle.sumcheck_make.specs.Made.{parts_end, value_at, values_behind}
use Rattle.sc_audit_errors.proofs.ArityLaws.{shifted}
use Rattle.sumcheck_make.proofs.MadeLaws.{value_at-first}
use Rattle.sumcheck_make.proofs.MadeJobs.{parts-same}
use Rattle.sumcheck_make.proofs.made.take_parts.Goals as goal

pub returns : goal.returns
returns c = λ number is.
    let n = c.args.n in
    let table = c.in_ok-table.ensures number 0 (is ∙ sym (value_at-first number)) in
    let size : 0 + (1 * 2 ^ n) % 18446744073709551616 ≡ 2 ^ n = zero-add _ ∙ shifted n (omega (arith, c.requires)) in
    let point = c.in_ok-point.ensures number (2 ^ n) (table.1 ∙ ap (value_at number) size) in
    let successor = c.in_ok-successor.ensures number (2 ^ n + n) point.1 in
    let next : suc (2 ^ n + n + n) ≡ parts_end n = omega arith in
    let last = c.advance-batching.ensures.next number (2 ^ n + n + n) successor.1 ∙ ap (value_at number) next in
    (parts-same number n _ _ _ _ (table.0 ∙ ap (values_behind number 0) (shifted n (omega (arith, c.requires)))) point.0 successor.0 (c.advance-batching.ensures.value ∙ last), last)
