-- The answer to a table, by what is tested of it.
use Rattle.std.proofs.Common.{◌≡◌, true, false, Err, refl}
use Rattle.sc_jobs.specs.Results.{answer_to}
use Rattle.sumcheck_replies.specs.Fields.{Fields, sizes_over}
use Rattle.sumcheck_tables.specs.declared.error.TableError.TheVariants.{Points, NotAnElement}
use Rattle.sumcheck_tables.specs.Tables.{TableCase, asked_by, audited, has_elements, has_points, table_answer}

pub answer-unpointed : (k : Fields) (c : TableCase) → has_points c ≡ false → table_answer k c ≡ Err Points
unfolding table_answer
answer-unpointed k c lacking = rw lacking refl

pub answer-foreign : (k : Fields) (c : TableCase) → has_points c ≡ true → has_elements (sizes_over k.base k.ops) c ≡ false → table_answer k c ≡ Err NotAnElement
unfolding table_answer
answer-foreign k c pointed other = rw (pointed, other) refl

pub answer-audited : (k : Fields) (c : TableCase) → has_points c ≡ true → has_elements (sizes_over k.base k.ops) c ≡ true →
    table_answer k c ≡ audited (answer_to (asked_by k c))
unfolding table_answer
answer-audited k c pointed all = rw (pointed, all) refl
