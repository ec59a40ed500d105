use Rattle.sumcheck_c.proofs.LineLaws.{word_of_no_text}
use Rattle.sumcheck_c.proofs.line.of_word.Goals as goal

-- the word is no text
pub returns-in_default : goal.returns-in_default
returns-in_default c = rw c.new.ensures.items (word_of_no_text c.args.word.now c.in_default.ensures.cases.0)
