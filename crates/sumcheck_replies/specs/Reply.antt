-- What a command line and an input are answered: how it ends, and the text that is written.
use Rattle.std.specs.Prelude.{◌≡◌, ℕ, List, ◌++◌, codes, Result, IfOk}
use Rattle.sumcheck_replies.specs.declared.reply.Outcome.{Outcome}
use Rattle.sumcheck_replies.specs.declared.reply.Outcome.TheVariants.{Holds, Told, Refuted, Lucky, Usage, JobRefused, ProofRefused, NoWitness}
use Rattle.sumcheck_replies.specs.Lines.{round_text}

pub record Reply : Type 0 where
  pub outcome : Outcome
  pub text : List ℕ

-- the status that an outcome has
abbrev pub code_of : Outcome → ℕ
code_of Holds = 0
code_of Told = 0
code_of Refuted = 1
code_of Lucky = 1
code_of Usage = 2
code_of JobRefused = 3
code_of ProofRefused = 4
code_of NoWitness = 5

-- a refused job, in one line
unfoldable pub refused : List ℕ → Reply
refused why = record { outcome = JobRefused; text = codes "refused " ++ why ++ codes "\n" }

-- a refused proof, in one line
unfoldable pub proof_refused : List ℕ → Reply
proof_refused why = record { outcome = ProofRefused; text = codes "proof refused " ++ why ++ codes "\n" }

-- a build that finds no witness, in one line that says where
unfoldable pub no_witness_at : List ℕ → Reply
no_witness_at place = record { outcome = NoWitness; text = codes "no witness " ++ place ++ codes "\n" }

-- the same in this round
abbrev pub no_witness : ℕ → Reply
no_witness round = no_witness_at (round_text round)

-- the answer to words that are no command
unfoldable pub usage : Reply
usage = record { outcome = Usage; text = codes "usage\n" }

-- The answer, where there is one, is this reply.
abbrev pub Replies : {E : Type 0} → Result Reply E → Reply → Type 0
Replies result reply = IfOk result (λ a. a ≡ reply)
