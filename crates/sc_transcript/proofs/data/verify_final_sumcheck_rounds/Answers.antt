use Rattle.std.proofs.Common.{◌≡◌, ℕ, ◌<◌, Option, Some, IfSome, arith}
use Rattle.sc_transcript.proofs.data.verify_final_sumcheck_rounds.Goals as goal

not_above : (n : ℕ) → n ≡ 0 → 0 < n → ⊥
not_above n none some = omega arith

-- what holds of the data that came
with_data : {X : Type 0} (found : Option X) (x : X) (P : X → Type 0) → found ≡ Some x → P x → IfSome found P
with_data found x P is holds = rw is holds

-- for no rounds nothing is missing
pub returns-then-rounds-eq0-clause-missing : goal.returns-then-rounds-eq0-clause-missing
returns-then-rounds-eq0-clause-missing g c = ((λ told. cc), (λ lacks. absurd (not_above _ c.if-rounds-eq0.true lacks.0)))

pub returns-in-Some-clause-none : goal.returns-in-Some-clause-none
returns-in-Some-clause-none g c = λ none. absurd (c.if-rounds-eq0.false none)

-- with data it is their replay
pub returns-in-Some-clause-left : goal.returns-in-Some-clause-left
returns-in-Some-clause-left g c = with_data _ _ _ c.in-Some.is (λ _. c.verify_rounds.ensures.left)
