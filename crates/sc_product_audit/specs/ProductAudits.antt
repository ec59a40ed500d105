-- What is said of an answer, what it leaves of the challenger's history, and what is certified where rounds let a false sum through.
use Rattle.std.specs.Prelude.{◌≡◌, ◌⊎◌, ℕ, suc, ◌<◌, List, ◌++◌, length, take, Some, Result, Ok, Err}
use Rattle.std.specs.List.{slice_get}
use Rattle.sc_definitions.specs.declared.events.Event.{Event}
use Rattle.sc_definitions.specs.Ring.{Ops}
use Rattle.sc_definitions.specs.Transcript.{Round, before_draw, rounds_events}
use Rattle.sc_definitions.specs.Replays.{given_rounds}
use Rattle.sc_definitions.specs.Lucky.{IsCertificate, LuckyChallenge, in_batch, in_round}
use Rattle.sc_audit_errors.specs.Findings.{holds, lucky}
use Rattle.sc_product_audit.specs.declared.error.ProductError.{ProductError}
use Rattle.sc_product_audit.specs.declared.error.ProductError.TheVariants.{PolyEvalCountMismatch, InvalidPowWitness, NoWitness, NoMemory}
use Rattle.sc_product_audit.specs.ProductCases.{ProductTask, to_build, to_check, ProductAsked, ProductCase, true_sum, product_start}
use Rattle.sc_product_audit.specs.ProductShapes.{product_shape}
use Rattle.sc_product_audit.specs.ProductRounds.{product_built, rounds_given}
use Rattle.sc_product_audit.specs.ProductReports.{ProductFigures, ProductReported}

-- ---- what is answered

-- An answer is exactly this result, or want of memory.
abbrev pub GivesResult : Result ProductReported ProductError → Result ProductReported ProductError → Type 0
GivesResult due (Ok r) = due ≡ Ok r
GivesResult due (Err e) = (e ≡ NoMemory) ⊎ (due ≡ Err e)

-- ---- what is left of the history

-- these rounds, with this claimed sum, are those that are built, or those of the proof
abbrev pub AreAsked : ProductCase → ProductTask → ℕ → List Round → Type 0
AreAsked k to_build claimed rounds = (claimed ≡ true_sum k) × (product_built k ≡ Ok rounds)
AreAsked k (to_check g) claimed rounds = (claimed ≡ g.claimed) × (rounds_given g ≡ rounds)

-- the history after rounds with a claimed sum
abbrev pub product_history : ProductCase → ℕ → List Round → List Event
product_history k claimed rounds = product_start k claimed ++ rounds_events k.channel.extension k.channel.bits rounds

-- So many of the rounds that are asked for stand in the history, from the first on, or all of them, and it ends there.
pub record EndsAfter (k : ProductCase) (task : ProductTask) (count : ℕ) (h' : List Event) : Type 0 where
  pub claimed : ℕ
  pub rounds : List Round
  pub are : AreAsked k task claimed rounds
  pub history : h' ≡ product_history k claimed (take count rounds)

-- The rounds before round i do, and then the history ends with the test of that round's witness.
pub record EndsInTest (k : ProductCase) (task : ProductTask) (i : ℕ) (h' : List Event) : Type 0 where
  pub claimed : ℕ
  pub rounds : List Round
  pub are : AreAsked k task claimed rounds
  pub round : Round
  pub is : slice_get rounds i ≡ Some round
  pub history : h' ≡ product_history k claimed (take i rounds) ++ before_draw k.channel.extension k.channel.bits round

-- the rounds that figures show
abbrev pub rounds_shown : ProductFigures → List Round
rounds_shown f = given_rounds f.messages f.witnesses

-- What an answer leaves of the history: the rounds that a report shows, all of them; those before the round that is refused, or its test too; and else as
-- it was. After want of memory it is as it was, or some of the rounds stand in it.
abbrev pub LeavesHistory : ProductCase → ProductTask → Result ProductReported ProductError → List Event → Type 0
LeavesHistory k task (Ok r) h' = h' ≡ product_history k r.figures.claimed (rounds_shown r.figures)
LeavesHistory k task (Err (PolyEvalCountMismatch i expected actual)) h' = EndsAfter k task i h'
LeavesHistory k task (Err (InvalidPowWitness i bits)) h' = EndsInTest k task i h'
LeavesHistory k task (Err NoMemory) h' = (h' ≡ k.history) ⊎ ((count : ℕ) × EndsAfter k task count h')
LeavesHistory k task (Err e) h' = h' ≡ k.history

-- ---- what is promised

-- it holds, or a round at a difficulty has no witness, or there is no memory
abbrev pub HoldsOrLacks : ℕ → Result ProductReported ProductError → Type 0
HoldsOrLacks bits (Ok r) = r.finding ≡ holds
HoldsOrLacks bits (Err (NoWitness i)) = 0 < bits
HoldsOrLacks bits (Err NoMemory) = Unit {0}
HoldsOrLacks bits (Err e) = ⊥

-- so does a build whose shape fits
abbrev pub HoldsWhereBuilt : ProductAsked → Result ProductReported ProductError → Type 0
HoldsWhereBuilt q answer = (n : ℕ) → product_shape q ≡ Ok n → q.task ≡ to_build → HoldsOrLacks q.channel.bits answer

-- a round's luck: its challenge is there, and the polynomial, of one coefficient more than the degree, certifies it
pub record IsProductLuck (o : Ops) (degree : ℕ) (rs : List ℕ) (round : ℕ) (polynomial : List ℕ) (roots : ℕ) : Type 0 where
  pub challenge : ℕ
  pub drawn : slice_get rs round ≡ Some challenge
  pub certificate : IsCertificate o challenge polynomial roots
  pub coefficients : length polynomial ≡ suc degree

-- It is certified, by the polynomial of a round. There is no batch.
abbrev pub IsProductCertified : ProductCase → List ℕ → LuckyChallenge → Type 0
IsProductCertified k rs (in_batch polynomial roots) = ⊥
IsProductCertified k rs (in_round round polynomial roots) = IsProductLuck k.ops (length k.tables) rs round polynomial roots

-- A challenge that is named lucky is certified; and where the residual is the product although the claimed sum is false, one is named.
pub record CertifiesProduct (k : ProductCase) (r : ProductReported) : Type 0 where
  pub named : (l : LuckyChallenge) → r.finding ≡ lucky l → IsProductCertified k r.figures.challenges l
  pub no_other : r.figures.residual ≡ r.figures.product → (r.figures.claimed ≡ true_sum k → ⊥) → (l : LuckyChallenge) × (r.finding ≡ lucky l)
