-- What an answer leaves of the challenger's history, and what is promised of a build.
use Rattle.std.specs.Prelude.{◌≡◌, ◌⊎◌, ◌<◌, ℕ, zero, suc, List, [], ◌∷◌, ◌++◌, map, take, Option, Some, None, Result, Ok, Err}
use Rattle.std.specs.List.{slice_get}
use Rattle.sc_definitions.specs.declared.events.Event.{Event}
use Rattle.sc_definitions.specs.Transcript.{Round, rounds_events, before_draw}
use Rattle.sc_degree.specs.declared.error.GenericDegreeError.{GenericDegreeError}
use Rattle.sc_degree.specs.declared.error.GenericDegreeError.TheVariants as rounds
use Rattle.sc_circuit_definitions.specs.declared.gate.Gate.{Gate}
use Rattle.sc_circuit_definitions.specs.CircuitPlays.{CircuitCase, LayerStart, first_start, SentLayer, before_rounds, play_of, next_start, circuit_events}
use Rattle.sc_circuit_definitions.specs.CircuitFindings.{holds, CircuitFigures, false_output}
use Rattle.sc_circuit.specs.declared.error.CircuitError.{CircuitError}
use Rattle.sc_circuit.specs.declared.error.CircuitError.TheVariants.{Layer, NoWitness, NoMemory}
use Rattle.sc_circuit.specs.Runs.{GivenLayer, sent_of}
use Rattle.sc_circuit.specs.CircuitRounds.{circuit_built}
use Rattle.sc_circuit.specs.CircuitReports.{early_fault, task_result, GivesResult}

-- ---- what is left of the history

-- these layers are those of what came, or those that are built, where nothing did
abbrev pub AreAsked : CircuitCase → Option (List GivenLayer) → List SentLayer → Type 0
AreAsked q None sent = circuit_built q ≡ Ok sent
AreAsked q (Some came) sent = map sent_of came ≡ sent

-- A part of the transcript of the layers that are asked for, from the front on, stands in the history.
pub record EndsWithin (q : CircuitCase) (came : Option (List GivenLayer)) (h' : List Event) : Type 0 where
  pub sent : List SentLayer
  pub are : AreAsked q came sent
  pub count : ℕ
  pub history : h' ≡ q.history ++ take count (circuit_events q sent)

-- the history ends with the test of a round's witness, after the events of the rounds before it
pub record EndsInTest (q : CircuitCase) (begun : List Event) (sent : List Round) (i : ℕ) (h' : List Event) : Type 0 where
  pub round : Round
  pub is : slice_get sent i ≡ Some round
  pub history : h' ≡ begun ++ rounds_events q.channel.extension q.channel.bits (take i sent) ++ before_draw q.channel.extension q.channel.bits round

-- What the refused rounds of a layer leave: where their counts are wrong, the history where the layer began; else the rounds before the refused one, and
-- its test, where it has two values.
abbrev pub EndsRefused : CircuitCase → List (List Gate) → LayerStart → List Round → GenericDegreeError → List Event → Type 0
EndsRefused q below at sent (rounds.RoundCountMismatch expected actual) h' = h' ≡ at.history
EndsRefused q below at sent (rounds.PowWitnessCountMismatch expected actual) h' = h' ≡ at.history
EndsRefused q below at sent (rounds.PolyEvalCountMismatch i expected actual) h' =
    h' ≡ before_rounds q below at ++ rounds_events q.channel.extension q.channel.bits (take i sent)
EndsRefused q below at sent (rounds.InvalidPowWitness i) h' = EndsInTest q (before_rounds q below at) sent i h'
EndsRefused q below at sent e h' = ⊥

-- the same of layer i of these, after the layers before it
abbrev pub EndsInLayer : CircuitCase → List (List Gate) → List GivenLayer → LayerStart → ℕ → GenericDegreeError → List Event → Type 0
EndsInLayer q [] came at i e h' = ⊥
EndsInLayer q (gates ∷ layers) [] at i e h' = ⊥
EndsInLayer q (gates ∷ layers) (g ∷ came) at zero e h' = EndsRefused q layers at (sent_of g).rounds e h'
EndsInLayer q (gates ∷ layers) (g ∷ came) at (suc i) e h' =
    EndsInLayer q layers came (next_start q layers (play_of q gates layers at (sent_of g))) i e h'

abbrev pub EndsInAsked : CircuitCase → Option (List GivenLayer) → ℕ → GenericDegreeError → List Event → Type 0
EndsInAsked q None i e h' = ⊥
EndsInAsked q (Some came) i e h' = EndsInLayer q q.layers came (first_start q) i e h'

-- What an answer leaves of the history: the transcript of the layers that a report shows; that up to the round that is refused, or its test; and else as it
-- was. After want of memory it is as it was, or a part of the transcript stands in it.
abbrev pub LeavesHistory : CircuitCase → Option (List GivenLayer) → Result CircuitFigures CircuitError → List Event → Type 0
LeavesHistory q came (Ok f) h' = h' ≡ q.history ++ circuit_events q f.came
LeavesHistory q came (Err (Layer i e)) h' = EndsInAsked q came i e h'
LeavesHistory q came (Err NoMemory) h' = (h' ≡ q.history) ⊎ EndsWithin q came h'
LeavesHistory q came (Err e) h' = h' ≡ q.history

-- what comes of outputs that are as many as they should be, at a difficulty that fits: the answer that is due to what came, or to a build, and what it
-- leaves of the history
pub record IsAnswered (q : CircuitCase) (came : Option (List GivenLayer)) (answer : Result CircuitFigures CircuitError) (h' : List Event) : Type 0 where
  pub result : GivesResult (task_result q came) answer
  pub history : LeavesHistory q came answer h'

-- ---- what is promised

-- it holds, or a round at a difficulty has no witness, or there is no memory
abbrev pub HoldsOrLacks : ℕ → Result CircuitFigures CircuitError → Type 0
HoldsOrLacks bits (Ok f) = f.finding ≡ holds
HoldsOrLacks bits (Err (NoWitness i j)) = 0 < bits
HoldsOrLacks bits (Err NoMemory) = Unit {0}
HoldsOrLacks bits (Err e) = ⊥

-- so does a build whose outputs and difficulty fit, and of which no output is false
abbrev pub HoldsWhereBuilt : CircuitCase → Option (List GivenLayer) → Result CircuitFigures CircuitError → Type 0
HoldsWhereBuilt q came answer = early_fault q ≡ None → came ≡ None → false_output q ≡ None → HoldsOrLacks q.channel.bits answer
