-- The witnesses of rounds at any difficulty: those that an honest prover finds, and those of a proof that fail.
use Rattle.std.specs.Prelude.{ℕ, zero, suc, List, [], ◌∷◌, ◌++◌, if◌then◌else◌, Option, Some, None, option_map, Result, Ok, Err}
use Rattle.sc_definitions.specs.Least.{least_below}
use Rattle.sc_definitions.specs.declared.events.Event.{Event}
use Rattle.sc_definitions.specs.Events.{Rules, Extension}
use Rattle.sc_definitions.specs.Transcript.{Round, round_of, sent, round_events, challenge}
use Rattle.sc_definitions.specs.Replays.{round_passes}
use Rattle.sc_definitions.specs.Channels.{Channel}

-- The witness that an honest prover finds where the values of a round have been observed, if there is one: the least number of an element of the base
-- field, which has so many, that passes the test. Without a difficulty it is 0.
abbrev pub witness_at : Rules → ℕ → ℕ → List Event → Option ℕ
witness_at R size zero h = Some 0
witness_at R size (suc b) h = least_below size (R.passes h (suc b))

-- what comes of a witness; without one, this round is the one that has none
abbrev pub with_witness : Option ℕ → (ℕ → Result (List Round) ℕ) → Result (List Round) ℕ
with_witness None rest = Err 0
with_witness (Some w) rest = rest w

-- a round before others; or, if one of them has no witness, its number counted from that round on
abbrev pub round_before : Round → Result (List Round) ℕ → Result (List Round) ℕ
round_before r (Ok rounds) = Ok (r ∷ rounds)
round_before r (Err i) = Err (suc i)

-- The rounds that an honest prover builds over a channel: played from h on, after the challenges rs and with n variables left, each sends what `honest`
-- gives for the challenges before it and the number of variables after it, with the witness that is found after these values. Or else the number of
-- the first round, counted from 0, for which none is found.
abbrev pub honest_rounds : (List ℕ → ℕ → List ℕ) → Channel → List Event → List ℕ → ℕ → Result (List Round) ℕ
honest_rounds honest c h rs zero = Ok []
honest_rounds honest c h rs (suc n) =
    with_witness (witness_at c.rules c.base_size c.bits (h ++ sent c.extension (honest rs n))) (λ w.
    round_before (round_of (honest rs n) w)
    (honest_rounds honest c (h ++ round_events c.extension c.bits (round_of (honest rs n) w)) (rs ++ challenge c.rules c.extension c.bits h (round_of (honest rs n) w) ∷ []) n))

-- the number of the first round, counted from 0, whose witness fails, of rounds that are played from h on
abbrev pub first_failing : Rules → Extension → ℕ → List Event → List Round → Option ℕ
first_failing R E bits h [] = None
first_failing R E bits h (r ∷ rounds) =
    if round_passes R E bits h r then option_map suc (first_failing R E bits (h ++ round_events E bits r) rounds) else Some 0
