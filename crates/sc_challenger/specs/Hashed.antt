-- What the hash challenger answers: SHA-256 (FIPS 180-4) over the history, event by event.
use Rattle.std.specs.Prelude.{ℕ, ◌-◌, ◌/◌, ◌%◌, ◌^◌, ◌==◌, List, [], ◌∷◌, ◌++◌, fold, slice_index}
use Rattle.std.specs.Int.{w64, to_be_bytes, from_be_bytes}
use Rattle.sha2.specs.Sha256.{sha256}
use Rattle.sc_definitions.specs.declared.events.Event.{Event}
use Rattle.sc_definitions.specs.declared.events.Event.TheVariants.{Word, Draw, Test}
use Rattle.sc_definitions.specs.Events.{Rules}

-- the state after one event more: the digest of the state before it, a byte that tells the kind of the event, and the number that
-- the event has, as 8 bytes, the highest first
abbrev pub next_state : List ℕ → Event → List ℕ
next_state state (Word x) = sha256 (state ++ 1 ∷ [] ++ to_be_bytes w64 x)
next_state state Draw = sha256 (state ++ 2 ∷ [])
next_state state (Test bits) = sha256 (state ++ 3 ∷ [] ++ to_be_bytes w64 bits)

-- the state of a history: that of no event is the digest of the empty text
abbrev pub state_of : List Event → List ℕ
state_of h = fold next_state (sha256 []) h

-- the first 8 bytes of a state as a number, the highest first
abbrev pub leading : List ℕ → ℕ
leading state = from_be_bytes w64
    (slice_index state 0 ∷ slice_index state 1 ∷ slice_index state 2 ∷ slice_index state 3
    ∷ slice_index state 4 ∷ slice_index state 5 ∷ slice_index state 6 ∷ slice_index state 7 ∷ [])

-- Over a field of so many elements: the draw at a history is the leading number of its state, modulo the size; a witness passes where
-- the state after its word begins with as many zero bits as the test has.
abbrev pub hash_rules : ℕ → Rules
hash_rules size = record {
  draw = λ h. leading (state_of h) % size;
  passes = λ h bits w. leading (next_state (state_of h) (Word w)) / 2 ^ (64 - bits) == 0;
  max_bits = 16;
}
