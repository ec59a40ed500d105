-- What the scripted challenger answers.
use Rattle.std.specs.Prelude.{ℕ, Bool, true, false, ◌==◌, List, [], count_by, slice_index_or}
use Rattle.std.specs.List.{list_any}
use Rattle.sc_definitions.specs.declared.events.Event.TheVariants.{Word, Draw, Test}
use Rattle.sc_definitions.specs.declared.events.Event.{Event}
use Rattle.sc_definitions.specs.Events.{Rules}

-- the event is a draw
abbrev pub is_draw : Event → Bool
is_draw (Word x) = false
is_draw Draw = true
is_draw (Test b) = false

-- the event is a test
abbrev pub is_test : Event → Bool
is_test (Word x) = false
is_test Draw = false
is_test (Test b) = true

-- how many draws a history has
abbrev pub draws_in : List Event → ℕ
draws_in h = count_by is_draw h

-- how many tests a history has
abbrev pub tests_in : List Event → ℕ
tests_in h = count_by is_test h

-- draw number d is entry number d, and 0 past the end; a witness passes test number t where list number t has it
abbrev pub scripted_rules : List ℕ → List (List ℕ) → Rules
scripted_rules draws good = record {
  draw = λ h. slice_index_or draws (draws_in h) 0;
  passes = λ h bits w. list_any (λ x. x == w) (slice_index_or good (tests_in h) []);
  max_bits = 16;
}
