-- Openings: statements on a table at a point that is drawn, where they are recorded, and their events.
use Rattle.std.specs.Prelude.{◌≡◌, ◌⊎◌, ℕ, zero, suc, ◌*◌, ◌≤◌, All, List, [], ◌∷◌, ◌++◌, flat_map, map, replicate}
use Rattle.sc_definitions.specs.declared.events.Event.{Event}
use Rattle.sc_definitions.specs.declared.events.Event.TheVariants.{Draw}
use Rattle.sc_definitions.specs.Ring.{Ops}
use Rattle.sc_definitions.specs.Tables.{Order, prefix}
use Rattle.sc_definitions.specs.Events.{Rules, Extension, extension_draw}
use Rattle.sc_definitions.specs.Transcript.{sent}
use Rattle.sc_definitions.specs.Statements.{Kind, equality, successor, Statement, claims, arity_of, true_value}
use Rattle.sc_challenger.specs.Parties.{Party}
use Rattle.sc_layout.specs.Requests.{Counts, Values, values}

-- ---- what is opened

-- what a value at a point speaks of
abbrev pub current_at : List ℕ → Kind
current_at zs = equality zs

-- what a value through the successor map there speaks of; there is no selector
abbrev pub next_at : List ℕ → Kind
next_at zs = successor prefix [] zs

-- The values of an opening: its point, those there, and those through the successor map.
pub record Opened : Type 0 where
  pub point : List ℕ
  pub current : List ℕ
  pub next : List ℕ

-- the record of these
abbrev pub opened : List ℕ → List ℕ → List ℕ → Opened
opened point current next = record { point = point; current = current; next = next }

-- what it claims: the current values in order, and then the next ones
abbrev pub opened_statements : Opened → List Statement
opened_statements x = map (claims (current_at x.point)) x.current ++ map (claims (next_at x.point)) x.next

-- as many values as are asked for, each the true one of a table of n variables at a point
abbrev pub true_values_at : Ops → ℕ → (ℕ → ℕ) → Counts → List ℕ → Values
true_values_at o n f asked zs =
    values (replicate asked.current (true_value o n f (current_at zs))) (replicate asked.next (true_value o n f (next_at zs)))

-- ---- what is recorded

-- Claims that are recorded: the concrete ones, each with its point and its values, and the virtual ones.
pub record Recorded : Type 0 where
  pub concrete : List Opened
  pub virtual : List Statement

-- nothing yet
abbrev pub none_recorded : Recorded
none_recorded = record { concrete = []; virtual = [] }

-- all statements: those of the concrete claims in order, and then the virtual ones
abbrev pub statements_of : Recorded → List Statement
statements_of b = flat_map opened_statements b.concrete ++ b.virtual

-- each is on a table of n variables
abbrev pub HaveArity : ℕ → List Statement → Type 0
HaveArity n ss = All (λ (s : Statement). arity_of n s.kind ≡ n) ss

-- each is true of a table of n variables
abbrev pub AreTrue : Ops → ℕ → (ℕ → ℕ) → List Statement → Type 0
AreTrue o n f ss = All (λ (s : Statement). true_value o n f s.kind ≡ s.claimed) ss

-- ---- at a point that is drawn

-- the point of n coordinates that is drawn at a history, the first coordinate first
unfoldable pub drawn_point : Rules → Extension → List Event → ℕ → List ℕ
drawn_point R E h zero = []
drawn_point R E h (suc n) = drawn_point R E h n ++ extension_draw R E (h ++ replicate (n * E.degree) Draw) ∷ []

-- the events of drawing it
abbrev pub point_events : Extension → ℕ → List Event
point_events E n = replicate (n * E.degree) Draw

-- the events of an opening: its point is drawn, and its values are observed in order
abbrev pub opening_events : Extension → ℕ → List ℕ → List Event
opening_events E n values = point_events E n ++ sent E values

-- How openings are taken: by a challenger's rules, over an extension, of a table of so many variables.
pub record Taking : Type 0 where
  pub rules : Rules
  pub extension : Extension
  pub variables : ℕ

-- the record of these
abbrev pub taking : Rules → Extension → ℕ → Taking
taking R E n = record { rules = R; extension = E; variables = n }

-- its point, where it is drawn at this history
abbrev pub point_at : Taking → List Event → List ℕ
point_at t h = drawn_point t.rules t.extension h t.variables

-- Where openings stand: the history, and what is recorded.
pub record OpeningState : Type 0 where
  pub history : List Event
  pub recorded : Recorded

-- the record of these
abbrev pub opening_state : List Event → Recorded → OpeningState
opening_state h b = record { history = h; recorded = b }

-- A concrete claim was added: its point was drawn, its values were observed, and it stands after the others.
pub record AddsConcrete (t : Taking) (x : Opened) (before after : OpeningState) : Type 0 where
  pub point : x.point ≡ point_at t before.history
  pub history : after.history ≡ before.history ++ opening_events t.extension t.variables (x.current ++ x.next)
  pub concrete : after.recorded.concrete ≡ before.recorded.concrete ++ x ∷ []
  pub virtual : after.recorded.virtual ≡ before.recorded.virtual

-- A virtual claim of this value was added: its point was drawn, the value was observed, and it stands after the others.
pub record AddsVirtual (t : Taking) (value : ℕ) (before after : OpeningState) : Type 0 where
  pub history : after.history ≡ before.history ++ opening_events t.extension t.variables (value ∷ [])
  pub concrete : after.recorded.concrete ≡ before.recorded.concrete
  pub virtual : after.recorded.virtual ≡ before.recorded.virtual ++ claims (current_at (point_at t before.history)) value ∷ []

-- Nothing was added: the claims are as they were, and the history too, or it ends after the point.
pub record AddsNothing (t : Taking) (before after : OpeningState) : Type 0 where
  pub recorded : after.recorded ≡ before.recorded
  pub history : (after.history ≡ before.history) ⊎ (after.history ≡ before.history ++ point_events t.extension t.variables)

-- ---- a table that is opened

-- What a prover shows of its table: in which order rounds bind its variables, how many of them are bound by small-value rounds, how many there are, its
-- rows, and what is recorded of it.
pub record Laid : Type 0 where
  pub order : Order
  pub folding : ℕ
  pub variables : ℕ
  pub rows : ℕ → ℕ
  pub recorded : Recorded

-- Its folding is within bounds, and all that is recorded is on the table, and true of it.
pub record IsSound (o : Ops) (l : Laid) : Type 0 where
  pub some : 1 ≤ l.folding
  pub few : l.folding ≤ 12
  pub within : l.folding ≤ l.variables
  pub small : l.variables ≤ 40
  pub arity : HaveArity l.variables (statements_of l.recorded)
  pub truth : AreTrue o l.variables l.rows (statements_of l.recorded)

-- table, order and folding are what they were
abbrev pub KeepsTable : Laid → Laid → Type 0
KeepsTable before after = after ≡ record before { recorded = after.recorded }

-- A prover under a challenger: its rules, the history, and what the prover shows.
pub record LaidAt : Type 0 where
  pub rules : Rules
  pub history : List Event
  pub laid : Laid

-- the record of these
abbrev pub laid_at : Party → Laid → LaidAt
laid_at p l = record { rules = p.rules; history = p.history; laid = l }

-- how its openings are taken
abbrev pub taking_of : Extension → LaidAt → Taking
taking_of E s = taking s.rules E s.laid.variables

-- where they stand
abbrev pub opening_state_of : LaidAt → OpeningState
opening_state_of s = opening_state s.history s.laid.recorded

-- the point that is drawn next
abbrev pub next_point : Extension → LaidAt → List ℕ
next_point E s = point_at (taking_of E s) s.history

-- The table was opened at a drawn point: so many values were asked for, and the true ones are answered and recorded.
pub record Opens (o : Ops) (E : Extension) (asked : Counts) (v : Values) (before after : LaidAt) : Type 0 where
  pub truth : v ≡ true_values_at o before.laid.variables before.laid.rows asked (next_point E before)
  pub adds : AddsConcrete (taking_of E before) (opened (next_point E before) v.current v.next) (opening_state_of before) (opening_state_of after)

-- The table's value at a drawn point was answered and recorded.
pub record OpensVirtual (o : Ops) (E : Extension) (value : ℕ) (before after : LaidAt) : Type 0 where
  pub truth : value ≡ true_value o before.laid.variables before.laid.rows (current_at (next_point E before))
  pub adds : AddsVirtual (taking_of E before) value (opening_state_of before) (opening_state_of after)

-- Nothing was opened.
abbrev pub OpensNothing : Extension → LaidAt → LaidAt → Type 0
OpensNothing E before after = AddsNothing (taking_of E before) (opening_state_of before) (opening_state_of after)
