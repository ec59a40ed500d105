-- What clauses see of requests.
use Rattle.std.specs.Prelude.{ℕ, List, length, map}
use Rattle.sc_layout.specs.declared.request.OpeningRequest.{OpeningRequest}
use Rattle.sc_layout.specs.declared.request.OpeningEvals.{OpeningEvals}

-- How many values are opened at a point, and how many through the successor map there.
pub record Counts : Type 0 where
  pub current : ℕ
  pub next : ℕ

-- the counts of these
abbrev pub counts : ℕ → ℕ → Counts
counts current next = record { current = current; next = next }

-- how many values a request asks for
abbrev pub asked_in : OpeningRequest → Counts
asked_in r = counts (length r.current) (length r.next)

-- The values of an opening: those at its point, and those through the successor map there.
pub record Values : Type 0 where
  pub current : List ℕ
  pub next : List ℕ

-- the record of these
abbrev pub values : List ℕ → List ℕ → Values
values current next = record { current = current; next = next }

-- how many there are
abbrev pub counts_of : Values → Counts
counts_of v = counts (length v.current) (length v.next)

-- the values that an answer has
abbrev pub values_in : {EF : Type 0} → (EF → ℕ) → OpeningEvals EF → Values
values_in number v = values (map number v.current) (map number v.next)
