-- What is asked of tables, by the numbers of their elements.
use Rattle.std.specs.Prelude.{ℕ, List, length, map}
use Rattle.std.specs.Prelude.{Vec}
use Rattle.std.specs.Global.{Global}
use Rattle.sc_definitions.specs.Ring.{Ops}
use Rattle.sc_definitions.specs.Tables.{rows_of}
use Rattle.sc_definitions.specs.Events.{Extension}
use Rattle.sc_definitions.specs.Statements.{claims}
use Rattle.sc_definitions.specs.Channels.{Wire}
use Rattle.sc_challenger.specs.Parties.{Party, channel_by}
use Rattle.sc_transcript.specs.Data.{wire_in}
use Rattle.sc_merge_definitions.specs.Openings.{TableClaim, claim_kind, OpeningsCase}
use Rattle.sc_openings.specs.declared.claim.OpeningClaim.{OpeningClaim}
use Rattle.sc_openings.specs.declared.claim.MergeProof.{MergeProof}

-- The fields of a job: that of the tables and that of the challenges, the map of the first into the second, and the parts of the second's elements.
pub record Fields : Type 0 where
  pub base : Ops
  pub ops : Ops
  pub embedding : ℕ → ℕ
  pub extension : Extension

-- the fields of these
abbrev pub fields : Ops → Ops → (ℕ → ℕ) → Extension → Fields
fields base ops embedding extension = record { base = base; ops = ops; embedding = embedding; extension = extension }

-- tables of so many variables, each by its entries, and what is claimed of them
pub record ClaimedTables : Type 0 where
  pub variables : ℕ
  pub tables : List (List ℕ)
  pub claims : List TableClaim

-- a claim
abbrev pub claim_in : {EF : Type 0} → (EF → ℕ) → OpeningClaim EF → TableClaim
claim_in number c = record { table = c.table; statement = claims (claim_kind c.successor (map number c.point)) (number c.value) }

-- tables and claims on them
abbrev pub claimed_in : {F EF : Type 0} → (F → ℕ) → (EF → ℕ) → ℕ → List (Vec F Global) → List (OpeningClaim EF) → ClaimedTables
claimed_in base number n tables cs = record { variables = n; tables = map (λ t. map base t.items) tables; claims = map (claim_in number) cs }

-- the table of these entries in the ring of the challenges
abbrev pub table_of_entries : (ℕ → ℕ) → List ℕ → ℕ → ℕ
table_of_entries embedding xs b = embedding (rows_of xs b)

-- the case that is asked of a challenger, at a difficulty
abbrev pub case_of : Fields → ClaimedTables → ℕ → Party → OpeningsCase
case_of fs a bits party = record {
  ops = fs.ops;
  variables = a.variables;
  tables = map (table_of_entries fs.embedding) a.tables;
  claims = a.claims;
  channel = channel_by party fs.extension fs.base.size bits;
  history = party.history;
}

-- a case, and how many entries each of its tables has
pub record OpeningsJob : Type 0 where
  pub case : OpeningsCase
  pub lengths : List ℕ

-- the job that is asked of a challenger, at a difficulty
abbrev pub job_of : Fields → ClaimedTables → ℕ → Party → OpeningsJob
job_of fs a bits party = record { case = case_of fs a bits party; lengths = map length a.tables }

-- a proof: what it has put on the wire, and its openings
pub record CameOpenings : Type 0 where
  pub wire : Wire
  pub openings : List ℕ

-- that of these elements
abbrev pub came_in : {F EF : Type 0} → (F → ℕ) → (EF → ℕ) → MergeProof F EF → CameOpenings
came_in base number p = record { wire = wire_in base number p.rounds; openings = map number p.openings.items }

-- the elements of a base field and of its extension have these numbers, those of the base field these images, and those of the extension these parts; nothing
-- more is said
abbrev pub AreFieldsOf : {F EF : Type 0} → (F → ℕ) → (EF → ℕ) → (ℕ → ℕ) → Extension → Type 0
AreFieldsOf base number embedding extension = Unit {0}
