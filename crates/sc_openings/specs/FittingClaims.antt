-- Claims that fit their tables, by the numbers of their elements.
use Rattle.std.specs.declared.cmp.PartialEq.{Ghosts as PartialEqOf}
use Rattle.sc_field.specs.declared.field.Field.{Ghosts as FieldOf}
use Rattle.sc_field.specs.declared.algebra.Algebra.{Ghosts as AlgebraOf}
use Rattle.sc_field.specs.declared.algebra.ExtensionField.{Ghosts as ExtensionOf}
use Rattle.sc_challenger.specs.Parties.{Party}
use Rattle.sc_merge_definitions.specs.Openings.{OpeningsCase}
use Rattle.sc_openings.specs.declared.shape.FittingClaims.{FittingClaims}
use Rattle.sc_openings.specs.OpeningsJobs.{fields, ClaimedTables, claimed_in, case_of, OpeningsJob, job_of}

module _ {F EF : Type 0} {f : FieldOf F} {p : PartialEqOf F} {x : ExtensionOf EF F} {a : AlgebraOf EF F} {e : FieldOf EF} {q : PartialEqOf EF} where
  -- their tables and claims
  abbrev pub claimed_by : FittingClaims F EF f p x a e q → ClaimedTables
  claimed_by c = claimed_in f.number e.number c.num_variables c.tables.now c.claims.now

  -- their case with a challenger
  abbrev pub case_by : FittingClaims F EF f p x a e q → Party → OpeningsCase
  case_by c party = case_of (fields f.ops e.ops a.embedding x.extension) (claimed_by c) c.pow_bits party

  -- their job with one
  abbrev pub job_by : FittingClaims F EF f p x a e q → Party → OpeningsJob
  job_by c party = job_of (fields f.ops e.ops a.embedding x.extension) (claimed_by c) c.pow_bits party
