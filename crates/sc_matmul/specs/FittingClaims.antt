-- A claim whose matrices fit, by the numbers of its elements.
use Rattle.std.specs.declared.cmp.PartialEq.{Ghosts as PartialEqOf}
use Rattle.sc_field.specs.declared.field.Field.{Ghosts as FieldOf}
use Rattle.sc_field.specs.declared.algebra.Algebra.{Ghosts as AlgebraOf}
use Rattle.sc_field.specs.declared.algebra.ExtensionField.{Ghosts as ExtensionOf}
use Rattle.sc_challenger.specs.Parties.{Party}
use Rattle.sc_merge_definitions.specs.Matrices.{MatmulCase}
use Rattle.sc_matmul.specs.declared.shape.FittingClaim.{FittingClaim}
use Rattle.sc_matmul.specs.MatmulJobs.{fields, claimed_in, case_of}

module _ {F EF : Type 0} {f : FieldOf F} {p : PartialEqOf F} {x : ExtensionOf EF F} {a : AlgebraOf EF F} {e : FieldOf EF} {q : PartialEqOf EF} where
  -- its case with a challenger
  abbrev pub case_by : FittingClaim F EF f p x a e q → Party → MatmulCase
  case_by c party = case_of (fields f.ops e.ops a.embedding x.extension) (claimed_in f.number c.left.now c.right.now c.claimed.now) c.pow_bits party
