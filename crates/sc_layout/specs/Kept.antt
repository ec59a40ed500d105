-- What a prover's claims keep beside their values: partial tables, by which these were made.
use Rattle.std.specs.Prelude.{◌≡◌, ℕ, All, List, length}
use Rattle.std.specs.declared.cmp.PartialEq.{Ghosts as PartialEqOf}
use Rattle.sc_definitions.specs.Ring.{Ops}
use Rattle.sc_definitions.specs.Tables.{Order}
use Rattle.sc_field.specs.declared.field.Field.{Ghosts as FieldOf}
use Rattle.sc_field.specs.declared.algebra.Algebra.{Ghosts as AlgebraOf}
use Rattle.sc_field.specs.declared.algebra.ExtensionField.{Ghosts as ExtensionOf}
use Rattle.sc_statements.specs.declared.claim.Claim.{Claim}
use Rattle.sc_partials.specs.declared.partials.EqSvoPartials.{EqSvoPartials}
use Rattle.sc_partials.specs.declared.next_partials.NextSvoPartials.{NextSvoPartials}
use Rattle.sc_partials.specs.Partials.{partial_sums_in, partial_sums_of}
use Rattle.sc_partials.specs.NextPartials.{next_sums_in, next_sums_of}
use Rattle.sc_svo.specs.declared.point.SvoPoint.{SvoPoint}
use Rattle.sc_svo.specs.Points.{point_in, near_in, order_in}
use Rattle.sc_layout.specs.declared.multi_claim.ProverMultiClaim.{ProverMultiClaim}
use Rattle.sc_layout.specs.Openings.{Laid}

module _ {F EF : Type 0} {f : FieldOf F} {p : PartialEqOf F} {x : ExtensionOf EF F} {a : AlgebraOf EF F} {e : FieldOf EF} {q : PartialEqOf EF} where
  -- the point of a claim, in two parts
  abbrev pub kept_point : ProverMultiClaim F EF f p x a e q → SvoPoint F EF f p x a e q
  kept_point c = c.point

  -- the values of a claim at its point, each with what is kept of it
  abbrev pub current_in : ProverMultiClaim F EF f p x a e q → List (Claim EF ℕ (EqSvoPartials EF))
  current_in c = c.current

  -- those through the successor map there
  abbrev pub next_in : ProverMultiClaim F EF f p x a e q → List (Claim EF ℕ (NextSvoPartials EF))
  next_in c = c.next

  -- a value of a table at a point in two parts is kept with its partial tables
  abbrev pub HasSums : Ops → (ℕ → ℕ) → SvoPoint F EF f p x a e q → Claim EF ℕ (EqSvoPartials EF) → Type 0
  HasSums o t z v = partial_sums_in e.number (v.eval, v.payload) ≡ partial_sums_of (order_in z) o t (point_in z) (length (near_in z))

  -- one through the successor map there is kept with its own
  abbrev pub HasNextSums : Ops → (ℕ → ℕ) → SvoPoint F EF f p x a e q → Claim EF ℕ (NextSvoPartials EF) → Type 0
  HasNextSums o t z v = next_sums_in e.number (v.eval, v.payload) ≡ next_sums_of (order_in z) o t (point_in z) (length (near_in z))

  -- A claim on a table keeps its point in two parts, of which so many coordinates are for rounds in this order, and each value with its partial tables.
  pub record KeepsPartials (o : Ops) (order : Order) (rounds : ℕ) (t : ℕ → ℕ) (c : ProverMultiClaim F EF f p x a e q) : Type 0 where
    pub order_is : order_in (kept_point c) ≡ order
    pub rounds_are : length (near_in (kept_point c)) ≡ rounds
    pub current : All (HasSums o t (kept_point c)) (current_in c)
    pub next : All (HasNextSums o t (kept_point c)) (next_in c)

  -- each claim does, on a table that a prover shows
  abbrev pub AllKeep : Ops → Laid → List (ProverMultiClaim F EF f p x a e q) → Type 0
  AllKeep o l cs = All (KeepsPartials o l.order l.folding l.rows) cs
