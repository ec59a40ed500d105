-- What is certified of a report whose residual is right although a statement is false.
use Rattle.std.specs.Prelude.{◌≡◌}
use Rattle.sc_definitions.specs.Ring.{Ops, ◌*⟨◌⟩◌}
use Rattle.sc_definitions.specs.Statements.{AllTrueOf}
use Rattle.sc_definitions.specs.Problem.{Problem}
use Rattle.sc_definitions.specs.Lucky.{LuckyChallenge, IsCertified}
use Rattle.sc_audit_errors.specs.Findings.{lucky}
use Rattle.sc_jobs.specs.Figures.{Figures}

-- A challenge that is named lucky is certified; and where the residual is right although a statement is false, one is named.
pub record CertifiesLuck (o : Ops) (p : Problem) (f : Figures) : Type 0 where
  pub named : (l : LuckyChallenge) → f.finding ≡ lucky l → IsCertified o p f.challenges l
  pub no_other : f.residual ≡ f.eval *⟨ o ⟩ f.weight → (AllTrueOf o p.variables p.table p.statements → ⊥) → (l : LuckyChallenge) × (f.finding ≡ lucky l)
