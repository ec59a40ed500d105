-- What contracts see of the iterator over an equality statement.
use Rattle.std.specs.Prelude.{ℕ, List, map}
use Rattle.std.specs.Borrow.{Bor}
use Rattle.sc_definitions.specs.Statements.{equality, Statement, claims}
use Rattle.sc_statements.specs.Lists.{evaluated}
use Rattle.sc_statements.specs.EqStatements.{point_kind}
use Rattle.sc_statements.specs.declared.statement.eq.EqIter.{EqIter}

-- the statement that a point and a value are
abbrev pub pair_statement : {EF : Type 0} → (EF → ℕ) → Bor (List EF) × Bor EF → Statement
pair_statement number p = claims (equality (map number p.0.now)) (number p.1.now)

-- the statements whose points and values are still to come
abbrev pub pairs_left : {EF : Type 0} → (EF → ℕ) → EqIter EF → List Statement
pairs_left number s = map (evaluated (point_kind number) number) s.rest.now
