use Rattle.std.proofs.Common.{sym, ◌∙◌, arith}
use Rattle.sc_matmul.proofs.SideLaws.{side-found, side-none, side-large}
use Rattle.sc_audit_errors.proofs.ArityLaws.{arity-tells}
use Rattle.sc_matmul.proofs.shape.variables_of.Goals as goal
use Rattle.sc_matmul.proofs.shape.variables_of.Goals.{in_default-via-in-Some+else-n-le-MOST_SIDE_VARIABLES, in_default-via-in_default}

pub returns-in-Some : goal.returns-in-Some
returns-in-Some c =
    side-found c.args.side c.in-Some.n (arity-tells c.args.side c.in-Some.n (sym c.arity.ensures ∙ c.in-Some.is)).0 c.if-n-le-MOST_SIDE_VARIABLES.true

pub returns-in_default : goal.returns-in_default
returns-in_default c = elim c.in_default.branch [
  | in_default-via-in-Some+else-n-le-MOST_SIDE_VARIABLES w ↦
      side-large c.args.side w.in-Some.n (sym c.arity.ensures ∙ w.in-Some.is) (λ small. let large = w.if-n-le-MOST_SIDE_VARIABLES.false in omega (arith, large, small))
  | in_default-via-in_default w ↦ side-none c.args.side (sym c.arity.ensures ∙ w.in_default.is)
]
