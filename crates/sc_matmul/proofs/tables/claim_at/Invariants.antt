use Rattle.std.proofs.Common.{◌≡◌, ◌-◌, length, map, drop}
use Rattle.sc_definitions.specs.Polynomials.{poly_at}
use Rattle.sc_matmul.proofs.tables.claim_at.Given as goal

abbrev pub invariant-loop-i : goal.invariant-loop-i
invariant-loop-i g l =
    g.EF.Field.number l.claim
    ≡ poly_at g.EF.Field.ops (drop (length l.claimed - l.i) (map (λ x. g.EF.Algebra.embedding (g.F.Field.number x)) l.claimed)) (g.EF.Field.number l.point)
