use Rattle.std.proofs.Common.{◌≡◌, ◌-◌, length, map, drop}
use Rattle.sc_definitions.specs.Polynomials.{poly_at}
use Rattle.sc_openings.proofs.values.claim_at.Given as goal

abbrev pub invariant-loop-i : goal.invariant-loop-i
invariant-loop-i g l =
    let e = g.EF.Field in
    e.number l.claim ≡ poly_at e.ops (drop (length l.claimed - l.i) (map e.number l.claimed)) (e.number l.challenge)
