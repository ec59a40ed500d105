use Rattle.std.proofs.Common.{◌≡◌, ◌<◌, ◌^◌, ◌==◌, ℕ, false, sym, ◌∙◌, arith, subst}
use Rattle.sc_circuit.proofs.ShapeLaws.{shifted, variables-at, variables-none}
use Rattle.sc_circuit.proofs.shape.variables_of.Goals as goal

pub returns-then-len-k : goal.returns-then-len-k
returns-then-len-k c =
    let low : c.loop-k.k < 9 = omega (arith, c.loop-k-test) in
    sym (variables-at c.args.len c.loop-k.k low c.loop-k.invariant (c.if-len-k.true ∙ shifted c.loop-k.k low))

pub returns : goal.returns
returns c =
    let end : c.loop-k.k ≡ 9 = omega (arith, c.loop-k.auto, c.loop-k-test) in
    sym (variables-none c.args.len (subst (λ n. (j : ℕ) → j < n → (c.args.len == 2 ^ j) ≡ false) end c.loop-k.invariant))
