use Rattle.std.proofs.Common.{◌≡◌, ℕ, ◌+◌, ◌<◌, ◌≤◌, length, map, ap, arith}
use Rattle.std.proofs.Math.ListN.{drop_of_length-le}
use Rattle.sc_definitions.specs.Tables.{evaluation}
use Rattle.sc_statements.specs.Weights.{weight_values}
use Rattle.sc_statements.proofs.Places.{weights-first, shorter-left}
use Rattle.sc_statements.proofs.weights.WeightsIterator.next.Goals as goal

-- a place that is not the end is below it
below-end : (i count n : ℕ) → (i ≡ count → ⊥) → count ≡ n → i ≤ n → i < n
below-end i count n not_end is within = omega (arith, not_end, is, within)

-- and the place after it is no larger than a number that fits
next-fits : (i count n bound : ℕ) → i < n → count ≡ n → count < bound → i + 1 < bound
next-fits i count n bound low is fits = omega (arith, low, is, fits)

-- and it is no further than the end
next-within : (i n : ℕ) → i < n → i + 1 ≤ n
next-within i n low = omega (arith, low)

-- at the end no weight is left
pub returns-then-self-count-clause-steps : goal.returns-then-self-count-clause-steps
returns-then-self-count-clause-steps g c =
    let f = g.EF.Field in
    let self = c.args.self.now in
    let ss = g.S.StatementList.statements self.statements.now in
    let past : length ss ≤ self.index = omega (arith, c.if-self-count.true, c.count.ensures) in
    let none = ap (weight_values evaluation f.ops (map f.number self.row.now)) (drop_of_length-le ss past) in
    (none, none)

-- the place is below the end
pub weight_at-weight-requires-clause-index : goal.weight_at-weight-requires-clause-index
weight_at-weight-requires-clause-index g c =
    let self = c.args.self.now in
    below-end self.index c.count.result (length (g.S.StatementList.statements self.statements.now)) c.if-self-count.false c.count.ensures self.within

-- the row has as many coordinates as at the start
pub weight_at-weight-requires-clause-arity : goal.weight_at-weight-requires-clause-arity
weight_at-weight-requires-clause-arity g c = c.args.self.now.fits

-- the place after it is no larger than a number that fits
pub overflow_add-self : goal.overflow_add-self
overflow_add-self g c =
    let self = c.args.self.now in
    let n = length (g.S.StatementList.statements self.statements.now) in
    record { fits = next-fits self.index c.count.result n 18446744073709551616 (below-end self.index c.count.result n c.if-self-count.false c.count.ensures self.within) c.count.ensures c.count.type_inv }

-- the place stays within the statements
pub invariant_of-self : goal.invariant_of-self
invariant_of-self g c =
    let self = c.args.self.now in
    let n = length (g.S.StatementList.statements self.statements.now) in
    record { fits = self.fits; within = next-within self.index n (below-end self.index c.count.result n c.if-self-count.false c.count.ensures self.within) }

-- the weight at the place is the first of those left
pub returns-clause-steps : goal.returns-clause-steps
returns-clause-steps g c =
    let f = g.EF.Field in
    let self = c.args.self.now in
    let ss = g.S.StatementList.statements self.statements.now in
    weights-first evaluation f.ops (map f.number self.row.now) ss self.index (f.number c.weight_at-weight.result)
    (below-end self.index c.count.result (length ss) c.if-self-count.false c.count.ensures self.within) c.weight_at-weight.ensures

-- a weight fewer is left
pub returns-clause-goes : goal.returns-clause-goes
returns-clause-goes g c = record { on = λ _. (tt, tt, shorter-left _ _ _ (returns-clause-steps g c)); keeps = tt; rests = λ _. tt }
