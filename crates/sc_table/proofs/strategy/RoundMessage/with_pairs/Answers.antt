use Rattle.std.proofs.Common.{◌≡◌, ◌+◌, ◌-◌, ◌*◌, ◌∙◌, ap, refl, take, drop, arith}
use Rattle.sc_definitions.specs.Ring.{plus}
use Rattle.sc_definitions.specs.Tables.{entries}
use Rattle.sc_table.proofs.KernelLaws.{part-entry, pairs-first, pairs-leading}
use Rattle.sc_table.proofs.strategy.RoundMessage.with_pairs.Goals as goal

pub returns-clause-first : goal.returns-clause-first
returns-clause-first g c half =
    let a = g.A.Field in
    let nb = λ (x : g.row.B.Denot). g.A.Algebra.embedding (g.B.Field.number x) in
    let es = c.args.evals.now in
    let ws = c.args.weights.now in
    let from = c.args.from in
    let pairs = c.args.pairs in
    let at = 2 * from in
    let n = at + 2 * pairs - at in
    let e : n ≡ 2 * pairs = omega arith in
    c.add.ensures
    ∙ ap (plus a.ops (a.number c.args.self.c_a))
    (c.dot_base_pairs-even.ensures.even
    ∙ pairs-first a.ops pairs pairs half from refl (entries nb es) (entries a.number ws)
    (entries nb (take n (drop at es))) (entries a.number (take n (drop at ws)))
    (λ k low. part-entry nb es n at (2 * k) (2 * (from + k)) (omega (arith, e, low)) (omega arith))
    (λ k low. part-entry a.number ws n at (2 * k) (2 * (from + k)) (omega (arith, e, low)) (omega arith)))

pub returns-clause-leading : goal.returns-clause-leading
returns-clause-leading g c half =
    let a = g.A.Field in
    let nb = λ (x : g.row.B.Denot). g.A.Algebra.embedding (g.B.Field.number x) in
    let es = c.args.evals.now in
    let ws = c.args.weights.now in
    let from = c.args.from in
    let pairs = c.args.pairs in
    let at = 2 * from in
    let n = at + 2 * pairs - at in
    let e : n ≡ 2 * pairs = omega arith in
    c.add-2.ensures
    ∙ ap (plus a.ops (a.number c.args.self.c_inf))
    (c.dot_base_pairs-even.ensures.difference
    ∙ pairs-leading a.ops pairs pairs half from refl (entries nb es) (entries a.number ws)
    (entries nb (take n (drop at es))) (entries a.number (take n (drop at ws)))
    (λ k low. part-entry nb es n at (2 * k) (2 * (from + k)) (omega (arith, e, low)) (omega arith))
    (λ k low. part-entry nb es n at (2 * k + 1) (2 * (from + k) + 1) (omega (arith, e, low)) (omega arith))
    (λ k low. part-entry a.number ws n at (2 * k) (2 * (from + k)) (omega (arith, e, low)) (omega arith))
    (λ k low. part-entry a.number ws n at (2 * k + 1) (2 * (from + k) + 1) (omega (arith, e, low)) (omega arith)))
