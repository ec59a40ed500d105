use Rattle.std.proofs.Common.{◌≡◌, ◌+◌, ◌-◌, ◌∙◌, ap, refl, length, take, drop, arith}
use Rattle.sc_definitions.specs.Ring.{plus}
use Rattle.sc_definitions.specs.Tables.{entries}
use Rattle.sc_table.proofs.KernelLaws.{part-length, part-entry, halves-first, halves-leading}
use Rattle.sc_table.proofs.strategy.RoundMessage.with_halves.Goals as goal

pub returns-clause-first : goal.returns-clause-first
returns-clause-first g c =
    let a = g.A.Field in
    let nb = λ (x : g.row.B.Denot). g.A.Algebra.embedding (g.B.Field.number x) in
    let from = c.args.from in
    let rows = c.args.rows in
    let n = from + rows - from in
    let e : n ≡ rows = omega arith in
    let whole : length (take n (drop from c.args.evals.now)) ≡ rows = part-length c.args.evals.now n from rows e (omega (arith, c.requires.within, c.requires.evals)) in
    c.add.ensures
    ∙ ap (plus a.ops (a.number c.args.self.c_a))
    (c.dot_base.ensures
    ∙ halves-first a.ops _ rows c.args.half from whole (entries nb c.args.evals.now) (entries a.number c.args.weights.now)
    (entries nb (take n (drop from c.args.evals.now))) (entries a.number (take n (drop from c.args.weights.now)))
    (λ k low. part-entry nb c.args.evals.now n from k (from + k) (omega (arith, e, low)) refl)
    (λ k low. part-entry a.number c.args.weights.now n from k (from + k) (omega (arith, e, low)) refl))

pub returns-clause-leading : goal.returns-clause-leading
returns-clause-leading g c =
    let a = g.A.Field in
    let nb = λ (x : g.row.B.Denot). g.A.Algebra.embedding (g.B.Field.number x) in
    let es = c.args.evals.now in
    let ws = c.args.weights.now in
    let half = c.args.half in
    let from = c.args.from in
    let rows = c.args.rows in
    let n = from + rows - from in
    let high = half + from in
    let m = high + rows - high in
    let e : n ≡ rows = omega arith in
    let e' : m ≡ rows = omega arith in
    let whole : length (take n (drop from es)) ≡ rows = part-length es n from rows e (omega (arith, c.requires.within, c.requires.evals)) in
    c.add-2.ensures
    ∙ ap (plus a.ops (a.number c.args.self.c_inf))
    (c.dot_base_differences.ensures
    ∙ halves-leading a.ops _ rows half from whole (entries nb es) (entries a.number ws)
    (entries nb (take n (drop from es))) (entries nb (take m (drop high es))) (entries a.number (take n (drop from ws))) (entries a.number (take m (drop high ws)))
    (λ k low. part-entry nb es n from k (from + k) (omega (arith, e, low)) refl)
    (λ k low. part-entry nb es m high k (half + (from + k)) (omega (arith, e', low)) (omega arith))
    (λ k low. part-entry a.number ws n from k (from + k) (omega (arith, e, low)) refl)
    (λ k low. part-entry a.number ws m high k (half + (from + k)) (omega (arith, e', low)) (omega arith)))
