use Rattle.std.proofs.Common.{◌≡◌, ◌+◌, ◌-◌, ◌∙◌, ap, refl, length, take, drop, arith}
use Rattle.sc_definitions.specs.Ring.{plus}
use Rattle.sc_definitions.specs.Tables.{entries}
use Rattle.sc_field.specs.Products.{products}
use Rattle.sc_table.proofs.KernelLaws.{part-length, part-entry, coefficients-first, coefficients-leading}
use Rattle.sc_table.proofs.strategy.RoundMessage.with_coefficient_halves.Goals as goal

pub returns-clause-first : goal.returns-clause-first
returns-clause-first g c =
    let a = g.A.Field in
    let nb = λ (x : g.row.B.Denot). g.A.Algebra.embedding (g.B.Field.number x) in
    let es = c.args.evals.now in
    let ws = c.args.weights.now in
    let half = c.args.half in
    let from = c.args.from in
    let rows = c.args.rows in
    let n = from + rows - from in
    let high = half + from in
    let m = high + rows - high in
    let e : n ≡ rows = omega arith in
    let e' : m ≡ rows = omega arith in
    let low_part = take n (drop from es) in
    let high_part = take m (drop high es) in
    let f0 = entries nb low_part in
    let f1 = entries nb high_part in
    let w0 = entries a.number (take n (drop from ws)) in
    let w1 = entries a.number (take m (drop high ws)) in
    let some : length low_part ≡ rows = part-length es n from rows e (omega (arith, c.requires.within, c.requires.evals)) in
    let all : length high_part ≡ rows = part-length es m high rows e' (omega (arith, c.requires.within, c.requires.evals)) in
    let lead : a.number c.dot_base-leading.result ≡ products a.ops rows f1 w1 = c.dot_base-leading.ensures ∙ ap (λ k. products a.ops k f1 w1) all in
    let low : a.number c.dot_base.result ≡ products a.ops rows f0 w0 = c.dot_base.ensures ∙ ap (λ k. products a.ops k f0 w0) some in
    let over : a.number c.dot_base-2.result ≡ products a.ops rows f0 w1 = c.dot_base-2.ensures ∙ ap (λ k. products a.ops k f0 w1) some in
    let under : a.number c.dot_base-3.result ≡ products a.ops rows f1 w0 = c.dot_base-3.ensures ∙ ap (λ k. products a.ops k f1 w0) all in
    let straight : a.number c.add-straight.result ≡ plus a.ops (products a.ops rows f0 w0) (products a.ops rows f1 w1) = cc (c.add-straight.ensures, low, lead) in
    let crossed : a.number c.add-crossed.result ≡ plus a.ops (products a.ops rows f0 w1) (products a.ops rows f1 w0) = cc (c.add-crossed.ensures, over, under) in
    let both : a.number c.add.result ≡ plus a.ops (plus a.ops (products a.ops rows f0 w0) (products a.ops rows f1 w1)) (plus a.ops (products a.ops rows f0 w1) (products a.ops rows f1 w0)) = cc (c.add.ensures, straight, crossed) in
    c.add-2.ensures ∙ ap (plus a.ops (a.number c.args.self.c_a)) (both
    ∙ coefficients-first a.ops rows rows half from refl (entries nb es) (entries a.number ws) g.met.A.Field.is_field.ring f0 f1 w0 w1
    (λ k low. part-entry nb es n from k (from + k) (omega (arith, e, low)) refl)
    (λ k low. part-entry nb es m high k (half + (from + k)) (omega (arith, e', low)) (omega arith))
    (λ k low. part-entry a.number ws n from k (from + k) (omega (arith, e, low)) refl)
    (λ k low. part-entry a.number ws m high k (half + (from + k)) (omega (arith, e', low)) (omega arith)))

pub returns-clause-leading : goal.returns-clause-leading
returns-clause-leading g c =
    let a = g.A.Field in
    let nb = λ (x : g.row.B.Denot). g.A.Algebra.embedding (g.B.Field.number x) in
    let es = c.args.evals.now in
    let ws = c.args.weights.now in
    let half = c.args.half in
    let from = c.args.from in
    let rows = c.args.rows in
    let high = half + from in
    let m = high + rows - high in
    let e' : m ≡ rows = omega arith in
    let all : length (take m (drop high es)) ≡ rows = part-length es m high rows e' (omega (arith, c.requires.within, c.requires.evals)) in
    let f1 = entries nb (take m (drop high es)) in
    let w1 = entries a.number (take m (drop high ws)) in
    c.add-3.ensures ∙ ap (plus a.ops (a.number c.args.self.c_inf)) (c.dot_base-leading.ensures ∙ ap (λ k. products a.ops k f1 w1) all
    ∙ coefficients-leading a.ops rows rows half from refl (entries nb es) (entries a.number ws) f1 w1
    (λ k low. part-entry nb es m high k (half + (from + k)) (omega (arith, e', low)) (omega arith))
    (λ k low. part-entry a.number ws m high k (half + (from + k)) (omega (arith, e', low)) (omega arith)))
