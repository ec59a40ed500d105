use Rattle.std.proofs.Common.{◌≡◌, ◌^◌, ◌<◌, ◌≤◌, length, sym, ◌∙◌, ap, arith}
use Rattle.sc_definitions.specs.Ring.{element, plus, times}
use Rattle.sc_definitions.proofs.RingLaws.{element-small, times_comm}
use Rattle.std.proofs.lemmas.Nat.{pow_pos}
use Rattle.sc_definitions.specs.Tables.{entries}
use Rattle.sc_definitions.proofs.LoopLaws.{entry-read}
use Rattle.sc_table.proofs.CoefficientLaws.{coefficients-at_none, coefficients-at_one, coefficients-at_more}
use Rattle.sc_table.proofs.projective.+eval_slice_projective.Goals as goal

pub returns-in-empty : goal.returns-in-empty
returns-in-empty g t c =
    let e = g.E.Field in
    let ring = g.met.E.Field.is_field.ring in
    let na = λ (x : g.row.A.Denot). g.E.Algebra.embedding (g.A.Field.number x) in
    let xs = c.args.coefficients.now in
    let f = entries na xs in
    let some : 0 < length xs = omega (arith, c.requires, pow_pos (length c.args.z.now)) in
    let read = entry-read na xs 0 c.index-coefficients-0.result some c.index-coefficients-0.is in
    sym (coefficients-at_none e.ops ring e.number f c.args.z.now c.in-empty.len_below
    ∙ ap (element e.ops) (read ∙ sym c.embed.ensures)
    ∙ element-small e.ops ring _ (g.met.E.Field.number_below c.embed.result))

pub returns-in-len1-up : goal.returns-in-len1-up
returns-in-len1-up g t c =
    let e = g.E.Field in
    let ring = g.met.E.Field.is_field.ring in
    let na = λ (x : g.row.A.Denot). g.E.Algebra.embedding (g.A.Field.number x) in
    let low = e.number c.eval_slice_projective-lo.result in
    let high = e.number c.eval_slice_projective-hi.result in
    let sum : e.number c.add-in-len1-up.result ≡ plus e.ops low (times e.ops high (e.number c.first-item.result)) =
    cc (c.add-in-len1-up.ensures, c.mul.ensures) in
    let some : 1 ≤ length c.args.z.now = omega (arith, c.in-len1-up.len_at_least) in
    sum ∙ coefficients-at_more e.ops ring na e.number c.args.coefficients.now c.args.z.now c.first-item.result some c.first-item.is c.requires
    _ _ c.eval_slice_projective-lo.ensures c.eval_slice_projective-hi.ensures

pub returns-in-len1 : goal.returns-in-len1
returns-in-len1 g t c =
    let e = g.E.Field in
    let ring = g.met.E.Field.is_field.ring in
    let na = λ (x : g.row.A.Denot). g.E.Algebra.embedding (g.A.Field.number x) in
    let xs = c.args.coefficients.now in
    let f = entries na xs in
    let one : length c.args.z.now ≡ 1 = omega (arith, c.in-len1.len_at_least, c.in-len1.len_below) in
    let two : length xs ≡ 2 = c.requires ∙ ap (λ k. 2 ^ k) one in
    let lo = entry-read na xs 0 c.index-coefficients-0-in-len1.result (omega (arith, two)) c.index-coefficients-0-in-len1.is in
    let hi = entry-read na xs 1 c.index-coefficients-1.result (omega (arith, two)) c.index-coefficients-1.is in
    let line : e.number c.add.result ≡ plus e.ops (f 0) (times e.ops (f 1) (e.number c.only-item.result)) =
    c.add.ensures ∙ cc (c.embed-in-len1.ensures, c.mul_base.ensures, lo, hi, times_comm e.ops ring (e.number c.only-item.result) (f 1)) in
    line ∙ sym (coefficients-at_one e.ops ring e.number f c.args.z.now c.only-item.result one c.only-item.is)
