use Rattle.std.proofs.Common.{◌≡◌, ℕ, ◌^◌, ◌<◌, ◌≤◌, length, sym, ◌∙◌, ap, arith}
use Rattle.sc_definitions.specs.Ring.{element, plus, times, minus}
use Rattle.sc_definitions.proofs.RingLaws.{element-small, times_comm}
use Rattle.sc_definitions.proofs.Maps.{map-minus}
use Rattle.std.proofs.lemmas.Nat.{pow_pos}
use Rattle.sc_definitions.specs.Tables.{entries}
use Rattle.sc_definitions.proofs.LoopLaws.{entry-read}
use Rattle.sc_table.proofs.EvalLaws.{value-at_none, value-at_one, value-at_more}
use Rattle.sc_table.proofs.blocks.+eval_halves.Goals as goal

pub returns-in-empty : goal.returns-in-empty
returns-in-empty g t c =
    let e = g.E.Field in
    let ring = g.met.E.Field.is_field.ring in
    let na = λ (x : g.row.A.Denot). g.E.Algebra.embedding (g.A.Field.number x) in
    let f = entries na c.args.evals.now in
    let some : 0 < length c.args.evals.now = omega (arith, c.requires, pow_pos (length c.args.z.now)) in
    let read = entry-read na c.args.evals.now 0 c.index-evals-0.result some c.index-evals-0.is in
    sym (value-at_none e.ops ring e.number f c.args.z.now c.in-empty.len_below
    ∙ ap (element e.ops) (read ∙ sym c.embed.ensures)
    ∙ element-small e.ops ring _ (g.met.E.Field.number_below c.embed.result))

pub returns-in-len1-up : goal.returns-in-len1-up
returns-in-len1-up g t c =
    let e = g.E.Field in
    let ring = g.met.E.Field.is_field.ring in
    let na = λ (x : g.row.A.Denot). g.E.Algebra.embedding (g.A.Field.number x) in
    let sum : e.number c.add-in-len1-up.result ≡ plus e.ops (e.number c.eval_halves-lo.result) (times e.ops (minus e.ops (e.number c.eval_halves-hi.result) (e.number c.eval_halves-lo.result)) (e.number c.first-item.result)) =
    cc (c.add-in-len1-up.ensures, c.mul.ensures, c.sub-in-len1-up.ensures) in
    let some : 1 ≤ length c.args.z.now = omega (arith, c.in-len1-up.len_at_least) in
    sum ∙ value-at_more e.ops ring na e.number c.args.evals.now c.args.z.now c.first-item.result some c.first-item.is c.requires
    _ _ c.eval_halves-lo.ensures c.eval_halves-hi.ensures

pub returns-in-len1 : goal.returns-in-len1
returns-in-len1 g t c =
    let e = g.E.Field in
    let a = g.A.Field in
    let h : ℕ → ℕ = g.E.Algebra.embedding in
    let ring = g.met.E.Field.is_field.ring in
    let na = λ (x : g.row.A.Denot). h (a.number x) in
    let xs = c.args.evals.now in
    let f = entries na xs in
    let one : length c.args.z.now ≡ 1 = omega (arith, c.in-len1.len_at_least, c.in-len1.len_below) in
    let two : length xs ≡ 2 = c.requires ∙ ap (λ k. 2 ^ k) one in
    let lo = entry-read na xs 0 c.index-evals-0-in-len1.result (omega (arith, two)) c.index-evals-0-in-len1.is in
    let hi = entry-read na xs 1 c.index-evals-1.result (omega (arith, two)) c.index-evals-1.is in
    let slope : h (a.number c.sub.result) ≡ minus e.ops (f 1) (f 0) =
    ap h c.sub.ensures
    ∙ map-minus a.ops e.ops g.met.A.Field.is_field.ring ring h g.met.E.Algebra.embeds _ _ (g.met.A.Field.number_below c.index-evals-1.result) (g.met.A.Field.number_below c.index-evals-0-in-len1.result)
    ∙ cc in
    let line : e.number c.add.result ≡ plus e.ops (f 0) (times e.ops (minus e.ops (f 1) (f 0)) (e.number c.only-item.result)) =
    c.add.ensures
    ∙ cc (c.embed-in-len1.ensures, c.mul_base.ensures, lo, slope, times_comm e.ops ring (e.number c.only-item.result) (minus e.ops (f 1) (f 0))) in
    line ∙ sym (value-at_one e.ops ring e.number f c.args.z.now c.only-item.result one c.only-item.is)
