use Rattle.std.proofs.Common.{rules, ◌≡◌, ℕ, ◌+◌, ◌-◌, ◌*◌, ◌^◌, ◌≤◌, ◌∷◌, length, map, take, drop, sym, ◌∙◌, ap, arith}
use Rattle.std.proofs.lemmas.List.{length-map}
use Rattle.sc_definitions.specs.Ring.{plus, times, minus}
use Rattle.sc_definitions.specs.Tables.{entries}
use Rattle.sc_table.proofs.BlockWeights.{split-first, two_blocks, first_half, second_half, blocks-alone, blocks-line}
use Rattle.sc_table.proofs.blocks.+eval_blocks.Goals as goal

pub returns-in_default : goal.returns-in_default
returns-in_default g t c =
    let e = g.E.Field in
    let of : g.row.A.Denot → ℕ = λ x. g.E.Algebra.embedding (g.A.Field.number x) in
    let weights = c.args.weights.now in
    let outer = c.args.outer.now in
    let none : length outer ≡ 0 = omega (arith, c.in_default.len_below) in
    c.dot_base.ensures
    ∙ blocks-alone e.ops g.met.E.Field.is_field.ring (length weights) c.requires.some (entries e.number weights) (map e.number outer) (entries of c.args.evals.now) (length c.args.evals.now)
    (omega (arith, none, length-map outer e.number)) (c.requires.size ∙ ap (λ k. 2 ^ k * length weights) none ∙ omega arith)

pub eval_blocks-lo-requires : goal.eval_blocks-lo-requires
eval_blocks-lo-requires g t c κs within = (
  search rules,
  (within.0, (within.1, (first_half c.args.evals.now c.args.outer.now (length c.args.weights.now) c.requires.size c.in-len1-up.len_at_least, (c.requires.some, c.requires.few)))),
)

pub eval_blocks-hi-requires : goal.eval_blocks-hi-requires
eval_blocks-hi-requires g t c κs within = (
  search rules,
  (within.0, (within.1, (second_half c.args.evals.now c.args.outer.now (length c.args.weights.now) c.requires.size c.in-len1-up.len_at_least, (c.requires.some, c.requires.few)))),
)

pub returns : goal.returns
returns g t c =
    let e = g.E.Field in
    let of : g.row.A.Denot → ℕ = λ x. g.E.Algebra.embedding (g.A.Field.number x) in
    let rows = c.args.evals.now in
    let n = length c.args.weights.now in
    let outer = c.args.outer.now in
    let first = c.first-item.result in
    let rest = take (length outer - 1) (drop 1 outer) in
    let some : 1 ≤ length outer = omega (arith, c.in-len1-up.len_at_least) in
    let split : outer ≡ first ∷ rest = split-first outer first some c.first-item.is in
    let zs = map e.number rest in
    let sized : 2 ^ length rest * n ≡ 2 ^ length zs * n = ap (λ k. 2 ^ k * n) (sym (length-map rest e.number)) in
    let size : length rows ≡ 2 ^ length zs * n + 2 ^ length zs * n = two_blocks rows outer n c.requires.size some ∙ ap (λ k. k + k) sized in
    let slope : e.number c.mul.result ≡ times e.ops (minus e.ops (e.number c.eval_blocks-hi.result) (e.number c.eval_blocks-lo.result)) (e.number first) = cc (c.mul.ensures, c.sub.ensures) in
    c.add.ensures ∙ ap (plus e.ops (e.number c.eval_blocks-lo.result)) slope
    ∙ blocks-line e.ops g.met.E.Field.is_field.ring n c.requires.some (entries e.number c.args.weights.now) of rows (e.number first) zs (map e.number outer) (ap (map e.number) split) size
    (e.number c.eval_blocks-lo.result) (e.number c.eval_blocks-hi.result) c.eval_blocks-lo.ensures c.eval_blocks-hi.ensures
