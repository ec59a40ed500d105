use Rattle.std.proofs.Common.{rules, ◌≡◌, ℕ, ◌+◌, ◌*◌, ◌^◌, ◌<◌, ◌≤◌, ◌++◌, length, map, sym, ◌∙◌, ap, subst, arith}
use Rattle.std.proofs.lemmas.List.{length-map}
use Rattle.sc_definitions.specs.Tables.{prefix, entries}
use Rattle.sc_definitions.specs.Statements.{slot_weight}
use Rattle.sc_weights.proofs.Halves.{eight-few}
use Rattle.sc_weights.proofs.NextSteps.{slots-joined}
use Rattle.sc_weights.proofs.NextReads.{slots-sum}
use Rattle.sc_weights.proofs.SlotParts.{front-size, front-size_of, front-inner, front-joined}
use Rattle.sc_weights.proofs.next.slots_value_by_blocks.Goals as goal

pub eval_blocks-requires-clause-size : goal.eval_blocks-requires-clause-size
eval_blocks-requires-clause-size g c =
    let of = g.EF.Field.number in
    let point = c.args.point.now in
    let selector = c.args.selector.now in
    let outer = c.split_at.result.0.now in
    let inner = c.split_at.result.1.now in
    let weights = c.slot_weights-weights.result in
    let parted = c.split_at.ensures in
    let many : length weights ≡ 256 = search rules in
    let long : 8 ≤ length selector + length point = eight-few (length c.args.rows.now) (length selector + length point) c.requires.long c.requires.size in
    c.requires.size ∙ front-size of selector point outer inner weights (omega (arith, c.requires.short)) long parted.front parted.back many

pub returns : goal.returns
returns g c =
    let f = g.EF.Field in
    let ring = g.met.EF.Field.is_field.ring in
    let of : g.row.A.Denot → ℕ = λ x. g.EF.Algebra.embedding (g.A.Field.number x) in
    let point = c.args.point.now in
    let selector = c.args.selector.now in
    let outer = c.split_at.result.0.now in
    let inner = c.split_at.result.1.now in
    let weights = c.slot_weights-weights.result in
    let parted = c.split_at.ensures in
    let many : length weights ≡ 256 = search rules in
    let long : 8 ≤ length selector + length point = eight-few (length c.args.rows.now) (length selector + length point) c.requires.long c.requires.size in
    let few : length point ≤ 8 = omega (arith, c.requires.short) in
    let rows = c.args.rows.now in
    let ss = map f.number selector in
    let zs = map f.number point in
    let outers = map f.number outer in
    let inners = map f.number inner in
    let width : 2 ^ length zs ≡ 2 ^ length point = ap (λ k. 2 ^ k) (length-map point f.number) in
    let tall : 2 ^ length inners ≡ 2 ^ length inner = ap (λ k. 2 ^ k) (length-map inner f.number) in
    let size : length rows ≡ 2 ^ length outers * length weights = c.requires.size ∙ front-size_of f.number selector point outer inner weights few long parted.front parted.back many in
    let joined : outers ++ inners ≡ ss = front-joined f.number selector point outer inner weights few long parted.front parted.back many in
    c.eval_blocks.ensures
    ∙ slots-sum f.ops ring g.EF.Algebra.embedding g.A.Field.number g.met.EF.Algebra.embeds.zero_kept rows ss zs (length point) _
    (λ b low. slots-joined f.ops ring outers inners zs (length weights) (entries f.number weights) (front-inner f.number selector point outer inner weights few long parted.front parted.back many)
    (λ i j li lj. ap (λ k. entries f.number weights (i * k + j)) width ∙ c.slot_weights-weights.ensures i j (subst (λ k. i < k) tall li) (subst (λ k. j < k) width lj))
    b (subst (λ k. b < k) size low) ∙ ap (λ l. slot_weight prefix f.ops l zs b) joined)
    (length-map point f.number) (ap (λ k. 2 ^ (k + length point)) (length-map selector f.number) ∙ sym c.requires.size)
