use Rattle.std.proofs.Common.{◌≡◌, ℕ, ◌^◌, ◌<◌, subst, length, ◌∙◌, ap, sym, arith}
use Rattle.std.proofs.lemmas.List.{length-map}
use Rattle.sc_definitions.specs.Tables.{prefix, suffix, entries, equality_weight}
use Rattle.sc_table.specs.SplitEqs.{split_variables, split_weight}
use Rattle.sc_table.specs.Strategy.{order_of}
use Rattle.sc_svo.specs.Points.{order_in, near_in, far_in}
use Rattle.sc_svo.proofs.PointParts.{length-joined, partial-prefix, partial-suffix, partial-in, if_ok_both}
use Rattle.sc_svo.proofs.point.SvoPoint.compress.Goals as goal

pub compress_suffix-requires : goal.compress_suffix-requires
compress_suffix-requires g c =
    let p = c.args.self.now in
    let parts = length-joined (order_in p) (near_in p) (far_in p) in
    let far = length-map p.far g.EF.Field.number in
    (length (near_in p), c.requires ∙ ap (λ n. 2 ^ n) (omega (arith, parts, far, p.sized)))

pub compress_prefix-requires : goal.compress_prefix-requires
compress_prefix-requires g c =
    let p = c.args.self.now in
    let parts = length-joined (order_in p) (near_in p) (far_in p) in
    let far = length-map p.far g.EF.Field.number in
    (length (near_in p), c.requires ∙ ap (λ n. 2 ^ n) (omega (arith, parts, far, p.sized)))

pub returns-in-Prefix : goal.returns-in-Prefix
returns-in-Prefix g c =
    let p = c.args.self.now in
    let e = g.EF.Field in
    let f = entries (λ (x : g.row.F.Denot). g.EF.Algebra.embedding (g.F.Field.number x)) c.args.rows.now in
    let whole = c.requires ∙ ap (λ n. 2 ^ n) (length-joined (order_in p) (near_in p) (far_in p)) in
    let many = p.sized ∙ sym (length-map p.far e.number) in
    let weights : (b : ℕ) → b < 2 ^ length (far_in p) → split_weight e.number e.ops p.split b ≡ equality_weight e.ops (far_in p) b =
    λ b low. p.weighs b (subst (λ n. b < 2 ^ n) (length-map p.far e.number) low) in
    if_ok_both c.compress_suffix.result _ _ _
    (λ q size rows_are. partial-in (order_in p) prefix e.ops e.number f (near_in p) (far_in p) q (ap order_of c.in-Prefix.is)
    (partial-prefix e.ops e.number f (split_weight e.number e.ops p.split) (near_in p) (far_in p) (length c.args.rows.now) (split_variables p.split) q whole size many weights rows_are))
    c.compress_suffix.ensures.size c.compress_suffix.ensures.rows

pub returns-in-Suffix : goal.returns-in-Suffix
returns-in-Suffix g c =
    let p = c.args.self.now in
    let e = g.EF.Field in
    let f = entries (λ (x : g.row.F.Denot). g.EF.Algebra.embedding (g.F.Field.number x)) c.args.rows.now in
    let whole = c.requires ∙ ap (λ n. 2 ^ n) (length-joined (order_in p) (near_in p) (far_in p)) in
    let many = p.sized ∙ sym (length-map p.far e.number) in
    let weights : (b : ℕ) → b < 2 ^ length (far_in p) → split_weight e.number e.ops p.split b ≡ equality_weight e.ops (far_in p) b =
    λ b low. p.weighs b (subst (λ n. b < 2 ^ n) (length-map p.far e.number) low) in
    if_ok_both c.compress_prefix.result _ _ _
    (λ q size rows_are. partial-in (order_in p) suffix e.ops e.number f (near_in p) (far_in p) q (ap order_of c.in-Suffix.is)
    (partial-suffix e.ops e.number f (split_weight e.number e.ops p.split) (near_in p) (far_in p) (length c.args.rows.now) (split_variables p.split) q whole size many weights rows_are))
    c.compress_prefix.ensures.size c.compress_prefix.ensures.rows
