use Rattle.std.proofs.Common.{◌≡◌, ℕ, ◌^◌, ◌<◌, length, map, ◌∙◌, ap, sym, subst}
use Rattle.std.proofs.lemmas.List.{length-map}
use Rattle.sc_definitions.specs.Tables.{entries, equality_weight}
use Rattle.sc_definitions.proofs.PlacedSums.{length-point_of}
use Rattle.sc_table.specs.SplitEqs.{split_variables, split_weight}
use Rattle.sc_table.specs.Strategy.{order_of}
use Rattle.sc_table.proofs.EntryLaws.{entry-below}
use Rattle.sc_svo.proofs.PointParts.{equality_weight-once, if_ok_both}
use Rattle.sc_svo.proofs.BoundLaws.{bound-first, bound-last}
use Rattle.sc_svo.proofs.batch.bound_table.Goals as goal

pub returns-in-Prefix : goal.returns-in-Prefix
returns-in-Prefix g c rs is =
    let e = g.EF.Field in
    let ring = g.met.EF.Field.is_field.ring in
    let of = λ (x : g.row.F.Denot). g.EF.Algebra.embedding (g.F.Field.number x) in
    let point = map e.number c.args.point.now in
    let split = c.in_ok-split.split in
    let k = split_variables split in
    let many : k ≡ length rs =
    c.in_ok-split.ensures.variables ∙ sym (length-map c.args.point.now e.number) ∙ ap length is ∙ length-point_of (order_of c.args.order) rs in
    let weights : (b : ℕ) → b < 2 ^ k → split_weight e.number e.ops split b ≡ equality_weight e.ops point b =
    λ b low. equality_weight-once e.ops ring point b (e.number c.ONE.result) _ (ap e.number c.ONE.ensures ∙ g.met.EF.Field.one_is)
    (c.in_ok-split.ensures.weights b (subst (λ n. b < 2 ^ n) c.in_ok-split.ensures.variables low)) in
    let below : (b : ℕ) → entries of c.args.table.now b < e.ops.size =
    entry-below e.ops of ring (λ x. g.met.EF.Algebra.embeds.below (g.F.Field.number x) (g.met.F.Field.number_below x)) c.args.table.now in
    if_ok_both c.compress_prefix.result _ _ _
    (λ q size rows. bound-first e.ops ring e.number (entries of c.args.table.now) (split_weight e.number e.ops split) (length c.args.table.now) k point rs q
    below many size weights (order_of c.args.order) (ap order_of c.in-Prefix.is) is rows)
    c.compress_prefix.ensures.size c.compress_prefix.ensures.rows

pub returns : goal.returns
returns g c rs is =
    let e = g.EF.Field in
    let ring = g.met.EF.Field.is_field.ring in
    let of = λ (x : g.row.F.Denot). g.EF.Algebra.embedding (g.F.Field.number x) in
    let point = map e.number c.args.point.now in
    let split = c.in_ok-split.split in
    let k = split_variables split in
    let many : k ≡ length rs =
    c.in_ok-split.ensures.variables ∙ sym (length-map c.args.point.now e.number) ∙ ap length is ∙ length-point_of (order_of c.args.order) rs in
    let weights : (b : ℕ) → b < 2 ^ k → split_weight e.number e.ops split b ≡ equality_weight e.ops point b =
    λ b low. equality_weight-once e.ops ring point b (e.number c.ONE.result) _ (ap e.number c.ONE.ensures ∙ g.met.EF.Field.one_is)
    (c.in_ok-split.ensures.weights b (subst (λ n. b < 2 ^ n) c.in_ok-split.ensures.variables low)) in
    let below : (b : ℕ) → entries of c.args.table.now b < e.ops.size =
    entry-below e.ops of ring (λ x. g.met.EF.Algebra.embeds.below (g.F.Field.number x) (g.met.F.Field.number_below x)) c.args.table.now in
    if_ok_both c.compress_suffix.result _ _ _
    (λ q size rows. bound-last e.ops ring e.number (entries of c.args.table.now) (split_weight e.number e.ops split) (length c.args.table.now) k point rs q
    below many size weights (order_of c.args.order) (ap order_of c.in-Suffix.is) is rows)
    c.compress_suffix.ensures.size c.compress_suffix.ensures.rows
