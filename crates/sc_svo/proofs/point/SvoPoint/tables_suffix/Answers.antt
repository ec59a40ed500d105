use Rattle.std.proofs.Common.{◌≡◌, ℕ, ◌-◌, ◌*◌, ◌%◌, ◌^◌, ◌<◌, ◌≤◌, length, refl, ◌∙◌, ap, sym, subst, arith}
use Rattle.std.proofs.lemmas.List.{length-map}
use Rattle.std.proofs.lemmas.Nat.{pow_pos}
use Rattle.sc_definitions.specs.Parts.{Carry, Omega}
use Rattle.sc_definitions.specs.Tables.{suffix, entries, equality_weight}
use Rattle.sc_definitions.specs.Shifts.{shifted}
use Rattle.sc_table.specs.SplitEqs.{split_variables, split_weight}
use Rattle.sc_table.proofs.PowerLaws.{one-shifted}
use Rattle.sc_partials.specs.Partials.{joined, IsPartial}
use Rattle.sc_partials.specs.NextPartials.{AreNextPartials}
use Rattle.sc_svo.specs.Points.{order_in, near_in, far_in}
use Rattle.sc_svo.proofs.PointParts.{length-joined}
use Rattle.sc_svo.proofs.NextPointLaws.{moved-rows, last-rows, given-rows, kept-within, last-at, compressed-suffix}
use Rattle.sc_svo.proofs.point.SvoPoint.tables_suffix.Goals as goal

pub compress_prefix_shifted-requires : goal.compress_prefix_shifted-requires
compress_prefix_shifted-requires g c =
    let p = c.args.self.now in
    let parts = length-joined (order_in p) (near_in p) (far_in p) in
    let far = length-map p.far g.EF.Field.number in
    (length (near_in p), c.requires.rows ∙ ap (λ n. 2 ^ n) (omega (arith, parts, far, p.sized)))

pub overflow_sub-rows : goal.overflow_sub-rows
overflow_sub-rows g c =
    let p = c.args.self.now in
    let few : length p.near ≤ 40 = omega (arith, p.few) in
    let kept = ap (λ k. 1 * 2 ^ k % 18446744073709551616) c.num_variables-kept.ensures ∙ one-shifted (length p.near) few ∙ ap (λ n. 2 ^ n) (sym (length-map p.near g.EF.Field.number)) in
    let whole = c.requires.rows ∙ ap (λ n. 2 ^ n) (length-joined (order_in p) (near_in p) (far_in p)) in
    kept-within (length (near_in p)) (length (far_in p)) _ (length c.args.rows.now) kept whole

pub every-requires-clause-within : goal.every-requires-clause-within
every-requires-clause-within g c = λ a low.
    let p = c.args.self.now in
    let few : length p.near ≤ 40 = omega (arith, p.few) in
    let kept = ap (λ k. 1 * 2 ^ k % 18446744073709551616) c.num_variables-kept.ensures ∙ one-shifted (length p.near) few ∙ ap (λ n. 2 ^ n) (sym (length-map p.near g.EF.Field.number)) in
    let whole = c.requires.rows ∙ ap (λ n. 2 ^ n) (length-joined (order_in p) (near_in p) (far_in p)) in
    let fits = kept-within (length (near_in p)) (length (far_in p)) _ (length c.args.rows.now) kept whole in
    omega (arith, fits, low)

pub every-requires-clause-power : goal.every-requires-clause-power
every-requires-clause-power g c =
    let p = c.args.self.now in
    let few : length p.near ≤ 40 = omega (arith, p.few) in
    (length p.near, ap (λ k. 1 * 2 ^ k % 18446744073709551616) c.num_variables-kept.ensures ∙ one-shifted (length p.near) few)

pub returns : goal.returns
returns g c = λ given.
    let p = c.args.self.now in
    let e = g.EF.Field in
    let o = e.ops in
    let ring = g.met.EF.Field.is_field.ring in
    let near = near_in p in
    let far = far_in p in
    let l = length near in
    let m = length far in
    let f = entries (λ (x : g.row.F.Denot). g.EF.Algebra.embedding (g.F.Field.number x)) c.args.rows.now in
    let few : length p.near ≤ 40 = omega (arith, p.few) in
    let kept = ap (λ k. 1 * 2 ^ k % 18446744073709551616) c.num_variables-kept.ensures ∙ one-shifted (length p.near) few ∙ ap (λ n. 2 ^ n) (sym (length-map p.near e.number)) in
    let whole = c.requires.rows ∙ ap (λ n. 2 ^ n) (length-joined (order_in p) near far) in
    let many : split_variables p.split ≡ m = p.sized ∙ sym (length-map p.far e.number) in
    let weights : (b : ℕ) → b < 2 ^ m → split_weight e.number o p.split b ≡ equality_weight o far b = λ b low. p.weighs b (subst (λ n. b < 2 ^ n) (length-map p.far e.number) low) in
    let last : e.number c.last_scalar-last.result ≡ equality_weight o far (2 ^ m - 1) =
    c.last_scalar-last.ensures ∙ ap (λ k. split_weight e.number o p.split (2 ^ k - 1)) many ∙ weights (2 ^ m - 1) (omega (arith, pow_pos m)) in
    let point = ap (λ k. joined k near far) c.requires.order in
    let made : AreNextPartials suffix o e.number f (joined suffix near far) near (record { done = c.args.done; carry = c.in_ok-compress_prefix_shifted.field-0; omega = c.in_ok-every.field-0 }) = record {
      others = far;
      whole = refl;
      tables = record {
        done = given-rows o ring e.number f (joined suffix near far) near c.args.done (subst (λ zs. IsPartial suffix o e.number f zs near c.args.done) point given);
        carry = moved-rows o ring e.number suffix f near far c.in_ok-compress_prefix_shifted.field-0 Carry (split_weight e.number o p.split) refl weights
            (compressed-suffix o e.number f (shifted 0 (split_weight e.number o p.split)) l m (split_variables p.split) (length c.args.rows.now) c.in_ok-compress_prefix_shifted.field-0
            whole c.in_ok-compress_prefix_shifted.ensures.size many c.in_ok-compress_prefix_shifted.ensures.rows);
        omega = last-rows o ring e.number suffix f near far c.in_ok-every.field-0 Omega (e.number c.last_scalar-last.result) _ refl last
            (λ a. last-at l m _ (length c.args.rows.now) a kept whole) (c.in_ok-every.ensures l kept);
      };
    } in
    subst (λ zs. AreNextPartials suffix o e.number f zs near (record { done = c.args.done; carry = c.in_ok-compress_prefix_shifted.field-0; omega = c.in_ok-every.field-0 })) (sym point) made
