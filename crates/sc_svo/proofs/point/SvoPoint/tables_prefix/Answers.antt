use Rattle.std.proofs.Common.{◌≡◌, ℕ, ◌+◌, ◌-◌, ◌*◌, ◌%◌, ◌^◌, ◌<◌, ◌≤◌, length, refl, ◌∙◌, ap, sym, subst, arith}
use Rattle.std.proofs.lemmas.List.{length-map}
use Rattle.std.proofs.lemmas.Nat.{pow_pos}
use Rattle.sc_definitions.specs.Parts.{Carry, Done, Omega}
use Rattle.sc_definitions.specs.Tables.{prefix, entries, equality_weight}
use Rattle.sc_definitions.specs.Shifts.{shifted}
use Rattle.sc_table.specs.SplitEqs.{split_variables, split_weight}
use Rattle.sc_table.proofs.PowerLaws.{one-shifted}
use Rattle.sc_partials.specs.Partials.{joined}
use Rattle.sc_partials.specs.NextPartials.{AreNextPartials}
use Rattle.sc_svo.specs.Points.{order_in, near_in, far_in}
use Rattle.sc_svo.proofs.PointParts.{length-joined}
use Rattle.sc_svo.proofs.NextPointLaws.{moved-rows, carried-rows, last-rows, row-within, compressed-prefix}
use Rattle.sc_svo.proofs.point.SvoPoint.tables_prefix.Goals as goal

pub compress_suffix_shifted-requires : goal.compress_suffix_shifted-requires
compress_suffix_shifted-requires g c =
    let p = c.args.self.now in
    let parts = length-joined (order_in p) (near_in p) (far_in p) in
    let far = length-map p.far g.EF.Field.number in
    (length (near_in p), c.requires.rows ∙ ap (λ n. 2 ^ n) (omega (arith, parts, far, p.sized)))

pub every-requires-clause-within : goal.every-requires-clause-within
every-requires-clause-within g c = λ a low.
    let p = c.args.self.now in
    let e = g.EF.Field in
    let few : length p.near ≤ 40 = omega (arith, p.few) in
    let more : length p.far ≤ 40 = omega (arith, p.few) in
    let kept = ap (λ k. 1 * 2 ^ k % 18446744073709551616) c.num_variables.ensures ∙ one-shifted (length p.near) few ∙ ap (λ n. 2 ^ n) (sym (length-map p.near e.number)) in
    let behind = ap (λ k. 1 * 2 ^ k % 18446744073709551616) c.num_variables-2.ensures ∙ one-shifted (length p.far) more ∙ ap (λ n. 2 ^ n) (sym (length-map p.far e.number)) in
    let whole = c.requires.rows ∙ ap (λ n. 2 ^ n) (length-joined (order_in p) (near_in p) (far_in p)) in
    row-within (length (near_in p)) (length (far_in p)) _ _ (length c.args.rows.now) a 0 kept behind whole low (omega (arith, behind, pow_pos (length (far_in p))))

pub every-requires-clause-power : goal.every-requires-clause-power
every-requires-clause-power g c =
    let p = c.args.self.now in
    let few : length p.near ≤ 40 = omega (arith, p.few) in
    (length p.near, ap (λ k. 1 * 2 ^ k % 18446744073709551616) c.num_variables.ensures ∙ one-shifted (length p.near) few)

pub every-requires-2-clause-within : goal.every-requires-2-clause-within
every-requires-2-clause-within g c = λ a low.
    let p = c.args.self.now in
    let e = g.EF.Field in
    let few : length p.near ≤ 40 = omega (arith, p.few) in
    let more : length p.far ≤ 40 = omega (arith, p.few) in
    let kept = ap (λ k. 1 * 2 ^ k % 18446744073709551616) c.num_variables.ensures ∙ one-shifted (length p.near) few ∙ ap (λ n. 2 ^ n) (sym (length-map p.near e.number)) in
    let behind = ap (λ k. 1 * 2 ^ k % 18446744073709551616) c.num_variables-2.ensures ∙ one-shifted (length p.far) more ∙ ap (λ n. 2 ^ n) (sym (length-map p.far e.number)) in
    let whole = c.requires.rows ∙ ap (λ n. 2 ^ n) (length-joined (order_in p) (near_in p) (far_in p)) in
    row-within (length (near_in p)) (length (far_in p)) _ _ (length c.args.rows.now) a _ kept behind whole low (omega (arith, behind, pow_pos (length (far_in p))))

pub returns : goal.returns
returns g c =
    let p = c.args.self.now in
    let e = g.EF.Field in
    let o = e.ops in
    let ring = g.met.EF.Field.is_field.ring in
    let near = near_in p in
    let far = far_in p in
    let l = length near in
    let m = length far in
    let f = entries (λ (x : g.row.F.Denot). g.EF.Algebra.embedding (g.F.Field.number x)) c.args.rows.now in
    let few : length p.near ≤ 40 = omega (arith, p.few) in
    let more : length p.far ≤ 40 = omega (arith, p.few) in
    let kept = ap (λ k. 1 * 2 ^ k % 18446744073709551616) c.num_variables.ensures ∙ one-shifted (length p.near) few ∙ ap (λ n. 2 ^ n) (sym (length-map p.near e.number)) in
    let behind = ap (λ k. 1 * 2 ^ k % 18446744073709551616) c.num_variables-2.ensures ∙ one-shifted (length p.far) more ∙ ap (λ n. 2 ^ n) (sym (length-map p.far e.number)) in
    let whole = c.requires.rows ∙ ap (λ n. 2 ^ n) (length-joined (order_in p) near far) in
    let many : split_variables p.split ≡ m = p.sized ∙ sym (length-map p.far e.number) in
    let weights : (b : ℕ) → b < 2 ^ m → split_weight e.number o p.split b ≡ equality_weight o far b = λ b low. p.weighs b (subst (λ n. b < 2 ^ n) (length-map p.far e.number) low) in
    let last : e.number c.last_scalar-last.result ≡ equality_weight o far (2 ^ m - 1) =
    c.last_scalar-last.ensures ∙ ap (λ k. split_weight e.number o p.split (2 ^ k - 1)) many ∙ weights (2 ^ m - 1) (omega (arith, pow_pos m)) in
    let made : AreNextPartials prefix o e.number f (joined prefix near far) near (record { done = c.in_ok-compress_suffix_shifted.field-0; carry = c.in_ok-every.field-0; omega = c.in_ok-every-2.field-0 }) = record {
      others = far;
      whole = refl;
      tables = record {
        done = moved-rows o ring e.number prefix f near far c.in_ok-compress_suffix_shifted.field-0 Done (split_weight e.number o p.split) refl weights
            (compressed-prefix o e.number f (shifted 0 (split_weight e.number o p.split)) l m (split_variables p.split) (length c.args.rows.now) c.in_ok-compress_suffix_shifted.field-0
            whole c.in_ok-compress_suffix_shifted.ensures.size many c.in_ok-compress_suffix_shifted.ensures.rows);
        carry = carried-rows o ring e.number prefix f near far c.in_ok-every.field-0 Carry (e.number c.last_scalar-last.result) _ refl last
            (λ a. ap (λ k. 0 + a * k) behind ∙ omega arith) (c.in_ok-every.ensures l kept);
        omega = last-rows o ring e.number prefix f near far c.in_ok-every-2.field-0 Omega (e.number c.last_scalar-last.result) _ refl last
            (λ a. ap (λ k. k - 1 + a * k) behind ∙ omega arith) (c.in_ok-every-2.ensures l kept);
      };
    } in
    subst (λ zs. AreNextPartials prefix o e.number f zs near (record { done = c.in_ok-compress_suffix_shifted.field-0; carry = c.in_ok-every.field-0; omega = c.in_ok-every-2.field-0 }))
    (ap (λ k. joined k near far) (sym c.requires.order)) made
