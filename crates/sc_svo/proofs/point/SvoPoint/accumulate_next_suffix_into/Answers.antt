use Rattle.std.proofs.Common.{◌≡◌, ℕ, ◌-◌, ◌^◌, ◌<◌, length, map, ◌∙◌, ap, sym, subst, arith}
use Rattle.std.proofs.lemmas.List.{length-map}
use Rattle.std.proofs.lemmas.Nat.{pow_pos}
use Rattle.sc_definitions.specs.Ring.{plus, times}
use Rattle.sc_definitions.specs.Tables.{suffix, entries, equality_weight, value, digits}
use Rattle.sc_definitions.specs.Shifts.{shifted, only_at}
use Rattle.sc_definitions.specs.Statements.{successor_weight}
use Rattle.sc_definitions.specs.Parts.{Carry, Done, Omega, part_at}
use Rattle.sc_table.specs.SplitEqs.{split_variables, split_weight}
use Rattle.sc_partials.specs.Partials.{joined}
use Rattle.sc_svo.specs.Points.{near_in, far_in}
use Rattle.sc_svo.proofs.NextPointLaws.{own-done, only-last, moved-done, gained-suffix}
use Rattle.sc_svo.proofs.point.SvoPoint.accumulate_next_suffix_into.Goals as goal

pub returns : goal.returns
returns g c = λ b low.
    let p = c.args.self.now in
    let e = g.EF.Field in
    let o = e.ops in
    let ring = g.met.EF.Field.is_field.ring in
    let near = near_in p in
    let far = far_in p in
    let rs = map e.number c.args.rs.now in
    let x = e.number c.args.scale in
    let m = length far in
    let w = split_weight e.number o p.split in
    let near_is : map e.number c.as_slice.result.now ≡ near = ap (map e.number) c.as_slice.ensures in
    let at_is : map e.number c.as_slice-2.result.now ≡ rs = ap (map e.number) c.as_slice-2.ensures in
    let same : length rs ≡ length near = length-map c.args.rs.now e.number ∙ c.requires.bound in
    let many : split_variables p.split ≡ m = p.sized ∙ sym (length-map p.far e.number) in
    let small : b < 2 ^ m = omega (arith, low, c.requires.size) in
    let weights : (k : ℕ) → k < 2 ^ m → w k ≡ equality_weight o far k = λ k under. p.weighs k (subst (λ n. k < 2 ^ n) (length-map p.far e.number) under) in
    let last : e.number c.last_scalar.result ≡ equality_weight o far (2 ^ m - 1) =
    c.last_scalar.ensures ∙ ap (λ k. w (2 ^ k - 1)) many ∙ weights (2 ^ m - 1) (omega (arith, pow_pos m)) in
    let done : e.number c.eval_next-carry.result.1 ≡ part_at o Done near rs = c.eval_next-carry.ensures.done ∙ cc (near_is, at_is) in
    let carry : e.number c.eval_next-carry.result.0 ≡ part_at o Carry near rs = c.eval_next-carry.ensures.carry ∙ cc (near_is, at_is) in
    let at_last : e.number c.eval_next-carry.result.2 ≡ part_at o Omega near rs = c.eval_next-carry.ensures.omega ∙ cc (near_is, at_is) in
    let long : length c.accumulate_into.new.out ≡ length c.args.out.now = c.accumulate_into.auto.out in
    let longer : length c.accumulate_shifted_into.new.out ≡ length c.accumulate_into.new.out = c.accumulate_shifted_into.auto.out in
    let first = c.accumulate_into.ensures b (subst (λ k. b < 2 ^ k) (sym many) small)
    ∙ ap (λ k. plus o (entries e.number c.args.out.now b) (times o k (w b))) (c.mul.ensures ∙ ap (times o x) done)
    ∙ ap (plus o (entries e.number c.args.out.now b)) (own-done o ring far x (part_at o Done near rs) w b small weights) in
    let second = c.accumulate_shifted_into.ensures b (subst (λ k. b < 2 ^ k) (sym many) small)
    ∙ ap (λ k. plus o (entries e.number c.accumulate_into.new.out b) (times o k (shifted 0 w b))) (c.mul-2.ensures ∙ ap (times o x) carry)
    ∙ ap (plus o (entries e.number c.accumulate_into.new.out b)) (moved-done o ring far x (part_at o Carry near rs) w b small weights) in
    let last_gain = c.mul-3.ensures ∙ ap (λ k. times o k (e.number c.eval_next-carry.result.2)) c.mul-last_weight.ensures ∙ ap (times o (times o x (e.number c.last_scalar.result))) at_last in
    let row : length c.accumulate_shifted_into.new.out - 1 ≡ 2 ^ m - 1 = omega (arith, long, longer, c.requires.size) in
    let third = c.add_at.ensures b (omega (arith, low, long, longer))
    ∙ ap (λ k. plus o (entries e.number c.accumulate_shifted_into.new.out b) (only_at (length c.accumulate_shifted_into.new.out - 1) (λ i. k) b)) last_gain
    ∙ ap (plus o (entries e.number c.accumulate_shifted_into.new.out b)) (only-last o ring far x (part_at o Omega near rs) (e.number c.last_scalar.result) (length c.accumulate_shifted_into.new.out - 1) b last row) in
    gained-suffix o ring far x (entries e.number c.args.out.now b) _ _ _ near rs b same small first second third
    ∙ ap (λ zs. plus o (entries e.number c.args.out.now b) (times o x (value o (successor_weight o zs) (joined suffix rs (digits m b))))) (ap (λ k. joined k near far) (sym c.requires.order))
