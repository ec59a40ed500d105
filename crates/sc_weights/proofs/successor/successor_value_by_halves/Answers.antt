use Rattle.std.proofs.Common.{◌≡◌, ℕ, ◌-◌, ◌*◌, ◌^◌, length, map, refl, sym, ◌∙◌, ap, arith, pow-add}
use Rattle.std.proofs.lemmas.Nat.{pow_pos}
use Rattle.std.proofs.lemmas.List.{length-map}
use Rattle.sc_definitions.specs.Tables.{value}
use Rattle.sc_definitions.specs.Statements.{next_row}
use Rattle.sc_weights.proofs.Halves.{block-fits, end-length, last-of}
use Rattle.sc_weights.specs.Moved.{moved_down}
use Rattle.sc_weights.proofs.NextValues.{down-all, block_value, block-last}
use Rattle.sc_weights.proofs.successor.successor_value_by_halves.Goals as goal

pub overflow_sub-last : goal.overflow_sub-last
overflow_sub-last g c = block-fits (length c.args.point.now) (length c.args.selector.now) _ _ c.requires.size c.requires.block

pub eval_slice-stays-requires : goal.eval_slice-stays-requires
eval_slice-stays-requires g c =
    end-length c.args.rows.now (length c.args.rows.now) c.args.block refl (block-fits (length c.args.point.now) (length c.args.selector.now) _ _ c.requires.size c.requires.block) ∙ c.requires.block

pub returns : goal.returns
returns g c =
    let f = g.EF.Field in
    let embed = g.EF.Algebra.embedding in
    let kept = g.met.EF.Algebra.embeds.zero_kept in
    let of : g.row.A.Denot → ℕ = g.A.Field.number in
    let rows = c.args.rows.now in
    let point = c.args.point.now in
    let p = length point in
    let k = length c.args.selector.now in
    let zs = map f.number point in
    let ss = map f.number c.args.selector.now in
    let q = 2 ^ p in
    let m = 2 ^ k in
    let arity : length zs ≡ p = length-map point f.number in
    let width : 2 ^ length ss ≡ m = ap (λ n. 2 ^ n) (length-map c.args.selector.now f.number) in
    let at = length rows - c.args.block in
    let fits = block-fits p k (length rows) c.args.block c.requires.size c.requires.block in
    let start : at ≡ (q - 1) * m = omega (arith, c.requires.size, pow-add 2 p k, last-of q m (pow_pos p), c.requires.block) in
    let left : length rows - at ≡ m = omega (arith, fits, c.requires.block) in
    let v : ℕ → ℕ = block_value f.ops embed of kept ss rows m in
    let stays : f.number c.eval_slice-stays.result ≡ v (2 ^ length zs - 1) =
    c.eval_slice-stays.ensures ∙ block-last f.ops embed of kept ss rows q m at start width left ∙ ap (λ n. v (2 ^ n - 1)) (sym arity) in
    c.moved_down_value.ensures
    ∙ ap (λ n. value f.ops (moved_down (2 ^ n) 1 (λ _. f.number c.eval_slice-stays.result) v) zs) (sym arity)
    ∙ down-all f.ops g.met.EF.Field.is_field.ring zs v (f.number c.eval_slice-stays.result) stays
    ∙ ap (λ n. value f.ops (λ a. v (next_row n a)) zs) arity
