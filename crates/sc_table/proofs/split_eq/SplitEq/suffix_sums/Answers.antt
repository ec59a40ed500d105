use Rattle.std.proofs.Common.{◌≡◌, ◌+◌, ◌-◌, ◌*◌, ◌/◌, ◌^◌, ◌<◌, length, sym, ◌∙◌, ap, subst, refl, arith, pow-add}
use Rattle.sc_definitions.specs.Tables.{entries}
use Rattle.sc_table.specs.SplitEqs.{split_variables, split_weight}
use Rattle.sc_table.proofs.SplitLaws.{rows-left, size-again, piece-gained}
use Rattle.sc_table.proofs.split_eq.SplitEq.suffix_sums.Goals as goal

pub new-sums-requires : goal.new-sums-requires
new-sums-requires g c =
    let n = split_variables c.args.self.now in
    let m = c.requires.size.0 in
    let poly = c.args.poly.now in
    (m, c.in_ok-zeros.ensures.size ∙ ap (λ k. length poly / 2 ^ k) c.num_variables.ensures ∙ rows-left n m (length poly) c.requires.size.1)

pub add_pieces-requires-clause-size : goal.add_pieces-requires-clause-size
add_pieces-requires-clause-size g c =
    let n = split_variables c.args.self.now in
    let m = c.requires.size.0 in
    let poly = c.args.poly.now in
    let left : length poly / 2 ^ c.num_variables.result ≡ 2 ^ m = ap (λ k. length poly / 2 ^ k) c.num_variables.ensures
    ∙ rows-left n m (length poly) c.requires.size.1 in
    let wide : length c.as_mut_slice.result.now ≡ 2 ^ m = c.as_mut_slice.ensures.size ∙ sym c.new-sums.ensures.size ∙ c.in_ok-zeros.ensures.size
    ∙ left in
    omega (arith, c.requires.size.1, pow-add 2 n m, ap (λ k. k * 2 ^ n) wide)

pub returns-clause-size : goal.returns-clause-size
returns-clause-size g c =
    let n = split_variables c.args.self.now in
    let poly = c.args.poly.now in
    size-again n c.requires.size.0 (length poly) c.requires.size.1 c.new-sums.result.variables
    (sym (ap (λ k. length poly / 2 ^ k) c.num_variables.ensures) ∙ sym c.in_ok-zeros.ensures.size ∙ c.new-sums.ensures.size)

pub returns-clause-rows : goal.returns-clause-rows
returns-clause-rows g c = λ k low.
    let f = g.EF.Field in
    let of = λ (x : g.row.A.Denot). g.EF.Algebra.embedding (g.A.Field.number x) in
    let s = c.args.self.now in
    let n = split_variables s in
    let up = c.args.up in
    let images = entries of c.args.poly.now in
    let given = c.as_mut_slice.result.now in
    let wide = c.as_mut_slice.ensures.size in
    let zero : entries f.number given k ≡ 0 = ap (λ t. t k) (c.as_mut_slice.ensures.numbers ∙ c.new-sums.ensures.table)
    ∙ c.in_ok-zeros.ensures.zero k in
    ap (λ t. t k) (c.as_mut_slice.ensures.written c.add_pieces.new.sums (c.add_pieces.auto.sums ∙ wide))
    ∙ c.add_pieces.ensures k (subst (λ j. k < j) (sym wide) low)
    ∙ piece-gained f.ops g.met.EF.Field.is_field.ring n up (2 ^ n - up) c.requires.up refl images (λ i. images (k * 2 ^ n + up + i))
    (split_weight f.number f.ops s) (entries f.number given k) k zero (λ i inside. refl)
