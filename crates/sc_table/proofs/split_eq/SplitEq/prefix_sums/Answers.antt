use Rattle.std.proofs.Common.{◌≡◌, ◌+◌, ◌-◌, ◌*◌, ◌/◌, ◌%◌, ◌^◌, ◌<◌, length, take, drop, sym, ◌∙◌, ap, subst}
use Rattle.std.proofs.lemmas.List.{take_rest, length-drop}
use Rattle.sc_definitions.specs.Tables.{entries}
use Rattle.sc_table.specs.SplitEqs.{split_variables, split_weight}
use Rattle.sc_table.proofs.EntryLaws.{entry-drop}
use Rattle.sc_table.proofs.PowerLaws.{one-shifted}
use Rattle.sc_table.proofs.SplitLaws.{rows-left, size-again, rows-behind, rows-summed}
use Rattle.sc_table.proofs.split_eq.SplitEq.prefix_sums.Goals as goal

pub new-sums-requires : goal.new-sums-requires
new-sums-requires g c =
    let n = split_variables c.args.self.now in
    let m = c.requires.size.0 in
    let poly = c.args.poly.now in
    (m, c.in_ok-zeros.ensures.size ∙ ap (λ k. length poly / 2 ^ k) c.num_variables.ensures ∙ rows-left n m (length poly) c.requires.size.1)

pub add_rows-requires-clause-size : goal.add_rows-requires-clause-size
add_rows-requires-clause-size g c =
    let s = c.args.self.now in
    let n = split_variables s in
    let m = c.requires.size.0 in
    let poly = c.args.poly.now in
    let up = c.args.up in
    let width = length poly / 2 ^ c.num_variables.result in
    let left : width ≡ 2 ^ m = ap (λ k. length poly / 2 ^ k) c.num_variables.ensures ∙ rows-left n m (length poly) c.requires.size.1 in
    let rows = 1 * 2 ^ c.num_variables-rows.result % 18446744073709551616 in
    let rows_are : rows ≡ 2 ^ n = ap (λ k. 1 * 2 ^ k % 18446744073709551616) c.num_variables-rows.ensures ∙ one-shifted n s.few in
    let wide : length c.as_mut_slice.result.now ≡ 2 ^ m = c.as_mut_slice.ensures.size ∙ sym c.new-sums.ensures.size ∙ c.in_ok-zeros.ensures.size
    ∙ left in
    ap length (take_rest poly (up * width)) ∙ length-drop (up * width) poly ∙ ap (λ k. length poly - up * k) left
    ∙ rows-behind n m (length poly) c.requires.size.1 up c.requires.up
    ∙ sym (ap (λ k. (k - up) * length c.as_mut_slice.result.now) rows_are ∙ ap (λ k. (2 ^ n - up) * k) wide)

pub returns-clause-size : goal.returns-clause-size
returns-clause-size g c =
    let n = split_variables c.args.self.now in
    let poly = c.args.poly.now in
    size-again n c.requires.size.0 (length poly) c.requires.size.1 c.new-sums.result.variables
    (sym (ap (λ k. length poly / 2 ^ k) c.num_variables.ensures) ∙ sym c.in_ok-zeros.ensures.size ∙ c.new-sums.ensures.size)

pub returns-clause-rows : goal.returns-clause-rows
returns-clause-rows g c = λ k low.
    let f = g.EF.Field in
    let of = λ (x : g.row.A.Denot). g.EF.Algebra.embedding (g.A.Field.number x) in
    let s = c.args.self.now in
    let n = split_variables s in
    let poly = c.args.poly.now in
    let up = c.args.up in
    let v = c.new-sums.result.variables in
    let width = length poly / 2 ^ c.num_variables.result in
    let left : width ≡ 2 ^ v = sym c.in_ok-zeros.ensures.size ∙ c.new-sums.ensures.size in
    let rows = 1 * 2 ^ c.num_variables-rows.result % 18446744073709551616 in
    let rows_are : rows ≡ 2 ^ n = ap (λ j. 1 * 2 ^ j % 18446744073709551616) c.num_variables-rows.ensures ∙ one-shifted n s.few in
    let given = c.as_mut_slice.result.now in
    let wide : length given ≡ 2 ^ v = c.as_mut_slice.ensures.size in
    let zero : entries f.number given k ≡ 0 = ap (λ t. t k) (c.as_mut_slice.ensures.numbers ∙ c.new-sums.ensures.table)
    ∙ c.in_ok-zeros.ensures.zero k in
    let part = entries of (take (length poly - up * width) (drop (up * width) poly)) in
    ap (λ t. t k) (c.as_mut_slice.ensures.written c.add_rows.new.sums (c.add_rows.auto.sums ∙ wide))
    ∙ c.add_rows.ensures k (subst (λ j. k < j) (sym wide) low)
    ∙ rows-summed f.ops g.met.EF.Field.is_field.ring n up (rows - up) c.requires.up (ap (λ j. j - up) rows_are) (entries of poly) part
    (split_weight f.number f.ops s) v (length given) (entries f.number given k) k
    wide zero (λ b. ap (λ l. entries of l b) (take_rest poly (up * width)) ∙ entry-drop of poly (up * width) b
    ∙ ap (λ j. entries of poly (up * j + b)) left)
