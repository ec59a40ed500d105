use Rattle.std.proofs.Common.{◌≡◌, ℕ, ◌+◌, ◌-◌, ◌/◌, ◌^◌, [], length, map, All, sym, ◌∙◌, ap, subst, arith}
use Rattle.std.proofs.lemmas.List.{length-map, with_items_is}
use Rattle.sc_definitions.specs.Ring.{plus}
use Rattle.sc_definitions.specs.Tables.{sum_below, entries}
use Rattle.sc_definitions.specs.Products.{product_round}
use Rattle.sc_definitions.proofs.Lists.{read_has}
use Rattle.sc_definitions.proofs.RingLaws.{plus_comm, plus-zero}
use Rattle.sc_definitions.proofs.Sums.{element-sum}
use Rattle.sc_table.specs.Polys.{variables_of, table_of}
use Rattle.sc_table.proofs.EntryLaws.{entry-filled}
use Rattle.sc_degree.specs.Nodes.{node_of}
use Rattle.sc_degree.specs.Lines.{lines_at}
use Rattle.sc_degree.proofs.TableProductLaws.{half-rows, both-halves, round-lines, node_values-are}
use Rattle.sc_degree.proofs.table_product.TableProductRoundProver.round_poly.Goals as goal

pub add_rows-requires-clause-halves : goal.add_rows-requires-clause-halves
add_rows-requires-clause-halves g c = λ k d low.
    let product = c.args.self.now in
    let n = product.variables in
    let are = c.as_slice.ensures.value in
    let arity : variables_of c.index.result.now ≡ n =
    read_has (λ t. variables_of t ≡ n) product.tables.items 0 c.index.result.now product.same (omega (arith, product.some, product.tables.ok.0)) c.index.ensures in
    both-halves n c.num_evals-half.result c.requires.left (c.num_evals-half.ensures ∙ ap (λ v. 2 ^ v) arity)
    ∙ ap (λ v. 2 ^ v) (sym (subst (All (λ t. variables_of t ≡ n)) (sym are) product.same k d low))

pub returns : goal.returns
unfolding entries
returns g c =
    let e = g.EF.Field in
    let ring = g.met.EF.Field.is_field.ring in
    let product = c.args.self.now in
    let n = product.variables in
    let tables = c.as_slice.result.now in
    let are : tables ≡ product.tables.items = c.as_slice.ensures.value in
    let fs = map (table_of e.number) product.tables.items in
    let half = c.num_evals-half.result / 2 in
    let zeros = c.resize.new.self in
    let lent = c.as_mut_slice.result.now in
    let vs = c.add_rows.new.values in
    let cs = product_round e.ops fs [] (n - 1) in
    let arity : variables_of c.index.result.now ≡ n =
    read_has (λ t. variables_of t ≡ n) product.tables.items 0 c.index.result.now product.same (omega (arith, product.some, product.tables.ok.0)) c.index.ensures in
    let half_is : half ≡ 2 ^ (n - 1) = half-rows n c.num_evals-half.result c.requires.left (c.num_evals-half.ensures ∙ ap (λ v. 2 ^ v) arity) in
    let kept : length vs ≡ length lent = c.add_rows.auto.values in
    let size : length vs ≡ zeros.len = kept ∙ ap length c.as_mut_slice.ensures.value ∙ sym zeros.ok.0 in
    let many : length vs ≡ length product.tables.items = omega (arith, size, c.in_ok-resize.ensures.len, c.len.ensures, product.tables.ok.0) in
    ap (map e.number) (with_items_is zeros vs size)
    ∙ node_values-are e.ops cs (map e.number vs) (length fs)
    (length-map vs e.number ∙ many ∙ sym (length-map product.tables.items (table_of e.number)))
    (λ k low.
    let none : entries e.number lent k ≡ 0 =
    ap (λ xs. entries e.number xs k) (c.as_mut_slice.ensures.value ∙ c.in_ok-resize.ensures.items)
    ∙ entry-filled e.number c.new-values.result.items c.ZERO.result _ _ k c.new-values.ensures.items (ap e.number c.ZERO.ensures ∙ g.met.EF.Field.zero_is) in
    let sum : ℕ = sum_below e.ops half (λ b. lines_at e.ops (map (table_of e.number) tables) b (half + b) (node_of k)) in
    c.add_rows.ensures k (omega (arith, low, many, kept, length-map product.tables.items (table_of e.number)))
    ∙ ap (λ v. plus e.ops v sum) none
    ∙ plus_comm e.ops ring 0 sum ∙ plus-zero e.ops ring sum
    ∙ element-sum e.ops ring half (λ b. lines_at e.ops (map (table_of e.number) tables) b (half + b) (node_of k))
    ∙ ap (λ ts. sum_below e.ops half (λ b. lines_at e.ops (map (table_of e.number) ts) b (half + b) (node_of k))) are
    ∙ round-lines e.ops ring fs (n - 1) half (node_of k) half_is)
