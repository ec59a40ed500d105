use Rattle.std.proofs.Common.{◌≡◌, ℕ, ◌+◌, ◌-◌, ◌<◌, [], ◌∷◌, length, map, get_or, sym, ◌∙◌, ap, subst, arith}
use Rattle.std.proofs.lemmas.List.{with_items_is}
use Rattle.sc_definitions.specs.Tables.{prefix}
use Rattle.sc_table.specs.declared.poly.Poly.{Poly}
use Rattle.sc_table.specs.Polys.{table_of, IsFixed}
use Rattle.sc_degree.specs.Provers.{IsFolded}
use Rattle.sc_degree.specs.Products.{prover_of}
use Rattle.sc_degree.proofs.FixedTables.{folded}
use Rattle.sc_degree.proofs.table_product.TableProductRoundProver.fold.Goals as goal

pub returns : goal.returns
returns g c =
    let e = g.EF.Field in
    let r = e.number c.args.r in
    let old = c.args.self.now in
    let ts = old.tables.items in
    let us = c.bind_first.new.tables in
    let lent = c.as_mut_slice.ensures.value in
    let same : length us ≡ length ts = c.bind_first.auto.tables ∙ ap length lent in
    let are : (k : ℕ) (d : Poly g.row.EF.Denot) → k < length ts → IsFixed prefix e.ops e.number r (get_or ts k d) (get_or us k d) =
    subst (λ xs. (k : ℕ) (d : Poly g.row.EF.Denot) → k < length xs → IsFixed prefix e.ops e.number r (get_or xs k d) (get_or us k d)) lent c.bind_first.ensures in
    let one_less : old.variables ≡ old.variables - 1 + 1 = omega (arith, c.requires) in
    subst (λ xs. IsFolded (r ∷ []) (prover_of e.ops (map (table_of e.number) ts) old.variables) (prover_of e.ops (map (table_of e.number) xs) (old.variables - 1)))
    (sym (with_items_is old.tables us (same ∙ sym old.tables.ok.0)))
    (folded e.ops g.met.EF.Field.is_field.ring e.number r ts us old.variables (old.variables - 1) same old.same one_less are)
