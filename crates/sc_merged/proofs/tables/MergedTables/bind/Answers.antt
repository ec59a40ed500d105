use Rattle.std.proofs.Common.{◌≡◌, ℕ, ◌-◌, ◌<◌, [], ◌∷◌, length, map, get_or, sym, ◌∙◌, ap, subst, arith}
use Rattle.std.proofs.lemmas.List.{with_items_is}
use Rattle.sc_soundness.specs.Merged.{bound_table}
use Rattle.sc_merged.specs.declared.weighted.WeightedPoly.{WeightedPoly}
use Rattle.sc_merged.specs.SameRows.{HaveSameRows}
use Rattle.sc_merged.specs.BoundPolys.{IsBound}
use Rattle.sc_merged.specs.WeightedPolys.{weighted_in}
use Rattle.sc_merged.proofs.BoundLaws.{bound-arity, bound-all}
use Rattle.sc_merged.proofs.tables.MergedTables.bind.Goals as goal

pub returns-clause-bound : goal.returns-clause-bound
returns-clause-bound g c =
    let e = g.EF.Field in
    let N = e.number in
    let o = e.ops in
    let r = N c.args.r in
    let old = c.args.self.now in
    let ts = old.pairs.items in
    let us = c.bind_all.new.pairs in
    let m = old.variables - 1 in
    let lent = c.as_mut_slice.ensures.value in
    let same : length us ≡ length ts = c.bind_all.auto.pairs ∙ ap length lent in
    let are : (k : ℕ) (d : WeightedPoly g.row.EF.Denot) → k < length ts → IsBound o N r (get_or ts k d) (get_or us k d) =
    subst (λ xs. (k : ℕ) (d : WeightedPoly g.row.EF.Denot) → k < length xs → IsBound o N r (get_or xs k d) (get_or us k d)) lent c.bind_all.ensures.bound in
    let arity = bound-arity o N r ts us old.variables m same old.same (omega (arith, c.requires)) are in
    subst (λ xs. HaveSameRows m (map (weighted_in N) xs) (map (bound_table o (r ∷ []) m) (map (weighted_in N) ts))) (sym (with_items_is old.pairs us (same ∙ sym old.pairs.ok.0)))
    (bound-all o N r ts us m same arity are)
