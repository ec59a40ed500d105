use Rattle.std.proofs.Common.{◌≡◌, ℕ, ◌+◌, ◌^◌, ◌<◌, ◌≤◌, [], length, map, refl, ◌∙◌, ap, sym, subst, arith}
use Rattle.std.proofs.lemmas.List.{with_items_is}
use Rattle.sc_definitions.specs.Ring.{Ops}
use Rattle.sc_definitions.specs.Tables.{evaluation, Order, prefix, suffix, entries, point_of, folded_by}
use Rattle.sc_definitions.specs.Combined.{combined_weight}
use Rattle.sc_definitions.proofs.Lengths.{pow-same}
use Rattle.sc_table.specs.Polys.{variables_of}
use Rattle.sc_table.specs.Strategy.{order_of}
use Rattle.sc_table.proofs.PowerLaws.{variables_of_length}
use Rattle.sc_partials.specs.Partials.{opened}
use Rattle.sc_partials.specs.Sums.{AreSumsSized, sums_shown, AddsWeights}
use Rattle.sc_svo.specs.Claims.{claims_in, AreOn}
use Rattle.sc_svo.proofs.ClaimLaws.{weights-as}
use Rattle.sc_svo.proofs.TogetherLaws.{some_list}
use Rattle.sc_svo.proofs.BatchLaws.{sums-sized, count-sums, weights-gained, rows_fit}
use Rattle.sc_svo.proofs.batch.gathered_together.Goals as goal

-- no challenges make the point of none, and leave a table as it is
no_point : (order : Order) → [] ≡ point_of order []
no_point prefix = refl
no_point suffix = refl

no_more : (n : ℕ) → 2 ^ (length {A = ℕ} [] + n) ≡ 2 ^ n
no_more n = let e : length {A = ℕ} [] + n ≡ n = omega arith in ap (λ k. 2 ^ k) e

none_bound : (order : Order) (o : Ops) (m : ℕ) (f : ℕ → ℕ) (b : ℕ) → folded_by evaluation order o [] m f b ≡ f b
unfolding folded_by
none_bound order o m f b = refl

pub weights_at-requires-clause-few : goal.weights_at-requires-clause-few
weights_at-requires-clause-few g c =
    let fits = c.requires.fits in
    let rows = variables_of_length fits.arity (length c.args.table.now) fits.rows_are (rows_fit fits.arity (length c.args.table.now) fits.few fits.rows_are) in
    omega (arith, fits.few, pow-same fits.arity _ (sym fits.rows_are ∙ rows))

pub weights_at-requires-clause-on : goal.weights_at-requires-clause-on
weights_at-requires-clause-on g c =
    let fits = c.requires.fits in
    let rows = variables_of_length fits.arity (length c.args.table.now) fits.rows_are (rows_fit fits.arity (length c.args.table.now) fits.few fits.rows_are) in
    subst (λ n. AreOn n c.args.claims.now) (pow-same fits.arity _ (sym fits.rows_are ∙ rows)) fits.on

pub add_weighted-requires-clause-rounds : goal.add_weighted-requires-clause-rounds
add_weighted-requires-clause-rounds g c =
    let n = c.requires.fits.arity in
    let order = order_of c.args.order in
    let many = count-sums g.EF.Field.number g.EF.Field.ops g.met.EF.Field.is_field.ring order n (λ b. 0) (λ b. 0) c.args.l0 c.in_ok-sums.sums.items (c.in_ok-sums.ensures order n (λ b. 0)) in
    omega (arith, many, ap length c.deref_mut.ensures.value, c.requires.few)

pub add_weighted-requires-clause-few : goal.add_weighted-requires-clause-few
add_weighted-requires-clause-few g c =
    let fits = c.requires.fits in
    let rows = variables_of_length fits.arity (length c.args.table.now) fits.rows_are (rows_fit fits.arity (length c.args.table.now) fits.few fits.rows_are) in
    omega (arith, fits.few, pow-same fits.arity _ (sym fits.rows_are ∙ rows))

pub add_weighted-requires-clause-within : goal.add_weighted-requires-clause-within
add_weighted-requires-clause-within g c =
    let fits = c.requires.fits in
    let order = order_of c.args.order in
    let rows = variables_of_length fits.arity (length c.args.table.now) fits.rows_are (rows_fit fits.arity (length c.args.table.now) fits.few fits.rows_are) in
    let many = count-sums g.EF.Field.number g.EF.Field.ops g.met.EF.Field.is_field.ring order fits.arity (λ b. 0) (λ b. 0) c.args.l0 c.in_ok-sums.sums.items
    (c.in_ok-sums.ensures order fits.arity (λ b. 0)) in
    omega (arith, many, ap length c.deref_mut.ensures.value, fits.within, pow-same fits.arity _ (sym fits.rows_are ∙ rows))

pub add_weighted-requires-clause-rows : goal.add_weighted-requires-clause-rows
add_weighted-requires-clause-rows g c =
    let fits = c.requires.fits in
    variables_of_length fits.arity (length c.args.table.now) fits.rows_are (rows_fit fits.arity (length c.args.table.now) fits.few fits.rows_are)

pub add_weighted-requires-clause-weights : goal.add_weighted-requires-clause-weights
add_weighted-requires-clause-weights g c =
    let order = order_of c.args.order in
    let is = c.in_ok-weights.ensures [] (ap (map g.EF.Field.number) (c.new-origin.ensures ∙ c.new.ensures.items) ∙ no_point order) in
    c.as_slice.ensures.size ∙ sym (is.size ∙ no_more (variables_of c.in_ok-weights.weights))

pub add_weighted-requires-clause-sized : goal.add_weighted-requires-clause-sized
add_weighted-requires-clause-sized g c =
    let n = c.requires.fits.arity in
    let order = order_of c.args.order in
    subst AreSumsSized (sym c.deref_mut.ensures.value)
    (sums-sized g.EF.Field.number g.EF.Field.ops g.met.EF.Field.is_field.ring order n (λ b. 0) (λ b. 0) c.args.l0 c.in_ok-sums.sums.items (c.in_ok-sums.ensures order n (λ b. 0)))

pub returns-clause-grids : goal.returns-clause-grids
returns-clause-grids g c n size =
    let e = g.EF.Field in
    let o = e.ops in
    let ring = g.met.EF.Field.is_field.ring in
    let order = order_of c.args.order in
    let fits = c.requires.fits in
    let f = entries (λ (x : g.row.F.Denot). g.EF.Algebra.embedding (g.F.Field.number x)) c.args.table.now in
    let w = combined_weight o (claims_in e.number c.args.claims.now) in
    let old = c.in_ok-sums.sums.items in
    let new = c.add_weighted.new.sums in
    let zeros = c.in_ok-sums.ensures order n f in
    let zs = some_list n in
    let rows = variables_of_length fits.arity (length c.args.table.now) fits.rows_are (rows_fit fits.arity (length c.args.table.now) fits.few fits.rows_are) in
    let same = pow-same n _ (sym size ∙ rows) in
    let is = c.in_ok-weights.ensures [] (ap (map e.number) (c.new-origin.ensures ∙ c.new.ensures.items) ∙ no_point order) in
    let gains : AddsWeights e.number o (opened order f zs.0) (entries e.number c.as_slice.result.now) old new =
    subst (λ xs. AddsWeights e.number o (opened order f zs.0) (entries e.number c.as_slice.result.now) xs new) c.deref_mut.ensures.value (c.in_ok-add_weighted.ensures zs.0 (zs.1 ∙ same)) in
    let weights : (b : ℕ) → b < 2 ^ length zs.0 → entries e.number c.as_slice.result.now b ≡ w b =
    λ b low. ap (λ t. t b) c.as_slice.ensures.numbers
    ∙ is.entries_are b (subst (λ k. b < k) (ap (λ k. 2 ^ k) (zs.1 ∙ same) ∙ is.size ∙ no_more (variables_of c.in_ok-weights.weights)) low)
    ∙ none_bound order o (variables_of c.in_ok-weights.weights) w b in
    let many = count-sums e.number o ring order n f (λ b. 0) c.args.l0 old zeros in
    let within : length old ≤ length zs.0 = omega (arith, many, zs.1, fits.within, pow-same fits.arity n (sym fits.rows_are ∙ size)) in
    ap (sums_shown e.number) (with_items_is c.in_ok-sums.sums new (gains.same ∙ sym c.in_ok-sums.sums.ok.0))
    ∙ weights-gained e.number o ring order n f (λ b. 0) c.args.l0 w old new zs.0 refl zs.1 zeros
    (weights-as e.number o (opened order f zs.0) (entries e.number c.as_slice.result.now) w old new within weights gains)
