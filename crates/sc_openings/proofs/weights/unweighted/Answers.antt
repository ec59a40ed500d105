use Rattle.std.proofs.Common.{◌≡◌, ℕ, ◌+◌, ◌<◌, [], ◌∷◌, length, map, get_or, sym, ◌∙◌, ap, subst, arith, length-append}
use Rattle.std.proofs.lemmas.List.{length-map}
use Rattle.sc_definitions.specs.Tables.{entries}
use Rattle.sc_definitions.proofs.Lengths.{pow-same}
use Rattle.sc_table.specs.Polys.{variables_of}
use Rattle.sc_merge_definitions.specs.Openings.{table_at}
use Rattle.sc_merged.specs.declared.weighted.WeightedPoly.{WeightedPoly}
use Rattle.sc_openings.specs.OpeningsJobs.{table_of_entries}
use Rattle.sc_openings.specs.FittingClaims.{claimed_by}
use Rattle.sc_openings.specs.ClaimedValues.{IsWeighted}
use Rattle.sc_openings.proofs.ShapeLaws.{table-rows}
use Rattle.sc_openings.proofs.ValueLaws.{table-is}
use Rattle.sc_openings.proofs.WeightLaws.{each-more, entries-same}
use Rattle.sc_openings.proofs.weights.unweighted.Goals as goal

pub new-requires : goal.new-requires
new-requires g c =
    let fitting = c.args.fitting.now in
    let image = λ (x : g.row.F.Denot). g.EF.Algebra.embedding (g.F.Field.number x) in
    let size = sym (length-map c.in_ok-table.table.items g.EF.Field.number) ∙ ap length c.in_ok-table.ensures ∙ length-map c.deref.result.now image
    ∙ ap length c.deref.ensures.value ∙ table-rows fitting c.loop-i.i c.index-fitting-i.result c.loop-i-test.true in
    (fitting.num_variables, size)

pub new-requires-in-loop-i : goal.new-requires-in-loop-i
new-requires-in-loop-i g c =
    let fitting = c.args.fitting.now in
    let image = λ (x : g.row.F.Denot). g.EF.Algebra.embedding (g.F.Field.number x) in
    let size = sym (length-map c.in_ok-table.table.items g.EF.Field.number) ∙ ap length c.in_ok-table.ensures ∙ length-map c.deref.result.now image
    ∙ ap length c.deref.ensures.value ∙ table-rows fitting c.loop-i.i c.index-fitting-i.result c.loop-i-test.true in
    c.in_ok-weights.ensures.variables ∙ pow-same fitting.num_variables (variables_of c.new.result) (sym size ∙ c.new.ensures.size)

-- one table more
pub loop-i-preserved : goal.loop-i-preserved
loop-i-preserved g c =
    let N = g.EF.Field.number in
    let B = g.F.Field.number in
    let emb = g.EF.Algebra.embedding in
    let image = λ (x : g.row.F.Denot). emb (B x) in
    let fitting = c.args.fitting.now in
    let n = fitting.num_variables in
    let i = c.loop-i.i in
    let inv = c.loop-i.invariant in
    let fs = map (table_of_entries emb) (claimed_by fitting).tables in
    let P : ℕ → WeightedPoly g.row.EF.Denot → Type 0 = λ j w. IsWeighted N n (record { table = table_at fs j; weights = λ b. 0 }) w in
    let new = c.new-in-loop-i.result in
    let size = sym (length-map c.in_ok-table.table.items N) ∙ ap length c.in_ok-table.ensures ∙ length-map c.deref.result.now image
    ∙ ap length c.deref.ensures.value ∙ table-rows fitting i c.index-fitting-i.result c.loop-i-test.true in
    let rows = c.new-in-loop-i.ensures.table ∙ c.new.ensures.table ∙ entries-same N image c.in_ok-table.table.items c.deref.result.now c.in_ok-table.ensures
    ∙ ap (entries image) c.deref.ensures.value ∙ table-is emb B g.met.EF.Algebra.embeds.zero_kept fitting.tables.now i c.index-fitting-i.result c.loop-i-test.true in
    let here : P i new =
    record {
      variables = c.new-in-loop-i.ensures.variables ∙ pow-same (variables_of c.new.result) n (sym c.new.ensures.size ∙ size);
      rows = record { table = λ b low. ap (λ f. f b) rows; weights = λ b low. ap (λ f. f b) c.new-in-loop-i.ensures.weights ∙ c.in_ok-weights.ensures.table b };
    } in
    let items = c.push_reserved.ensures.items in
    record {
      made = ap length items ∙ length-append c.loop-i.pairs.items _ ∙ ap (λ k. k + 1) inv.made;
      room = omega (arith, c.push_reserved.ensures.capacity, inv.room);
      each = subst (λ l. (j : ℕ) (d : WeightedPoly g.row.EF.Denot) → j < length l → P j (get_or l j d)) (sym items)
          (λ j d low. each-more P c.loop-i.pairs.items new inv.each (subst (λ k. P k new) (sym inv.made) here) j d (omega (arith, low, length-append c.loop-i.pairs.items (new ∷ []))));
    }

pub returns : goal.returns
returns g c =
    let made : length c.loop-i.pairs.items ≡ length c.args.fitting.now.tables.now = omega (arith, c.loop-i.invariant.made, c.loop-i.auto.i-end, c.loop-i-test.false) in
    record { count = made; each = λ j d low. c.loop-i.invariant.each j d (subst (λ k. j < k) (sym made) low) }
