use mathlib.Core.Path.{fun_ext}
use Rattle.std.proofs.Common.{◌≡◌, ℕ, List, length, refl, ◌∙◌, sym, subst, arith}
use Rattle.std.proofs.lemmas.List.{length-map}
use Rattle.sc_definitions.specs.Tables.{entries}
use Rattle.sc_definitions.proofs.Lengths.{pow-same}
use Rattle.sc_table.specs.Strategy.{order_of}
use Rattle.sc_table.proofs.EntryLaws.{entry-embedded}
use Rattle.sc_table.proofs.PowerLaws.{variables_of_length}
use Rattle.sc_svo.specs.Claims.{claims_in, AreOn}
use Rattle.sc_svo.specs.Grids.{grid_shown, grids_shown}
use Rattle.sc_svo.proofs.BatchLaws.{grids-sized, count-grids, grids-as, values-as, rows_fit}
use Rattle.sc_svo.proofs.batch.SvoBatch.with_values.Goals as goal

-- the entries of a table's images are the images of its entries
images : {X : Type 0} (h : ℕ → ℕ) (number : X → ℕ) (xs : List X) → h 0 ≡ 0 → entries (λ x. h (number x)) xs ≡ (λ b. h (entries number xs b))
images h number xs kept = fun_ext (λ b. entry-embedded h number xs b kept)

pub invariant_of-batch : goal.invariant_of-batch
invariant_of-batch g c =
    let e = g.EF.Field in
    let fits = c.requires.fits in
    let rows = variables_of_length fits.arity (length c.args.table.now) fits.rows_are (rows_fit fits.arity (length c.args.table.now) fits.few fits.rows_are) in
    let same = pow-same fits.arity _ (sym fits.rows_are ∙ rows) in
    let grids = c.in_ok-into_grids.ensures ∙ c.in_ok-sums.ensures.grids fits.arity fits.rows_are in
    let many = count-grids e.number e.ops (order_of c.args.order) fits.arity _ _ c.args.l0 c.in_ok-into_grids.field-0 grids in
    record {
      few = omega (arith, fits.few, same);
      within = omega (arith, fits.within, same, many);
      on = subst (λ n. AreOn n c.in_ok-claims.claims.items) same (c.in_ok-claims.ensures.on fits.arity fits.on);
      sized = grids-sized e.number e.ops g.met.EF.Field.is_field.ring (order_of c.args.order) fits.arity _ _ c.args.l0 c.in_ok-into_grids.field-0 grids;
    }

pub returns-clause-batch : goal.returns-clause-batch
returns-clause-batch g c =
    let e = g.EF.Field in
    let fits = c.requires.fits in
    let order = order_of c.args.order in
    let h : ℕ → ℕ = g.EF.Algebra.embedding in
    let n = g.F.Field.number in
    let table = c.args.table.now in
    let rows = variables_of_length fits.arity (length table) fits.rows_are (rows_fit fits.arity (length table) fits.few fits.rows_are) in
    let same = pow-same fits.arity _ (sym fits.rows_are ∙ rows) in
    let grids = c.in_ok-into_grids.ensures ∙ c.in_ok-sums.ensures.grids fits.arity fits.rows_are in
    let count = length-map c.in_ok-into_grids.field-0.rounds (grid_shown e.number)
    ∙ count-grids e.number e.ops order fits.arity _ _ c.args.l0 c.in_ok-into_grids.field-0 grids in
    record {
      order_is = refl;
      variables = rows;
      claims = c.in_ok-claims.ensures.same;
      rounds = count;
      grids = grids-as order e.ops fits.arity _ (entries (λ (x : g.row.F.Denot). h (n x)) table) (λ b. h (entries n table b))
          (claims_in e.number c.args.claims.now) (claims_in e.number c.in_ok-claims.claims.items) c.args.l0 _ (grids_shown e.number c.in_ok-into_grids.field-0)
          same (images h n table g.met.EF.Algebra.embeds.zero_kept) c.in_ok-claims.ensures.same count grids;
    }

pub returns-clause-values : goal.returns-clause-values
returns-clause-values g c =
    let e = g.EF.Field in
    let fits = c.requires.fits in
    let h : ℕ → ℕ = g.EF.Algebra.embedding in
    let n = g.F.Field.number in
    let table = c.args.table.now in
    let rows = variables_of_length fits.arity (length table) fits.rows_are (rows_fit fits.arity (length table) fits.few fits.rows_are) in
    let same = pow-same fits.arity _ (sym fits.rows_are ∙ rows) in
    values-as e.ops fits.arity _ (entries (λ (x : g.row.F.Denot). h (n x)) table) (λ b. h (entries n table b)) (claims_in e.number c.args.claims.now) _
    same (images h n table g.met.EF.Algebra.embeds.zero_kept) (c.in_ok-sums.ensures.values fits.arity fits.rows_are)
