use Rattle.std.proofs.Common.{length, map, sym, ◌∙◌, ap, subst, arith}
use Rattle.sc_definitions.specs.Tables.{entries}
use Rattle.sc_definitions.specs.Combined.{combined_weight}
use Rattle.sc_definitions.proofs.Lengths.{pow-same}
use Rattle.sc_svo.specs.Batches.{batch_in, IsTableOf}
use Rattle.sc_svo.specs.Claims.{AreOn, claims_in}
use Rattle.sc_jobs.specs.Cases.{problem_in}
use Rattle.sc_jobs.proofs.ClaimLaws.{fits_small, batch_weights, batch_values}
use Rattle.sc_jobs.proofs.OfferLaws.{values_taken}
use Rattle.sc_audit.proofs.ways.batch_of.Goals as goal

-- the statements are taken
pub claims_of-requires : goal.claims_of-requires
claims_of-requires g c =
    let p = problem_in c.args.fitting.now.job.now in
    (fits_small p.variables p.statements c.args.variables (values_taken p.basis _ c.requires).1).taken

pub with_values-requires : goal.with_values-requires
with_values-requires g c =
    let job = c.args.fitting.now.job.now in
    let p = problem_in job in
    let fits = fits_small p.variables p.statements c.args.variables (values_taken p.basis _ c.requires).1 in
    record {
      some = fits.some;
      few = fits.few;
      fits = record {
        arity = p.variables;
        rows_are = ap length c.deref.ensures.value ∙ sym job.table.ok.0 ∙ c.args.fitting.now.rows;
        few = omega (arith, c.args.fitting.now.few);
        within = fits.within;
        on = subst (AreOn p.variables) (sym c.deref-2.ensures.value) c.in_ok-claimed.ensures.on;
      };
    }

-- the batch is on the problem's table, under its weights
pub returns-clause-batch : goal.returns-clause-batch
returns-clause-batch g c =
    let job = c.args.fitting.now.job.now in
    let p = problem_in job in
    let o = g.EF.Field.ops in
    let N = g.EF.Field.number in
    let fits = fits_small p.variables p.statements c.args.variables (values_taken p.basis _ c.requires).1 in
    let made = c.in_ok-batch.ensures.batch in
    let cs = c.in_ok-claimed.claimed.claims.items in
    record {
      basis = (values_taken p.basis _ c.requires).0;
      order = made.order_is;
      variables = pow-same _ _ (sym made.variables ∙ ap length c.deref.ensures.value ∙ sym job.table.ok.0 ∙ c.args.fitting.now.rows);
      weights = λ row low. ap (λ l. combined_weight o l row) (made.claims ∙ ap (claims_in N) c.deref-2.ensures.value)
          ∙ batch_weights o g.met.EF.Field.is_field.ring p N cs c.in_ok-claimed.ensures.claims c.in_ok-claimed.ensures.on fits.taken row low;
      within = omega (arith, made.rounds, fits.within);
      grids = subst (λ xs. IsTableOf o (batch_in c.in_ok-batch.batch) (λ b. g.EF.Algebra.embedding (entries g.F.Field.number xs b))) c.deref.ensures.value made.grids;
    }

-- the values are those that are true of the statements
pub returns-clause-actual : goal.returns-clause-actual
returns-clause-actual g c =
    let job = c.args.fitting.now.job.now in
    let p = problem_in job in
    let N = g.EF.Field.number in
    let fits = fits_small p.variables p.statements c.args.variables (values_taken p.basis _ c.requires).1 in
    let variables = pow-same _ _ (sym c.in_ok-batch.ensures.batch.variables ∙ ap length c.deref.ensures.value ∙ sym job.table.ok.0 ∙ c.args.fitting.now.rows) in
    batch_values g.EF.Field.ops g.met.EF.Field.is_field.ring p N c.in_ok-claimed.claimed.claims.items c.in_ok-claimed.ensures.claims c.in_ok-claimed.ensures.on fits.taken
    (map N c.in_ok-batch.actual.items) _ _ _ c.in_ok-batch.ensures.values variables (ap (λ xs b. g.EF.Algebra.embedding (entries g.F.Field.number xs b)) c.deref.ensures.value)
    (ap (claims_in N) c.deref-2.ensures.value)
