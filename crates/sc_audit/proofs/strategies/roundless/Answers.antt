use Rattle.std.proofs.Common.{◌≡◌, ◌^◌, length, map, sym, ◌∙◌, ap, arith}
use Rattle.std.proofs.lemmas.Nat.{pow_pos}
use Rattle.sc_definitions.proofs.LoopLaws.{entry-read}
use Rattle.sc_table.specs.declared.strategy.Strategy.TheVariants.{Plain}
use Rattle.sc_svo.specs.Grids.{grid_shown}
use Rattle.sc_jobs.specs.Cases.{build, asked_to, problem_in}
use Rattle.sc_jobs.proofs.BuiltReports.{built_none}
use Rattle.sc_jobs.proofs.FigureLaws.{weights-batched, claim-batched}
use Rattle.sc_audit.proofs.strategies.roundless.Goals as goal

pub returns : goal.returns
returns g c = λ R h.
    let N = g.EF.Field.number in
    let o = g.EF.Field.ops in
    let job = c.args.fitting.now.job.now in
    let p = problem_in job in
    let some = pow_pos p.variables in
    let rows = c.args.fitting.now.rows in
    let first = entry-read g.F.Field.number job.table.items 0 c.index.result.now (omega (arith, some, rows, job.table.ok.0)) c.index.ensures in
    let size : length c.as_slice.result.now ≡ 2 ^ p.variables = c.as_slice.ensures.size ∙ ap (λ k. 2 ^ k) c.in_ok-weights.ensures.variables in
    let read = entry-read N c.as_slice.result.now 0 c.index-as_slice-0.result (omega (arith, some, size)) c.index-as_slice-0.is in
    built_none (asked_to job (build Plain) R h) g.met.EF.Field.is_field.ring c.args.fitting.now.offered c.requires _ c.new.ensures (ap (map N) (c.new-3.ensures ∙ c.new-2.ensures.items))
    (claim-batched o p _ c.in_ok-weights.ensures.claim)
    (c.embed-eval.ensures ∙ ap g.EF.Algebra.embedding (sym first))
    (weights-batched o p 0 _ (sym read ∙ ap (λ t. t 0) c.as_slice.ensures.numbers ∙ c.in_ok-weights.ensures.weights 0 some))
    (g.met.EF.Field.number_below _) (g.met.EF.Field.number_below _) (ap (map (grid_shown N)) c.empty.ensures)
