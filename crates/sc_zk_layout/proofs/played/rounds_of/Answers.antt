use Rattle.std.proofs.Common.{◌≡◌, ℕ, sym, ap, ◌∙◌}
use Rattle.std.proofs.lemmas.Result.{IfOk-weaker}
use Rattle.sc_definitions.specs.Tables.{inner_product}
use Rattle.sc_definitions.specs.Statements.{batched_claim}
use Rattle.sc_definitions.specs.Combined.{combined_weight, scaled_from}
use Rattle.sc_definitions.proofs.Lengths.{pow-same}
use Rattle.sc_table.specs.Polys.{variables_of, table_of}
use Rattle.sc_svo.specs.Batches.{batch_in}
use Rattle.sc_layout.specs.Openings.{statements_of}
use Rattle.sc_zk_layout.proofs.RecordedLaws.{claim-honest, laid-start}
use Rattle.sc_zk_layout.proofs.played.rounds_of.Goals as goal

pub new-requires-clause-arity : goal.new-requires-clause-arity
new-requires-clause-arity g c = pow-same (variables_of c.table-table.result.now) _ c.in_ok-batch.ensures.made.variables

pub new-requires-clause-honest : goal.new-requires-clause-honest
new-requires-clause-honest g c =
    let e = g.EF.Field in
    let l = g.L.Layout.laid c.args.layout.now in
    let made = c.in_ok-batch.ensures.made in
    let a = e.number c.args.alpha in
    let recorded = c.claims-claims.ensures.recorded in
    let sound = g.met.L.Layout.sound c.args.layout.now in
    let f : ℕ → ℕ = λ b. g.EF.Algebra.embedding (table_of g.F.Field.number c.table-table.result.now b) in
    let variables : l.variables ≡ (batch_in c.in_ok-batch.batch).variables = sym c.table-table.ensures.variables ∙ pow-same (variables_of c.table-table.result.now) _ made.variables in
    c.sum.ensures ∙ ap (λ r. batched_claim e.ops a 0 (statements_of r)) recorded
    ∙ claim-honest e.ops g.met.EF.Field.is_field.ring l.variables l.rows a (statements_of l.recorded) sound.truth
    ∙ ap (λ n. inner_product e.ops n l.rows (combined_weight e.ops (scaled_from e.ops a 0 (statements_of l.recorded)))) variables
    ∙ ap (λ t. inner_product e.ops (batch_in c.in_ok-batch.batch).variables t (combined_weight e.ops (scaled_from e.ops a 0 (statements_of l.recorded)))) (sym c.table-table.ensures.rows)
    ∙ ap (λ cs. inner_product e.ops (batch_in c.in_ok-batch.batch).variables f (combined_weight e.ops cs))
    (sym (made.claims ∙ ap (λ r. scaled_from e.ops a 0 (statements_of r)) recorded))

pub returns-clause-shown : goal.returns-clause-shown
returns-clause-shown g c =
    let e = g.EF.Field in
    let l = g.L.Layout.laid c.args.layout.now in
    let made = c.in_ok-batch.ensures.made in
    let a = e.number c.args.alpha in
    let recorded = c.claims-claims.ensures.recorded in
    let f : ℕ → ℕ = λ b. g.EF.Algebra.embedding (table_of g.F.Field.number c.table-table.result.now b) in
    let variables = sym (pow-same (variables_of c.table-table.result.now) _ made.variables) ∙ c.table-table.ensures.variables in
    IfOk-weaker c.new.result _ _
    (λ r is. is ∙ laid-start e.ops (batch_in c.in_ok-batch.batch) f l a (e.number c.sum.result) (made.order_is ∙ c.order-order.ensures) variables
    (made.claims ∙ ap (λ r. scaled_from e.ops a 0 (statements_of r)) recorded) c.table-table.ensures.rows
    (c.sum.ensures ∙ ap (λ r. batched_claim e.ops a 0 (statements_of r)) recorded)) c.new.ensures.shown
