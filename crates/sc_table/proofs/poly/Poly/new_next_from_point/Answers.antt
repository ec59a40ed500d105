use Rattle.std.proofs.Common.{◌≡◌, ℕ, ◌^◌, ◌<◌, length, map, sym, ◌∙◌, ap, subst}
use Rattle.std.proofs.lemmas.Result.{IfOk-from_err}
use Rattle.std.proofs.lemmas.List.{length-map}
use Rattle.sc_definitions.specs.Ring.{times}
use Rattle.sc_definitions.specs.Tables.{equality_weight}
use Rattle.sc_definitions.proofs.RingLaws.{times_comm, times-one}
use Rattle.sc_definitions.proofs.SuccessorLaws.{element-weight}
use Rattle.sc_table.specs.Polys.{table_of}
use Rattle.sc_table.proofs.ShiftLaws.{successor-moved}
use Rattle.sc_table.proofs.poly.Poly.new_next_from_point.Goals as goal

pub returns-clause-table : goal.returns-clause-table
returns-clause-table g c = λ b low.
    let a = g.A.Field in
    let ring = g.met.A.Field.is_field.ring in
    let zs = map a.number c.args.z.now in
    let n = length c.args.z.now in
    let arity : length zs ≡ n = length-map c.args.z.now a.number in
    let variables = c.in_ok-table.ensures.variables in
    let sized : 2 ^ c.in_ok-table.table.variables ≡ 2 ^ n = ap (λ k. 2 ^ k) variables in
    let one : a.number c.ONE.result ≡ 1 = ap a.number c.ONE.ensures ∙ g.met.A.Field.one_is in
    let weights : (k : ℕ) → k < 2 ^ n → table_of a.number c.in_ok-table.table k ≡ equality_weight a.ops zs k = λ k below.
    c.in_ok-table.ensures.table k below ∙ ap (λ s. times a.ops s (equality_weight a.ops zs k)) one
    ∙ times_comm a.ops ring 1 (equality_weight a.ops zs k) ∙ times-one a.ops ring (equality_weight a.ops zs k) ∙ element-weight a.ops ring zs k in
    let rows = c.as_mut_slice.result.now in
    let size : length rows ≡ 2 ^ n = c.as_mut_slice.ensures.size ∙ sized in
    ap (λ f. f b) (c.as_mut_slice.ensures.written c.move_rows_up.new.rows (c.move_rows_up.auto.rows ∙ c.as_mut_slice.ensures.size))
    ∙ c.move_rows_up.ensures b (subst (λ k. b < k) (sym size) low)
    ∙ successor-moved a.ops ring a.number rows (table_of a.number c.in_ok-table.table) zs n arity c.as_mut_slice.ensures.numbers size weights b low

-- a refusal tells nothing of an answer
pub returns-in_err-table-clause-variables : goal.returns-in_err-table-clause-variables
returns-in_err-table-clause-variables g c = IfOk-from_err c.from_residual.result _ c.from_residual.ensures.0

pub returns-in_err-table-clause-table : goal.returns-in_err-table-clause-table
returns-in_err-table-clause-table g c = IfOk-from_err c.from_residual.result _ c.from_residual.ensures.0
