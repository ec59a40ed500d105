use Rattle.std.proofs.Common.{ℕ, All, length, map, replicate, ap, sym, subst, ◌∙◌}
use Rattle.std.proofs.lemmas.List.{length-map}
use Rattle.sc_definitions.specs.Tables.{entries}
use Rattle.sc_definitions.specs.Statements.{true_value}
use Rattle.sc_svo.specs.Points.{point_in}
use Rattle.sc_table.specs.Polys.{table_of, variables_of}
use Rattle.sc_layout.specs.Openings.{current_at, next_at}
use Rattle.sc_layout.specs.Kept.{HasSums, HasNextSums}
use Rattle.sc_layout.proofs.TrueLaws.{images, value-as}
use Rattle.sc_layout.proofs.prover.TableProver.opened_at.Goals as goal

pub returns-clause-current : goal.returns-clause-current
returns-clause-current g c =
    let e = g.EF.Field in
    let h : ℕ → ℕ = g.EF.Algebra.embedding in
    let N = g.F.Field.number in
    let n = variables_of c.args.self.now.table in
    let ys = point_in c.in_ok-point.point in
    let rows = c.as_slice-rows.result.now in
    let f = entries (λ (x : g.row.F.Denot). h (N x)) rows in
    let table = images h N rows (table_of N c.args.self.now.table) g.met.EF.Algebra.embeds.zero_kept c.as_slice-rows.ensures.numbers in
    let same = value-as current_at e.ops n f _ ys (map e.number c.args.coordinates) table c.in_ok-point.ensures.point (length-map c.args.coordinates e.number ∙ c.requires) in
    ap (map (λ v. e.number v.eval)) c.new.ensures ∙ c.in_ok-current.ensures.values ∙ ap (λ m. replicate m (true_value e.ops (length ys) f (current_at ys))) c.current.ensures.count
    ∙ ap (replicate (length c.args.batch.now.current)) same

pub returns-clause-next : goal.returns-clause-next
returns-clause-next g c =
    let e = g.EF.Field in
    let h : ℕ → ℕ = g.EF.Algebra.embedding in
    let N = g.F.Field.number in
    let n = variables_of c.args.self.now.table in
    let ys = point_in c.in_ok-point.point in
    let rows = c.as_slice-rows.result.now in
    let f = entries (λ (x : g.row.F.Denot). h (N x)) rows in
    let table = images h N rows (table_of N c.args.self.now.table) g.met.EF.Algebra.embeds.zero_kept c.as_slice-rows.ensures.numbers in
    let same = value-as next_at e.ops n f _ ys (map e.number c.args.coordinates) table c.in_ok-point.ensures.point (length-map c.args.coordinates e.number ∙ c.requires) in
    ap (map (λ v. e.number v.eval)) c.new-2.ensures ∙ c.in_ok-next.ensures.values ∙ ap (λ m. replicate m (true_value e.ops (length ys) f (next_at ys))) c.next.ensures.count
    ∙ ap (replicate (length c.args.batch.now.next)) same

-- what is kept with the values
pub returns-clause-kept : goal.returns-clause-kept
returns-clause-kept g c =
    let e = g.EF.Field in
    let h : ℕ → ℕ = g.EF.Algebra.embedding in
    let N = g.F.Field.number in
    let z = c.in_ok-point.point in
    let table = images h N c.as_slice-rows.result.now (table_of N c.args.self.now.table) g.met.EF.Algebra.embeds.zero_kept c.as_slice-rows.ensures.numbers in
    record {
      order_is = c.in_ok-point.ensures.order;
      rounds_are = c.in_ok-point.ensures.near;
      current = subst (All (HasSums e.ops _ z)) (sym c.new.ensures) (subst (λ t. All (HasSums e.ops t z) c.in_ok-current.current.items) table c.in_ok-current.ensures.kept);
      next = subst (All (HasNextSums e.ops _ z)) (sym c.new-2.ensures) (subst (λ t. All (HasNextSums e.ops t z) c.in_ok-next.next.items) table c.in_ok-next.ensures.kept);
    }
