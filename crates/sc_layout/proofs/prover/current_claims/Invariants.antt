use Rattle.std.proofs.Common.{◌≡◌, All, map, length, replicate}
use Rattle.sc_definitions.specs.Tables.{entries}
use Rattle.sc_definitions.specs.Statements.{true_value}
use Rattle.sc_svo.specs.Points.{point_in}
use Rattle.sc_layout.specs.Openings.{current_at}
use Rattle.sc_layout.specs.Kept.{HasSums}
use Rattle.sc_layout.proofs.prover.current_claims.Given as goal

abbrev pub invariant-loop-column : goal.invariant-loop-column
invariant-loop-column g l =
    let e = g.EF.Field in
    let zs = point_in l.point in
    record {
      values : map (λ c. e.number c.eval) l.claims.items
          ≡ replicate l.column-index (true_value e.ops (length zs) (entries (λ (x : g.row.F.Denot). g.EF.Algebra.embedding (g.F.Field.number x)) l.rows) (current_at zs));
      columns : All (λ c. c.point ≡ 0) l.claims.items;
      kept : All (HasSums e.ops (entries (λ (x : g.row.F.Denot). g.EF.Algebra.embedding (g.F.Field.number x)) l.rows) l.point) l.claims.items;
    }
