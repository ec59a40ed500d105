use mathlib.Core.Path.{fun_ext}
use Rattle.std.proofs.Common.{◌≡◌, ℕ, ◌+◌, ◌-◌, ◌^◌, List, length, map, ◌∙◌, ap, sym, subst, arith}
use Rattle.std.proofs.lemmas.List.{length-map}
use Rattle.sc_definitions.specs.Tables.{Order, entries, point_of, evaluation, folded_by}
use Rattle.sc_definitions.proofs.Lengths.{pow-same}
use Rattle.sc_definitions.proofs.PlacedSums.{length-point_of}
use Rattle.sc_table.specs.Polys.{variables_of}
use Rattle.sc_table.specs.Strategy.{order_of}
use Rattle.sc_table.proofs.EntryLaws.{entry-embedded}
use Rattle.sc_definitions.specs.Combined.{combined_weight}
use Rattle.sc_svo.specs.Claims.{claims_in, AreOn}
use Rattle.sc_svo.specs.Grids.{grid_shown}
use Rattle.sc_svo.specs.Batches.{batch_in}
use Rattle.sc_svo.proofs.PlacedTables.{placed_by}
use Rattle.sc_svo.proofs.batch.SvoBatch.residual_slice.Goals as goal

-- the point has a coordinate for each challenge
count : {X : Type 0} (number : X → ℕ) (order : Order) (point rs : List X) → map number point ≡ point_of order (map number rs) → length point ≡ length rs
count number order point rs is = sym (length-map point number) ∙ ap length is ∙ length-point_of order (map number rs) ∙ length-map rs number

pub bound_table-requires-clause-few : goal.bound_table-requires-clause-few
bound_table-requires-clause-few g c =
    let s = c.args.self.now in
    let many = count g.EF.Field.number (order_of s.order) c.in_ok-point.point c.args.rs.now c.in_ok-point.ensures in
    omega (arith, many, c.requires.challenges, length-map s.grids.rounds (grid_shown g.EF.Field.number), s.within, s.few)

pub bound_table-requires-clause-size : goal.bound_table-requires-clause-size
bound_table-requires-clause-size g c =
    let s = c.args.self.now in
    let many = count g.EF.Field.number (order_of s.order) c.in_ok-point.point c.args.rs.now c.in_ok-point.ensures in
    let n = length c.in_ok-point.point in
    let split : s.variables ≡ n + (s.variables - n) =
    omega (arith, many, c.requires.challenges, length-map s.grids.rounds (grid_shown g.EF.Field.number), s.within) in
    (s.variables - n, c.requires.table ∙ ap (λ k. 2 ^ k) split)

pub weights_at-requires-clause-few : goal.weights_at-requires-clause-few
weights_at-requires-clause-few g c = c.args.self.now.few

pub weights_at-requires-clause-on : goal.weights_at-requires-clause-on
weights_at-requires-clause-on g c = subst (AreOn c.args.self.now.variables) (sym c.deref.ensures.value) c.args.self.now.on

pub weights_at-requires-clause-point : goal.weights_at-requires-clause-point
weights_at-requires-clause-point g c =
    let s = c.args.self.now in
    let many = count g.EF.Field.number (order_of s.order) c.in_ok-point.point c.args.rs.now c.in_ok-point.ensures in
    omega (arith, many, c.requires.challenges, length-map s.grids.rounds (grid_shown g.EF.Field.number), s.within)

pub returns-clause-evals : goal.returns-clause-evals
returns-clause-evals g c =
    let s = c.args.self.now in
    let e = g.EF.Field in
    let h : ℕ → ℕ = g.EF.Algebra.embedding in
    let n = g.F.Field.number in
    let rs = map e.number c.args.rs.now in
    let is = c.in_ok-evals.ensures rs c.in_ok-point.ensures in
    let images : entries (λ (x : g.row.F.Denot). h (n x)) c.args.table.now ≡ (λ b. h (entries n c.args.table.now b)) =
    fun_ext (λ b. entry-embedded h n c.args.table.now b g.met.EF.Algebra.embeds.zero_kept) in
    record {
      variables = pow-same _ s.variables (sym is.size ∙ c.requires.table);
      rows = λ b low. is.entries_are b low ∙ ap (λ f. folded_by evaluation (order_of s.order) e.ops rs (variables_of c.in_ok-evals.evals) f b) images;
    }

pub returns-clause-weights : goal.returns-clause-weights
returns-clause-weights g c =
    let s = c.args.self.now in
    let e = g.EF.Field in
    let rs = map e.number c.args.rs.now in
    let is = c.in_ok-weights.ensures rs c.in_ok-point.ensures in
    record {
      variables = pow-same _ s.variables (sym is.size);
      rows = λ b low. is.entries_are b low
          ∙ ap (λ cs. folded_by evaluation (order_of s.order) e.ops rs (variables_of c.in_ok-weights.weights) (combined_weight e.ops (claims_in e.number cs)) b) c.deref.ensures.value;
    }

-- the same by the original tables
pub returns-clause-placed_evals : goal.returns-clause-placed_evals
returns-clause-placed_evals g c =
    let e = g.EF.Field in
    placed_by e.ops g.met.EF.Field.is_field.ring e.number g.met.EF.Field.number_below (batch_in c.args.self.now) _ (map e.number c.args.rs.now) c.in_ok-evals.evals
    (returns-clause-evals g c)

pub returns-clause-placed_weights : goal.returns-clause-placed_weights
returns-clause-placed_weights g c =
    let e = g.EF.Field in
    placed_by e.ops g.met.EF.Field.is_field.ring e.number g.met.EF.Field.number_below (batch_in c.args.self.now) _ (map e.number c.args.rs.now) c.in_ok-weights.weights
    (returns-clause-weights g c)
