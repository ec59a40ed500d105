use Rattle.std.proofs.Common.{◌≡◌, ℕ, ◌^◌, ◌<◌, length, map, get_or, ◌∙◌, ap, sym, subst, arith}
use Rattle.std.proofs.lemmas.List.{length-map, get_or-map}
use Rattle.sc_definitions.specs.Tables.{entries}
use Rattle.sc_definitions.specs.Grids.{place_weight, read_off}
use Rattle.sc_definitions.specs.Combined.{combined_weight}
use Rattle.sc_field.specs.Products.{products}
use Rattle.sc_table.specs.Strategy.{order_of}
use Rattle.sc_svo.specs.Batches.{batch_in}
use Rattle.sc_svo.specs.Grids.{grid_shown, IsSized}
use Rattle.sc_svo.proofs.BatchLaws.{products-read, message-read, read-honest}
use Rattle.sc_svo.proofs.batch.SvoBatch.round_coefficients.Goals as goal

pub returns-clause-read : goal.returns-clause-read
returns-clause-read g c d =
    let s = c.args.self.now in
    let e = g.EF.Field in
    let rs = map e.number c.args.rs.now in
    let j = length c.args.rs.now in
    let grid = c.index-as_slice-rs.result in
    let many : length (batch_in s).grids ≡ length s.grids.rounds = length-map s.grids.rounds (grid_shown e.number) in
    let count : length rs ≡ j = length-map c.args.rs.now e.number in
    let low : j < length s.grids.rounds = omega (arith, c.requires, many) in
    let read : grid ≡ get_or s.grids.rounds j grid = c.index-as_slice-rs.is ∙ ap (λ xs. get_or xs j grid) c.as_slice.ensures in
    let sized : IsSized j grid = subst (IsSized j) (sym read) (s.sized j grid low) in
    let weights : (k : ℕ) → k < 3 ^ length rs → entries e.number c.in_ok-weights.weights.items k ≡ place_weight e.ops rs k =
    λ k k_low. c.in_ok-weights.ensures.weights k (subst (λ n. k < 3 ^ n) count k_low) in
    let zero : e.number c.dot_slices.result ≡ read_off e.ops (map e.number grid.zero) rs = c.dot_slices.ensures
    ∙ ap (λ xs. products e.ops (length xs) (entries e.number xs) (entries e.number c.deref.result.now)) c.as_slice-2.ensures
    ∙ ap (λ ys. products e.ops (length grid.zero) (entries e.number grid.zero) (entries e.number ys)) c.deref.ensures.value
    ∙ products-read e.number e.ops grid.zero c.in_ok-weights.weights.items rs (sized.zero ∙ ap (λ n. 3 ^ n) (sym count)) weights in
    let infinity : e.number c.dot_slices-2.result ≡ read_off e.ops (map e.number grid.infinity) rs = c.dot_slices-2.ensures
    ∙ ap (λ xs. products e.ops (length xs) (entries e.number xs) (entries e.number c.deref-2.result.now)) c.as_slice-3.ensures
    ∙ ap (λ ys. products e.ops (length grid.infinity) (entries e.number grid.infinity) (entries e.number ys)) c.deref-2.ensures.value
    ∙ products-read e.number e.ops grid.infinity c.in_ok-weights.weights.items rs (sized.infinity ∙ ap (λ n. 3 ^ n) (sym count)) weights in
    let shown : get_or (batch_in s).grids j d ≡ grid_shown e.number grid =
    get_or-map (grid_shown e.number) s.grids.rounds j grid d low ∙ ap (grid_shown e.number) (sym read) in
    message-read e.ops (grid_shown e.number grid) (get_or (batch_in s).grids j d) rs (e.number c.dot_slices.result) (e.number c.dot_slices-2.result) shown zero infinity

pub returns-clause-honest : goal.returns-clause-honest
returns-clause-honest g c f is =
    let s = c.args.self.now in
    let e = g.EF.Field in
    let rs = map e.number c.args.rs.now in
    let grid = grid_shown e.number c.index-as_slice-rs.result in
    let count : length rs ≡ length c.args.rs.now = length-map c.args.rs.now e.number in
    returns-clause-read g c grid
    ∙ read-honest e.ops g.met.EF.Field.is_field.ring (order_of s.order) s.variables f (combined_weight e.ops (batch_in s).claims) (length (batch_in s).grids) (batch_in s).grids grid rs
    (length c.args.rs.now) is c.requires count
