use Rattle.std.proofs.Common.{◌≡◌, ℕ, suc, [], ◌∷◌, ◌+◌, ◌^◌, ◌∙◌, ap, arith}
use Rattle.sc_definitions.specs.Tables.{entries, rows_of}
use Rattle.sc_definitions.specs.Messages.{message_of}
use Rattle.sc_definitions.specs.Rounds.{next_claim}
use Rattle.sc_definitions.specs.ProverStates.{half_rows}
use Rattle.sc_table.specs.Strategy.{basis_of, order_of}
use Rattle.sc_transcript.specs.Transcripts.{driver_in}
use Rattle.sc_rounds.specs.Products.{variables_in, evals_in, weights_in}
use Rattle.sc_rounds.specs.ProverStates.{prover_state_in}
use Rattle.sc_transcript.proofs.BatchLaws.{halts}
use Rattle.sc_definitions.proofs.MappedRounds.{mapped, below_entries, image_message, image_bound, image_next}
use Rattle.sc_definitions.proofs.PairMoves.{moves, sum_after}
use Rattle.sc_rounds.proofs.PairRounds.{pair_rows}
use Rattle.sc_rounds.proofs.product_polynomial.ProductPolynomial.round_in.Goals as goal

pub returns-clause-round : goal.returns-clause-round
unfolding entries rows_of
returns-clause-round g c =
    let a = g.EF.Field.ops in let b = g.EG.Field.ops in
    let ra = g.met.EF.Field.is_field.ring in let rb = g.met.EG.Field.is_field.ring in
    let N = g.EF.Field.number in
    let to = g.EF.FromTable.to_number in
    let T : g.row.EF.Denot → ℕ = λ x. to (N x) in
    let image = g.met.EF.FromTable.represents.back in
    let old = c.args.self.now in
    let new = c.bind.new.self in
    let basis = basis_of old.basis in
    let order = order_of old.order in
    let m = variables_in new in
    let s = g.EG.Field.number c.in-Ok.drawn in
    let r = N c.from_element-r.result in
    let r_is : to r ≡ s = ap to c.from_element-r.ensures ∙ g.met.EF.FromTable.represents.back_forth s (g.met.EG.Field.number_below c.in-Ok.drawn) in
    let evals_low = below_entries a b ra rb to image N g.met.EF.Field.number_below old.evals.evals.items in
    let weights_low = below_entries a b ra rb to image N g.met.EF.Field.number_below old.weights.evals.items in
    let more : variables_in old ≡ m + 1 = c.bind.ensures.fewer in
    let next : variables_in old ≡ suc m = omega (arith, more) in
    let message = c.measure-message.ensures ∙ ap (λ n. message_of basis order a (half_rows n) (evals_in N old) (weights_in N old)) next in
    let puts = c.in-Ok.ensures.puts in
    let rows = pair_rows T new in
    moves _ _ _ _ puts.witness s puts.plays.sent puts.wire more
    (record { evals = rows.0; weights = rows.1 })
    (image_message a b ra rb to image basis order (2 ^ m) evals_low weights_low (mapped a b ra rb to image N _) (mapped a b ra rb to image N _)
    c.into_transcript-c_a.ensures c.into_transcript-c_inf.ensures message)
    (image_bound a b ra rb to image basis order m r s _ _ _ _ evals_low (g.met.EF.Field.number_below c.from_element-r.result) r_is
    (mapped a b ra rb to image N _) (mapped a b ra rb to image N _) c.bind.ensures.evals)
    (image_bound a b ra rb to image basis order m r s _ _ _ _ weights_low (g.met.EF.Field.number_below c.from_element-r.result) r_is
    (mapped a b ra rb to image N _) (mapped a b ra rb to image N _) c.bind.ensures.weights)
    (image_next a b ra rb to image basis r s (g.met.EF.Field.number_below _) (g.met.EF.Field.number_below _) (g.met.EF.Field.number_below _) (g.met.EF.Field.number_below _)
    c.into_transcript-c_a.ensures c.into_transcript-c_inf.ensures r_is
    (c.reduce_claim.ensures.claim ∙ ap (λ k. next_claim k a (N c.args.sum.now) (N c.measure-message.result.c_a ∷ N c.measure-message.result.c_inf ∷ []) r) c.bind.ensures.basis))

pub returns-clause-sum : goal.returns-clause-sum
returns-clause-sum g c =
    let o = g.EF.Field.ops in
    let N = g.EF.Field.number in
    let old = c.args.self.now in
    let basis = basis_of old.basis in
    let order = order_of old.order in
    let more : variables_in old ≡ variables_in c.bind.new.self + 1 = c.bind.ensures.fewer in
    let next : variables_in old ≡ suc (variables_in c.bind.new.self) = omega (arith, more) in
    let message = c.measure-message.ensures ∙ ap (λ n. message_of basis order o (half_rows n) (evals_in N old) (weights_in N old)) next in
    sum_after basis order old.offered o g.met.EF.Field.is_field.ring _ _ _ _ _ _ (N c.from_element-r.result) _ _ _ more c.requires.sum message
    c.bind.ensures.evals c.bind.ensures.weights
    (c.reduce_claim.ensures.claim ∙ ap (λ k. next_claim k o (N c.args.sum.now) (N c.measure-message.result.c_a ∷ N c.measure-message.result.c_inf ∷ []) (N c.from_element-r.result)) c.bind.ensures.basis)

pub returns-in-Err-clause-round : goal.returns-in-Err-clause-round
unfolding entries rows_of
returns-in-Err-clause-round g c =
    let a = g.EF.Field.ops in let b = g.EG.Field.ops in
    let ra = g.met.EF.Field.is_field.ring in let rb = g.met.EG.Field.is_field.ring in
    let N = g.EF.Field.number in
    let to = g.EF.FromTable.to_number in
    let T : g.row.EF.Denot → ℕ = λ x. to (N x) in
    let image = g.met.EF.FromTable.represents.back in
    let old = c.args.self.now in
    let evals_low = below_entries a b ra rb to image N g.met.EF.Field.number_below old.evals.evals.items in
    let weights_low = below_entries a b ra rb to image N g.met.EF.Field.number_below old.weights.evals.items in
    halts _ _ _ c.in-Err.error c.in-Err.ensures.refused.why
    (image_message a b ra rb to image (basis_of old.basis) (order_of old.order) (half_rows (variables_in old)) evals_low weights_low
    (mapped a b ra rb to image N _) (mapped a b ra rb to image N _)
    c.into_transcript-c_a.ensures c.into_transcript-c_inf.ensures c.measure-message.ensures)
    (ap (λ w. prover_state_in T old c.args.sum.now (driver_in c.observe_and_sample.new.transcript).history w) c.in-Err.ensures.kept)

-- the caller says that a round is left
pub observe_and_sample-requires : goal.observe_and_sample-requires
observe_and_sample-requires g c = c.requires.left
