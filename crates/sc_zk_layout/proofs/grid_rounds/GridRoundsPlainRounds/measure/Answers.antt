use Rattle.std.proofs.Common.{◌<◌, ℕ, length, map, ap, ◌∙◌, arith}
use Rattle.std.proofs.lemmas.List.{length-map}
use Rattle.std.proofs.lemmas.Result.{IfOk-weaker}
use Rattle.sc_table.specs.Polys.{table_of}
use Rattle.sc_svo.specs.Batches.{batch_in, honest_of}
use Rattle.sc_zk_layout.proofs.GridLaws.{honest-is}
use Rattle.sc_zk_layout.proofs.grid_rounds.GridRoundsPlainRounds.measure.Goals as goal

pub returns-clause-message : goal.returns-clause-message
returns-clause-message g c =
    let e = g.EF.Field in
    let s = c.args.self.now in
    let f : ℕ → ℕ = λ b. g.EF.Algebra.embedding (table_of g.F.Field.number s.table.now b) in
    let rs = map e.number s.challenges.items in
    let low : length rs < (batch_in s.batch).variables = omega (arith, length-map s.challenges.items e.number, c.requires, s.within) in
    IfOk-weaker c.round_coefficients.result _ _
    (λ m is. is f s.of ∙ ap (λ l. honest_of e.ops (batch_in s.batch) f (map e.number l)) c.deref.ensures.value
    ∙ honest-is e.ops g.met.EF.Field.is_field.ring (batch_in s.batch) f rs (e.number s.claim) low) c.round_coefficients.ensures.honest
