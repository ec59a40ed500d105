use Rattle.std.proofs.Common.{ℕ, ap, ◌∙◌}
use Rattle.std.proofs.lemmas.Result.{IfOk-weaker}
use Rattle.rand_core.specs.Steps.{stream_of, steps_u32}
use Rattle.rand_core.specs.Stream.{Stream}
use Rattle.rand_chacha.specs.ChaCha.{next_word, of_seed}
use Rattle.sc_commitments.specs.Draws.{Drawn, draws_from, masks_from}
use Rattle.sc_zk_rounds.specs.Views.{Coded}
use Rattle.sumcheck_veil.specs.VeilMasks.{code_lengths}
use Rattle.sumcheck_veil.proofs.masks.drawn_masks.Goals as goal

-- the code and the generator are those of the job
pub returns-clause-veils : goal.returns-clause-veils
returns-clause-veils g c =
    let size = g.EF.Field.ops.size in
    let n = c.args.rounds in
    let drawing : Drawn → Coded = λ d. record { masks = d.masks; randomness = d.randomness } in
    let drawn_by = λ (l : ℕ × ℕ × ℕ) (s : Stream). drawing (masks_from (draws_from size l.0) (draws_from size l.1) n s) in
    let of_code = ap (λ l. drawn_by l (stream_of (steps_u32 (next_word 4)) c.from_seed-rng.result)) c.requires in
    let of_seeds = ap (λ r. drawn_by (code_lengths size c.args.drawn.now.length) (stream_of (steps_u32 (next_word 4)) r)) (c.from_seed-rng.ensures ∙ ap of_seed c.seed_of.ensures) in
    IfOk-weaker c.sample_masks.result _ _ (λ made is. ap drawing is ∙ of_code ∙ of_seeds) c.sample_masks.ensures.drawn
