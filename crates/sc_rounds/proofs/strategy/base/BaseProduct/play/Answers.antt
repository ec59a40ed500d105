use Rattle.std.proofs.Common.{◌≡◌, ◌+◌, ◌∷◌, ◌++◌, [], map, ap, sym, ◌∙◌, refl}
use Rattle.sc_definitions.proofs.ProverStateLaws.{IsSized}
use Rattle.sc_transcript.specs.Transcripts.{driver_in}
use Rattle.sc_transcript.specs.Data.{wire_in}
use Rattle.sc_transcript.specs.declared.rounds.BatchShape.{BatchShape}
use Rattle.sc_transcript.specs.declared.error.SumcheckError.TheVariants.{NoMemory}
use Rattle.sc_transcript.proofs.ReplayedLaws.{same_channel}
use Rattle.sc_definitions.specs.ProverViews.{ProverView, with_bound}
use Rattle.sc_transcript.specs.Batches.{StopsFrom}
use Rattle.sc_rounds.specs.BaseViews.{base_shown}
use Rattle.sc_rounds.specs.HeldProducts.{shown_in, image_in, setting_over, prover_state_over}
use Rattle.sc_transcript.proofs.BatchLaws.{same_setting}
use Rattle.sc_rounds.proofs.HeldLaws.{imaged_same}
use Rattle.sc_rounds.proofs.BaseLaws.{base_rows, err_as, first_stops, first_wants, first_before, rest_played, rest_stops}
use Rattle.sc_rounds.proofs.strategy.base.BaseProduct.play.Goals as goal

-- the first round was refused
pub returns-in_err-message-clause-stopped : goal.returns-in_err-message-clause-stopped
returns-in_err-message-clause-stopped g c =
    let o = g.EF.Field.ops in
    let N = g.EF.Field.number in
    let self = c.args.self in
    let T = c.args.transcript.now in
    let Drawn = c.round.new.transcript in
    let begun = prover_state_over N (base_shown self) T c.args.sumcheck_data.now in
    let setting = setting_over g.EF.ExtensionField.extension o (base_shown self) T in
    let ring = g.met.EF.Field.is_field.ring in
    let rows = base_rows (λ x. g.EF.Algebra.embedding (g.F.Field.number x)) N self.evals.now self.weights self.same in
    let sized : IsSized begun = record { evals = rows.0; weights = rows.1 } in
    let e = c.in_err-message.ensures in
    err_as c.from_residual.result _ (StopsFrom setting begun (driver_in Drawn) (wire_in g.F.Field.number N c.round.new.sumcheck_data)) c.from_residual.ensures.1
    (first_stops setting ring self.offered begun (prover_state_over N (base_shown self) Drawn c.round.new.sumcheck_data) sized (driver_in T) (driver_in Drawn) c.requires.none_played c.requires.some
    e.continues.shape c.in_err-message.field-0.0 e.counts refl refl e.halted)

-- there is no memory for what it leaves
pub returns-in_err-rest-clause-stopped : goal.returns-in_err-rest-clause-stopped
returns-in_err-rest-clause-stopped g c =
    let o = g.EF.Field.ops in
    let N = g.EF.Field.number in
    let self = c.args.self in
    let T = c.args.transcript.now in
    let Drawn = c.round.new.transcript in
    let begun = prover_state_over N (base_shown self) T c.args.sumcheck_data.now in
    let setting = setting_over g.EF.ExtensionField.extension o (base_shown self) T in
    let ring = g.met.EF.Field.is_field.ring in
    let rows = base_rows (λ x. g.EF.Algebra.embedding (g.F.Field.number x)) N self.evals.now self.weights self.same in
    let sized : IsSized begun = record { evals = rows.0; weights = rows.1 } in
    let first = c.in_ok-message.ensures in
    let bound = with_bound o (base_shown self) (N c.in_ok-message.r) in
    let v = prover_state_over N bound Drawn c.round.new.sumcheck_data in
    let one : map N c.push_reserved.new.self.items ≡ N c.in_ok-message.r ∷ [] = ap (map N) c.push_reserved.ensures.items ∙ ap (λ l. map N (l ++ c.in_ok-message.r ∷ [])) c.requires.empty in
    err_as c.from_residual-in_err-rest.result NoMemory (StopsFrom setting begun (driver_in Drawn) (wire_in g.F.Field.number N c.round.new.sumcheck_data)) c.from_residual-in_err-rest.ensures.1
    (first_wants setting ring self.offered begun v sized (driver_in T) (driver_in Drawn) c.requires.none_played c.requires.some first.continues.shape (N c.in_ok-message.r) first.counts first.round refl)

-- a round after it was refused
pub returns-in_err-play-clause-stopped : goal.returns-in_err-play-clause-stopped
returns-in_err-play-clause-stopped g c =
    let o = g.EF.Field.ops in
    let N = g.EF.Field.number in
    let self = c.args.self in
    let T = c.args.transcript.now in
    let Drawn = c.round.new.transcript in
    let begun = prover_state_over N (base_shown self) T c.args.sumcheck_data.now in
    let setting = setting_over g.EF.ExtensionField.extension o (base_shown self) T in
    let ring = g.met.EF.Field.is_field.ring in
    let rows = base_rows (λ x. g.EF.Algebra.embedding (g.F.Field.number x)) N self.evals.now self.weights self.same in
    let sized : IsSized begun = record { evals = rows.0; weights = rows.1 } in
    let first = c.in_ok-message.ensures in
    let bound = with_bound o (base_shown self) (N c.in_ok-message.r) in
    let v = prover_state_over N bound Drawn c.round.new.sumcheck_data in
    let one : map N c.push_reserved.new.self.items ≡ N c.in_ok-message.r ∷ [] = ap (map N) c.push_reserved.ensures.items ∙ ap (λ l. map N (l ++ c.in_ok-message.r ∷ [])) c.requires.empty in
    let rest = c.in_ok-rest.rest in
    let is = same_setting
    (same_channel g.F.Field.ops.size first.continues.rules (ap (λ (s : BatchShape). s.pow_bits) first.continues.shape))
    (ap (λ (s : ProverView). s.basis) c.in_ok-rest.ensures) (ap (λ (s : ProverView). s.order) c.in_ok-rest.ensures) in
    let here = ap (λ s. prover_state_over N s Drawn c.round.new.sumcheck_data) (sym c.in_ok-rest.ensures ∙ sym (imaged_same (shown_in rest))) in
    let u = prover_state_over N (image_in (λ n. n) c.play.new.self) c.play.new.transcript c.play.new.sumcheck_data in
    let u' = prover_state_over N (shown_in c.play.new.self) c.play.new.transcript c.play.new.sumcheck_data in
    let D = driver_in c.play.new.transcript in
    let e = c.in_err-play.ensures in
    let left = e.left ∙ ap (λ (s : ProverView). s.variables + (driver_in Drawn).played) c.in_ok-rest.ensures in
    err_as c.from_residual-in_err-play.result _ (StopsFrom setting begun D (wire_in g.F.Field.number N c.play.new.sumcheck_data)) c.from_residual-in_err-play.ensures.1
    (rest_stops setting ring self.offered begun v sized (driver_in T) (driver_in Drawn) c.requires.none_played c.requires.some first.continues.shape (N c.in_ok-message.r) first.counts first.round
    _ is _ u u' here D left c.in_err-play.field-0.0 refl
    (e.rounds begun (first_before setting ring self.offered begun v sized (driver_in T) (driver_in Drawn) c.requires.none_played c.requires.some first.continues.shape (N c.in_ok-message.r) first.counts first.round
    _ is _ u u' here D left _ one)))

-- all rounds were played
pub returns-clause-played : goal.returns-clause-played
returns-clause-played g c =
    let o = g.EF.Field.ops in
    let N = g.EF.Field.number in
    let self = c.args.self in
    let T = c.args.transcript.now in
    let Drawn = c.round.new.transcript in
    let begun = prover_state_over N (base_shown self) T c.args.sumcheck_data.now in
    let setting = setting_over g.EF.ExtensionField.extension o (base_shown self) T in
    let ring = g.met.EF.Field.is_field.ring in
    let rows = base_rows (λ x. g.EF.Algebra.embedding (g.F.Field.number x)) N self.evals.now self.weights self.same in
    let sized : IsSized begun = record { evals = rows.0; weights = rows.1 } in
    let first = c.in_ok-message.ensures in
    let bound = with_bound o (base_shown self) (N c.in_ok-message.r) in
    let v = prover_state_over N bound Drawn c.round.new.sumcheck_data in
    let one : map N c.push_reserved.new.self.items ≡ N c.in_ok-message.r ∷ [] = ap (map N) c.push_reserved.ensures.items ∙ ap (λ l. map N (l ++ c.in_ok-message.r ∷ [])) c.requires.empty in
    let rest = c.in_ok-rest.rest in
    let is = same_setting
    (same_channel g.F.Field.ops.size first.continues.rules (ap (λ (s : BatchShape). s.pow_bits) first.continues.shape))
    (ap (λ (s : ProverView). s.basis) c.in_ok-rest.ensures) (ap (λ (s : ProverView). s.order) c.in_ok-rest.ensures) in
    let here = ap (λ s. prover_state_over N s Drawn c.round.new.sumcheck_data) (sym c.in_ok-rest.ensures ∙ sym (imaged_same (shown_in rest))) in
    let u = prover_state_over N (image_in (λ n. n) c.play.new.self) c.play.new.transcript c.play.new.sumcheck_data in
    let u' = prover_state_over N (shown_in c.play.new.self) c.play.new.transcript c.play.new.sumcheck_data in
    let D = driver_in c.play.new.transcript in
    let e = c.in_ok-play.ensures in
    let left = e.left ∙ ap (λ (s : ProverView). s.variables + (driver_in Drawn).played) c.in_ok-rest.ensures in
    rest_played setting ring self.offered begun v sized (driver_in T) (driver_in Drawn) c.requires.none_played c.requires.some first.continues.shape (N c.in_ok-message.r) first.counts first.round
    _ is _ u u' here D left (ap (λ s. prover_state_over N s c.play.new.transcript c.play.new.sumcheck_data) (imaged_same (shown_in c.play.new.self))) _
    (e.rounds begun (first_before setting ring self.offered begun v sized (driver_in T) (driver_in Drawn) c.requires.none_played c.requires.some first.continues.shape (N c.in_ok-message.r) first.counts first.round
    _ is _ u u' here D left _ one))
