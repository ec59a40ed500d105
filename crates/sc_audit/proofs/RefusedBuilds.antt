-- A build that is refused.
use Rattle.std.proofs.Common.{◌≡◌, ℕ, ◌<◌, All, sym, subst, Err}
use Rattle.sc_definitions.specs.Ring.{IsRing}
use Rattle.sc_definitions.specs.Tables.{IsOffered}
use Rattle.sc_definitions.specs.ProverStates.{ProverState}
use Rattle.sc_transcript.specs.declared.error.SumcheckError.{SumcheckError}
use Rattle.sc_transcript.specs.declared.error.SumcheckError.TheVariants.{NoWitness, NoMemory}
use Rattle.sc_transcript.specs.Batches.{Batch, BreaksOff}
use Rattle.sc_jobs.specs.Cases.{Asked}
use Rattle.sc_jobs.specs.Audits.{refusal_by}
use Rattle.sc_audit.specs.Built.{LeavesBuild}
use Rattle.sc_audit_errors.specs.declared.error.AuditError.{AuditError}
use Rattle.sc_jobs.proofs.BuiltReports.{setting_for, start_for, build_stops}

module _ (q : Asked) (ring : IsRing q.ops) (offered : IsOffered q.case.problem.basis q.case.problem.order) where
  module _ (b : Batch) (setting : b.setting ≡ setting_for q ring offered) (start : b.start ≡ start_for q ring offered) (rounds_are : b.rounds ≡ q.case.problem.variables) (after : ProverState) where
    pub build_refused : {F EF : Type 0} (base : F → ℕ) (number : EF → ℕ) (e : SumcheckError) (r : AuditError) → r ≡ refusal_by e →
        All (λ w. w < q.channel.base_size) after.wire.witnesses → BreaksOff b after e → LeavesBuild {F = F} {EF = EF} base number q (Err r)
    build_refused {F = F} {EF = EF} base number e r is low why = subst (λ t. LeavesBuild {F = F} {EF = EF} base number q (Err t)) (sym is) (left e why) where
      left : (e : SumcheckError) → BreaksOff b after e → LeavesBuild {F = F} {EF = EF} base number q (Err (refusal_by e))
      left NoMemory stopped = tt
      left (NoWitness i) stopped = build_stops q ring offered b setting start rounds_are after i low stopped
      left e stopped = absurd stopped
