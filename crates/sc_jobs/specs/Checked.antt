-- What the report on rounds that were replayed says, by its result.
use Rattle.std.specs.Prelude.{◌≡◌, ℕ, [], Result, Ok, Err}
use Rattle.sc_jobs.specs.declared.report.Report.{Report}
use Rattle.sc_audit_errors.specs.declared.error.AuditError.{AuditError}
use Rattle.sc_audit_errors.specs.declared.error.AuditError.TheVariants.{NoMemory}
use Rattle.sc_jobs.specs.Figures.{Figures, Reported, report_in}

-- a report shows these figures, and no grids
pub record ShowsPlainly (figures : Figures) (report : Reported) : Type 0 where
  pub figures_are : report.figures ≡ figures
  pub grids : report.grids ≡ []

-- it does, or there is no memory
abbrev pub LeavesReport : {F EF : Type 0} → (F → ℕ) → (EF → ℕ) → Figures → Result (Report F EF) AuditError → Type 0
LeavesReport base number figures (Ok r) = ShowsPlainly figures (report_in base number r)
LeavesReport base number figures (Err NoMemory) = Unit {0}
LeavesReport base number figures (Err e) = ⊥
