use Rattle.std.proofs.Common.{map, ◌∙◌, ap}
use Rattle.sc_circuit_definitions.specs.CircuitPlays.{CircuitCase}
use Rattle.sc_circuit.specs.CircuitJobs.{Fields, fields, case_by}
use Rattle.sc_circuit.specs.CircuitReports.{finding_in}
use Rattle.sc_circuit.specs.ReplayedCircuits.{replayed_sent}
use Rattle.sc_circuit.proofs.VerdictLaws.{figures-are}
use Rattle.sc_circuit.proofs.verdict.report_on.Goals as goal

pub returns-clause-figures : goal.returns-clause-figures
returns-clause-figures g c = λ party h.
    let B = g.F.Field.number in
    let N = g.EF.Field.number in
    let fs : Fields = fields g.F.Field.ops g.EF.Field.ops g.EF.Algebra.embedding g.EF.ExtensionField.extension in
    let q : CircuitCase = case_by fs B c.args.asked.now party in
    let r = c.args.replayed in
    figures-are q (replayed_sent B N r) (N r.claim) (N r.reached.claim) (map (λ xs. map N xs) c.new.result) (map N c.new-2.result) (finding_in N c.in_ok-verdict.verdict) h.claim
    (ap (map (λ xs. map N xs)) c.new.ensures ∙ h.challenges) (ap (map N) c.new-2.ensures ∙ h.merges) h.last (c.in_ok-verdict.ensures party h)
