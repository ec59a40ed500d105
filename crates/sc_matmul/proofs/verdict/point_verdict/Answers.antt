use Rattle.std.proofs.Common.{map, ◌∙◌, ap}
use Rattle.sc_definitions.specs.Roots.{root_count}
use Rattle.sc_definitions.specs.Lucky.{in_batch}
use Rattle.sc_audit_errors.specs.Findings.{lucky}
use Rattle.sc_matmul.proofs.verdict.point_verdict.Goals as goal

pub returns : goal.returns
returns g c =
    let N = g.EF.Field.number in
    let o = g.EF.Field.ops in
    let poly = c.new-poly.result in
    let is = ap (map N) c.new-poly.ensures ∙ c.in_ok-excess.ensures in
    ap (λ k. lucky (in_batch (map N poly) k)) (c.count_roots-vanishing.ensures.count ∙ ap (λ l. root_count o (map N l)) c.as_slice.ensures)
    ∙ ap (λ cs. lucky (in_batch cs (root_count o cs))) is
