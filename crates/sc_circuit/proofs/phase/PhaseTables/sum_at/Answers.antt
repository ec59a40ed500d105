use Rattle.std.proofs.Common.{◌∙◌}
use Rattle.sc_circuit.proofs.PhaseLaws.{half-twice}
use Rattle.sc_circuit.proofs.phase.PhaseTables.sum_at.Goals as goal

pub sum_rows-requires-clause-values : goal.sum_rows-requires-clause-values
sum_rows-requires-clause-values g c =
    let self = c.args.self.now in
    half-twice self.left self.variables _ c.requires self.within self.few (c.as_slice.ensures.len ∙ self.values_size)

pub sum_rows-requires-clause-factors : goal.sum_rows-requires-clause-factors
sum_rows-requires-clause-factors g c =
    let self = c.args.self.now in
    half-twice self.left self.variables _ c.requires self.within self.few (c.as_slice-2.ensures.len ∙ self.factors_size)

pub sum_rows-requires-clause-rests : goal.sum_rows-requires-clause-rests
sum_rows-requires-clause-rests g c =
    let self = c.args.self.now in
    half-twice self.left self.variables _ c.requires self.within self.few (c.as_slice-3.ensures.len ∙ self.rests_size)
