use Rattle.std.proofs.Common.{◌∙◌}
use Rattle.sc_circuit.proofs.PhaseLaws.{half-twice}
use Rattle.sc_circuit.proofs.phase.PhaseTables.bind.Goals as goal

pub bind_next-requires : goal.bind_next-requires
bind_next-requires g c =
    let self = c.args.self.now in
    half-twice self.left self.variables _ c.requires self.within self.few (c.as_mut_slice.ensures.len ∙ self.values_size)

pub bind_next-requires-2 : goal.bind_next-requires-2
bind_next-requires-2 g c =
    let self = c.args.self.now in
    half-twice self.left self.variables _ c.requires self.within self.few (c.as_mut_slice-2.ensures.len ∙ self.factors_size)

pub bind_next-requires-3 : goal.bind_next-requires-3
bind_next-requires-3 g c =
    let self = c.args.self.now in
    half-twice self.left self.variables _ c.requires self.within self.few (c.as_mut_slice-3.ensures.len ∙ self.rests_size)
