use Rattle.std.proofs.Common.{length}
use Rattle.sc_table.proofs.projective.+eval_slice_projective.Given as goal

abbrev pub decreases-eval_slice_projective : goal.decreases-eval_slice_projective
decreases-eval_slice_projective g l = length l.z.now
