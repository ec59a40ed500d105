use Rattle.sc_degree.proofs.ShapeLaws.{shape-same, protocols-differ}
use Rattle.sc_degree.proofs.laws.shape_laws.Goals as goal

pub returns-clause-shapes : goal.returns-clause-shapes
returns-clause-shapes c = shape-same

pub returns-clause-protocols : goal.returns-clause-protocols
returns-clause-protocols c = protocols-differ
