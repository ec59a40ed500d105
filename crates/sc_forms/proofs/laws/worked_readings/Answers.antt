use Rattle.sc_forms.proofs.WorkedReadings.{worked}
use Rattle.sc_forms.proofs.laws.worked_readings.Goals as goal

pub returns : goal.returns
returns c = worked
