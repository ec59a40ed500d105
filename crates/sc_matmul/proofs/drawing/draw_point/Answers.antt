use Rattle.std.proofs.Common.{◌≤◌, length, ap, arith}
use Rattle.sc_matmul.proofs.EntryLaws.{all-few}
use Rattle.sc_matmul.proofs.drawing.draw_point.Goals as goal

-- there are at most 3 times 16384 entries
pub overflow_add-left-2 : goal.overflow_add-left-2
overflow_add-left-2 g c =
    let few = all-few c.args.fitting.now in
    record { fits = omega (arith, few.0, few.1, few.2, ap length c.as_slice-left.ensures, ap length c.as_slice-right.ensures, ap length c.as_slice-claimed.ensures) }

pub overflow_add-left-3 : goal.overflow_add-left-3
overflow_add-left-3 g c =
    let few = all-few c.args.fitting.now in
    let degree : c.DEGREE.result ≤ 8 = omega (arith, c.DEGREE.ensures, g.met.EF.ExtensionField.degree_most) in
    record { fits = omega (arith, few.0, few.1, few.2, degree, ap length c.as_slice-left.ensures, ap length c.as_slice-right.ensures, ap length c.as_slice-claimed.ensures) }
