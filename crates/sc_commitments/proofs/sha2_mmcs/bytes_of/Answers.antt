use Rattle.std.proofs.Common.{◌≡◌, ◌++◌, flat_map, map, take, length, ap, sym, ◌∙◌, arith}
use Rattle.std.proofs.Math.Seq.{take-length}
use Rattle.sc_definitions.specs.Seeds.{eight_bytes}
use Rattle.sc_commitments.specs.Matrices.{rows_in, matrix_of}
use Rattle.sc_commitments.proofs.CodeLaws.{bytes-are, rows-map}
use Rattle.sc_commitments.proofs.sha2_mmcs.bytes_of.Goals as goal

pub returns : goal.returns
returns g c =
    let vs = c.args.m.now.values in
    let size = ap length c.as_slice-value-items.ensures in
    let all : c.loop-value.value-index ≡ length vs = omega (arith, size, c.loop-value-test.false, c.loop-value.auto.value-index-end) in
    c.loop-value.invariant
    ∙ ap (λ t. eight_bytes (rows_in vs c.args.m.now.width) ++ eight_bytes c.args.m.now.width ++ flat_map eight_bytes (map g.EF.Field.number t))
    (ap (λ i. take i vs) all ∙ take-length vs)
    ∙ ap (λ n. eight_bytes n ++ eight_bytes c.args.m.now.width ++ flat_map eight_bytes (map g.EF.Field.number vs)) (rows-map g.EF.Field.number vs c.args.m.now.width)
    ∙ sym (bytes-are (matrix_of g.EF.Field.number c.args.m.now))
