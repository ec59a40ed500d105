use Rattle.std.proofs.Common.{◌≡◌, ◌^◌, ◌<◌, ◌≤◌, length, ◌∙◌, ap, arith}
use Rattle.std.proofs.lemmas.Nat.{pow_pos}
use Rattle.sc_definitions.proofs.LoopLaws.{entry-read}
use Rattle.sc_table.proofs.EqualitySteps.{added-none, added-one, added-more, entry-set_next}
use Rattle.sc_table.proofs.blocks.+add_equality.Goals as goal

pub returns-in-empty : goal.returns-in-empty
returns-in-empty g t c =
    let f = g.EF.Field in
    let rows = c.args.rows.now in
    let some : 0 < length rows = omega (arith, c.requires, pow_pos (length c.args.z.now)) in
    let read = entry-read f.number rows 0 c.index-rows-0.result some c.index-rows-0.is in
    added-none f.ops g.met.EF.Field.is_field.ring f.number rows c.args.z.now c.add.result (f.number c.args.scale) c.in-empty.len_below some
    (cc (c.add.ensures, read))

pub returns-in-len1 : goal.returns-in-len1
returns-in-len1 g t c =
    let f = g.EF.Field in
    let rows = c.args.rows.now in
    let one : length c.args.z.now ≡ 1 = omega (arith, c.in-len1.len_at_least, c.in-len1.len_below) in
    let two : length rows ≡ 2 = c.requires ∙ ap (λ k. 2 ^ k) one in
    let first = entry-read f.number rows 0 c.index-rows-0-in-len1.result (omega (arith, two)) c.index-rows-0-in-len1.is in
    let second = entry-set_next f.number rows c.add-in-len1.result c.index-rows-1.result two c.index-rows-1.is in
    added-one f.ops g.met.EF.Field.is_field.ring f.number rows c.args.z.now c.only-item.result c.add-in-len1.result c.add-in-len1-2.result (f.number c.args.scale)
    one c.only-item.is two (cc (c.add-in-len1.ensures, c.sub.ensures, c.mul-at_one.ensures, first)) (cc (c.add-in-len1-2.ensures, c.mul-at_one.ensures, second))

pub returns-in-len1-up : goal.returns-in-len1-up
returns-in-len1-up g t c =
    let f = g.EF.Field in
    let some : 1 ≤ length c.args.z.now = omega (arith, c.in-len1-up.len_at_least) in
    added-more f.ops g.met.EF.Field.is_field.ring f.number c.args.rows.now c.add_equality.new.rows c.add_equality-in-len1-up.new.rows c.args.z.now c.first-item.result
    (f.number c.args.scale) _ _ some c.first-item.is c.requires
    (cc (c.sub-in-len1-up.ensures, c.mul-at_one-in-len1-up.ensures)) c.mul-at_one-in-len1-up.ensures
    c.add_equality.auto.rows c.add_equality-in-len1-up.auto.rows c.add_equality.ensures c.add_equality-in-len1-up.ensures _
