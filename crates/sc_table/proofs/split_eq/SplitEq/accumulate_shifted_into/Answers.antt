use Rattle.std.proofs.Common.{◌≡◌, ◌+◌, ◌-◌, ◌++◌, length, take, drop, ◌∙◌, ap, refl, arith}
use Rattle.std.proofs.lemmas.Nat.{pow_pos}
use Rattle.sc_definitions.specs.Ring.{plus, times}
use Rattle.sc_definitions.specs.Shifts.{shifted}
use Rattle.sc_definitions.specs.Tables.{entries}
use Rattle.sc_field.proofs.EntryLaws.{part-entry, part-length}
use Rattle.sc_table.specs.SplitEqs.{split_variables, split_weight}
use Rattle.sc_table.proofs.FoldLaws.{written-part}
use Rattle.sc_table.proofs.SplitLaws.{factor-unwrapped, gained-shifted}
use Rattle.sc_table.proofs.split_eq.SplitEq.accumulate_shifted_into.Goals as goal

pub returns : goal.returns
returns g c = λ b low.
    let f = g.EF.Field in
    let s = c.args.self.now in
    let w = split_weight f.number f.ops s in
    let out = c.args.out.now in
    let part = c.add_weights.new.rows in
    let n = length out - 1 in
    let scale = f.number c.unwrap_or.result in
    let factor = factor-unwrapped f.number c.args.scale c.ONE.result c.unwrap_or.result (ap f.number c.ONE.ensures ∙ g.met.EF.Field.one_is)
    c.unwrap_or.ensures in
    let some : 1 + n ≡ length out = omega (arith, c.requires, pow_pos (split_variables s)) in
    let given : length (take n (drop 1 out)) ≡ n = part-length out n 1 n refl (omega (arith, some)) in
    let rows = written-part f.number (λ k. plus f.ops (entries f.number out k) (times f.ops scale (w (k - 1)))) 1 n n out part refl (omega (arith, some))
    (c.add_weights.auto.rows ∙ given)
    (λ k inside.
    let before : k ≡ 1 + k - 1 = omega arith in
    c.add_weights.ensures k (omega (arith, inside, given))
    ∙ ap (λ x. plus f.ops x (times f.ops scale (w k))) (part-entry f.number out n 1 k (1 + k) inside refl)
    ∙ ap (λ j. plus f.ops (entries f.number out (1 + k)) (times f.ops scale (w j))) before) in
    gained-shifted f.number f.ops g.met.EF.Field.is_field.ring g.met.EF.Field.number_below scale n w out (take 1 out ++ (part ++ drop n (drop 1 out))) rows b
    (omega (arith, low, some, c.requires))
    ∙ ap (λ k. plus f.ops (entries f.number out b) (times f.ops k (shifted 0 w b))) factor
