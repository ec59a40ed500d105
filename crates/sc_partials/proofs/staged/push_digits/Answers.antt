use Rattle.std.proofs.lemmas.Result.{on_ok_weaker}
use Rattle.sc_partials.proofs.StagedLaws.{digits-pushed}
use Rattle.sc_partials.proofs.staged.push_digits.Goals as goal

pub returns : goal.returns
returns g c =
    let e = g.EF.Field in
    on_ok_weaker c.push_differences.result
    (digits-pushed e.number e.ops c.args.low.now c.args.high.now c.args.values.now.items c.extend_from_slice.new.self.items
    c.extend_from_slice-2.new.self.items c.push_differences.new.values.items c.requires
    c.in_ok-extend_from_slice.ensures.items c.in_ok-extend_from_slice-2.ensures.items)
    c.push_differences.ensures
