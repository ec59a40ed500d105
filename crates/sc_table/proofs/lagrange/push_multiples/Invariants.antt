use Rattle.std.proofs.Common.{◌≡◌, ◌-◌, vec_capacity}
use Rattle.sc_table.proofs.PlaceLaws.{HasMultiples}
use Rattle.sc_table.proofs.lagrange.push_multiples.Given as goal

abbrev pub invariant-loop-k : goal.invariant-loop-k
invariant-loop-k g l =
    let f = g.F.Field in
    record {
      multiples : HasMultiples f.number f.ops l.from (f.number l.factor) (l.k - l.from) l.fn.items.items l.items.items;
      room : vec_capacity l.items ≡ vec_capacity l.fn.items;
    }
