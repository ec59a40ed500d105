use Rattle.std.proofs.Common.{◌≡◌, map, vec_len}
use Rattle.sc_field.specs.Written.{HasWritten}
use Rattle.sc_degree_tests.specs.Sums.{bound_at}
use Rattle.sc_degree_tests.proofs.two_products.bind.Given as goal

abbrev pub invariant-loop-k : goal.invariant-loop-k
invariant-loop-k g l =
    let f = g.EF.Field in
    let old = l.fn.xs.items in
    record {
      written : HasWritten f.number (bound_at f.ops (f.number l.r) (map f.number old)) 0 l.k old l.xs.items;
      len : vec_len l.xs ≡ vec_len l.fn.xs;
    }
