use Rattle.std.proofs.Common.{◌≡◌, ℕ, zero, suc, ◌*◌, ◌%◌, ◌^◌, ◌≤◌, sym, ◌∙◌, ap, refl, arith}
use Rattle.std.proofs.Math.Pow.{pow_mono}
use Rattle.std.proofs.lemmas.List.{length-take-le}
use Rattle.sc_definitions.proofs.Lengths.{pow-same}
use Rattle.sc_tables_statements_tests.proofs.tests.weights.table.Goals as goal

module _ (n : ℕ) (few : n ≤ 3) where
  rows-at_most : 2 ^ n ≤ 8
  rows-at_most = pow_mono few

  rows-fit : 1 * 2 ^ n % 18446744073709551616 ≡ 2 ^ n
  rows-fit = omega (arith, rows-at_most)

  rows-within : 1 * 2 ^ n % 18446744073709551616 ≤ 8
  rows-within = omega (arith, rows-at_most, rows-fit)

pub shared_ref_as_front-elements : goal.shared_ref_as_front-elements
shared_ref_as_front-elements c = rows-within c.args.n c.requires

pub returns : goal.returns
returns c =
    let n = c.args.n in
    pow-same _ _ (sym c.new.ensures.size ∙ c.in_ok-elements.ensures ∙ length-take-le _ _ (rows-within n c.requires) ∙ rows-fit n c.requires)
