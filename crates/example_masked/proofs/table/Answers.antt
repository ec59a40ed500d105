use Rattle.std.proofs.Common.{rules, ◌≡◌, length, ◌∙◌, sym}
use Rattle.sc_definitions.proofs.Lengths.{pow-same}
use Rattle.example_masked.proofs.table.Goals as goal

pub new-requires : goal.new-requires
new-requires c =
    let four : length c.in_ok-rows.rows.items ≡ 4 = search rules in
    (2, four)

pub returns : goal.returns
returns c =
    let four : length c.in_ok-rows.rows.items ≡ 4 = search rules in
    pow-same _ 2 (sym c.new.ensures.size ∙ four)
