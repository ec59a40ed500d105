use Rattle.std.proofs.Common.{◌≡◌, ◌∙◌, length, sym}
use Rattle.sc_table.proofs.PowerLaws.{variables_of_length}
use Rattle.sc_table.proofs.poly.Poly.new.Goals as goal

pub invariant_of-result : goal.invariant_of-result
invariant_of-result g c =
    let len_is : c.len.result ≡ length c.args.evals.items = c.len.ensures ∙ c.args.evals.ok.0 in
    record { sized = sym c.len.ensures ∙ variables_of_length c.requires.0 c.len.result (len_is ∙ c.requires.1) c.len.type_inv }
