use Rattle.std.proofs.Common.{◌≡◌, suc, ◌-◌, ◌^◌, ◌∙◌, ap, arith}
use Rattle.sc_table.specs.Polys.{variables_of}
use Rattle.sc_partials.proofs.partials.sum_over.Goals as goal

pub fix_suffix_var_slice-requires : goal.fix_suffix_var_slice-requires
fix_suffix_var_slice-requires g c =
    let some : variables_of c.args.table.now ≡ suc (variables_of c.args.table.now - 1) = omega (arith, c.requires) in
    (variables_of c.args.table.now - 1, c.as_slice.ensures.size ∙ ap (λ n. 2 ^ n) some)

pub fix_prefix_var_slice-requires : goal.fix_prefix_var_slice-requires
fix_prefix_var_slice-requires g c =
    let some : variables_of c.args.table.now ≡ suc (variables_of c.args.table.now - 1) = omega (arith, c.requires) in
    (variables_of c.args.table.now - 1, c.as_slice-in-Suffix.ensures.size ∙ ap (λ n. 2 ^ n) some)
