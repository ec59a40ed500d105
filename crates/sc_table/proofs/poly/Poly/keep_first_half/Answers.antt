use Rattle.std.proofs.Common.{◌≡◌, ◌-◌, ◌/◌, ◌^◌, ◌<◌, ◌∙◌, sym, ap, subst, arith}
use Rattle.sc_definitions.specs.Tables.{entries}
use Rattle.sc_table.proofs.EntryLaws.{entry-take}
use Rattle.sc_table.proofs.PowerLaws.{power-half}
use Rattle.sc_table.proofs.poly.Poly.keep_first_half.Goals as goal

pub returns-clause-kept : goal.returns-clause-kept
returns-clause-kept g c = λ b low.
    let p = c.args.self.now in
    let half = c.len.result / 2 in
    let half_is : half ≡ 2 ^ (p.variables - 1) = power-half c.len.result p.variables (p.variables - 1) (c.len.ensures ∙ p.sized) (omega (arith, c.requires)) in
    ap (λ xs. entries g.A.Field.number xs b) c.truncate.ensures.items
    ∙ entry-take g.A.Field.number p.evals.items half b (subst (λ n. b < n) (sym half_is) low)
