use Rattle.std.proofs.Common.{◌≡◌, ◌^◌, All, length, Err, sym, ◌∙◌, ap, subst, arith, rules}
use Rattle.std.proofs.lemmas.List.{take_all}
use Rattle.std.proofs.lemmas.List.Elements.{All-more}
use Rattle.sc_audit_errors.specs.Arities.{arity_of}
use Rattle.sc_audit_errors.proofs.ArityLaws.{arity-tells, shifted}
use Rattle.sc_product_audit.proofs.TableShapes.{arity_with-all, arity_with-other, arity_over-first}
use Rattle.sc_product_audit.proofs.shape.common_arity.Goals as goal

pub overflow_shl-n : goal.overflow_shl-n
overflow_shl-n g c =
    let told = arity-tells _ c.in-Some-arity.n (sym c.arity.ensures ∙ c.in-Some-arity.is) in
    omega (arith, told.1)

-- a table has another length than the first one
pub returns-then-len-n-clause-arity : goal.returns-then-len-n-clause-arity
returns-then-len-n-clause-arity g c =
    let n = c.in-Some-arity.n in
    let told = arity-tells _ n (sym c.arity.ensures ∙ c.in-Some-arity.is) in
    let t = c.table-item.result in
    let first = c.len.ensures ∙ c.in-Some.first.now.ok.0 in
    let this = c.len-in-loop-table.ensures ∙ t.ok.0 in
    ap (λ len. Err len) (c.len-then-len-n.ensures ∙ t.ok.0)
    ∙ sym (arity_over-first (λ t. length t.items) n c.args.tables.now c.in-Some.first.now _ (omega arith) (search rules) (c.arity.ensures ∙ ap arity_of first) c.in-Some-arity.is
    (sym first ∙ told.0)
    ∙ arity_with-other (λ t. length t.items) n c.args.tables.now c.loop-table.table-index t (omega arith) c.table-item.is c.loop-table.invariant
    (λ e. c.if-len-n.true (this ∙ e ∙ sym (shifted n told.1))))

-- a table more has as many rows
pub loop-table-preserved : goal.loop-table-preserved
loop-table-preserved g c =
    let n = c.in-Some-arity.n in
    let told = arity-tells _ n (sym c.arity.ensures ∙ c.in-Some-arity.is) in
    let t = c.table-item.result in
    All-more (λ t. length t.items ≡ 2 ^ n) c.args.tables.now c.loop-table.table-index t (omega arith) c.loop-table.invariant
    (ap (λ t. length t.items) (sym c.table-item.is) ∙ sym (c.len-in-loop-table.ensures ∙ t.ok.0) ∙ c.if-len-n.false ∙ shifted n told.1)

pub returns-clause-arity : goal.returns-clause-arity
returns-clause-arity g c =
    let n = c.in-Some-arity.n in
    let told = arity-tells _ n (sym c.arity.ensures ∙ c.in-Some-arity.is) in
    let first = c.len.ensures ∙ c.in-Some.first.now.ok.0 in
    let sizes : All (λ t. length t.items ≡ 2 ^ n) c.args.tables.now =
    subst (All (λ t. length t.items ≡ 2 ^ n)) (take_all c.loop-table.table-index c.args.tables.now (omega arith)) c.loop-table.invariant in
    sym (arity_over-first (λ t. length t.items) n c.args.tables.now c.in-Some.first.now _ (search rules) (search rules) (c.arity.ensures ∙ ap arity_of first) c.in-Some-arity.is
    (sym first ∙ told.0)
    ∙ arity_with-all (λ t. length t.items) n c.args.tables.now sizes)

pub returns-clause-sizes : goal.returns-clause-sizes
returns-clause-sizes g c =
    subst (All (λ t. length t.items ≡ 2 ^ c.in-Some-arity.n)) (take_all c.loop-table.table-index c.args.tables.now (omega arith)) c.loop-table.invariant
