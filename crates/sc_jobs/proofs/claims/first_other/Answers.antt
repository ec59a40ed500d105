use Rattle.std.proofs.Common.{◌≡◌, ◌<◌, length, slice_index, ap, ◌∙◌, arith}
use Rattle.std.proofs.lemmas.List.{length-map}
use Rattle.sc_statements.proofs.FalseSteps.{other_from_ne, same_from_ne, search-next, search-found, search-end}
use Rattle.sc_jobs.proofs.ClaimTests.{read_there}
use Rattle.sc_jobs.proofs.claims.first_other.Goals as goal

-- the statement at a place is false
pub returns-then-ne : goal.returns-then-ne
returns-then-ne g c = λ n f ss claimed actual.
    let N = g.EF.Field.number in
    let i = c.loop-i.i in
    let size : length c.args.claimed.now ≡ length ss = omega (arith, length-map c.args.claimed.now N, ap length claimed, length-map ss (λ s. s.claimed)) in
    let low : i < length c.args.claimed.now = omega (arith, c.loop-i-test.true) in
    let low' : i < length c.args.actual.now = omega (arith, low, c.requires) in
    search-found g.EF.Field.ops n f ss i (c.loop-i.invariant n f ss claimed actual) (omega (arith, low, size)) (N c.index-claimed-i.result) (N c.index-actual-i.result) _ _
    (read_there N c.args.claimed.now i c.index-claimed-i.result low c.index-claimed-i.is ∙ ap (λ xs. slice_index xs i) claimed)
    (read_there N c.args.actual.now i c.index-actual-i.result low' c.index-actual-i.is ∙ ap (λ xs. slice_index xs i) actual)
    (other_from_ne _ _ (g.met.EF.Field.equality c.index-actual-i.result c.index-claimed-i.result) c.if-ne.ensures) c.index.ensures c.index-then-ne.ensures

-- it is true
pub loop-i-preserved : goal.loop-i-preserved
loop-i-preserved g c = λ n f ss claimed actual.
    let N = g.EF.Field.number in
    let i = c.loop-i.i in
    let size : length c.args.claimed.now ≡ length ss = omega (arith, length-map c.args.claimed.now N, ap length claimed, length-map ss (λ s. s.claimed)) in
    let low : i < length c.args.claimed.now = omega (arith, c.loop-i-test.true) in
    let low' : i < length c.args.actual.now = omega (arith, low, c.requires) in
    search-next g.EF.Field.ops n f ss i (c.loop-i.invariant n f ss claimed actual) (omega (arith, low, size)) (N c.index-claimed-i.result) (N c.index-actual-i.result)
    (read_there N c.args.claimed.now i c.index-claimed-i.result low c.index-claimed-i.is ∙ ap (λ xs. slice_index xs i) claimed)
    (read_there N c.args.actual.now i c.index-actual-i.result low' c.index-actual-i.is ∙ ap (λ xs. slice_index xs i) actual)
    (same_from_ne _ _ (g.met.EF.Field.equality c.index-actual-i.result c.index-claimed-i.result) c.if-ne.ensures)

-- all are
pub returns : goal.returns
returns g c = λ n f ss claimed actual.
    let N = g.EF.Field.number in
    let size : length c.args.claimed.now ≡ length ss = omega (arith, length-map c.args.claimed.now N, ap length claimed, length-map ss (λ s. s.claimed)) in
    search-end g.EF.Field.ops n f ss c.loop-i.i (c.loop-i.invariant n f ss claimed actual) (omega (arith, size, c.loop-i-test.false))
