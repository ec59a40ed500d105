use Rattle.std.proofs.Common.{[], ◌∷◌, ◌++◌, flat_map, map, take, take_all, ap, sym, ◌∙◌, subst, arith}
use Rattle.sc_definitions.specs.Statements.{claims}
use Rattle.sc_definitions.specs.Combined.{scaled_from}
use Rattle.sc_layout.specs.Openings.{opened_statements, current_at, statements_of}
use Rattle.sc_layout.specs.Claimed.{prover_opened}
use Rattle.sc_layout.specs.Books.{virtual_statements, prover_recorded}
use Rattle.sc_layout.specs.Scaled.{AreScaled}
use Rattle.sc_layout.proofs.SumLaws.{values-more}
use Rattle.sc_layout.proofs.BookLaws.{flat-more}
use Rattle.sc_layout.proofs.ScaledLaws.{flat-is, scaled-on}
use Rattle.sc_layout.proofs.book.scaled_claims.Goals as goal

pub loop-claim-preserved : goal.loop-claim-preserved
loop-claim-preserved g c =
    let e = g.EF.Field in
    let ms = c.deref-claim-items.result.now in
    let i = c.loop-claim.claim-index in
    let m = c.claim-item.result in
    subst (λ l. AreScaled e.ops e.number (e.number c.args.alpha) l c.push_opened.new.self)
    (sym (flat-more (λ k. opened_statements (prover_opened k)) ms i m c.loop-claim-test.true c.claim-item.is))
    (c.in_ok-push_opened.ensures (e.number c.args.alpha) (flat_map (λ k. opened_statements (prover_opened k)) (take i ms)) c.loop-claim.invariant)

pub loop-virtual_claim-preserved : goal.loop-virtual_claim-preserved
loop-virtual_claim-preserved g c =
    let e = g.EF.Field in
    let vs = c.deref-virtual_claim-items.result.now in
    let i = c.loop-virtual_claim.virtual_claim-index in
    let v = c.virtual_claim-item.result in
    let opened = flat_map (λ k. opened_statements (prover_opened k)) c.args.book.now.concrete.items in
    let so_far = opened ++ virtual_statements e.number (take i vs) in
    subst (λ l. AreScaled e.ops e.number (e.number c.args.alpha) l c.push.new.self)
    (ap (λ p. so_far ++ claims (current_at (map e.number p)) (e.number v.eval) ∷ []) c.point.ensures
    ∙ sym (values-more (λ k. claims (current_at (map e.number k.point)) (e.number k.eval)) vs opened i v c.loop-virtual_claim-test.true c.virtual_claim-item.is))
    (c.in_ok-push.ensures (e.number c.args.alpha) so_far (e.number v.eval) c.loop-virtual_claim.invariant)

pub returns-clause-claims : goal.returns-clause-claims
returns-clause-claims g c =
    let e = g.EF.Field in
    let a = e.number c.args.alpha in
    let b = c.args.book.now in
    let opened = flat_map (λ k. opened_statements (prover_opened k)) b.concrete.items in
    let all = take_all c.loop-virtual_claim.virtual_claim-index c.deref-virtual_claim-items.result.now (omega (arith, c.loop-virtual_claim-test.false)) ∙ c.deref-virtual_claim-items.ensures.value in
    c.loop-virtual_claim.invariant.claims_are
    ∙ ap (λ vs. scaled_from e.ops a 0 (opened ++ virtual_statements e.number vs)) all
    ∙ ap (λ l. scaled_from e.ops a 0 (l ++ virtual_statements e.number b.virtual_claims.items)) (sym (flat-is opened_statements prover_opened b.concrete.items))

pub returns-clause-on : goal.returns-clause-on
returns-clause-on g c n on =
    let e = g.EF.Field in
    let a = e.number c.args.alpha in
    let b = c.args.book.now in
    let opened = flat_map (λ k. opened_statements (prover_opened k)) b.concrete.items in
    let all = take_all c.loop-virtual_claim.virtual_claim-index c.deref-virtual_claim-items.result.now (omega (arith, c.loop-virtual_claim-test.false)) ∙ c.deref-virtual_claim-items.ensures.value in
    scaled-on e.ops e.number a 0 n c.loop-virtual_claim.scaled.claims.items (statements_of (prover_recorded b))
    (c.loop-virtual_claim.invariant.claims_are
    ∙ ap (λ vs. scaled_from e.ops a 0 (opened ++ virtual_statements e.number vs)) all
    ∙ ap (λ l. scaled_from e.ops a 0 (l ++ virtual_statements e.number b.virtual_claims.items)) (sym (flat-is opened_statements prover_opened b.concrete.items)))
    on
