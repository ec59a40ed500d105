use Rattle.std.proofs.Common.{◌≡◌, ℕ, IfOk, [], map, true≢false, ◌∙◌, ap, sym, subst}
use Rattle.sc_definitions.specs.Tables.{entries}
use Rattle.sc_definitions.specs.Polynomials.{poly_at, AllZero}
use Rattle.sc_definitions.specs.Roots.{root_count}
use Rattle.sc_definitions.specs.Problem.{claim_of}
use Rattle.sc_definitions.specs.Lucky.{after_zeros, excess, batch_polynomial, true_claim_of, in_batch, luck_of}
use Rattle.sc_transcript.specs.Data.{messages_in}
use Rattle.sc_jobs.specs.Fitting.{stated_in}
use Rattle.sc_jobs.specs.Figures.{finding_in, finding_by, false_claim_of}
use Rattle.sc_jobs.proofs.Certified.{claimed-low}
use Rattle.sc_audit_errors.specs.Findings.{holds, lucky, named}
use Rattle.sc_audit.proofs.LuckFound.{luck-batch, batch-right, batch-wrong, finding-none, finding-some}
use Rattle.sc_audit.proofs.verdict.verdict_on.Goals as goal

pub returns-then-is_zero : goal.returns-then-is_zero
unfolding batch_polynomial
returns-then-is_zero g c =
    let N = g.EF.Field.number in
    let o = g.EF.Field.ops in
    let p = stated_in c.args.fitting.now in
    let luck = luck_of o p (messages_in N c.args.proof.now) (map N c.args.challenges.now) in
    let is : map N c.in_ok-poly.poly ≡ batch_polynomial o p =
    c.in_ok-poly.ensures
    ∙ ap (λ l. after_zeros p.initial (map (excess o p.variables (λ b. g.EF.Algebra.embedding (entries g.F.Field.number l b))) p.statements)) c.deref.ensures.value in
    let zeros : AllZero o (batch_polynomial o p) = subst (AllZero o) (ap (map N) c.as_slice.ensures ∙ is) (c.is_zero.ensures.0 c.if-is_zero.true) in
    finding-none o g.met.EF.Field.is_field.ring p luck (claimed-low _ N _ g.met.EF.Field.number_below c.args.fitting.now.job.now.constraint.statements.items) zeros
    ∙ ap (λ b. finding_by b (false_claim_of o p) luck) (sym c.if-not-matched.false)

pub returns-then-index-eq0 : goal.returns-then-index-eq0
unfolding batch_polynomial
returns-then-index-eq0 g c =
    let N = g.EF.Field.number in
    let o = g.EF.Field.ops in
    let ring = g.met.EF.Field.is_field.ring in
    let p = stated_in c.args.fitting.now in
    let ms = messages_in N c.args.proof.now in
    let rs = map N c.args.challenges.now in
    let is : map N c.in_ok-poly.poly ≡ batch_polynomial o p =
    c.in_ok-poly.ensures
    ∙ ap (λ l. after_zeros p.initial (map (excess o p.variables (λ b. g.EF.Algebra.embedding (entries g.F.Field.number l b))) p.statements)) c.deref.ensures.value in
    let at : c.index.result ≡ poly_at o (batch_polynomial o p) p.batching =
    c.index.ensures ∙ c.poly_at.ensures ∙ ap (λ cs. poly_at o cs (N c.challenge.result)) (ap (map N) c.as_slice-2.ensures ∙ is)
    ∙ ap (poly_at o (batch_polynomial o p)) c.challenge.ensures in
    let some : AllZero o (batch_polynomial o p) → ⊥ =
    λ zeros. true≢false (sym (c.is_zero.ensures.1 (subst (AllZero o) (sym (ap (map N) c.as_slice.ensures ∙ is)) zeros)) ∙ c.if-is_zero.false) in
    ap (λ k. lucky (in_batch (map N c.in_ok-poly.poly) k)) (c.count_roots-vanishing.ensures.count ∙ ap (λ l. root_count o (map N l)) c.as_slice-then-index-eq0.ensures)
    ∙ ap (λ cs. lucky (in_batch cs (root_count o cs))) is
    ∙ sym (ap named (luck-batch o p ms rs (batch-right o ring p (sym at ∙ c.if-index-eq0.true))))
    ∙ finding-some o ring p (luck_of o p ms rs) some
    ∙ ap (λ b. finding_by b (false_claim_of o p) (luck_of o p ms rs)) (sym c.if-not-matched.false)

pub turn_on-requires-clause-wrong : goal.turn_on-requires-clause-wrong
unfolding batch_polynomial
turn_on-requires-clause-wrong g c =
    let N = g.EF.Field.number in
    let o = g.EF.Field.ops in
    let ring = g.met.EF.Field.is_field.ring in
    let p = stated_in c.args.fitting.now in
    let is : map N c.in_ok-poly.poly ≡ batch_polynomial o p =
    c.in_ok-poly.ensures
    ∙ ap (λ l. after_zeros p.initial (map (excess o p.variables (λ b. g.EF.Algebra.embedding (entries g.F.Field.number l b))) p.statements)) c.deref.ensures.value in
    let at : c.index.result ≡ poly_at o (batch_polynomial o p) p.batching =
    c.index.ensures ∙ c.poly_at.ensures ∙ ap (λ cs. poly_at o cs (N c.challenge.result)) (ap (map N) c.as_slice-2.ensures ∙ is)
    ∙ ap (poly_at o (batch_polynomial o p)) c.challenge.ensures in
    batch-wrong o ring p (λ vanishes. c.if-index-eq0.false (at ∙ vanishes))

pub returns : goal.returns
unfolding batch_polynomial
returns g c =
    let N = g.EF.Field.number in
    let o = g.EF.Field.ops in
    let ring = g.met.EF.Field.is_field.ring in
    let p = stated_in c.args.fitting.now in
    let ms = messages_in N c.args.proof.now in
    let rs = map N c.args.challenges.now in
    let is : map N c.in_ok-poly.poly ≡ batch_polynomial o p =
    c.in_ok-poly.ensures
    ∙ ap (λ l. after_zeros p.initial (map (excess o p.variables (λ b. g.EF.Algebra.embedding (entries g.F.Field.number l b))) p.statements)) c.deref.ensures.value in
    let some : AllZero o (batch_polynomial o p) → ⊥ =
    λ zeros. true≢false (sym (c.is_zero.ensures.1 (subst (AllZero o) (sym (ap (map N) c.as_slice.ensures ∙ is)) zeros)) ∙ c.if-is_zero.false) in
    let luck = luck_of o p ms rs in
    subst (λ f. IfOk c.turn_on.result (λ v. finding_in N v ≡ f))
    (finding-some o ring p luck some ∙ ap (λ b. finding_by b (false_claim_of o p) luck) (sym c.if-not-matched.false)) c.turn_on.ensures
