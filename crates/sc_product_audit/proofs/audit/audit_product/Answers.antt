use Rattle.std.specs.Prelude.{IfOk}
use Rattle.std.proofs.Common.{◌≡◌, Ok, Err, length, map, refl, sym, ◌∙◌, ap, subst}
use Rattle.sc_degree.specs.Products.{tables_of, product_arity}
use Rattle.sc_product_audit.specs.ProductCases.{ProductAsked, ProductCase, to_build, to_check}
use Rattle.sc_product_audit.specs.ProductJobs.{product_asked, task_by, given_by}
use Rattle.sc_product_audit.specs.ProductShapes.{arity_over, shape_from, product_shape, case_asked}
use Rattle.sc_product_audit.specs.ProductReports.{product_result, result_in}
use Rattle.sc_product_audit.specs.ProductAudits.{GivesResult, LeavesHistory, CertifiesProduct}
use Rattle.sc_product_audit.proofs.AnswerLaws.{passed_on}
use Rattle.sc_product_audit.specs.ProductPlays.{case_at}
use Rattle.sc_product_audit.proofs.TableShapes.{entries-rows}
use Rattle.sc_product_audit.proofs.ResultLaws.{lists-shape, refused-result, refused-history, case-same, ClaimsElement, answered-result, answered-history, product-holds, certified-answer}
use Rattle.sc_product_audit.proofs.audit.audit_product.Goals as goal

-- the shape is refused
pub returns-in_err-n : goal.returns-in_err-n
returns-in_err-n g c =
    let N = g.EF.Field.number in
    let party = g.C.Challenger.party c.args.challenger.now in
    let q : ProductAsked = product_asked c.args.job party in
    let e = c.in_err-n.field-0.0 in
    let shape : product_shape q ≡ Err e =
    sym
    (ap (λ ts. shape_from (arity_over (map (λ t. length t.items) ts)) (length ts) q.ops.size c.args.job.pow_bits c.max_bits.result) c.as_slice.ensures.value
    ∙ lists-shape N (λ t. t.items) c.args.job.tables.items q.ops.size c.args.job.pow_bits c.max_bits.result party.rules.max_bits c.max_bits.ensures)
    ∙ sym c.in_err-n.ensures.shape in
    let answer = result_in g.F.Field.number N c.from_residual.result in
    let is : answer ≡ Err e = passed_on g.F.Field.number N c.from_residual.result e c.from_residual.ensures.1 in
    let given = subst (GivesResult (product_result q)) (sym is) (refused-result q e shape) in
    record {
      rules = refl;
      result = given;
      history = subst (λ a. LeavesHistory (case_asked q) q.task a q.history) (sym is) (refused-history q e shape);
      holds = product-holds q g.met.EF.Field.is_field answer given;
      certified = subst (λ a. IfOk a (CertifiesProduct (case_asked q))) (sym is) tt;
    }

-- a build
pub returns-in-Build : goal.returns-in-Build
returns-in-Build g c =
    let B = g.F.Field.number in
    let N = g.EF.Field.number in
    let party = g.C.Challenger.party c.args.challenger.now in
    let q : ProductAsked = product_asked c.args.job party in
    let n = c.in_ok-n.n in
    let fits : product_shape q ≡ Ok n =
    sym
    (ap (λ ts. shape_from (arity_over (map (λ t. length t.items) ts)) (length ts) q.ops.size c.args.job.pow_bits c.max_bits.result) c.as_slice.ensures.value
    ∙ lists-shape N (λ t. t.items) c.args.job.tables.items q.ops.size c.args.job.pow_bits c.max_bits.result party.rules.max_bits c.max_bits.ensures)
    ∙ sym c.in_ok-n.ensures.shape in
    let product = c.in_ok-product.product in
    let k : ProductCase = case_at q.ops N product q.channel q.history in
    let same = case-same q n (product_arity product) (tables_of N product)
    (c.in_ok-product.ensures.tables ∙ entries-rows N (λ t. t.items) c.args.job.tables.items) c.in_ok-product.ensures.arity in
    let task : q.task ≡ to_build = ap (task_by B N) c.in-Build.is in
    let answer = result_in B N c.build.result in
    let given = answered-result q n fits k same to_build task answer c.build.ensures.result in
    record {
      rules = c.build.ensures.rules;
      result = given;
      history = answered-history q n fits k same to_build task answer (g.C.Challenger.party c.build.new.challenger).history c.build.ensures.history;
      holds = product-holds q g.met.EF.Field.is_field answer given;
      certified = certified-answer q g.met.EF.Field.is_field (subst (ClaimsElement q.ops.size) (sym task) tt) answer given;
    }

-- a check
pub returns-in-Check : goal.returns-in-Check
returns-in-Check g c =
    let B = g.F.Field.number in
    let N = g.EF.Field.number in
    let party = g.C.Challenger.party c.args.challenger.now in
    let q : ProductAsked = product_asked c.args.job party in
    let n = c.in_ok-n.n in
    let fits : product_shape q ≡ Ok n =
    sym
    (ap (λ ts. shape_from (arity_over (map (λ t. length t.items) ts)) (length ts) q.ops.size c.args.job.pow_bits c.max_bits.result) c.as_slice.ensures.value
    ∙ lists-shape N (λ t. t.items) c.args.job.tables.items q.ops.size c.args.job.pow_bits c.max_bits.result party.rules.max_bits c.max_bits.ensures)
    ∙ sym c.in_ok-n.ensures.shape in
    let product = c.in_ok-product.product in
    let k : ProductCase = case_at q.ops N product q.channel q.history in
    let same = case-same q n (product_arity product) (tables_of N product)
    (c.in_ok-product.ensures.tables ∙ entries-rows N (λ t. t.items) c.args.job.tables.items) c.in_ok-product.ensures.arity in
    let proof = c.in-Check.proof in
    let checks = to_check (given_by B N proof) in
    let task : q.task ≡ checks = ap (task_by B N) c.in-Check.is in
    let answer = result_in B N c.check.result in
    let given = answered-result q n fits k same checks task answer c.check.ensures.result in
    record {
      rules = c.check.ensures.rules;
      result = given;
      history = answered-history q n fits k same checks task answer (g.C.Challenger.party c.check.new.challenger).history c.check.ensures.history;
      holds = product-holds q g.met.EF.Field.is_field answer given;
      certified = certified-answer q g.met.EF.Field.is_field (subst (ClaimsElement q.ops.size) (sym task) (g.met.EF.Field.number_below proof.claimed_sum)) answer given;
    }
