use Rattle.std.proofs.Common.{◌≡◌, None, sym, ◌∙◌, ap, subst}
use Rattle.std.specs.Option.{option_map}
use Rattle.sc_definitions.specs.Tables.{IsOffered}
use Rattle.sc_table.specs.Strategy.{basis_of, order_of}
use Rattle.sc_jobs.specs.Cases.{build, check, given_in, task_in, asked_of, asked_to}
use Rattle.sc_jobs.specs.Fitting.{job_in}
use Rattle.sc_jobs.specs.Refusals.{task_refusal}
use Rattle.sc_audit.specs.SmallRounds.{strategy_by}
use Rattle.sc_audit.proofs.WayLaws.{given-way, way-unrefused}
use Rattle.sc_jobs.proofs.CauseLaws.{unrefused, answers_as, refused_by_name, no_earlier, shape_as, valid_answered}
use Rattle.sc_jobs.proofs.Certified.{claimed-low, proof_pairs, certified_answer, held_figures, held-as, unheld}
use Rattle.sc_audit.proofs.audits.audit_by.Goals as goal

-- a way that is given is that of the job's build, of which nothing is refused
pub returns-in-Some-clause-answer : goal.returns-in-Some-clause-answer
returns-in-Some-clause-answer g c =
    let B = g.F.Field.number in
    let N = g.EF.Field.number in
    let R = (g.C.Challenger.party c.args.challenger.now).rules in
    let H = (g.C.Challenger.party c.args.challenger.now).history in
    let job = c.args.job.now in
    let q = asked_of job R H in
    let way = c.in-Some.way in
    let given = given-way job _ way c.in-Some.is c.requires in
    let same : asked_to (job_in c.in_ok-fitting.fitting) (build (strategy_by way)) R H ≡ q =
    ap (λ j. asked_to j (build (strategy_by way)) R H) c.in_ok-fitting.ensures.same ∙ ap (λ m. asked_to job (task_in B N m) R H) (sym given.mode) in
    let offered : IsOffered (basis_of job.basis) (order_of job.order) = subst (λ j. IsOffered (basis_of j.basis) (order_of j.order)) c.in_ok-fitting.ensures.same c.in_ok-fitting.fitting.offered in
    let shape = shape_as _ _ _ _ None job.table.ok.0 c.max_bits.ensures c.in_ok-fitting.ensures.shape in
    let none = way-unrefused job way R H given shape in
    let answers = answers_as B N _ _ _ _ c.play.result _ (sym none) same c.play.ensures.answers in
    let task : task_in B N job.mode ≡ build (strategy_by way) = ap (task_in B N) given.mode in
    let held = held_figures B N (strategy_by way) c.play.result c.play.ensures.holds in
    record {
      answers = answers;
      holds = held-as B N c.play.result task held;
      certified = certified_answer q g.met.EF.Field.is_field offered (claimed-low _ N _ g.met.EF.Field.number_below job.constraint.statements.items) B N _ c.play.result _ (build (strategy_by way))
          task answers held tt;
      refused = unrefused _ c.play.result none;
      answered = λ valid. valid_answered B N q c.play.result _ answers valid;
    }

pub returns-in-None-clause-answer : goal.returns-in-None-clause-answer
returns-in-None-clause-answer g c =
    let B = g.F.Field.number in
    let N = g.EF.Field.number in
    let R = (g.C.Challenger.party c.args.challenger.now).rules in
    let H = (g.C.Challenger.party c.args.challenger.now).history in
    let job = c.args.job.now in
    let q = asked_of job R H in
    let task = build c.in-Build.strategy in
    let same : asked_to (job_in c.in_ok-fitting.fitting) task R H ≡ q =
    ap (λ j. asked_to j task R H) c.in_ok-fitting.ensures.same ∙ ap (λ m. asked_to job (task_in B N m) R H) (sym c.in-Build.is) in
    let offered : IsOffered (basis_of job.basis) (order_of job.order) = subst (λ j. IsOffered (basis_of j.basis) (order_of j.order)) c.in_ok-fitting.ensures.same c.in_ok-fitting.fitting.offered in
    let shape = shape_as _ _ _ _ None job.table.ok.0 c.max_bits.ensures c.in_ok-fitting.ensures.shape in
    let first = ap task_refusal same ∙ no_earlier q shape in
    let answers = answers_as B N _ _ _ _ c.build.result _ first same c.build.ensures.task.answers in
    let is : task_in B N job.mode ≡ task = ap (task_in B N) c.in-Build.is in
    let held = held_figures B N c.in-Build.strategy c.build.result c.build.ensures.holds in
    record {
      answers = answers;
      holds = held-as B N c.build.result is held;
      certified = certified_answer q g.met.EF.Field.is_field offered (claimed-low _ N _ g.met.EF.Field.number_below job.constraint.statements.items) B N _ c.build.result _ task
          is answers held tt;
      refused = refused_by_name _ _ c.build.result first c.build.ensures.task.refused;
      answered = λ valid. valid_answered B N q c.build.result _ answers valid;
    }

pub returns-in-Check-clause-answer : goal.returns-in-Check-clause-answer
returns-in-Check-clause-answer g c =
    let B = g.F.Field.number in
    let N = g.EF.Field.number in
    let R = (g.C.Challenger.party c.args.challenger.now).rules in
    let H = (g.C.Challenger.party c.args.challenger.now).history in
    let job = c.args.job.now in
    let q = asked_of job R H in
    let proof = option_map (given_in B N) c.in-Check.proof in
    let task = check proof in
    let same : asked_to (job_in c.in_ok-fitting.fitting) task R H ≡ q =
    ap (λ j. asked_to j task R H) c.in_ok-fitting.ensures.same ∙ ap (λ m. asked_to job (task_in B N m) R H) (sym c.in-Check.is) in
    let offered : IsOffered (basis_of job.basis) (order_of job.order) = subst (λ j. IsOffered (basis_of j.basis) (order_of j.order)) c.in_ok-fitting.ensures.same c.in_ok-fitting.fitting.offered in
    let shape = shape_as _ _ _ _ None job.table.ok.0 c.max_bits.ensures c.in_ok-fitting.ensures.shape in
    let first = ap task_refusal same ∙ no_earlier q shape in
    let answers = answers_as B N _ _ _ _ c.check.result _ first same c.check.ensures.task.answers in
    let is : task_in B N job.mode ≡ task = ap (task_in B N) c.in-Check.is in
    let held = unheld B N proof c.check.result in
    record {
      answers = answers;
      holds = held-as B N c.check.result is held;
      certified = certified_answer q g.met.EF.Field.is_field offered (claimed-low _ N _ g.met.EF.Field.number_below job.constraint.statements.items) B N _ c.check.result _ task
          is answers held (proof_pairs B N c.in-Check.proof);
      refused = refused_by_name _ _ c.check.result first c.check.ensures.task.refused;
      answered = λ valid. valid_answered B N q c.check.result _ answers valid;
    }
