use Rattle.std.proofs.Common.{ℕ, map, ◌∙◌}
use Rattle.std.proofs.lemmas.List.{length-map}
use Rattle.sc_table.specs.Polys.{table_of, variables_of}
use Rattle.sc_layout.specs.Claimed.{prover_opened}
use Rattle.sc_layout.specs.Requests.{asked_in, values_in}
use Rattle.sc_layout.specs.Books.{concrete_in, prover_recorded}
use Rattle.sc_layout.specs.Kept.{KeepsPartials}
use Rattle.sc_layout.specs.Provers.{laid_by}
use Rattle.sc_layout.proofs.TrueLaws.{all-added}
use Rattle.sc_layout.proofs.ProverLaws.{arity-concrete, true-concrete, opens-concrete}
use Rattle.sc_layout.proofs.prover.TableProverLayout.eval.Goals as goal

pub invariant_of-self : goal.invariant_of-self
invariant_of-self g c =
    let e = g.EF.Field in
    let s = c.args.self.now in
    let n = variables_of s.table in
    let f : ℕ → ℕ = λ b. g.EF.Algebra.embedding (table_of g.F.Field.number s.table b) in
    let zs = map e.number c.in_ok-point.point in
    let size = length-map c.in_ok-point.point e.number ∙ c.in_ok-point.ensures.size ∙ c.num_variables.ensures in
    let x = prover_opened c.in_ok-claim.claim in
    let opened = c.in_ok-claim.ensures in
    record {
      some = s.some;
      few = s.few;
      within = s.within;
      variables = s.variables;
      arity = arity-concrete e.ops n f zs size (prover_recorded s.claims) _ c.add_concrete.result c.add_concrete.ensures.kept x (asked_in c.args.batch.now) opened.point opened.current opened.next c.add_concrete.ensures.gains s.arity;
      truth = true-concrete e.ops n f zs size (prover_recorded s.claims) _ c.add_concrete.result c.add_concrete.ensures.kept x (asked_in c.args.batch.now) opened.point opened.current opened.next c.add_concrete.ensures.gains s.truth;
      kept = all-added (KeepsPartials e.ops g.O.BindingOrder.binds s.folding f) (concrete_in s.claims) _ c.in_ok-claim.claim c.add_concrete.result opened.kept s.kept c.add_concrete.ensures.last c.add_concrete.ensures.all;
    }

pub returns-clause-opens : goal.returns-clause-opens
returns-clause-opens g c =
    let e = g.EF.Field in
    let s = c.args.self.now in
    let zs = map e.number c.in_ok-point.point in
    let x = prover_opened c.in_ok-claim.claim in
    let opened = c.in_ok-claim.ensures in
    opens-concrete e.ops g.EF.ExtensionField.extension (g.C.Challenger.party c.args.challenger.now) (g.C.Challenger.party c.draw_point.new.challenger)
    (g.C.Challenger.party c.add_concrete.new.challenger) (laid_by s) _ c.num_variables.result _ _ zs c.num_variables.ensures
    c.in_ok-point.ensures.drawn c.in_ok-point.ensures.left x (asked_in c.args.batch.now) (values_in e.number c.in_ok-evals.evals) opened.point
    c.in_ok-evals.ensures.current c.in_ok-evals.ensures.next opened.current opened.next c.in_ok-add_concrete.ensures.left c.in_ok-add_concrete.ensures.gains
