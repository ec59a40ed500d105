use Rattle.std.proofs.Common.{ap, sym, ◌∙◌, subst}
use Rattle.sc_definitions.specs.Tables.{entries, rows_of}
use Rattle.sc_definitions.specs.Rounds.{next_claim}
use Rattle.sc_table.specs.Strategy.{basis_of, order_of}
use Rattle.sc_definitions.specs.ProverViews.{IsTrueClaim}
use Rattle.sc_rounds.specs.BaseViews.{base_shown}
use Rattle.sc_rounds.proofs.HeldLaws.{true_bound}
use Rattle.sc_rounds.proofs.BaseLaws.{one_fewer, are_bound, base_pair}
use Rattle.sc_rounds.proofs.strategy.base.BaseProduct.bind.Goals as goal

pub new_in-poly-requires-clause-same : goal.new_in-poly-requires-clause-same
new_in-poly-requires-clause-same g c =
    one_fewer _ _ _ _ c.args.self.same c.in_ok-evals.ensures.fewer c.fix_var.ensures.fewer ∙ sym c.shrink_to_fit.ensures.variables

-- the claim is true of the bound tables
pub new-requires : goal.new-requires
unfolding entries rows_of
new-requires g c =
    let o = g.EF.Field.ops in
    let N = g.EF.Field.number in
    let h = g.EF.Algebra.embedding in
    let self = c.args.self in
    let r = N c.args.r in
    let small = c.shrink_to_fit in
    let are = are_bound o N (basis_of self.basis) (order_of self.order) r _ (λ b. h (entries g.F.Field.number self.evals.now b)) self.weights c.fix_var.new.poly c.in_ok-evals.evals small.new.self
    self.same c.fix_var.ensures.fewer c.fix_var.ensures.rows small.ensures.variables small.ensures.table c.in_ok-evals.ensures.fewer c.in_ok-evals.ensures.rows in
    let e = c.new_in-poly.ensures in
    let pair = base_pair o N h g.F.Field.number g.met.EF.Algebra.embeds.zero_kept self.basis self.order self.evals.now self.weights c.in_ok-evals.evals small.new.self
    self.sum c.reduce_claim-sum.result r c.new_in-poly.result are e.variables e.basis e.order e.evals e.weights
    (c.reduce_claim-sum.ensures.claim ∙ ap (λ v. next_claim (basis_of self.basis) o (N self.sum) v r) c.requires.message) in
    subst (IsTrueClaim o) (sym pair) (true_bound o g.met.EF.Field.is_field.ring (base_shown self) self.offered r c.requires.left self.true_sum)

pub returns : goal.returns
returns g c =
    let o = g.EF.Field.ops in
    let N = g.EF.Field.number in
    let h = g.EF.Algebra.embedding in
    let self = c.args.self in
    let r = N c.args.r in
    let small = c.shrink_to_fit in
    let are = are_bound o N (basis_of self.basis) (order_of self.order) r _ (λ b. h (entries g.F.Field.number self.evals.now b)) self.weights c.fix_var.new.poly c.in_ok-evals.evals small.new.self
    self.same c.fix_var.ensures.fewer c.fix_var.ensures.rows small.ensures.variables small.ensures.table c.in_ok-evals.ensures.fewer c.in_ok-evals.ensures.rows in
    let e = c.new_in-poly.ensures in
    let pair = base_pair o N h g.F.Field.number g.met.EF.Algebra.embeds.zero_kept self.basis self.order self.evals.now self.weights c.in_ok-evals.evals small.new.self
    self.sum c.reduce_claim-sum.result r c.new_in-poly.result are e.variables e.basis e.order e.evals e.weights
    (c.reduce_claim-sum.ensures.claim ∙ ap (λ v. next_claim (basis_of self.basis) o (N self.sum) v r) c.requires.message) in
    c.new.ensures.shown ∙ pair
