use Rattle.std.proofs.Common.{◌≡◌, ℕ, ◌+◌, ◌<◌, List, [], ◌∷◌, ◌++◌, length, get_or, take, sym, ◌∙◌, ap}
use Rattle.std.proofs.lemmas.Result.{IfOk-from_err}
use Rattle.std.proofs.lemmas.List.{take_all, take_more}
use Rattle.sc_statements.proofs.statement.eq.EqStatement.copied_constraints.Goals as goal

-- a copy of the next item after copies of those before it
copied-more : {X : Type 0} (xs copies pushed : List X) (i : ℕ) (x copy : X) → i < length xs → copies ≡ take i xs → x ≡ get_or xs i x → copy ≡ x →
    pushed ≡ copies ++ copy ∷ [] → pushed ≡ take (i + 1) xs
copied-more xs copies pushed i x copy low before is same now =
    now ∙ ap (λ l. l ++ copy ∷ []) before ∙ ap (λ y. take i xs ++ y ∷ []) (same ∙ is) ∙ sym (take_more xs i x low)

-- there is no copy yet
pub loop-constraint-init : goal.loop-constraint-init
loop-constraint-init g c = c.in_ok-copies.ensures.items

-- the index is within the items
pub offset_bounds-constraint-items-constraint-index : goal.offset_bounds-constraint-items-constraint-index
offset_bounds-constraint-items-constraint-index g c = c.loop-constraint.auto.constraint-index-end

-- one copy more
pub loop-constraint-preserved : goal.loop-constraint-preserved
loop-constraint-preserved g c =
    let item = c.constraint-item.result in
    copied-more c.deref-constraint-items.result.now c.loop-constraint.copies.items c.push.new.self.items c.loop-constraint.constraint-index item
    (record { weights = c.in_ok-weights.weights; eval = item.eval }) c.loop-constraint-test.true c.loop-constraint.invariant c.constraint-item.is
    (ap (λ w. record { weights = w; eval = item.eval }) c.in_ok-weights.ensures) c.in_ok-push.ensures.items

-- at the end every item is copied
pub returns : goal.returns
returns g c =
    c.loop-constraint.invariant ∙ take_all c.loop-constraint.constraint-index c.deref-constraint-items.result.now c.loop-constraint-test.false ∙ c.deref-constraint-items.ensures.value

-- a refusal tells nothing of an answer
pub returns-in_err-copies : goal.returns-in_err-copies
returns-in_err-copies g c = IfOk-from_err c.from_residual.result _ c.from_residual.ensures.0

pub returns-in_err-weights : goal.returns-in_err-weights
returns-in_err-weights g c = IfOk-from_err c.from_residual-in_err-weights.result _ c.from_residual-in_err-weights.ensures.0
