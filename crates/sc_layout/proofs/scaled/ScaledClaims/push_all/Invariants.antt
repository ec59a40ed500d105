use Rattle.std.proofs.Common.{◌≡◌, ℕ, List, ◌++◌, length, map, take}
use Rattle.sc_definitions.specs.Statements.{Statement, claims}
use Rattle.sc_svo.specs.Claims.{kind_by}
use Rattle.sc_layout.specs.Scaled.{AreScaled}
use Rattle.sc_layout.proofs.scaled.ScaledClaims.push_all.Given as goal

abbrev pub invariant-loop-place : goal.invariant-loop-place
invariant-loop-place g l =
    let e = g.EF.Field in
    (a : ℕ) (ss : List Statement) (vs : List ℕ) → length vs ≡ l.count → AreScaled e.ops e.number a ss l.initial.self →
    AreScaled e.ops e.number a (ss ++ map (claims (kind_by l.successor (map e.number l.point))) (take l._place vs)) l.self
