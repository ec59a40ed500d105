use Rattle.std.proofs.Common.{◌≡◌, ◌<◌, ◌^◌, ℕ, All, length, map, sym, ◌∙◌, ap, subst, arith}
use Rattle.sc_definitions.specs.Tables.{entries}
use Rattle.sc_circuit_definitions.specs.LayerRounds.{LayerTables, gate_tables}
use Rattle.sc_circuit.specs.Phases.{phase_in, SameRows, phase_after}
use Rattle.sc_circuit.proofs.ProverLaws.{first-after, left-none}
use Rattle.sc_circuit.proofs.layer.LayerProver.new.Goals as goal

pub invariant_of-result : goal.invariant_of-result
invariant_of-result g c =
    let e = g.EF.Field in
    let N = e.number in
    let v = c.in_ok-phase.phase.variables in
    let phase = c.begin_first.new.self in
    let gates = c.args.gates.now in
    let p = phase_in N phase in
    let drawn = c.in_ok-drawn.drawn in
    let none = c.in_ok-drawn.ensures.empty in
    let empty : drawn.len ≡ 0 = drawn.ok.0 ∙ ap length none in
    let tables : ℕ → LayerTables = λ k. gate_tables e.ops k (entries N c.args.weights.now) (entries N c.args.below.now) gates in
    let same : phase.variables ≡ c.args.variables = c.begin_first.ensures.variables ∙ c.in_ok-phase.ensures in
    record {
      left_places = subst (λ n. All (λ gate. gate.left < 2 ^ n) gates) (sym same) c.requires.left;
      right_places = subst (λ n. All (λ gate. gate.right < 2 ^ n) gates) (sym same) c.requires.right;
      weighed = c.requires.weights;
      filled = c.requires.below ∙ ap (λ n. 2 ^ n) (sym same);
      room = omega (arith, same, c.in_ok-drawn.ensures.room);
      within = omega (arith, empty);
      left = c.begin_first.ensures.left ∙ sym c.begin_first.ensures.variables ∙ sym (left-none phase.variables drawn.len empty);
      stands = λ some.
          subst (λ n. SameRows (2 ^ n) p (phase_after e.ops (tables phase.variables) (map N drawn.items))) (sym c.begin_first.ensures.left)
          (subst (λ k. SameRows (2 ^ v) p (phase_after e.ops (tables k) (map N drawn.items))) (sym c.begin_first.ensures.variables)
          (subst (λ us. SameRows (2 ^ v) p (phase_after e.ops (tables v) us)) (sym (ap (map N) none))
          (first-after e.ops (tables v) p (omega (arith, some, c.begin_first.ensures.variables)) c.begin_first.ensures.rows)));
    }
