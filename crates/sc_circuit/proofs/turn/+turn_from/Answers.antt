use Rattle.std.proofs.Common.{◌≡◌, ℕ, suc, ◌+◌, ◌-◌, ◌<◌, ◌≤◌, List, [], ◌∷◌, All, length, map, take, drop, sym, ◌∙◌, ap, subst, arith}
use Rattle.std.specs.Prelude.{Option, IfOk, option_map}
use Rattle.std.proofs.lemmas.List.{length-map, nil_from_length}
use Rattle.sc_definitions.specs.Interpolation.{node_values, sent_through, next_through}
use Rattle.sc_definitions.specs.Polynomials.{poly_minus}
use Rattle.sc_definitions.specs.Lucky.{Turn, first_turn}
use Rattle.sc_degree.specs.Interpolators.{degree_of}
use Rattle.sc_degree.specs.Turns.{messages_in, product_turn}
use Rattle.sc_degree.specs.Provers.{Prover}
use Rattle.sc_degree.proofs.PlayLaws.{sent_width}
use Rattle.sc_circuit.specs.Turns.{course_by}
use Rattle.sc_circuit.proofs.LayersLaws.{first-of}
use Rattle.sc_circuit.proofs.TurnLaws.{folded-turn, turn-none, turn-here, turn-later, true-next, true-sent}
use Rattle.sc_circuit.proofs.turn.+turn_from.Goals as goal

pub returns-in_default : goal.returns-in_default
returns-in_default g t c =
    let N = g.EF.Field.number in
    let none = nil_from_length c.args.left.messages.now (omega (arith, c.in_default.len_below)) in
    sym (turn-none (course_by g.EF.Field.ops (g.P.RoundProver.meaning c.args.prover.now)) c.args.left.first (N c.args.claim) (messages_in N c.args.left.messages.now) [] (map N c.args.left.challenges.now)
    (ap (messages_in N) none))

pub eval-next_truth-requires : goal.eval-next_truth-requires
eval-next_truth-requires g t c =
    ap length c.as_slice.ensures.value ∙ sent_width g.EF.Field.number g.EF.Field.ops _ _ _ c.in_ok-honest.ensures ∙ c.requires.degree

pub excess-requires-clause-honest : goal.excess-requires-clause-honest
excess-requires-clause-honest g t c =
    ap length c.as_slice-then-index.ensures.value ∙ sent_width g.EF.Field.number g.EF.Field.ops _ _ _ c.in_ok-honest.ensures ∙ c.requires.degree

pub returns-then-index : goal.returns-then-index
returns-then-index g t c =
    let N = g.EF.Field.number in
    let o = g.EF.Field.ops in
    let field = g.met.EF.Field.is_field in
    let p : Prover = g.P.RoundProver.meaning c.args.prover.now in
    let tied = g.met.P.RoundProver.tied c.args.prover.now in
    let v = c.values-item.result in
    let x = c.r-item.result in
    let ms = c.args.left.messages.now in
    let rs = c.args.left.challenges.now in
    let M = take (length ms - 1) (drop 1 ms) in
    let R = take (length rs - 1) (drop 1 rs) in
    let split_ms = first-of ms v c.in-len1-up.len_at_least c.values-item.is in
    let split_rs = first-of rs x c.in-len1-up-challenges.len_at_least c.r-item.is in
    let d = p.degree - 1 in
    let degree : p.degree ≡ suc d = omega (arith, c.requires.some, c.requires.degree) in
    let few : suc d < o.size = omega (arith, degree, c.requires.degree, c.requires.nodes) in
    let some : 0 < p.variables = omega (arith, c.in-len1-up.len_at_least, c.requires.variables) in
    let honest : map N c.in_ok-honest.honest.items ≡ node_values o (suc d) (p.polynomial []) = c.in_ok-honest.ensures ∙ ap (λ n. node_values o n (p.polynomial [])) degree in
    let claim = N c.args.claim in
    let truth = N c.args.truth in
    let next : N c.eval-next.result ≡ next_through o claim (map N v.items) (N x) =
    c.eval-next.ensures ∙ ap (λ l. next_through o claim (map N l) (N x)) c.deref.ensures.value in
    let due : N c.eval-next_truth.result ≡ p.claim (N x ∷ []) =
    c.eval-next_truth.ensures ∙ ap (λ l. next_through o truth (map N l) (N x)) c.as_slice.ensures.value ∙ ap (λ l. next_through o truth l (N x)) honest
    ∙ true-next o field p tied d degree few some truth c.requires.truth (N x) in
    let same : next_through o claim (map N v.items) (N x) ≡ p.claim (N x ∷ []) =
    sym next ∙ sym c.index.ensures ∙ c.if-index.true ∙ c.index-2.ensures ∙ due in
    let polynomial : map N c.in_ok-polynomial.polynomial ≡ poly_minus o (sent_through o claim (map N v.items)) (p.polynomial []) =
    c.in_ok-polynomial.ensures
    ∙ ap (λ l. poly_minus o (sent_through o claim (map N l)) (sent_through o truth (map N c.as_slice-then-index.result.now))) c.deref-then-index.ensures.value
    ∙ ap (λ l. poly_minus o (sent_through o claim (map N v.items)) (sent_through o truth (map N l))) c.as_slice-then-index.ensures.value
    ∙ ap (λ l. poly_minus o (sent_through o claim (map N v.items)) (sent_through o truth l)) honest
    ∙ true-sent o field p tied d degree few some truth c.requires.truth (sent_through o claim (map N v.items)) in
    turn-here o p c.args.left.first claim (N x) (map N v.items) (messages_in N M) (map N R) (map N c.in_ok-polynomial.polynomial) same polynomial
    ∙ sym (ap (λ l. first_turn (course_by o p) c.args.left.first claim (messages_in N l) [] (map N rs)) split_ms
    ∙ ap (λ l. first_turn (course_by o p) c.args.left.first claim (map N v.items ∷ messages_in N M) [] (map N l)) split_rs)

pub turn_from-requires : goal.turn_from-requires
turn_from-requires g t c κs within =
    let N = g.EF.Field.number in
    let o = g.EF.Field.ops in
    let field = g.met.EF.Field.is_field in
    let p : Prover = g.P.RoundProver.meaning c.args.prover.now in
    let tied = g.met.P.RoundProver.tied c.args.prover.now in
    let folded = c.fold.ensures in
    let v = c.values-item.result in
    let x = c.r-item.result in
    let ms = c.args.left.messages.now in
    let rs = c.args.left.challenges.now in
    let n = degree_of c.args.nodes.now in
    let split_ms = first-of ms v c.in-len1-up.len_at_least c.values-item.is in
    let split_rs = first-of rs x c.in-len1-up-challenges.len_at_least c.r-item.is in
    let M = take (length ms - 1) (drop 1 ms) in
    let R = take (length rs - 1) (drop 1 rs) in
    let ms_len : length ms ≡ length (v ∷ M) = ap length split_ms in
    let rs_len : length rs ≡ length (x ∷ R) = ap length split_rs in
    let d = p.degree - 1 in
    let degree : p.degree ≡ suc d = omega (arith, c.requires.some, c.requires.degree) in
    let few : suc d < o.size = omega (arith, degree, c.requires.degree, c.requires.nodes) in
    let some : 0 < p.variables = omega (arith, c.in-len1-up.len_at_least, c.requires.variables) in
    let honest : map N c.in_ok-honest.honest.items ≡ node_values o (suc d) (p.polynomial []) = c.in_ok-honest.ensures ∙ ap (λ n. node_values o n (p.polynomial [])) degree in
    let truth = N c.args.truth in
    let due : N c.eval-next_truth.result ≡ p.claim (N x ∷ []) =
    c.eval-next_truth.ensures ∙ ap (λ l. next_through o truth (map N l) (N x)) c.as_slice.ensures.value ∙ ap (λ l. next_through o truth l (N x)) honest
    ∙ true-next o field p tied d degree few some truth c.requires.truth (N x) in
    let widths : All (λ m. length m.items ≡ n) (v ∷ M) = subst (All (λ m. length m.items ≡ n)) split_ms c.requires.widths in (
      omega (arith, c.decreases, ms_len),
      (
        within.0,
        (
          within.1,
          (
            folded.degree ∙ c.requires.degree,
            (
              c.requires.some,
              (
                c.requires.nodes,
                (
                  omega (arith, folded.variables, ms_len, c.requires.variables),
                  (
                    omega (arith, ms_len, rs_len, c.requires.count),
                    ((λ k e low. widths (suc k) e (omega (arith, low))), (omega (arith, ms_len, c.requires.few), due ∙ sym (folded.claim [] (omega arith)))),
                  ),
                ),
              ),
            ),
          ),
        ),
      ),
    )

pub returns : goal.returns
returns g t c =
    let N = g.EF.Field.number in
    let o = g.EF.Field.ops in
    let field = g.met.EF.Field.is_field in
    let p : Prover = g.P.RoundProver.meaning c.args.prover.now in
    let s : Prover = g.P.RoundProver.meaning c.fold.new.self in
    let tied = g.met.P.RoundProver.tied c.args.prover.now in
    let folded = c.fold.ensures in
    let v = c.values-item.result in
    let x = c.r-item.result in
    let ms = c.args.left.messages.now in
    let rs = c.args.left.challenges.now in
    let M = take (length ms - 1) (drop 1 ms) in
    let R = take (length rs - 1) (drop 1 rs) in
    let split_ms = first-of ms v c.in-len1-up.len_at_least c.values-item.is in
    let split_rs = first-of rs x c.in-len1-up-challenges.len_at_least c.r-item.is in
    let ms_len : length ms ≡ length (v ∷ M) = ap length split_ms in
    let d = p.degree - 1 in
    let degree : p.degree ≡ suc d = omega (arith, c.requires.some, c.requires.degree) in
    let few : suc d < o.size = omega (arith, degree, c.requires.degree, c.requires.nodes) in
    let some : 0 < p.variables = omega (arith, c.in-len1-up.len_at_least, c.requires.variables) in
    let honest : map N c.in_ok-honest.honest.items ≡ node_values o (suc d) (p.polynomial []) = c.in_ok-honest.ensures ∙ ap (λ n. node_values o n (p.polynomial [])) degree in
    let claim = N c.args.claim in
    let truth = N c.args.truth in
    let i = c.args.left.first in
    let next : N c.eval-next.result ≡ next_through o claim (map N v.items) (N x) =
    c.eval-next.ensures ∙ ap (λ l. next_through o claim (map N l) (N x)) c.deref.ensures.value in
    let due : N c.eval-next_truth.result ≡ p.claim (N x ∷ []) =
    c.eval-next_truth.ensures ∙ ap (λ l. next_through o truth (map N l) (N x)) c.as_slice.ensures.value ∙ ap (λ l. next_through o truth l (N x)) honest
    ∙ true-next o field p tied d degree few some truth c.requires.truth (N x) in
    let other : next_through o claim (map N v.items) (N x) ≡ p.claim (N x ∷ []) → ⊥ =
    λ same. c.if-index.false (c.index.ensures ∙ next ∙ same ∙ sym due ∙ sym c.index-2.ensures) in
    let messages = messages_in N M in
    let count : length messages ≡ length M = length-map M (λ m. map N m.items) in
    let nil : List ℕ = [] in
    let fits : length nil + length messages ≤ s.variables = omega (arith, count, ms_len, folded.variables, c.requires.variables) in
    let whole : first_turn (course_by o s) (i + 1) (N c.eval-next.result) messages [] (map N R)
    ≡ first_turn (course_by o p) i claim (messages_in N ms) [] (map N rs) =
    folded-turn o (N x ∷ []) p s folded (i + 1) (N c.eval-next.result) messages [] (map N R) fits
    ∙ ap (λ n. first_turn (course_by o p) (i + 1) n messages (N x ∷ []) (map N R)) next
    ∙ sym (turn-later o p i claim (N x) (map N v.items) messages (map N R) other)
    ∙ sym (ap (λ l. first_turn (course_by o p) i claim (messages_in N l) [] (map N rs)) split_ms
    ∙ ap (λ l. first_turn (course_by o p) i claim (map N v.items ∷ messages) [] (map N l)) split_rs) in
    subst (λ (turn : Option Turn). IfOk c.turn_from.result (λ found. option_map (product_turn N) found ≡ turn)) whole c.turn_from.ensures
