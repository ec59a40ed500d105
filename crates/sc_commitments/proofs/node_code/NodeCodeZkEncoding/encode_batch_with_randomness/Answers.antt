use Rattle.std.proofs.Common.{◌≡◌, ◌++◌, ◌*◌, length, map, ap, refl, ◌∙◌, arith}
use Rattle.sc_commitments.specs.Matrices.{lists_in}
use Rattle.sc_commitments.specs.Codes.{values_at}
use Rattle.sc_commitments.proofs.CodeLaws.{rows-push, length-joined_lists, length-node_values}
use Rattle.sc_commitments.proofs.node_code.NodeCodeZkEncoding.encode_batch_with_randomness.Goals as goal

-- one node more
pub loop-z-preserved : goal.loop-z-preserved
loop-z-preserved g c =
    let f = g.EF.Field in
    let polynomials = lists_in f.number c.in_ok-polynomials.polynomials.items in
    rows-push (values_at f.ops polynomials) c.loop-z.z (map f.number c.loop-z.values.items) (map f.number c.push_values.new.values.items)
    (c.in_ok-push_values.ensures ∙ ap (λ vs. map f.number c.loop-z.values.items ++ values_at f.ops (lists_in f.number vs) (f.number c.interpolation_node.result)) c.deref.ensures.value
    ∙ ap (λ x. map f.number c.loop-z.values.items ++ values_at f.ops polynomials x) c.interpolation_node.ensures)
    c.loop-z.invariant

-- a row for each node, a column for each message
pub returns-clause-shape : goal.returns-clause-shape
returns-clause-shape g c =
    let f = g.EF.Field in
    let polynomials = lists_in f.number c.in_ok-polynomials.polynomials.items in
    let all : c.loop-z.z ≡ c.args.self.now.codeword_len = omega (arith, c.loop-z-test.false, c.loop-z.auto.z-end) in
    let columns : length polynomials ≡ length c.args.messages.now =
    ap length c.in_ok-polynomials.ensures ∙ length-joined_lists f.number c.args.messages.now c.args.randomness.now c.requires.same in (
      refl,
      ap (λ vs. length (map f.number vs)) c.new.ensures ∙ ap length c.loop-z.invariant ∙ length-node_values f.ops polynomials c.loop-z.z
          ∙ ap (λ n. n * length polynomials) all ∙ ap (λ n. c.args.self.now.codeword_len * n) columns,
    )
