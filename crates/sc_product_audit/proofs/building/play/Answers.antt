use Rattle.std.proofs.Common.{◌<◌, Err, map, ◌∙◌, subst}
use Rattle.std.proofs.lemmas.List.Elements.{All-map}
use Rattle.sc_definitions.specs.Channels.{channel}
use Rattle.sc_degree.specs.Proofs.{proof_wire}
use Rattle.sc_degree.specs.Provers.{LeavesPlay, EndsPlay}
use Rattle.sc_degree.specs.Products.{prover_of, tables_of, product_arity}
use Rattle.sc_product_audit.specs.ProductCases.{ProductCase}
use Rattle.sc_product_audit.specs.ProductPlays.{case_at}
use Rattle.sc_product_audit.proofs.ProductRoundLaws.{prover_for, built-played, built-refused, passed_on, play-is}
use Rattle.sc_product_audit.proofs.building.play.Goals as goal

-- a play that was refused
pub returns-in_err-proof : goal.returns-in_err-proof
returns-in_err-proof g c =
    let e = g.EF.Field in
    let k : ProductCase = case_at e.ops e.number c.args.product
    (channel (g.C.Challenger.party c.args.challenger.now).rules g.EF.ExtensionField.extension g.F.Field.ops.size c.args.pow_bits) (g.C.Challenger.party c.args.challenger.now).history in
    let after = prover_of e.ops (tables_of e.number c.prove.new.self) (product_arity c.prove.new.self) in
    let same = play-is k c.in_ok-copied.ensures.rules c.in_ok-copied.ensures.history c.num_variables-variables.ensures c.degree-degree.ensures c.requires.sum in
    passed_on k g.F.Field.number e.number _ c.in_err-proof.field-0.0 c.from_residual-in_err-proof.ensures.1
    (built-refused k g.F.Field.number e.number after c.in_err-proof.field-0.0 (g.C.Challenger.party c.prove.new.challenger).history
    (subst (λ p. LeavesPlay g.F.Field.number e.number p (prover_for k) after (Err c.in_err-proof.field-0.0) (g.C.Challenger.party c.prove.new.challenger).history) same c.in_err-proof.ensures.left))

pub returns : goal.returns
returns g c =
    let e = g.EF.Field in
    let k : ProductCase = case_at e.ops e.number c.args.product
    (channel (g.C.Challenger.party c.args.challenger.now).rules g.EF.ExtensionField.extension g.F.Field.ops.size c.args.pow_bits) (g.C.Challenger.party c.args.challenger.now).history in
    let after = prover_of e.ops (tables_of e.number c.prove.new.self) (product_arity c.prove.new.self) in
    let same = play-is k c.in_ok-copied.ensures.rules c.in_ok-copied.ensures.history c.num_variables-variables.ensures c.degree-degree.ensures c.requires.sum in
    let came = proof_wire g.F.Field.number e.number c.in_ok-proof.proof in
    built-played k g.met.EF.Field.is_field.ring (tables_of e.number c.prove.new.self) (product_arity c.prove.new.self) came (map e.number c.in_ok-proof.field-0-1)
    (g.C.Challenger.party c.prove.new.challenger).history (e.number c.in_ok-proof.proof.claimed_sum) (e.number c.sum.result)
    (c.in_ok-proof.ensures.left.0 ∙ c.requires.sum)
    (All-map (λ n. n < g.F.Field.ops.size) g.F.Field.number _ (λ j d low. g.met.F.Field.number_below _)) c.sum.ensures
    (subst (λ p. EndsPlay p (prover_for k) after came (map e.number c.in_ok-proof.field-0-1) (g.C.Challenger.party c.prove.new.challenger).history) same c.in_ok-proof.ensures.left.1)
