use Rattle.std.proofs.Common.{◌++◌, map, append_assoc, ◌∙◌, sym, subst}
use Rattle.std.proofs.lemmas.List.{length-map}
use Rattle.std.proofs.lemmas.Result.{on_ok_weaker}
use Rattle.sc_definitions.specs.Statements.{claims}
use Rattle.sc_layout.specs.Claimed.{prover_opened}
use Rattle.sc_layout.specs.Openings.{current_at, next_at}
use Rattle.sc_layout.specs.Scaled.{AreScaled}
use Rattle.sc_layout.proofs.scaled.ScaledClaims.push_opened.Goals as goal

pub returns : goal.returns
returns g c =
    let e = g.EF.Field in
    let x = prover_opened c.args.claim.now in
    on_ok_weaker c.push_all-2.result (λ second a ss before.
    subst (λ l. AreScaled e.ops e.number a l c.push_all-2.new.self) (append_assoc ss (map (claims (current_at x.point)) x.current) (map (claims (next_at x.point)) x.next))
    (second a (ss ++ map (claims (current_at x.point)) x.current) x.next (length-map c.args.claim.now.next (λ v. e.number v.eval) ∙ sym c.len-2.ensures)
    (c.in_ok-push_all.ensures a ss x.current (length-map c.args.claim.now.current (λ v. e.number v.eval) ∙ sym c.len.ensures) before)))
    c.push_all-2.ensures
