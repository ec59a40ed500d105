use Rattle.std.proofs.Common.{◌≡◌, ◌+◌, ◌<◌, ◌∷◌, [], map, drop, length, sym, ap, ◌∙◌, arith}
use Rattle.std.proofs.lemmas.List.{drop_all, length-map}
use Rattle.sc_definitions.specs.Ring.{plus}
use Rattle.sc_definitions.specs.Polynomials.{poly_at}
use Rattle.sc_definitions.proofs.FindLaws.{drop-next}
use Rattle.sc_zk_definitions.specs.Masks.{endpoint, masked_round, piece, wire_of}
use Rattle.sc_commitments.specs.Matrices.{numbers_in, lists_in}
use Rattle.sc_zk_views.specs.Sums.{AreMaskSums}
use Rattle.sc_zk_views.proofs.SumLaws.{sums-same}
use Rattle.sc_zk_views.proofs.RoundLaws.{wire-more, no-wires, none-left}
use Rattle.sc_zk_views.proofs.assemble.all_wires.Goals as goal

pub loop-i-preserved : goal.loop-i-preserved
loop-i-preserved g c =
    let o = g.EF.Field.ops in
    let N = g.EF.Field.number in
    let i = c.loop-i.i in
    let ss = lists_in N c.args.masks.now in
    let mask = c.index-masks-i.result in
    let p = c.index-plain-i.result in
    let r = N c.index-gammas-i.result in
    let later = map (endpoint o) (drop (i + 1) ss) in
    let inside : i < length c.args.masks.now = c.loop-i-test.true in
    let next : drop i ss ≡ numbers_in N mask ∷ drop (i + 1) ss = drop-next (numbers_in N) c.args.masks.now i mask inside c.index-masks-i.is in
    let next_r = drop-next N c.args.gammas.now i c.index-gammas-i.result (omega (arith, inside, c.requires.fit.challenges)) c.index-gammas-i.is in
    let next_p = drop-next (λ q. piece (N q.c0) (N q.c_inf)) c.args.plain.now i p (omega (arith, inside, c.requires.fit.pieces)) c.index-plain-i.is in
    let end : N c.endpoint_of.result ≡ endpoint o (numbers_in N mask) = c.endpoint_of.ensures ∙ ap (λ l. endpoint o (map N l)) c.deref.ensures.value in
    let known : AreMaskSums o N (plus o 1 1) later c.without-sums.result =
    c.without-sums.ensures.sums (plus o 1 1) later
    (sums-same o N (plus o 1 1) c.loop-i.sums _ _ (ap (map (endpoint o)) next ∙ ap (λ e. e ∷ later) (sym end)) c.loop-i.invariant.known) in
    let wire : map N c.new.result ≡ wire_of (masked_round o (N c.args.eps) (N c.loop-i.sums.done) (numbers_in N mask) later (piece (N p.c0) (N p.c_inf))) =
    ap (map N) c.new.ensures ∙ c.in_ok-wire.ensures later known
    ∙ ap (λ d. wire_of (masked_round o (N c.args.eps) d (map N c.deref-in-loop-i.result.now) later (piece (N p.c0) (N p.c_inf)))) c.without-sums.ensures.done
    ∙ ap (λ l. wire_of (masked_round o (N c.args.eps) (N c.loop-i.sums.done) (map N l) later (piece (N p.c0) (N p.c_inf)))) c.deref-in-loop-i.ensures.value in
    let done : N c.past-sums.result.done ≡ plus o (N c.loop-i.sums.done) (poly_at o (numbers_in N mask) r) =
    c.past-sums.ensures.done ∙ ap (λ d. plus o d (poly_at o (map N c.deref-in-loop-i-2.result.now) r)) c.without-sums.ensures.done
    ∙ ap (λ l. plus o (N c.loop-i.sums.done) (poly_at o (map N l) r)) c.deref-in-loop-i-2.ensures.value in
    record {
      so_far = wire-more o (map N) (N c.args.eps) (N c.loop-i.sums.done) (N c.past-sums.result.done) _ _ _ _ _ _ (numbers_in N mask) r (piece (N p.c0) (N p.c_inf))
          c.loop-i.wires.items _ c.new.result _ next next_r next_p c.in_ok-push.ensures.items wire done c.loop-i.invariant.so_far;
      known = c.past-sums.ensures.sums (plus o 1 1) later known;
    }

pub returns : goal.returns
returns g c =
    let o = g.EF.Field.ops in
    let N = g.EF.Field.number in
    let masks = c.args.masks.now in
    let none : drop c.loop-i.i (lists_in N masks) ≡ [] = drop_all c.loop-i.i (lists_in N masks) (omega (arith, length-map masks (numbers_in N), c.loop-i-test.false)) in
    none-left _ _ _ (no-wires o (N c.args.eps) (N c.loop-i.sums.done) _ _ _ none) c.loop-i.invariant.so_far
