use Rattle.std.proofs.Common.{◌≡◌, ◌+◌, ◌<◌, ◌++◌, ◌∷◌, [], map, drop, length, sym, ap, ◌∙◌, arith}
use Rattle.std.proofs.lemmas.List.{drop_all, drop_more, length-map}
use Rattle.sc_definitions.specs.Ring.{plus, minus, times}
use Rattle.sc_definitions.specs.Polynomials.{poly_at}
use Rattle.sc_definitions.proofs.RingLaws.{element-small, times_comm}
use Rattle.sc_definitions.proofs.FindLaws.{drop-next}
use Rattle.sc_zk_definitions.specs.Masks.{piece, sum_of}
use Rattle.sc_zk_definitions.specs.Explained.{half_of, unmixing, explained_mask, explained_masks, first_endpoint}
use Rattle.sc_commitments.specs.Matrices.{numbers_in, lists_in}
use Rattle.sc_zk_views.specs.Sums.{AreMaskSums}
use Rattle.sc_zk_views.specs.Views.{pieces_in, rows_in}
use Rattle.sc_zk_views.proofs.SumLaws.{base-same, sums-same, sum-first}
use Rattle.sc_zk_views.proofs.RoundLaws.{mask-more, no-masks, none-left}
use Rattle.sc_zk_views.proofs.ViewLaws.{first-endpoint-is}
use Rattle.sc_zk_views.proofs.explain.explained_masks.Goals as goal

pub new-sums-requires-clause-step : goal.new-sums-requires-clause-step
new-sums-requires-clause-step g c =
    let o = g.EF.Field.ops in
    let N = g.EF.Field.number in
    ap (times o (N c.one_half-half.result)) (ap N c.TWO.ensures ∙ g.met.EF.Field.two_is)
    ∙ times_comm o g.met.EF.Field.is_field.ring (N c.one_half-half.result) _ ∙ c.one_half-half.ensures.half

pub loop-i-init : goal.loop-i-init
loop-i-init g c =
    let o = g.EF.Field.ops in
    let N = g.EF.Field.number in
    let ring = g.met.EF.Field.is_field.ring in
    let others = map N c.args.endpoints.now in
    let es = N c.sub-first.result ∷ others in
    let gs = map N c.args.gammas.now in
    let ps = pieces_in N c.args.plain.now in
    let ws = rows_in N c.as_slice-wires.result.now in
    let u = unmixing (half_of o) (N c.args.eps) in
    let first : N c.sub-first.result ≡ minus o (N c.mul-all.result) (sum_of o others) = c.sub-first.ensures ∙ ap (minus o (N c.mul-all.result)) c.sum.ensures in
    let all : N c.mul-all.result ≡ sum_of o es =
    sum-first o ring (N c.mul-all.result) others (element-small o ring (N c.mul-all.result) (g.met.EF.Field.number_below c.mul-all.result))
    ∙ ap (λ f. sum_of o (f ∷ others)) (sym first) in
    let count : length c.as_slice-wires.result.now ≡ length es =
    omega (arith, ap length c.as_slice-wires.ensures, c.requires.fit.ends, length-map c.args.endpoints.now N) in
    record {
      so_far = ap (λ l. lists_in N l ++ explained_masks o u (N c.new-sums.result.done) es gs ps ws) c.new-masks.ensures.items
          ∙ ap (λ d. explained_masks o u d es gs ps ws) c.new-sums.ensures.done;
      known = base-same o N (N c.one_half-half.result) (half_of o) c.new-sums.result es c.one_half-half.ensures.number (c.new-sums.ensures.sums es count all);
    }

pub loop-i-preserved : goal.loop-i-preserved
loop-i-preserved g c =
    let o = g.EF.Field.ops in
    let N = g.EF.Field.number in
    let i = c.loop-i.i in
    let wires = c.as_slice-wires.result.now in
    let es = N c.sub-first.result ∷ map N c.args.endpoints.now in
    let p = c.index-plain-i.result in
    let r = N c.index-gammas-i.result in
    let end = N c.endpoint_at-end.result in
    let mask = numbers_in N c.in_ok-mask.mask in
    let row = map N c.index-wires-i.result in
    let u = unmixing (half_of o) (N c.args.eps) in
    let later = drop (i + 1) es in
    let inside : i < length wires = c.loop-i-test.true in
    let size : length wires ≡ length c.args.view.now.wires = ap length c.as_slice-wires.ensures in
    let next : drop i es ≡ end ∷ later =
    drop_more es i 0 (omega (arith, inside, size, c.requires.fit.ends, length-map c.args.endpoints.now N)) ∙ ap (λ e. e ∷ later) (sym c.endpoint_at-end.ensures) in
    let next_r = drop-next N c.args.gammas.now i c.index-gammas-i.result (omega (arith, inside, size, c.requires.fit.challenges)) c.index-gammas-i.is in
    let next_p = drop-next (λ q. piece (N q.c0) (N q.c_inf)) c.args.plain.now i p (omega (arith, inside, size, c.requires.fit.pieces)) c.index-plain-i.is in
    let next_w = drop-next (map N) wires i c.index-wires-i.result inside c.index-wires-i.is in
    let known : AreMaskSums o N (half_of o) later c.without-sums.result =
    c.without-sums.ensures.sums (half_of o) later (sums-same o N (half_of o) c.loop-i.sums _ _ next c.loop-i.invariant.known) in
    let made : mask ≡ explained_mask o u (N c.loop-i.sums.done) end later (piece (N p.c0) (N p.c_inf)) row =
    c.in_ok-mask.ensures later known
    ∙ ap (λ d. explained_mask o u d end later (piece (N p.c0) (N p.c_inf)) (map N c.as_slice.result.now)) c.without-sums.ensures.done
    ∙ ap (λ l. explained_mask o u (N c.loop-i.sums.done) end later (piece (N p.c0) (N p.c_inf)) (map N l)) c.as_slice.ensures in
    let done : N c.past-sums.result.done ≡ plus o (N c.loop-i.sums.done) (poly_at o mask r) =
    c.past-sums.ensures.done ∙ ap (λ d. plus o d (poly_at o (map N c.deref.result.now) r)) c.without-sums.ensures.done
    ∙ ap (λ l. plus o (N c.loop-i.sums.done) (poly_at o (map N l) r)) c.deref.ensures.value in
    record {
      so_far = mask-more o u (numbers_in N) (N c.loop-i.sums.done) (N c.past-sums.result.done) _ _ _ _ _ _ _ _ end r (piece (N p.c0) (N p.c_inf)) row
          c.loop-i.masks.items _ c.in_ok-mask.mask _ next next_r next_p next_w c.in_ok-push.ensures.items made done c.loop-i.invariant.so_far;
      known = c.past-sums.ensures.sums (half_of o) later known;
    }

pub returns : goal.returns
returns g c =
    let o = g.EF.Field.ops in
    let N = g.EF.Field.number in
    let others = map N c.args.endpoints.now in
    let gs = map N c.args.gammas.now in
    let ps = pieces_in N c.args.plain.now in
    let u = unmixing (half_of o) (N c.args.eps) in
    let es = N c.sub-first.result ∷ others in
    let size : length c.as_slice-wires.result.now ≡ length c.args.view.now.wires = ap length c.as_slice-wires.ensures in
    let none : drop c.loop-i.i es ≡ [] =
    drop_all c.loop-i.i es (omega (arith, size, c.requires.fit.ends, length-map c.args.endpoints.now N, c.loop-i-test.false)) in
    none-left _ _ _ (no-masks o u (N c.loop-i.sums.done) _ _ _ _ none) c.loop-i.invariant.so_far
    ∙ ap (λ f. explained_masks o u 0 (f ∷ others) gs ps (rows_in N c.as_slice-wires.result.now))
    (first-endpoint-is o N (half_of o) (N c.args.view.now.mu_tilde) (N c.sub-first.result) (N c.mul-all.result) (N c.sum.result) (N c.exp_u64.result) (N c.one_half-half.result)
    c.args.endpoints.now c.sub-first.ensures c.mul-all.ensures c.exp_u64.ensures c.one_half-half.ensures.number c.sum.ensures)
    ∙ ap (λ rows. explained_masks o u 0 (first_endpoint o (half_of o) (N c.args.view.now.mu_tilde) others ∷ others) gs ps (rows_in N rows)) c.as_slice-wires.ensures
