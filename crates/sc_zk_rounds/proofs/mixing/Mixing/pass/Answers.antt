use Rattle.std.proofs.Common.{suc, length, map, ◌++◌, [], ◌∷◌, ◌+◌, ◌≡◌, ◌∙◌, ap, sym, length-append, arith}
use Rattle.sc_zk_definitions.specs.Masks.{two_power, sum_of, endpoint, aux_after}
use Rattle.sc_zk_rounds.proofs.MixingLaws.{factor-less, ends-less, aux-less, rest-after, done-more}
use Rattle.sc_zk_rounds.proofs.mixing.Mixing.pass.Goals as goal

pub returns : goal.returns
returns g c = λ k rs later half_is next mixing.
    let e = g.EF.Field in
    let o = e.ops in
    let N = e.number in
    let ring = g.met.EF.Field.is_field.ring in
    let m = c.args.self in
    let mask = map N c.args.mask.now in
    let r = N c.args.r in
    let rest = rest-after o ring k half_is rs mask later next r in
    let more : length (rs ++ r ∷ []) ≡ length rs + 1 = length-append rs (r ∷ []) in
    record {
      half = mixing.half;
      factor = c.mul.ensures ∙ factor-less o ring k half_is rs mask later next (N m.factor) (N m.half) mixing.factor mixing.half
          ∙ sym (ap (λ ss. two_power o (length ss)) rest);
      done = c.add.ensures ∙ done-more o ring k half_is rs mask later next (N m.done) (N c.poly_at.result) r mixing.done c.poly_at.ensures;
      ends = c.sub.ensures ∙ ends-less o ring k half_is rs mask later next (N m.ends) (N c.endpoint_of.result) mixing.ends c.endpoint_of.ensures
          ∙ sym (ap (λ ss. sum_of o (map (endpoint o) ss)) rest);
      aux = c.mul-2.ensures ∙ aux-less o ring k half_is rs mask later next (N m.aux) (N m.half) mixing.aux mixing.half
          ∙ (let one : suc (length rs) ≡ length (rs ++ r ∷ []) = omega (arith, more) in ap (aux_after o k.half k.aux) one);
    }
