use Rattle.std.proofs.Common.{◌≡◌, length, map, ◌∙◌, ap, sym}
use Rattle.std.proofs.lemmas.List.{length-map}
use Rattle.sc_definitions.specs.Ring.{power, plus}
use Rattle.sc_zk_definitions.specs.Masks.{sum_of, endpoint, two_power}
use Rattle.sc_zk_definitions.proofs.MaskedLaws.{masks_at-none}
use Rattle.sc_zk_rounds.proofs.MixingLaws.{aux-first}
use Rattle.sc_zk_rounds.proofs.mixing.Mixing.new.Goals as goal

pub returns : goal.returns
returns g c = λ k masks_is half_is aux_is.
    let e = g.EF.Field in
    let o = e.ops in
    let N = e.number in
    let ring = g.met.EF.Field.is_field.ring in
    let two : N c.TWO.result ≡ plus o 1 1 = ap N c.TWO.ensures ∙ g.met.EF.Field.two_is in
    let size : length c.args.masks.now ≡ length k.masks = sym (ap length masks_is ∙ length-map _ _) in
    record {
      half = sym half_is;
      factor = c.exp_u64.ensures ∙ ap (λ t. power o t (length c.args.masks.now)) two ∙ ap (two_power o) size;
      done = ap N c.ZERO.ensures ∙ g.met.EF.Field.zero_is ∙ sym (masks_at-none o ring k.masks);
      ends = c.all_endpoints.ensures ∙ sym (ap (λ ss. sum_of o (map (endpoint o) ss)) masks_is);
      aux = aux-first o ring k.half k.aux (N c.args.aux) aux_is (g.met.EF.Field.number_below c.args.aux);
    }
