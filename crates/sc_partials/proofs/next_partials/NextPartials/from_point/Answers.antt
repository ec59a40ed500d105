use Rattle.std.proofs.Common.{◌≡◌, ◌^◌, ◌<◌, length, map, ◌∙◌, ap, sym, subst}
use Rattle.std.proofs.lemmas.List.{length-map}
use Rattle.std.proofs.lemmas.Result.{IfOk-weaker}
use Rattle.sc_definitions.specs.Ring.{times}
use Rattle.sc_definitions.specs.Tables.{equality_weight}
use Rattle.sc_definitions.specs.Parts.{Equal, part_weight}
use Rattle.sc_definitions.proofs.PartLaws.{part-equal}
use Rattle.sc_partials.specs.NextPartials.{HasRows}
use Rattle.sc_partials.proofs.NextTables.{parts-once}
use Rattle.sc_partials.proofs.next_partials.NextPartials.from_point.Goals as goal

pub returns : goal.returns
returns g c =
    let e = g.EF.Field in
    let zs = map e.number c.args.z.now in
    let size : length zs ≡ length c.args.z.now = length-map c.args.z.now e.number in
    let one = ap e.number c.ONE.ensures ∙ g.met.EF.Field.one_is in
    let has : HasRows e.number (length zs) (λ b. times e.ops 1 (part_weight e.ops Equal zs b)) c.in_ok-equal.equal = record {
      variables = c.in_ok-equal.ensures.variables ∙ sym size;
      rows = λ a low. c.in_ok-equal.ensures.table a (subst (λ k. a < 2 ^ k) size low)
          ∙ ap (λ k. times e.ops k (equality_weight e.ops zs a)) one ∙ ap (times e.ops 1) (sym (part-equal e.ops zs a));
    } in
    IfOk-weaker c.of_weights.result _ _ (λ p rows. parts-once e.ops g.met.EF.Field.is_field.ring e.number zs (length c.args.z.now) p size rows) (c.of_weights.ensures 1 zs has)
