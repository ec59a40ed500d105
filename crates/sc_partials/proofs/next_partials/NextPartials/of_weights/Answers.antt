use Rattle.std.proofs.Common.{◌≡◌, ◌-◌, ◌^◌, ◌<◌, ◌++◌, [], ◌∷◌, take, length, ◌∙◌, refl, ap, sym, arith}
use Rattle.std.proofs.lemmas.Nat.{pow_pos}
use Rattle.sc_definitions.specs.Tables.{entries}
use Rattle.sc_table.proofs.EntryLaws.{entry-read}
use Rattle.sc_partials.proofs.NextTables.{done-rows, carry-rows, omega-rows, alone-as}
use Rattle.sc_partials.proofs.next_partials.NextPartials.of_weights.Goals as goal

pub returns : goal.returns
returns g c = λ x zs is.
    let e = g.EF.Field in
    let ring = g.met.EF.Field.is_field.ring in
    let weights = c.as_slice-weights.result.now in
    let n = length zs in
    let count : c.num_variables-variables.result ≡ n = c.num_variables-variables.ensures ∙ is.variables in
    let size : length weights ≡ 2 ^ n = c.as_slice-weights.ensures.size ∙ ap (λ k. 2 ^ k) is.variables in
    let last : length weights - 1 ≡ 2 ^ n - 1 = ap (λ k. k - 1) size in
    let inside : length weights - 1 < length weights = omega (arith, size, pow_pos n) in
    let read = entry-read e.number weights (length weights - 1) c.index-weights-last.result inside c.index-weights-last.is in
    let read_again = entry-read e.number weights (length weights - 1) c.index-weights-last-2.result inside c.index-weights-last-2.is in
    let same = c.as_slice-weights.ensures.numbers in
    let at = ap (entries e.number weights) (sym last) in
    let moved : c.extend_from_slice.new.self.items ≡ (c.ZERO.result ∷ []) ++ take (2 ^ n - 1) weights =
    c.in_ok-extend_from_slice.ensures.items ∙ ap (λ xs. xs ++ take (length weights - 1) weights) (c.in_ok-push.ensures.items ∙ ap (λ xs. xs ++ c.ZERO.result ∷ []) c.in_ok-moved.ensures.items)
    ∙ ap (λ k. (c.ZERO.result ∷ []) ++ take k weights) last in
    record {
      done = done-rows e.ops ring e.number x zs c.args.equal.now weights c.index-weights-last.result is same (at ∙ read) c.ZERO.result _ c.new.result
          (ap e.number c.ZERO.ensures ∙ g.met.EF.Field.zero_is) moved size c.new.ensures.size c.new.ensures.table;
      carry = carry-rows e.ops ring e.number x zs c.args.equal.now weights c.index-weights-last.result is same (at ∙ read) c.in_ok-alone.field-0
          (alone-as e.number c.num_variables-variables.result n 0 0 c.index-weights-last.result c.in_ok-alone.field-0 count refl c.in_ok-alone.ensures);
      omega = omega-rows e.ops ring e.number x zs c.args.equal.now weights c.index-weights-last-2.result is same (at ∙ read_again) c.in_ok-alone-2.field-0
          (alone-as e.number c.num_variables-variables.result n (length weights - 1) (2 ^ n - 1) c.index-weights-last-2.result c.in_ok-alone-2.field-0 count last c.in_ok-alone-2.ensures);
    }
