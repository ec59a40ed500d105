use Rattle.std.proofs.Common.{◌≡◌, ◌-◌, ◌/◌, ◌%◌, ◌^◌, ◌<◌, length, sym, ◌∙◌, ap, arith}
use Rattle.std.specs.Int.Bits.{bit_and}
use Rattle.std.proofs.lemmas.Nat.{and_mask}
use Rattle.sc_definitions.specs.Ring.{times}
use Rattle.sc_definitions.specs.Tables.{entries}
use Rattle.sc_definitions.proofs.LoopLaws.{entry-read}
use Rattle.sc_table.specs.Polys.{variables_of, table_of}
use Rattle.sc_table.specs.SplitEqs.{split_weight}
use Rattle.sc_table.proofs.SplitLaws.{high-digits, low-digits}
use Rattle.sc_table.proofs.split_eq.SplitEq.weight.Goals as goal

pub bounds-outer-a : goal.bounds-outer-a
bounds-outer-a g c =
    let s = c.args.self.now in
    let low : c.args.row / 2 ^ variables_of s.inner < 2 ^ variables_of s.outer =
    high-digits (variables_of s.outer) (variables_of s.inner) c.args.row c.requires in
    rw (c.num_variables.ensures, c.as_slice-outer.ensures.size) low

pub offset_bounds-outer-a : goal.offset_bounds-outer-a
offset_bounds-outer-a g c = omega (arith, bounds-outer-a g c)

pub returns : goal.returns
unfolding split_weight
returns g c =
    let f = g.EF.Field in
    let s = c.args.self.now in
    let row = c.args.row in
    let k = variables_of s.inner in
    let outer = c.as_slice-outer.result.now in
    let inner = c.as_slice-inner.result.now in
    let masked : bit_and row (length inner - 1) ≡ row % 2 ^ k = ap (λ n. bit_and row (n - 1)) c.as_slice-inner.ensures.size ∙ and_mask row k in
    let within : bit_and row (length inner - 1) < length inner = rw (masked, c.as_slice-inner.ensures.size) (low-digits k row) in
    let inside : row / 2 ^ c.num_variables.result < length outer =
    rw (c.num_variables.ensures, c.as_slice-outer.ensures.size) (high-digits (variables_of s.outer) k row c.requires) in
    let high = entry-read f.number outer (row / 2 ^ c.num_variables.result) c.index-outer-a.result inside c.index-outer-a.is in
    let low = entry-read f.number inner (bit_and row (length inner - 1)) c.index-inner-c.result within c.index-inner-c.is in
    c.mul.ensures
    ∙ ap (λ n. times f.ops n (f.number c.index-inner-c.result)) (sym high ∙ ap (λ n. entries f.number outer (row / 2 ^ n)) c.num_variables.ensures
    ∙ ap (λ t. t (row / 2 ^ k)) c.as_slice-outer.ensures.numbers)
    ∙ ap (times f.ops (table_of f.number s.outer (row / 2 ^ k))) (sym low ∙ ap (entries f.number inner) masked
    ∙ ap (λ t. t (row % 2 ^ k)) c.as_slice-inner.ensures.numbers)
