use Rattle.std.proofs.Common.{◌+◌, ◌*◌, ◌∙◌, ap}
use Rattle.sc_small_fields.proofs.PairLaws.{index_pair}
use Rattle.sc_small_fields.proofs.f257x2.F257x2Field.index.Goals as goal

pub returns : goal.returns
returns c =
    let x = c.args.self in
    ap (λ n. n + 257 * c.index-2.result) c.index.ensures ∙ ap (λ n. x.low.value + 257 * n) c.index-2.ensures
    ∙ index_pair x.low.value x.high.value
