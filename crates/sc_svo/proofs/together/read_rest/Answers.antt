use Rattle.std.proofs.Common.{◌+◌, ◌*◌, length, ◌∙◌, ap, sym, arith}
use Rattle.sc_definitions.specs.Tables.{entries}
use Rattle.sc_table.specs.Strategy.{order_of}
use Rattle.sc_svo.specs.Grids.{row_at}
use Rattle.sc_svo.proofs.NextPointLaws.{row-within}
use Rattle.sc_svo.proofs.TogetherLaws.{chunk-within, chunk-fits}
use Rattle.sc_svo.proofs.together.read_rest.Goals as goal

pub read_every-requires : goal.read_every-requires
read_every-requires g c = λ a low.
    let s = c.requires.sizes in
    row-within s.0 s.1 _ _ (length c.args.table.now) a c.args.rest s.2 s.3 s.4 low c.requires.low

pub overflow_mul-rest : goal.overflow_mul-rest
overflow_mul-rest g c =
    let s = c.requires.sizes in
    let most = chunk-fits s.0 s.1 _ _ (length c.args.table.now) c.args.rest s.2 s.3 s.4 s.5 c.requires.low in
    omega (arith, most)

pub read_every-requires-in-Suffix : goal.read_every-requires-in-Suffix
read_every-requires-in-Suffix g c = λ a low.
    let s = c.requires.sizes in
    chunk-within s.0 s.1 _ _ (length c.args.table.now) c.args.rest a s.2 s.3 s.4 c.requires.low low

pub returns-in-Prefix : goal.returns-in-Prefix
unfolding row_at
returns-in-Prefix g c = λ n m rows rests a low.
    let read = entries (λ (x : g.row.B.Denot). g.E.Algebra.embedding (g.B.Field.number x)) c.args.table.now in
    c.read_every.ensures a (omega (arith, rows, low))
    ∙ ap (λ k. read (c.args.rest + a * k)) rests
    ∙ ap (λ t. read (row_at t n m c.args.rest a)) (sym (ap order_of c.in-Prefix.is))

pub returns-in-Suffix : goal.returns-in-Suffix
unfolding row_at
returns-in-Suffix g c = λ n m rows rests a low.
    let read = entries (λ (x : g.row.B.Denot). g.E.Algebra.embedding (g.B.Field.number x)) c.args.table.now in
    c.read_every-in-Suffix.ensures a (omega (arith, rows, low))
    ∙ ap (λ k. read (c.args.rest * k + a * 1)) rows
    ∙ ap (λ t. read (row_at t n m c.args.rest a)) (sym (ap order_of c.in-Suffix.is))
