use Rattle.std.proofs.Common.{◌≡◌, ◌^◌, ◌∷◌, [], ◌++◌, length, map, sym, ◌∙◌, ap, arith}
use Rattle.std.proofs.lemmas.List.{map-append}
use Rattle.std.proofs.lemmas.List.Elements.{All-get_or}
use Rattle.std.proofs.lemmas.Iterator.Adapters.{YieldsList-from_vec}
use Rattle.std.proofs.lemmas.Iterator.Consumers.{YieldsList-turn, YieldsList-end}
use Rattle.sc_definitions.specs.Tables.{entries}
use Rattle.sc_definitions.proofs.Lengths.{pow-same}
use Rattle.sc_table.specs.Polys.{table_of}
use Rattle.sc_product_audit.proofs.TableShapes.{one_arity, one-more, as_many}
use Rattle.sc_product_audit.proofs.tables.product_of.Goals as goal

-- a table more is one of those that came
pub loop-table-preserved : goal.loop-table-preserved
loop-table-preserved g c =
    let N = g.EF.Field.number in
    let n = c.args.n in
    let all = c.args.tables.items in
    let so_far = c.loop-table.yielded in
    let t = c.in-Some.table in
    let p = c.new.result in
    let begins = c.into_iter-table-iterator.ensures.into_iter_gives in
    let turn = YieldsList-turn (YieldsList-from_vec {s = c.into_iter-table-iterator.result} all begins.0 (begins.1 ∙ c.args.tables.ok.0)) so_far c.loop-table.table-iterator c.loop-table.yielded_by c.next.result c.next.new.self t c.in-Some.is c.next.ensures.steps in
    let rows : length t.items ≡ 2 ^ n = ap (λ u. length u.items) turn.1 ∙ All-get_or (λ u. length u.items ≡ 2 ^ n) all (length so_far) t turn.0 c.requires.sizes in
    record {
      tables = ap (map (table_of N)) c.in_ok-push.ensures.items ∙ map-append (table_of N) c.loop-table.polys.items (p ∷ [])
          ∙ ap (λ fs. fs ++ table_of N p ∷ []) c.loop-table.invariant.tables
          ∙ ap (λ f. map (λ u. entries N u.items) so_far ++ f ∷ []) c.new.ensures.table
          ∙ sym (map-append (λ u. entries N u.items) so_far (t ∷ []));
      arity = one-more n c.loop-table.polys.items c.push.new.self.items p c.in_ok-push.ensures.items c.loop-table.invariant.arity
          (pow-same _ _ (sym c.new.ensures.size ∙ rows));
    }

-- all came
pub returns-clause-arity : goal.returns-clause-arity
returns-clause-arity g c =
    let N = g.EF.Field.number in
    let begins = c.into_iter-table-iterator.ensures.into_iter_gives in
    let end = YieldsList-end (YieldsList-from_vec {s = c.into_iter-table-iterator.result} c.args.tables.items begins.0 (begins.1 ∙ c.args.tables.ok.0)) c.loop-table.yielded c.loop-table.table-iterator c.loop-table.yielded_by c.next.result c.next.new.self c.in-None.is c.next.ensures.steps in
    let made = as_many (table_of N) (λ t. entries N t.items) c.loop-table.polys.items c.loop-table.yielded c.loop-table.invariant.tables in
    c.new-2.ensures.arity ∙ one_arity c.args.n c.loop-table.polys.items (omega (arith, made, end.1, c.requires.some)) c.loop-table.invariant.arity
