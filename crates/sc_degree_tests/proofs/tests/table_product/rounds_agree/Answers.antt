use Rattle.std.proofs.Common.{length, ◌∙◌, ap, arith}
use Rattle.std.proofs.lemmas.List.{length-map}
use Rattle.sc_table.specs.Polys.{table_of}
use Rattle.sc_degree_tests.proofs.Arity.{first_arity-is}
use Rattle.sc_degree_tests.proofs.tests.table_product.rounds_agree.Goals as goal

pub loop-left-init : goal.loop-left-init
loop-left-init g c =
    let chosen = c.in_ok-chosen.chosen.items in
    record {
      arity = c.new-product.ensures.arity ∙ first_arity-is c.args.variables chosen (omega (arith, c.in_ok-chosen.ensures.length, c.requires.some)) c.in_ok-chosen.ensures.arity;
      degree = ap length c.new-product.ensures.tables ∙ length-map chosen (table_of g.F.Field.number) ∙ c.in_ok-chosen.ensures.length;
      few = c.requires.variables;
    }
