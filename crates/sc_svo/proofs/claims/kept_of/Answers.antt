use Rattle.std.proofs.Common.{ap, arith}
use Rattle.sc_table.specs.Strategy.{order_of}
use Rattle.sc_svo.proofs.ClaimLaws.{kept-first, kept-last}
use Rattle.sc_svo.proofs.claims.kept_of.Goals as goal

pub returns-in-Prefix-clause-kept : goal.returns-in-Prefix-clause-kept
returns-in-Prefix-clause-kept g c =
    kept-first g.EF.Field.number (order_of c.args.order) c.args.count c.args.near.now (ap order_of c.in-Prefix.is)

pub returns-in-Suffix-clause-kept : goal.returns-in-Suffix-clause-kept
returns-in-Suffix-clause-kept g c =
    kept-last g.EF.Field.number (order_of c.args.order) c.args.count _ c.args.near.now (ap order_of c.in-Suffix.is) c.requires (omega arith)
