use Rattle.sc_table.specs.Polys.{variables_of}
use Rattle.std.proofs.Common.{sym, subst}
use Rattle.sc_svo.specs.Claims.{AreOn}
use Rattle.sc_layout.proofs.book.Book+ProverMultiClaim+F+EF+EF.batched_accumulators.Goals as goal

pub new-requires-clause-on : goal.new-requires-clause-on
new-requires-clause-on g c =
    let n = variables_of c.args.table.now in
    subst (AreOn n) (sym c.deref.ensures.value) (c.in_ok-claims.ensures.on n c.requires.arity)
