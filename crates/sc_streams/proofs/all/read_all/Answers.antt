use Rattle.std.proofs.Common.{rules, ◌++◌, ◌≤◌, ◌+◌, length, take, arith}
use Rattle.std.proofs.lemmas.Grind.{common_steps}
use Rattle.std.proofs.KnownBytes.{Consumes-trans}
use Rattle.sc_streams.proofs.all.read_all.Goals as goal

pub returns-then-is_err-clause-lost : goal.returns-then-is_err-clause-lost
returns-then-is_err-clause-lost g c =
    let piece = take c.in-Ok.n c.read.new.into in
    let size : length (c.pieces.bytes.items ++ piece) ≤ c.args.limit + 1 = grind (arith, common_steps, c.in-Ok.ensures.bound) in
    (c.pieces.bytes.items ++ piece, size, Consumes-trans _ _ _ _ _ c.pieces.invariant.consumed c.in-Ok.ensures.bytes.0)

-- a fault is no whole reading
pub returns-in_default-clause-whole : goal.returns-in_default-clause-whole
returns-in_default-clause-whole g c = search rules

pub returns-in_default-clause-quiet : goal.returns-in_default-clause-quiet
returns-in_default-clause-quiet g c = search rules

-- the end was reached
pub returns-then-n-eq0-clause-whole : goal.returns-then-n-eq0-clause-whole
returns-then-n-eq0-clause-whole g c = search rules

pub returns-then-n-eq0-clause-dry : goal.returns-then-n-eq0-clause-dry
returns-then-n-eq0-clause-dry g c = search rules

-- want of memory is no fault
pub returns-then-is_err-clause-failed : goal.returns-then-is_err-clause-failed
returns-then-is_err-clause-failed g c = search rules
