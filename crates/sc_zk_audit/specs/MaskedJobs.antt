-- A job by the numbers of its elements, and what it asks of a challenger.
use Rattle.std.specs.Prelude.{length}
use Rattle.std.specs.declared.cmp.PartialEq.{Ghosts as PartialEqOf}
use Rattle.sc_definitions.specs.Tables.{evaluation, entries}
use Rattle.sc_definitions.specs.Problem.{Problem}
use Rattle.sc_field.specs.declared.field.Field.{Ghosts as FieldOf}
use Rattle.sc_field.specs.declared.algebra.Algebra.{Ghosts as AlgebraOf}
use Rattle.sc_field.specs.declared.algebra.ExtensionField.{Ghosts as ExtensionOf}
use Rattle.sc_table.specs.Strategy.{order_of}
use Rattle.sc_constraints.specs.Constraints.{constraint_arity, constraint_challenge, constraint_power, constraint_statements}
use Rattle.sc_challenger.specs.Parties.{Party, channel_by}
use Rattle.sc_commitments.specs.declared.encoding.ZkEncoding.{Ghosts as EncodingOf}
use Rattle.sc_commitments.specs.declared.mmcs.Mmcs.{Ghosts as MmcsOf}
use Rattle.sc_zk_rounds.specs.Handoffs.{AskedMasks}
use Rattle.sc_zk_rounds.specs.Views.{coded_in, masks_under}
use Rattle.sc_zk_audit.specs.declared.job.MaskedJob.{MaskedJob}
use Rattle.sc_zk_audit.specs.MaskedCases.{MaskedAsked}

module _ {F EF : Type 0} {f : FieldOf F} {p : PartialEqOf F} {x : ExtensionOf EF F} {a : AlgebraOf EF F} {e : FieldOf EF} {q : PartialEqOf EF} where
  -- the problem that a job states; its table is that of the images in the extension
  abbrev pub masked_problem : MaskedJob F EF f p x a e q → Problem
  masked_problem job = record {
    basis = evaluation;
    order = order_of job.order;
    variables = constraint_arity job.constraint;
    table = λ b. a.embedding (entries f.number job.table.items b);
    statements = constraint_statements (λ y. a.embedding (f.number y)) e.number job.constraint;
    batching = constraint_challenge e.number job.constraint;
    initial = constraint_power job.constraint;
  }

  -- what a job asks of a challenger, where these are its masks, as they are committed to
  abbrev pub masked_asked : MaskedJob F EF f p x a e q → AskedMasks → Party → MaskedAsked
  masked_asked job masks party = record {
    rows = length job.table.items;
    problem = masked_problem job;
    masks = masks;
    ops = e.ops;
    channel = channel_by party x.extension f.ops.size job.pow_bits;
    history = party.history;
  }

  -- its masks, which are encoded and committed to
  abbrev pub job_masks : {Enc M K D : Type 0} → EncodingOf Enc EF → MmcsOf M EF K D → Enc → M → MaskedJob F EF f p x a e q → AskedMasks
  job_masks z m encoding mmcs job = masks_under z m encoding mmcs (coded_in e.number job.masks.items job.randomness.items) (e.number job.aux)
