-- Jobs over the fields and under the challengers that they name.
use Rattle.std.specs.Prelude.{List, []}
use Rattle.sc_definitions.specs.declared.events.Event.{Event}
use Rattle.sc_definitions.specs.Events.{Rules}
use Rattle.sumcheck_members.specs.declared.job.FieldName.{FieldName}
use Rattle.sumcheck_members.specs.declared.job.Challenger.{Challenger}
use Rattle.sumcheck_members.specs.declared.job.Sizes.{Sizes}
use Rattle.sumcheck_replies.specs.Fields.{Fields, fields_of, rules_by}
use Rattle.sumcheck_replies.specs.Reply.{Reply}

-- What a job asks that names its field and its challenger.
pub record Asks (J : Type 0) : Type 1 where
  pub field : J → FieldName
  pub challenger : J → Challenger
  -- its numbers are those of elements of fields of these sizes, the challenger's aside
  pub fits : Sizes → J → Type 0
  -- what it is replied over these fields, under a challenger that answers by these rules and has this history
  pub replies : Fields → J → Rules → List Event → Reply

-- what it is replied over these fields, under its own challenger
abbrev pub reply_over : {J : Type 0} → Asks J → Fields → J → Reply
reply_over asks k job = asks.replies k job (rules_by k.base.size (asks.challenger job)) []

-- the same over the fields that it names
abbrev pub own_reply : {J : Type 0} → Asks J → J → Reply
own_reply asks job = reply_over asks (fields_of (asks.field job)) job
