use Rattle.std.proofs.Common.{◌≡◌, ◌∙◌, [], ◌∷◌, ◌++◌, length, refl, sym, ap}
use Rattle.std.proofs.lemmas.List.{length-map}
use Rattle.sc_definitions.specs.Tables.{entries}
use Rattle.sc_constraints.specs.declared.statement.Statements.TheVariants.{Eq, Next}
use Rattle.sc_constraints.specs.Constraints.{constraint_arity, constraint_challenge, constraint_groups, constraint_power}
use Rattle.sc_constraints.specs.Groups.{all_statements}
use Rattle.sumcheck_make.specs.Made.{parts_in}
use Rattle.sumcheck_replies.proofs.NumberLaws.{entries-numbers}
use Rattle.sumcheck_make.proofs.MadeJobs.{about-same, two-groups}
use Rattle.sumcheck_make.proofs.made.job_of.Goals as goal

-- both points have as many coordinates
pub successor_at-requires : goal.successor_at-requires
successor_at-requires g c =
    let N = g.F.Field.number in
    let parts = c.args.parts in
    sym (length-map parts.successor.items N) ∙ c.requires.same ∙ length-map parts.point.items N ∙ sym parts.point.ok.0 ∙ sym c.len-variables.ensures

pub returns : goal.returns
returns g c = λ R h.
    let N = g.F.Field.number in
    let o = g.F.Field.ops in
    let parts = c.args.parts in
    let p = parts_in N parts in
    let variables : constraint_arity c.new.result ≡ length p.point = c.new.ensures.arity ∙ c.len-variables.ensures ∙ parts.point.ok.0 ∙ sym (length-map parts.point.items N) in
    let groups : c.push-2.new.self.items ≡ [] ++ Eq c.in_ok-equality.equality ∷ [] ++ Next c.in_ok-successor.successor ∷ [] =
    c.in_ok-push-2.ensures.items ∙ ap (λ l. l ++ Next c.in_ok-successor.successor ∷ []) (c.in_ok-push.ensures.items ∙ ap (λ l. l ++ Eq c.in_ok-equality.equality ∷ []) c.in_ok-groups.ensures.items) in
    about-same o p c.args.strategy R h (length parts.table.items) (constraint_arity c.new.result) (entries N parts.table.items)
    (all_statements N N (constraint_groups c.new.result)) (constraint_challenge N c.new.result) (constraint_power c.new.result)
    (sym (length-map parts.table.items N)) variables (entries-numbers N parts.table.items p.table refl) c.new.ensures.challenge c.new.ensures.power
    (two-groups N N (constraint_groups c.new.result) c.in_ok-equality.equality c.in_ok-successor.successor _ _ (c.new.ensures.groups ∙ groups) c.in_ok-equality.ensures.0
    c.in_ok-successor.ensures.0)
