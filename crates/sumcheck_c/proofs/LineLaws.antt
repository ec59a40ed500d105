-- Words that are no text are no words of a command; and what a command promises.
use Rattle.std.proofs.Common.{◌≡◌, ℕ, List, [], true, false, Option, None, Some, refl, sym, subst, arith}
use Rattle.std.specs.Prelude.{bytes_eq, codes, decimal, IsUtf8}
use Rattle.std.specs.Str.{is_utf8, chars}
use lib.Utf8.{encode}
use Rattle.std.proofs.lemmas.Bool.{false_from_ne_true}
use Rattle.std.proofs.lemmas.Slice.Eq.{bytes_eq-Decides}
use Rattle.std.proofs.lemmas.Str.{IsUtf8-from_is_utf8}
use Rattle.sc_table.specs.declared.strategy.Strategy.{Strategy}
use Rattle.std.specs.Option.{option_map}
use Rattle.std.proofs.lemmas.Option.{same_Some}
use Rattle.sumcheck_make.specs.declared.recipe.Recipe.{Recipe}
use Rattle.sumcheck_make.specs.Recipes.{IsMade}
use Rattle.sumcheck_run.specs.declared.command.Kind.{Kind}
use Rattle.sumcheck_run.specs.declared.command.Command.{Command}
use Rattle.sumcheck_run.specs.declared.command.Command.TheVariants.{Judge, Make}
use Rattle.sumcheck_run.specs.Program.{kind_named, command_of, CommandPromise}
use Rattle.sumcheck_run.proofs.Outcomes.{command-kept}
use Rattle.sumcheck_run.proofs.WordLaws.{recipe-made}
use Rattle.sumcheck_c.specs.Commands.{make_command, word_command}
use Rattle.sumcheck_run.specs.Words.{written_below, recipe_by, recipe_of, strategy_of}

-- bytes that are no text are not these
no_text : (w name : List ℕ) → is_utf8 name ≡ true → (IsUtf8 w → ⊥) → bytes_eq w name ≡ false
no_text w name is bad = false_from_ne_true (bytes_eq w name) (λ e. bad (subst IsUtf8 (sym ((bytes_eq-Decides w name).0 e)) (IsUtf8-from_is_utf8 name is)))

-- they name no kind of jobs
kind_of_no_text : (w : List ℕ) → (IsUtf8 w → ⊥) → kind_named w ≡ None
unfolding is_utf8 chars encode
kind_of_no_text w bad =
    rw (
      no_text w (codes "audit") refl bad,
      no_text w (codes "product") refl bad,
      no_text w (codes "veil") refl bad,
      no_text w (codes "explain") refl bad,
      no_text w (codes "matmul") refl bad,
      no_text w (codes "circuit") refl bad,
      no_text w (codes "openings") refl bad,
    ) refl

-- and no strategy
strategy_of_no_text : (n : ℕ) (w : List ℕ) → (IsUtf8 w → ⊥) → strategy_of n w ≡ None
unfolding is_utf8 chars encode
strategy_of_no_text n w bad =
    rw (no_text w (codes "plain") refl bad, no_text w (codes "represented") refl bad, no_text w (codes "small-value") refl bad) refl

-- so that they are no command, as no words are none
pub word_of_no_text : (w : List ℕ) → (IsUtf8 w → ⊥) → command_of [] ≡ word_command w
word_of_no_text w bad = rw (kind_of_no_text w bad) refl

no_recipe : (variables number : Option ℕ) (strategy : ℕ → Option Strategy) → ((n : ℕ) → strategy n ≡ None) → recipe_by variables number strategy ≡ None
no_recipe None number strategy none = refl
no_recipe (Some n) None strategy none = refl
no_recipe (Some n) (Some number) strategy none = rw (none n) (grind arith)

-- so that it is no job to be made
pub make_of_no_text : (variables number : ℕ) (strategy : List ℕ) → (IsUtf8 strategy → ⊥) → command_of [] ≡ make_command variables number strategy
make_of_no_text variables number strategy bad =
    rw (no_recipe (written_below 25 (decimal variables)) (written_below 65537 (decimal number)) (λ n. strategy_of n strategy) (λ n. strategy_of_no_text n strategy bad)) refl

-- ---- what a command promises, whatever becomes of the call

judged_kept : (kind : Option Kind) (command : Command) (input : List ℕ) → option_map Judge kind ≡ Some command → CommandPromise command input
judged_kept None command input named = cc
judged_kept (Some kind) command input named = subst (λ c. CommandPromise c input) (same_Some _ _ named) (command-kept (Judge kind) input tt)

pub word_kept : (word : List ℕ) (command : Command) (input : List ℕ) → word_command word ≡ Some command → CommandPromise command input
word_kept word command input named = judged_kept (kind_named word) command input named

made_kept : (recipe : Option Recipe) (command : Command) (input : List ℕ) → ((r : Recipe) → recipe ≡ Some r → IsMade r) → option_map Make recipe ≡ Some command →
    CommandPromise command input
made_kept None command input made named = cc
made_kept (Some recipe) command input made named = subst (λ c. CommandPromise c input) (same_Some _ _ named) (command-kept (Make recipe) input (made recipe refl))

pub make_kept : (variables number : ℕ) (strategy : List ℕ) (command : Command) (input : List ℕ) → make_command variables number strategy ≡ Some command → CommandPromise command input
make_kept variables number strategy command input named =
    made_kept (recipe_of (decimal variables) (decimal number) strategy) command input (recipe-made (decimal variables) (decimal number) strategy) named
