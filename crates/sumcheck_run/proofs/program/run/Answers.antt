use Rattle.std.proofs.Common.{◌∙◌, ap, refl, subst, inl, inr, arith}
use Rattle.std.proofs.lemmas.Bool.{leb-true}
use Rattle.sumcheck_run.specs.Program.{reads_input}
use Rattle.sumcheck_run.specs.Words.{CommandFits}
use Rattle.sumcheck_run.proofs.Outcomes.{command-kept}
use Rattle.sumcheck_run.proofs.RunLaws.{ran, ran_answered, ran_cut_short, ran_silent, ran_code, ran_usage, ran_headline, ran_write_fault, ran_write_told, not_six, at_most_eight, differ, too_high, never_rises, told, must_read, untold}
use Rattle.sumcheck_run.proofs.program.run.Goals as goal

pub returns : goal.returns
returns g c =
    let read = c.in-Ok.ensures in
    let is = c.read_command-command.ensures.command in
    let needs = c.needs_input.ensures in
    let r = ran g.K.Sink.taken g.K.Sink.faults is needs read.read c.respond.ensures.responds in
    record {
      answered = ran_answered r;
      cut_short = ran_cut_short r;
      silent = ran_silent r;
      no_other = at_most_eight _ (ran_code r);
      untouched = λ none. (read.unread (needs ∙ ap reads_input is ∙ none)).0;
      usage = ran_usage r;
      headline = ran_headline r _ _;
      promised = λ command input named. command-kept command input (subst CommandFits (is ∙ named) c.read_command-command.ensures.fits);
      sparing = read.sparing;
      reading = record { only = not_six _ (ran_code r); told = never_rises _ _ (read.faults.1 (λ e. cc)); stops = read.late };
      writing = record { only = ran_write_fault r; told = ran_write_told r; stops = c.respond.ensures.late };
    }

-- The source failed, and nothing was written.
pub returns-in-Err-Failed : goal.returns-in-Err-Failed
returns-in-Err-Failed g c =
    let read = c.in-Err-Failed.ensures in
    let is = c.read_command-command.ensures.command in
    let needs = c.needs_input.ensures in
    let risen = told _ _ c.in-Err-Failed.field-0-is read.faults.0 in
    record {
      answered = too_high 6 5 refl;
      cut_short = differ 6 7 refl;
      silent = λ _. refl;
      no_other = leb-true 6 8 refl;
      untouched = λ none. (read.unread (needs ∙ ap reads_input is ∙ none)).0;
      usage = record { only = differ 6 2 refl; told = must_read is needs (λ none. (read.unread none).1) };
      headline = λ input given _. untold _ input is needs (λ none. (read.unread none).1) risen given;
      promised = λ command input named. command-kept command input (subst CommandFits (is ∙ named) c.read_command-command.ensures.fits);
      sparing = read.sparing;
      reading = record { only = λ _. risen; told = λ _. refl; stops = read.late };
      writing = record { only = differ 6 7 refl; told = never_rises _ _ refl; stops = omega arith };
    }

-- There was no memory for the input.
pub returns-in-Err-NoMemory : goal.returns-in-Err-NoMemory
returns-in-Err-NoMemory g c =
    let read = c.in-Err-NoMemory.ensures in
    let is = c.read_command-command.ensures.command in
    let needs = c.needs_input.ensures in
    record {
      answered = too_high 8 5 refl;
      cut_short = differ 8 7 refl;
      silent = λ _. refl;
      no_other = leb-true 8 8 refl;
      untouched = λ none. (read.unread (needs ∙ ap reads_input is ∙ none)).0;
      usage = record { only = differ 8 2 refl; told = λ _. inr (inr refl) };
      headline = λ _ _ _. inl refl;
      promised = λ command input named. command-kept command input (subst CommandFits (is ∙ named) c.read_command-command.ensures.fits);
      sparing = read.sparing;
      reading = record { only = differ 8 6 refl; told = never_rises _ _ (read.faults.1 (λ e. cc)); stops = read.late };
      writing = record { only = differ 8 7 refl; told = never_rises _ _ refl; stops = omega arith };
    }
