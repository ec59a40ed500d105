use Rattle.sc_challenger.proofs.scripted.ScriptedChallengerChallenger.check_witness.Goals as goal

-- what would pass before the test is what passes
pub returns-clause-tested : goal.returns-clause-tested
returns-clause-tested g c = c.would_pass-passes.ensures
