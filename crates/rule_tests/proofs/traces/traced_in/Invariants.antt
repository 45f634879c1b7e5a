use Rattle.rule_tests.proofs.traces.traced_in.Given as goal

abbrev pub ghosts-traced : goal.ghosts-traced
ghosts-traced a = record { name = a.blank.name; parts = a.blank.parts }
