use Rattle.rule_tests.proofs.findings.found_in.Given as goal

abbrev pub ghosts-found : goal.ghosts-found
ghosts-found a = record { name = a.blank.name; parts = a.blank.parts }
