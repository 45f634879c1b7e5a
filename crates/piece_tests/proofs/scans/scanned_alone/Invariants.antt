use Rattle.piece_tests.proofs.scans.scanned_alone.Given as goal

abbrev pub ghosts-scanned : goal.ghosts-scanned
ghosts-scanned a = record { name = a.blank.name; parts = a.blank.parts }
