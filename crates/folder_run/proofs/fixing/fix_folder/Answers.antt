use Rattle.folder_run.proofs.fixing.fix_folder.Goals as goal

pub fix_taken-requires : goal.fix_taken-requires
fix_taken-requires g c = record { rules = c.new-rules.ensures.files; files = c.new-files.ensures; decided = c.new-decided.ensures }

pub returns-clause-ends : goal.returns-clause-ends
returns-clause-ends g c = rw c.new-rules.ensures.reader at c.fix_taken.ensures.ends

pub returns-clause-only : goal.returns-clause-only
returns-clause-only g c = rw c.new-rules.ensures.reader at c.fix_taken.ensures.only

pub returns-clause-work : goal.returns-clause-work
returns-clause-work g c = rw c.new-rules.ensures.reader at c.fix_taken.ensures.work

pub returns-clause-asked : goal.returns-clause-asked
returns-clause-asked g c = rw c.new-rules.ensures.reader at c.fix_taken.ensures.asked

pub returns-clause-wrote : goal.returns-clause-wrote
returns-clause-wrote g c = rw c.new-rules.ensures.reader at c.fix_taken.ensures.wrote

pub returns-clause-left : goal.returns-clause-left
returns-clause-left g c = rw c.new-rules.ensures.reader at c.fix_taken.ensures.left

pub returns-clause-front_written : goal.returns-clause-front_written
returns-clause-front_written g c = rw c.new-rules.ensures.reader at c.fix_taken.ensures.front_written
