use Rattle.std.proofs.Common.{sym, ◌∙◌}
use Rattle.rule_entries.proofs.Outcomes.{good_is, good_tells}
use Rattle.rule_entries.proofs.read.unless_taken.Goals as goal

pub returns-then-branch : goal.returns-then-branch
returns-then-branch c = λ ids tells.
    let added = sym c.in_ok-insert.ensures.added ∙ c.if-branch.true in (
      good_is ids c.args.place c.args.id c.args.rule c.args.taken.now c.insert.new.self tells added c.in_ok-insert.ensures.updates.0,
      good_tells ids c.args.place c.args.id c.args.rule c.args.taken.now c.insert.new.self tells added c.in_ok-insert.ensures.updates.0,
    )
