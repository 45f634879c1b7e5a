use Rattle.range_algebra.proofs.Regexes.{apart_ascend, shares_here, shares_none, shares_before}
use Rattle.range_algebra.proofs.condition.shares.Goals as goal

pub first_from-first-requires : goal.first_from-first-requires
first_from-first-requires c = record { ordered = apart_ascend 0 c.args.members.now c.requires.apart }

pub returns-then-shares_at : goal.returns-then-shares_at
returns-then-shares_at c = shares_here c.args.range c.args.members.now c.first_from-first.result c.requires.apart c.first_from-first.ensures c.shares_at.result c.shares_at.ensures c.if-shares_at.true

pub returns-then-first-eq0 : goal.returns-then-first-eq0
returns-then-first-eq0 c = shares_none c.args.range c.args.members.now c.first_from-first.result c.requires.apart c.first_from-first.ensures c.shares_at.result c.shares_at.ensures c.if-shares_at.false c.if-first-eq0.true

pub returns : goal.returns
returns c = shares_before c.args.range c.args.members.now c.first_from-first.result c.requires.apart c.first_from-first.ensures c.shares_at.result c.shares_at.ensures c.if-shares_at.false c.shares_at-2.result c.shares_at-2.ensures
