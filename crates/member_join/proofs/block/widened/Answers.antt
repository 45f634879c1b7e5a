use Rattle.member_join.proofs.block.widened.Goals as goal

pub returns-clause-same : goal.returns-clause-same
returns-clause-same c nodes inside = (c.least.ensures.second nodes inside.0, c.greatest.ensures.second nodes inside.1)

pub returns-clause-more : goal.returns-clause-more
returns-clause-more c = (c.least.ensures.first, c.greatest.ensures.first)
