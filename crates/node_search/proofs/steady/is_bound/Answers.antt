use Rattle.node_search.proofs.steady.is_bound.Goals as goal

pub returns-in-Some : goal.returns-in-Some
returns-in-Some c _ = (_, c.in-Some.ensures)
