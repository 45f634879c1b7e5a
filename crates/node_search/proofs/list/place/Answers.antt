use Rattle.std.proofs.Common.{◌∙◌, sym, arith}
use Rattle.std.proofs.lemmas.List.{drop_all}
use Rattle.node_search.proofs.list.place.Goals as goal
use Rattle.node_tree.specs.Numbers.{kids_at}
use Rattle.node_pool.specs.Spots.{seen}

pub returns-else-at-end-clause-same : goal.returns-else-at-end-clause-same
returns-else-at-end-clause-same c = drop_all _ (kids_at (seen c.args.holder)) (omega (arith, c.count_kids-end.ensures)) ∙ sym (drop_all _ (kids_at (seen c.args.holder)) (omega (arith, c.count_kids-end.ensures)))
