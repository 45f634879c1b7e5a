use Rattle.node_tree.proofs.KindPlaces.{told}
use Rattle.node_tree.proofs.kind.Kind.at_place.Goals as goal

pub returns : goal.returns
returns c = told c.args.place c.kind_in.result c.kind_in.ensures
