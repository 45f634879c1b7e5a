use Rattle.std.proofs.Common.{refl}
use Rattle.json_tree.specs.States.{may_end}
use Rattle.json_tree.proofs.state.may_end.Goals as goal

pub returns : goal.returns
unfolding may_end
returns c = refl
