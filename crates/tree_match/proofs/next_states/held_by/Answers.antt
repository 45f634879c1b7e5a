use Rattle.tree_match.proofs.Alike.{one_run}
use Rattle.meta_bind.specs.Bounds.{seen_held}
use Rattle.tree_match.proofs.next_states.held_by.Goals as goal

pub returns-in-len1 : goal.returns-in-len1
returns-in-len1 c = record {
  old = seen_held c.in-Some.held;
  bound = c.in-Some.ensures;
  one = one_run c.in-Some.held.run.now c.one-item.result c.in-len1.len_at_least c.in-len1.len_below c.one-item.is;
}
