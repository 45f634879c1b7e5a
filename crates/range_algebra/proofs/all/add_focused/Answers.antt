use Rattle.std.proofs.Common.{◌↔◌, ◌⊎◌, List, ℕ}
use Rattle.tree_match.specs.Members.{Member}
use Rattle.node_match.proofs.Sets.{gathered, gathered_all}
use Rattle.range_algebra.specs.Meets.{IsShownAt}
use Rattle.sorted_sets.proofs.Searches.{any_parted, any_end}
use Rattle.range_algebra.proofs.Gathering.{adds_named, adds_focused, adds_unfocused}
use Rattle.range_algebra.proofs.all.add_focused.Goals as goal

pub returns-in_default : goal.returns-in_default
returns-in_default c = adds_unfocused c.args.child.now c.args.one.now _ c.in_default.not-Focus

pub loop-name-preserved : goal.loop-name-preserved
loop-name-preserved c m =
    gathered _ _ _ _ _ _ (adds_named c.name-item.result c.as_str.result.now c.args.one.now c.loop-name.members.items c.add_at.new.members.items c.as_str.ensures c.in_ok-add_at.ensures m)
    (any_parted (λ (name : List ℕ). IsShownAt name c.args.one.now m) c.as_slice-name-items.result.now c.loop-name.name-index c.name-item.result c.loop-name-test.true c.name-item.is) (c.loop-name.invariant m)

pub returns : goal.returns
returns c =
    adds_focused c.args.child.now c.in-Focus.names c.as_slice-name-items.result.now c.args.one.now c.args.members.now.items c.loop-name.members.items c.in-Focus.is c.as_slice-name-items.ensures
    (λ m. gathered_all _ _ _ (any_end (λ (name : List ℕ). IsShownAt name c.args.one.now m) c.as_slice-name-items.result.now c.loop-name.name-index c.loop-name-test.false) (c.loop-name.invariant m))
