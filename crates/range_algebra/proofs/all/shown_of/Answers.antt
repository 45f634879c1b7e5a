use Rattle.std.proofs.Common.{◌↔◌, ◌⊎◌, [], inl, inr, map}
use Rattle.std.proofs.lemmas.Result.{err_from_is_err_and}
use Rattle.node_match.specs.Sets.{Among}
use Rattle.tree_match.specs.Members.{Member}
use Rattle.node_match.proofs.Sets.{among_at}
use Rattle.node_match.proofs.Sets.{gathered, gathered_all, chain}
use Rattle.range_algebra.specs.Trees.{branch_of, branches_of}
use Rattle.range_algebra.specs.Shown.{Shows, IsShownOfSome}
use Rattle.sorted_sets.proofs.Searches.{any_here, any_parted, any_end}
use Rattle.member_join.proofs.Limits.{fault_more}
use Rattle.range_algebra.proofs.all.shown_of.Goals as goal

pub add_allowed-requires : goal.add_allowed-requires
add_allowed-requires c = record { parts = c.requires.parts; placed = c.requires.placed c.one-item.result (among_at c.args.chosen.now c.loop-one.one-index c.one-item.result c.loop-one-test.true c.one-item.is) }

pub loop-one-preserved : goal.loop-one-preserved
loop-one-preserved c m =
    gathered _ _ _ _ _ _ (chain _ _ _ (c.in_ok-members.ensures.same m) (c.in_ok-add_allowed.ensures m))
    (any_parted (λ (x : Member). Shows c.args.scene.leaves.now c.args.scene.rx.now c.args.scene.view.now.bytes (branches_of (map branch_of c.args.children.now)) x m) c.args.chosen.now c.loop-one.one-index c.one-item.result c.loop-one-test.true c.one-item.is) (c.loop-one.invariant m)

pub returns-in_err-members-clause-crowded : goal.returns-in_err-members-clause-crowded
returns-in_err-members-clause-crowded c =
    let p = err_from_is_err_and c.from_residual-in_err-members.result c.from_residual-in_err-members.ensures.1 in
    rw (p.1, p.2) (fault_more [] (Among c.add_allowed.new.members.items) (IsShownOfSome c.args.scene.leaves.now c.args.scene.rx.now c.args.scene.view.now.bytes (branches_of (map branch_of c.args.children.now)) c.args.chosen.now) (λ m a. (c.loop-one.invariant m).0 (elim ((c.in_ok-add_allowed.ensures m).0 a) [
      | inl o ↦ inl o
      | inr s ↦ inr (any_here (λ (x : Member). Shows c.args.scene.leaves.now c.args.scene.rx.now c.args.scene.view.now.bytes (branches_of (map branch_of c.args.children.now)) x m) c.args.chosen.now c.loop-one.one-index c.one-item.result c.loop-one-test.true c.one-item.is s)
    ])) c.in_err-members.field-0.0 c.in_err-members.ensures.crowded)

pub returns-clause-exact : goal.returns-clause-exact
returns-clause-exact c = λ m. gathered_all _ _ _ (any_end (λ (x : Member). Shows c.args.scene.leaves.now c.args.scene.rx.now c.args.scene.view.now.bytes (branches_of (map branch_of c.args.children.now)) x m) c.args.chosen.now c.loop-one.one-index c.loop-one-test.false) (c.loop-one.invariant m)
