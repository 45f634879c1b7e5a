use Rattle.std.proofs.Common.{◌↔◌, ◌⊎◌, inl, inr, List, [], subst}
use Rattle.std.proofs.lemmas.Result.{err_from_is_err_and}
use Rattle.tree_match.specs.Members.{Member}
use Rattle.node_match.specs.Sets.{Among}
use Rattle.node_match.proofs.Sets.{gathered, gathered_all, chain}
use Rattle.range_algebra.specs.Parts.{IsInSome}
use Rattle.member_join.specs.Limits.{OneSet}
use Rattle.member_join.proofs.Added.{if_ok_same}
use Rattle.member_join.proofs.Limits.{if_fault_more, fault_more, fault_out}
use Rattle.range_algebra.proofs.Children.{some_left, some_none, one_of_some}
use Rattle.range_algebra.proofs.evaluate.union.Goals as goal

pub loop-set-init : goal.loop-set-init
loop-set-init c m =
    let P : List Member → Type 0 = λ ms. Among ms m in
    (λ h. elim h [ inl a ↦ absurd (subst P c.new-members.ensures.items a) | inr s ↦ s ], λ s. inr s)

pub returns-in_err-members-clause-crowded : goal.returns-in_err-members-clause-crowded
returns-in_err-members-clause-crowded c =
    let p = err_from_is_err_and c.from_residual-in_err-members.result c.from_residual-in_err-members.ensures.1 in
    fault_out (OneSet [] (IsInSome c.args.sets.now)) _ _ _ p.1 p.2 (fault_more [] (Among c.add_all.new.members.items) (IsInSome c.args.sets.now) (one_of_some _ _ _ _ c.loop-set.invariant c.set-item.result c.loop-set-test.true c.set-item.is _ c.as_slice.ensures.value c.in_ok-add_all.ensures) _ c.in_err-members.ensures.crowded)

pub loop-set-preserved : goal.loop-set-preserved
loop-set-preserved c m =
    let P : List Member → Type 0 = λ ms. Among c.add_all.new.members.items m ↔ (Among c.loop-set.members.items m ⊎ Among ms m) in
    gathered _ _ _ _ _ _ (chain _ _ _ (c.in_ok-members.ensures.same m) (subst P c.as_slice.ensures.value (c.in_ok-add_all.ensures m)))
    (some_left c.args.sets.now c.loop-set.set-index c.set-item.result m c.loop-set-test.true c.set-item.is) (c.loop-set.invariant m)

pub returns-clause-exact : goal.returns-clause-exact
returns-clause-exact c = if_ok_same (λ v. v.items) _ _ _ c.gathered.ensures.same (λ m. gathered_all _ _ _ (some_none _ _ m c.loop-set-test.false) (c.loop-set.invariant m))

pub returns-clause-crowded : goal.returns-clause-crowded
returns-clause-crowded c =
    if_fault_more [] (Among c.loop-set.members.items) (IsInSome c.args.sets.now) (λ m h. (gathered_all _ _ _ (some_none _ _ m c.loop-set-test.false) (c.loop-set.invariant m)).0 h) _ c.gathered.ensures.crowded
