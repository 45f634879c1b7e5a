use Rattle.std.proofs.Common.{◌≡◌, true, false, inl, refl, subst}
use Rattle.std.specs.Prelude.{None, Some}
use Rattle.node_tree.specs.declared.view.FileView.{FileView}
use Rattle.file_match.specs.Words.{MayHave}
use Rattle.file_search.proofs.Joins.{beside_as, untrue, lacks_alone, may_joined, none_in, none_found}
use Rattle.file_search.proofs.whole.WholeFile.may_have.Goals as goal

pub returns-then-branch-clause-exact : goal.returns-then-branch-clause-exact
returns-then-branch-clause-exact c =
    let P : FileView → Type 0 = λ v. MayHave c.args.pattern.now v.tree in
    (λ _. inl (subst P c.self.view_is (c.in_ok-may_have.ensures.exact.0 c.if-branch.true)), λ _. refl)

pub returns-in-None-clause-exact : goal.returns-in-None-clause-exact
returns-in-None-clause-exact c =
    let view = c.args.self.now in
    let pattern = c.args.pattern.now in
    let P : FileView → Type 0 = λ v. MayHave pattern v.tree → ⊥ in
    let none = subst P c.self.view_is (untrue _ (MayHave pattern c.self.inside.written.tree) c.in_ok-may_have.ensures.exact c.if-branch.false) in
    let beside = beside_as view c.self.inside.written None c.self.inside.resolved c.self.view_is c.in-None.is c.self.invariant in
    (λ e. absurd (let f : false ≡ true = e in cc), λ may. absurd (lacks_alone view pattern beside none may))

pub returns-in-None-clause-lacks : goal.returns-in-None-clause-lacks
returns-in-None-clause-lacks c _ =
    let view = c.args.self.now in
    let pattern = c.args.pattern.now in
    let P : FileView → Type 0 = λ v. MayHave pattern v.tree → ⊥ in
    let none = subst P c.self.view_is (untrue _ (MayHave pattern c.self.inside.written.tree) c.in_ok-may_have.ensures.exact c.if-branch.false) in
    let beside = beside_as view c.self.inside.written None c.self.inside.resolved c.self.view_is c.in-None.is c.self.invariant in
    none_in view.lang view.tree pattern (lacks_alone view pattern beside none)

pub returns-in-Some-clause-exact : goal.returns-in-Some-clause-exact
returns-in-Some-clause-exact c =
    let view = c.args.self.now in
    let pattern = c.args.pattern.now in
    let P : FileView → Type 0 = λ v. MayHave pattern v.tree → ⊥ in
    let none = subst P c.self.view_is (untrue _ (MayHave pattern c.self.inside.written.tree) c.in_ok-may_have.ensures.exact c.if-branch.false) in
    let both = beside_as view c.self.inside.written (Some c.in-Some.resolved) c.self.inside.resolved c.self.view_is c.in-Some.is c.self.invariant in
    may_joined view pattern c.in-Some.resolved c.may_have-in-Some.result both.1 none c.may_have-in-Some.ensures.exact

pub returns-in-Some-clause-lacks : goal.returns-in-Some-clause-lacks
returns-in-Some-clause-lacks c =
    let view = c.args.self.now in
    let pattern = c.args.pattern.now in
    let P : FileView → Type 0 = λ v. MayHave pattern v.tree → ⊥ in
    let none = subst P c.self.view_is (untrue _ (MayHave pattern c.self.inside.written.tree) c.in_ok-may_have.ensures.exact c.if-branch.false) in
    let both = beside_as view c.self.inside.written (Some c.in-Some.resolved) c.self.inside.resolved c.self.view_is c.in-Some.is c.self.invariant in
    none_found view.lang view.tree pattern c.may_have-in-Some.result (may_joined view pattern c.in-Some.resolved c.may_have-in-Some.result both.1 none c.may_have-in-Some.ensures.exact)
