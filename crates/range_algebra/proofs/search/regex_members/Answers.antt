use Rattle.std.proofs.Common.{List, sym, subst}
use Rattle.std.proofs.lemmas.Result.{IfOk-weaker}
use Rattle.tree_match.specs.Members.{Member}
use Rattle.range_algebra.specs.Trees.{regex}
use Rattle.range_algebra.specs.Regexes.{IsMatch}
use Rattle.range_algebra.specs.Parts.{IsSetOf}
use Rattle.member_join.proofs.Limits.{at_most, too_many}
use Rattle.range_algebra.proofs.Regexes.{matches_set}
use Rattle.range_algebra.proofs.search.regex_members.Goals as goal

pub returns-clause-exact : goal.returns-clause-exact
returns-clause-exact c =
    let set = matches_set c.args.scene.leaves.now c.args.scene.rx.now c.args.scene.view.now.bytes c.args.number _ c.in_ok-matches_of.ensures in
    let P : List Member → Type 0 = IsSetOf c.args.scene.leaves.now c.args.scene.rx.now c.args.scene.view.now.bytes (regex c.args.number) in
    IfOk-weaker c.limited.result _ _ (λ v h. subst P (sym h.0) set) c.limited.ensures.few

pub returns-clause-few : goal.returns-clause-few
returns-clause-few c =
    let set = matches_set c.args.scene.leaves.now c.args.scene.rx.now c.args.scene.view.now.bytes c.args.number _ c.in_ok-matches_of.ensures in
    IfOk-weaker c.limited.result _ _ (λ v h. at_most (IsMatch c.args.scene.rx.now c.args.scene.view.now.bytes c.args.number) _ set.exact h.1) c.limited.ensures.few

pub returns-clause-crowded : goal.returns-clause-crowded
returns-clause-crowded c =
    let set = matches_set c.args.scene.leaves.now c.args.scene.rx.now c.args.scene.view.now.bytes c.args.number _ c.in_ok-matches_of.ensures in
    too_many (IsMatch c.args.scene.rx.now c.args.scene.view.now.bytes c.args.number) _ _ set.ordered (λ m h. (set.exact m).0 h) c.limited.ensures.named c.limited.ensures.many
