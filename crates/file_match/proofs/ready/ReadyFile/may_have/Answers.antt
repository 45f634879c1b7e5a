use Rattle.std.proofs.Common.{◌≡◌, ◌↔◌, true, false, sym, ◌∙◌, subst}
use Rattle.node_tree.specs.declared.view.FileView.{FileView}
use Rattle.node_match.proofs.Sets.{chain}
use Rattle.file_match.specs.Words.{AreMarked, MayHave}
use Rattle.file_match.proofs.Marked.{marked_may, member_may}
use Rattle.file_match.proofs.ready.ReadyFile.may_have.Goals as goal

pub returns-clause-exact : goal.returns-clause-exact
returns-clause-exact c =
    let p = c.args.pattern.now in
    let count = c.self.inside.words.count in
    let marks = c.self.inside.words.marks.items in
    let places = c.in_ok-wanted.wanted.places in
    let P : FileView → Type 0 = λ v. (c.may_match.result ≡ true) ↔ MayHave p v.tree in
    subst P c.self.view_is (chain (c.may_match.result ≡ true) (AreMarked count marks places) (MayHave p c.self.inside.view.now.tree) c.may_match.ensures.exact
    (marked_may count marks places p c.self.inside.view.now.tree c.self.invariant.all c.self.invariant.words_are c.in_ok-wanted.ensures))

pub returns-clause-lacks : goal.returns-clause-lacks
returns-clause-lacks c lacks known m x =
    let p = c.args.pattern.now in
    let count = c.self.inside.words.count in
    let marks = c.self.inside.words.marks.items in
    let tree = c.self.inside.view.now.tree in
    let T : FileView → Type 0 = λ v. MayHave p v.tree in
    let may : MayHave p tree = subst T (sym c.self.view_is) (member_may p c.args.self.now.tree known m x) in
    let marked = c.may_match.ensures.exact.1 ((marked_may count marks c.in_ok-wanted.wanted.places p tree c.self.invariant.all c.self.invariant.words_are c.in_ok-wanted.ensures).1 may) in
    absurd (let f : false ≡ true = sym lacks ∙ marked in cc)
