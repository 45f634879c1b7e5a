use Rattle.std.proofs.Common.{◌≡◌, Bool, true, false, refl, sym, ◌∙◌, [], subst, arith}
use Rattle.std.specs.Prelude.{not}
use Rattle.std.proofs.lemmas.Bool.Decides.{nat_tests}
use Rattle.node_tree.specs.declared.node.Node.{Node}
use Rattle.node_tree.specs.Numbers.{root_of}
use Rattle.tree_match.specs.Members.{MemberOf, MemberRun}
use Rattle.tree_match.proofs.Pres.{no_items}
use Rattle.file_match.proofs.Marked.{lacks_member, lacks_run}
use Rattle.file_match.proofs.tree.is_ruled_out.Goals as goal

turned : (b : Bool) → not b ≡ true → b ≡ false
turned true e = absurd cc
turned false e = refl

pub returns-clause-member : goal.returns-clause-member
returns-clause-member c out m x =
    let known = c.args.known.names.now in
    let p = c.args.pattern.now in
    let tree = c.tree.inside.tree.now in
    let T : Node → Type 0 = λ n. MemberOf known p.shape p.tree n m in
    let none : c.is_empty.result ≡ true → known ≡ [] = λ e. no_items known (let f = sym c.is_empty.ensures ∙ e in grind (arith, nat_tests)) in
    lacks_member c.is_empty.result known none p.shape p.tree tree (c.may_match.ensures.lacks (turned _ out) c.is_empty.result p.shape p.tree tree c.tree.invariant.words_are c.wanted-wanted.ensures) m (subst T (sym c.tree.view_is) x)

pub returns-clause-own_run : goal.returns-clause-own_run
returns-clause-own_run c out run m x =
    let known = c.args.known.names.now in
    let p = c.args.pattern.now in
    let tree = c.tree.inside.tree.now in
    let T : Node → Type 0 = λ n. MemberRun known p.tree (root_of n) m in
    let none : c.is_empty.result ≡ true → known ≡ [] = λ e. no_items known (let f = sym c.is_empty.ensures ∙ e in grind (arith, nat_tests)) in
    lacks_run c.is_empty.result known none p.shape p.tree tree run (c.may_match.ensures.lacks (turned _ out) c.is_empty.result p.shape p.tree tree c.tree.invariant.words_are c.wanted-wanted.ensures) m (subst T (sym c.tree.view_is) x)
