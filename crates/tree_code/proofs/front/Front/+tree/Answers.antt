use Rattle.std.proofs.Common.{◌≡◌, ℕ, ◌+◌, List, [], ◌∷◌, ◌++◌, length, sym, ap, ◌∙◌, arith, rules}
use Rattle.std.specs.List.{flat_map}
use Rattle.node_tree.specs.declared.node.Node.{Node}
use Rattle.node_tree.specs.Tree.{kids_of}
use Rattle.tree_code.specs.declared.head.Head.{Head}
use Rattle.tree_code.specs.Code.{tree_code}
use Rattle.tree_code.specs.Heads.{head_of}
use Rattle.tree_code.proofs.Reading.{Taken, taken_none, taken_more, taken_all, node_stands, joined_is}
use Rattle.tree_code.proofs.front.Front.+tree.Goals as goal

pub loop-i-init : goal.loop-i-init
loop-i-init t c = taken_none c.head.new.self.rest.now c.in_ok-head.head.kids _ (search rules)

pub loop-i-preserved : goal.loop-i-preserved
loop-i-preserved t c =
    let pushed : c.push.new.self.items ≡ c.loop-i.kids.items ++ c.in_ok-kid.kid ∷ [] = search rules in
    taken_more c.head.new.self.rest.now c.in_ok-head.head.kids c.loop-i._i c.loop-i.kids.items c.loop-i.self.rest.now c.loop-i.invariant (search rules) c.in_ok-kid.kid c.tree.new.self.rest.now c.push.new.self.items pushed c.in_ok-kid.ensures.shorter c.in_ok-kid.ensures.read

pub returns-clause-read : goal.returns-clause-read
returns-clause-read t c = λ n left e.
    let kids : c.from_vec.result ≡ c.loop-i.kids.items = search rules in
    let h = c.in_ok-head.ensures.read (head_of n) (flat_map tree_code (kids_of n) ++ left) (node_stands n _ left e) in
    let end : c.loop-i._i ≡ c.in_ok-head.head.kids = omega arith in
    let all = taken_all c.head.new.self.rest.now c.in_ok-head.head.kids c.loop-i._i c.loop-i.kids.items c.loop-i.self.rest.now c.loop-i.invariant end (kids_of n) left (sym (ap (λ (x : Head). x.kids) h.0)) h.1 in
    (joined_is c.in_ok-head.head c.from_vec.result n h.0 (kids ∙ all.0), all.1)
