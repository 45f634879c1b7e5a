use Rattle.std.proofs.Common.{◌≡◌, ℕ, ◌-◌, ◌+◌, List, [], ◌∷◌, ◌++◌, length, sym, ap, ◌∙◌, subst, append_assoc, arith, rules}
use Rattle.std.specs.List.{flat_map, All}
use Rattle.node_tree.specs.declared.node.Node.{Node}
use Rattle.node_tree.specs.Tree.{kids_of}
use Rattle.store_form.specs.declared.head.Head.{Head}
use Rattle.store_form.specs.Form.{node_bytes, head_bytes, head_of, IsNodeWithin}
use Rattle.store_form.proofs.Items.{Taken, taken_none, taken_more, taken_all, next_item}
use Rattle.store_form.proofs.NodeLaws.{within_none, within_head, within_kids, node_stands, joined_within, joined_bytes, joined_is}
use Rattle.store_form.proofs.front.Front.+node.Goals as goal

pub returns-then-levels-eq0-clause-found : goal.returns-then-levels-eq0-clause-found
returns-then-levels-eq0-clause-found t c = λ n left is e. within_none n (subst (λ (m : ℕ). IsNodeWithin m n) c.if-levels-eq0.true is)

pub returns-in_err-head-clause-found : goal.returns-in_err-head-clause-found
returns-in_err-head-clause-found t c = λ n left is e.
    let h = c.in_err-head.ensures.found (head_of n) (flat_map node_bytes (kids_of n) ++ left) (within_head c.args.levels n is) (node_stands n _ left e) in
    search rules

pub loop-i-init : goal.loop-i-init
loop-i-init t c =
    subst (λ (xs : List Node). Taken (IsNodeWithin (c.args.levels - 1)) node_bytes c.head.new.self.rest.now c.in_ok-head.head.kids 0 xs c.head.new.self.rest.now) (sym c.in_ok-kids.ensures)
    (taken_none (IsNodeWithin (c.args.levels - 1)) node_bytes c.head.new.self.rest.now c.in_ok-head.head.kids)

pub loop-i-preserved : goal.loop-i-preserved
loop-i-preserved t c =
    let pushed : c.push.new.self.items ≡ c.loop-i.kids.items ++ c.in_ok-kid.kid ∷ [] = search rules in
    subst (λ (xs : List Node). Taken (IsNodeWithin (c.args.levels - 1)) node_bytes c.head.new.self.rest.now c.in_ok-head.head.kids (c.loop-i._i + 1) xs c.node.new.self.rest.now) (sym pushed)
    (taken_more (IsNodeWithin (c.args.levels - 1)) node_bytes c.head.new.self.rest.now c.in_ok-head.head.kids c.loop-i._i _ _ c.loop-i.invariant (search rules) c.in_ok-kid.kid _ c.in_ok-kid.ensures.given.0 c.in_ok-kid.ensures.given.1 c.in_ok-kid.ensures.found)

pub returns-in_err-kid-clause-found : goal.returns-in_err-kid-clause-found
returns-in_err-kid-clause-found t c = λ n left is e.
    let h = c.in_ok-head.ensures.found (head_of n) (flat_map node_bytes (kids_of n) ++ left) (within_head c.args.levels n is) (node_stands n _ left e) in
    let z = next_item (IsNodeWithin (c.args.levels - 1)) node_bytes c.head.new.self.rest.now c.in_ok-head.head.kids c.loop-i._i _ _ c.loop-i.invariant (search rules) (kids_of n) left (within_kids c.args.levels n is) (sym (ap (λ (x : Head). x.kids) h.0)) h.1 in
    let f = c.in_err-kid.ensures.found z.0 (flat_map node_bytes z.1 ++ left) z.2 z.4 in
    search rules

pub returns-clause-given : goal.returns-clause-given
returns-clause-given t c =
    let kids : c.from_vec.result ≡ c.loop-i.kids.items = search rules in
    let many : length c.from_vec.result ≡ c.in_ok-head.head.kids = ap (λ (xs : List Node). length xs) kids ∙ omega (arith, c.loop-i.invariant.many) in (
      joined_within c.args.levels c.in_ok-head.head c.from_vec.result (omega arith) c.in_ok-head.ensures.given.0 many (subst (All (IsNodeWithin (c.args.levels - 1))) (sym kids) c.loop-i.invariant.all),
      c.in_ok-head.ensures.given.1
          ∙ ap (λ (v : List ℕ). head_bytes c.in_ok-head.head ++ v) (c.loop-i.invariant.front ∙ ap (λ (xs : List Node). flat_map node_bytes xs ++ c.loop-i.self.rest.now) (sym kids))
          ∙ sym (append_assoc (head_bytes c.in_ok-head.head) (flat_map node_bytes c.from_vec.result) c.loop-i.self.rest.now)
          ∙ ap (λ (v : List ℕ). v ++ c.loop-i.self.rest.now) (sym (joined_bytes c.in_ok-head.head c.from_vec.result many)),
    )

pub returns-clause-found : goal.returns-clause-found
returns-clause-found t c = λ n left is e.
    let kids : c.from_vec.result ≡ c.loop-i.kids.items = search rules in
    let h = c.in_ok-head.ensures.found (head_of n) (flat_map node_bytes (kids_of n) ++ left) (within_head c.args.levels n is) (node_stands n _ left e) in
    let end : c.loop-i._i ≡ c.in_ok-head.head.kids = omega arith in
    let all = taken_all (IsNodeWithin (c.args.levels - 1)) node_bytes c.head.new.self.rest.now c.in_ok-head.head.kids c.loop-i._i _ _ c.loop-i.invariant end (kids_of n) left (within_kids c.args.levels n is) (sym (ap (λ (x : Head). x.kids) h.0)) h.1 in
    (joined_is c.in_ok-head.head c.from_vec.result n h.0 (kids ∙ all.0), all.1)
