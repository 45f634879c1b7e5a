use Rattle.std.proofs.Common.{◌≡◌, ℕ, ◌-◌, List, ◌++◌, map, sym, ap, ◌∙◌, subst, append_assoc, arith, rules}
use Rattle.std.specs.List.{flat_map, All}
use Rattle.node_tree.specs.declared.node.Node.{Node}
use Rattle.node_tree.specs.Tree.{kids_of, content_of}
use Rattle.store_form.specs.Form.{node_bytes, head_bytes, head_of, IsNodeWithin}
use Rattle.store_form.proofs.Adding.{one_of, added_all}
use Rattle.store_form.proofs.NodeLaws.{within_none, within_head, content_kids_within, content_within, content_bytes}
use Rattle.store_form.proofs.written.+add_node.Goals as goal

pub returns-then-levels-eq0 : goal.returns-then-levels-eq0
returns-then-levels-eq0 t c = λ is. within_none (content_of c.args.node.now) (subst (λ (m : ℕ). IsNodeWithin m (content_of c.args.node.now)) c.if-levels-eq0.true is)

pub returns-in_err-add_head : goal.returns-in_err-add_head
returns-in_err-add_head t c =
    let part = within_head c.args.levels (content_of c.args.node.now) in
    search rules

pub returns-in_err-add_node : goal.returns-in_err-add_node
returns-in_err-add_node t c =
    let n = c.args.node.now in
    let part : IsNodeWithin c.args.levels (content_of n) → IsNodeWithin (c.args.levels - 1) (content_of c.kid-item.result) = λ is.
    let kids : map content_of c.as_slice-kid-items.result.now ≡ map content_of (kids_of n) = ap (map content_of) c.as_slice-kid-items.ensures in
    one_of (IsNodeWithin (c.args.levels - 1)) node_bytes content_of c.add_head.new.out c.as_slice-kid-items.result.now c.loop-kid.kid-index c.kid-item.result c.loop-kid-test.true c.kid-item.is (subst (All (IsNodeWithin (c.args.levels - 1))) (sym kids) (content_kids_within c.args.levels n is)) in
    search rules

pub returns : goal.returns
returns t c =
    let n = c.args.node.now in
    let whole = added_all (IsNodeWithin (c.args.levels - 1)) node_bytes content_of c.add_head.new.out c.as_slice-kid-items.result.now c.loop-kid.kid-index c.loop-kid.out c.loop-kid.invariant c.loop-kid-test.false in
    let kids : map content_of c.as_slice-kid-items.result.now ≡ map content_of (kids_of n) = ap (map content_of) c.as_slice-kid-items.ensures in (
      content_within c.args.levels n (omega arith) c.in_ok-add_head.ensures.0 (subst (All (IsNodeWithin (c.args.levels - 1))) kids whole.0),
      whole.1 ∙ ap (λ (v : List ℕ). v ++ flat_map node_bytes (map content_of c.as_slice-kid-items.result.now)) c.in_ok-add_head.ensures.1
          ∙ append_assoc c.args.out.now (head_bytes (head_of (content_of n))) (flat_map node_bytes (map content_of c.as_slice-kid-items.result.now))
          ∙ ap (λ (ns : List Node). c.args.out.now ++ (head_bytes (head_of (content_of n)) ++ flat_map node_bytes ns)) kids ∙ ap (λ (v : List ℕ). c.args.out.now ++ v) (sym (content_bytes n)),
    )
