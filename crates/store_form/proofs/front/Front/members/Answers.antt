use Rattle.std.proofs.Common.{◌≡◌, ◌+◌, List, [], ◌∷◌, ◌++◌, length, sym, ap, ◌∙◌, subst, arith, rules}
use Rattle.std.specs.List.{flat_map, All}
use Rattle.node_tree.specs.declared.span.Span.{Span}
use Rattle.meta_bind.specs.declared.bound.Bound.{Bound}
use Rattle.store_form.specs.Form.{member_bytes, IsMember}
use Rattle.store_form.proofs.Items.{Taken, taken_more, taken_all, next_item}
use Rattle.store_form.proofs.front.Front.members.Goals as goal

pub loop-i-preserved : goal.loop-i-preserved
loop-i-preserved c =
    let pushed : c.push.new.self.items ≡ c.loop-i.members.items ++ c.in_ok-member.member ∷ [] = search rules in
    subst (λ (xs : List (Span × List Bound)). Taken IsMember member_bytes c.args.self.now.rest.now c.args.count (c.loop-i._i + 1) xs c.member.new.self.rest.now) (sym pushed)
    (taken_more IsMember member_bytes c.args.self.now.rest.now c.args.count c.loop-i._i _ _ c.loop-i.invariant (search rules) c.in_ok-member.member _ c.in_ok-member.ensures.given.0 c.in_ok-member.ensures.given.1 c.in_ok-member.ensures.found)

pub returns-in_err-member-clause-found : goal.returns-in_err-member-clause-found
returns-in_err-member-clause-found c = λ ys left is e.
    let z = next_item IsMember member_bytes c.args.self.now.rest.now c.args.count c.loop-i._i _ _ c.loop-i.invariant (search rules) ys left is.1 is.0 e in
    let f = c.in_err-member.ensures.found z.0 (flat_map member_bytes z.1 ++ left) z.2 z.4 in
    search rules

pub returns-clause-given : goal.returns-clause-given
returns-clause-given c =
    let same : c.from_vec.result ≡ c.loop-i.members.items = search rules in
    let many : length c.from_vec.result ≡ c.args.count = ap (λ (xs : List (Span × List Bound)). length xs) same ∙ omega (arith, c.loop-i.invariant.many) in (
      (many, subst (All IsMember) (sym same) c.loop-i.invariant.all),
      c.loop-i.invariant.front ∙ ap (λ (xs : List (Span × List Bound)). flat_map member_bytes xs ++ c.loop-i.self.rest.now) (sym same),
    )

pub returns-clause-found : goal.returns-clause-found
returns-clause-found c = λ ys left is e.
    let same : c.from_vec.result ≡ c.loop-i.members.items = search rules in
    let end : c.loop-i._i ≡ c.args.count = omega arith in
    let all = taken_all IsMember member_bytes c.args.self.now.rest.now c.args.count c.loop-i._i _ _ c.loop-i.invariant end ys left is.1 is.0 e in
    (same ∙ all.0, all.1)
