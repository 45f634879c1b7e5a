use Rattle.std.proofs.Common.{◌≡◌, ◌+◌, List, [], ◌∷◌, ◌++◌, length, sym, ◌∙◌, subst, arith, rules}
use Rattle.std.specs.List.{flat_map}
use Rattle.meta_bind.specs.declared.bound.Bound.{Bound}
use Rattle.store_form.specs.Form.{bound_bytes, IsBound}
use Rattle.store_form.proofs.Items.{Taken, taken_more, taken_all, next_item, list_stands, list_taken}
use Rattle.store_form.proofs.front.Front.bounds.Goals as goal

pub loop-i-preserved : goal.loop-i-preserved
loop-i-preserved c =
    let pushed : c.push.new.self.items ≡ c.loop-i.bounds.items ++ c.in_ok-bound.bound ∷ [] = search rules in
    subst (λ (xs : List Bound). Taken IsBound bound_bytes c.number.new.self.rest.now c.in_ok-count.count (c.loop-i._i + 1) xs c.bound.new.self.rest.now) (sym pushed)
    (taken_more IsBound bound_bytes c.number.new.self.rest.now c.in_ok-count.count c.loop-i._i _ _ c.loop-i.invariant (search rules) c.in_ok-bound.bound _ c.in_ok-bound.ensures.given.0 c.in_ok-bound.ensures.given.1 c.in_ok-bound.ensures.found)

pub returns-in_err-bound-clause-found : goal.returns-in_err-bound-clause-found
returns-in_err-bound-clause-found c = λ ys left is e.
    let h = c.in_ok-count.ensures.found (length ys) (flat_map bound_bytes ys ++ left) is.0 (list_stands bound_bytes ys _ left e) in
    let z = next_item IsBound bound_bytes c.number.new.self.rest.now c.in_ok-count.count c.loop-i._i _ _ c.loop-i.invariant (search rules) ys left is.1 (sym h.0) h.1 in
    let f = c.in_err-bound.ensures.found z.0 (flat_map bound_bytes z.1 ++ left) z.2 z.4 in
    search rules

pub returns-clause-given : goal.returns-clause-given
returns-clause-given c =
    let same : c.from_vec.result ≡ c.loop-i.bounds.items = search rules in
    let end : c.loop-i._i ≡ c.in_ok-count.count = omega arith in
    list_taken IsBound bound_bytes _ c.number.new.self.rest.now c.in_ok-count.count c.loop-i._i c.loop-i.bounds.items c.from_vec.result _ c.loop-i.invariant end c.in_ok-count.ensures.given.0 c.in_ok-count.ensures.given.1 same

pub returns-clause-found : goal.returns-clause-found
returns-clause-found c = λ ys left is e.
    let same : c.from_vec.result ≡ c.loop-i.bounds.items = search rules in
    let h = c.in_ok-count.ensures.found (length ys) (flat_map bound_bytes ys ++ left) is.0 (list_stands bound_bytes ys _ left e) in
    let end : c.loop-i._i ≡ c.in_ok-count.count = omega arith in
    let all = taken_all IsBound bound_bytes c.number.new.self.rest.now c.in_ok-count.count c.loop-i._i _ _ c.loop-i.invariant end ys left is.1 (sym h.0) h.1 in
    (same ∙ all.0, all.1)
