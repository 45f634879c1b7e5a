use Rattle.std.proofs.Common.{List, ◌++◌, sym, ap, ◌∙◌, subst}
use Rattle.meta_bind.specs.declared.bound.Bound.{Bound}
use Rattle.meta_bind.specs.Bounds.{NamesAscend}
use Rattle.store_form.specs.Form.{binding_bytes, IsBinding}
use Rattle.store_form.proofs.NodeLaws.{seen_all}
use Rattle.store_form.proofs.front.Front.binding.Goals as goal

pub of-requires : goal.of-requires
of-requires c =
    let same = seen_all c.in_ok-bounds.bounds c.in_ok-bounds.ensures.given.0.1 in
    let ordered : NamesAscend c.in_ok-bounds.bounds = subst NamesAscend c.as_slice.ensures (c.is_in_order.ensures.0 c.if-not-is_in_order.false) in
    subst NamesAscend (sym same) ordered

pub returns-clause-given : goal.returns-clause-given
returns-clause-given c =
    let same = c.of.ensures ∙ seen_all c.in_ok-bounds.bounds c.in_ok-bounds.ensures.given.0.1 in
    let ordered : NamesAscend c.in_ok-bounds.bounds = subst NamesAscend c.as_slice.ensures (c.is_in_order.ensures.0 c.if-not-is_in_order.false) in
    let all : IsBinding c.in_ok-bounds.bounds = (c.in_ok-bounds.ensures.given.0, ordered) in
    (subst IsBinding (sym same) all, c.in_ok-bounds.ensures.given.1 ∙ ap (λ (bs : List Bound). binding_bytes bs ++ c.bounds.new.self.rest.now) (sym same))

pub returns-clause-found : goal.returns-clause-found
returns-clause-found c = λ x left is e.
    let same = c.of.ensures ∙ seen_all c.in_ok-bounds.bounds c.in_ok-bounds.ensures.given.0.1 in
    let f = c.in_ok-bounds.ensures.found x left is.0 e in
    (same ∙ f.0, f.1)
