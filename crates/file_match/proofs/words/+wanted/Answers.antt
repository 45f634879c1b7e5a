use Rattle.std.proofs.Common.{◌≡◌, sym, ◌∙◌, ap, true, false, length, List, [], ◌∷◌, get_or, arith}
use Rattle.node_tree.specs.declared.node.Node.{Node}
use Rattle.node_tree.specs.Tree.{kids_of}
use Rattle.node_match.proofs.Inversion.{one_kid}
use Rattle.node_match.proofs.Parts.{asked_here, parts_as_many}
use Rattle.file_match.specs.Words.{Needs, PartNeeds, NeedsOwn, NeedsBelow, NeedsAt}
use Rattle.file_match.proofs.Gathered.{places_two, places_as, plain_needs, deep_needs, asked_needs, parts_on, parts_end}
use Rattle.file_match.proofs.words.+wanted.Goals as goal

pub add_parts-loop-at-init : goal.add_parts-loop-at-init
add_parts-loop-at-init t c i = (λ h. h, λ h. h)

pub add_parts-loop-at-preserved : goal.add_parts-loop-at-preserved
add_parts-loop-at-preserved t c = parts_on c.args.fixed c.args.pattern.now c.loop-at.at _ _ _ (omega (arith, parts_as_many c.args.pattern.now)) c.loop-at.invariant c.in_ok-add_part.ensures

pub add_parts-returns : goal.add_parts-returns
add_parts-returns t c = parts_end c.args.fixed c.args.pattern.now c.loop-at.at _ _ (omega (arith, parts_as_many c.args.pattern.now)) c.loop-at.invariant

pub add_inside-returns : goal.add_inside-returns
add_inside-returns t c =
    let kid = one_kid (kids_of c.args.pattern.now) (ap length (sym c.as_slice-inner.ensures) ∙ c.if-inner-ne1.false) in
    let here : c.index-inner-0.result ≡ kid.0 = c.index-inner-0.is ∙ ap (λ (ns : List Node). get_or ns 0 c.index-inner-0.result) (c.as_slice-inner.ensures ∙ kid.1) in
    let one : kids_of c.args.pattern.now ≡ c.index-inner-0.result ∷ [] = kid.1 ∙ ap (λ (n : Node). n ∷ []) (sym here) in
    places_as _ _ (Needs c.args.fixed c.index-inner-0.result) (Needs c.args.fixed c.args.pattern.now) (deep_needs c.args.fixed c.args.pattern.now c.index-inner-0.result c.requires one) c.in_ok-add_wanted.ensures

pub add_part-returns : goal.add_part-returns
add_part-returns t c =
    let p = c.args.pattern.now in
    let q = c.index-as_slice-at.result in
    let here = asked_here p _ c.args.at q c.as_slice.ensures c.requires c.index-as_slice-at.is (sym c.is_free.ensures ∙ c.if-is_free.false) in
    places_as _ _ (Needs c.args.fixed q) (NeedsAt c.args.fixed p c.args.at) (asked_needs c.args.fixed p q c.args.at _ here) c.in_ok-add_wanted.ensures

pub add_below-returns : goal.add_below-returns
add_below-returns t c =
    let p = c.args.pattern.now in
    places_as _ _ (PartNeeds c.args.fixed p) (NeedsBelow c.args.fixed p)
    (λ w. (λ h. (λ is. absurd (let e : false ≡ true = sym (sym c.is_literal.ensures ∙ c.if-is_literal.false) ∙ is in cc), h), λ h. h.1)) c.in_ok-add_parts.ensures

pub add_wanted-returns-in_ok-add_below-in-Plain : goal.add_wanted-returns-in_ok-add_below-in-Plain
add_wanted-returns-in_ok-add_below-in-Plain t c =
    let p = c.args.pattern.now in
    places_two _ _ _ (NeedsOwn c.args.fixed p) (NeedsBelow c.args.fixed p) (Needs c.args.fixed p) (plain_needs c.args.fixed p (sym c.role_of.ensures ∙ c.in-Plain.is)) c.in_ok-add_own-in-Plain.ensures c.in_ok-add_below-in-Plain.ensures
