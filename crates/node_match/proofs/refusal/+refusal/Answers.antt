use Rattle.std.proofs.Common.{◌≡◌, inr, Bool, true, false, not, arith, sym, ap, ◌∙◌, subst, length, List, IsTrue}
use Rattle.std.specs.Prelude.{Option}
use Rattle.std.specs.Option.{option_copied}
use Rattle.std.specs.Borrow.{Bor}
use Rattle.node_tree.specs.declared.node.Node.{Node}
use Rattle.node_tree.specs.Tree.{kids_of}
use Rattle.node_match.specs.Sets.{Among}
use Rattle.node_match.specs.Free.{parts_of}
use Rattle.node_match.specs.Orders.{has_dots, some_is, is_named}
use Rattle.node_match.proofs.Sets.{among_at}
use Rattle.node_match.proofs.Refusals.{other_refused, kids_refused, list_refused, choice_refused, number_refused, asked_refused, refused_next, refused_all, string_refused, kid_arguments_refused, kid_itself_refused, unlike_refused, named_refused, unnamed_refused}
use Rattle.node_match.proofs.Arguments.{arguments_listed}
use Rattle.node_match.proofs.Parts.{parts_as_many}
use Rattle.node_match.proofs.Refused.{same_number, whole_refused, none_left, one_refused, next_reached, NeverTakes}
use Rattle.node_match.proofs.refusal.+refusal.Goals as goal

not_both : (r : Bool) → not r ≡ true → r ≡ true → ⊥
not_both true e f = absurd cc
not_both false e f = absurd cc

untrue : {A : Type 0} (r : Bool) → (A → IsTrue r) → r ≡ false → A → ⊥
untrue r f is a = let e : false ≡ true = sym is ∙ f a in cc

pub is_refused-returns-else-is_same : goal.is_refused-returns-else-is_same
is_refused-returns-else-is_same t c fails =
    string_refused c.args.pattern.now c.args.node.now (sym c.role_of.ensures ∙ c.in-StrAny.is) (untrue _ c.is_same.ensures.1 c.if-is_same.false) (λ is. not_both _ fails (c.is_string.ensures.1 is))

pub is_refused-returns-then-not-is_alike : goal.is_refused-returns-then-not-is_alike
is_refused-returns-then-not-is_alike t c _ =
    other_refused c.args.pattern.now c.args.node.now (sym c.role_of.ensures ∙ c.in-Plain.is) (untrue _ c.may_hold.ensures.1 c.if-may_hold.false) (untrue _ c.is_alike.ensures.1 c.if-not-is_alike.true)

pub is_refused-returns-else-levels-eq0 : goal.is_refused-returns-else-levels-eq0
is_refused-returns-else-levels-eq0 t c refused =
    kids_refused c.args.pattern.now c.args.node.now (sym c.role_of.ensures ∙ c.in-Plain.is) (untrue _ c.may_hold.ensures.1 c.if-may_hold.false) (c.are_kids_refused.ensures refused)

pub are_kids_refused-returns-in-Fixed : goal.are_kids_refused-returns-in-Fixed
are_kids_refused-returns-in-Fixed t c refused =
    list_refused c.args.pattern.now c.args.node.now c.as_slice-nodes.result.now (sym c.order_of.ensures ∙ c.in-Fixed.is) c.as_slice-nodes.ensures (c.are_refused.ensures refused)

pub are_kids_refused-returns-in-Any : goal.are_kids_refused-returns-in-Any
are_kids_refused-returns-in-Any t c refused =
    choice_refused c.args.pattern.now c.args.node.now c.as_slice-nodes.result.now (sym c.order_of.ensures ∙ c.in-Any.is) c.as_slice-nodes.ensures (c.is_choice_refused.ensures refused)

pub is_choice_refused-returns-then-not-has_dots : goal.is_choice_refused-returns-then-not-has_dots
is_choice_refused-returns-then-not-has_dots t c _ =
    let ps = kids_of c.args.pattern.now in
    let none = sym (c.has_dots.ensures ∙ ap has_dots c.as_slice-patterns.ensures) ∙ c.if-not-has_dots.true in
    number_refused ps c.args.nodes.now none (λ e. c.if-nodes-patterns.true (e ∙ ap length (sym c.as_slice-patterns.ensures)))

pub is_choice_refused-returns-then-not-is_dots : goal.is_choice_refused-returns-then-not-is_dots
is_choice_refused-returns-then-not-is_dots t c _ =
    let one = c.one-item.result in
    let P : List Node → Type 0 = λ ps. Among ps one in
    let among = subst P c.as_slice-patterns.ensures (among_at c.as_slice-patterns.result.now c.loop-one.one-index one c.loop-one-test.true c.one-item.is) in
    asked_refused (kids_of c.args.pattern.now) c.args.nodes.now one among (sym c.is_dots.ensures ∙ c.if-not-is_dots.true) (c.is_none.ensures c.if-is_none.true)

pub is_none-loop-node-init : goal.is_none-loop-node-init
is_none-loop-node-init t c m among = inr among

pub is_none-loop-node-preserved : goal.is_none-loop-node-preserved
is_none-loop-node-preserved t c =
    refused_next c.args.pattern.now c.args.nodes.now c.loop-node.node-index c.node-item.result c.loop-node-test.true c.node-item.is (c.is_refused.ensures c.if-not-is_refused.false) c.loop-node.invariant

pub is_none-returns : goal.is_none-returns
is_none-returns t c _ = refused_all c.args.pattern.now c.args.nodes.now c.loop-node.node-index c.loop-node-test.false c.loop-node.invariant

pub are_refused-returns-then-are_single : goal.are_refused-returns-then-are_single
are_refused-returns-then-are_single t c _ =
    same_number c.args.holder (parts_of c.args.pattern.now) c.args.nodes.now (c.are_single.ensures.0 c.if-are_single.true) (omega (arith, parts_as_many c.args.pattern.now, c.len.ensures, c.if-len-nodes.true))

pub are_refused-returns : goal.are_refused-returns
are_refused-returns t c refused = whole_refused c.args.holder (parts_of c.args.pattern.now) c.args.nodes.now (c.is_front_refused.ensures refused)

pub is_front_refused-returns-then-nodes-at : goal.is_front_refused-returns-then-nodes-at
is_front_refused-returns-then-nodes-at t c _ =
    none_left c.args.holder (parts_of c.args.pattern.now) c.args.nodes.now c.loop-at.at _ (c.is_single.ensures.0 c.if-not-is_single.false) c.part_at-part.ensures c.loop-at.invariant (omega (arith, c.if-nodes-at.true))

pub is_front_refused-returns-then-is_kid_refused : goal.is_front_refused-returns-then-is_kid_refused
is_front_refused-returns-then-is_kid_refused t c _ =
    let P : Option (Bor Node) → Type 0 = λ o. NeverTakes c.args.holder (option_copied o) c.index-nodes-at.result in
    one_refused c.args.holder (parts_of c.args.pattern.now) c.args.nodes.now c.loop-at.at _ (c.is_single.ensures.0 c.if-not-is_single.false) c.part_at-part.ensures c.loop-at.invariant
    c.index-nodes-at.result (omega (arith, c.if-nodes-at.false)) c.index-nodes-at.is (subst P (sym c.in-Some.is) (c.is_kid_refused.ensures c.if-is_kid_refused.true))

pub is_front_refused-loop-at-preserved : goal.is_front_refused-loop-at-preserved
is_front_refused-loop-at-preserved t c =
    next_reached c.args.holder (parts_of c.args.pattern.now) c.args.nodes.now c.loop-at.at _ (c.is_single.ensures.0 c.if-not-is_single.false) c.part_at-part.ensures c.loop-at.invariant
    c.index-nodes-at.result (omega (arith, c.if-nodes-at.false)) c.index-nodes-at.is

pub is_kid_refused-returns-then-is_arguments : goal.is_kid_refused-returns-then-is_arguments
is_kid_refused-returns-then-is_arguments t c refused =
    kid_arguments_refused c.args.holder c.args.pattern.now c.args.node.now (sym c.is_arguments.ensures ∙ c.if-is_arguments.true) (c.are_arguments_refused.ensures refused)

pub is_kid_refused-returns : goal.is_kid_refused-returns
is_kid_refused-returns t c refused = kid_itself_refused c.args.holder c.args.pattern.now c.args.node.now (sym c.is_arguments.ensures ∙ c.if-is_arguments.false) (c.is_refused.ensures refused)

pub is_kid_refused-are_arguments_refused-requires : goal.is_kid_refused-are_arguments_refused-requires
is_kid_refused-are_arguments_refused-requires t c = (omega (arith, c.decreases), arguments_listed c.args.holder c.args.pattern.now (sym c.is_arguments.ensures ∙ c.if-is_arguments.true))

pub are_arguments_refused-returns-then-not-is_alike : goal.are_arguments_refused-returns-then-not-is_alike
are_arguments_refused-returns-then-not-is_alike t c _ = unlike_refused c.args.pattern.now c.args.node.now (untrue _ c.is_alike.ensures.1 c.if-not-is_alike.true)

pub are_arguments_refused-returns-then-has_names : goal.are_arguments_refused-returns-then-has_names
are_arguments_refused-returns-then-has_names t c refused =
    named_refused c.args.pattern.now c.args.node.now c.as_slice-nodes.result.now c.as_slice-nodes.ensures (c.is_named_refused.ensures refused)

pub are_arguments_refused-returns : goal.are_arguments_refused-returns
are_arguments_refused-returns t c refused =
    unnamed_refused c.args.pattern.now c.args.node.now c.as_slice-nodes.result.now c.requires (ap (some_is is_named) (sym c.as_slice-patterns.ensures) ∙ sym c.has_names.ensures ∙ c.if-has_names.false) (sym c.has_names-2.ensures ∙ c.if-has_names-2.false)
    c.as_slice-nodes.ensures (c.are_refused.ensures refused)

pub is_named_refused-returns-then-is_none : goal.is_named_refused-returns-then-is_none
is_named_refused-returns-then-is_none t c _ =
    let one = c.one-item.result in
    let P : List Node → Type 0 = λ ps. Among ps one in
    (one, subst P c.as_slice-one-items.ensures (among_at c.as_slice-one-items.result.now c.loop-one.one-index one c.loop-one-test.true c.one-item.is), sym c.is_named.ensures ∙ c.if-is_named.true, c.is_none.ensures c.if-is_none.true)
