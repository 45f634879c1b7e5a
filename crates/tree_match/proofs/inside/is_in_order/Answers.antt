use Rattle.std.proofs.Common.{◌≡◌, ◌∙◌, refl, sym, ap, Bool, true, false, not}
use Rattle.node_match.specs.Orders.{some_is, is_named}
use Rattle.tree_match.proofs.InsideLaws.{itself_in_order, arguments_in_order}
use Rattle.tree_match.proofs.inside.is_in_order.Goals as goal

is_false : (r : Bool) → not r ≡ true → r ≡ false
is_false true e = absurd cc
is_false false e = refl

pub returns-then-not-is_arguments : goal.returns-then-not-is_arguments
returns-then-not-is_arguments c _ =
    itself_in_order c.args.holder c.args.pattern.now c.args.node.now (sym c.role_of.ensures ∙ c.in-Plain.is) (sym c.is_literal.ensures ∙ c.if-is_literal.false) (sym c.order_of.ensures ∙ c.in-Fixed.is)
    (c.is_alike.ensures.0 c.if-not-is_alike.false) (sym c.is_arguments.ensures ∙ c.if-not-is_arguments.true)

pub returns : goal.returns
returns c so =
    arguments_in_order c.args.holder c.args.pattern.now c.args.node.now (sym c.role_of.ensures ∙ c.in-Plain.is) (sym c.is_literal.ensures ∙ c.if-is_literal.false) (sym c.order_of.ensures ∙ c.in-Fixed.is)
    (c.is_alike.ensures.0 c.if-not-is_alike.false) (sym c.is_arguments.ensures ∙ c.if-not-is_arguments.false)
    (ap (some_is is_named) (sym c.as_slice.ensures) ∙ sym c.has_names.ensures ∙ c.if-has_names.false) (ap (some_is is_named) (sym c.as_slice-2.ensures) ∙ sym c.has_names-2.ensures ∙ is_false _ so)
