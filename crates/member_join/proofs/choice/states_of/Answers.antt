use Rattle.std.proofs.Common.{◌∙◌, sym, arith}
use Rattle.std.proofs.lemmas.Bool.Decides.{nat_tests}
use Rattle.member_join.proofs.Reaching.{no_items, none_reached, none_searched}
use Rattle.member_join.proofs.choice.states_of.Goals as goal

pub returns-then-is_empty-clause-exact : goal.returns-then-is_empty-clause-exact
returns-then-is_empty-clause-exact c =
    let none = no_items c.args.plains.now (let e = sym c.is_empty.ensures ∙ c.if-is_empty.true in grind (arith, nat_tests)) in
    none_reached _ _ _ none (c.requires.some none) c.new.ensures.items

pub returns-then-is_empty-clause-few : goal.returns-then-is_empty-clause-few
returns-then-is_empty-clause-few c =
    let none = no_items c.args.plains.now (let e = sym c.is_empty.ensures ∙ c.if-is_empty.true in grind (arith, nat_tests)) in
    none_searched _ _ none (c.requires.some none)
