use Rattle.std.proofs.Common.{◌∙◌, sym, subst, inr, List, ℕ}
use Rattle.node_tree.specs.Tree.{text_of}
use Rattle.node_match.specs.declared.class.Role.{Role}
use Rattle.node_search.specs.Steady.{IsBound, BindsNothing}
use Rattle.node_search.proofs.steady.binds_nothing.Goals as goal

pub returns-else-is_wild : goal.returns-else-is_wild
returns-else-is_wild c so =
    let P : Role → Type 0 = λ r. BindsNothing c.args.trail.now r (text_of c.args.pattern.now) in
    let Q : List ℕ → Type 0 = IsBound c.args.trail.now in
    subst P (sym (sym c.role_of.ensures ∙ c.in-Meta.is)) (inr (subst Q c.as_str.ensures (c.is_bound.ensures so)))

pub returns-in-MetaDots : goal.returns-in-MetaDots
returns-in-MetaDots c so =
    let P : Role → Type 0 = λ r. BindsNothing c.args.trail.now r (text_of c.args.pattern.now) in
    let Q : List ℕ → Type 0 = IsBound c.args.trail.now in
    subst P (sym (sym c.role_of.ensures ∙ c.in-MetaDots.is)) (subst Q c.as_str-in-MetaDots.ensures (c.is_bound-in-MetaDots.ensures so))
