use Rattle.std.proofs.Common.{refl, true, false, ◌≡◌, sym, ◌∙◌}
use Rattle.node_search.proofs.Found.{none_found, some_found}
use Rattle.node_search.proofs.matched.is_matched.Goals as goal

pub returns-then-is_empty : goal.returns-then-is_empty
returns-then-is_empty c h held = ((λ e. absurd cc), λ (b, x). absurd (none_found _ _ _ c.new-found.ensures (c.in_ok-relate_kid.ensures h held) (c.is_empty.ensures.0 c.if-is_empty.true) b x))

pub returns : goal.returns
returns c h held = (
  (λ _. some_found _ _ _ c.new-found.ensures (c.in_ok-relate_kid.ensures h held) (λ none. let yes = c.is_empty.ensures.1 none in let e : false ≡ true = sym c.if-is_empty.false ∙ yes in cc)),
  λ _. refl,
)
