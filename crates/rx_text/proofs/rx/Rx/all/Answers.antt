use Rattle.std.proofs.Common.{List, sym, subst, ◌∙◌}
use Rattle.std.proofs.lemmas.Result.{IfOk-weaker}
use Rattle.node_tree.specs.declared.span.Span.{Span}
use Rattle.rx_text.specs.Searches.{FollowFrom}
use Rattle.rx_text.proofs.Matches.{all_of, spans_follow}
use Rattle.rx_text.proofs.rx.Rx.all.Goals as goal

pub returns-clause-found : goal.returns-clause-found
returns-clause-found c =
    IfOk-weaker c.spans_in.result _ _
    (λ spans is. is ∙ all_of _ _ _ _ c.as_ref.ensures c.self.view_is c.self.invariant (λ k. (c.type_inv.text k).fits))
    c.spans_in.ensures.found

pub returns-clause-ordered : goal.returns-clause-ordered
returns-clause-ordered c =
    let P : List Span → Type 0 = FollowFrom 0 in
    IfOk-weaker c.spans_in.result _ _ (λ spans is. subst P (sym is) (spans_follow _ _)) c.spans_in.ensures.found
