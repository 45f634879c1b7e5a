use Rattle.std.proofs.Common.{List, sym, subst}
use Rattle.std.specs.List.{All}
use Rattle.node_tree.specs.Span.{LiesIn}
use Rattle.meta_bind.specs.declared.bound.Bound.{Bound}
use Rattle.store_file.proofs.SeenBounds.{to_seen, from_seen}
use Rattle.store_file.proofs.placed.member_lies_in.Goals as goal

pub returns-then-lies_in : goal.returns-then-lies_in
returns-then-lies_in c =
    let text = c.args.text.now in
    let All' : List Bound → Type 0 = λ (bs : List Bound). All (λ (b : Bound). LiesIn text b.span) bs in (
      λ h. (c.lies_in.ensures.0 c.if-lies_in.true, subst All' c.bounds.ensures.bounds (to_seen text c.bounds.result.now (c.all_lie_in.ensures.0 h))),
      λ h. c.all_lie_in.ensures.1 (from_seen text c.bounds.result.now (subst All' (sym c.bounds.ensures.bounds) h.1)),
    )
