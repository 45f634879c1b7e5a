use Rattle.std.proofs.Common.{List, ℕ, sym, subst}
use Rattle.tree_match.specs.Same.{AreKeyPlaces}
use Rattle.tree_match.proofs.KeyLaws.{on_some}
use Rattle.tree_match.proofs.same_kids.SameKids.of.Goals as goal

pub returns : goal.returns
returns c =
    let keys = on_some _ _ _ c.in-Some.is c.in_ok-places.ensures in
    let Named : List ℕ → Type 0 = λ name. AreKeyPlaces c.args.kind c.args.pattern.now name c.args.kids.now c.in_ok-places-2.places.items in
    record {
      keys = subst Named (sym c.in_ok-from_str.ensures) (λ i n lt is. let (key, holds, there) = keys i n lt is in (key, holds, c.in_ok-places-2.ensures.same _ there));
      sorted = c.in_ok-places-2.ensures.order;
    }
