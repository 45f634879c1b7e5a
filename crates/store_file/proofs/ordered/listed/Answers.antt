use Rattle.std.proofs.Common.{◌≡◌, List, ◌++◌, map, sym, ap, ◌∙◌, subst}
use Rattle.std.proofs.lemmas.List.{append-nil}
use Rattle.std.specs.Borrow.{Bor}
use Rattle.tree_match.specs.declared.leaf.Leaf.{Leaf}
use Rattle.std.specs.List.Sorted.{IsStrictlySortedBy}
use Rattle.std.specs.Map.{keys_of}
use Rattle.tree_match.specs.Ascending.{IsAscending}
use Rattle.store_file.specs.StoreText.{entry_cmp}
use Rattle.store_file.specs.Written.{entry_of}
use Rattle.store_file.specs.Shelf.{entry_in}
use Rattle.store_file.proofs.Shelves.{Key, pair_cmp, sorted_up}
use Rattle.store_file.proofs.ordered.listed.Goals as goal

pub returns-clause-ordered : goal.returns-clause-ordered
returns-clause-ordered c =
    let keys : IsStrictlySortedBy pair_cmp (keys_of c.args.shelf.now.entries) = c.iter-key-items.ensures.ordered in
    let same : map entry_of c.loop-key.offers.items ≡ map entry_in c.args.shelf.now.entries =
    sym (append-nil (map entry_of c.loop-key.offers.items)) ∙ ap (λ (ps : List (Key × Bor Leaf)). map entry_of c.loop-key.offers.items ++ map entry_in ps) (sym c.in-None.ensures.steps.0) ∙ c.loop-key.invariant in
    subst (IsAscending entry_cmp) (sym same) (sorted_up c.args.shelf.now.entries keys)
