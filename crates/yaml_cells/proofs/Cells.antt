-- Cells behind others.
use Rattle.std.proofs.Common.{◌≡◌, List, ◌++◌, Option, Some, None, refl, sym, ap, ◌∙◌, append_assoc}
use Rattle.std.specs.Option.{option_map}
use Rattle.yaml_cells.specs.declared.cell.Cell.{Cell}
use Rattle.yaml_cells.specs.Flow.{before_cells}

-- cells behind others
abbrev pub behind : List Cell → Option (List Cell) → Option (List Cell)
behind xs r = option_map (λ cs. xs ++ cs) r

-- cells that come first stand behind those that were there
joined : (old new xs : List Cell) (rest : Option (List Cell)) → old ++ xs ≡ new → behind old (option_map (λ y. xs ++ y) rest) ≡ behind new rest
joined old new xs None e = refl
joined old new xs (Some ys) e = ap Some (sym (append_assoc old xs ys) ∙ ap (λ (z : List Cell). z ++ ys) e)

-- cells that come first stand behind those that were there
pub behind-before : (old new : List Cell) (first rest : Option (List Cell)) → behind old first ≡ Some new → behind old (before_cells first rest) ≡ behind new rest
behind-before old new None rest e = cc
behind-before old new (Some xs) rest e = let e2 : old ++ xs ≡ new = cc in joined old new xs rest e2

-- where the first cells are none, there are none at all
pub behind-none : (old : List Cell) (first rest : Option (List Cell)) → first ≡ None → behind old (before_cells first rest) ≡ None
behind-none old first rest e = rw e refl
