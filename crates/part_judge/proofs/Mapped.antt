-- What a function makes of the first items of a list.
use Rattle.std.proofs.Common.{◌≡◌, ℕ, ◌+◌, ◌<◌, List, [], ◌∷◌, ◌++◌, length, take, map, get_or, sym, ap, ◌∙◌}
use Rattle.std.proofs.lemmas.List.{take_more, map-append}

-- with one item more
pub one_mapped : {X Y : Type 0} (f : X → Y) (items : List X) (i : ℕ) (x d : X) → i < length items → x ≡ get_or items i d → map f (take i items) ++ f x ∷ [] ≡ map f (take (i + 1) items)
one_mapped f items i x d lt is = sym (map-append f (take i items) (x ∷ [])) ∙ ap (map f) (ap (λ y. take i items ++ y ∷ []) is ∙ sym (take_more items i d lt))
