-- Texts in which metavariables are filled in.
use Rattle.std.specs.Prelude.{ℕ, zero, suc, ◌+◌, List, [], ◌∷◌, ◌++◌, take, drop, Bool, if◌then◌else◌, nat_le, ◌==◌, ◌&&◌, ◌||◌, None, Some, slice_index, slice_range}
use Rattle.meta_bind.specs.declared.bound.Bound.{Bound}
use Rattle.meta_bind.specs.Bounds.{bound_at}

-- a capital letter or `_`
abbrev pub is_head : ℕ → Bool
is_head c = (nat_le 65 c && nat_le c 90) || c == 95

-- a capital letter, a digit or `_`
abbrev pub is_part : ℕ → Bool
is_part c = is_head c || (nat_le 48 c && nat_le c 57)

-- how many capital letters, digits and `_` the text begins with
abbrev pub part_size : List ℕ → ℕ
part_size [] = 0
part_size (c ∷ cs) = if is_part c then suc (part_size cs) else 0

-- the size of the longest word at the front: a capital letter or `_`, then capital letters, digits and `_`; 0 for none
abbrev pub word_size : List ℕ → ℕ
word_size [] = 0
word_size (c ∷ cs) = if is_head c then suc (part_size cs) else 0

-- the size of `$...` or `$` at the front; 0 for none
abbrev pub mark_size : List ℕ → ℕ
mark_size t = if slice_index t 0 == 36 then (if slice_index t 1 == 46 && slice_index t 2 == 46 && slice_index t 3 == 46 then 4 else 1) else 0

-- the size of a name from the sizes of its mark and its word
abbrev pub named : ℕ → ℕ → ℕ
named m w = if m == 0 || w == 0 then 0 else m + w

-- the size of the longest metavariable at the front, `$NAME` or `$...NAME`; 0 for none
unfoldable pub name_size : List ℕ → ℕ
name_size t = named (mark_size t) (word_size (drop (mark_size t) t))

module _ (binding : List Bound) (bytes : List ℕ) where
  -- the bytes that the name stands for, or the name where it isn't bound
  abbrev pub value_of : List ℕ → List ℕ
  value_of name = elim (bound_at name binding) [ None ↦ name | Some b ↦ slice_range bytes b.span.from b.span.to ]

  -- the text behind so many bytes of a name, filled in: each metavariable by its value
  abbrev pub filled_behind : ℕ → List ℕ → List ℕ
  filled_behind n [] = []
  filled_behind (suc n) (c ∷ cs) = filled_behind n cs
  filled_behind zero (c ∷ cs) = elim (name_size (c ∷ cs)) [ zero ↦ c ∷ filled_behind 0 cs | suc n ↦ value_of (take (suc n) (c ∷ cs)) ++ filled_behind n cs ]

  -- the text with each metavariable replaced by its value
  abbrev pub filled : List ℕ → List ℕ
  filled t = filled_behind 0 t
