-- Two bindings made one.
use Rattle.std.specs.Prelude.{List, [], ◌∷◌, Bool, if◌then◌else◌, nat_lt, nat_le, nat_eq, ◌&&◌, ◌||◌}
use Rattle.std.specs.Ordering.{is_lt, is_eq}
use Rattle.node_tree.specs.declared.span.Span.{Span}
use Rattle.meta_bind.specs.declared.bound.Bound.{Bound}
use Rattle.meta_bind.specs.declared.join.Keep.{Keep}
use Rattle.meta_bind.specs.declared.join.Keep.TheVariants.{Later, First}
use Rattle.meta_bind.specs.Bounds.{name_cmp}

-- the first begins later; or both begin at one place, and it ends no later
abbrev pub is_later : Span → Span → Bool
is_later a b = nat_lt b.from a.from || (nat_eq a.from b.from && nat_le a.to b.to)

-- of two bounds of one name the one whose place begins later, and of those the one that ends first
abbrev pub later : Bound → Bound → Bound
later b c = if is_later b.span c.span then b else c

-- of two bounds of one name the one that is kept
abbrev pub kept : Keep → Bound → Bound → Bound
kept Later b c = later b c
kept First b c = b

-- with one bound in order of name; where its name is bound, with the one of the two that is kept
abbrev pub with_kept : Keep → Bound → List Bound → List Bound
with_kept keep b [] = b ∷ []
with_kept keep b (c ∷ cs) = if is_lt (name_cmp b.name c.name) then b ∷ c ∷ cs else (if is_eq (name_cmp b.name c.name) then kept keep b c ∷ cs else c ∷ with_kept keep b cs)

-- the names of both, each once and in order; of the two bounds of a name the one that is kept
abbrev pub joined : Keep → List Bound → List Bound → List Bound
joined keep [] cs = cs
joined keep (b ∷ bs) cs = with_kept keep b (joined keep bs cs)

-- the names of both, each with the place that begins later, and of those the one that ends first
abbrev pub merged : List Bound → List Bound → List Bound
merged bs cs = joined Later bs cs

-- the names of both, each with the place that it has in the first, if it has one there
abbrev pub extended : List Bound → List Bound → List Bound
extended bs cs = joined First bs cs
