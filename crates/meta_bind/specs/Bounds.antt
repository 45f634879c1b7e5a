-- Lists of bounds in order of name.
use Rattle.std.specs.Prelude.{◌≡◌, ℕ, List, [], ◌∷◌, map, Option, None, Some, if◌then◌else◌}
use Rattle.std.specs.declared.cmp.Ordering.{Ordering}
use Rattle.std.specs.declared.cmp.Ordering.TheVariants.{Less}
use Rattle.std.specs.Ordering.{is_lt, is_eq, nat_cmp, ordering_then}
use Rattle.std.specs.Cmp.Lexicographic.{slice_cmp}
use Rattle.node_tree.specs.Span.{span_cmp}
use Rattle.node_tree.specs.Order.{node_cmp}
use Rattle.node_tree.specs.Tree.{content_of}
use Rattle.meta_bind.specs.declared.bound.Bound.{Bound}
use Rattle.meta_bind.specs.declared.trail.Held.{Held}

-- a bound as contracts see it: its name, its span and the contents of its nodes
abbrev pub seen : Bound → Bound
seen b = record { name = b.name; span = b.span; nodes = map content_of b.nodes }

-- the same of what a trail holds
abbrev pub seen_held : Held → Bound
seen_held h = record { name = h.name.now; span = h.span; nodes = map content_of h.run.now }

-- the order of names: by bytes
abbrev pub name_cmp : List ℕ → List ℕ → Ordering
name_cmp a b = slice_cmp nat_cmp a b

-- each name is below the next
abbrev pub NamesAscend : List Bound → Type 0
NamesAscend [] = Unit {0}
NamesAscend (b ∷ []) = Unit {0}
NamesAscend (b ∷ c ∷ cs) = (name_cmp b.name c.name ≡ Less) × NamesAscend (c ∷ cs)

-- the bound of that name
abbrev pub bound_at : List ℕ → List Bound → Option Bound
bound_at name [] = None
bound_at name (b ∷ bs) = if is_eq (name_cmp b.name name) then Some b else bound_at name bs

-- with one bound more, in order of name
abbrev pub with_bound : Bound → List Bound → List Bound
with_bound b [] = b ∷ []
with_bound b (c ∷ cs) = if is_lt (name_cmp b.name c.name) then b ∷ c ∷ cs else c ∷ with_bound b cs

-- each name that is bound in both has the same contents
abbrev pub Agree : List Bound → List Bound → Type 0
Agree bs cs = (name : List ℕ) (b c : Bound) → bound_at name bs ≡ Some b → bound_at name cs ≡ Some c → b.nodes ≡ c.nodes

-- by name, then span
abbrev pub place_cmp : Bound → Bound → Ordering
place_cmp b c = ordering_then (name_cmp b.name c.name) (span_cmp b.span c.span)

-- by what is bound
abbrev pub contents_cmp : Bound → Bound → Ordering
contents_cmp b c = slice_cmp node_cmp b.nodes c.nodes

-- by the names with their spans, then by what is bound
abbrev pub binding_cmp : List Bound → List Bound → Ordering
binding_cmp bs cs = ordering_then (slice_cmp place_cmp bs cs) (slice_cmp contents_cmp bs cs)
