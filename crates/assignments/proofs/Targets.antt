-- The names of targets, by those of the kids that lead to names.
use Rattle.std.proofs.Common.{◌≡◌, ℕ, Bool, true, false, if◌then◌else◌, List, [], ◌∷◌, map, refl, sym, ap, ◌∙◌}
use Rattle.std.specs.Prelude.{codes}
use Rattle.std.specs.List.{flat_map}
use Rattle.std.specs.Str.{bytes_eq}
use Rattle.node_tree.specs.declared.kind.Kind.{Kind}
use Rattle.node_tree.specs.declared.kind.Kind.TheVariants as kinds
use Rattle.node_tree.specs.Numbers.{Numbered, kids_at}
use Rattle.node_tree.specs.Tree.{kind_of, text_of}
use Rattle.point_nodes.specs.Tops.{part}
use Rattle.point_nodes.proofs.Parts.{part_seen}
use Rattle.assignments.specs.declared.assignment.Reach.{Reach}
use Rattle.assignments.specs.declared.assignment.Reach.TheVariants as reaches
use Rattle.assignments.specs.Seen.{Named}
use Rattle.assignments.specs.Targets.{unless_base, leading, below, is_name, name_here, targets_by, targets}
use Rattle.assignments.specs.Trees.{from_kids, paired}
use Rattle.assignments.proofs.Trees.{from_kids_is, flat_map-map}
use Rattle.assignments.proofs.Kids.{Smaller, smaller_part}

module _ {X Y : Type 0} (f : X → Y) where
  unless_base_seen : (reach : Reach) (xs : List X) → map f (unless_base reach xs) ≡ unless_base reach (map f xs)
  unless_base_seen reaches.Base xs = refl
  unless_base_seen _ xs = refl

  star_seen : (star : Bool) (xs : List X) → map f (if star then part 0 xs else []) ≡ (if star then part 0 (map f xs) else [])
  star_seen true xs = part_seen f 0 xs
  star_seen false xs = refl

  -- what leads to names does so by its place alone
  pub leading_seen : (reach : Reach) (kind : Kind) (text : List ℕ) (xs : List X) → map f (leading reach kind text xs) ≡ leading reach kind text (map f xs)
  leading_seen reach kinds.Tuple text xs = unless_base_seen reach xs
  leading_seen reach kinds.ListLit text xs = unless_base_seen reach xs
  leading_seen reach kinds.Star text xs = unless_base_seen reach xs
  leading_seen reach kinds.Attr text xs = part_seen f 0 xs
  leading_seen reach kinds.Sub text xs = part_seen f 0 xs
  leading_seen reach kinds.Unary text xs = star_seen (bytes_eq text (codes "*")) xs
  leading_seen reach kinds.Cast text xs = part_seen f 1 xs
  leading_seen reach _ text xs = refl

smaller_unless : (n : ℕ) (reach : Reach) (ss : List Numbered) → Smaller n ss → Smaller n (unless_base reach ss)
smaller_unless n reaches.Base ss all = tt
smaller_unless n _ ss all = all

smaller_star : (n : ℕ) (star : Bool) (ss : List Numbered) → Smaller n ss → Smaller n (if star then part 0 ss else [])
smaller_star n true ss all = smaller_part n 0 ss all
smaller_star n false ss all = tt

pub smaller_leading : (n : ℕ) (reach : Reach) (kind : Kind) (text : List ℕ) (ss : List Numbered) → Smaller n ss → Smaller n (leading reach kind text ss)
smaller_leading n reach kinds.Tuple text ss all = smaller_unless n reach ss all
smaller_leading n reach kinds.ListLit text ss all = smaller_unless n reach ss all
smaller_leading n reach kinds.Star text ss all = smaller_unless n reach ss all
smaller_leading n reach kinds.Attr text ss all = smaller_part n 0 ss all
smaller_leading n reach kinds.Sub text ss all = smaller_part n 0 ss all
smaller_leading n reach kinds.Unary text ss all = smaller_star n (bytes_eq text (codes "*")) ss all
smaller_leading n reach kinds.Cast text ss all = smaller_part n 1 ss all
smaller_leading n reach _ text ss all = tt

-- the names of what is a name
pub targets_name : (reach : Reach) (s : Numbered) → is_name (kind_of s.node) ≡ true → targets reach s ≡ name_here reach s ∷ []
targets_name reach s is = ap (λ (has : Reach → List Named). has reach) (from_kids_is targets_by s) ∙ ap (λ b. if b then name_here reach s ∷ [] else flat_map (λ kid. kid.1 (below (kind_of s.node))) (leading reach (kind_of s.node) (text_of s.node) (paired (from_kids targets_by) s))) is

-- the names of what is none
pub targets_other : (reach : Reach) (s : Numbered) → is_name (kind_of s.node) ≡ false → targets reach s ≡ flat_map (targets (below (kind_of s.node))) (leading reach (kind_of s.node) (text_of s.node) (kids_at s))
targets_other reach s other =
    let kind = kind_of s.node in
    let has : Numbered → Reach → List Named = from_kids targets_by in
    let pair : Numbered → Numbered × (Reach → List Named) = λ kid. (kid, has kid) in
    let take_names : Numbered × (Reach → List Named) → List Named = λ kid. kid.1 (below kind) in
    ap (λ (h : Reach → List Named). h reach) (from_kids_is targets_by s)
    ∙ ap (λ b. if b then name_here reach s ∷ [] else flat_map take_names (leading reach kind (text_of s.node) (paired has s))) other
    ∙ ap (flat_map take_names) (sym (leading_seen pair reach kind (text_of s.node) (kids_at s)))
    ∙ flat_map-map take_names pair (leading reach kind (text_of s.node) (kids_at s))
