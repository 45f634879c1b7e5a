-- What declarators declare, by what the one within them does.
use Rattle.std.proofs.Common.{◌≡◌, ℕ, true, false, if◌then◌else◌, List, [], ◌∷◌, map, refl, sym, ap, ◌∙◌}
use Rattle.std.specs.List.{flat_map}
use Rattle.node_tree.specs.declared.kind.Kind.{Kind}
use Rattle.node_tree.specs.declared.kind.Kind.TheVariants as kinds
use Rattle.node_tree.specs.Numbers.{Numbered, kids_at}
use Rattle.node_tree.specs.Tree.{kind_of}
use Rattle.point_nodes.specs.Tops.{part}
use Rattle.point_nodes.proofs.Parts.{part_seen}
use Rattle.assignments.specs.Declarators.{is_id, within, is_around_id, declared_by, declared, signature_by, signature}
use Rattle.assignments.specs.Trees.{from_kids, paired}
use Rattle.assignments.proofs.Trees.{from_kids_is, flat_map-map}
use Rattle.assignments.proofs.Kids.{Smaller, smaller_part}

pub within_seen : {X Y : Type 0} (f : X → Y) (kind : Kind) (xs : List X) → map f (within kind xs) ≡ within kind (map f xs)
within_seen f kinds.Ptr xs = part_seen f 0 xs
within_seen f kinds.ArrayOf xs = part_seen f 0 xs
within_seen f kinds.FuncOf xs = part_seen f 0 xs
within_seen f _ xs = refl

pub smaller_within : (n : ℕ) (kind : Kind) (ss : List Numbered) → Smaller n ss → Smaller n (within kind ss)
smaller_within n kinds.Ptr ss all = smaller_part n 0 ss all
smaller_within n kinds.ArrayOf ss all = smaller_part n 0 ss all
smaller_within n kinds.FuncOf ss all = smaller_part n 0 ss all
smaller_within n _ ss all = tt

nodes_of : (has : Numbered → List Numbered) (ss : List Numbered) → map (λ (kid : Numbered × List Numbered). kid.0) (map (λ (s : Numbered). (s, has s)) ss) ≡ ss
nodes_of has [] = refl
nodes_of has (s ∷ ss) = ap (λ (rest : List Numbered). s ∷ rest) (nodes_of has ss)

-- what the kids within have
inner : (has : Numbered → List Numbered) (kind : Kind) (ss : List Numbered) → flat_map (λ (kid : Numbered × List Numbered). kid.1) (within kind (map (λ (s : Numbered). (s, has s)) ss)) ≡ flat_map has (within kind ss)
inner has kind ss =
    let pair : Numbered → Numbered × List Numbered = λ s. (s, has s) in
    ap (flat_map (λ (kid : Numbered × List Numbered). kid.1)) (sym (within_seen pair kind ss)) ∙ flat_map-map (λ (kid : Numbered × List Numbered). kid.1) pair (within kind ss)

pub declared_id : (s : Numbered) → is_id (kind_of s.node) ≡ true → declared s ≡ s ∷ []
declared_id s is = from_kids_is declared_by s ∙ ap (λ b. if b then s ∷ [] else flat_map (λ kid. kid.1) (within (kind_of s.node) (paired (from_kids declared_by) s))) is

pub declared_other : (s : Numbered) → is_id (kind_of s.node) ≡ false → declared s ≡ flat_map declared (within (kind_of s.node) (kids_at s))
declared_other s other =
    from_kids_is declared_by s ∙ ap (λ b. if b then s ∷ [] else flat_map (λ kid. kid.1) (within (kind_of s.node) (paired (from_kids declared_by) s))) other
    ∙ inner (from_kids declared_by) (kind_of s.node) (kids_at s)

-- the parameter list, where the nodes are these
signature_opened : (s : Numbered) → signature s ≡ (if is_around_id (kind_of s.node) (kids_at s) then part 1 (kids_at s) else flat_map signature (within (kind_of s.node) (kids_at s)))
signature_opened s =
    let has = from_kids signature_by in
    let kind = kind_of s.node in
    from_kids_is signature_by s
    ∙ ap (λ nodes. if is_around_id kind nodes then part 1 nodes else flat_map (λ kid. kid.1) (within kind (paired has s))) (nodes_of has (kids_at s))
    ∙ ap (λ rest. if is_around_id kind (kids_at s) then part 1 (kids_at s) else rest) (inner has kind (kids_at s))

pub signature_here : (s : Numbered) → is_around_id (kind_of s.node) (kids_at s) ≡ true → signature s ≡ part 1 (kids_at s)
signature_here s is = signature_opened s ∙ ap (λ b. if b then part 1 (kids_at s) else flat_map signature (within (kind_of s.node) (kids_at s))) is

pub signature_other : (s : Numbered) → is_around_id (kind_of s.node) (kids_at s) ≡ false → signature s ≡ flat_map signature (within (kind_of s.node) (kids_at s))
signature_other s other = signature_opened s ∙ ap (λ b. if b then part 1 (kids_at s) else flat_map signature (within (kind_of s.node) (kids_at s))) other
