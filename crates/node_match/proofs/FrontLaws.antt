-- Parts that match a front C of a list of kids, and leave a rest.
use Rattle.std.proofs.Common.{◌≡◌, ◌↔◌, ℕ, zero, suc, List, [], ◌∷◌, ◌++◌, length, take, drop, refl, sym, ap, ◌∙◌, subst, append_assoc}
use Rattle.node_tree.specs.Tree.{text_of}
use Rattle.meta_bind.specs.declared.bound.Bound.{Bound}
use Rattle.std.specs.Prelude.{None, Some}
use Rattle.node_match.specs.Free.{Part}
use Rattle.node_match.specs.Relation.{MatchesList, both_empty, head_and_rest, free_and_rest, dots, named_dots, Binds, nodes_of}
use Rattle.node_match.specs.Fronts.{MatchesFront, no_part_front, head_front, free_front, dots_front, named_dots_front}
use Rattle.node_tree.specs.declared.known.Known.{Known}
use Rattle.node_tree.specs.Numbers.{Numbered}

record Cut (k : ℕ) (ms rest : List Numbered) : Type 0 where
  at : ℕ
  dropped : drop at (ms ++ rest) ≡ drop k ms ++ rest
  taken : take at (ms ++ rest) ≡ take k ms

cut : (k : ℕ) (ms rest : List Numbered) → Cut k ms rest
cut zero ms rest = record { at = 0; dropped = refl; taken = refl }
cut (suc k) [] rest = record { at = 0; dropped = refl; taken = refl }
cut (suc k) (m ∷ ms) rest = let c = cut k ms rest in record { at = suc c.at; dropped = c.dropped; taken = ap (λ (xs : List Numbered). m ∷ xs) c.taken }

drop_front : (xs ys : List Numbered) → drop (length xs) (xs ++ ys) ≡ ys
drop_front [] ys = refl
drop_front (x ∷ xs) ys = drop_front xs ys

pub take_front : (xs ys : List Numbered) → take (length xs) (xs ++ ys) ≡ xs
take_front [] ys = refl
take_front (x ∷ xs) ys = ap (λ (zs : List Numbered). x ∷ zs) (take_front xs ys)

pub parted : (k : ℕ) (ns : List Numbered) → ns ≡ take k ns ++ drop k ns
parted zero ns = refl
parted (suc k) [] = refl
parted (suc k) (n ∷ ns) = ap (λ (xs : List Numbered). n ∷ xs) (parted k ns)

module _ (C : List Known) where
  -- a match of a run is one of a front
  pub front : (h : Numbered) (ps : List Part) (ms : List Numbered) (b c : List Bound) → MatchesList C h ps ms b c → (rest : List Numbered) → MatchesFront C h ps (ms ++ rest) rest b c
  front h _ _ b _ both_empty rest = no_part_front
  front h (Some p ∷ ps) (m ∷ ms) b c (head_and_rest x y) rest = head_front x (front h ps ms _ c y rest)
  front h (None ∷ ps) (m ∷ ms) b c (free_and_rest y) rest = free_front (front h ps ms b c y rest)
  front h (Some p ∷ ps) ms b c (dots k r x) rest =
      let k' = cut k ms rest in
      let P : List Numbered → Type 0 = λ ns. MatchesFront C h ps ns rest b c in
      dots_front k'.at r (subst P (sym k'.dropped) (front h ps (drop k ms) b c x rest))
  front h (Some p ∷ ps) ms b c (named_dots {c = d} k r x y) rest =
      let k' = cut k ms rest in
      let P : List Numbered → Type 0 = λ ns. MatchesFront C h ps ns rest d c in
      let Q : List Numbered → Type 0 = λ ns. Binds h.node (text_of p) (nodes_of ns) b d in
      named_dots_front k'.at r (subst Q (sym k'.taken) x) (subst P (sym k'.dropped) (front h ps (drop k ms) d c y rest))

  pub record Fronted (h : Numbered) (ps : List Part) (ns rest : List Numbered) (b c : List Bound) : Type 0 where
    pub nodes : List Numbered
    pub is : ns ≡ nodes ++ rest
    pub matches : MatchesList C h ps nodes b c

  -- a match of a front is one of a run
  pub fronted : (h : Numbered) (ps : List Part) (ns rest : List Numbered) (b c : List Bound) → MatchesFront C h ps ns rest b c → Fronted h ps ns rest b c
  fronted h _ ns _ b _ no_part_front = record { nodes = []; is = refl; matches = both_empty }
  fronted h (Some p ∷ ps) (n ∷ ns) rest b c (head_front x y) =
      let f = fronted h ps ns rest _ c y in
      record { nodes = n ∷ f.nodes; is = ap (λ (xs : List Numbered). n ∷ xs) f.is; matches = head_and_rest x f.matches }
  fronted h (None ∷ ps) (n ∷ ns) rest b c (free_front y) =
      let f = fronted h ps ns rest b c y in
      record { nodes = n ∷ f.nodes; is = ap (λ (xs : List Numbered). n ∷ xs) f.is; matches = free_and_rest f.matches }
  fronted h (Some p ∷ ps) ns rest b c (dots_front k r x) =
      let f = fronted h ps (drop k ns) rest b c x in
      let P : List Numbered → Type 0 = λ ms. MatchesList C h ps ms b c in
      record {
        nodes = take k ns ++ f.nodes;
        is = parted k ns ∙ ap (λ (xs : List Numbered). take k ns ++ xs) f.is ∙ sym (append_assoc (take k ns) f.nodes rest);
        matches = dots (length (take k ns)) r (subst P (sym (drop_front (take k ns) f.nodes)) f.matches);
      }
  fronted h (Some p ∷ ps) ns rest b c (named_dots_front {c = d} k r x y) =
      let f = fronted h ps (drop k ns) rest d c y in
      let P : List Numbered → Type 0 = λ ms. MatchesList C h ps ms d c in
      let Q : List Numbered → Type 0 = λ ms. Binds h.node (text_of p) (nodes_of ms) b d in
      record {
        nodes = take k ns ++ f.nodes;
        is = parted k ns ∙ ap (λ (xs : List Numbered). take k ns ++ xs) f.is ∙ sym (append_assoc (take k ns) f.nodes rest);
        matches = named_dots (length (take k ns)) r (subst Q (sym (take_front (take k ns) f.nodes)) x) (subst P (sym (drop_front (take k ns) f.nodes)) f.matches);
      }

append-nil : (ms : List Numbered) → ms ++ [] ≡ ms
append-nil [] = refl
append-nil (m ∷ ms) = ap (λ (xs : List Numbered). m ∷ xs) (append-nil ms)

module _ (C : List Known) where
  -- a match that leaves nothing is one of the whole list
  pub whole_front : (h : Numbered) (ps : List Part) (ns : List Numbered) (b c : List Bound) → MatchesFront C h ps ns [] b c ↔ MatchesList C h ps ns b c
  whole_front h ps ns b c = (
    λ x. let f = fronted C h ps ns [] b c x in let P : List Numbered → Type 0 = λ ms. MatchesList C h ps ms b c in subst P (sym (f.is ∙ append-nil f.nodes)) f.matches,
    λ y. let P : List Numbered → Type 0 = λ ms. MatchesFront C h ps ms [] b c in subst P (append-nil ns) (front C h ps ns b c y []),
  )
