-- The parts that a pattern needs, and their leaves, by the views that they are of.
use Rattle.std.proofs.Common.{◌≡◌, List, [], ◌∷◌, ◌++◌, inl, inr, map, filter, refl, sym, ap, ◌∙◌, subst, Bool, true, false, cond}
use Rattle.std.specs.Prelude.{if◌then◌else◌}
use Rattle.std.proofs.lemmas.List.{append-nil}
use Rattle.node_tree.specs.declared.view.FileView.{FileView}
use Rattle.node_tree.specs.declared.view.Pattern.{Pattern}
use Rattle.node_match.specs.Sets.{Among}
use Rattle.tree_match.specs.Members.{Member, IsMember, known_tree}
use Rattle.piece_form.specs.declared.piece.Placed.{Placed}
use Rattle.piece_form.specs.Cut.{pieces_of}
use Rattle.piece_match.specs.declared.unite.PlacedLeaf.{PlacedLeaf}
use Rattle.piece_match.specs.Pieces.{falls_apart, is_cut}
use Rattle.file_parts.specs.declared.joining.PartLeaf.{PartLeaf}
use Rattle.file_parts.specs.Parts.{SeenPart, seen_part, is_needed, needed_of, whole_part, parts_in, AreFurther, ArePartsOf}
use Rattle.file_parts.specs.Leaves.{IsLeafIn, HasNoneIn, HasNoneWritten, AreLeavesOf, no_leaf, one_less, one_more, is_same, those_leaves}
use Rattle.file_parts.proofs.ByPieces.{needs_whole, parts_for, AreLeavesIn, no_piece, piece_less, piece_more, none_in_piece}
use Rattle.file_parts.proofs.Resolving.{python_resolved}

-- ---- leaves

abbrev places : List SeenPart → List Placed
places ps = map (λ (p : SeenPart). p.placed) ps

abbrev those_parts : Bool → List SeenPart → List SeenPart
those_parts b ps = filter (λ (p : SeenPart). is_same b p.resolved) ps

abbrev placed_leaf : PartLeaf → PlacedLeaf
placed_leaf l = record { start = l.part.placed.now.start; leaf = l.leaf }

module _ (pattern : Pattern) (b : Bool) where
  leaf_less : (p : SeenPart) (ps : List SeenPart) (ls : List PlacedLeaf) (s : Bool) → HasNoneIn pattern p → AreLeavesIn pattern (places ps) ls → AreLeavesIn pattern (places (cond s (p ∷ ps) ps)) ls
  leaf_less p ps ls true none rest = piece_less none rest
  leaf_less p ps ls false none rest = rest

  leaf_more : (p : SeenPart) (l : PartLeaf) (ps : List SeenPart) (ls : List PartLeaf) (s t : Bool) → seen_part l.part ≡ p → t ≡ s → IsLeafIn pattern p l.leaf.now → AreLeavesIn pattern (places ps) (map placed_leaf ls)
      → AreLeavesIn pattern (places (cond s (p ∷ ps) ps)) (map placed_leaf (cond t (l ∷ ls) ls))
  leaf_more p l ps ls true true e same x rest = piece_more (ap (λ (q : SeenPart). q.placed.start) e) x rest
  leaf_more p l ps ls false false e same x rest = rest
  leaf_more p l ps ls true false e same x rest = absurd (let f : false ≡ true = same in cc)
  leaf_more p l ps ls false true e same x rest = absurd (let f : true ≡ false = same in cc)

  pub leaves_split : (ps : List SeenPart) (ls : List PartLeaf) → AreLeavesOf pattern ps ls → AreLeavesIn pattern (places (those_parts b ps)) (those_leaves b ls)
  leaves_split _ _ no_leaf = no_piece
  leaves_split _ ls (one_less {p = p} {ps = ps} none rest) = leaf_less p (those_parts b ps) (those_leaves b ls) (is_same b p.resolved) none (leaves_split ps ls rest)
  leaves_split _ _ (one_more {p = p} {l = l} {ps = ps} {ls = ls} e x rest) =
      leaf_more p l (those_parts b ps) (filter (λ (l : PartLeaf). is_same b l.part.resolved) ls) (is_same b p.resolved) (is_same b l.part.resolved) e (ap (λ (q : SeenPart). is_same b q.resolved) e) x (leaves_split ps ls rest)

-- ---- parts

among_left : (T : SeenPart → Bool) (ps : List SeenPart) (p : SeenPart) → T p ≡ true → Among ps p → Among (filter T ps) p
among_left T [] p e a = absurd a
among_left T (q ∷ qs) p e a = by (T q) refl a (among_left T qs p e)
  where
    by : (b : Bool) → T q ≡ b → Among (q ∷ qs) p → (Among qs p → Among (filter T qs) p) → Among (cond b (q ∷ filter T qs) (filter T qs)) p
    by true f (inl same) rest = inl same
    by true f (inr more) rest = inr (rest more)
    by false f (inl same) rest = absurd (let g : true ≡ false = sym e ∙ sym (ap T same) ∙ f in cc)
    by false f (inr more) rest = rest more

among_placed : (ps : List SeenPart) (p : SeenPart) → Among ps p → Among (places ps) p.placed
among_placed [] p a = absurd a
among_placed (q ∷ qs) p (inl same) = inl (ap (λ (r : SeenPart). r.placed) same)
among_placed (q ∷ qs) p (inr more) = inr (among_placed qs p more)

module _ (N T : SeenPart → Bool) where
  abbrev chosen : List SeenPart → List Placed
  chosen ps = places (filter T (filter N ps))

  module _ (mark : Placed → SeenPart) (still : (p : Placed) → (mark p).placed ≡ p) where
    front : (n t : Bool) → ((p : Placed) → N (mark p) ≡ n) → ((p : Placed) → T (mark p) ≡ t) → (ps : List Placed) (rest : List SeenPart) → chosen (map mark ps ++ rest) ≡ (if n then (if t then ps else []) else []) ++ chosen rest
    front true true is so [] rest = refl
    front true true is so (p ∷ ps) rest =
        let others = filter N (map mark ps ++ rest) in
        ap (λ (b : Bool). places (filter T (cond b (mark p ∷ others) others))) (is p) ∙ ap (λ (b : Bool). places (cond b (mark p ∷ filter T others) (filter T others))) (so p)
        ∙ ap (λ (q : Placed). q ∷ chosen (map mark ps ++ rest)) (still p)
        ∙ ap (λ (qs : List Placed). p ∷ qs) (front true true is so ps rest)
    front true false is so [] rest = refl
    front true false is so (p ∷ ps) rest =
        let others = filter N (map mark ps ++ rest) in
        ap (λ (b : Bool). places (filter T (cond b (mark p ∷ others) others))) (is p) ∙ ap (λ (b : Bool). places (cond b (mark p ∷ filter T others) (filter T others))) (so p)
        ∙ front true false is so ps rest
    front false t is so [] rest = refl
    front false t is so (p ∷ ps) rest = let others = filter N (map mark ps ++ rest) in ap (λ (b : Bool). places (filter T (cond b (mark p ∷ others) others))) (is p) ∙ front false t is so ps rest

  last : (n t : Bool) (w : SeenPart) → N w ≡ n → T w ≡ t → chosen (w ∷ []) ≡ (if n then (if t then w.placed ∷ [] else []) else [])
  last true true w is so = ap (λ (b : Bool). places (filter T (cond b (w ∷ []) []))) is ∙ ap (λ (b : Bool). places (cond b (w ∷ []) [])) so
  last true false w is so = ap (λ (b : Bool). places (filter T (cond b (w ∷ []) []))) is ∙ ap (λ (b : Bool). places (cond b (w ∷ []) [])) so
  last false t w is so = ap (λ (b : Bool). places (filter T (cond b (w ∷ []) []))) is

  more_chosen : (xs ys : List SeenPart) → chosen (xs ++ ys) ≡ chosen xs ++ chosen ys
  more_chosen [] ys = refl
  more_chosen (x ∷ xs) ys = by (N x) (T x) refl refl (more_chosen xs ys)
    where
      by : (n t : Bool) → N x ≡ n → T x ≡ t → chosen (xs ++ ys) ≡ chosen xs ++ chosen ys → chosen (x ∷ (xs ++ ys)) ≡ chosen (x ∷ xs) ++ chosen ys
      by n t is so rest =
          let one : (zs : List SeenPart) → chosen (x ∷ zs) ≡ cond n (cond t (x.placed ∷ chosen zs) (chosen zs)) (chosen zs) =
          λ zs. ap (λ (b : Bool). places (filter T (cond b (x ∷ filter N zs) (filter N zs)))) is ∙ spread n t (filter N zs) so in
          one (xs ++ ys) ∙ ap (λ (qs : List Placed). cond n (cond t (x.placed ∷ qs) qs) qs) rest ∙ joined n t (chosen xs) ∙ sym (ap (λ (qs : List Placed). qs ++ chosen ys) (one xs))
        where
          spread : (n t : Bool) (zs : List SeenPart) → T x ≡ t → places (filter T (cond n (x ∷ zs) zs)) ≡ cond n (cond t (x.placed ∷ places (filter T zs)) (places (filter T zs))) (places (filter T zs))
          spread true true zs so = ap (λ (b : Bool). places (cond b (x ∷ filter T zs) (filter T zs))) so
          spread true false zs so = ap (λ (b : Bool). places (cond b (x ∷ filter T zs) (filter T zs))) so
          spread false t zs so = refl

          joined : (n t : Bool) (qs : List Placed) → cond n (cond t (x.placed ∷ (qs ++ chosen ys)) (qs ++ chosen ys)) (qs ++ chosen ys) ≡ cond n (cond t (x.placed ∷ qs) qs) qs ++ chosen ys
          joined true true qs = refl
          joined true false qs = refl
          joined false t qs = refl

module _ (pattern : Pattern) where
  -- those of one view that are looked for among those with names resolved or not
  abbrev of_view : Bool → List SeenPart → List Placed
  of_view b parts = places (those_parts b (needed_of pattern parts))

  view_parts : (b c : Bool) (view : FileView) (t : Bool) → is_same b c ≡ t
      → of_view b (parts_in c view) ≡ (if is_cut pattern view.tree then (if t then pieces_of view else []) else []) ++ (if needs_whole pattern view then (if t then whole_part view ∷ [] else []) else [])
  view_parts b c view t e =
      let N = is_needed pattern in
      let T : SeenPart → Bool = λ p. is_same b p.resolved in
      let whole : SeenPart = record { placed = whole_part view; whole = true; resolved = c; apart = falls_apart view.tree } in
      front N T (λ (p : Placed). record { placed = p; whole = false; resolved = c; apart = falls_apart view.tree }) (λ p. refl) (is_cut pattern view.tree) t (λ p. refl) (λ p. e) (pieces_of view) (whole ∷ [])
      ∙ ap (λ (qs : List Placed). (if is_cut pattern view.tree then (if t then pieces_of view else []) else []) ++ qs) (last N T (needs_whole pattern view) t whole refl e)

  nothing : (n m : Bool) → let none : List Placed = [] in (if n then none else none) ++ (if m then none else none) ≡ none
  nothing true true = refl
  nothing true false = refl
  nothing false true = refl
  nothing false false = refl

  more_parts : (b : Bool) (xs ys : List SeenPart) → of_view b (xs ++ ys) ≡ of_view b xs ++ of_view b ys
  more_parts b xs ys = more_chosen (is_needed pattern) (λ (p : SeenPart). is_same b p.resolved) xs ys

  own : (b : Bool) (view : FileView) → is_same b b ≡ true → of_view b (parts_in b view) ≡ parts_for pattern view
  own b view e = view_parts b b view true e

  foreign : (b c : Bool) (view : FileView) → is_same b c ≡ false → of_view b (parts_in c view) ≡ []
  foreign b c view e = view_parts b c view false e ∙ nothing (is_cut pattern view.tree) (needs_whole pattern view)

  module _ (view : FileView) (all : List SeenPart) (are : ArePartsOf view all) where
    split : (b : Bool) → of_view b all ≡ of_view b (parts_in false view) ++ of_view b are.further
    split b = ap (of_view b) are.are ∙ more_parts b (parts_in false view) are.further

    none_more : (further : List SeenPart) → AreFurther view further → of_view false further ≡ []
    none_more further (inl (e, same)) = ap (of_view false) e
    none_more further (inr (python, each)) = let (r, is) = python_resolved view python in ap (of_view false) (each r is) ∙ foreign false true r refl

    -- the file as it is written
    pub written_parts : of_view false all ≡ parts_for pattern view
    written_parts =
        split false ∙ ap (λ (qs : List Placed). qs ++ of_view false are.further) (own false view refl) ∙ ap (λ (qs : List Placed). parts_for pattern view ++ qs) (none_more are.further are.resolved)
        ∙ append-nil (parts_for pattern view)

    -- with its names resolved
    pub resolved_parts : of_view true all ≡ of_view true are.further
    resolved_parts = split true ∙ ap (λ (qs : List Placed). qs ++ of_view true are.further) (foreign true false view refl)

    pub further_parts : (r : FileView) → are.further ≡ parts_in true r → of_view true all ≡ parts_for pattern r
    further_parts r e = resolved_parts ∙ ap (of_view true) e ∙ own true r refl

    pub no_parts : are.further ≡ [] → of_view true all ≡ []
    no_parts e = resolved_parts ∙ ap (of_view true) e

    -- where the pattern has no member in the file, it has none in the parts of the file as it is written
    pub none_written : ((m : Member) → IsMember pattern (known_tree view) m → ⊥) → HasNoneWritten pattern all
    none_written none p a plain needs =
        let P : List Placed → Type 0 = λ ps. Among ps p.placed in
        let T : SeenPart → Bool = λ q. is_same false q.resolved in
        let left = among_left T (needed_of pattern all) p (ap (is_same false) plain) (among_left (is_needed pattern) all p needs a) in
        none_in_piece pattern view none p.placed (subst P written_parts (among_placed (those_parts false (needed_of pattern all)) p left))

    module _ (ls : List PartLeaf) (leaves : AreLeavesOf pattern (needed_of pattern all) ls) where
      pub written_leaves : AreLeavesIn pattern (parts_for pattern view) (those_leaves false ls)
      written_leaves = let P : List Placed → Type 0 = λ ps. AreLeavesIn pattern ps (those_leaves false ls) in subst P written_parts (leaves_split pattern false (needed_of pattern all) ls leaves)

      pub further_leaves : (r : FileView) → are.further ≡ parts_in true r → AreLeavesIn pattern (parts_for pattern r) (those_leaves true ls)
      further_leaves r e = let P : List Placed → Type 0 = λ ps. AreLeavesIn pattern ps (those_leaves true ls) in subst P (further_parts r e) (leaves_split pattern true (needed_of pattern all) ls leaves)

      pub no_leaves : are.further ≡ [] → those_leaves true ls ≡ []
      no_leaves e =
          let P : List Placed → Type 0 = λ ps. AreLeavesIn pattern ps (those_leaves true ls) in
          none _ _ refl (subst P (no_parts e) (leaves_split pattern true (needed_of pattern all) ls leaves))
        where
          none : (ps : List Placed) (ls : List PlacedLeaf) → ps ≡ [] → AreLeavesIn pattern ps ls → ls ≡ []
          none _ _ e no_piece = refl
          none _ _ e (piece_less x rest) = absurd cc
          none _ _ e (piece_more f x rest) = absurd cc
