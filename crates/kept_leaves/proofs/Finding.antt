-- The parts in which a pattern may have members, and its leaves there.
use Rattle.std.proofs.Common.{◌≡◌, ◌∙◌, ℕ, List, [], ◌∷◌, ◌++◌, inl, inr, map, refl, sym, subst, Bool, true, false}
use Rattle.std.specs.Prelude.{Some, option_map, not}
use Rattle.std.proofs.lemmas.List.{append-nil}
use Rattle.node_tree.specs.declared.view.Pattern.{Pattern}
use Rattle.node_match.specs.Sets.{Among}
use Rattle.file_parts.specs.declared.joining.PartLeaf.{PartLeaf}
use Rattle.file_parts.specs.Leaves.{IsLeafIn, HasNoneIn, AreLeavesOf, no_leaf, one_less, one_more}
use Rattle.file_parts.specs.Parts.{SeenPart, seen_part, is_needed, needed_of}
use Rattle.kept_leaves.specs.declared.found.FoundPart.{FoundPart}
use Rattle.kept_leaves.specs.declared.leaf.KeptLeaf.{KeptLeaf}
use Rattle.kept_leaves.specs.declared.leaf.OpenLeaves.{OpenLeaves}
use Rattle.kept_leaves.specs.Found.{seen_found, IsTold, AreFound, none_found, found_less, found_more}
use Rattle.kept_leaves.specs.Kept.{PieceRef}
use Rattle.kept_leaves.specs.Opened.{open_map, pieces_in, IsOpenLeaves, IsPlaceOf, IsNumberOf}
use Rattle.kept_leaves.specs.Ready.{pair_of}
use Rattle.kept_leaves.proofs.Needs.{needed_here, needed_out, found_leaf}
use Rattle.kept_leaves.proofs.Places.{row, keys}

-- ---- parts that are found

module _ (pattern : Pattern) (pieces : List PieceRef) where
  last_less : (ps : List SeenPart) (fs : List FoundPart) (p : SeenPart) → AreFound pattern pieces ps fs → HasNoneIn pattern p → AreFound pattern pieces (ps ++ p ∷ []) fs
  last_less _ _ p none_found none = found_less none none_found
  last_less _ fs p (found_less {ps = ps} empty rest) none = found_less empty (last_less ps fs p rest none)
  last_less _ _ p (found_more {ps = ps} {fs = fs} same at rest) none = found_more same at (last_less ps fs p rest none)

  last_more : (ps : List SeenPart) (fs : List FoundPart) (p : SeenPart) (f : FoundPart) → AreFound pattern pieces ps fs → seen_found f ≡ p → IsPlaceOf pieces f.place p → AreFound pattern pieces (ps ++ p ∷ []) (fs ++ f ∷ [])
  last_more _ _ p f none_found e here = found_more e here none_found
  last_more _ fs p f (found_less {ps = ps} empty rest) e here = found_less empty (last_more ps fs p f rest e here)
  last_more _ _ p f (found_more {ps = ps} {fs = fs} same at rest) e here = found_more same at (last_more ps fs p f rest e here)

  -- the pattern has no member in a further part, or doesn't need it
  pub none_added : (ps : List SeenPart) (fs : List FoundPart) (p : SeenPart) (may : Bool) → may ≡ false → IsTold pattern p may → AreFound pattern pieces ps fs → AreFound pattern pieces (ps ++ needed_of pattern (p ∷ [])) fs
  none_added ps fs p may off told are = by (is_needed pattern p) refl
    where
      P : List SeenPart → Type 0
      P qs = AreFound pattern pieces (ps ++ qs) fs

      Q : List SeenPart → Type 0
      Q qs = AreFound pattern pieces qs fs

      by : (b : Bool) → is_needed pattern p ≡ b → P (needed_of pattern (p ∷ []))
      by true e = subst P (sym (needed_here pattern p e)) (last_less ps fs p are (told.none off e))
      by false e = subst P (sym (needed_out pattern p e)) (subst Q (sym (append-nil ps)) are)

  -- it may have members there
  pub one_added : (ps : List SeenPart) (fs : List FoundPart) (p : SeenPart) (f : FoundPart) (may : Bool) → may ≡ true → IsTold pattern p may → seen_found f ≡ p → IsPlaceOf pieces f.place p
      → AreFound pattern pieces ps fs → AreFound pattern pieces (ps ++ needed_of pattern (p ∷ [])) (fs ++ f ∷ [])
  one_added ps fs p f may on told e here are =
      let P : List SeenPart → Type 0 = λ qs. AreFound pattern pieces (ps ++ qs) (fs ++ f ∷ []) in
      subst P (sym (needed_here pattern p (told.needs on))) (last_more ps fs p f are e here)

  -- each stands at its place
  pub found_at : (ps : List SeenPart) (fs : List FoundPart) → AreFound pattern pieces ps fs → (f : FoundPart) → Among fs f → IsPlaceOf pieces f.place (seen_found f)
  found_at _ _ none_found f a = absurd a
  found_at _ fs (found_less {ps = ps} empty rest) f a = found_at ps fs rest f a
  found_at _ _ (found_more {f = g} same at rest) f (inl e) =
      let P : FoundPart → Type 0 = λ h. IsPlaceOf pieces h.place (seen_found h) in
      let Q : SeenPart → Type 0 = λ q. IsPlaceOf pieces g.place q in
      subst P e (subst Q (sym same) at)
  found_at _ _ (found_more {ps = ps} {fs = fs} same at rest) f (inr b) = found_at ps fs rest f b

  -- ---- their leaves

  front : (q : SeenPart) (qs : List SeenPart) (p : SeenPart) (ps : List SeenPart) (ls : List PartLeaf) → q ≡ p → ((ms : List PartLeaf) → AreLeavesOf pattern qs ms → AreLeavesOf pattern ps ms)
      → AreLeavesOf pattern (q ∷ qs) ls → AreLeavesOf pattern (p ∷ ps) ls
  front q qs p ps ls same more (one_less none rest) = let P : SeenPart → Type 0 = λ r. HasNoneIn pattern r in one_less (subst P same none) (more ls rest)
  front q qs p ps _ same more (one_more {l = l} {ls = ls} e leaf rest) = let P : SeenPart → Type 0 = λ r. IsLeafIn pattern r l.leaf.now in one_more (e ∙ same) (subst P same leaf) (more ls rest)

  -- the leaves in what was found are those in all parts
  pub leaves_found : (ps : List SeenPart) (fs : List FoundPart) (ls : List PartLeaf) → AreFound pattern pieces ps fs → AreLeavesOf pattern (map seen_found fs) ls → AreLeavesOf pattern ps ls
  leaves_found _ _ ls none_found are = are
  leaves_found _ fs ls (found_less {ps = ps} none rest) are = one_less none (leaves_found ps fs ls rest are)
  leaves_found _ _ ls (found_more {p = p} {f = f} {ps = ps} {fs = fs} same at rest) are = front (seen_found f) (map seen_found fs) p ps ls same (λ ms. leaves_found ps fs ms rest) are

-- one leaf more
pub leaves_last : (pattern : Pattern) (ps : List SeenPart) (ls : List PartLeaf) (p : SeenPart) (l : PartLeaf) → AreLeavesOf pattern ps ls → seen_part l.part ≡ p → IsLeafIn pattern p l.leaf.now → AreLeavesOf pattern (ps ++ p ∷ []) (ls ++ l ∷ [])
leaves_last pattern _ _ p l no_leaf e leaf = one_more e leaf no_leaf
leaves_last pattern _ ls p l (one_less {ps = ps} none rest) e leaf = one_less none (leaves_last pattern ps ls p l rest e leaf)
leaves_last pattern _ _ p l (one_more {ps = ps} {ls = ls} f is rest) e leaf = one_more f is (leaves_last pattern ps ls p l rest e leaf)

-- the same in other words
pub found_as : (p q : Pattern) (a b : List PieceRef) (parts : List SeenPart) (fs gs : List FoundPart) → p ≡ q → a ≡ b → fs ≡ gs → AreFound p a (needed_of p parts) fs → AreFound q b (needed_of q parts) gs
found_as p q a b parts fs gs e f g are =
    let P : Pattern → Type 0 = λ r. AreFound r b (needed_of r parts) gs in
    let Q : List PieceRef → Type 0 = λ c. AreFound p c (needed_of p parts) gs in
    let R : List FoundPart → Type 0 = λ hs. AreFound p a (needed_of p parts) hs in
    subst P e (subst Q f (subst R g are))

pub not_false : (b : Bool) → not b ≡ false → b ≡ true
not_false true e = refl
not_false false e = absurd (let f : true ≡ false = e in cc)

pub not_true : (b : Bool) → not b ≡ true → b ≡ false
not_true true e = absurd (let f : false ≡ true = e in cc)
not_true false e = refl

-- what is looked up is the leaf of the pattern in the part
pub looked_right : (leaves : OpenLeaves) (opened : IsOpenLeaves leaves) (place number : ℕ) (part : SeenPart) (pattern : Pattern) (at : IsPlaceOf (pieces_in leaves) place part) (numbered : IsNumberOf leaves number pattern) (kept : KeptLeaf)
    → Some kept ≡ option_map (λ k. k.0) (open_map leaves leaves.store.path (row leaves place number part pattern at numbered).piece numbered.key) → IsLeafIn pattern part kept.leaf
looked_right leaves opened place number part pattern at numbered kept looked =
    let r = row leaves place number part pattern at numbered in
    let its = keys leaves place number part pattern at numbered in
    let (met, found) = found_leaf (open_map leaves leaves.store.path r.piece numbered.key) kept looked in
    opened.right (pair_of leaves.store.path pattern part) kept.leaf met (record { piece = r.piece; pattern = numbered.key; are_keys = its; found = found })
