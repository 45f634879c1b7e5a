-- Rows in hand, and the places of parts.
use Rattle.std.proofs.Common.{◌≡◌, ◌∙◌, ℕ, zero, suc, ◌+◌, ◌<◌, List, [], ◌∷◌, ◌++◌, map, length, refl, sym, ap, subst, ◌⊎◌, inl, inr, Bool, true, false, cond, arith}
use Rattle.std.specs.Prelude.{Option, None, Some, slice_get, slice_index, slice_index_or, MatchOption}
use Rattle.std.specs.declared.cmp.Ordering.{Ordering}
use Rattle.std.specs.declared.cmp.Ordering.TheVariants.{Equal}
use Rattle.std.specs.Ordering.{nat_cmp, ordering_then, is_eq}
use Rattle.std.specs.Cmp.Lexicographic.{slice_cmp}
use Rattle.std.specs.BTreeMap.{BTreeMap, get}
use Rattle.piece_store.proofs.ByNumber.{is_equal}
use Rattle.piece_form.specs.declared.piece.Piece.{Piece}
use Rattle.piece_form.specs.declared.key.PieceKey.{PieceKey}
use Rattle.open_store.specs.InHand.{HasNone}
use Rattle.open_store.specs.declared.held.HeldRow.{HeldRow}
use Rattle.piece_form.specs.Keys.{IsKeyOf}
use Rattle.node_tree.specs.declared.view.Pattern.{Pattern}
use Rattle.file_parts.specs.Parts.{SeenPart}
use Rattle.kept_leaves.specs.declared.leaf.KeptLeaf.{KeptLeaf}
use Rattle.kept_leaves.specs.declared.leaf.OpenLeaves.{OpenLeaves}
use Rattle.kept_leaves.specs.Kept.{PieceRef, PatternRef, piece_cmp, pattern_cmp, AreKeys}
use Rattle.kept_leaves.specs.Opened.{pieces_in, StaysOpen, IsPlaceOf, ArePlacesOf, IsNumberOf, IsOut, IsIn, Knows}
use Rattle.kept_leaves.specs.Ready.{pair_of}
use Rattle.kept_leaves.proofs.Keyed.{parts_equal, text_one}

pub within : {X : Type 0} (xs : List X) (i : ℕ) (x : X) → slice_get xs i ≡ Some x → i < length xs
within [] i x e = absurd (let f : None ≡ Some x = e in cc)
within (y ∷ ys) zero x e = omega arith
within (y ∷ ys) (suc i) x e = let more = within ys i x e in omega (arith, more)

pub stands_at : {X : Type 0} (xs : List X) (i : ℕ) (d : X) → i < length xs → slice_get xs i ≡ Some (slice_index_or xs i d)
stands_at [] i d h = absurd (omega (arith, h))
stands_at (x ∷ xs) zero d h = refl
stands_at (x ∷ xs) (suc i) d h = stands_at xs i d (omega (arith, h))

pub before_more : {X : Type 0} (xs ys : List X) (i : ℕ) (x : X) → slice_get xs i ≡ Some x → slice_get (xs ++ ys) i ≡ Some x
before_more [] ys i x e = absurd (let f : None ≡ Some x = e in cc)
before_more (y ∷ xs) ys zero x e = e
before_more (y ∷ xs) ys (suc i) x e = before_more xs ys i x e

pub stands_last : {X : Type 0} (xs : List X) (x : X) → slice_get (xs ++ x ∷ []) (length xs) ≡ Some x
stands_last [] x = refl
stands_last (y ∷ ys) x = stands_last ys x

-- the row that stands at a place
pub row_at : (rows : List (HeldRow PieceRef KeptLeaf)) (i : ℕ) (k : PieceRef) → slice_get (map (λ (r : HeldRow PieceRef KeptLeaf). r.piece) rows) i ≡ Some k
    → (r : HeldRow PieceRef KeptLeaf) × (slice_get rows i ≡ Some r) × (r.piece ≡ k)
row_at [] i k e = absurd (let f : None ≡ Some k = e in cc)
row_at (r ∷ rs) zero k e = let same : r.piece ≡ k = cc in (r, refl, same)
row_at (r ∷ rs) (suc i) k e = row_at rs i k e

module _ (leaves : OpenLeaves) (place number : ℕ) (part : SeenPart) (pattern : Pattern) (at : IsPlaceOf (pieces_in leaves) place part) (numbered : IsNumberOf leaves number pattern) where
  pub row : HeldRow PieceRef KeptLeaf
  row = (row_at leaves.store.rows.items place at.key at.stands).0

  pub stands : slice_get leaves.store.rows.items place ≡ Some row
  unfolding row
  stands = (row_at leaves.store.rows.items place at.key at.stands).1

  pub row_same : row.piece ≡ at.key
  unfolding row
  row_same = (row_at leaves.store.rows.items place at.key at.stands).2

  pub place_within : place < length leaves.store.rows.items
  place_within = within leaves.store.rows.items place row stands

  -- its key and that of the pattern are keys of the pair
  pub keys : AreKeys (pair_of leaves.store.path pattern part) row.piece numbered.key
  unfolding row
  keys = record {
    of_piece = (let P : PieceRef → Type 0 = λ k. IsKeyOf part.placed.piece k.value in subst P (sym (row_at leaves.store.rows.items place at.key at.stands).2) at.of_piece);
    of_pattern = numbered.of_pattern;
  }

-- the place of the part at that number
pub place_at : (pieces : List PieceRef) (places : List ℕ) (parts : List SeenPart) → ArePlacesOf pieces places parts → (i : ℕ) (d : SeenPart) → i < length parts → IsPlaceOf pieces (slice_index places i) (slice_index_or parts i d)
place_at pieces places parts are i d h = are.each i (slice_index_or parts i d) (stands_at parts i d h)

module _ (old new : OpenLeaves) (stays : StaysOpen old new) where
  pub place_stays : (place : ℕ) (part : SeenPart) → IsPlaceOf (pieces_in old) place part → IsPlaceOf (pieces_in new) place part
  place_stays place part at = record { key = at.key; stands = ap (λ (ps : List PieceRef). slice_get ps place) stays.pieces ∙ at.stands; of_piece = at.of_piece }

  pub key_stays : (place : ℕ) (part : SeenPart) (at : IsPlaceOf (pieces_in old) place part) → (place_stays place part at).key ≡ at.key
  unfolding place_stays
  key_stays place part at = refl

  pub number_stays : (number : ℕ) (pattern : Pattern) → IsNumberOf old number pattern → IsNumberOf new number pattern
  number_stays number pattern n = record {
    key = n.key;
    of_pattern = n.of_pattern;
    found = ap (λ (m : BTreeMap PatternRef ℕ). get pattern_cmp m n.key) stays.numbers ∙ n.found;
  }

pub stays_both : (old mid new : OpenLeaves) → StaysOpen old mid → StaysOpen mid new → StaysOpen old new
stays_both old mid new a b = record { path = b.path ∙ a.path; pieces = b.pieces ∙ a.pieces; numbers = b.numbers ∙ a.numbers }

-- ---- keys

-- the key of a piece is told by its value
pub key_tied : (p : Piece) (piece key : PieceRef) → piece_cmp piece key ≡ Equal → IsKeyOf p key.value → IsKeyOf p piece.value
key_tied p piece key e is =
    let parts = parts_equal piece key e in
    record {
      size = parts.0 ∙ is.size;
      bytes = text_one piece.value.bytes.items key.value.bytes.items parts.1 ∙ is.bytes;
      code = text_one piece.value.code.items key.value.code.items parts.2 ∙ is.code;
    }

-- keys of the same value are told from others alike
abbrev key_cmp : PieceKey → PieceKey → Ordering
key_cmp a b = ordering_then (nat_cmp a.size b.size) (ordering_then (slice_cmp nat_cmp a.bytes.items b.bytes.items) (slice_cmp nat_cmp a.code.items b.code.items))

pub cmp_copy : (r a b : PieceRef) → a.value ≡ b.value → piece_cmp r a ≡ piece_cmp r b
cmp_copy r a b e = ap (key_cmp r.value) e

-- no row in hand is one of the key, nor of its copy
pub none_out : (rows : List (HeldRow PieceRef KeptLeaf)) (key copy : PieceRef) → copy.value ≡ key.value
    → ((place : ℕ) (piece : PieceRef) → slice_get (map (λ (r : HeldRow PieceRef KeptLeaf). r.piece) rows) place ≡ Some piece → piece_cmp piece key ≡ Equal → ⊥) → HasNone piece_cmp rows copy
none_out [] key copy e out = tt
none_out (r ∷ rs) key copy e out = (λ f. out 0 r.piece refl (sym (cmp_copy r.piece copy key e) ∙ f), none_out rs key copy e (λ place piece g. out (suc place) piece g))

-- ---- one more at the end

pub at_end : {X : Type 0} (xs : List X) (x y : X) (i : ℕ) → slice_get (xs ++ x ∷ []) i ≡ Some y → (slice_get xs i ≡ Some y) ⊎ ((i ≡ length xs) × (x ≡ y))
at_end [] x y zero e = let same : x ≡ y = cc in inr (refl, same)
at_end [] x y (suc i) e = absurd (let f : None ≡ Some y = e in cc)
at_end (z ∷ zs) x y zero e = inl e
at_end (z ∷ zs) x y (suc i) e = elim (at_end zs x y i e) [ inl f ↦ inl f | inr (f, g) ↦ inr (ap suc f, g) ]

pub length_last : {X : Type 0} (xs : List X) (x : X) → length (xs ++ x ∷ []) ≡ length xs + 1
length_last [] x = refl
length_last (y ∷ ys) x = let e = length_last ys x in omega (arith, e)

index_before : (xs ys : List ℕ) (i : ℕ) → i < length xs → slice_index (xs ++ ys) i ≡ slice_index xs i
index_before [] ys i h = absurd (omega (arith, h))
index_before (x ∷ xs) ys zero h = refl
index_before (x ∷ xs) ys (suc i) h = index_before xs ys i (omega (arith, h))

index_last : (xs : List ℕ) (x : ℕ) → slice_index (xs ++ x ∷ []) (length xs) ≡ x
index_last [] x = refl
index_last (y ∷ ys) x = index_last ys x

pub place_before : (pieces more : List PieceRef) (place : ℕ) (part : SeenPart) → IsPlaceOf pieces place part → IsPlaceOf (pieces ++ more) place part
place_before pieces more place part at = record { key = at.key; stands = before_more pieces more place at.key at.stands; of_piece = at.of_piece }

-- a part more, whose row stands among pieces of which some are new
pub places_more : (pieces more : List PieceRef) (places : List ℕ) (parts : List SeenPart) (place : ℕ) (part : SeenPart)
    → ArePlacesOf pieces places parts → IsPlaceOf (pieces ++ more) place part → ArePlacesOf (pieces ++ more) (places ++ place ∷ []) (parts ++ part ∷ [])
places_more pieces more places parts place part are at = record {
  as_many = length_last places place ∙ ap (λ n. n + 1) are.as_many ∙ sym (length_last parts part);
  each = λ i p e. by i p (at_end parts part p i e);
}
  where
    by : (i : ℕ) (p : SeenPart) → (slice_get parts i ≡ Some p) ⊎ ((i ≡ length parts) × (part ≡ p)) → IsPlaceOf (pieces ++ more) (slice_index (places ++ place ∷ []) i) p
    by i p (inl e) =
        let P : ℕ → Type 0 = λ k. IsPlaceOf (pieces ++ more) k p in
        let inside = within parts i p e in
        let many = are.as_many in
        let less : i < length places = omega (arith, inside, many) in
        subst P (sym (index_before places (place ∷ []) i less)) (place_before pieces more (slice_index places i) p (are.each i p e))
    by i p (inr (e, f)) =
        let P : ℕ → Type 0 = λ k. IsPlaceOf (pieces ++ more) k p in
        let Q : SeenPart → Type 0 = λ q. IsPlaceOf (pieces ++ more) place q in
        let last : slice_index (places ++ place ∷ []) i ≡ place = ap (slice_index (places ++ place ∷ [])) (e ∙ sym are.as_many) ∙ index_last places place in
        subst P (sym last) (subst Q f at)

pub pieces_length : (rows : List (HeldRow PieceRef KeptLeaf)) → length (map (λ (r : HeldRow PieceRef KeptLeaf). r.piece) rows) ≡ length rows
pieces_length [] = refl
pieces_length (r ∷ rs) = ap suc (pieces_length rs)

-- ---- the places that are known

module _ (old new : OpenLeaves) (piece : PieceRef) (behind : pieces_in new ≡ pieces_in old ++ piece ∷ []) where
  -- the new piece stands behind the others
  pub stands_new : slice_get (pieces_in new) (length (pieces_in old)) ≡ Some piece
  stands_new = ap (λ (ps : List PieceRef). slice_get ps (length (pieces_in old))) behind ∙ stands_last (pieces_in old) piece

  pub in_new : (key : PieceRef) (place : ℕ) → IsIn old key place → IsIn new key place
  in_new key place (p, e, f) = (p, ap (λ (ps : List PieceRef). slice_get ps place) behind ∙ before_more (pieces_in old) (piece ∷ []) place p e, f)

  pub out_new : (key : PieceRef) → (piece_cmp piece key ≡ Equal → ⊥) → IsOut old key → IsOut new key
  out_new key differ out place p e f = elim (at_end (pieces_in old) piece p place (ap (λ (ps : List PieceRef). slice_get ps place) (sym behind) ∙ e)) [
    | inl g ↦ out place p g f
    | inr (g, h) ↦ differ (ap (λ (k : PieceRef). piece_cmp k key) h ∙ f)
  ]

  -- a key that is put with the new place, where its copy is the new piece
  pub knows_new : (places more : BTreeMap PieceRef ℕ) (copy : PieceRef) (place : ℕ) → place ≡ length (pieces_in old) → piece.value ≡ copy.value
      → ((key : PieceRef) → get piece_cmp more key ≡ cond (is_eq (piece_cmp copy key)) (Some place) (get piece_cmp places key)) → Knows old places → Knows new more
  knows_new places more copy place at same puts knows key = subst M (sym (puts key)) (by (is_eq (piece_cmp copy key)) refl)
    where
      M : Option ℕ → Type 0
      M o = MatchOption o (IsOut new key) (IsIn new key)

      swapped : piece_cmp piece key ≡ piece_cmp copy key
      swapped = ap (λ (v : PieceKey). key_cmp v key.value) same

      old_one : (o : Option ℕ) → (piece_cmp piece key ≡ Equal → ⊥) → MatchOption o (IsOut old key) (IsIn old key) → M o
      old_one None differ out = out_new key differ out
      old_one (Some p) differ is = in_new key p is

      by : (b : Bool) → is_eq (piece_cmp copy key) ≡ b → M (cond b (Some place) (get piece_cmp places key))
      by true e = (piece, ap (slice_get (pieces_in new)) at ∙ stands_new, swapped ∙ is_equal (piece_cmp copy key) e)
      by false e = old_one (get piece_cmp places key) (λ f. let g : true ≡ false = sym (ap is_eq (sym swapped ∙ f)) ∙ e in cc) (knows key)
