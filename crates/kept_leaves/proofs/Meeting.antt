-- One pair is met: marked where it is kept, and else matched and kept.
use Rattle.std.proofs.Common.{◌≡◌, ◌∙◌, ℕ, ◌+◌, List, [], ◌∷◌, ◌⊎◌, inl, inr, refl, sym, ap, subst, Bool, true, false, arith}
use Rattle.std.specs.Prelude.{Option, None, Some, is_some, Result, Ok, Err, OnOk}
use Rattle.node_tree.specs.declared.view.Pattern.{Pattern}
use Rattle.piece_form.specs.declared.piece.Piece.{Piece}
use Rattle.file_parts.specs.Parts.{SeenPart, is_needed}
use Rattle.piece_form.specs.Identity.{IsSamePiece}
use Rattle.piece_store.specs.Kept.{put_pair}
use Rattle.piece_store.specs.Slots.{marked}
use Rattle.tree_match.specs.declared.leaf.Leaf.{Leaf}
use Rattle.tree_match.specs.Leaf.{IsLeaf}
use Rattle.piece_match.specs.Pieces.{IsPieceMember, known_piece}
use Rattle.kept_leaves.specs.declared.leaf.KeptLeaf.{KeptLeaf}
use Rattle.kept_leaves.specs.Kept.{PieceRef, PatternRef, Map, piece_cmp, pattern_cmp, AreKeys, AreRight}
use Rattle.kept_leaves.specs.Growth.{Grows, Meets}
use Rattle.kept_leaves.specs.Pairs.{Pair, IsSamePair, IsOneOf}
use Rattle.kept_leaves.specs.Ready.{pair_of, pairs_of}
use Rattle.kept_leaves.proofs.Keyed.{IsAlike, tied}
use Rattle.kept_leaves.proofs.Laws.{some_pair, grows_none, grows_then, grows_as, right_as}
use Rattle.kept_leaves.proofs.Growing.{meets_none, meets_as}
use Rattle.kept_leaves.proofs.Needs.{pair_here, pair_out}
use Rattle.kept_leaves.proofs.Pairs.{same_itself}
use Rattle.kept_leaves.proofs.Puts.{same_none, marks, marks_right, keeping, keeping_right}

-- an answer that is there
there : (o : Option (KeptLeaf × Bool)) → is_some o ≡ true → (leaf : Leaf) × (met : Bool) × (o ≡ some_pair leaf met)
there None e = absurd (let f : false ≡ true = e in cc)
there (Some k) e = (k.0.leaf, k.1, refl)

not_there : (o : Option (KeptLeaf × Bool)) → is_some o ≡ false → o ≡ None
not_there None e = refl
not_there (Some k) e = absurd (let f : true ≡ false = e in cc)

module _ (old mid : Map) (alike : IsAlike old) (x : Pair) (a : PieceRef) (b : PatternRef) (keys : AreKeys x a b)
    (mark : (path : List ℕ) (p : PieceRef) (q : PatternRef) → mid path p q ≡ put_pair piece_cmp pattern_cmp x.path a b (marked (old x.path a b)) old path p q) where
  -- it was kept
  module _ (told : is_some (old x.path a b) ≡ true) where
    pub marked_grows : Grows old mid (IsSamePair x) []
    marked_grows = let (leaf, met, e) = there (old x.path a b) told in marks old mid alike x a b keys (marked (old x.path a b)) mark leaf met e refl

    pub marked_right : AreRight old → AreRight mid
    marked_right = let (leaf, met, e) = there (old x.path a b) told in marks_right old mid alike x a b keys (marked (old x.path a b)) mark leaf met e refl

  -- it wasn't
  module _ (told : is_some (old x.path a b) ≡ false) where
    none : old x.path a b ≡ None
    none = not_there (old x.path a b) told

    as_before : (path : List ℕ) (p : PieceRef) (q : PatternRef) → mid path p q ≡ old path p q
    as_before = same_none old mid alike x a b keys (marked (old x.path a b)) mark none (ap marked none)

    pub unmarked_right : AreRight old → AreRight mid
    unmarked_right right = right_as old mid as_before right

    -- a leaf is kept for it
    module _ (new : Map) (c : PieceRef) (d : PatternRef) (its : AreKeys x c d) (leaf : Leaf)
        (keep : (path : List ℕ) (p : PieceRef) (q : PatternRef) → new path p q ≡ put_pair piece_cmp pattern_cmp x.path c d (some_pair leaf true) mid path p q) where
      mid_alike : IsAlike mid
      mid_alike path p r q s e f = as_before path p q ∙ alike path p r q s e f ∙ sym (as_before path r s)

      still_none : mid x.path c d ≡ None
      still_none = let t = tied x x c d its a b keys (same_itself x) in mid_alike x.path c a d b t.0 t.1 ∙ as_before x.path a b ∙ none

      pub kept_grows : Grows old new (IsSamePair x) (x ∷ [])
      kept_grows =
          let whole = grows_then old mid new (λ y. ⊥) (IsSamePair x) [] (x ∷ []) (grows_none old mid as_before) (keeping mid new mid_alike x c d its (some_pair leaf true) keep leaf still_none refl) in
          grows_as old new (x ∷ []) (λ y. ⊥ ⊎ IsSamePair x y) (IsSamePair x) (λ y. (λ h. elim h [ inl n ↦ absurd n | inr e ↦ e ], λ e. inr e)) whole

      pub kept_right : ((p : Piece) → IsSamePiece x.piece p → IsLeaf (IsPieceMember x.pattern (known_piece p)) leaf) → AreRight old → AreRight new
      kept_right exact right =
          keeping_right mid new mid_alike x c d its (some_pair leaf true) keep leaf still_none refl (λ y same.
          let P : Pattern → Type 0 = λ q. IsLeaf (IsPieceMember q (known_piece y.piece)) leaf in
          subst P same.pattern (exact y.piece same.piece)) (unmarked_right right)

-- what holds after one outcome
pub on_ok_to : {X E : Type 0} (A C : Type 0) (r : Result X E) → (A → C) → OnOk r A → OnOk r C
on_ok_to A C (Ok x) f a = f a
on_ok_to A C (Err e) f a = tt

pub on_ok_of : {X E : Type 0} (P : Type 0) (r : Result X E) → P → OnOk r P
on_ok_of P (Ok x) p = p
on_ok_of P (Err e) p = tt

-- one part and one pattern
module _ (path : List ℕ) (part : SeenPart) (pattern : Pattern) where
  abbrev pub Wanted : Pair → Type 0
  Wanted = IsOneOf (pairs_of path pattern (part ∷ []))

  -- which the pattern doesn't need
  pub not_wanted : is_needed pattern part ≡ false → (map : Map) (n : ℕ) → Meets Wanted map n map n
  not_wanted e map n = meets_as (λ x. ⊥) Wanted map n map n (pair_out pattern part path e) (meets_none map n)

  module _ (needs : is_needed pattern part ≡ true) (old mid : Map) (alike : IsAlike old) (a : PieceRef) (b : PatternRef) (keys : AreKeys (pair_of path pattern part) a b)
      (mark : (o : List ℕ) (p : PieceRef) (q : PatternRef) → mid o p q ≡ put_pair piece_cmp pattern_cmp path a b (marked (old path a b)) old o p q) where
    abbrev here : Pair
    here = pair_of path pattern part

    -- its pair was kept
    pub meets_marked : is_some (old path a b) ≡ true → (n : ℕ) → Meets Wanted old n mid n
    meets_marked told n =
        meets_as (IsSamePair here) Wanted old n mid n (pair_here pattern part path needs)
        ([], marked_grows old mid alike here a b keys mark told, omega arith)

    -- it is matched and kept
    module _ (told : is_some (old path a b) ≡ false) (new : Map) (leaf : Leaf)
        (keep : (o : List ℕ) (p : PieceRef) (q : PatternRef) → new o p q ≡ put_pair piece_cmp pattern_cmp path a b (some_pair leaf true) mid o p q) where
      pub meets_kept : (n m : ℕ) → m ≡ n + 1 → Meets Wanted old n new m
      meets_kept n m g =
          meets_as (IsSamePair here) Wanted old n new m (pair_here pattern part path needs)
          (here ∷ [], kept_grows old mid alike here a b keys mark told new a b keys leaf keep, g)

      pub rights_kept : ((p : Piece) → IsSamePiece part.placed.piece p → IsLeaf (IsPieceMember pattern (known_piece p)) leaf) → AreRight old → AreRight new
      rights_kept exact right = kept_right old mid alike here a b keys mark told new a b keys leaf keep exact right
