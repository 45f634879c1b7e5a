-- What a change of the store at one pair, or at one path, makes of what is kept.
use Rattle.std.proofs.Common.{◌≡◌, ◌∙◌, ℕ, List, [], ◌∷◌, ◌⊎◌, inl, inr, refl, sym, ap, subst, Bool, true, false, cond}
use Rattle.std.specs.Prelude.{Option, None, Some, ◌&&◌, unwrap_or, if◌then◌else◌}
use Rattle.std.specs.Ordering.{is_eq}
use Rattle.std.specs.Cmp.Lexicographic.{bytes_decides}
use Rattle.std.specs.Str.{bytes_eq}
use Rattle.piece_store.specs.Kept.{put_pair}
use Rattle.piece_store.specs.Slots.{marked, turned}
use Rattle.piece_store.proofs.ByNumber.{is_equal}
use Rattle.tree_match.specs.declared.leaf.Leaf.{Leaf}
use Rattle.tree_match.specs.Leaf.{IsLeaf}
use Rattle.piece_match.specs.Pieces.{IsPieceMember, known_piece}
use Rattle.kept_leaves.specs.declared.leaf.KeptLeaf.{KeptLeaf}
use Rattle.kept_leaves.specs.Kept.{PieceRef, PatternRef, Map, piece_cmp, pattern_cmp, AreKeys, Keeps, IsKept, IsMet, IsEmpty, AreRight}
use Rattle.kept_leaves.specs.Growth.{Stays, Grows, Turns}
use Rattle.kept_leaves.specs.Pairs.{Pair, IsSamePair}
use Rattle.kept_leaves.proofs.Keyed.{IsAlike, keys_of_same, tied, told}
use Rattle.kept_leaves.proofs.Laws.{one_answer, found_by}
use Rattle.kept_leaves.proofs.Pairs.{same_back, alone, one_alone}

abbrev Answer : Type 0
Answer = Option (KeptLeaf × Bool)

abbrev answer : Leaf → Bool → Answer
answer leaf met = Some (record { leaf = leaf }, met)

not_equal : true ≡ false → ⊥
not_equal e = cc

both_first : (a b : Bool) → a && b ≡ true → a ≡ true
both_first true b e = refl
both_first false b e = absurd (not_equal (sym e))

both_second : (a b : Bool) → a && b ≡ true → b ≡ true
both_second true b e = e
both_second false b e = absurd (not_equal (sym e))

all_three : (a b c : Bool) → a ≡ true → b ≡ true → c ≡ true → a && (b && c) ≡ true
all_three a b c e f g = ap (λ (x : Bool). x && (b && c)) e ∙ ap (λ (x : Bool). x && c) f ∙ g

none_some : (leaf : Leaf) (met : Bool) (o : Answer) → o ≡ None → o ≡ answer leaf met → ⊥
none_some leaf met o e f = let g : None ≡ answer leaf met = sym e ∙ f in cc

-- a marked answer was there
was_answer : (leaf : Leaf) (met : Bool) (o : Answer) → marked o ≡ answer leaf met → (was : Bool) × (o ≡ answer leaf was) × (met ≡ true)
was_answer leaf met None e = absurd (none_some leaf met None refl e)
was_answer leaf met (Some k) e =
    let f : Answer → KeptLeaf × Bool = λ o. unwrap_or o k in
    let pair : (k.0, true) ≡ (record { leaf = leaf }, met) = ap f e in
    let kept_leaf : k.0 ≡ record { leaf = leaf } = ap (λ (p : KeptLeaf × Bool). p.0) pair in
    let is_met : true ≡ met = ap (λ (p : KeptLeaf × Bool). p.1) pair in
    (k.1, ap (λ (l : KeptLeaf). let o : Answer = Some (l, k.1) in o) kept_leaf, sym is_met)

module _ (old new : Map) (alike : IsAlike old) (x : Pair) (a : PieceRef) (b : PatternRef) (keys : AreKeys x a b) (v : Answer)
    (put : (path : List ℕ) (p : PieceRef) (q : PatternRef) → new path p q ≡ put_pair piece_cmp pattern_cmp x.path a b v old path p q) where
  -- whether these are the keys at which it was put
  abbrev test : List ℕ → PieceRef → PatternRef → Bool
  test path p q = bytes_eq x.path path && (is_eq (piece_cmp a p) && is_eq (pattern_cmp b q))

  hit : (path : List ℕ) (p : PieceRef) (q : PatternRef) → test path p q ≡ true → new path p q ≡ v
  hit path p q e = put path p q ∙ ap (λ (t : Bool). cond t v (old path p q)) e

  miss : (path : List ℕ) (p : PieceRef) (q : PatternRef) → test path p q ≡ false → new path p q ≡ old path p q
  miss path p q e = put path p q ∙ ap (λ (t : Bool). cond t v (old path p q)) e

  -- what was kept there before
  was : (path : List ℕ) (p : PieceRef) (q : PatternRef) → test path p q ≡ true → old path p q ≡ old x.path a b
  was path p q e =
      let path_is : x.path ≡ path = (bytes_decides x.path path).0 (both_first (bytes_eq x.path path) (is_eq (piece_cmp a p) && is_eq (pattern_cmp b q)) e) in
      let rest = both_second (bytes_eq x.path path) (is_eq (piece_cmp a p) && is_eq (pattern_cmp b q)) e in
      let f = is_equal (piece_cmp a p) (both_first (is_eq (piece_cmp a p)) (is_eq (pattern_cmp b q)) rest) in
      let g = is_equal (pattern_cmp b q) (both_second (is_eq (piece_cmp a p)) (is_eq (pattern_cmp b q)) rest) in
      sym (ap (λ (o : List ℕ). old o p q) path_is) ∙ sym (alike x.path a p b q f g)

  hit_same : (y : Pair) (p : PieceRef) (q : PatternRef) → AreKeys y p q → test y.path p q ≡ true → IsSamePair x y
  hit_same y p q its e =
      let path_is : x.path ≡ y.path = (bytes_decides x.path y.path).0 (both_first (bytes_eq x.path y.path) (is_eq (piece_cmp a p) && is_eq (pattern_cmp b q)) e) in
      let rest = both_second (bytes_eq x.path y.path) (is_eq (piece_cmp a p) && is_eq (pattern_cmp b q)) e in
      let f = is_equal (piece_cmp a p) (both_first (is_eq (piece_cmp a p)) (is_eq (pattern_cmp b q)) rest) in
      let g = is_equal (pattern_cmp b q) (both_second (is_eq (piece_cmp a p)) (is_eq (pattern_cmp b q)) rest) in
      told x y a b keys p q its path_is f g

  itself : test x.path a b ≡ true
  itself =
      let t = tied x x a b keys a b keys (record { path = refl; piece = refl; pattern = refl }) in
      all_three (bytes_eq x.path x.path) (is_eq (piece_cmp a a)) (is_eq (pattern_cmp b b)) ((bytes_decides x.path x.path).1 refl) (ap is_eq t.0) (ap is_eq t.1)

  -- nothing was kept there, and nothing is
  pub same_none : old x.path a b ≡ None → v ≡ None → (path : List ℕ) (p : PieceRef) (q : PatternRef) → new path p q ≡ old path p q
  same_none none is path p q = by (test path p q) refl
    where
      by : (t : Bool) → test path p q ≡ t → new path p q ≡ old path p q
      by true e = hit path p q e ∙ is ∙ sym none ∙ sym (was path p q e)
      by false e = miss path p q e

  -- a pair of the new store is that which was put, or is kept as before
  module _ (y : Pair) (leaf : Leaf) (met : Bool) (k : Keeps new y leaf met) where
    seen : (t : Bool) → test y.path k.piece k.pattern ≡ t → (IsSamePair x y × (v ≡ answer leaf met)) ⊎ Keeps old y leaf met
    seen true e = inl (hit_same y k.piece k.pattern k.are_keys e, sym (hit y.path k.piece k.pattern e) ∙ k.found)
    seen false e = inr (record { piece = k.piece; pattern = k.pattern; are_keys = k.are_keys; found = sym (miss y.path k.piece k.pattern e) ∙ k.found })

    put_or_kept : (IsSamePair x y × (v ≡ answer leaf met)) ⊎ Keeps old y leaf met
    put_or_kept = seen (test y.path k.piece k.pattern) refl

  -- a pair of the old store is that at which it was put, or is kept as before
  module _ (y : Pair) (leaf : Leaf) (met : Bool) (k : Keeps old y leaf met) where
    left : (t : Bool) → test y.path k.piece k.pattern ≡ t → ((old x.path a b ≡ answer leaf met) × (new y.path k.piece k.pattern ≡ v)) ⊎ Keeps new y leaf met
    left true e = inl (sym (was y.path k.piece k.pattern e) ∙ k.found, hit y.path k.piece k.pattern e)
    left false e = inr (record { piece = k.piece; pattern = k.pattern; are_keys = k.are_keys; found = miss y.path k.piece k.pattern e ∙ k.found })

    over_or_kept : ((old x.path a b ≡ answer leaf met) × (new y.path k.piece k.pattern ≡ v)) ⊎ Keeps new y leaf met
    over_or_kept = left (test y.path k.piece k.pattern) refl

  -- the pair itself has what was put
  put_there : (y : Pair) (leaf : Leaf) (met : Bool) → IsSamePair x y → v ≡ answer leaf met → Keeps new y leaf met
  put_there y leaf met same e =
      let P : List ℕ → Type 0 = λ path. new path a b ≡ answer leaf met in
      record { piece = a; pattern = b; are_keys = keys_of_same x y a b keys same; found = subst P same.path (hit x.path a b itself ∙ e) }

  -- ---- a kept pair is marked

  module _ (leaf : Leaf) (before : Bool) (there : old x.path a b ≡ answer leaf before) (is : v ≡ marked (old x.path a b)) where
    now_met : v ≡ answer leaf true
    now_met = is ∙ ap marked there

    kept_before : (y : Pair) → IsSamePair x y → Keeps old y leaf before
    kept_before y same =
        let P : List ℕ → Type 0 = λ path. old path a b ≡ answer leaf before in
        record { piece = a; pattern = b; are_keys = keys_of_same x y a b keys same; found = subst P same.path there }

    marks_stay : Stays old new
    marks_stay y l m k = elim (over_or_kept y l m k) [
      | inl (e, f) ↦ (true, record { piece = k.piece; pattern = k.pattern; are_keys = k.are_keys; found = f ∙ is ∙ ap marked e }, λ g. refl)
      | inr j ↦ (m, j, λ g. g)
    ]

    pub marks : Grows old new (IsSamePair x) []
    marks = record {
      stays = marks_stay;
      met = λ y same. (leaf, put_there y leaf true same now_met);
      only_met = λ y (l, k). elim (put_or_kept y l true k) [ inl (same, e) ↦ inr same | inr j ↦ inl (l, j) ];
      only_kept = λ y (l, m, k). elim (put_or_kept y l m k) [ inl (same, e) ↦ inl (leaf, before, kept_before y same) | inr j ↦ inl (l, m, j) ];
      fresh = λ y (z, h, e) k. absurd h;
      gained = λ y (z, h, e). absurd h;
      once = tt;
    }

    pub marks_right : AreRight old → AreRight new
    marks_right right y l m k = elim (put_or_kept y l m k) [
      | inl (same, e) ↦ (let (w, f, g) = was_answer l m (old x.path a b) (sym is ∙ e) in let P : List ℕ → Type 0 = λ path. old path a b ≡ answer l w in
          right y l w (record { piece = a; pattern = b; are_keys = keys_of_same x y a b keys same; found = subst P same.path f }))
      | inr j ↦ right y l m j
    ]

  -- ---- a leaf is kept for a pair that wasn't

  module _ (leaf : Leaf) (none : old x.path a b ≡ None) (is : v ≡ answer leaf true) where
    keep_stays : Stays old new
    keep_stays y l m k = elim (over_or_kept y l m k) [ inl (e, f) ↦ absurd (none_some l m (old x.path a b) none e) | inr j ↦ (m, j, λ g. g) ]

    pub keeping : Grows old new (IsSamePair x) (x ∷ [])
    keeping = record {
      stays = keep_stays;
      met = λ y same. (leaf, put_there y leaf true same is);
      only_met = λ y (l, k). elim (put_or_kept y l true k) [ inl (same, e) ↦ inr same | inr j ↦ inl (l, j) ];
      only_kept = λ y (l, m, k). elim (put_or_kept y l m k) [ inl (same, e) ↦ inr (alone x y same) | inr j ↦ inl (l, m, j) ];
      fresh = λ y o (l, m, k). none_some l m (old x.path a b) none (found_by old alike y x a b l m (same_back x y (one_alone x y o)) keys k);
      gained = λ y o. (leaf, put_there y leaf true (one_alone x y o) is);
      once = (λ (z, h, e). absurd h, tt);
    }

    pub keeping_right : ((y : Pair) → IsSamePair x y → IsLeaf (IsPieceMember y.pattern (known_piece y.piece)) leaf) → AreRight old → AreRight new
    keeping_right exact right y l m k = elim (put_or_kept y l m k) [
      | inl (same, e) ↦ (let P : Leaf → Type 0 = λ z. IsLeaf (IsPieceMember y.pattern (known_piece y.piece)) z in subst P (one_answer leaf l true m (sym is ∙ e)).0 (exact y same))
      | inr j ↦ right y l m j
    ]

-- ---- turns

turned_answer : (leaf : Leaf) (met : Bool) (o : Answer) → turned o ≡ answer leaf met → (met ≡ false) × (o ≡ answer leaf true)
turned_answer leaf met None e = absurd (none_some leaf met None refl e)
turned_answer leaf met (Some (k, true)) e = let p = one_answer k.leaf leaf false met e in (sym p.1, ap (λ (l : Leaf). answer l true) p.0)
turned_answer leaf met (Some (k, false)) e = absurd (none_some leaf met None refl e)

pub turns : (old new : Map) → ((path : List ℕ) (p : PieceRef) (q : PatternRef) → new path p q ≡ turned (old path p q)) → Turns old new
turns old new is = record {
  stays = λ x leaf k. record { piece = k.piece; pattern = k.pattern; are_keys = k.are_keys; found = is x.path k.piece k.pattern ∙ ap turned k.found };
  only = λ x leaf met k.
      let t = turned_answer leaf met (old x.path k.piece k.pattern) (sym (is x.path k.piece k.pattern) ∙ k.found) in
      (t.0, record { piece = k.piece; pattern = k.pattern; are_keys = k.are_keys; found = t.1 });
}

pub turns_right : (old new : Map) → Turns old new → AreRight old → AreRight new
turns_right old new t right x leaf met k = right x leaf true (t.only x leaf met k).1

-- ---- all pairs of a path are marked

module _ (old new : Map) (path : List ℕ)
    (is : (o : List ℕ) (p : PieceRef) (q : PatternRef) → new o p q ≡ (if bytes_eq path o then marked (old o p q) else old o p q)) where
  here : (o : List ℕ) (p : PieceRef) (q : PatternRef) → bytes_eq path o ≡ true → new o p q ≡ marked (old o p q)
  here o p q e = is o p q ∙ ap (λ (t : Bool). if t then marked (old o p q) else old o p q) e

  elsewhere : (o : List ℕ) (p : PieceRef) (q : PatternRef) → bytes_eq path o ≡ false → new o p q ≡ old o p q
  elsewhere o p q e = is o p q ∙ ap (λ (t : Bool). if t then marked (old o p q) else old o p q) e

  -- a pair of the new store was kept, and is one of the path that is met, or is as it was
  module _ (x : Pair) (leaf : Leaf) (met : Bool) (k : Keeps new x leaf met) where
    path_seen : (t : Bool) → bytes_eq path x.path ≡ t → (was : Bool) × Keeps old x leaf was × (((path ≡ x.path) × (met ≡ true)) ⊎ (met ≡ was))
    path_seen true e =
        let (w, f, g) = was_answer leaf met (old x.path k.piece k.pattern) (sym (here x.path k.piece k.pattern e) ∙ k.found) in
        (w, record { piece = k.piece; pattern = k.pattern; are_keys = k.are_keys; found = f }, inl ((bytes_decides path x.path).0 e, g))
    path_seen false e = (met, record { piece = k.piece; pattern = k.pattern; are_keys = k.are_keys; found = sym (elsewhere x.path k.piece k.pattern e) ∙ k.found }, inr refl)

    seen_before : (was : Bool) × Keeps old x leaf was × (((path ≡ x.path) × (met ≡ true)) ⊎ (met ≡ was))
    seen_before = path_seen (bytes_eq path x.path) refl

  path_stays : Stays old new
  path_stays x leaf met k = by (bytes_eq path x.path) refl
    where
      by : (t : Bool) → bytes_eq path x.path ≡ t → (now : Bool) × Keeps new x leaf now × (met ≡ true → now ≡ true)
      by true e = (true, record { piece = k.piece; pattern = k.pattern; are_keys = k.are_keys; found = here x.path k.piece k.pattern e ∙ ap marked k.found }, λ f. refl)
      by false e = (met, record { piece = k.piece; pattern = k.pattern; are_keys = k.are_keys; found = elsewhere x.path k.piece k.pattern e ∙ k.found }, λ f. f)

  path_met : (x : Pair) → (path ≡ x.path) × IsKept old x → IsMet new x
  path_met x (e, (leaf, met, k)) =
      (leaf, record { piece = k.piece; pattern = k.pattern; are_keys = k.are_keys; found = here x.path k.piece k.pattern ((bytes_decides path x.path).1 e) ∙ ap marked k.found })

  path_only : (x : Pair) → IsMet new x → IsMet old x ⊎ ((path ≡ x.path) × IsKept old x)
  path_only x (leaf, k) =
      let (w, j, h) = seen_before x leaf true k in
      let P : Bool → Type 0 = λ m. Keeps old x leaf m in
      elim h [ inl (e, f) ↦ inr (e, (leaf, w, j)) | inr e ↦ inl (leaf, subst P (sym e) j) ]

  pub path_marks : Grows old new (λ x. (path ≡ x.path) × IsKept old x) []
  path_marks = record {
    stays = path_stays;
    met = path_met;
    only_met = path_only;
    only_kept = λ x (leaf, met, k). let (w, j, h) = seen_before x leaf met k in inl (leaf, w, j);
    fresh = λ x (z, h, e) k. absurd h;
    gained = λ x (z, h, e). absurd h;
    once = tt;
  }

  pub path_right : AreRight old → AreRight new
  path_right right x leaf met k = let (w, j, h) = seen_before x leaf met k in right x leaf w j

-- ---- nothing is kept

pub none_kept : (map : Map) → ((path : List ℕ) (p : PieceRef) (q : PatternRef) → map path p q ≡ None) → IsEmpty map
none_kept map is x (leaf, met, k) = none_some leaf met (map x.path k.piece k.pattern) (is x.path k.piece k.pattern) k.found

pub none_right : (map : Map) → IsEmpty map → AreRight map
none_right map none x leaf met k = absurd (none x (leaf, met, k))
