-- The known names of a part of a file.
use Rattle.std.proofs.Common.{◌≡◌, ℕ, zero, suc, ◌+◌, ◌-◌, ◌<◌, ◌≤◌, List, [], ◌∷◌, ◌++◌, length, length-append, map, take, drop, get_or, refl, sym, ap, ◌∙◌, subst, arith, Bool, true, false, cond, nat_lt, add-one, append_assoc}
use Rattle.std.specs.Prelude.{All, ◌&&◌, nat_le, filter}
use Rattle.std.specs.List.Sorted.{IsStrictlyIncreasing}
use Rattle.std.proofs.lemmas.Bool.Decides.{nat_tests}
use Rattle.std.proofs.lemmas.List.{take_more, take_all, take-append-drop, drop_all}
use Rattle.std.proofs.lemmas.List.Elements.{All-nil, All-cons, All-head, All-tail, All-append, filter-append}
use Rattle.node_tree.specs.declared.known.Known.{Known}
use Rattle.node_tree.specs.declared.node.Node.{Node}
use Rattle.node_tree.specs.declared.view.FileView.{FileView}
use Rattle.node_tree.specs.KnownNames.{AreInOrder}
use Rattle.node_tree.specs.Spans.{SpansLieIn}
use Rattle.node_tree.specs.Tree.{kids_of, pre_of, span_of}
use Rattle.node_tree.specs.Numbers.{count_of}
use Rattle.node_tree.specs.Span.{LiesIn}
use Rattle.node_tree.proofs.Trees.{pre_is}
use Rattle.std.specs.List.{flat_map}
use Rattle.std.proofs.Math.Seq.{drop-cons}
use Rattle.piece_form.specs.declared.piece.Placed.{Placed}
use Rattle.piece_form.specs.Cut.{known_between, piece_at, pieces_from}
use Rattle.piece_match.specs.Names.{counted_name}
use Rattle.tree_match.proofs.Placed.{kids_lie}
use Rattle.piece_match.proofs.Unions.{holds_at}

-- ---- names before, between and behind

abbrev is_between : ℕ → ℕ → Known → Bool
is_between first end k = nat_le first k.at && nat_lt k.at end

abbrev recounted : ℕ → Known → Known
recounted first k = record { at = k.at - first; literal = k.literal }

module _ (first end : ℕ) where
  one_between : (t : Bool) (k : Known) → is_between first end k ≡ t → known_between first end (k ∷ []) ≡ cond t (recounted first k ∷ []) []
  one_between t k e = ap (λ (b : Bool). map (recounted first) (cond b (k ∷ []) [])) e ∙ by t
    where
      by : (b : Bool) → map (recounted first) (cond b (k ∷ []) []) ≡ cond b (recounted first k ∷ []) []
      by true = refl
      by false = refl

  map_append : (xs ys : List Known) → map (recounted first) (xs ++ ys) ≡ map (recounted first) xs ++ map (recounted first) ys
  map_append [] ys = refl
  map_append (x ∷ xs) ys = ap (λ (zs : List Known). recounted first x ∷ zs) (map_append xs ys)

  between_append : (xs ys : List Known) → known_between first end (xs ++ ys) ≡ known_between first end xs ++ known_between first end ys
  between_append xs ys = ap (map (recounted first)) (filter-append (is_between first end) xs ys) ∙ map_append (filter (is_between first end) xs) (filter (is_between first end) ys)

  none_more : (k : Known) (ks : List Known) → is_between first end k ≡ false → known_between first end ks ≡ [] → known_between first end (k ∷ ks) ≡ []
  none_more k ks e rest = between_append (k ∷ []) ks ∙ ap (λ (zs : List Known). zs ++ known_between first end ks) (one_between false k e) ∙ rest

  none_before : (ks : List Known) → All (λ (k : Known). k.at < first) ks → known_between first end ks ≡ []
  none_before [] all = refl
  none_before (k ∷ ks) all =
      let here = All-head (λ (k : Known). k.at < first) k ks all in
      none_more k ks (grind (arith, nat_tests, here)) (none_before ks (All-tail (λ (k : Known). k.at < first) k ks all))

  none_behind : (ks : List Known) → All (λ (k : Known). end ≤ k.at) ks → known_between first end ks ≡ []
  none_behind [] all = refl
  none_behind (k ∷ ks) all =
      let here = All-head (λ (k : Known). end ≤ k.at) k ks all in
      none_more k ks (grind (arith, nat_tests, here)) (none_behind ks (All-tail (λ (k : Known). end ≤ k.at) k ks all))

-- ---- names in order

up_tail : (k : Known) (ks : List Known) → AreInOrder (k ∷ ks) → AreInOrder ks
up_tail k ks up i within = let e : suc i + 1 ≡ suc (i + 1) = omega arith in let P : ℕ → Type 0 = λ n. get_or (map (λ (z : Known). z.at) ks) i 0 < get_or (map (λ (z : Known). z.at) (k ∷ ks)) n 0 in subst P e (up (suc i) (omega (arith, within)))

behind_first : (k : Known) (ks : List Known) (least : ℕ) → AreInOrder (k ∷ ks) → least ≤ k.at → All (λ (z : Known). least ≤ z.at) ks
behind_first k [] least up le = All-nil (λ (z : Known). least ≤ z.at)
behind_first k (l ∷ ks) least up le =
    let lt : k.at < l.at = up 0 (omega arith) in
    let here : least ≤ l.at = omega (arith, lt, le) in
    All-cons (λ (z : Known). least ≤ z.at) l ks here (behind_first l ks least (up_tail k (l ∷ ks) up) here)

behind_at : (ks : List Known) (i : ℕ) (k : Known) (least : ℕ) → AreInOrder ks → i < length ks → k ≡ get_or ks i k → least ≤ k.at → All (λ (z : Known). least ≤ z.at) (drop i ks)
behind_at [] i k least up lt is le = absurd (omega arith)
behind_at (l ∷ ks) zero k least up lt is le =
    let here : least ≤ l.at = omega (arith, le, ap (λ (z : Known). z.at) is) in
    All-cons (λ (z : Known). least ≤ z.at) l ks here (behind_first l ks least up here)
behind_at (l ∷ ks) (suc i) k least up lt is le = behind_at ks i k least (up_tail l ks up) (omega arith) is le

-- ---- names that are kept stay in order

up_cons : (k : Known) (ks : List Known) → AreInOrder ks → All (λ (z : Known). k.at + 1 ≤ z.at) ks → AreInOrder (k ∷ ks)
up_cons k [] up all i within = absurd (omega (arith, within))
up_cons k (l ∷ ks) up all zero within = let here = All-head (λ (z : Known). k.at + 1 ≤ z.at) l ks all in omega (arith, here)
up_cons k (l ∷ ks) up all (suc i) within =
    let e : suc i + 1 ≡ suc (i + 1) = omega arith in
    let P : ℕ → Type 0 = λ n. get_or (map (λ (z : Known). z.at) (l ∷ ks)) i 0 < get_or (map (λ (z : Known). z.at) (k ∷ l ∷ ks)) n 0 in
    subst P (sym e) (up i (omega (arith, within)))

behind_all_of : (k : Known) (ks : List Known) → AreInOrder (k ∷ ks) → All (λ (z : Known). k.at + 1 ≤ z.at) ks
behind_all_of k [] up = All-nil (λ (z : Known). k.at + 1 ≤ z.at)
behind_all_of k (l ∷ ks) up =
    let lt : k.at < l.at = up 0 (omega arith) in
    let here : k.at + 1 ≤ l.at = omega (arith, lt) in
    All-cons (λ (z : Known). k.at + 1 ≤ z.at) l ks here (behind_first l ks (k.at + 1) (up_tail k (l ∷ ks) up) here)

module _ (first end : ℕ) where
  recounted_behind : (at : ℕ) (ks : List Known) → first ≤ at → All (λ (z : Known). at + 1 ≤ z.at) ks → All (λ (z : Known). (at - first) + 1 ≤ z.at) (known_between first end ks)
  recounted_behind at [] le all = All-nil (λ (z : Known). (at - first) + 1 ≤ z.at)
  recounted_behind at (k ∷ ks) le all = by (is_between first end k) (recounted_behind at ks le (All-tail (λ (z : Known). at + 1 ≤ z.at) k ks all))
    where
      by : (b : Bool) → All (λ (z : Known). (at - first) + 1 ≤ z.at) (known_between first end ks)
          → All (λ (z : Known). (at - first) + 1 ≤ z.at) (map (recounted first) (cond b (k ∷ filter (is_between first end) ks) (filter (is_between first end) ks)))
      by true rest =
          let here = All-head (λ (z : Known). at + 1 ≤ z.at) k ks all in
          All-cons (λ (z : Known). (at - first) + 1 ≤ z.at) (recounted first k) (known_between first end ks) (omega (arith, here, le)) rest
      by false rest = rest

  pub between_ordered : (ks : List Known) → AreInOrder ks → AreInOrder (known_between first end ks)
  between_ordered [] up = up
  between_ordered (k ∷ ks) up = by (is_between first end k) refl (between_ordered ks (up_tail k ks up))
    where
      by : (b : Bool) → is_between first end k ≡ b → AreInOrder (known_between first end ks)
          → AreInOrder (map (recounted first) (cond b (k ∷ filter (is_between first end) ks) (filter (is_between first end) ks)))
      by true e rest =
          let low : first ≤ k.at = grind (arith, nat_tests, e) in
          up_cons (recounted first k) (known_between first end ks) rest (recounted_behind k.at ks low (behind_all_of k ks up))
      by false e rest = rest

-- ---- what the loop keeps

module _ (first end : ℕ) (ks : List Known) where
  pub names_start : (kept : List Known) (i : ℕ) → kept ≡ [] → All (λ (k : Known). k.at < first) (take i ks) → kept ≡ known_between first end (take i ks)
  names_start kept i e all = e ∙ sym (none_before first end (take i ks) all)

  all_lower : (xs : List Known) → first ≤ end → All (λ (k : Known). k.at < first) xs → All (λ (k : Known). k.at < end) xs
  all_lower [] le all = All-nil (λ (k : Known). k.at < end)
  all_lower (x ∷ xs) le all =
      let here = All-head (λ (k : Known). k.at < first) x xs all in
      All-cons (λ (k : Known). k.at < end) x xs (omega (arith, le, here)) (all_lower xs le (All-tail (λ (k : Known). k.at < first) x xs all))

  pub behind_start : (i : ℕ) → first ≤ end → All (λ (k : Known). k.at < first) (take i ks) → All (λ (k : Known). k.at < end) (take i ks)
  behind_start i le all = all_lower (take i ks) le all

  module _ (i : ℕ) (k : Known) (lt : i < length ks) (is : k ≡ get_or ks i k) where
    one_more : take (i + 1) ks ≡ take i ks ++ k ∷ []
    one_more = take_more ks i k lt ∙ ap (λ (z : Known). take i ks ++ z ∷ []) (sym is)

    pub behind_step : k.at < end → All (λ (z : Known). z.at < end) (take i ks) → All (λ (z : Known). z.at < end) (take (i + 1) ks)
    behind_step below all =
        let P : List Known → Type 0 = All (λ (z : Known). z.at < end) in
        subst P (sym one_more) (All-append (λ (z : Known). z.at < end) (take i ks) (k ∷ []) all (All-cons (λ (z : Known). z.at < end) k [] below (All-nil (λ (z : Known). z.at < end))))

    append_none : (xs : List Known) → xs ++ [] ≡ xs
    append_none [] = refl
    append_none (x ∷ xs) = ap (λ (zs : List Known). x ∷ zs) (append_none xs)

    one_name : k.at < end → known_between first end (k ∷ []) ≡ counted_name first k
    one_name below = one_between first end (nat_le first k.at) k (within (nat_le first k.at) (nat_lt k.at end) (grind (arith, nat_tests, below)))
      where
        within : (a b : Bool) → b ≡ true → a && b ≡ a
        within true b e = e
        within false b e = refl

    pub names_step : (kept new : List Known) → k.at < end → new ≡ kept ++ counted_name first k → kept ≡ known_between first end (take i ks) → new ≡ known_between first end (take (i + 1) ks)
    names_step kept new below f inv =
        f ∙ ap (λ (zs : List Known). zs ++ counted_name first k) inv
        ∙ sym (ap (known_between first end) one_more ∙ between_append first end (take i ks) (k ∷ []) ∙ ap (λ (zs : List Known). known_between first end (take i ks) ++ zs) (one_name below))

    pub names_end : (kept : List Known) → AreInOrder ks → end ≤ k.at → kept ≡ known_between first end (take i ks) → kept ≡ known_between first end ks
    names_end kept up le inv =
        inv ∙ sym (append_none (known_between first end (take i ks)))
        ∙ sym (ap (known_between first end) (sym (take-append-drop i ks)) ∙ between_append first end (take i ks) (drop i ks) ∙ ap (λ (zs : List Known). known_between first end (take i ks) ++ zs) (none_behind first end (drop i ks) (behind_at ks i k end up lt is le)))

  pub names_all : (kept : List Known) (i : ℕ) → length ks ≤ i → kept ≡ known_between first end (take i ks) → kept ≡ known_between first end ks
  names_all kept i le inv = inv ∙ ap (known_between first end) (take_all i ks le)

  pub behind_all : (i j : ℕ) → length ks ≤ i → length ks ≤ j → All (λ (z : Known). z.at < end) (take i ks) → All (λ (z : Known). z.at < end) (take j ks)
  behind_all i j le le' all = let P : List Known → Type 0 = All (λ (z : Known). z.at < end) in subst P (take_all i ks le ∙ sym (take_all j ks le')) all

-- ---- statements

pub own_lies : (text : List ℕ) (n : Node) → SpansLieIn text n → LiesIn text (span_of n)
own_lies text n lies =
    let P : List Node → Type 0 = All (λ (m : Node). LiesIn text (span_of m)) in
    All-head (λ (m : Node). LiesIn text (span_of m)) n (flat_map pre_of (kids_of n)) (subst P (pre_is n) lies)

-- the piece of one statement more
pub cut_step : (view : FileView) (items : List Node) (i : ℕ) (kid : Node) (number end count : ℕ) (placed new whole : List Placed) (p : Placed) (kept known : List Known) → i < length items → kid ≡ get_or items i kid
    → count ≡ count_of kid → end ≡ number + count → known ≡ view.known → kept ≡ known_between number end known → ((n : ℕ) → kept ≡ known_between n (n + count_of kid) view.known → p ≡ piece_at view n kid)
    → new ≡ placed ++ p ∷ [] → placed ++ pieces_from view number (drop i items) ≡ whole → new ++ pieces_from view end (drop (i + 1) items) ≡ whole
cut_step view items i kid number end count placed new whole p kept known lt is many e k names piece f inv =
    let past : end ≡ number + count_of kid = e ∙ ap (λ (c : ℕ). number + c) many in
    let here : p ≡ piece_at view number kid = piece number (names ∙ ap (known_between number end) k ∙ ap (λ (z : ℕ). known_between number z view.known) past) in
    let opened : drop i items ≡ kid ∷ drop (i + 1) items = drop-cons items i kid lt ∙ ap (λ (q : Node). q ∷ drop (suc i) items) (sym is) ∙ ap (λ (j : ℕ). kid ∷ drop j items) (sym (add-one i)) in
    ap (λ (ps : List Placed). ps ++ pieces_from view end (drop (i + 1) items)) (f ∙ ap (λ (q : Placed). placed ++ q ∷ []) here)
    ∙ append_assoc placed (piece_at view number kid ∷ []) (pieces_from view end (drop (i + 1) items))
    ∙ ap (λ (z : ℕ). placed ++ piece_at view number kid ∷ pieces_from view z (drop (i + 1) items)) past
    ∙ sym (ap (λ (ks : List Node). placed ++ pieces_from view number ks) opened) ∙ inv

-- a statement lies in the text
pub kid_lies : (view : FileView) (items : List Node) (i : ℕ) (kid : Node) → items ≡ kids_of view.tree → i < length items → kid ≡ get_or items i kid → SpansLieIn view.bytes kid
kid_lies view items i kid e lt is =
    let P : List Node → Type 0 = λ ns. All (λ n. SpansLieIn view.bytes n) ns in
    holds_at (λ n. SpansLieIn view.bytes n) items i kid lt is (subst P (sym e) (kids_lie view.bytes view.tree view.placed))
