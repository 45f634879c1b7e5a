-- What a loop over leaves gathers.
use Rattle.std.proofs.Common.{◌≡◌, ◌⊎◌, inl, inr, ◌↔◌, ℕ, zero, suc, ◌+◌, ◌<◌, ◌≤◌, List, [], ◌∷◌, ◌++◌, refl, length, take, drop, map, get_or, sym, ap, ◌∙◌, subst, arith}
use Rattle.std.proofs.lemmas.List.{drop_all}
use Rattle.std.specs.Prelude.{All}
use Rattle.std.proofs.lemmas.List.Elements.{All-head, All-tail}
use Rattle.meta_bind.specs.declared.bound.Bound.{Bound}
use Rattle.meta_bind.specs.Bounds.{NamesAscend}
use Rattle.tree_match.specs.declared.leaf.Leaf.{Leaf}
use Rattle.tree_match.specs.declared.leaf.Leaf.TheVariants.{Full, Crowded}
use Rattle.node_match.specs.Sets.{Among}
use Rattle.tree_match.specs.Members.{Member}
use Rattle.std.proofs.lemmas.List.{length-map, get_or-map, take_more}
use Rattle.node_match.proofs.Sets.{gathered, among_at}
use Rattle.piece_match.specs.declared.unite.PlacedLeaf.{PlacedLeaf}
use Rattle.piece_match.specs.Union.{InSome, moved_part}
use Rattle.piece_match.specs.Moved.{moved_binding, moved_members, moved_leaf}

module _ {X : Type 0} where
  next_at : (xs : List X) (i : ℕ) (x m : X) → i < length xs → x ≡ get_or xs i x → Among (drop i xs) m ↔ ((x ≡ m) ⊎ Among (drop (suc i) xs) m)
  next_at [] i x m lt is = absurd (omega arith)
  next_at (y ∷ ys) zero x m lt is = (
    λ h. elim h [ inl e ↦ inl (is ∙ e) | inr a ↦ inr a ],
    λ h. elim h [ inl e ↦ inl (sym is ∙ e) | inr a ↦ inr a ],
  )
  next_at (y ∷ ys) (suc i) x m lt is = next_at ys i x m (omega arith) is

  -- the item at a place, and those behind it
  pub next_among : (xs : List X) (i : ℕ) (x m : X) → i < length xs → x ≡ get_or xs i x → Among (drop i xs) m ↔ ((x ≡ m) ⊎ Among (drop (i + 1) xs) m)
  next_among xs i x m lt is =
      let e : suc i ≡ i + 1 = omega arith in
      let P : ℕ → Type 0 = λ j. Among (drop i xs) m ↔ ((x ≡ m) ⊎ Among (drop j xs) m) in
      subst P e (next_at xs i x m lt is)

  pub none_behind : (xs : List X) (i : ℕ) (m : X) → length xs ≤ i → Among (drop i xs) m → ⊥
  none_behind xs i m le h = let P : List X → Type 0 = λ ys. Among ys m in subst P (drop_all i xs le) h

  pub holds_at : (P : X → Type 0) (xs : List X) (i : ℕ) (x : X) → i < length xs → x ≡ get_or xs i x → All P xs → P x
  holds_at P [] i x lt is all = absurd (omega arith)
  holds_at P (y ∷ ys) zero x lt is all = subst P (sym is) (All-head P y ys all)
  holds_at P (y ∷ ys) (suc i) x lt is all = holds_at P ys i x (omega arith) is (All-tail P y ys all)

  pub same_one : (x y m : X) → x ≡ y → (x ≡ m) ↔ (y ≡ m)
  same_one x y m e = (λ f. sym e ∙ f, λ f. e ∙ f)

-- ---- unions

pub next_calm : (parts : List Leaf) (i : ℕ) (part : Leaf) (set : List Member) → i < length parts → part ≡ get_or parts i part → part ≡ Full set
    → Among (drop i parts) Crowded → Among (drop (i + 1) parts) Crowded
next_calm parts i part set lt is full h = elim ((next_among parts i part Crowded lt is).0 h) [
  | inl e ↦ absurd (let f : Full set ≡ Crowded = sym full ∙ e in cc)
  | inr a ↦ a
]

full_one : (x y : List Member) → Full x ≡ Full y → x ≡ y
full_one x y e = let f : Leaf → List Member = λ l. elim l [ Full z ↦ z | Crowded ↦ x ] in ap f e

pub next_some : (parts : List Leaf) (i : ℕ) (part : Leaf) (set : List Member) (m : Member) → i < length parts → part ≡ get_or parts i part → part ≡ Full set
    → InSome (drop i parts) m ↔ (Among set m ⊎ InSome (drop (i + 1) parts) m)
next_some parts i part set m lt is full = (
  λ (members, a, h). elim ((next_among parts i part (Full members) lt is).0 a) [
    | inl e ↦ (let P : List Member → Type 0 = λ z. Among z m in inl (subst P (sym (full_one set members (sym full ∙ e))) h))
    | inr b ↦ inr (members, b, h)
  ],
  λ x. elim x [
    | inl h ↦ (set, (next_among parts i part (Full set) lt is).1 (inl full), h)
    | inr (members, b, h) ↦ (members, (next_among parts i part (Full members) lt is).1 (inr b), h)
  ],
)

pub none_some : (parts : List Leaf) (i : ℕ) (m : Member) → length parts ≤ i → InSome (drop i parts) m → ⊥
none_some parts i m le (members, a, h) = none_behind parts i (Full members) le a

-- ---- leaves that are moved

module _ (parts : List PlacedLeaf) (i : ℕ) (part : PlacedLeaf) (lt : i < length parts) (is : part ≡ get_or parts i part) where
  there : i < length (map moved_part parts)
  there = omega (arith, lt, length-map parts moved_part)

  at_map : moved_part part ≡ get_or (map moved_part parts) i (moved_part part)
  at_map = ap moved_part is ∙ sym (get_or-map moved_part parts i part (moved_part part) lt)

  pub crowded_part : part.leaf.now ≡ Crowded → Among (map moved_part parts) Crowded
  crowded_part e = let P : Leaf → Type 0 = Among (map moved_part parts) in subst P (ap (moved_leaf part.start) e) (among_at (map moved_part parts) i (moved_part part) there at_map)

  module _ (set : List Member) (full : part.leaf.now ≡ Full set) where
    whole : moved_part part ≡ Full (moved_members part.start set)
    whole = ap (moved_leaf part.start) full

    pub moved_calm : Among (drop i (map moved_part parts)) Crowded → Among (drop (i + 1) (map moved_part parts)) Crowded
    moved_calm = next_calm (map moved_part parts) i (moved_part part) (moved_members part.start set) there at_map whole

    pub moved_some : (later old new : List Member) (m : Member) → later ≡ moved_members part.start set → ((Among old m ⊎ Among later m) ↔ Among new m)
        → ((Among old m ⊎ InSome (drop i (map moved_part parts)) m) ↔ InSome (map moved_part parts) m) → ((Among new m ⊎ InSome (drop (i + 1) (map moved_part parts)) m) ↔ InSome (map moved_part parts) m)
    moved_some later old new m e more all =
        let P : List Member → Type 0 = λ ms. Among new m ↔ (Among old m ⊎ Among ms m) in
        gathered _ _ _ _ _ _ (subst P e (more.1, more.0)) (next_some (map moved_part parts) i (moved_part part) (moved_members part.start set) m there at_map whole) all

-- a set without members adds none
pub none_more : (by : ℕ) (set old : List Member) (m : Member) → length set ≡ 0 → (Among old m ⊎ Among (moved_members by set) m) ↔ Among old m
none_more by [] old m e = (λ h. elim h [ inl a ↦ a | inr b ↦ absurd b ], λ a. inl a)
none_more by (x ∷ xs) old m e = absurd (omega (arith, e))

-- ---- moving

pub names_moved : (by : ℕ) (bs : List Bound) → NamesAscend bs → NamesAscend (moved_binding by bs)
names_moved by [] up = tt
names_moved by (b ∷ []) up = tt
names_moved by (b ∷ c ∷ cs) up = (up.0, names_moved by (c ∷ cs) up.1)

map_append : (ps qs : List PlacedLeaf) → map moved_part (ps ++ qs) ≡ map moved_part ps ++ map moved_part qs
map_append [] qs = refl
map_append (p ∷ ps) qs = ap (λ (ls : List Leaf). moved_part p ∷ ls) (map_append ps qs)

-- one leaf more that stays where it is
pub placed_step : (placed new : List PlacedLeaf) (items : List Leaf) (i : ℕ) (p : PlacedLeaf) (leaf : Leaf) → i < length items → leaf ≡ get_or items i leaf → moved_part p ≡ leaf → new ≡ placed ++ p ∷ []
    → map moved_part placed ≡ take i items → map moved_part new ≡ take (i + 1) items
placed_step placed new items i p leaf lt is here e inv =
    ap (map moved_part) e ∙ map_append placed (p ∷ []) ∙ ap (λ (ls : List Leaf). ls ++ moved_part p ∷ []) inv ∙ ap (λ (l : Leaf). take i items ++ l ∷ []) (here ∙ is)
    ∙ sym (take_more items i leaf lt)
