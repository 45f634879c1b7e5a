-- Kids that a part can't match are passed over.
use Rattle.std.proofs.Common.{◌≡◌, ◌⊎◌, inl, inr, ◌↔◌, ℕ, zero, suc, ◌+◌, ◌-◌, ◌<◌, ◌≤◌, List, [], ◌∷◌, ◌++◌, length, drop, get_or, refl, sym, ap, ◌∙◌, subst, arith, length-drop, true, false}
use Rattle.std.proofs.lemmas.List.{drop-drop}
use Rattle.std.proofs.Math.Seq.{drop-cons}
use Rattle.std.specs.Prelude.{Option, None, Some, MatchOption, slice_get}
use Rattle.node_tree.specs.declared.node.Node.{Node}
use Rattle.node_tree.specs.declared.kind.Kind.{Kind}
use Rattle.node_tree.specs.declared.kind.Kind.TheVariants as kinds
use Rattle.node_tree.specs.Tree.{kids_of, kind_of, text_of, content_of}
use Rattle.node_tree.specs.declared.known.Known.{Known}
use Rattle.node_tree.specs.Numbers.{Numbered, kids_at}
use Rattle.meta_bind.specs.declared.bound.Bound.{Bound}
use Rattle.node_match.specs.Free.{Part}
use Rattle.node_match.specs.Fronts.{End, Leads, MatchesFront, no_part_front, head_front, free_front, dots_front, named_dots_front}
use Rattle.node_match.specs.declared.class.Role.TheVariants as roles
use Rattle.node_match.specs.Orders.{is_list}
use Rattle.node_match.specs.Kinds.{role_of, IsOne}
use Rattle.node_match.specs.Relation.{nodes_of, Matches, same_node, known_literal, known_string, wildcard, metavariable, some_string, deep, wild, Binds, fresh, again, MatchesKid}
use Rattle.node_match.proofs.Numbering.{kids_many, rest_nodes, kid_is, as_many, one_further}
use Rattle.node_pool.specs.declared.spot.Spot.{Spot}
use Rattle.node_pool.specs.Spots.{seen}
use Rattle.node_search.specs.Kids.{AreKids}
use Rattle.node_search.specs.States.{Goes, Heads}
use Rattle.node_search.specs.Steady.{IsSteady, IsMatched}
use Rattle.node_search.proofs.Going.{heads, goes_more, no_goes, after_dots}
use Rattle.node_search.proofs.SteadyLaws.{steady_at}
use Rattle.tree_match.specs.declared.next_places.NextPlaces.{NextPlaces}
use Rattle.tree_match.specs.declared.same_kids.SameKids.{SameKids}
use Rattle.tree_match.specs.Checksums.{checksum}
use Rattle.tree_match.specs.Same.{StandsFor, place_number, IsIndex}
use Rattle.std.specs.List.{Contains}
use Rattle.tree_match.proofs.Alike.{same_checksum}
use Rattle.tree_match.specs.Landing.{LeapsOver, IsNext, IsNextOf, AreNextOf, IsOut, AreOut, IsPast}

-- the first of some nodes in a list
pub first_at : (ns : List Node) (k : ℕ) (n : Node) (rest : List Node) → n ∷ rest ≡ drop k ns → (k < length ns) × (n ≡ get_or ns k n)
first_at ns k n rest e =
    let lt : k < length ns = omega (arith, ap length e, length-drop k ns) in
    let cut = e ∙ drop-cons ns k n lt in
    let same : n ≡ get_or ns k n = cc in
    (lt, same)

-- a look rules out the kids before the next place
pub leaps_out : (kind : Kind) (p : Node) (ns : List Node) (next : List ℕ) (b : List Bound) (i j : ℕ) → LeapsOver kind p ns next → i < length next → j ≡ get_or next i j → AreOut kind p b ns i j
leaps_out kind p ns next b i j leaps lt is k n from below within here C h s held same c = leaps.over i j k n (omega (arith, lt, leaps.size)) is from below within here C h s held same b c

-- a name that stands for a node matches that content alone
pub held_alone : (C : List Known) (p : Node) (n : Numbered) (b c : List Bound) (content : Node) → role_of (kind_of p) ≡ roles.Meta → (text_of p ≡ wild → ⊥) → StandsFor (text_of p) b content → Matches C p n b c → content_of n.node ≡ content
held_alone C p n b c content role named stands (same_node r _ _ _) = absurd (let e = sym role ∙ r in cc)
held_alone C p n b _ content role named stands (known_literal _ r _ _ _) = absurd (let e = sym role ∙ r in cc)
held_alone C p n b _ content role named stands (wildcard _ w _) = absurd (named w)
held_alone C p n b c content role named stands (metavariable _ _ _ x) = by x
  where
    by : {d : List Bound} → Binds n.node (text_of p) (n.node ∷ []) b d → content_of n.node ≡ content
    by (fresh none) = absurd (let e : None ≡ Some stands.old = sym none ∙ stands.bound in let f = e in cc)
    by (again old is nodes) =
        let e : Some old ≡ Some stands.old = sym is ∙ stands.bound in
        let f : old ≡ stands.old = let g = e in cc in
        let g : content_of n.node ∷ [] ≡ content ∷ [] = sym nodes ∙ ap (λ (o : Bound). o.nodes) f ∙ stands.one in
        let h = g in cc
held_alone C p n b _ content role named stands (some_string r _) = absurd (let e = sym role ∙ r in cc)
held_alone C p n b _ content role named stands (known_string _ r _ _) = absurd (let e = sym role ∙ r in cc)
held_alone C p n b c content role named stands (deep _ _ r _ _ _ _) = absurd (let e = sym role ∙ r in cc)

pub no_list : (k : Kind) → is_list k ≡ true → role_of k ≡ roles.Meta → ⊥
no_list kinds.List e role = absurd (let f = role in cc)
no_list _ e role = absurd (let f : false ≡ true = e in cc)

-- kids in which something else stands where the name stands are ruled out
pub named_out : (kind : Kind) (p : Node) (ns : List Node) (b : List Bound) (m : Node) (same : SameKids) (i j : ℕ) → IsIndex kind p ns same → StandsFor same.name b (content_of m)
    → ((k : ℕ) → i ≤ k → k < j → Contains same.places.items (place_number (checksum m) k) → ⊥) → AreOut kind p b ns i j
named_out kind p ns b m same i j index stands none k n from below within is C h s held node c x =
    let (key, holds, there) = index.keys k n within is in
    let P : ℕ → Type 0 = λ sum. Contains same.places.items (place_number sum k) in
    none k from below (subst P (same_checksum key m (holds C h s held node b c (content_of m) stands x)) there)

pub none_out : (kind : Kind) (p : Node) (b : List Bound) (ns : List Node) (i : ℕ) → AreOut kind p b ns i i
none_out kind p b ns i k n from below = absurd (omega (arith, from, below))

module _ (C : List Known) (h : Numbered) (p : Node) (ps : List Part) (one : IsOne (role_of (kind_of p))) (b : List Bound) (c : End) where
  ruled_out : (k : ℕ) → ((n : Node) → k < length (kids_of h.node) → n ≡ get_or (kids_of h.node) k n → IsOut (kind_of h.node) p b n) → Leads C h (Some p ∷ ps) (drop k (kids_at h)) b c → ⊥
  ruled_out k refused x = at (drop k (kids_at h)) (rest_nodes h k) ((heads C h p ps (drop k (kids_at h)) b c one).1 x)
    where
      at : (ns : List Numbered) → nodes_of ns ≡ drop k (kids_of h.node) → Heads C h p ps ns b c → ⊥
      at [] e y = absurd y
      at (n ∷ ns) e (d, m, _) = let (lt, is) = first_at (kids_of h.node) k n.node (nodes_of ns) e in refused n.node lt is C h n refl refl d m

  passed_by : (some i j : ℕ) → i + some ≡ j → AreOut (kind_of h.node) p b (kids_of h.node) i j → Goes C true h (Some p ∷ ps) (drop i (kids_at h)) b c ↔ Goes C true h (Some p ∷ ps) (drop j (kids_at h)) b c
  passed_by zero i j e out =
      let P : ℕ → Type 0 = λ k. Goes C true h (Some p ∷ ps) (drop i (kids_at h)) b c ↔ Goes C true h (Some p ∷ ps) (drop k (kids_at h)) b c in
      let f : i ≡ j = omega (arith, e) in
      subst P f (λ x. x, λ x. x)
  passed_by (suc some) i j e out =
      let more = goes_more C h (Some p ∷ ps) (kids_at h) b c i in
      let rest = passed_by some (i + 1) j (omega (arith, e)) (λ k n le lt. out k n (omega arith) lt) in
      let none : Leads C h (Some p ∷ ps) (drop i (kids_at h)) b c → ⊥ = ruled_out i (λ n. out i n (omega arith) (omega (arith, e))) in (
        λ x. rest.0 (elim (more.0 x) [ inl y ↦ absurd (none y) | inr y ↦ y ]),
        λ x. more.1 (inr (rest.1 x)),
      )

  -- from a place, or from a later one with only such kids between as the part doesn't match
  pub passed : (i j : ℕ) → i ≤ j → AreOut (kind_of h.node) p b (kids_of h.node) i j → Goes C true h (Some p ∷ ps) (drop i (kids_at h)) b c ↔ Goes C true h (Some p ∷ ps) (drop j (kids_at h)) b c
  passed i j le out = passed_by (j - i) i j (omega (arith, le)) out

  -- at a place, or from a later one with only such kids between
  pub lands : (i j : ℕ) → i + 1 ≤ j → AreOut (kind_of h.node) p b (kids_of h.node) (i + 1) j
      → Goes C true h (Some p ∷ ps) (drop i (kids_at h)) b c ↔ (Leads C h (Some p ∷ ps) (drop i (kids_at h)) b c ⊎ Goes C true h (Some p ∷ ps) (drop j (kids_at h)) b c)
  lands i j le out =
      let more = goes_more C h (Some p ∷ ps) (kids_at h) b c i in
      let rest = passed (i + 1) j le out in (
        λ x. elim (more.0 x) [ inl y ↦ inl y | inr y ↦ inr (rest.0 y) ],
        λ x. more.1 (elim x [ inl y ↦ inl y | inr y ↦ inr (rest.1 y) ]),
      )

  -- the same where it doesn't match the kid at the first place either
  pub ruled_further : (i : ℕ) (n : Numbered) (j : ℕ) → drop i (kids_at h) ≡ n ∷ drop (i + 1) (kids_at h) → (IsMatched C h p n b → ⊥) → i + 1 ≤ j → AreOut (kind_of h.node) p b (kids_of h.node) (i + 1) j
      → Goes C true h (Some p ∷ ps) (drop j (kids_at h)) b c ↔ Goes C true h (Some p ∷ ps) (drop i (kids_at h)) b c
  ruled_further i n j cut other le out =
      let P : List Numbered → Type 0 = λ ns. Heads C h p ps ns b c in
      let none : Leads C h (Some p ∷ ps) (drop i (kids_at h)) b c → ⊥ = λ x. (let y = subst P cut ((heads C h p ps (drop i (kids_at h)) b c one).1 x) in other (y.0, y.1)) in
      let all = lands i j le out in (
        λ x. all.1 (inr x),
        λ x. elim (all.0 x) [ inl y ↦ absurd (none y) | inr y ↦ y ],
      )

  -- past the last kid it matches none
  pub lands_nowhere : (i : ℕ) → length (kids_of h.node) ≤ i → Goes C true h (Some p ∷ ps) (drop i (kids_at h)) b c → ⊥
  lands_nowhere i past x = no_goes C h p ps (kids_at h) i b c one (omega (arith, past, kids_many h)) x

module _ (C : List Known) (h : Numbered) where
  -- the parts from a later one on match what is left after some kids
  later : (at : ℕ) (ps : List Part) (ms rest : List Numbered) (b c : List Bound) → MatchesFront C h ps ms rest b c → (k : ℕ) × (d : List Bound) × MatchesFront C h (drop at ps) (drop k ms) rest d c
  later zero ps ms rest b c x = (0, b, x)
  later (suc at) _ ms _ b _ no_part_front = (0, b, no_part_front)
  later (suc at) (Some p ∷ ps) (n ∷ ms) rest b c (head_front {c = d} m x) = let (k, e, y) = later at ps ms rest d c x in (suc k, e, y)
  later (suc at) (None ∷ ps) (n ∷ ms) rest b c (free_front x) = let (k, e, y) = later at ps ms rest b c x in (suc k, e, y)
  later (suc at) (Some p ∷ ps) ms rest b c (dots_front k r x) =
      let (j, e, y) = later at ps (drop k ms) rest b c x in
      let P : List Numbered → Type 0 = λ ns. MatchesFront C h (drop at ps) ns rest e c in
      (k + j, e, subst P (drop-drop j k ms) y)
  later (suc at) (Some p ∷ ps) ms rest b c (named_dots_front {c = d} k r m x) =
      let (j, e, y) = later at ps (drop k ms) rest d c x in
      let P : List Numbered → Type 0 = λ ns. MatchesFront C h (drop at ps) ns rest e c in
      (k + j, e, subst P (drop-drop j k ms) y)

  -- where a part matches no kid from that place on, the parts match none
  pub never : (ps : List Part) (from : ℕ) (rest : List Numbered) (b c : List Bound) → IsPast h ps from → MatchesFront C h ps (drop from (kids_at h)) rest b c → ⊥
  never ps from rest b c past x =
      let (k, d, y) = later past.at ps (drop from (kids_at h)) rest b c x in
      let P : List Part → Type 0 = λ qs. MatchesFront C h qs (drop k (drop from (kids_at h))) rest d c in
      let Q : List Numbered → Type 0 = λ ns. MatchesFront C h (Some past.part ∷ drop (past.at + 1) ps) ns rest d c in
      ruled_out C h past.part (drop (past.at + 1) ps) past.one d (rest, c) (from + k) (λ n lt is. past.out d (from + k) n (omega arith) lt lt is) (subst Q (drop-drop k from (kids_at h)) (subst P past.next y))

-- the item at a place
pub item_at : {X : Type 0} (xs : List X) (i : ℕ) (x : X) → i < length xs → x ≡ get_or xs i x → slice_get xs i ≡ Some x
item_at [] i x lt is = absurd (omega (arith, lt))
item_at (y ∷ ys) zero x lt is = ap Some (sym is)
item_at (y ∷ ys) (suc i) x lt is = item_at ys i x (omega (arith, lt)) is

-- a look rules out a part from a place on
pub past_part : (h : Numbered) (ps : List Part) (at from end : ℕ) (places : NextPlaces) → IsNextOf h ps at places → end ≡ length (kids_at h)
    → ((kind : Kind) (p : Node) (ns : List Node) → IsNext kind p ns places → length ns ≤ end → (b : List Bound) → AreOut kind p b ns from (length ns)) → IsPast h ps from
past_part h ps at from end places (p, cut, one, next) many out =
    record { at = at; part = p; next = cut; one = one; out = out (kind_of h.node) p (kids_of h.node) next (omega (arith, many, kids_many h)) }

-- where the part matches a kid and binds nothing new, and `...` follows, no later kid is needed
module _ (C : List Known) (h : Numbered) (p q : Node) (ps : List Part) (one : IsOne (role_of (kind_of p))) (dots : role_of (kind_of q) ≡ roles.Dots) (b : List Bound) (c : End) where
  pub first_enough : (at : ℕ) (n : Numbered) → IsSteady b p → drop at (kids_at h) ≡ n ∷ drop (at + 1) (kids_at h) → IsMatched C h p n b
      → Leads C h (Some p ∷ Some q ∷ ps) (drop at (kids_at h)) b c ↔ Goes C true h (Some p ∷ Some q ∷ ps) (drop at (kids_at h)) b c
  first_enough at n steady cut (e, met) = (λ x. (0, x), λ (k, x). to k (drop k (drop at (kids_at h))) refl ((heads C h p (Some q ∷ ps) (drop k (drop at (kids_at h))) b c one).1 x))
    where
      same : b ≡ e
      same = steady_at C h p n b e steady met

      here : (j : ℕ) → Leads C h ps (drop j (drop (at + 1) (kids_at h))) b c → Leads C h (Some p ∷ Some q ∷ ps) (drop at (kids_at h)) b c
      here j x =
          let P : List Bound → Type 0 = λ d. MatchesKid C h p n b d in
          let Q : List Numbered → Type 0 = λ ns. Leads C h (Some p ∷ Some q ∷ ps) ns b c in
          subst Q (sym cut) (head_front (subst P (sym same) met) (dots_front j dots x))

      to : (k : ℕ) (ms : List Numbered) → ms ≡ drop k (drop at (kids_at h)) → Heads C h p (Some q ∷ ps) ms b c → Leads C h (Some p ∷ Some q ∷ ps) (drop at (kids_at h)) b c
      to k [] f y = absurd y
      to k (m ∷ ms) f (d, x, y) =
          let (j, z) = (after_dots C h q ps ms d c dots).1 y in
          let rest : ms ≡ drop (at + k + 1) (kids_at h) = ap (drop 1) f ∙ ap (drop 1) (drop-drop k at (kids_at h)) ∙ drop-drop 1 (at + k) (kids_at h) in
          let both : at + k + 1 + j ≡ at + 1 + (k + j) = omega arith in
          let shift : drop j ms ≡ drop (k + j) (drop (at + 1) (kids_at h)) = ap (drop j) rest ∙ drop-drop j (at + k + 1) (kids_at h) ∙ ap (λ i. drop i (kids_at h)) both ∙ sym (drop-drop (k + j) (at + 1) (kids_at h)) in
          let P : List Numbered → Type 0 = λ ns. Leads C h ps ns b c in
          let Q : List Bound → Type 0 = λ t. Leads C h ps (drop j ms) t c in
          here (k + j) (subst P shift (subst Q (sym (steady_at C h p m b d steady x)) z))

-- ---- the next places of the parts one by one

-- where an item of a longer list stands
in_longer : {X : Type 0} (xs : List X) (y : X) (i : ℕ) (z : X) → slice_get (xs ++ y ∷ []) i ≡ Some z → (slice_get xs i ≡ Some z) ⊎ ((i ≡ length xs) × (y ≡ z))
in_longer [] y zero z e = let f : y ≡ z = cc in inr (refl, f)
in_longer [] y (suc i) z e = absurd (let f = e in cc)
in_longer (x ∷ xs) y zero z e = inl e
in_longer (x ∷ xs) y (suc i) z e = elim (in_longer xs y i z e) [ inl f ↦ inl f | inr (at, same) ↦ inr (ap suc at, same) ]

pub no_next : (h : Numbered) (ps : List Part) (nexts : List (Option NextPlaces)) → nexts ≡ [] → AreNextOf h ps nexts
no_next h ps nexts none at places e =
    let P : List (Option NextPlaces) → Type 0 = λ xs. slice_get xs at ≡ Some (Some places) in
    absurd (let f : None ≡ Some (Some places) = subst P none e in cc)

pub next_more : (h : Numbered) (ps : List Part) (nexts new : List (Option NextPlaces)) (next : Option NextPlaces) (at : ℕ) → AreNextOf h ps nexts → length nexts ≡ at → new ≡ nexts ++ next ∷ []
    → MatchOption next (Unit {0}) (IsNextOf h ps at) → AreNextOf h ps new
next_more h ps nexts new next at all many is found i places e =
    let P : List (Option NextPlaces) → Type 0 = λ xs. slice_get xs i ≡ Some (Some places) in
    elim (in_longer nexts next i (Some places) (subst P is e)) [
      | inl f ↦ all i places f
      | inr (here, same) ↦
          let Q : Option NextPlaces → Type 0 = λ o. MatchOption o (Unit {0}) (IsNextOf h ps at) in
          let R : ℕ → Type 0 = λ j. IsNextOf h ps j places in
          let f : at ≡ i = omega (arith, here, many) in
          subst R f (subst Q same found)
    ]

-- a part at a place of which the next places are known
pub known_next : (h : Numbered) (ps : List Part) (nexts : List (Option NextPlaces)) (at : ℕ) (places : NextPlaces) (p : Node) → AreNextOf h ps nexts → slice_get nexts at ≡ Some (Some places) → drop at ps ≡ Some p ∷ drop (at + 1) ps
    → IsOne (role_of (kind_of p)) × IsNext (kind_of h.node) p (kids_of h.node) places
known_next h ps nexts at places p all e is =
    let (q, cut, one, next) = all at places e in
    let f : Some q ∷ drop (at + 1) ps ≡ Some p ∷ drop (at + 1) ps = sym cut ∙ is in
    let same : q ≡ p = let g = f in cc in
    let P : Node → Type 0 = λ x. IsOne (role_of (kind_of x)) × IsNext (kind_of h.node) x (kids_of h.node) places in
    subst P same (one, next)

-- the kid at a place, and those after it
pub kid_here : (h : Numbered) (kids : List Spot) (at : ℕ) (s : Spot) → AreKids kids h → at < length kids → s ≡ get_or kids at s → drop at (kids_at h) ≡ seen s ∷ drop (at + 1) (kids_at h)
kid_here h kids at s are lt is =
    let f = kid_is h kids at s are.are lt is in
    one_further (kids_at h) at (seen s) (omega (arith, lt, as_many h kids are.are)) f

pub kids_as_many : (h : Numbered) (kids : List Spot) → AreKids kids h → length kids ≡ length (kids_of h.node)
kids_as_many h kids are = as_many h kids are.are ∙ kids_many h
