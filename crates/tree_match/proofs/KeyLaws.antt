-- What stands in a kid where a name stands in the pattern.
use Rattle.std.proofs.Common.{◌≡◌, ◌⊎◌, inl, inr, ℕ, zero, suc, add-one, ◌+◌, ◌<◌, ◌≤◌, List, [], ◌∷◌, ◌++◌, length, drop, get_or, refl, sym, ap, ◌∙◌, subst, arith}
use Rattle.std.proofs.lemmas.List.{get_or_default}
use Rattle.std.specs.Prelude.{Option, None, Some, MatchOption}
use Rattle.node_tree.specs.declared.node.Node.{Node}
use Rattle.node_tree.specs.declared.kind.Kind.{Kind}
use Rattle.node_tree.specs.declared.known.Known.{Known}
use Rattle.node_tree.specs.Tree.{kids_of, kind_of, text_of, content_of}
use Rattle.node_tree.specs.Numbers.{Numbered, kids_at}
use Rattle.meta_bind.specs.declared.bound.Bound.{Bound}
use Rattle.node_match.specs.declared.class.Role.{Role}
use Rattle.node_match.specs.declared.class.Role.TheVariants as roles
use Rattle.node_match.specs.Kinds.{role_of, IsOne}
use Rattle.node_match.specs.Free.{Part, parts_of}
use Rattle.node_match.specs.Refused.{IsKidRefused}
use Rattle.node_match.specs.Relation.{nodes_of, wild, MatchesKid, MatchesList, both_empty, head_and_rest, free_and_rest, dots, named_dots, by_itself, as_arguments}
use Rattle.node_match.proofs.Arguments.{arguments_listed}
use Rattle.node_match.proofs.Numbering.{rest_nodes}
use Rattle.node_search.specs.Steady.{BindsNothing, IsSteady}
use Rattle.node_search.proofs.SteadyLaws.{steady_at}
use Rattle.std.specs.List.{Contains}
use Rattle.std.specs.List.Sorted.{IsNonDecreasing, IsPartitionPoint}
use Rattle.std.proofs.lemmas.List.Elements.{Contains-push, Contains-append_left}
use Rattle.tree_match.specs.Same.{StandsFor, IsKey, Passes, PassBefore, place_number}
use Rattle.tree_match.specs.Checksums.{checksum}
use Rattle.tree_match.specs.Insides.{IsInOrder}
use Rattle.tree_match.proofs.Landing.{first_at, held_alone, no_list}

-- ---- the name itself

pub key_refused : (holder : Kind) (p : Node) (name : List ℕ) (n : Node) → IsKidRefused holder p n → IsKey holder p name n n
key_refused holder p name n refused C h s held same b c content stands x = absurd (refused C h s held same b c x)

pub key_name : (holder : Kind) (p : Node) (name : List ℕ) (n : Node) → role_of (kind_of p) ≡ roles.Meta → (text_of p ≡ wild → ⊥) → text_of p ≡ name → IsKey holder p name n n
key_name holder p name n role named is C h s held same b c content stands (by_itself _ x) =
    let P : List ℕ → Type 0 = λ t. StandsFor t b content in
    ap content_of (sym same) ∙ held_alone C p s b c content role named (subst P (sym is) stands) x
key_name holder p name n role named is C h s held same b c content stands (as_arguments are x) = absurd (no_list (kind_of p) (arguments_listed (kind_of h.node) p are) role)

-- ---- a part of a list

-- a pattern without names binds nothing new, whatever is bound
steady_always : (b : List Bound) (q : Node) → IsSteady [] q → IsSteady b q
steady_always b q steady m a = at (role_of (kind_of m)) (text_of m) (steady m a)
  where
    at : (r : Role) (name : List ℕ) → BindsNothing [] r name → BindsNothing b r name
    at roles.Meta name x = elim x [ inl w ↦ inl w | inr (old, e) ↦ absurd (let f : None ≡ Some old = e in cc) ]
    at roles.MetaDots name (old, e) = absurd (let f : None ≡ Some old = e in cc)
    at roles.Plain name x = tt
    at roles.Deep name x = tt
    at roles.StrAny name x = tt
    at roles.Dots name x = tt

module _ (C : List Known) (h : Numbered) where
  -- past parts that take one kid each and have no names
  passed_on : (k : ℕ) (ps : List Part) (ns : List Numbered) (b c : List Bound) → PassBefore k ps → MatchesList C h ps ns b c → MatchesList C h (drop k ps) (drop k ns) b c
  passed_on zero ps ns b c before x = x
  passed_on (suc k) _ _ b _ before both_empty = both_empty
  passed_on (suc k) (Some p ∷ ps) (n ∷ ns) b d before (head_and_rest {c = c} x y) =
      let e = steady_at C h p n b c (steady_always b p before.0.1) x in
      let P : List Bound → Type 0 = λ t. MatchesList C h ps ns t d in
      passed_on k ps ns b d before.1 (subst P (sym e) y)
  passed_on (suc k) (None ∷ ps) (n ∷ ns) b c before (free_and_rest y) = passed_on k ps ns b c before.1 y
  passed_on (suc k) (Some p ∷ ps) ns b c before (dots j r y) = let P : Role → Type 0 = IsOne in absurd (subst P r before.0.0)
  passed_on (suc k) (Some p ∷ ps) ns b c before (named_dots j r x y) = let P : Role → Type 0 = IsOne in absurd (subst P r before.0.0)

  -- what the first part matches
  first_matched : (q : Node) (ps : List Part) (ns : List Numbered) (b c : List Bound) → IsOne (role_of (kind_of q)) → MatchesList C h (Some q ∷ ps) ns b c
      → (m : Numbered) × (rest : List Numbered) × (ns ≡ m ∷ rest) × (d : List Bound) × MatchesKid C h q m b d
  first_matched q ps (n ∷ ns) b c one (head_and_rest {c = d} x y) = (n, ns, refl, d, x)
  first_matched q ps ns b c one (dots j r y) = let P : Role → Type 0 = IsOne in absurd (subst P r one)
  first_matched q ps ns b c one (named_dots j r x y) = let P : Role → Type 0 = IsOne in absurd (subst P r one)

-- a key of a kid that a part takes is one of the node
pub key_inside : (holder : Kind) (p : Node) (name : List ℕ) (n : Node) (at : ℕ) (q kid key : Node) → IsInOrder holder p n → PassBefore at (parts_of p) → IsOne (role_of (kind_of q)) → drop at (parts_of p) ≡ Some q ∷ drop (at + 1) (parts_of p)
    → at < length (kids_of n) → kid ≡ get_or (kids_of n) at kid → IsKey (kind_of n) q name kid key → IsKey holder p name n key
key_inside holder p name n at q kid key ordered before one cut lt is below C h s held same b c content stands x =
    let list = (ordered.same C h s held same b c).1 x in
    let P : List Part → Type 0 = λ ps. MatchesList C s ps (drop at (kids_at s)) b c in
    let (m, rest, e, d, y) = first_matched C s q (drop (at + 1) (parts_of p)) (drop at (kids_at s)) b c one (subst P cut (passed_on C s at (parts_of p) (kids_at s) b c before list)) in
    let nodes : m.node ∷ nodes_of rest ≡ drop at (kids_of s.node) = sym (ap nodes_of e) ∙ rest_nodes s at in
    let Q : Node → Type 0 = λ k. m.node ∷ nodes_of rest ≡ drop at (kids_of k) in
    let here = (first_at (kids_of n) at m.node (nodes_of rest) (subst Q same nodes)).1 in
    let m-is : m.node ≡ kid = here ∙ get_or_default (kids_of n) at m.node kid lt ∙ sym is in
    below C s m (ap kind_of same) m-is b d content stands y

-- one part more
before_suc : (k : ℕ) (ps rest : List Part) (p : Part) → PassBefore k ps → drop k ps ≡ p ∷ rest → Passes p → PassBefore (suc k) ps
before_suc zero [] rest p before cut pass = absurd (let f = cut in cc)
before_suc zero (q ∷ ps) rest p before cut pass = let e : q ≡ p = cc in let P : Part → Type 0 = Passes in (subst P (sym e) pass, tt)
before_suc (suc k) [] rest p before cut pass = tt
before_suc (suc k) (q ∷ ps) rest p before cut pass = (before.0, before_suc k ps rest p before.1 cut pass)

pub before_more : (k : ℕ) (ps rest : List Part) (p : Part) → PassBefore k ps → drop k ps ≡ p ∷ rest → Passes p → PassBefore (k + 1) ps
before_more k ps rest p before cut pass = let P : ℕ → Type 0 = λ j. PassBefore j ps in subst P (sym (add-one k)) (before_suc k ps rest p before cut pass)

-- what was found in the kid
pub on_found : {X : Type 0} (found : Option X) (P Q : X → Type 0) → ((x : X) → P x → Q x) → MatchOption found (Unit {0}) P → MatchOption found (Unit {0}) Q
on_found None P Q f x = tt
on_found (Some y) P Q f x = f y x

pub on_some : {X : Type 0} (found : Option X) (x : X) (P : X → Type 0) → found ≡ Some x → MatchOption found (Unit {0}) P → P x
on_some {X = X} found x P is m = let Q : Option X → Type 0 = λ o. MatchOption o (Unit {0}) P in subst Q is m

-- ---- the numbers of all kids

before_or_here : (i j : ℕ) → i < j + 1 → (i < j) ⊎ (i ≡ j)
before_or_here i j lt = grind arith

-- the number of one kid more
pub places_more : (holder : Kind) (p : Node) (name : List ℕ) (ns : List Node) (places : List ℕ) (number j : ℕ) (n key : Node) → j < length ns → n ≡ get_or ns j n → IsKey holder p name n key → number ≡ place_number (checksum key) j
    → ((i : ℕ) (m : Node) → i < j → m ≡ get_or ns i m → (k : Node) × IsKey holder p name m k × Contains places (place_number (checksum k) i))
    → (i : ℕ) (m : Node) → i < j + 1 → m ≡ get_or ns i m → (k : Node) × IsKey holder p name m k × Contains (places ++ number ∷ []) (place_number (checksum k) i)
places_more holder p name ns places number j n key within n-is holds number-is each i m lt is = elim (before_or_here i j lt) [
  | inl less ↦ (let (k, h, there) = each i m less is in (k, h, Contains-append_left places (number ∷ []) (place_number (checksum k) i) there))
  | inr same ↦ (
      let P : ℕ → Type 0 = λ x. m ≡ get_or ns x m in
      let m-is : n ≡ m = n-is ∙ get_or_default ns j n m within ∙ sym (subst P same is) in
      let Q : Node → Type 0 = λ x. IsKey holder p name x key in
      let R : ℕ → Type 0 = λ x. Contains (places ++ number ∷ []) x in
      (key, subst Q m-is holds, subst R (number-is ∙ ap (place_number (checksum key)) (sym same)) (Contains-push places number)))
]

-- ---- the next one of a number

module _ (places : List ℕ) (sum from at : ℕ) (point : IsPartitionPoint (λ y. y < place_number sum from) (λ y. place_number sum from ≤ y) places at) where
  -- what is there from a place on isn't below the point
  at_point : (k : ℕ) → from ≤ k → (j : ℕ) → j < length places → get_or places j (place_number sum k) ≡ place_number sum k → at ≤ j
  at_point k le j lt is = elim (less_or_not j at) [
    | inl less ↦ absurd (omega (arith, point.0 j (place_number sum k) (omega arith) less, is, le))
    | inr more ↦ more
  ]
    where
      less_or_not : (i j : ℕ) → (i < j) ⊎ (j ≤ i)
      less_or_not i j = grind arith

  pub none_past : length places ≤ at → (k : ℕ) → from ≤ k → Contains places (place_number sum k) → ⊥
  none_past past k le (j, lt, is) = absurd (omega (arith, past, lt, at_point k le j lt is))

  pub none_between : IsNonDecreasing places → (one : ℕ) → at < length places → one ≡ get_or places at one → (k : ℕ) → from ≤ k → k + place_number sum 0 < one → Contains places (place_number sum k) → ⊥
  none_between sorted one lt one-is k le before (j, within, is) =
      let up = sorted at j one (at_point k le j within is) within in
      let here : get_or places j one ≡ place_number sum k = get_or_default places j one (place_number sum k) within ∙ is in
      absurd (omega (arith, up, here, one-is, before))

  pub one_above : (one : ℕ) → at < length places → one ≡ get_or places at one → place_number sum from ≤ one
  one_above one lt one-is = let f = point.1 at one (omega arith) lt in omega (arith, f, one-is)
