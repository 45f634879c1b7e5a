-- The numbers of names in a tree in which names are replaced.
use Rattle.std.proofs.Common.{◌≡◌, ℕ, zero, suc, ◌+◌, ◌<◌, ◌≤◌, Bool, true, false, if◌then◌else◌, List, [], ◌∷◌, ◌++◌, length, length-append, append_assoc, get_or, refl, sym, ap, ◌∙◌, subst, arith}
use Rattle.std.specs.Prelude.{map, nat_lt, slice_get, Option, None, Some}
use Rattle.std.specs.List.{flat_map}
use Rattle.std.specs.List.Sorted.{IsStrictlyIncreasing}
use Rattle.std.specs.Option.{option_map}
use Rattle.std.proofs.lemmas.Bool.Decides.{nat_tests}
use Rattle.std.proofs.lemmas.List.Elements.{All-nil, All-cons, All-append}
use Rattle.std.proofs.lemmas.List.Kept.{AllPairs-from_increasing}
use Rattle.std.proofs.lemmas.Option.{slice_get-get_or}
use Rattle.std.proofs.Math.Seq.{get_or-append_seam}
use Rattle.node_tree.specs.declared.node.Node.{Node}
use Rattle.node_tree.specs.declared.kind.Kind.{Kind}
use Rattle.node_tree.specs.declared.kind.Kind.TheVariants as kinds
use Rattle.node_tree.specs.declared.known.Known.{Known}
use Rattle.node_tree.specs.KnownNames.{IsNameAt, AreNames, AreInOrder}
use Rattle.node_tree.specs.Tree.{pre_of, kind_of, text_of, kids_of, span_of}
use Rattle.node_tree.proofs.Nodes.{made_kind}
use Rattle.import_names.specs.Resolved.{leaf, meant_at, replaced, added, number_by, numbers, number_in, known_at, kept}
use Rattle.import_names.proofs.Replacing.{turned, turns, stays, becomes, leaf_pre, spreads, many}

same_some : {X : Type 0} (x y : X) → Some x ≡ Some y → x ≡ y
same_some x y e = cc

none_some : {X : Type 0} (x : X) → None ≡ Some x → ⊥
none_some x e = absurd cc

-- ---- numbers

-- what has a number is a name, in whose place one name stands
pub record Named (k : Kind) (parts : List (List ℕ)) (at new : ℕ) : Type 0 where
  pub name : k ≡ kinds.Name
  pub few : length parts ≤ 1
  pub same : new ≡ at

named_if : (parts : List (List ℕ)) (at new : ℕ) (many : Bool) → nat_lt 1 (length parts) ≡ many → (if many then None else Some at) ≡ Some new → Named kinds.Name parts at new
named_if parts at new true e h = absurd (none_some new h)
named_if parts at new false e h = record { name = refl; few = grind (arith, nat_tests); same = sym (same_some at new h) }

named : (k : Kind) (parts : List (List ℕ)) (at new : ℕ) → number_by k parts at ≡ Some new → Named k parts at new
named kinds.Name parts at new h = named_if parts at new (nat_lt 1 (length parts)) refl h
named _ parts at new h = absurd (none_some new h)

module _ (means : List ℕ → List (List ℕ)) where
  -- the first node of what becomes of a name that keeps a number
  pub record First (n : Node) : Type 0 where
    pub first : Node
    pub rest : List Node
    pub is : turns means n ≡ first ∷ rest
    pub name : kind_of first ≡ kinds.Name

  first_by : (n : Node) (parts : List (List ℕ)) → meant_at means n ≡ parts → kind_of n ≡ kinds.Name → length parts ≤ 1 → First n
  first_by n [] e name few = record {
    first = replaced means n;
    rest = [];
    is = ap (λ ps. turned means ps (replaced means n)) e;
    name = ap kind_of (stays means n e) ∙ made_kind (kind_of n) (text_of n) (map (replaced means) (kids_of n)) (span_of n) ∙ name;
  }
  first_by n (one ∷ []) e name few = record {
    first = leaf kinds.Name one (span_of n);
    rest = [];
    is = ap (λ ps. turned means ps (replaced means n)) e ∙ ap pre_of (becomes means n one [] e) ∙ leaf_pre kinds.Name one (span_of n);
    name = made_kind kinds.Name one [] (span_of n);
  }
  first_by n (one ∷ two ∷ others) e name few = absurd (omega (arith, few))

  seam : (front back : List Node) (x : Node) → slice_get (front ++ x ∷ back) (length front) ≡ Some x
  seam front back x =
      let lt : length front < length (front ++ x ∷ back) = omega (arith, length-append front (x ∷ back)) in
      slice_get-get_or (front ++ x ∷ back) (length front) x lt ∙ ap (λ y. Some y) (get_or-append_seam front x back x)

  -- a number that a name got is that of a name
  pub number_is : (ns : List Node) (at i new : ℕ) (front : List Node) → length front ≡ at → slice_get (numbers means at ns) i ≡ Some (Some new)
      → option_map kind_of (slice_get (front ++ flat_map (turns means) ns) new) ≡ Some kinds.Name
  number_is [] at i new front long e = absurd (none_some (Some new) e)
  number_is (n ∷ ns) at zero new front long e =
      let h = named (kind_of n) (meant_at means n) at new (same_some (number_by (kind_of n) (meant_at means n) at) (Some new) e) in
      let f = first_by n (meant_at means n) refl h.name h.few in
      let back = flat_map (turns means) ns in
      ap (λ ms. option_map kind_of (slice_get (front ++ (ms ++ back)) new)) f.is
      ∙ ap (λ k. option_map kind_of (slice_get (front ++ f.first ∷ (f.rest ++ back)) k)) (h.same ∙ sym long)
      ∙ ap (option_map kind_of) (seam front (f.rest ++ back) f.first)
      ∙ ap (λ k. Some k) f.name
  number_is (n ∷ ns) at (suc i) new front long e =
      let longer : length (front ++ turns means n) ≡ at + 1 + added (meant_at means n) = omega (arith, length-append front (turns means n), many means n, long) in
      ap (λ ms. option_map kind_of (slice_get ms new)) (sym (append_assoc front (turns means n) (flat_map (turns means) ns)))
      ∙ number_is ns (at + 1 + added (meant_at means n)) i new (front ++ turns means n) longer e

  -- ---- numbers rise

  pub number_low : (ns : List Node) (at i new : ℕ) → slice_get (numbers means at ns) i ≡ Some (Some new) → at ≤ new
  number_low [] at i new e = absurd (none_some (Some new) e)
  number_low (n ∷ ns) at zero new e =
      let h = named (kind_of n) (meant_at means n) at new (same_some (number_by (kind_of n) (meant_at means n) at) (Some new) e) in
      omega (arith, h.same)
  number_low (n ∷ ns) at (suc i) new e = omega (arith, number_low ns (at + 1 + added (meant_at means n)) i new e)

  pub number_rises : (ns : List Node) (at i j a b : ℕ) → i < j → slice_get (numbers means at ns) i ≡ Some (Some a) → slice_get (numbers means at ns) j ≡ Some (Some b) → a < b
  number_rises [] at i j a b lt e f = absurd (none_some (Some a) e)
  number_rises (n ∷ ns) at zero zero a b lt e f = absurd (omega (arith, lt))
  number_rises (n ∷ ns) at zero (suc j) a b lt e f =
      let h = named (kind_of n) (meant_at means n) at a (same_some (number_by (kind_of n) (meant_at means n) at) (Some a) e) in
      omega (arith, h.same, number_low ns (at + 1 + added (meant_at means n)) j b f)
  number_rises (n ∷ ns) at (suc i) zero a b lt e f = absurd (omega (arith, lt))
  number_rises (n ∷ ns) at (suc i) (suc j) a b lt e f = number_rises ns (at + 1 + added (meant_at means n)) i j a b (omega (arith, lt)) e f

-- ---- names

name_known : (tree : Node) (o : Option (Option ℕ)) (literal : Node) → ((new : ℕ) → o ≡ Some (Some new) → IsNameAt tree new) → AreNames tree (known_at (number_in o) literal)
name_known tree None literal h = All-nil (λ (k : Known). IsNameAt tree k.at)
name_known tree (Some None) literal h = All-nil (λ (k : Known). IsNameAt tree k.at)
name_known tree (Some (Some new)) literal h = All-cons (λ (k : Known). IsNameAt tree k.at) (record { at = new; literal = literal }) [] (h new refl) (All-nil (λ (k : Known). IsNameAt tree k.at))

-- what is kept is known of names
pub are_names : (means : List ℕ → List (List ℕ)) (tree : Node) (known : List Known) → AreNames (replaced means tree) (kept means tree known)
are_names means tree [] = All-nil (λ (k : Known). IsNameAt (replaced means tree) k.at)
are_names means tree (k ∷ ks) =
    All-append (λ (k : Known). IsNameAt (replaced means tree) k.at) (known_at (number_in (slice_get (numbers means 0 (pre_of tree)) k.at)) k.literal) (kept means tree ks)
    (name_known (replaced means tree) (slice_get (numbers means 0 (pre_of tree)) k.at) k.literal (λ new e.
    ap (λ ms. option_map kind_of (slice_get ms new)) (spreads means tree) ∙ number_is means (pre_of tree) 0 k.at new [] refl e))
    (are_names means tree ks)

-- ---- order

abbrev Above : ℕ → List ℕ → Type 0
Above x [] = Unit {0}
Above x (y ∷ ys) = (x < y) × Above x ys

abbrev Climbs : List ℕ → Type 0
Climbs [] = Unit {0}
Climbs (x ∷ xs) = Above x xs × Climbs xs

above_all : (x : ℕ) (ys : List ℕ) → ((k : ℕ) → k < length ys → x < get_or ys k 0) → Above x ys
above_all x [] h = tt
above_all x (y ∷ ys) h = (h 0 (omega arith), above_all x ys (λ k lt. h (suc k) (omega (arith, lt))))

climbs : (xs : List ℕ) → IsStrictlyIncreasing xs → Climbs xs
climbs [] up = tt
climbs (x ∷ xs) up =
    let far = AllPairs-from_increasing (x ∷ xs) up in
    (above_all x xs (λ k lt. far 0 (suc k) 0 (omega arith) (omega (arith, lt))), climbs xs (λ k lt. (let e : suc k + 1 ≡ suc (k + 1) = omega arith in let P : ℕ → Type 0 = λ m. get_or (x ∷ xs) (suc k) 0 < get_or (x ∷ xs) m 0 in subst P e (up (suc k) (omega (arith, lt))))))

rising : (xs : List ℕ) → Climbs xs → IsStrictlyIncreasing xs
rising [] c k lt = absurd (omega (arith, lt))
rising (x ∷ []) c k lt = absurd (omega (arith, lt))
rising (x ∷ y ∷ ys) c zero lt = c.0.0
rising (x ∷ y ∷ ys) c (suc k) lt =
    let e : suc (k + 1) ≡ suc k + 1 = omega arith in
    let P : ℕ → Type 0 = λ m. get_or (x ∷ y ∷ ys) (suc k) 0 < get_or (x ∷ y ∷ ys) m 0 in
    subst P e (rising (y ∷ ys) c.1 k (omega (arith, lt)))

abbrev ats : List Known → List ℕ
ats ks = map (λ k. k.at) ks

module _ (news : List (Option ℕ)) (rises : (i j a b : ℕ) → i < j → slice_get news i ≡ Some (Some a) → slice_get news j ≡ Some (Some b) → a < b) where
  abbrev moved : Known → List Known
  moved k = known_at (number_in (slice_get news k.at)) k.literal

  above_one : (a : ℕ) (o : Option (Option ℕ)) (literal : Node) (ks : List Known) → ((b : ℕ) → o ≡ Some (Some b) → a < b) → Above a (ats ks) → Above a (ats (known_at (number_in o) literal ++ ks))
  above_one a None literal ks h all = all
  above_one a (Some None) literal ks h all = all
  above_one a (Some (Some b)) literal ks h all = (h b refl, all)

  above_moved : (i a : ℕ) → slice_get news i ≡ Some (Some a) → (ks : List Known) → Above i (ats ks) → Above a (ats (flat_map moved ks))
  above_moved i a e [] all = tt
  above_moved i a e (k ∷ ks) all = above_one a (slice_get news k.at) k.literal (flat_map moved ks) (λ b f. rises i k.at a b all.0 e f) (above_moved i a e ks all.1)

  climbs_one : (o : Option (Option ℕ)) (literal : Node) (ks : List Known) → ((a : ℕ) → o ≡ Some (Some a) → Above a (ats ks)) → Climbs (ats ks) → Climbs (ats (known_at (number_in o) literal ++ ks))
  climbs_one None literal ks h all = all
  climbs_one (Some None) literal ks h all = all
  climbs_one (Some (Some a)) literal ks h all = (h a refl, all)

  climbs_moved : (ks : List Known) → Climbs (ats ks) → Climbs (ats (flat_map moved ks))
  climbs_moved [] all = tt
  climbs_moved (k ∷ ks) all = climbs_one (slice_get news k.at) k.literal (flat_map moved ks) (λ a e. above_moved k.at a e ks all.0) (climbs_moved ks all.1)

-- what is kept stays in order
pub are_in_order : (means : List ℕ → List (List ℕ)) (tree : Node) (known : List Known) → AreInOrder known → AreInOrder (kept means tree known)
are_in_order means tree known up =
    rising (ats (kept means tree known)) (climbs_moved (numbers means 0 (pre_of tree)) (number_rises means (pre_of tree) 0) known (climbs (ats known) up))
