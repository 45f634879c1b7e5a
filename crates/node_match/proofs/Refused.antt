-- What a list of parts needs of the nodes that it matches.
use Rattle.std.proofs.Common.{◌≡◌, ℕ, ◌+◌, ◌<◌, ◌≤◌, List, [], ◌∷◌, length, drop, get_or, refl, sym, ap, ◌∙◌, subst, arith, add-one}
use Rattle.std.specs.Prelude.{None, Some}
use Rattle.std.proofs.lemmas.List.{drop_all, length-map, get_or-map}
use Rattle.std.proofs.Math.Seq.{drop-cons}
use Rattle.node_tree.specs.declared.node.Node.{Node}
use Rattle.node_tree.specs.declared.kind.Kind.{Kind}
use Rattle.node_tree.specs.Tree.{kind_of}
use Rattle.meta_bind.specs.declared.bound.Bound.{Bound}
use Rattle.node_match.specs.declared.class.Role.{Role}
use Rattle.node_match.specs.Kinds.{IsOne}
use Rattle.node_match.specs.Free.{Part}
use Rattle.node_match.specs.Relation.{MatchesKid, nodes_of}
use Rattle.node_match.specs.Fronts.{MatchesFront, no_part_front, head_front, free_front, dots_front, named_dots_front}
use Rattle.node_match.specs.Refused.{IsSingle, all_single, AreRefused, IsFrontRefused}
use Rattle.node_match.proofs.FrontLaws.{whole_front}
use Rattle.node_tree.specs.declared.known.Known.{Known}
use Rattle.node_tree.specs.Numbers.{Numbered}

-- the part takes the binding to the other at this node
abbrev pub Takes : List Known → Numbered → Part → Numbered → List Bound → List Bound → Type 0
Takes C h None n b c = Unit {0}
Takes C h (Some p) n b c = MatchesKid C h p n b c

module _ (C : List Known) where
  -- the first part takes the first node, and the others the rest
  first_kid : (h : Numbered) (p : Part) (n : Numbered) (ps : List Part) (ns rest : List Numbered) (b c : List Bound) → IsSingle p → MatchesFront C h (p ∷ ps) (n ∷ ns) rest b c
      → (d : List Bound) × Takes C h p n b d × MatchesFront C h ps ns rest d c
  first_kid h (Some p) n ps ns rest b c one (head_front {c = d} x y) = (d, x, y)
  first_kid h None n ps ns rest b c one (free_front y) = (b, tt, y)
  first_kid h (Some p) n ps ns rest b c one (dots_front k r x) = let P : Role → Type 0 = IsOne in absurd (subst P r one)
  first_kid h (Some p) n ps ns rest b c one (named_dots_front k r x y) = let P : Role → Type 0 = IsOne in absurd (subst P r one)

  no_kid : (h : Numbered) (p : Part) (ps : List Part) (rest : List Numbered) (b c : List Bound) → IsSingle p → MatchesFront C h (p ∷ ps) [] rest b c → ⊥
  no_kid h (Some p) ps rest b c one (dots_front k r x) = let P : Role → Type 0 = IsOne in absurd (subst P r one)
  no_kid h (Some p) ps rest b c one (named_dots_front k r x y) = let P : Role → Type 0 = IsOne in absurd (subst P r one)
  no_kid h None ps rest b c one x = elim x [ ]

  no_part : (h : Numbered) (ns rest : List Numbered) (b c : List Bound) → MatchesFront C h [] ns rest b c → ns ≡ rest
  no_part h ns _ b _ no_part_front = refl

  too_many : (ps : List Part) (ns : List Numbered) → all_single ps → length ps < length ns → (h : Numbered) (b c : List Bound) → MatchesFront C h ps ns [] b c → ⊥
  too_many [] [] ones lt h b c x = absurd (omega arith)
  too_many [] (n ∷ ns) ones lt h b c x = let e = ap length (no_part h (n ∷ ns) [] b c x) in absurd (omega (arith, e))
  too_many (p ∷ ps) [] ones lt h b c x = absurd (omega arith)
  too_many (p ∷ ps) (n ∷ ns) ones lt h b c x = let (d, y, z) = first_kid h p n ps ns [] b c ones.0 x in too_many ps ns ones.1 (omega arith) h d c z

-- parts that take one node each match as many nodes as they are
pub same_number : (kind : Kind) (ps : List Part) (ns : List Node) → all_single ps → length ps < length ns → AreRefused kind ps ns
same_number kind ps ns ones lt C ss same h is b c x =
    let many : length ss ≡ length ns = sym (length-map ss (λ (s : Numbered). s.node)) ∙ ap length same in
    too_many C ps ss ones (omega arith) h b c ((whole_front C h ps ss b c).1 x)

-- where no front is matched, the whole isn't
pub whole_refused : (kind : Kind) (ps : List Part) (ns : List Node) → IsFrontRefused kind ps ns → AreRefused kind ps ns
whole_refused kind ps ns not C ss same h is b c x = not C ss same h is [] b c ((whole_front C h ps ss b c).1 x)

-- what is left to match once the parts before a place have matched
abbrev pub Reaches : List Part → List Node → ℕ → Type 0
Reaches ps ns i =
    (C : List Known) (ss : List Numbered) → nodes_of ss ≡ ns → (h : Numbered) (rest : List Numbered) (b c : List Bound) → MatchesFront C h ps ss rest b c → (d : List Bound) × MatchesFront C h (drop i ps) (drop i ss) rest d c

-- the part takes no binding at a kid of that value, where the holder is of that kind
abbrev pub NeverTakes : Kind → Part → Node → Type 0
NeverTakes kind p n = (C : List Known) (h s : Numbered) → kind_of h.node ≡ kind → s.node ≡ n → (b c : List Bound) → Takes C h p s b c → ⊥

module _ (kind : Kind) (ps : List Part) (ns : List Node) (i : ℕ) (p : Part) (one : IsSingle p) (from_here : drop i ps ≡ p ∷ drop (i + 1) ps) (reaches : Reaches ps ns i) where
  pub none_left : length ns ≤ i → IsFrontRefused kind ps ns
  none_left le C ss same h is rest b c x =
      let (d, y) = reaches C ss same h rest b c x in
      let many : length ss ≡ length ns = sym (length-map ss (λ (s : Numbered). s.node)) ∙ ap length same in
      let P : List Part → Type 0 = λ qs. MatchesFront C h qs (drop i ss) rest d c in
      let Q : List Numbered → Type 0 = λ ms. MatchesFront C h (p ∷ drop (i + 1) ps) ms rest d c in
      no_kid C h p (drop (i + 1) ps) rest d c one (subst Q (drop_all i ss (omega arith)) (subst P from_here y))

  module _ (n : Node) (in_ns : i < length ns) (n_is : n ≡ get_or ns i n) where
    node_here : (ss : List Numbered) → nodes_of ss ≡ ns → (s : Numbered) × (s.node ≡ n) × (drop i ss ≡ s ∷ drop (i + 1) ss)
    node_here ss same =
        let many : length ss ≡ length ns = sym (length-map ss (λ (s : Numbered). s.node)) ∙ ap length same in
        let s = get_or ss i (record { at = 0; node = n }) in
        let f : Numbered → Node = λ (x : Numbered). x.node in
        let lt : i < length ss = omega arith in
        let is : s.node ≡ n = sym (get_or-map f ss i (record { at = 0; node = n }) n lt) ∙ ap (λ (xs : List Node). get_or xs i n) same ∙ sym n_is in
        (s, is, drop-cons ss i (record { at = 0; node = n }) lt ∙ ap (λ (j : ℕ). s ∷ drop j ss) (sym (add-one i)))

    here : (C : List Known) (ss : List Numbered) → nodes_of ss ≡ ns → (h : Numbered) (rest : List Numbered) (b c : List Bound) → MatchesFront C h ps ss rest b c
        → (s : Numbered) × (s.node ≡ n) × (d : List Bound) × (e : List Bound) × Takes C h p s d e × MatchesFront C h (drop (i + 1) ps) (drop (i + 1) ss) rest e c
    here C ss same h rest b c x =
        let (d, y) = reaches C ss same h rest b c x in
        let (s, is, cut) = node_here ss same in
        let P : List Part → Type 0 = λ qs. MatchesFront C h qs (drop i ss) rest d c in
        let Q : List Numbered → Type 0 = λ ms. MatchesFront C h (p ∷ drop (i + 1) ps) ms rest d c in
        let (e, first, others) = first_kid C h p s (drop (i + 1) ps) (drop (i + 1) ss) rest d c one (subst Q cut (subst P from_here y)) in
        (s, is, d, e, first, others)

    pub one_refused : NeverTakes kind p n → IsFrontRefused kind ps ns
    one_refused not C ss same h held rest b c x = let (s, is, d, e, y, z) = here C ss same h rest b c x in not C h s held is d e y

    pub next_reached : Reaches ps ns (i + 1)
    next_reached C ss same h rest b c x = let (s, is, d, e, y, z) = here C ss same h rest b c x in (e, z)
