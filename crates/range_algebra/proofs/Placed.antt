-- The members of a formula stand at places of the file's text, where those of its patterns and the matches of its regular
-- expressions do. What the names are bound to stands so whatever the matches are.
use Rattle.std.proofs.Common.{◌≡◌, inl, inr, ℕ, zero, suc, List, [], ◌∷◌, map, sym, subst, Bool, true, false, cond}
use Rattle.std.specs.Prelude.{All, Option, None, Some, IfSome, MatchBool, slice_get}
use Rattle.std.specs.Ordering.{is_lt, is_eq}
use Rattle.std.proofs.lemmas.List.Elements.{All-nil, All-cons, All-head, All-tail, All-map, All-weaker}
use Rattle.node_tree.specs.declared.span.Span.{Span}
use Rattle.meta_bind.specs.declared.bound.Bound.{Bound}
use Rattle.meta_bind.specs.declared.join.Keep.{Keep}
use Rattle.meta_bind.specs.declared.join.Keep.TheVariants.{Later, First}
use Rattle.meta_bind.specs.Bounds.{name_cmp}
use Rattle.meta_bind.specs.Merges.{is_later, kept, with_kept, joined, merged}
use Rattle.meta_bind.specs.Places.{EndsLieIn}
use Rattle.meta_bind.proofs.Fillings.{found_has}
use Rattle.tree_match.specs.declared.leaf.Leaf.{Leaf}
use Rattle.tree_match.specs.declared.leaf.Leaf.TheVariants.{Full, Crowded}
use Rattle.node_match.specs.Sets.{Among}
use Rattle.tree_match.specs.Members.{Member}
use Rattle.tree_match.specs.Placed.{IsPlaced, IsLeafPlaced}
use Rattle.tree_match.proofs.Placed.{all_among, among_all}
use Rattle.member_join.specs.declared.operand.Role.{Role}
use Rattle.member_join.specs.declared.operand.Role.TheVariants.{Plain, Inside}
use Rattle.range_algebra.specs.Trees
use Rattle.member_join.specs.Choices.{Chosen, FirstOf, NoneOf, IsMet, range_of, binding_of, merged_with}
use Rattle.range_algebra.specs.Meets.{InLeaf, IsGiven, IsOperandsMember, IsShownAt, IsShown, Meets, MeetsSome, OneOfEach, OneAnd, IsChosen}
use Rattle.range_algebra.specs.Conditions.{AreBoundIn}
use Rattle.range_algebra.specs.Regexes.{matches_of}

-- what is to hold of ranges, and holds of those that cut no character
module _ (bytes : List ℕ) (Ends : Span → Type 0) (ends_lie : (s : Span) → EndsLieIn bytes s → Ends s) where
  abbrev BoundLies : Bound → Type 0
  BoundLies b = EndsLieIn bytes b.span

  abbrev AreBound : List Bound → Type 0
  AreBound b = All BoundLies b

  abbrev Placed : Member → Type 0
  Placed m = Ends m.0 × AreBound m.1

  -- ---- bindings made one

  kept_lies : (keep : Keep) (b c : Bound) → BoundLies b → BoundLies c → BoundLies (kept keep b c)
  kept_lies Later b c p q = at (is_later b.span c.span)
    where
      at : (t : Bool) → BoundLies (cond t b c)
      at true = p
      at false = q
  kept_lies First b c p q = p

  with_kept_lies : (keep : Keep) (b : Bound) (cs : List Bound) → BoundLies b → AreBound cs → AreBound (with_kept keep b cs)
  with_kept_lies keep b [] p all = All-cons BoundLies b [] p all
  with_kept_lies keep b (c ∷ cs) p all = at (is_lt (name_cmp b.name c.name)) (is_eq (name_cmp b.name c.name)) (with_kept_lies keep b cs p (All-tail BoundLies c cs all))
    where
      at : (t u : Bool) → AreBound (with_kept keep b cs) → AreBound (cond t (b ∷ c ∷ cs) (cond u (kept keep b c ∷ cs) (c ∷ with_kept keep b cs)))
      at true u rest = All-cons BoundLies b (c ∷ cs) p all
      at false true rest = All-cons BoundLies (kept keep b c) cs (kept_lies keep b c p (All-head BoundLies c cs all)) (All-tail BoundLies c cs all)
      at false false rest = All-cons BoundLies c (with_kept keep b cs) (All-head BoundLies c cs all) rest

  joined_lies : (keep : Keep) (bs cs : List Bound) → AreBound bs → AreBound cs → AreBound (joined keep bs cs)
  joined_lies keep [] cs all all' = all'
  joined_lies keep (b ∷ bs) cs all all' = with_kept_lies keep b (joined keep bs cs) (All-head BoundLies b bs all) (joined_lies keep bs cs (All-tail BoundLies b bs all) all')

  merged_lies : (b : List Bound) (bs : List (List Bound)) → AreBound b → All AreBound bs → AreBound (merged_with b bs)
  merged_lies b [] one all = one
  merged_lies b (c ∷ cs) one all = merged_lies (merged b c) cs (joined_lies Later b c one (All-head AreBound c cs all)) (All-tail AreBound c cs all)

  -- ---- choices

  -- whatever is chosen is placed
  abbrev ArePlaced : Chosen → Type 0
  ArePlaced Set = (ms : List Member) → Set ms → All Placed ms

  none_placed : ArePlaced NoneOf
  none_placed ms e = let P : List Member → Type 0 = All Placed in subst P (sym e) (All-nil Placed)

  first_placed : (Set : Member → Type 0) (Rest : Chosen) → ((m : Member) → Set m → Placed m) → ArePlaced Rest → ArePlaced (FirstOf Set Rest)
  first_placed Set Rest one rest [] h = elim h [ ]
  first_placed Set Rest one rest (m ∷ ms) h = All-cons Placed m ms (one m h.0) (rest ms h.1)

  chosen_binds : (ms : List Member) → All Placed ms → AreBound (merged_with [] (map binding_of ms))
  chosen_binds ms all = merged_lies [] (map binding_of ms) (All-nil BoundLies) (All-map AreBound binding_of ms (All-weaker Placed (λ (m : Member). AreBound (binding_of m)) (λ m p. p.1) ms all))

  met_placed : (Plains Insides : Chosen) → ArePlaced Plains → ArePlaced Insides → (m : Member) → IsMet Plains Insides m → Placed m
  met_placed Plains Insides plain inside m met =
      let c = met.choice in
      let s = met.state in
      let chosen = plain c.chosen c.plain_members in
      let around = inside c.around c.inside_members in
      let ranges = All-map Ends range_of c.chosen (All-weaker Placed (λ (k : Member). Ends (range_of k)) (λ k p. p.0) c.chosen chosen) in
      let P : Span → Type 0 = Ends in
      let Q : List Bound → Type 0 = AreBound in
      let plains = subst Q (sym c.plain) (chosen_binds c.chosen chosen) in
      let insides = subst Q (sym c.inside) (chosen_binds c.around around) in (
        subst P (sym met.range) (all_among Ends (map range_of c.chosen) s.range ranges (c.marked.0 met.marked)),
        subst Q (sym met.binding) (joined_lies First s.plain s.inside plains insides),
      )

  -- ---- what is given, and what is shown

  given_placed : (given : Option Span) (m : Member) → IfSome given Ends → IsGiven given m → Placed m
  given_placed None m ends h = elim h [ ]
  given_placed (Some range) m ends e = let P : Member → Type 0 = Placed in subst P (sym e) (ends, All-nil BoundLies)

  operands_placed : (bs : Trees.Branches) (Plains Insides : Chosen) → ArePlaced Plains → ArePlaced Insides → (given : Option Span) → IfSome given Ends → (m : Member) → IsOperandsMember bs Plains Insides given m → Placed m
  operands_placed bs Plains Insides plain inside given ends m h = at (Trees.has Trees.is_positive bs) (Trees.has Trees.is_inside bs) h
    where
      at : (t u : Bool) → MatchBool t (IsMet Plains Insides m) (MatchBool u (IsMet Insides NoneOf m) (IsGiven given m)) → Placed m
      at true u k = met_placed Plains Insides plain inside m k
      at false true k = met_placed Insides NoneOf inside none_placed m k
      at false false k = given_placed given m ends k

  shown_at_placed : (name : List ℕ) (c m : Member) → Placed c → IsShownAt name c m → Placed m
  shown_at_placed name c m ok (b, is, bytes', e) = let P : Member → Type 0 = Placed in subst P (sym e) (ends_lie b.span (found_has BoundLies name c.1 b is ok.1), ok.1)

  shown_placed : (bs : Trees.Branches) (c m : Member) → Placed c → IsShown bs c m → Placed m
  shown_placed bs c m ok h = at (Trees.has Trees.is_focus bs) h
    where
      at : (t : Bool) → MatchBool t ((name : List ℕ) × Among (Trees.focused bs) name × IsShownAt name c m) (m ≡ c) → Placed m
      at true (name, among, k) = shown_at_placed name c m ok k
      at false e = let P : Member → Type 0 = Placed in subst P (sym e) ok

  -- ---- patterns

  in_leaf_placed : (leaves : List Leaf) (k : ℕ) (m : Member) → All (IsLeafPlaced bytes) leaves → InLeaf (slice_get leaves k) m → Placed m
  in_leaf_placed [] k m all h = elim h [ ]
  in_leaf_placed (Full members ∷ leaves) zero m all h =
      let p = all_among (IsPlaced bytes) members m (All-head (IsLeafPlaced bytes) (Full members) leaves all) h in
      (ends_lie m.0 p.0, p.1)
  in_leaf_placed (Crowded ∷ leaves) zero m all h = elim h [ ]
  in_leaf_placed (leaf ∷ leaves) (suc k) m all h = in_leaf_placed leaves k m (All-tail (IsLeafPlaced bytes) leaf leaves all) h

-- ---- formulas

module _ (leaves : List Leaf) (texts : List (List ℕ)) (bytes : List ℕ) (all : All (IsLeafPlaced bytes) leaves) where
  module _ (Ends : Span → Type 0) (ends_lie : (s : Span) → EndsLieIn bytes s → Ends s) (matches : (k : ℕ) → All Ends (matches_of texts bytes k)) where
    abbrev AtPlace : Member → Type 0
    AtPlace m = Ends m.0 × AreBoundIn bytes m

    -- the members of the child's formula are placed, where it is an operand
    abbrev IsBranchPlaced : Trees.Branch → Type 0
    IsBranchPlaced (Trees.positive t) = (m : Member) → Meets leaves texts bytes t None m → AtPlace m
    IsBranchPlaced (Trees.inside t) = (m : Member) → Meets leaves texts bytes t None m → AtPlace m
    IsBranchPlaced _ = Unit {0}

    one_and_placed : (role : Role) (b : Trees.Branch) (Rest : Chosen) → IsBranchPlaced b → ArePlaced bytes Ends ends_lie Rest → ArePlaced bytes Ends ends_lie (OneAnd leaves texts bytes role b Rest)
    one_and_placed Plain (Trees.positive t) Rest one rest ms h = first_placed bytes Ends ends_lie (Meets leaves texts bytes t None) Rest one rest ms h
    one_and_placed Inside (Trees.inside t) Rest one rest ms h = first_placed bytes Ends ends_lie (Meets leaves texts bytes t None) Rest one rest ms h
    one_and_placed role b Rest one rest ms h = rest ms h

    mutual
      tree_placed : (t : Trees.Tree) (given : Option Span) (m : Member) → IfSome given Ends → Meets leaves texts bytes t given m → AtPlace m
      tree_placed (Trees.leaf k) given m ends h = in_leaf_placed bytes Ends ends_lie leaves k m all h
      tree_placed (Trees.regex k) given m ends h =
          let P : List Bound → Type 0 = All (λ (b : Bound). EndsLieIn bytes b.span) in
          (all_among Ends (matches_of texts bytes k) m.0 (matches k) h.0, subst P (sym h.1) (All-nil (λ (b : Bound). EndsLieIn bytes b.span)))
      tree_placed (Trees.some_of ts) given m ends h = some_placed ts m h
      tree_placed (Trees.all_of bs) given m ends (c, among, allowed, shown) =
          shown_placed bytes Ends ends_lie bs c m
          (operands_placed bytes Ends ends_lie bs (OneOfEach leaves texts bytes Plain bs) (OneOfEach leaves texts bytes Inside bs) (each_placed bs Plain) (each_placed bs Inside) given ends c among) shown

      some_placed : (ts : Trees.Trees) (m : Member) → MeetsSome leaves texts bytes ts m → AtPlace m
      some_placed Trees.no_trees m h = elim h [ ]
      some_placed (Trees.tree_then t ts) m (inl h) = tree_placed t None m tt h
      some_placed (Trees.tree_then t ts) m (inr h) = some_placed ts m h

      each_placed : (bs : Trees.Branches) (role : Role) → ArePlaced bytes Ends ends_lie (OneOfEach leaves texts bytes role bs)
      each_placed Trees.no_branches role ms h = none_placed bytes Ends ends_lie ms h
      each_placed (Trees.branch_then b bs) role ms h = one_and_placed role b (OneOfEach leaves texts bytes role bs) (branch_placed b) (each_placed bs role) ms h

      branch_placed : (b : Trees.Branch) → IsBranchPlaced b
      branch_placed (Trees.positive t) = λ m h. tree_placed t None m tt h
      branch_placed (Trees.inside t) = λ m h. tree_placed t None m tt h
      branch_placed (Trees.without t) = tt
      branch_placed (Trees.outside t) = tt
      branch_placed (Trees.without_regex k) = tt
      branch_placed (Trees.meta_regex name k) = tt
      branch_placed (Trees.meta_compare x) = tt
      branch_placed (Trees.meta_pattern name t) = tt
      branch_placed (Trees.focus names) = tt

    among_placed : (bs : Trees.Branches) (given : Option Span) → IfSome given Ends → (m : Member) → IsOperandsMember bs (OneOfEach leaves texts bytes Plain bs) (OneOfEach leaves texts bytes Inside bs) given m → AtPlace m
    among_placed bs given ends m among = operands_placed bytes Ends ends_lie bs (OneOfEach leaves texts bytes Plain bs) (OneOfEach leaves texts bytes Inside bs) (each_placed bs Plain) (each_placed bs Inside) given ends m among

  -- what a choice binds
  pub chosen_bound : (bs : Trees.Branches) (m : Member) → IsChosen leaves texts bytes bs m → AreBoundIn bytes m
  chosen_bound bs m chosen =
      let Whatever : Span → Type 0 = λ s. Unit {0} in
      (among_placed Whatever (λ s e. tt) (λ k. among_all Whatever (matches_of texts bytes k) (λ s h. tt)) bs None tt m chosen).1

  pub meets_placed : ((k : ℕ) → All (EndsLieIn bytes) (matches_of texts bytes k)) → (t : Trees.Tree) (given : Option Span) (m : Member) → IfSome given (EndsLieIn bytes) → Meets leaves texts bytes t given m → IsPlaced bytes m
  meets_placed matches t given m ends h = tree_placed (EndsLieIn bytes) (λ s e. e) matches t given m ends h
