-- The search of the arguments of a call.
use Rattle.std.proofs.Common.{◌≡◌, inl, inr, ◌↔◌, ℕ, suc, ◌+◌, ◌<◌, ◌≤◌, List, [], ◌∷◌, length, drop, get_or, sym, ap, ◌∙◌, subst, add-one, cond, Bool, true, false, not}
use Rattle.std.specs.Prelude.{Some}
use Rattle.std.proofs.lemmas.List.{drop_all}
use Rattle.std.proofs.Math.Seq.{drop-cons}
use Rattle.node_tree.specs.declared.node.Node.{Node}
use Rattle.node_tree.specs.declared.known.Known.{Known}
use Rattle.node_tree.specs.Tree.{kind_of, kids_of}
use Rattle.node_tree.specs.Numbers.{Numbered, kids_at}
use Rattle.meta_bind.specs.declared.bound.Bound.{Bound}
use Rattle.node_match.specs.declared.class.Role.TheVariants as roles
use Rattle.node_search.specs.declared.state.State.{State}
use Rattle.node_match.specs.Sets.{Among, Adds}
use Rattle.node_match.specs.Kinds.{role_of}
use Rattle.node_match.specs.Orders.{is_run, is_run_role, is_named, has_dots, choosers, unnamed_of, named_at, unnamed_at, all_asked}
use Rattle.node_match.specs.Relation.{MatchesList}
use Rattle.node_match.specs.Fronts.{End, Leads}
use Rattle.node_search.specs.States.{Line, AnyFrom, Steps}
use Rattle.node_match.specs.Choices.{Chosen, Picked}
use Rattle.node_match.proofs.Sets.{chain}
use Rattle.node_match.proofs.FrontLaws.{whole_front}
use Rattle.node_match.proofs.Arguments.{Parted}
use Rattle.node_match.proofs.Choosing.{chosen_as}

-- a pattern that isn't bound as a run
pub not_run : (q : Node) → is_run q ≡ false → role_of (kind_of q) ≡ roles.MetaDots → ⊥
not_run q none role = let e : true ≡ false = sym (ap is_run_role role) ∙ none in absurd (let f = e in cc)

-- one argument more, with a name or without
pub named_steps : (C : List Known) (l : Line) (q : Node) (ps : List Node) (states : List State) (c : End) → is_named q ≡ true
    → AnyFrom C l (all_asked (unnamed_of ps)) states c ↔ AnyFrom C l (all_asked (unnamed_of (q ∷ ps))) states c
named_steps C l q ps states c so =
    let P : Bool → Type 0 = λ t. AnyFrom C l (all_asked (unnamed_of ps)) states c ↔ AnyFrom C l (all_asked (cond (not t) (q ∷ unnamed_of ps) (unnamed_of ps))) states c in
    subst P (sym so) (λ x. x, λ x. x)

pub unnamed_steps : (C : List Known) (l : Line) (q : Node) (ps : List Node) (old new : List State) (c : End) → is_named q ≡ false → Steps C l (Some q) old new
    → AnyFrom C l (all_asked (unnamed_of ps)) new c ↔ AnyFrom C l (all_asked (unnamed_of (q ∷ ps))) old c
unnamed_steps C l q ps old new c none steps =
    let P : Bool → Type 0 = λ t. AnyFrom C l (all_asked (unnamed_of ps)) new c ↔ AnyFrom C l (all_asked (cond (not t) (q ∷ unnamed_of ps) (unnamed_of ps))) old c in
    subst P (sym none) (steps (all_asked (unnamed_of ps)) c)

pub unnamed_from : (C : List Known) (l : Line) (items : List Node) (i : ℕ) (q : Node) (old new : List State) (c : End) (W : Type 0) → i < length items → q ≡ get_or items i q
    → AnyFrom C l (all_asked (unnamed_of (drop (i + 1) items))) new c ↔ AnyFrom C l (all_asked (unnamed_of (q ∷ drop (i + 1) items))) old c
    → AnyFrom C l (all_asked (unnamed_of (drop i items))) old c ↔ W → AnyFrom C l (all_asked (unnamed_of (drop (i + 1) items))) new c ↔ W
unnamed_from C l items i q old new c W lt is step inv =
    let cut : drop i items ≡ q ∷ drop (i + 1) items = drop-cons items i q lt ∙ ap (λ (x : Node). x ∷ drop (suc i) items) (sym is) ∙ ap (λ (j : ℕ). q ∷ drop j items) (sym (add-one i)) in
    let P : List Node → Type 0 = λ qs. AnyFrom C l (all_asked (unnamed_of qs)) old c ↔ W in
    chain _ _ _ step (subst P cut inv)

-- what the arguments without a name lead to, and then those with one
pub found_parted : (C : List Known) (p : Node) (n : Numbered) (l : Line) (items : List Node) (i : ℕ) (states : List State) (b d : List Bound) (before found : List (List Bound))
    → items ≡ kids_of p → l.holder ≡ n → l.kids ≡ unnamed_at (kids_at n) → length items ≤ i
    → ((e : End) → AnyFrom C l (all_asked (unnamed_of (drop i items))) states e ↔ Leads C l.holder (all_asked (unnamed_of items)) l.kids b e)
    → before ≡ [] → Adds before found (λ e. AnyFrom C l [] states ([], e))
    → Picked C true (has_dots (kids_of p)) (kids_of p) (named_at (kids_at n)) found d ↔ Parted C p n b d
found_parted C p n l items i states b d before found items-are holder-is kids-are le inv none adds =
    let P : List Node → Type 0 = λ qs. (e : End) → AnyFrom C l (all_asked (unnamed_of qs)) states e ↔ Leads C l.holder (all_asked (unnamed_of items)) l.kids b e in
    let Q : List Node → Type 0 = λ qs. (e : List Bound) → AnyFrom C l [] states ([], e) ↔ MatchesList C l.holder (all_asked (unnamed_of qs)) l.kids b e in
    let R : Numbered → Type 0 = λ h. (e : List Bound) → AnyFrom C l [] states ([], e) ↔ MatchesList C h (all_asked (unnamed_of (kids_of p))) l.kids b e in
    let S : List Numbered → Type 0 = λ ks. (e : List Bound) → AnyFrom C l [] states ([], e) ↔ MatchesList C n (all_asked (unnamed_of (kids_of p))) ks b e in
    let all : (e : End) → AnyFrom C l [] states e ↔ Leads C l.holder (all_asked (unnamed_of items)) l.kids b e = subst P (drop_all i items le) inv in
    let whole : (e : List Bound) → AnyFrom C l [] states ([], e) ↔ MatchesList C l.holder (all_asked (unnamed_of items)) l.kids b e = λ e. chain _ _ _ (all ([], e)) (whole_front C l.holder (all_asked (unnamed_of items)) l.kids b e) in
    let same = subst S kids-are (subst R holder-is (subst Q items-are whole)) in
    let N : List (List Bound) → Type 0 = λ xs. (e : List Bound) → Among xs e → ⊥ in
    let nothing : (e : List Bound) → Among before e → ⊥ = subst N (sym none) (λ e a. a) in (
      λ (e, among, x). (e, elim ((adds e).0 among) [ inl a ↦ absurd (nothing e a) | inr y ↦ (same e).0 y ], x),
      λ (e, y, x). (e, (adds e).1 (inr ((same e).1 y)), x),
    )

-- the same patterns and nodes, written otherwise
pub picked_same : (C : List Known) (named f g : Bool) (ps qs : List Node) (ns ms : List Numbered) (found : List (List Bound)) (c : List Bound) → f ≡ g → ps ≡ qs → ns ≡ ms → Picked C named f ps ns found c ↔ Picked C named g qs ms found c
picked_same C named f g ps qs ns ms found c loose same left =
    let each : (d : List Bound) → Chosen C named f ps ns d c ↔ Chosen C named g qs ms d c = λ d. chosen_as C named f g ps qs ns ms d c loose (ap (choosers named) same) left in
    (λ (d, a, x). (d, a, (each d).0 x), λ (d, a, x). (d, a, (each d).1 x))
