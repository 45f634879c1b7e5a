-- The units of a file stand in order of number.
use Rattle.std.proofs.Common.{◌≡◌, inl, inr, ℕ, zero, suc, ◌+◌, ◌<◌, ◌≤◌, Bool, true, false, List, [], ◌∷◌, ◌++◌, length, take, drop, map, get_or, refl, sym, ap, ◌∙◌, subst, arith}
use Rattle.std.proofs.lemmas.List.{take_more, take-append-drop}
use Rattle.node_tree.specs.declared.node.Node.{Node}
use Rattle.node_tree.specs.Kinds.{is_function}
use Rattle.node_tree.specs.Tree.{pre_of, kind_of}
use Rattle.graph_form.specs.Sets.{Among}
use Rattle.flow_graph.specs.Units.{functions_from, units_of}
use Rattle.flow_graph.proofs.Walks.{functions_more, functions_none}
use Rattle.unit_names.specs.declared.scope.Scope.{Scope}
use Rattle.unit_names.specs.Scopes.{AreScopes}

-- each number is less than those behind it
abbrev Rises : List ℕ → Type 0
Rises [] = Unit {0}
Rises (x ∷ xs) = ((y : ℕ) → Among xs y → x < y) × Rises xs

-- ---- the numbers of functions

above_by : (at : ℕ) (n : Node) (ns : List Node) (b : Bool) → is_function (kind_of n) ≡ b → ((y : ℕ) → Among (functions_from (at + 1) ns) y → at + 1 ≤ y) → (y : ℕ) → Among (functions_from at (n ∷ ns)) y → at ≤ y
above_by at n ns true is rest y among = one (subst (λ xs. Among xs y) (functions_more at n ns is) among)
  where
    one : Among (at ∷ functions_from (at + 1) ns) y → at ≤ y
    one (inl e) = omega (arith, e)
    one (inr h) = omega (arith, rest y h)
above_by at n ns false other rest y among = let h = rest y (subst (λ xs. Among xs y) (functions_none at n ns other) among) in omega (arith, h)

above : (at : ℕ) (ns : List Node) (y : ℕ) → Among (functions_from at ns) y → at ≤ y
above at [] y h = absurd h
above at (n ∷ ns) y h = above_by at n ns (is_function (kind_of n)) refl (above (at + 1) ns) y h

rise_by : (at : ℕ) (n : Node) (ns : List Node) (b : Bool) → is_function (kind_of n) ≡ b → Rises (functions_from (at + 1) ns) → Rises (functions_from at (n ∷ ns))
rise_by at n ns true is rest = subst Rises (sym (functions_more at n ns is)) (λ y h. let le = above (at + 1) ns y h in omega (arith, le), rest)
rise_by at n ns false other rest = subst Rises (sym (functions_none at n ns other)) rest

rise_from : (at : ℕ) (ns : List Node) → Rises (functions_from at ns)
rise_from at [] = tt
rise_from at (n ∷ ns) = rise_by at n ns (is_function (kind_of n)) refl (rise_from (at + 1) ns)

units_rise : (root : Node) → Rises (units_of root)
units_rise root = (λ y h. let le = above 1 (drop 1 (pre_of root)) y h in omega (arith, le), rise_from 1 (drop 1 (pre_of root)))

-- ---- units in front of one and behind it

unit_of : Scope → ℕ
unit_of s = s.unit

among_unit : (ss : List Scope) (s : Scope) → Among ss s → Among (map (λ (t : Scope). t.unit) ss) s.unit
among_unit [] s h = absurd h
among_unit (t ∷ ts) s (inl e) = inl (ap (λ (x : Scope). x.unit) e)
among_unit (t ∷ ts) s (inr h) = inr (among_unit ts s h)

in_front : (ss : List Scope) (i : ℕ) (d : Scope) → Rises (map (λ (t : Scope). t.unit) ss) → i < length ss → (s : Scope) → Among (take i ss) s → s.unit ≤ (get_or ss i d).unit
in_front ss zero d rises lt s h = absurd h
in_front [] (suc i) d rises lt s h = absurd h
in_front (t ∷ ts) (suc i) d rises lt s (inl e) =
    let less : t.unit < (get_or ts i d).unit = rises.0 (get_or ts i d).unit (among_unit ts (get_or ts i d) (at ts i (omega (arith, lt)))) in
    subst (λ (x : Scope). x.unit ≤ (get_or ts i d).unit) e (omega (arith, less))
  where
    at : (xs : List Scope) (k : ℕ) → k < length xs → Among xs (get_or xs k d)
    at [] k h = absurd (omega (arith, h))
    at (x ∷ xs) zero h = inl refl
    at (x ∷ xs) (suc k) h = inr (at xs k (omega (arith, h)))
in_front (t ∷ ts) (suc i) d rises lt s (inr h) = in_front ts i d rises.1 (omega (arith, lt)) s h

behind : (ss : List Scope) (i : ℕ) (d : Scope) → Rises (map (λ (t : Scope). t.unit) ss) → i < length ss → (s : Scope) → Among (drop (suc i) ss) s → (get_or ss i d).unit < s.unit
behind [] i d rises lt s h = absurd (omega (arith, lt))
behind (t ∷ ts) zero d rises lt s h = rises.0 s.unit (among_unit ts s h)
behind (t ∷ ts) (suc i) d rises lt s h = behind ts i d rises.1 (omega (arith, lt)) s h

module _ (root : Node) (scopes : List Scope) (are : AreScopes root scopes) (i : ℕ) (d : Scope) (lt : i < length scopes) where
  rises : Rises (map (λ (t : Scope). t.unit) scopes)
  rises = subst Rises (sym are.units) (units_rise root)

  -- those in front of a unit begin no later
  pub begin_before : (s : Scope) → Among (take i scopes) s → s.unit ≤ (get_or scopes i d).unit
  begin_before = in_front scopes i d rises lt

  -- those behind it begin behind
  pub begin_behind : (s : Scope) → Among (drop (i + 1) scopes) s → (get_or scopes i d).unit < s.unit
  begin_behind s h = let next : i + 1 ≡ suc i = omega arith in behind scopes i d rises lt s (subst (λ n. Among (drop n scopes) s) next h)

  -- those in front, the unit, and those behind
  pub split_at : scopes ≡ (take i scopes ++ get_or scopes i d ∷ []) ++ drop (i + 1) scopes
  split_at = sym (take-append-drop (i + 1) scopes) ∙ ap (λ ss. ss ++ drop (i + 1) scopes) (take_more scopes i d lt)
