-- What holds at the entry of a unit is what its entry says, where the open functions are those around it.
use Rattle.std.proofs.Common.{◌≡◌, inl, inr, ℕ, zero, suc, ◌+◌, ◌<◌, ◌≤◌, Bool, true, false, List, [], ◌∷◌, ◌++◌, length, map, take, refl, sym, ap, ◌∙◌, arith, Some}
use Rattle.std.specs.Prelude.{Option, None, ◌&&◌, ◌||◌, if◌then◌else◌, filter, not, nat_lt, option_map, slice_get}
use Rattle.std.specs.List.{flat_map, list_any}
use Rattle.std.specs.BTreeMap.{get_by}
use Rattle.std.specs.Cmp.Lexicographic.{slice_cmp}
use Rattle.std.specs.Ordering.{nat_cmp}
use Rattle.std.specs.Str.{bytes_eq}
use Rattle.std.proofs.lemmas.Bool.Decides.{nat_tests}
use Rattle.std.proofs.lemmas.List.{append-nil}
use Rattle.std.proofs.lemmas.List.Concat.{flat_map-append}
use Rattle.std.proofs.lemmas.List.Elements.{filter-append}
use Rattle.std.proofs.lemmas.List.Folds.{list_any-append}
use Rattle.node_tree.specs.declared.node.Node.{Node}
use Rattle.node_tree.specs.Numbers.{Numbered, count_of}
use Rattle.node_tree.specs.Tree.{pre_of, kids_of}
use Rattle.node_tree.proofs.Trees.{pre_is}
use Rattle.graph_form.specs.Sets.{Among}
use Rattle.graph_form.proofs.Amongs.{among_push}
use Rattle.point_nodes.specs.Tops.{node_at}
use Rattle.unit_names.specs.declared.scope.Scope.{Scope}
use Rattle.unit_names.specs.Names.{own_words, shared_in, referred_of}
use Rattle.unit_names.specs.declared.word.Word.{Word as Lent}
use Rattle.unit_names.specs.Seen.{seen_word}
use Rattle.unit_names.specs.Words.{Word, same_word, name_word, is_one_of, each_once}
use Rattle.unit_effects.specs.declared.entry.Entry.{Entry}
use Rattle.unit_effects.specs.declared.entry.Function.{Function}
use Rattle.unit_effects.specs.declared.fixed.Fixed.{Fixed}
use Rattle.unit_effects.specs.Fixed.{Value, fixed, end_of, barred, occurrences_of, only_one}
use Rattle.unit_effects.specs.Functions.{AreOpen, all_functions, function_of, entered_by, entered}
use Rattle.unit_effects.specs.Numbering.{hides, shadows, entry_by, entry_value}
use Rattle.unit_effects.specs.Firsts.{may_be}
use Rattle.unit_effects.specs.Once.{IsFixed, summary, flattened, fixed_in, once_in}
use Rattle.const_prop.specs.Constants.{hidden_in, is_around, shadowed, start_by, start_of}
use Rattle.const_prop.specs.Sights.{IsHiding}
use Rattle.const_prop.specs.Units.{AreStillOpen}
use Rattle.const_prop.proofs.Once.{once_same}

abbrev Open : Type 0
Open = ℕ × List Word

abbrev goes_on : ℕ → (Open → Bool) → Open → Bool
goes_on at test f = nat_lt at f.0 && test f

any_same : {X : Type 0} (p q : X → Bool) (xs : List X) → ((x : X) → p x ≡ q x) → list_any p xs ≡ list_any q xs
any_same p q xs same = ap (λ r. list_any r xs) (λ i x. same x i)

any_map : {X Y : Type 0} (f : X → Y) (p : Y → Bool) (xs : List X) → list_any p (map f xs) ≡ list_any (λ x. p (f x)) xs
any_map f p [] = refl
any_map f p (x ∷ xs) = ap (λ b. p (f x) || b) (any_map f p xs)

-- ---- which functions are open

pub none_open : (nodes : List Node) (open_ones : List Open) → open_ones ≡ [] → AreStillOpen nodes [] open_ones
none_open nodes open_ones none at above test = ap (list_any (goes_on at test)) none

-- a later number is behind an earlier one
later : (low at end : ℕ) (t : Bool) → low ≤ at → nat_lt low end && (nat_lt at end && t) ≡ nat_lt at end && t
later low at end t le = by (nat_lt low end) refl (nat_lt at end) refl
  where
    by : (a : Bool) → nat_lt low end ≡ a → (b : Bool) → nat_lt at end ≡ b → a && (b && t) ≡ b && t
    by true e b f = refl
    by false e true f = absurd (grind (arith, nat_tests))
    by false e false f = refl

at_is : (at : ℕ) (o : Option Node) (n : Numbered) → Some n ≡ option_map (λ (m : Node). record { at = at; node = m }) o → n.at ≡ at
at_is at None n e = absurd cc
at_is at (Some m) n e = let is : n ≡ record { at = at; node = m } = cc in ap (λ (x : Numbered). x.at) is

-- a function ends behind its own number
ends_later : (nodes : List Node) (at : ℕ) (n : Numbered) → Some n ≡ node_at nodes at → nat_lt at (end_of (node_at nodes at)) ≡ true
ends_later nodes at n is =
    let size : count_of n.node ≡ suc (length (flat_map pre_of (kids_of n.node))) = ap length (pre_is n.node) in
    let same : n.at ≡ at = at_is at (slice_get nodes at) n is in
    let lt : at < n.at + count_of n.node = omega (arith, size, same) in
    ap (λ o. nat_lt at (end_of o)) (sym is) ∙ grind (arith, nat_tests)

ends_by : (nodes : List Node) (s : Scope) (test : Open → Bool) (k : ℕ) (n : Option Numbered) → n ≡ node_at nodes s.unit → list_any test (entered_by nodes s k n) ≡ list_any (goes_on s.unit test) (entered_by nodes s k n)
ends_by nodes s test zero n is = refl
ends_by nodes s test (suc k) None is = refl
ends_by nodes s test (suc k) (Some n) is = ap (λ b. (b && test (function_of nodes s)) || false) (sym (ends_later nodes s.unit n is))

entered_ends : (nodes : List Node) (s : Scope) (test : Open → Bool) → list_any test (entered nodes s) ≡ list_any (goes_on s.unit test) (entered nodes s)
entered_ends nodes s test = ends_by nodes s test s.unit (node_at nodes s.unit) refl

module _ (nodes : List Node) (these : List Scope) (s : Scope) (old left new : List Open) (so : AreStillOpen nodes these old) (dropped : AreOpen s.unit old left) (new_is : new ≡ left ++ entered nodes s) where
  all_these : flat_map (entered nodes) (these ++ s ∷ []) ≡ flat_map (entered nodes) these ++ entered nodes s
  all_these = flat_map-append (entered nodes) these (s ∷ []) ∙ ap (λ fs. flat_map (entered nodes) these ++ fs) (append-nil (entered nodes s))

  -- one unit more
  pub more_open : AreStillOpen nodes (these ++ s ∷ []) new
  more_open at above test =
      let last : s.unit ≤ at = above s ((among_push these s s).1 (inr refl)) in
      let before : list_any (goes_on at test) left ≡ list_any (goes_on at test) (flat_map (entered nodes) these) =
      dropped (goes_on at test) ∙ any_same (λ f. nat_lt s.unit f.0 && goes_on at test f) (goes_on at test) old (λ f. later s.unit at f.0 (test f) last) ∙ so at (λ t among. above t ((among_push these s t).1 (inl among))) test in
      ap (list_any (goes_on at test)) new_is ∙ list_any-append (goes_on at test) left (entered nodes s)
      ∙ ap (λ b. b || list_any (goes_on at test) (entered nodes s)) before
      ∙ sym (ap (list_any (goes_on at test)) all_these ∙ list_any-append (goes_on at test) (flat_map (entered nodes) these) (entered nodes s))

  -- those that are open now go on behind the number of the unit
  pub open_now : ((t : Scope) → Among these t → t.unit ≤ s.unit) → (test : Open → Bool) → list_any test new ≡ list_any (goes_on s.unit test) (flat_map (entered nodes) (these ++ s ∷ []))
  open_now above test =
      ap (list_any test) new_is ∙ list_any-append test left (entered nodes s)
      ∙ ap (λ b. b || list_any test (entered nodes s)) (dropped test ∙ so s.unit above test)
      ∙ ap (λ b. list_any (goes_on s.unit test) (flat_map (entered nodes) these) || b) (entered_ends nodes s test)
      ∙ sym (ap (list_any (goes_on s.unit test)) all_these ∙ list_any-append (goes_on s.unit test) (flat_map (entered nodes) these) (entered nodes s))

-- ---- the names of the functions around a unit

abbrev has_own : Word → Open → Bool
has_own w f = is_one_of f.1 w

module _ (nodes : List Node) (unit : ℕ) (w : Word) where
  last_by : (c x y : Bool) → x ≡ y → (c && x) || false ≡ (if true && not false && c then y else false)
  last_by true true y e = e
  last_by true false y e = e
  last_by false x y e = refl

  not_there : (a c x : Bool) → c ≡ false → false ≡ (if a && c then x else false)
  not_there true c x e = sym (ap (λ (d : Bool). if d then x else false) e)
  not_there false c x e = refl

  one_by : (s : Scope) (k : ℕ) (n : Option Numbered) → n ≡ node_at nodes s.unit → k ≤ unit
      → list_any (goes_on unit (has_own w)) (entered_by nodes s k n) ≡ (if nat_lt 0 k && not (nat_lt unit k) && nat_lt unit (end_of n) then is_one_of (own_words nodes s) w else false)
  one_by s zero n is le = refl
  one_by s (suc k) None is le =
      let none : nat_lt unit 0 ≡ false = grind (arith, nat_tests) in
      not_there (nat_lt 0 (suc k) && not (nat_lt unit (suc k))) (nat_lt unit 0) (is_one_of (own_words nodes s) w) none
  one_by s (suc k) (Some n) is le =
      let some : nat_lt 0 (suc k) ≡ true = grind (arith, nat_tests) in
      let no_less : nat_lt unit (suc k) ≡ false = grind (arith, nat_tests) in
      let end : end_of (node_at nodes s.unit) ≡ end_of (Some n) = ap end_of (sym is) in
      ap (λ m. (nat_lt unit m && is_one_of (each_once (own_words nodes s)) w) || false) end
      ∙ last_by (nat_lt unit (end_of (Some n))) (is_one_of (each_once (own_words nodes s)) w) (is_one_of (own_words nodes s) w) (once_same (own_words nodes s) w)
      ∙ sym (ap (λ b. if b && not (nat_lt unit (suc k)) && nat_lt unit (end_of (Some n)) then is_one_of (own_words nodes s) w else false) some ∙ ap (λ b. if true && not b && nat_lt unit (end_of (Some n)) then is_one_of (own_words nodes s) w else false) no_less)

  kept_by : (b : Bool) (s : Scope) (ss : List Scope) → (if b then is_one_of (own_words nodes s) w else false) || is_one_of (flat_map (own_words nodes) ss) w ≡ is_one_of (flat_map (own_words nodes) (if b then s ∷ ss else ss)) w
  kept_by true s ss = sym (list_any-append (λ v. same_word v w) (own_words nodes s) (flat_map (own_words nodes) ss))
  kept_by false s ss = refl

  -- the units that begin no later
  no_later : (ss : List Scope) → ((s : Scope) → Among ss s → s.unit ≤ unit) → list_any (goes_on unit (has_own w)) (flat_map (entered nodes) ss) ≡ is_one_of (flat_map (own_words nodes) (filter (is_around nodes unit) ss)) w
  no_later [] le = refl
  no_later (s ∷ ss) le =
      list_any-append (goes_on unit (has_own w)) (entered nodes s) (flat_map (entered nodes) ss)
      ∙ ap (λ b. b || list_any (goes_on unit (has_own w)) (flat_map (entered nodes) ss)) (one_by s s.unit (node_at nodes s.unit) refl (le s (inl refl)))
      ∙ ap (λ b. (if is_around nodes unit s then is_one_of (own_words nodes s) w else false) || b) (no_later ss (λ t among. le t (inr among)))
      ∙ kept_by (is_around nodes unit s) s (filter (is_around nodes unit) ss)

  dropped_by : (a b c : Bool) (s : Scope) (ss : List Scope) → b ≡ true → (if a && not b && c then s ∷ ss else ss) ≡ ss
  dropped_by true true c s ss e = refl
  dropped_by false true c s ss e = refl
  dropped_by a false c s ss e = absurd cc

  -- those that begin behind the number aren't around it
  later_none : (ss : List Scope) → ((s : Scope) → Among ss s → unit < s.unit) → filter (is_around nodes unit) ss ≡ []
  later_none [] lt = refl
  later_none (s ∷ ss) lt =
      let less : unit < s.unit = lt s (inl refl) in
      let behind : nat_lt unit s.unit ≡ true = grind (arith, nat_tests) in
      dropped_by (nat_lt 0 s.unit) (nat_lt unit s.unit) (nat_lt unit (end_of (node_at nodes s.unit))) s (filter (is_around nodes unit) ss) behind ∙ later_none ss (λ t among. lt t (inr among))

  -- all units, of which those behind some begin behind the number
  around_words : (scopes front back : List Scope) → scopes ≡ front ++ back → ((s : Scope) → Among front s → s.unit ≤ unit) → ((s : Scope) → Among back s → unit < s.unit)
      → list_any (goes_on unit (has_own w)) (flat_map (entered nodes) front) ≡ is_one_of (shadowed nodes scopes unit) w
  around_words scopes front back are le lt =
      let kept : filter (is_around nodes unit) scopes ≡ filter (is_around nodes unit) front =
      ap (filter (is_around nodes unit)) are ∙ filter-append (is_around nodes unit) front back ∙ ap (λ ss. filter (is_around nodes unit) front ++ ss) (later_none back lt) ∙ append-nil (filter (is_around nodes unit) front) in
      no_later front le ∙ sym (ap (λ ss. is_one_of (flat_map (own_words nodes) ss) w) kept)

-- ---- the entry

only_flat : (os : List (List ℕ × Value)) → flattened (summary os) ≡ only_one os
only_flat [] = refl
only_flat (o ∷ []) = refl
only_flat (o ∷ p ∷ os) = refl

if_same : {X : Type 0} (a b : Bool) (x y z : X) → a ≡ b → y ≡ z → (if a then x else y) ≡ (if b then x else z)
if_same a b x y z e f = ap (λ (c : Bool). if c then x else y) e ∙ ap (λ v. if b then x else v) f

-- the literal of a name that may be one of those whose first bytes are marked
kept_first : (b c : Bool) (v : Value) → (b ≡ false → v ≡ None) → (if b then (if c then None else v) else None) ≡ (if c then None else v)
kept_first true c v none = refl
kept_first false true v none = refl
kept_first false false v none = sym (none refl)

no_literal : (o : Option (Option Lent)) → ((w : Lent) → o ≡ Some (Some w) → ⊥) → flattened (option_map (option_map seen_word) o) ≡ None
no_literal None never = refl
no_literal (Some None) never = refl
no_literal (Some (Some w)) never = absurd (never w refl)

-- the fixed names are those of the map
fixed_same : (nodes : List Node) (scopes : List Scope) (f : Fixed) (name : List ℕ) → IsFixed nodes scopes f → fixed_in f name ≡ fixed nodes scopes name
fixed_same nodes scopes f name is =
    kept_first (may_be f.firsts.items name) (is_one_of f.barred (name_word name)) (flattened (once_in f.once name)) (λ other. no_literal (get_by (λ key. slice_cmp nat_cmp name key.now) f.once) (is.firsts name other))
    ∙ if_same (is_one_of f.barred (name_word name)) (is_one_of (barred nodes scopes) (name_word name)) None _ _
    (ap (λ ws. is_one_of ws (name_word name)) is.barred ∙ once_same (barred nodes scopes) (name_word name))
    (ap flattened (is.once name) ∙ only_flat (filter (λ (o : List ℕ × Value). bytes_eq o.0 name) (flat_map (occurrences_of nodes) (take 1 scopes))))

-- what is shared in the file and referred to in the unit is what is hidden in it
pub hiding_is : (nodes : List Node) (s : Scope) (shared referred : List Word) → shared ≡ each_once (flat_map shared_in nodes) → referred ≡ each_once (referred_of nodes s)
    → (name : List ℕ) → is_one_of shared (name_word name) || is_one_of referred (name_word name) ≡ is_one_of (hidden_in nodes s) (name_word name)
hiding_is nodes s shared referred shared_is referred_is name =
    let w = name_word name in
    let all = flat_map shared_in nodes in
    ap (λ ws. is_one_of ws w || is_one_of referred w) shared_is ∙ ap (λ ws. is_one_of (each_once all) w || is_one_of ws w) referred_is
    ∙ ap (λ b. b || is_one_of (each_once (referred_of nodes s)) w) (once_same all w) ∙ ap (λ b. is_one_of all w || b) (once_same (referred_of nodes s) w)
    ∙ sym (list_any-append (λ v. same_word v w) all (referred_of nodes s))

-- what the entry says is what holds there
pub entry_is : (nodes : List Node) (scopes front back : List Scope) (s : Scope) (e : Entry) → scopes ≡ front ++ back → ((t : Scope) → Among front t → t.unit ≤ s.unit) → ((t : Scope) → Among back t → s.unit < t.unit)
    → e.unit ≡ s.unit → IsHiding nodes s e → IsFixed nodes scopes e.fixed.now
    → ((test : Open → Bool) → list_any test (all_functions e.around.now) ≡ list_any (goes_on s.unit test) (flat_map (entered nodes) front)) → entry_value e ≡ start_of nodes scopes s
entry_is nodes scopes front back s e are le lt unit hiding is_fixed opened = λ i name. (at name) i
  where
    shadow : (name : List ℕ) → shadows e name ≡ is_one_of (shadowed nodes scopes s.unit) (name_word name)
    shadow name =
        sym (any_map (λ (f : Function). (f.end, f.own)) (has_own (name_word name)) e.around.now) ∙ opened (has_own (name_word name))
        ∙ around_words nodes s.unit (name_word name) scopes front back are le lt

    by : (k : ℕ) (name : List ℕ) → entry_by k e name ≡ start_by k nodes scopes s name
    by zero name = refl
    by (suc k) name =
        if_same (hides e name || shadows e name) (is_one_of (hidden_in nodes s) (name_word name) || is_one_of (shadowed nodes scopes s.unit) (name_word name)) None (fixed_in e.fixed.now name) (fixed nodes scopes name)
        (ap (λ b. b || shadows e name) (hiding name) ∙ ap (λ b. is_one_of (hidden_in nodes s) (name_word name) || b) (shadow name))
        (fixed_same nodes scopes e.fixed.now name is_fixed)

    at : (name : List ℕ) → entry_value e name ≡ start_of nodes scopes s name
    at name = ap (λ k. entry_by k e name) unit ∙ by s.unit name
