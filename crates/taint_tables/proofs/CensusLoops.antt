-- Loops that gather names and spans.
use Rattle.std.proofs.Common.{◌≡◌, ◌⊎◌, ◌↔◌, inl, inr, ℕ, ◌+◌, ◌<◌, Bool, true, false, List, [], ◌∷◌, ◌++◌, length, take, map, get_or, append_assoc, sym, ap, ◌∙◌, subst}
use Rattle.std.specs.Prelude.{filter, if◌then◌else◌}
use Rattle.std.specs.Borrow.{Bor}
use Rattle.std.proofs.lemmas.List.{take_more, map-append, get_or_default}
use Rattle.std.proofs.lemmas.List.Elements.{filter-append}
use Rattle.node_tree.specs.declared.span.Span.{Span}
use Rattle.graph_form.specs.Sets.{Among}
use Rattle.graph_form.proofs.Amongs.{among_app, among_push}
use Rattle.assignments.specs.declared.assignment.Target.{Target}
use Rattle.assignments.specs.Seen.{Named, seen_target, all_targets}
use Rattle.taint_tables.specs.Censuses.{texts}

-- a text is pushed
pub text_pushed : (old new : List (Bor (List ℕ))) (key : Bor (List ℕ)) → new ≡ old ++ key ∷ [] → texts new ≡ texts old ++ key.now ∷ []
text_pushed old new key is = ap texts is ∙ map-append (λ (k : Bor (List ℕ)). k.now) old (key ∷ [])

module _ {X Y Z : Type 0} (f : X → Y) (g : Y → Z) where
  -- one item more, as it is seen
  pub map_more : (xs : List X) (i : ℕ) (x : X) (first old new : List Z) → i < length xs → x ≡ get_or xs i x → old ≡ first ++ map g (map f (take i xs)) → new ≡ old ++ g (f x) ∷ [] → new ≡ first ++ map g (map f (take (i + 1) xs))
  map_more xs i x first old new lt is old_is new_is =
      let one : map g (map f (take (i + 1) xs)) ≡ map g (map f (take i xs)) ++ g (f x) ∷ [] =
      ap (λ ys. map g (map f ys)) (take_more xs i x lt ∙ ap (λ y. take i xs ++ y ∷ []) (sym is)) ∙ ap (map g) (map-append f (take i xs) (x ∷ [])) ∙ map-append g (map f (take i xs)) (f x ∷ []) in
      new_is ∙ ap (λ ys. ys ++ g (f x) ∷ []) old_is ∙ append_assoc first (map g (map f (take i xs))) (g (f x) ∷ []) ∙ ap (λ ys. first ++ ys) (sym one)

-- one target's name more
pub named_more : (targets : List Target) (i : ℕ) (d : Target) (first old new : List (Bor (List ℕ))) → i < length targets → texts old ≡ texts first ++ map (λ (t : Named). t.name) (all_targets (take i targets))
    → new ≡ old ++ (get_or targets i d).name ∷ [] → texts new ≡ texts first ++ map (λ (t : Named). t.name) (all_targets (take (i + 1) targets))
named_more targets i d first old new lt old_is new_is =
    map_more seen_target (λ (t : Named). t.name) targets i (get_or targets i d) (texts first) (texts old) (texts new) lt (get_or_default targets i d (get_or targets i d) lt) old_is (text_pushed old new (get_or targets i d).name new_is)

-- one text more
pub text_more : (xs : List (Bor (List ℕ))) (i : ℕ) (d : Bor (List ℕ)) → i < length xs → (n : List ℕ) → Among (texts (take (i + 1) xs)) n ↔ (Among (texts (take i xs)) n ⊎ ((get_or xs i d).now ≡ n))
text_more xs i d lt n =
    let one = text_pushed (take i xs) (take (i + 1) xs) (get_or xs i d) (take_more xs i d lt) in
    let P : List (List ℕ) → Type 0 = λ ns. Among ns n ↔ (Among (texts (take i xs)) n ⊎ ((get_or xs i d).now ≡ n)) in
    subst P (sym one) (among_push (texts (take i xs)) (get_or xs i d).now n)

-- one span more, if it passes a test
pub passed_more : (test : Span → Bool) (xs : List Span) (i : ℕ) (d : Span) → i < length xs → (s : Span) → Among (filter test (take (i + 1) xs)) s ↔ (Among (filter test (take i xs)) s ⊎ Among (filter test (get_or xs i d ∷ [])) s)
passed_more test xs i d lt s =
    let one : filter test (take (i + 1) xs) ≡ filter test (take i xs) ++ filter test (get_or xs i d ∷ []) = ap (filter test) (take_more xs i d lt) ∙ filter-append test (take i xs) (get_or xs i d ∷ []) in
    let P : List Span → Type 0 = λ ys. Among ys s ↔ (Among (filter test (take i xs)) s ⊎ Among (filter test (get_or xs i d ∷ [])) s) in
    subst P (sym one) (among_app (filter test (take i xs)) (filter test (get_or xs i d ∷ [])) s)

pub one_passed : (test : Span → Bool) (span : Span) → test span ≡ true → (s : Span) → Among (filter test (span ∷ [])) s ↔ (span ≡ s)
one_passed test span e s =
    let P : List Span → Type 0 = λ ys. Among ys s ↔ (span ≡ s) in
    subst P (sym (ap (λ (b : Bool). if b then span ∷ [] else []) e)) (λ h. elim h [ inl q ↦ q | inr none ↦ absurd none ], λ q. inl q)

pub none_passed : (test : Span → Bool) (span : Span) → test span ≡ false → (s : Span) → Among (filter test (span ∷ [])) s → ⊥
none_passed test span e s =
    let P : List Span → Type 0 = λ ys. Among ys s → ⊥ in
    subst P (sym (ap (λ (b : Bool). if b then span ∷ [] else []) e)) (λ none. none)
