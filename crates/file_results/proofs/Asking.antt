-- Questions to a search, and for which patterns they are.
use Rattle.std.proofs.Common.{◌≡◌, ◌⊎◌, inl, inr, ◌↔◌, ℕ, List, [], ◌∷◌, ◌++◌, refl, sym, subst}
use Rattle.node_tree.specs.declared.view.Pattern.{Pattern}
use Rattle.node_match.specs.Sets.{Among}
use Rattle.file_search.specs.Asked.{Asks, Asked, AsksFor}
use Rattle.running_rules.proofs.Members.{among_left, among_right, among_either}
use Rattle.file_results.specs.Asking.{AsksAmong}

-- one of the items asks for the pattern
abbrev pub SomeAsks : {X : Type 0} → (X → Pattern → Type 0) → List X → Pattern → Type 0
SomeAsks {X} Q xs p = (x : X) × Among xs x × Q x p

module _ {S : Type 0} (asks : Asks S) where
  -- ---- the patterns of a list

  -- with the patterns that are left, the search is asked for all
  abbrev pub AskedTo : List Pattern → S → ℕ → List Pattern → S → ℕ → Type 0
  AskedTo all start before left now steps = (new : S) (after : ℕ) → Asked asks left now steps new after → Asked asks all start before new after

  pub asked_start : (all left : List Pattern) (s : S) (n : ℕ) → left ≡ all → AskedTo all s n left s n
  asked_start all left s n e new after h = let P : List Pattern → Type 0 = λ ps. Asked asks ps s n new after in subst P e h

  pub asked_on : (all left rest : List Pattern) (p : Pattern) (start now next : S) (before steps more : ℕ) → AskedTo all start before left now steps → left ≡ p ∷ rest → asks p now steps next more → AskedTo all start before rest next more
  asked_on all left rest p start now next before steps more far e one new after h =
      let P : List Pattern → Type 0 = λ ps. Asked asks ps now steps new after in
      far new after (subst P (sym e) (next, more, one, h))

  pub asked_end : (all left : List Pattern) (start now : S) (before steps : ℕ) → AskedTo all start before left now steps → left ≡ [] → Asked asks all start before now steps
  asked_end all left start now before steps far e =
      let P : List Pattern → Type 0 = λ ps. Asked asks ps now steps now steps in
      far now steps (subst P (sym e) (refl, refl))

  -- ---- sets of patterns

  asked_both : (ps qs : List Pattern) (s t u : S) (a b c : ℕ) → Asked asks ps s a t b → Asked asks qs t b u c → Asked asks (ps ++ qs) s a u c
  asked_both [] qs s t u a b c (e, f) h =
      let P : S → Type 0 = λ x. Asked asks qs x b u c in
      let Q : ℕ → Type 0 = λ n. Asked asks qs s n u c in
      subst Q f (subst P e h)
  asked_both (p ∷ ps) qs s t u a b c (next, steps, one, rest) h = (next, steps, one, asked_both ps qs next t u steps b c rest h)

  pub asks_none : (P : Pattern → Type 0) (s : S) (n : ℕ) → ((p : Pattern) → P p → ⊥) → AsksFor asks P s n s n
  asks_none P s n none = record { patterns = []; all = λ p. (λ h. absurd h, λ h. absurd (none p h)); asked = (refl, refl) }

  pub asks_these : (ps : List Pattern) (P : Pattern → Type 0) (s t : S) (a b : ℕ) → Asked asks ps s a t b → ((p : Pattern) → Among ps p ↔ P p) → AsksFor asks P s a t b
  asks_these ps P s t a b asked all = record { patterns = ps; all = all; asked = asked }

  pub asks_as : (P Q : Pattern → Type 0) (s t : S) (a b : ℕ) → AsksFor asks P s a t b → ((p : Pattern) → P p ↔ Q p) → AsksFor asks Q s a t b
  asks_as P Q s t a b h same = record { patterns = h.patterns; all = λ p. (λ k. (same p).0 ((h.all p).0 k), λ q. (h.all p).1 ((same p).1 q)); asked = h.asked }

  pub asks_both : (P Q R : Pattern → Type 0) (s t u : S) (a b c : ℕ) → AsksFor asks P s a t b → AsksFor asks Q t b u c → ((p : Pattern) → (P p ⊎ Q p) ↔ R p) → AsksFor asks R s a u c
  asks_both P Q R s t u a b c one two same = record {
    patterns = one.patterns ++ two.patterns;
    all = λ p. (
      λ h. (same p).0 (elim (among_either one.patterns two.patterns p h) [ inl x ↦ inl ((one.all p).0 x) | inr y ↦ inr ((two.all p).0 y) ]),
      λ r. elim ((same p).1 r) [ inl x ↦ among_left one.patterns two.patterns p ((one.all p).1 x) | inr y ↦ among_right one.patterns two.patterns p ((two.all p).1 y) ],
    );
    asked = asked_both one.patterns two.patterns s t u a b c one.asked two.asked;
  }

  -- ---- questions for some patterns of a set

  pub some_none : (P : Pattern → Type 0) (s : S) (n : ℕ) → AsksAmong asks P s n s n
  some_none P s n = record { patterns = []; all = λ p h. absurd h; asked = (refl, refl) }

  pub some_these : (ps : List Pattern) (P : Pattern → Type 0) (s t : S) (a b : ℕ) → Asked asks ps s a t b → ((p : Pattern) → Among ps p → P p) → AsksAmong asks P s a t b
  some_these ps P s t a b asked all = record { patterns = ps; all = all; asked = asked }

  -- after these come more for another set
  pub some_more : (P Q : Pattern → Type 0) (s t u : S) (a b c : ℕ) → AsksAmong asks Q s a t b → AsksAmong asks P t b u c → ((p : Pattern) → P p → Q p) → AsksAmong asks Q s a u c
  some_more P Q s t u a b c one two within = record {
    patterns = one.patterns ++ two.patterns;
    all = λ p h. elim (among_either one.patterns two.patterns p h) [ inl x ↦ one.all p x | inr y ↦ within p (two.all p y) ];
    asked = asked_both one.patterns two.patterns s t u a b c one.asked two.asked;
  }

  -- asking again for some patterns of a set
  pub asks_again : (P Q : Pattern → Type 0) (s t u : S) (a b c : ℕ) → AsksFor asks P s a t b → AsksAmong asks Q t b u c → ((p : Pattern) → Q p → P p) → AsksFor asks P s a u c
  asks_again P Q s t u a b c one two within = record {
    patterns = one.patterns ++ two.patterns;
    all = λ p. (
      λ h. elim (among_either one.patterns two.patterns p h) [ inl x ↦ (one.all p).0 x | inr y ↦ within p (two.all p y) ],
      λ k. among_left one.patterns two.patterns p ((one.all p).1 k),
    );
    asked = asked_both one.patterns two.patterns s t u a b c one.asked two.asked;
  }

  -- ---- items that ask, one after the other

  module _ {X : Type 0} (Q : X → Pattern → Type 0) where
    -- with what the items ask for that are left, the search is asked for what all ask for
    abbrev pub AsksTo : List X → S → ℕ → List X → S → ℕ → Type 0
    AsksTo all start before left now steps = (new : S) (after : ℕ) → AsksFor asks (SomeAsks Q left) now steps new after → AsksFor asks (SomeAsks Q all) start before new after

    pub asks_start : (all left : List X) (s : S) (n : ℕ) → left ≡ all → AsksTo all s n left s n
    asks_start all left s n e new after h = let P : List X → Type 0 = λ xs. AsksFor asks (SomeAsks Q xs) s n new after in subst P e h

    next_item : (x : X) (rest : List X) (p : Pattern) → (Q x p ⊎ SomeAsks Q rest p) ↔ SomeAsks Q (x ∷ rest) p
    next_item x rest p = (
      λ h. elim h [ inl q ↦ (x, inl refl, q) | inr k ↦ (k.0, inr k.1, k.2) ],
      λ k. elim k.1 [ inl e ↦ (let P : X → Type 0 = λ y. Q y p in inl (subst P (sym e) k.2)) | inr a ↦ inr (k.0, a, k.2) ],
    )

    pub asks_on : (all left rest : List X) (x : X) (start now next : S) (before steps more : ℕ) → AsksTo all start before left now steps → left ≡ x ∷ rest → AsksFor asks (Q x) now steps next more → AsksTo all start before rest next more
    asks_on all left rest x start now next before steps more far e one new after h =
        let P : List X → Type 0 = λ xs. AsksFor asks (SomeAsks Q xs) now steps new after in
        far new after (subst P (sym e) (asks_both (Q x) (SomeAsks Q rest) (SomeAsks Q (x ∷ rest)) now next new steps more after one h (next_item x rest)))

    pub asks_end : (all left : List X) (start now : S) (before steps : ℕ) → AsksTo all start before left now steps → left ≡ [] → AsksFor asks (SomeAsks Q all) start before now steps
    asks_end all left start now before steps far e = far now steps (asks_none (SomeAsks Q left) now steps (λ p k. let P : List X → Type 0 = λ xs. Among xs k.0 in subst P e k.1))
