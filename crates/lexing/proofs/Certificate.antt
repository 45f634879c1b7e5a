-- A table of states with what is left to read in each, checked by computing: the automaton then accepts the rules' spellings.
use Rattle.std.proofs.Common.{◌≡◌, ℕ, zero, suc, ◌<◌, Bool, true, false, ◌&&◌, ◌||◌, ◌==◌, ◌⊎◌, inl, inr, List, [], ◌∷◌, ◌++◌, refl, sym, ap, ◌∙◌, subst, arith, eqb-true}
use Rattle.std.specs.Prelude.{if◌then◌else◌, Option, Some, None}
use Rattle.std.proofs.lemmas.Bool.{and_parts}
use Rattle.std.proofs.lemmas.Bool.Decides.{nat_tests}
use Rattle.lexing.specs.Rules.{symbol, Range, To, Expression, Never, Empty, OneOf, Then, Or, Many, Matches, Rule, Spells}
use Rattle.lexing.specs.Automaton.{Table, step, word_at, accepted, Accepts}
use Rattle.lexing.proofs.Derivatives.{nullable, left_of, SomeMatches, nullable_sound, nullable_complete, left_sound, left_complete}
use Rattle.lexing.proofs.Basics.{or_cases, and_both}

-- ---- equal expressions

abbrev pub same_ranges : List Range → List Range → Bool
same_ranges [] [] = true
same_ranges (To a b ∷ rs) (To c d ∷ qs) = (a == c) && ((b == d) && same_ranges rs qs)
same_ranges [] (q ∷ qs) = false
same_ranges (r ∷ rs) [] = false

abbrev pub same : Expression → Expression → Bool
same Never Never = true
same Empty Empty = true
same (OneOf rs) (OneOf qs) = same_ranges rs qs
same (Then a b) (Then c d) = same a c && same b d
same (Or a b) (Or c d) = same a c && same b d
same (Many a) (Many b) = same a b
same _ _ = false

same_ranges_is : (rs qs : List Range) → same_ranges rs qs ≡ true → rs ≡ qs
same_ranges_is [] [] h = refl
same_ranges_is (To a b ∷ rs) (To c d ∷ qs) h =
    let p = and_parts (a == c) ((b == d) && same_ranges rs qs) h in
    let q = and_parts (b == d) (same_ranges rs qs) p.1 in
    let e : a ≡ c = eqb-true a c p.0 in
    let f : b ≡ d = eqb-true b d q.0 in
    let g = same_ranges_is rs qs q.1 in
    cc
same_ranges_is [] (q ∷ qs) h = absurd cc
same_ranges_is (r ∷ rs) [] h = absurd cc

pub same_is : (a b : Expression) → same a b ≡ true → a ≡ b
same_is Never Never h = refl
same_is Empty Empty h = refl
same_is (OneOf rs) (OneOf qs) h = ap (λ (x : List Range). OneOf x) (same_ranges_is rs qs h)
same_is (Then a b) (Then c d) h = let p = and_parts (same a c) (same b d) h in let e = same_is a c p.0 in let f = same_is b d p.1 in cc
same_is (Or a b) (Or c d) h = let p = and_parts (same a c) (same b d) h in let e = same_is a c p.0 in let f = same_is b d p.1 in cc
same_is (Many a) (Many b) h = ap (λ (x : Expression). Many x) (same_is a b h)
same_is _ _ h = absurd cc

-- ---- rules that are left

abbrev pub tagged : ℕ → List Expression → List Rule
tagged w [] = []
tagged w (r ∷ rs) = record { word = w; spelled = r } ∷ tagged w rs

abbrev pub after : ℕ → List Rule → List Rule
after y [] = []
after y (r ∷ rs) = tagged r.word (left_of y r.spelled) ++ after y rs

spells_left : (rs qs : List Rule) (w : ℕ) (cs : List ℕ) → Spells rs w cs → Spells (rs ++ qs) w cs
spells_left [] qs w cs h = absurd h
spells_left (r ∷ rs) qs w cs (inl h) = inl h
spells_left (r ∷ rs) qs w cs (inr h) = inr (spells_left rs qs w cs h)

spells_right : (rs qs : List Rule) (w : ℕ) (cs : List ℕ) → Spells qs w cs → Spells (rs ++ qs) w cs
spells_right [] qs w cs h = h
spells_right (r ∷ rs) qs w cs h = inr (spells_right rs qs w cs h)

spells_cases : (rs qs : List Rule) (w : ℕ) (cs : List ℕ) → Spells (rs ++ qs) w cs → Spells rs w cs ⊎ Spells qs w cs
spells_cases [] qs w cs h = inr h
spells_cases (r ∷ rs) qs w cs (inl h) = inl (inl h)
spells_cases (r ∷ rs) qs w cs (inr h) = elim (spells_cases rs qs w cs h) [ inl p ↦ inl (inr p) | inr q ↦ inr q ]

tagged_sound : (v : ℕ) (rs : List Expression) (w : ℕ) (cs : List ℕ) → Spells (tagged v rs) w cs → (v ≡ w) × SomeMatches rs cs
tagged_sound v [] w cs h = absurd h
tagged_sound v (r ∷ rs) w cs (inl h) = (h.0, inl h.1)
tagged_sound v (r ∷ rs) w cs (inr h) = let p = tagged_sound v rs w cs h in (p.0, inr p.1)

tagged_complete : (v : ℕ) (rs : List Expression) (w : ℕ) (cs : List ℕ) → v ≡ w → SomeMatches rs cs → Spells (tagged v rs) w cs
tagged_complete v [] w cs e h = absurd h
tagged_complete v (r ∷ rs) w cs e (inl h) = inl (e, h)
tagged_complete v (r ∷ rs) w cs e (inr h) = inr (tagged_complete v rs w cs e h)

after_sound : (rs : List Rule) (w c : ℕ) (cs : List ℕ) → Spells (after (symbol c) rs) w cs → Spells rs w (c ∷ cs)
after_sound [] w c cs h = absurd h
after_sound (r ∷ rs) w c cs h =
    elim (spells_cases (tagged r.word (left_of (symbol c) r.spelled)) (after (symbol c) rs) w cs h) [
      | inl p ↦ (let m = tagged_sound r.word (left_of (symbol c) r.spelled) w cs p in inl (m.0, left_sound r.spelled c cs m.1))
      | inr q ↦ inr (after_sound rs w c cs q)
    ]

pub after_complete : (rs : List Rule) (w c : ℕ) (cs : List ℕ) → Spells rs w (c ∷ cs) → Spells (after (symbol c) rs) w cs
after_complete [] w c cs h = absurd h
after_complete (r ∷ rs) w c cs (inl h) = spells_left (tagged r.word (left_of (symbol c) r.spelled)) (after (symbol c) rs) w cs (tagged_complete r.word (left_of (symbol c) r.spelled) w cs h.0 (left_complete r.spelled c cs h.1))
after_complete (r ∷ rs) w c cs (inr h) = spells_right (tagged r.word (left_of (symbol c) r.spelled)) (after (symbol c) rs) w cs (after_complete rs w c cs h)

-- ---- the same rules

abbrev pub same_rule : Rule → Rule → Bool
same_rule r q = (r.word == q.word) && same r.spelled q.spelled

abbrev pub has : Rule → List Rule → Bool
has r [] = false
has r (q ∷ qs) = same_rule r q || has r qs

abbrev pub within : List Rule → List Rule → Bool
within [] qs = true
within (r ∷ rs) qs = has r qs && within rs qs

has_right : (r : Rule) (qs : List Rule) (w : ℕ) (cs : List ℕ) → has r qs ≡ true → r.word ≡ w → Matches r.spelled cs → Spells qs w cs
has_right r [] w cs h e m = absurd cc
has_right r (q ∷ qs) w cs h e m =
    elim (or_cases (same_rule r q) (has r qs) h) [
      | inl p ↦ (let s = and_parts (r.word == q.word) (same r.spelled q.spelled) p in inl (sym (eqb-true r.word q.word s.0) ∙ e, subst (λ (x : Expression). Matches x cs) (same_is r.spelled q.spelled s.1) m))
      | inr o ↦ inr (has_right r qs w cs o e m)
    ]

pub within_right : (rs qs : List Rule) (w : ℕ) (cs : List ℕ) → within rs qs ≡ true → Spells rs w cs → Spells qs w cs
within_right [] qs w cs h s = absurd s
within_right (r ∷ rs) qs w cs h (inl s) = has_right r qs w cs (and_parts (has r qs) (within rs qs) h).0 s.0 s.1
within_right (r ∷ rs) qs w cs h (inr s) = within_right rs qs w cs (and_parts (has r qs) (within rs qs) h).1 s

-- ---- which word a state accepts

abbrev pub label_fits : ℕ → List Rule → Bool
label_fits n [] = true
label_fits n (r ∷ rs) = (if nullable r.spelled then n == suc r.word else true) && label_fits n rs

abbrev pub some_nullable : List Rule → Bool
some_nullable [] = false
some_nullable (r ∷ rs) = nullable r.spelled || some_nullable rs

abbrev pub labels : ℕ → List Rule → Bool
labels zero rs = label_fits zero rs
labels (suc n) rs = label_fits (suc n) rs && some_nullable rs

label_is : (n : ℕ) (rs : List Rule) (w : ℕ) → label_fits n rs ≡ true → Spells rs w [] → n ≡ suc w
label_is n [] w h s = absurd s
label_is n (r ∷ rs) w h (inl s) =
    let p = and_parts (if nullable r.spelled then n == suc r.word else true) (label_fits n rs) h in
    let e = nullable_complete r.spelled [] refl s.1 in
    let q : (n == suc r.word) ≡ true = sym (ap (λ (b : Bool). if b then n == suc r.word else true) e) ∙ p.0 in
    eqb-true n (suc r.word) q ∙ ap suc s.0
label_is n (r ∷ rs) w h (inr s) = label_is n rs w (and_parts (if nullable r.spelled then n == suc r.word else true) (label_fits n rs) h).1 s

some_spells : (rs : List Rule) → some_nullable rs ≡ true → (w : ℕ) × Spells rs w []
some_spells [] h = absurd cc
some_spells (r ∷ rs) h = elim (or_cases (nullable r.spelled) (some_nullable rs) h) [ inl p ↦ (r.word, inl (refl, nullable_sound r.spelled p)) | inr q ↦ (let s = some_spells rs q in (s.0, inr s.1)) ]

suc_is : (a b : ℕ) → suc a ≡ suc b → a ≡ b
suc_is a b e = omega arith

labels_sound : (n : ℕ) (rs : List Rule) (w : ℕ) → labels n rs ≡ true → n ≡ suc w → Spells rs w []
labels_sound zero rs w h e = absurd (omega arith)
labels_sound (suc n) rs w h e =
    let p = and_parts (label_fits (suc n) rs) (some_nullable rs) h in
    let s = some_spells rs p.1 in
    let f : s.0 ≡ w = suc_is s.0 w (sym (label_is (suc n) rs s.0 p.0 s.1) ∙ e) in
    subst (λ (x : ℕ). Spells rs x []) f s.1

labels_complete : (n : ℕ) (rs : List Rule) (w : ℕ) → labels n rs ≡ true → Spells rs w [] → n ≡ suc w
labels_complete zero rs w h s = label_is zero rs w h s
labels_complete (suc n) rs w h s = label_is (suc n) rs w (and_parts (label_fits (suc n) rs) (some_nullable rs) h).0 s

-- ---- the certificate

-- what is left to read in the state whose row begins at place
pub record Entry : Type 0 where
  pub place : ℕ
  pub left : List Rule

abbrev pub find : List Entry → ℕ → Option (List Rule)
find [] s = None
find (e ∷ es) s = if e.place == s then Some e.left else find es s

abbrev pub agrees : Option (List Rule) → List Rule → Bool
agrees None rs = false
agrees (Some qs) rs = within rs qs && within qs rs

abbrev pub all_below : (ℕ → Bool) → ℕ → Bool
all_below p zero = true
all_below p (suc n) = p n && all_below p n

abbrev pub next_right : Table → List Entry → ℕ → List Rule → ℕ → Bool
next_right m all s left y = agrees (find all (step m s y)) (after y left)

unfoldable pub row_right : Table → List Entry → ℕ → List Rule → Bool
row_right m all s left = labels (word_at m s) left && all_below (next_right m all s left) 131

abbrev pub rows_right : Table → List Entry → List Entry → Bool
rows_right m all [] = true
rows_right m all (e ∷ es) = row_right m all e.place e.left && rows_right m all es

pub below_at : (p : ℕ → Bool) (n j : ℕ) → all_below p n ≡ true → j < n → p j ≡ true
below_at p zero j h lt = absurd (omega arith)
below_at p (suc n) j h lt =
    let q = and_parts (p n) (all_below p n) h in
    let either : (j < n) ⊎ (j ≡ n) = grind arith in
    elim either [ inl below ↦ below_at p n j q.1 below | inr e ↦ subst (λ (k : ℕ). p k ≡ true) (sym e) q.0 ]

pub symbol_few : (c : ℕ) → symbol c < 131
unfolding symbol
symbol_few c = grind (arith, nat_tests)

pub found_right : (m : Table) (all es : List Entry) (s : ℕ) (left : List Rule) → rows_right m all es ≡ true → find es s ≡ Some left → row_right m all s left ≡ true
found_right m all [] s left h f = absurd cc
found_right m all (e ∷ es) s left h f = here (λ g. found_right m all es s left p.1 g) (e.place == s) refl f
  where
    p : (row_right m all e.place e.left ≡ true) × (rows_right m all es ≡ true)
    p = and_parts (row_right m all e.place e.left) (rows_right m all es) h

    here : (find es s ≡ Some left → row_right m all s left ≡ true) → (b : Bool) → (e.place == s) ≡ b → (if b then Some e.left else find es s) ≡ Some left → row_right m all s left ≡ true
    here more true t g = let q : e.left ≡ left = cc in subst (λ (x : List Rule). row_right m all s x ≡ true) q (subst (λ (x : ℕ). row_right m all x e.left ≡ true) (eqb-true e.place s t) p.0)
    here more false t g = more g

-- where a state's rules are followed to
pub record Follows (all : List Entry) (s : ℕ) (rs : List Rule) : Type 0 where
  pub left : List Rule
  pub found : find all s ≡ Some left
  pub there : within rs left ≡ true
  pub back : within left rs ≡ true

follow : (all : List Entry) (s : ℕ) (o : Option (List Rule)) (rs : List Rule) → find all s ≡ o → agrees o rs ≡ true → Follows all s rs
follow all s None rs e h = absurd cc
follow all s (Some qs) rs e h = let p = and_parts (within rs qs) (within qs rs) h in record { left = qs; found = e; there = p.0; back = p.1 }

row_labels : (m : Table) (all : List Entry) (s : ℕ) (left : List Rule) → row_right m all s left ≡ true → labels (word_at m s) left ≡ true
unfolding row_right
row_labels m all s left h = (and_parts (labels (word_at m s) left) (all_below (next_right m all s left) 131) h).0

pub row_next : (m : Table) (all : List Entry) (s : ℕ) (left : List Rule) (y : ℕ) → row_right m all s left ≡ true → y < 131 → Follows all (step m s y) (after y left)
unfolding row_right
row_next m all s left y h lt =
    let b = (and_parts (labels (word_at m s) left) (all_below (next_right m all s left) 131) h).1 in
    follow all (step m s y) (find all (step m s y)) (after y left) refl (below_at (next_right m all s left) 131 y b lt)

run_sound : (m : Table) (all : List Entry) → rows_right m all all ≡ true → (cs : List ℕ) (s : ℕ) (left : List Rule) (w : ℕ) → find all s ≡ Some left → accepted m s cs ≡ suc w → Spells left w cs
unfolding accepted
run_sound m all h [] s left w f a = labels_sound (word_at m s) left w (row_labels m all s left (found_right m all all s left h f)) a
run_sound m all h (c ∷ cs) s left w f a =
    let n = row_next m all s left (symbol c) (found_right m all all s left h f) (symbol_few c) in
    after_sound left w c cs (within_right n.left (after (symbol c) left) w cs n.back (run_sound m all h cs (step m s (symbol c)) n.left w n.found a))

run_complete : (m : Table) (all : List Entry) → rows_right m all all ≡ true → (cs : List ℕ) (s : ℕ) (left : List Rule) (w : ℕ) → find all s ≡ Some left → Spells left w cs → accepted m s cs ≡ suc w
unfolding accepted
run_complete m all h [] s left w f a = labels_complete (word_at m s) left w (row_labels m all s left (found_right m all all s left h f)) a
run_complete m all h (c ∷ cs) s left w f a =
    let n = row_next m all s left (symbol c) (found_right m all all s left h f) (symbol_few c) in
    run_complete m all h cs (step m s (symbol c)) n.left w n.found (within_right (after (symbol c) left) n.left w cs n.there (after_complete left w c cs a))

-- an automaton with a certificate accepts what the rules of its start spell
pub certified : (m : Table) (all : List Entry) (start : ℕ) (rules : List Rule) → rows_right m all all ≡ true → find all start ≡ Some rules → Accepts m start rules
certified m all start rules h f = record { sound = λ cs w a. run_sound m all h cs start rules w f a; complete = λ cs w s. run_complete m all h cs start rules w f s }

-- a certificate in parts, since one declaration may take only so many steps
pub rows_append : (m : Table) (all es fs : List Entry) → rows_right m all es ≡ true → rows_right m all fs ≡ true → rows_right m all (es ++ fs) ≡ true
rows_append m all [] fs h k = k
rows_append m all (e ∷ es) fs h k = let p = and_parts (row_right m all e.place e.left) (rows_right m all es) h in and_both (row_right m all e.place e.left) (rows_right m all (es ++ fs)) p.0 (rows_append m all es fs p.1 k)
