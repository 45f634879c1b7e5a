-- The longest spelling that meets a condition: where the longest does not meet it, leave its word out and look again.
use Rattle.std.proofs.Common.{◌≡◌, ◌≢◌, ℕ, ◌≤◌, Bool, true, false, ◌&&◌, ◌||◌, ◌==◌, inl, inr, List, [], ◌∷◌, ◌++◌, length, refl, sym, ap, ◌∙◌, subst, arith, eqb-true, eq-eqb}
use Rattle.std.specs.Prelude.{if◌then◌else◌, Some}
use Rattle.std.proofs.lemmas.Bool.{and_parts}
use Rattle.lexing.specs.Rules.{symbol, Expression, Empty, Matches, Rule, Spells, BeginsWith, BeginsWithNone}
use Rattle.lexing.specs.Automaton.{Table, step}
use Rattle.lexing.specs.Conditions.{BeginsWithSuch, BeginsWithNoneSuch, without, IsPrefixFree}
use Rattle.lexing.proofs.Derivatives.{nullable, nullable_complete}
use Rattle.lexing.proofs.Certificate.{Entry, find, rows_right, same, same_is, after, after_complete, within_right, found_right, row_next, symbol_few}
use Rattle.lexing.proofs.Basics.{or_left, or_right, and_both, cons_is}

-- ---- rules without a word

without_there : (w : ℕ) (rs : List Rule) (v : ℕ) (cs : List ℕ) → Spells (without w rs) v cs → Spells rs v cs
without_there w [] v cs h = absurd h
without_there w (r ∷ rs) v cs h = here (without_there w rs v cs) (r.word == w) h
  where
    here : (Spells (without w rs) v cs → Spells rs v cs) → (b : Bool) → Spells (if b then without w rs else r ∷ without w rs) v cs → Spells (r ∷ rs) v cs
    here more true h = inr (more h)
    here more false (inl h) = inl h
    here more false (inr h) = inr (more h)

without_back : (w : ℕ) (rs : List Rule) (v : ℕ) (cs : List ℕ) → v ≢ w → Spells rs v cs → Spells (without w rs) v cs
without_back w [] v cs ne h = absurd h
without_back w (r ∷ rs) v cs ne h = here (without_back w rs v cs ne) (r.word == w) refl h
  where
    here : (Spells rs v cs → Spells (without w rs) v cs) → (b : Bool) → (r.word == w) ≡ b → Spells (r ∷ rs) v cs → Spells (if b then without w rs else r ∷ without w rs) v cs
    here more true e (inl h) = absurd (ne (sym h.0 ∙ eqb-true r.word w e))
    here more true e (inr h) = more h
    here more false e (inl h) = inl h
    here more false e (inr h) = inr (more h)

-- ---- one front is within the other

pub record Longer (f g : List ℕ) : Type 0 where
  pub more : List ℕ
  pub parts : g ≡ f ++ more

front_within : (f r g s : List ℕ) → f ++ r ≡ g ++ s → length f ≤ length g → Longer f g
front_within [] r g s e l = record { more = g; parts = refl }
front_within (x ∷ f) r [] s e l = absurd (omega arith)
front_within (x ∷ f) r (y ∷ g) s e l =
    let h : x ≡ y = cc in
    let t : f ++ r ≡ g ++ s = cc in
    let m = front_within f r g s t (omega arith) in
    record { more = m.more; parts = cons_is y x g (f ++ m.more) (sym h) m.parts }

nothing_more : (f m : List ℕ) → m ≡ [] → f ++ m ≡ f
nothing_more [] m e = e
nothing_more (x ∷ f) m e = ap (λ (y : List ℕ). x ∷ y) (nothing_more f m e)

-- ---- looking again

pub such_here : (V : ℕ → List ℕ → Type 0) (rules : List Rule) (cs : List ℕ) (w : ℕ) (f r : List ℕ) → BeginsWith rules cs w f r → V w f → BeginsWithSuch V rules cs w f r
such_here V rules cs w f r b v = record { parts = b.parts; spells = b.spells; such = v; longest = λ u longer after sp _ e. b.longest u longer after sp e }

pub none_here : (V : ℕ → List ℕ → Type 0) (rules : List Rule) (cs : List ℕ) → BeginsWithNone rules cs → BeginsWithNoneSuch V rules cs
none_here V rules cs n v f r sp _ e = n v f r sp e

-- a spelling that meets the condition has another word than the longest, which does not
other_word : (V : ℕ → List ℕ → Type 0) (rules : List Rule) (cs : List ℕ) (w : ℕ) (f r : List ℕ) (u : ℕ) (g s : List ℕ) → BeginsWith rules cs w f r → (V w f → ⊥) → IsPrefixFree rules w → Spells rules u g → V u g → cs ≡ g ++ s → u ≢ w
other_word V rules cs w f r u g s b not free sp such e is =
    let gw : Spells rules w g = subst (λ (x : ℕ). Spells rules x g) is sp in
    let m = front_within g s f r (sym e ∙ b.parts) (b.longest u g s sp e) in
    let none : m.more ≡ [] = free g m.more gw (subst (λ (x : List ℕ). Spells rules w x) m.parts b.spells) in
    let same : g ≡ f = sym (m.parts ∙ nothing_more g m.more none) in
    not (subst (λ (x : List ℕ). V w x) same (subst (λ (x : ℕ). V x g) is such))

pub passed : (V : ℕ → List ℕ → Type 0) (rules : List Rule) (cs : List ℕ) (w : ℕ) (f r : List ℕ) (v : ℕ) (g s : List ℕ) → BeginsWith rules cs w f r → (V w f → ⊥) → IsPrefixFree rules w → BeginsWithSuch V (without w rules) cs v g s → BeginsWithSuch V rules cs v g s
passed V rules cs w f r v g s b not free t = record {
  parts = t.parts;
  spells = without_there w rules v g t.spells;
  such = t.such;
  longest = λ u longer after sp such e. t.longest u longer after (without_back w rules u longer (other_word V rules cs w f r u longer after b not free sp such e) sp) such e;
}

pub passed_none : (V : ℕ → List ℕ → Type 0) (rules : List Rule) (cs : List ℕ) (w : ℕ) (f r : List ℕ) → BeginsWith rules cs w f r → (V w f → ⊥) → IsPrefixFree rules w → BeginsWithNoneSuch V (without w rules) cs → BeginsWithNoneSuch V rules cs
passed_none V rules cs w f r b not free none u g s sp such e = none u g s (without_back w rules u g (other_word V rules cs w f r u g s b not free sp such e) sp) such e

-- ---- a word that ends where it first may, by the certificate

abbrev pub ends_here : ℕ → List Rule → Bool
ends_here w [] = false
ends_here w (r ∷ rs) = ((r.word == w) && nullable r.spelled) || ends_here w rs

abbrev pub nothing_left : ℕ → List Rule → Bool
nothing_left w [] = true
nothing_left w (r ∷ rs) = (if r.word == w then same r.spelled Empty else true) && nothing_left w rs

unfoldable pub closed : ℕ → List Entry → Bool
closed w [] = true
closed w (e ∷ es) = (if ends_here w e.left then nothing_left w e.left else true) && closed w es

ends_if : (w : ℕ) (rs : List Rule) → Spells rs w [] → ends_here w rs ≡ true
ends_if w [] h = absurd h
ends_if w (r ∷ rs) (inl h) = or_left ((r.word == w) && nullable r.spelled) (ends_here w rs) (and_both (r.word == w) (nullable r.spelled) (eq-eqb r.word w h.0) (nullable_complete r.spelled [] refl h.1))
ends_if w (r ∷ rs) (inr h) = or_right ((r.word == w) && nullable r.spelled) (ends_here w rs) (ends_if w rs h)

nothing_if : (w : ℕ) (rs : List Rule) (x : List ℕ) → nothing_left w rs ≡ true → Spells rs w x → x ≡ []
nothing_if w [] x h s = absurd s
nothing_if w (r ∷ rs) x h (inl s) =
    let p = and_parts (if r.word == w then same r.spelled Empty else true) (nothing_left w rs) h in
    let t : same r.spelled Empty ≡ true = sym (ap (λ (b : Bool). if b then same r.spelled Empty else true) (eq-eqb r.word w s.0)) ∙ p.0 in
    subst (λ (e : Expression). Matches e x) (same_is r.spelled Empty t) s.1
nothing_if w (r ∷ rs) x h (inr s) = nothing_if w rs x (and_parts (if r.word == w then same r.spelled Empty else true) (nothing_left w rs) h).1 s

closed_found : (w : ℕ) (es : List Entry) (s : ℕ) (left : List Rule) → closed w es ≡ true → find es s ≡ Some left → (if ends_here w left then nothing_left w left else true) ≡ true
unfolding closed
closed_found w [] s left h f = absurd cc
closed_found w (e ∷ es) s left h f = here (λ g. closed_found w es s left p.1 g) (e.place == s) f
  where
    p : ((if ends_here w e.left then nothing_left w e.left else true) ≡ true) × (closed w es ≡ true)
    p = and_parts (if ends_here w e.left then nothing_left w e.left else true) (closed w es) h

    here : (find es s ≡ Some left → (if ends_here w left then nothing_left w left else true) ≡ true) → (b : Bool) → (if b then Some e.left else find es s) ≡ Some left → (if ends_here w left then nothing_left w left else true) ≡ true
    here more true g = let q : e.left ≡ left = cc in subst (λ (x : List Rule). (if ends_here w x then nothing_left w x else true) ≡ true) q p.0
    here more false g = more g

-- the state that characters lead to
pub record Reached (all : List Entry) (left₀ : List Rule) (cs : List ℕ) : Type 0 where
  pub state : ℕ
  pub left : List Rule
  pub found : find all state ≡ Some left
  pub follows : (w : ℕ) (x : List ℕ) → Spells left₀ w (cs ++ x) → Spells left w x

reach : (m : Table) (all : List Entry) → rows_right m all all ≡ true → (cs : List ℕ) (s : ℕ) (left : List Rule) → find all s ≡ Some left → Reached all left cs
reach m all h [] s left f = record { state = s; left = left; found = f; follows = λ w x sp. sp }
reach m all h (c ∷ cs) s left f =
    let n = row_next m all s left (symbol c) (found_right m all all s left h f) (symbol_few c) in
    let r = reach m all h cs (step m s (symbol c)) n.left n.found in
    record { state = r.state; left = r.left; found = r.found; follows = λ w x sp. r.follows w x (within_right (after (symbol c) left) n.left w (cs ++ x) n.there (after_complete left w c (cs ++ x) sp)) }

pub prefix_free : (m : Table) (all : List Entry) (start : ℕ) (rules : List Rule) (w : ℕ) → rows_right m all all ≡ true → closed w all ≡ true → find all start ≡ Some rules → IsPrefixFree rules w
prefix_free m all start rules w h c f xs x p q =
    let r = reach m all h xs start rules f in
    let here : Spells r.left w [] = r.follows w [] (subst (λ (y : List ℕ). Spells rules w y) (sym (nothing_more xs [] refl)) p) in
    let t : nothing_left w r.left ≡ true = sym (ap (λ (b : Bool). if b then nothing_left w r.left else true) (ends_if w r.left here)) ∙ closed_found w all r.state r.left c r.found in
    nothing_if w r.left x t (r.follows w x q)
