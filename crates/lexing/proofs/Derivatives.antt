-- What is left of an expression once a character is read (Antimirov's partial derivatives), and that it is right.
use Rattle.std.proofs.Common.{◌≡◌, ℕ, Bool, true, false, ◌&&◌, ◌||◌, ◌⊎◌, inl, inr, List, [], ◌∷◌, ◌++◌, refl, sym, ap, ◌∙◌, subst}
use Rattle.std.specs.Prelude.{if◌then◌else◌}
use Rattle.std.specs.List.{concat, AllByRecursion}
use Rattle.std.proofs.lemmas.Bool.{and_parts}
use Rattle.lexing.specs.Rules.{symbol, Range, among, Expression, Never, Empty, OneOf, Then, Or, Many, Matches}
use Rattle.lexing.proofs.Basics.{or_cases, or_left, or_right, and_both, no_front, no_back, head_is, tail_is}

-- the empty spelling is one of the expression's
abbrev pub nullable : Expression → Bool
nullable Never = false
nullable Empty = true
nullable (OneOf rs) = false
nullable (Then a b) = nullable a && nullable b
nullable (Or a b) = nullable a || nullable b
nullable (Many a) = true

abbrev pub before : Expression → Expression → Expression
before Empty b = b
before Never b = Then Never b
before (OneOf rs) b = Then (OneOf rs) b
before (Then a c) b = Then (Then a c) b
before (Or a c) b = Then (Or a c) b
before (Many a) b = Then (Many a) b

abbrev pub befores : List Expression → Expression → List Expression
befores [] b = []
befores (a ∷ rs) b = before a b ∷ befores rs b

abbrev pub left_of : ℕ → Expression → List Expression
left_of y Never = []
left_of y Empty = []
left_of y (OneOf rs) = if among rs y then Empty ∷ [] else []
left_of y (Then a b) = befores (left_of y a) b ++ (if nullable a then left_of y b else [])
left_of y (Or a b) = left_of y a ++ left_of y b
left_of y (Many a) = befores (left_of y a) (Many a)

abbrev pub SomeMatches : List Expression → List ℕ → Type 0
SomeMatches [] cs = ⊥
SomeMatches (r ∷ rs) cs = Matches r cs ⊎ SomeMatches rs cs

pub nullable_sound : (r : Expression) → nullable r ≡ true → Matches r []
nullable_sound Never h = absurd cc
nullable_sound Empty h = refl
nullable_sound (OneOf rs) h = absurd cc
nullable_sound (Then a b) h = let p = and_parts (nullable a) (nullable b) h in ([], [], refl, nullable_sound a p.0, nullable_sound b p.1)
nullable_sound (Or a b) h = elim (or_cases (nullable a) (nullable b) h) [ inl p ↦ inl (nullable_sound a p) | inr q ↦ inr (nullable_sound b q) ]
nullable_sound (Many a) h = ([], refl, tt)

pub nullable_complete : (r : Expression) (cs : List ℕ) → cs ≡ [] → Matches r cs → nullable r ≡ true
nullable_complete Never cs n h = absurd h
nullable_complete Empty cs n h = refl
nullable_complete (OneOf rs) cs n (c, e, h) = absurd cc
nullable_complete (Then a b) cs n (u, v, e, p, q) = and_both (nullable a) (nullable b) (nullable_complete a u (no_front u v (sym n ∙ e)) p) (nullable_complete b v (no_back u v (sym n ∙ e)) q)
nullable_complete (Or a b) cs n (inl p) = or_left (nullable a) (nullable b) (nullable_complete a cs n p)
nullable_complete (Or a b) cs n (inr q) = or_right (nullable a) (nullable b) (nullable_complete b cs n q)
nullable_complete (Many a) cs n h = refl

-- ---- some of several

some_left : (rs qs : List Expression) (cs : List ℕ) → SomeMatches rs cs → SomeMatches (rs ++ qs) cs
some_left [] qs cs h = absurd h
some_left (r ∷ rs) qs cs (inl h) = inl h
some_left (r ∷ rs) qs cs (inr h) = inr (some_left rs qs cs h)

some_right : (rs qs : List Expression) (cs : List ℕ) → SomeMatches qs cs → SomeMatches (rs ++ qs) cs
some_right [] qs cs h = h
some_right (r ∷ rs) qs cs h = inr (some_right rs qs cs h)

some_cases : (rs qs : List Expression) (cs : List ℕ) → SomeMatches (rs ++ qs) cs → SomeMatches rs cs ⊎ SomeMatches qs cs
some_cases [] qs cs h = inr h
some_cases (r ∷ rs) qs cs (inl h) = inl (inl h)
some_cases (r ∷ rs) qs cs (inr h) = elim (some_cases rs qs cs h) [ inl p ↦ inl (inr p) | inr q ↦ inr q ]

before_sound : (a b : Expression) (cs : List ℕ) → Matches (before a b) cs → Matches (Then a b) cs
before_sound Empty b cs h = ([], cs, refl, refl, h)
before_sound Never b cs h = h
before_sound (OneOf rs) b cs h = h
before_sound (Then a c) b cs h = h
before_sound (Or a c) b cs h = h
before_sound (Many a) b cs h = h

before_complete : (a b : Expression) (cs : List ℕ) → Matches (Then a b) cs → Matches (before a b) cs
before_complete Empty b cs (u, v, e, p, q) = subst (λ (x : List ℕ). Matches b x) (sym (e ∙ ap (λ (x : List ℕ). x ++ v) p)) q
before_complete Never b cs h = h
before_complete (OneOf rs) b cs h = h
before_complete (Then a c) b cs h = h
before_complete (Or a c) b cs h = h
before_complete (Many a) b cs h = h

pub record Halves (P Q : List ℕ → Type 0) (cs : List ℕ) : Type 0 where
  pub first : List ℕ
  pub second : List ℕ
  pub parts : cs ≡ first ++ second
  pub is_first : P first
  pub is_second : Q second

befores_sound : (rs : List Expression) (b : Expression) (cs : List ℕ) → SomeMatches (befores rs b) cs → Halves (SomeMatches rs) (Matches b) cs
befores_sound [] b cs h = absurd h
befores_sound (a ∷ rs) b cs (inl h) = let m = before_sound a b cs h in record { first = m.0; second = m.1; parts = m.2; is_first = inl m.3; is_second = m.4 }
befores_sound (a ∷ rs) b cs (inr h) = let m = befores_sound rs b cs h in record { first = m.first; second = m.second; parts = m.parts; is_first = inr m.is_first; is_second = m.is_second }

befores_complete : (rs : List Expression) (b : Expression) (cs u v : List ℕ) → cs ≡ u ++ v → SomeMatches rs u → Matches b v → SomeMatches (befores rs b) cs
befores_complete [] b cs u v e p q = absurd p
befores_complete (a ∷ rs) b cs u v e (inl p) q = inl (before_complete a b cs (u, v, e, p, q))
befores_complete (a ∷ rs) b cs u v e (inr p) q = inr (befores_complete rs b cs u v e p q)

-- ---- sound

one_sound : (b : Bool) (rs : List Range) (c : ℕ) (cs : List ℕ) → among rs (symbol c) ≡ b → SomeMatches (if b then Empty ∷ [] else []) cs → Matches (OneOf rs) (c ∷ cs)
one_sound true rs c cs e (inl h) = (c, ap (λ (x : List ℕ). c ∷ x) h, e)
one_sound true rs c cs e (inr h) = absurd h
one_sound false rs c cs e h = absurd h

if_sound : (b : Bool) (rs : List Expression) (cs : List ℕ) → SomeMatches (if b then rs else []) cs → (b ≡ true) × SomeMatches rs cs
if_sound true rs cs h = (refl, h)
if_sound false rs cs h = absurd h

pub left_sound : (r : Expression) (c : ℕ) (cs : List ℕ) → SomeMatches (left_of (symbol c) r) cs → Matches r (c ∷ cs)
left_sound Never c cs h = absurd h
left_sound Empty c cs h = absurd h
left_sound (OneOf rs) c cs h = one_sound (among rs (symbol c)) rs c cs refl h
left_sound (Then a b) c cs h =
    elim (some_cases (befores (left_of (symbol c) a) b) (if nullable a then left_of (symbol c) b else []) cs h) [
      | inl p ↦ (let m = befores_sound (left_of (symbol c) a) b cs p in (c ∷ m.first, m.second, ap (λ (x : List ℕ). c ∷ x) m.parts, left_sound a c m.first m.is_first, m.is_second))
      | inr q ↦ (let m = if_sound (nullable a) (left_of (symbol c) b) cs q in ([], c ∷ cs, refl, nullable_sound a m.0, left_sound b c cs m.1))
    ]
left_sound (Or a b) c cs h = elim (some_cases (left_of (symbol c) a) (left_of (symbol c) b) cs h) [ inl p ↦ inl (left_sound a c cs p) | inr q ↦ inr (left_sound b c cs q) ]
left_sound (Many a) c cs h =
    let m = befores_sound (left_of (symbol c) a) (Many a) cs h in
    let rest = m.is_second in
    ((c ∷ m.first) ∷ rest.0, ap (λ (x : List ℕ). c ∷ x) (m.parts ∙ ap (λ (x : List ℕ). m.first ++ x) rest.1), (left_sound a c m.first m.is_first, rest.2))

-- ---- complete

one_complete : (b : Bool) (cs : List ℕ) → b ≡ true → cs ≡ [] → SomeMatches (if b then Empty ∷ [] else []) cs
one_complete true cs t e = inl e
one_complete false cs t e = absurd cc

if_complete : (b : Bool) (rs : List Expression) (cs : List ℕ) → b ≡ true → SomeMatches rs cs → SomeMatches (if b then rs else []) cs
if_complete true rs cs t h = h
if_complete false rs cs t h = absurd cc

abbrev pub Complete : Expression → Type 0
Complete r = (c : ℕ) (cs : List ℕ) → Matches r (c ∷ cs) → SomeMatches (left_of (symbol c) r) cs

then_complete : (a b : Expression) → Complete a → Complete b → (c : ℕ) (cs u v : List ℕ) → c ∷ cs ≡ u ++ v → Matches a u → Matches b v → SomeMatches (left_of (symbol c) (Then a b)) cs
then_complete a b ca cb c cs [] v e p q =
    some_right (befores (left_of (symbol c) a) b) (if nullable a then left_of (symbol c) b else []) cs
    (if_complete (nullable a) (left_of (symbol c) b) cs (nullable_complete a [] refl p) (cb c cs (subst (λ (x : List ℕ). Matches b x) (sym e) q)))
then_complete a b ca cb c cs (x ∷ u) v e p q =
    some_left (befores (left_of (symbol c) a) b) (if nullable a then left_of (symbol c) b else []) cs
    (befores_complete (left_of (symbol c) a) b cs u v (tail_is c x cs (u ++ v) e) (ca c u (subst (λ (y : ℕ). Matches a (y ∷ u)) (sym (head_is c x cs (u ++ v) e)) p)) q)

many_complete : (a : Expression) → Complete a → (c : ℕ) (cs : List ℕ) (parts : List (List ℕ)) → c ∷ cs ≡ concat parts → AllByRecursion (Matches a) parts → SomeMatches (left_of (symbol c) (Many a)) cs
many_complete a ca c cs [] e all = absurd cc
many_complete a ca c cs ([] ∷ ps) e all = many_complete a ca c cs ps e all.1
many_complete a ca c cs ((x ∷ u) ∷ ps) e all =
    befores_complete (left_of (symbol c) a) (Many a) cs u (concat ps) (tail_is c x cs (u ++ concat ps) e) (ca c u (subst (λ (y : ℕ). Matches a (y ∷ u)) (sym (head_is c x cs (u ++ concat ps) e)) all.0)) (ps, refl, all.1)

pub left_complete : (r : Expression) → Complete r
left_complete Never c cs h = absurd h
left_complete Empty c cs h = absurd cc
left_complete (OneOf rs) c cs (d, e, h) = one_complete (among rs (symbol c)) cs (ap (λ (x : ℕ). among rs (symbol x)) (head_is c d cs [] e) ∙ h) (tail_is c d cs [] e)
left_complete (Then a b) c cs (u, v, e, p, q) = then_complete a b (left_complete a) (left_complete b) c cs u v e p q
left_complete (Or a b) c cs (inl p) = some_left (left_of (symbol c) a) (left_of (symbol c) b) cs (left_complete a c cs p)
left_complete (Or a b) c cs (inr q) = some_right (left_of (symbol c) a) (left_of (symbol c) b) cs (left_complete b c cs q)
left_complete (Many a) c cs (parts, e, all) = many_complete a (left_complete a) c cs parts e all
