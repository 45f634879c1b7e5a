-- What a test goes by: states, and the tokens that it looks at.
use Rattle.std.proofs.Common.{◌≡◌, ℕ, zero, suc, ◌-◌, ◌<◌, ◌≤◌, List, [], ◌∷◌, ◌++◌, refl, ap, arith, sym, ◌∙◌, inl, inr}
use Rattle.std.specs.Prelude.{Bool, true, false, cond, Option, Some, None, eqb}
use Rattle.grammar.specs.Rule.{has}
use Rattle.grammar.specs.Tests.{Move, say, go, Arm, Automaton, Tests, arm_at, step, verdict, looks, targets, arms}
use Rattle.grammar.specs.Check.{each, apart, within_set, follows, each_of, onto, calm}
use Rattle.grammar.proofs.Facts.{true_false, or_either, less_or_same, same_number, has_head, has_left, has_right, each_at, apart_holds, within_holds}

-- a test goes from a state before a token to another before a later one, and is not settled by the tokens between
pub data Comes {L : Type 0} (T : Tests L) (f : ℕ → ℕ) : ℕ → ℕ → ℕ → ℕ → Type 0 where
  here : {a i b j : ℕ} → a ≡ b → i ≡ j → Comes T f a i b j
  further : {a i b j : ℕ} (c : ℕ) → step T.automaton a (f i) ≡ go c → Comes T f c (suc i) b j → Comes T f a i b j

go_same : (a b : ℕ) → go a ≡ go b → b ≡ a
go_same a b h = cc

module _ {L : Type 0} (T : Tests L) (f : ℕ → ℕ) where
  forward : {a i b j : ℕ} → Comes T f a i b j → i ≤ j
  forward (here e s) = omega (arith, s)
  forward (further c h d) = omega (arith, forward d)

  pub split_at : {a i b j : ℕ} → Comes T f a i b j → (k : ℕ) → i ≤ k → k ≤ j → (c : ℕ) × Comes T f a i c k × Comes T f c k b j
  split_at (here {a = a} e s) k l l' = (a, here refl (omega (arith, s, l, l')), here e (omega (arith, s, l, l')))
  split_at (further {a = a} {i = i} c h d) k l l' = elim (less_or_same i k l) [
    | inl lt ↦ let x : _ = split_at d k lt l' in (x.0, further c h x.1, x.2)
    | inr eq ↦ (a, here refl eq, rw (← eq) (further c h d))
  ]

  pub same_place : {a i b j : ℕ} → Comes T f a i b j → i ≡ j → b ≡ a
  same_place (here e s) h = sym e
  same_place (further c g d) h = absurd (omega (arith, forward d, h))

  pub one_token : {a i b j : ℕ} → Comes T f a i b j → j ≡ suc i → step T.automaton a (f i) ≡ go b
  one_token (here e s) h = absurd (omega (arith, s, h))
  one_token (further c g d) h = g ∙ ap go (sym (same_place d (sym h)))

-- a token that is not settled there is one of those that are declared, and so is the state behind it
pub target_listed : (arms : List Arm) (c b : ℕ) → arm_at arms c ≡ go b → has (targets arms) b ≡ true
target_listed [] c b h = cc
target_listed (x ∷ arms) c b h = listed (has x.on c) x.move (arm_at arms c) (targets arms) h (λ e. target_listed arms c b e)
  where
    listed : (u : Bool) (m n : Move) (ts : List ℕ) → cond u m n ≡ go b → (n ≡ go b → has ts b ≡ true) → has (elim m [ say d ↦ ts | go a' ↦ a' ∷ ts ]) b ≡ true
    listed true (say d) n ts e k = cc
    listed true (go a') n ts e k = has_head a' ts b (go_same a' b e)
    listed false (say d) n ts e k = k e
    listed false (go a') n ts e k = has_right (a' ∷ []) ts b (k e)

look_listed : (arms : List Arm) (c b : ℕ) → arm_at arms c ≡ go b → has (looks arms) c ≡ true
look_listed [] c b h = cc
look_listed (x ∷ arms) c b h = listed (has x.on c) x.on x.move (arm_at arms c) (looks arms) refl h (λ e. look_listed arms c b e)
  where
    listed : (u : Bool) (cs : List ℕ) (m n : Move) (ts : List ℕ) → has cs c ≡ u → cond u m n ≡ go b → (n ≡ go b → has ts c ≡ true) → has (elim m [ say d ↦ ts | go a' ↦ cs ++ ts ]) c ≡ true
    listed true cs (say d) n ts g e k = cc
    listed true cs (go a') n ts g e k = has_left cs ts c g
    listed false cs (say d) n ts g e k = k e
    listed false cs (go a') n ts g e k = has_right cs ts c (k e)

pub has_each_of : (g : ℕ → List ℕ) (xs : List ℕ) (x y : ℕ) → has xs x ≡ true → has (g x) y ≡ true → has (each_of g xs) y ≡ true
has_each_of g [] x y h k = cc
has_each_of g (z ∷ xs) x y h k = elim (or_either (eqb z x) (has xs x) h) [
  | inl e ↦ has_left (g z) (each_of g xs) y (rw (same_number z x e) k)
  | inr m ↦ has_right (g z) (each_of g xs) y (has_each_of g xs x y m k)
]

pub has_onto : {L : Type 0} (T : Tests L) (cs : List ℕ) (a c b : ℕ) → has cs c ≡ true → step T.automaton a c ≡ go b → has (onto T cs a) b ≡ true
has_onto T cs a c b h g = has_each_of (λ d. elim (step T.automaton a d) [ say e ↦ [] | go a' ↦ a' ∷ [] ]) cs c b h (gone (step T.automaton a c) g)
  where
    gone : (m : Move) → m ≡ go b → has (elim m [ say e ↦ [] | go a' ↦ a' ∷ [] ]) b ≡ true
    gone (say e) k = cc
    gone (go a') k = has_head a' [] b (go_same a' b k)

says_there : (m : Move) → ((b : ℕ) → m ≡ go b → ⊥) → (d : Bool) × (m ≡ say d)
says_there (say d) k = (d, refl)
says_there (go b) k = absurd (k b refl)

-- in these states a test says something at each class that may follow
pub calm_says : {L : Type 0} (T : Tests L) (F : Option (List ℕ)) (bs : List ℕ) → calm T F bs ≡ true → (a c : ℕ) → has bs a ≡ true → follows F c ≡ true → (d : Bool) × (step T.automaton a c ≡ say d)
calm_says T None bs h a c k f = says_there (step T.automaton a c) (λ b g. no_look (looks (arms T.automaton a)) (each_at (λ a'. elim (looks (arms T.automaton a')) [ [] ↦ true | e ∷ es ↦ false ]) bs h a k) (look_listed (arms T.automaton a) c b g))
  where
    no_look : (cs : List ℕ) → ◌≡◌ {A = Bool} (elim cs [ [] ↦ true | e ∷ es ↦ false ]) true → has cs c ≡ true → ⊥
    no_look [] e g = cc
    no_look (x ∷ cs) e g = cc
calm_says T (Some ds) bs h a c k f = says_there (step T.automaton a c) (λ b g. true_false (has (looks (arms T.automaton a)) c) (look_listed (arms T.automaton a) c b g) (apart_holds (looks (arms T.automaton a)) ds (each_at (λ a'. apart (looks (arms T.automaton a')) ds) bs h a k) c f))

-- states stay among those that are declared
pub stays : {L : Type 0} (T : Tests L) (f : ℕ → ℕ) → each (λ a. within_set (targets (arms T.automaton a)) T.states) T.states ≡ true → {a i b j : ℕ} → Comes T f a i b j → has T.states a ≡ true → has T.states b ≡ true
stays T f steady (here e s) h = rw (← e) h
stays T f steady (further {a = a} {i = i} c g d) h = stays T f steady d (within_holds (targets (arms T.automaton a)) T.states (each_at (λ a'. within_set (targets (arms T.automaton a')) T.states) T.states steady a h) c (target_listed (arms T.automaton a) (f i) c g))

-- what a move makes a test say
abbrev pub then : Automaton → ℕ → (ℕ → ℕ) → ℕ → Move → Bool
then A n f i m = elim m [ say b ↦ b | go a' ↦ verdict A n a' f (suc i) ]

-- What a test says, by one token more.
pub test_step : (A : Automaton) (n a : ℕ) (f : ℕ → ℕ) (i : ℕ) → zero < n → verdict A n a f i ≡ then A (n - 1) f i (step A a (f i))
unfolding verdict
test_step A zero a f i h = absurd (omega arith)
test_step A (suc n) a f i h = rw one_less refl
  where
    one_less : suc n - 1 ≡ n
    one_less = omega arith

-- A test says the same of two lists that agree up to and with a place where it is settled.
pub same_verdict : {L : Type 0} (T : Tests L) (f g : ℕ → ℕ) (n a i j : ℕ) → i ≤ j → ((k : ℕ) → i ≤ k → k ≤ j → f k ≡ g k) → ((b : ℕ) → Comes T f a i b j → (d : Bool) × (step T.automaton b (f j) ≡ say d)) → verdict T.automaton n a f i ≡ verdict T.automaton n a g i
unfolding verdict
same_verdict T f g zero a i j le ag st = refl
same_verdict T f g (suc n) a i j le ag st = by (λ a' e lt. same_verdict T f g n a' (suc i) j lt (λ k l l'. ag k (omega arith) l') (λ b d. st b (further a' e d))) (step T.automaton a (f i)) refl ∙ ap (λ c. then T.automaton n g i (step T.automaton a c)) (ag i (omega arith) le)
  where
    unlike : (m : Move) (b : ℕ) (d : Bool) → m ≡ go b → m ≡ say d → ⊥
    unlike m b d h k = absurd (apart_moves (sym h ∙ k))
      where
        apart_moves : go b ≡ say d → ⊥
        apart_moves e = cc

    by : ((a' : ℕ) → step T.automaton a (f i) ≡ go a' → i < j → verdict T.automaton n a' f (suc i) ≡ verdict T.automaton n a' g (suc i)) → (m : Move) → step T.automaton a (f i) ≡ m → ◌≡◌ {A = Bool} (elim m [ say b ↦ b | go a' ↦ verdict T.automaton n a' f (suc i) ]) (elim m [ say b ↦ b | go a' ↦ verdict T.automaton n a' g (suc i) ])
    by rest (say b) e = refl
    by rest (go a') e = elim (less_or_same i j le) [
      | inl lt ↦ rest a' e lt
      | inr eq ↦ let s : _ = st a (here refl eq) in absurd (unlike (step T.automaton a (f i)) a' s.0 e (ap (λ k. step T.automaton a (f k)) eq ∙ s.1))
    ]
