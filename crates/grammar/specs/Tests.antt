-- Tests that look ahead, as data: what a rule with `choose` goes by.
use Rattle.std.specs.Prelude.{◌≡◌, ◌≤◌, ℕ, zero, suc, Bool, true, false, cond, List, [], ◌∷◌, ◌++◌, Option, Some, None, get_or}
use Rattle.grammar.specs.Rule.{Rule, done, mark, word, ref, deep, again, seq, around, alt, look, choose, opt, must, rep, make, has}

-- What a test does at a token: it is settled, or it looks on at the next one, in another state.
pub data Move : Type 0 where
  say : Bool → Move
  go : ℕ → Move

-- what is done at the classes of a set
pub record Arm : Type 0 where
  pub on : List ℕ
  pub move : Move

infixr 25 ◌⇒◌
-- at these classes this move
abbrev pub ◌⇒◌ : List ℕ → Move → Arm
cs ⇒ m = record { on = cs; move = m }

-- what is done in a state; at a class that no arm has, a test says no
abbrev pub State : Type 0
State = List Arm

-- The tests of a table, one automaton for all of them.
pub record Automaton : Type 0 where
  -- its states, numbered from 0 on
  pub states : List State
  -- at how many tokens a test looks; then it says no
  pub most : ℕ

-- What is declared of the tests of a table.
pub record Tests (L : Type 0) : Type 0 where
  pub automaton : Automaton
  -- the numbers of its states
  pub states : List ℕ
  -- the state in which the tests of a level's row begin
  pub start : L → Option ℕ
  -- the states in which a test that was in a state before a level, or a loop, may still look on behind it
  pub after : L → ℕ → List ℕ
  -- the classes that may stand behind a level, or a loop; None where any may, and only there closed runs are promised
  pub follow : L → Option (List ℕ)

abbrev pub arm_at : List Arm → ℕ → Move
arm_at [] c = say false
arm_at (a ∷ arms) c = cond (has a.on c) a.move (arm_at arms c)

abbrev pub arms : Automaton → ℕ → State
arms A a = get_or A.states a []

-- what a test does in a state at a class
abbrev pub step : Automaton → ℕ → ℕ → Move
step A a c = arm_at (arms A a) c

-- What a test says that is in a state before a token, of the classes from there on; it looks at n of them at most.
unfoldable pub verdict : Automaton → ℕ → ℕ → (ℕ → ℕ) → ℕ → Bool
verdict A zero a f i = false
verdict A (suc n) a f i = elim (step A a (f i)) [ say b ↦ b | go a' ↦ verdict A n a' f (suc i) ]

-- The test that begins in a state, for `choose`.
abbrev pub test : Automaton → ℕ → (ℕ → ℕ) → ℕ → Bool
test A a = verdict A A.most a

-- what a word alone tells of a test
abbrev pub judge : Automaton → ℕ → ℕ → List ℕ → Option Bool
judge A zero a w = None
judge A (suc n) a [] = None
judge A (suc n) a (c ∷ w) = elim (step A a c) [ say b ↦ Some b | go a' ↦ judge A n a' w ]

abbrev pub is_same : Bool → Option Bool → Bool
is_same b None = false
is_same true (Some c) = c
is_same false (Some c) = cond c false true

-- whether the test says this of each list that begins with the word
abbrev pub says : Automaton → Option ℕ → Bool → List ℕ → Bool
says A None b w = false
says A (Some a) b w = is_same b (judge A A.most a w)

-- the classes at which an arm looks on
abbrev pub looks : List Arm → List ℕ
looks [] = []
looks (a ∷ arms) = elim a.move [ say b ↦ looks arms | go a' ↦ a.on ++ looks arms ]

-- the states to which an arm goes
abbrev pub targets : List Arm → List ℕ
targets [] = []
targets (a ∷ arms) = elim a.move [ say b ↦ targets arms | go a' ↦ a' ∷ targets arms ]

-- the tests in a rule
abbrev pub tests : {K B L : Type 0} → Rule K B L → List ((ℕ → ℕ) → ℕ → Bool)
tests done = []
tests (mark cs) = []
tests (word k cs) = []
tests (ref l) = []
tests (deep l) = []
tests again = []
tests (seq r s) = tests r ++ tests s
tests (around cs ds r) = tests r
tests (alt r s) = tests r ++ tests s
tests (look k cs ds b r s) = tests r ++ tests s
tests (choose p r s) = p ∷ (tests r ++ tests s)
tests (opt r) = tests r
tests (must cs r) = tests r
tests (rep l r) = tests r
tests (make b r) = tests r

-- a function is the test that begins in this state; it looks at least at as many tokens as the automaton says
abbrev pub IsTest : {L : Type 0} → Tests L → Option ℕ → ((ℕ → ℕ) → ℕ → Bool) → Type 0
IsTest T None p = record {}
IsTest T (Some a) p = (n : ℕ) × (T.automaton.most ≤ n) × ((f : ℕ → ℕ) (i : ℕ) → p f i ≡ verdict T.automaton n a f i)

abbrev pub AllTests : (((ℕ → ℕ) → ℕ → Bool) → Type 0) → List ((ℕ → ℕ) → ℕ → Bool) → Type 0
AllTests Q [] = record {}
AllTests Q (p ∷ ps) = Q p × AllTests Q ps

-- Each test in a row is the one that is declared of it.
abbrev pub Declared : {K B L : Type 0} → Tests L → L → Rule K B L → Type 0
Declared T l r = AllTests (IsTest T (T.start l)) (tests r)

-- A table without tests.
abbrev pub no_tests : {L : Type 0} → Tests L
no_tests = record { automaton = record { states = []; most = 0 }; states = []; start = λ l. None; after = λ l a. []; follow = λ l. None }
