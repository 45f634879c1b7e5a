-- The reader of a grammar, which goes by the token in hand.
use Rattle.std.specs.Prelude.{ℕ, zero, suc, Bool, true, false, cond, ◌+◌, ◌&&◌, List, [], ◌∷◌, ◌++◌, Option, Some, None}
use Rattle.grammar.specs.Rule.{Rule, done, mark, word, ref, deep, again, seq, around, alt, look, choose, opt, must, rep, make, has, Source, Table, Grammar}
use Rattle.grammar.specs.Sets.{Sets, first}

-- what is read from a place: the nodes and where they end, or nothing
abbrev pub Read : Type 0 → Type 0
Read N = ℕ → Option (List N × ℕ)

infixl 10 ◌>>=◌
abbrev pub ◌>>=◌ : {A B : Type 0} → Option A → (A → Option B) → Option B
(Some x) >>= f = f x
None >>= f = None

-- f taken n times, from x on
abbrev pub turns : {X : Type 0} → X → (X → X) → ℕ → X
turns x f zero = x
turns x f (suc n) = f (turns x f n)

-- V reads the levels at hand and those that are one step deeper, A reads the loop around, whose name is q, and a loop goes round at most m times
abbrev pub read : {K B L N : Type 0} → Source K B N → Sets L → ℕ → (Bool → L → Read N) → Read N → Option L → Rule K B L → Read N
read t S m V A q done i = Some ([], i)
read t S m V A q (mark cs) i = cond (has cs (t.cls i)) (Some ([], suc i)) None
read t S m V A q (word k cs) i = cond (has cs (t.cls i)) (Some (t.leaf k i ∷ [], suc i)) None
read t S m V A q (ref l) i = V false l i
read t S m V A q (deep l) i = V true l i
read t S m V A q again i = A i
read t S m V A q (seq r s) i = read t S m V A q r i >>= λ x. read t S m V A q s x.1 >>= λ y. Some (x.0 ++ y.0, y.1)
read t S m V A q (around cs ds r) i = cond (has cs (t.cls i)) (read t S m V A q r (suc i) >>= λ x. cond (has ds (t.cls x.1)) (Some (x.0, suc x.1)) None) None
read t S m V A q (alt r s) i = cond (has (first S q r) (t.cls i)) (read t S m V A q r i) (read t S m V A q s i)
read t S m V A q (look w cs ds b r s) i = cond (has cs (t.cls i) && has ds (t.cls (suc i))) (read t S m V A q r (suc (suc i)) >>= λ x. Some (t.build b i x.1 (t.leaf w i ∷ x.0), x.1)) (read t S m V A q s i)
read t S m V A q (choose p r s) i = cond (p t.cls i) (read t S m V A q r i) (read t S m V A q s i)
read t S m V A q (opt r) i = cond (has (first S q r) (t.cls i)) (read t S m V A q r i) (Some ([], i))
read t S m V A q (must cs r) i = cond (has cs (t.cls i)) (read t S m V A q r i) (Some ([], i))
read t S m V A q (rep l r) i = turns (λ i. None) (λ B. read t S m V B (Some l) r) m i
read t S m V A q (make b r) i = read t S m V A q r i >>= λ x. Some (t.build b i x.1 x.0, x.1)

-- the readers at hand, or those one step deeper
abbrev pub choice : {X : Type 0} → X → X → Bool → X
choice a b false = a
choice a b true = b

-- the readers of levels of rank below k, over those that are one step deeper
abbrev pub climb : {K B L N : Type 0} → Source K B N → Sets L → ℕ → Table K B L → (L → Read N) → ℕ → L → Read N
climb t S m table D zero l i = None
climb t S m table D (suc k) l i = read t S m (choice (climb t S m table D k) D) (λ i. None) None (table l) i

-- the reader of each level, where ranks are below top, with room for so many steps deeper
abbrev pub read_level : {K B L N : Type 0} → Source K B N → Sets L → ℕ → Table K B L → ℕ → ℕ → L → Read N
read_level t S m table top zero l i = None
read_level t S m table top (suc h) l i = climb t S m table (read_level t S m table top h) top l i

-- the room that suffices for all that is within a grammar's limits
abbrev pub room_of : {K B L : Type 0} → Grammar K B L → ℕ
room_of g = suc (g.most_depth + suc g.most_brackets)
