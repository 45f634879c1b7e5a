-- Grammars as data, and what a run of tokens is spelled by.
use Rattle.std.specs.Prelude.{◌≡◌, ℕ, zero, suc, pred, ◌<◌, ◌≤◌, Bool, true, false, cond, ◌||◌, List, [], ◌∷◌, ◌++◌, eqb, ltb}

-- A rule over classes of tokens, which are numbers, with names for kinds of leaf (K), builders of nodes (B) and levels (L).
pub data Rule (K B L : Type 0) : Type 0 where
  -- nothing
  done : Rule K B L
  -- a token of one of the classes, with no node
  mark : List ℕ → Rule K B L
  -- the same, as a leaf of this kind
  word : K → List ℕ → Rule K B L
  -- a level of the grammar, of lower rank
  ref : L → Rule K B L
  -- a level of the grammar that begins anew, in brackets or below a node: one step deeper
  deep : L → Rule K B L
  -- once more what the loop around goes round
  again : Rule K B L
  -- the one and then the other
  seq : Rule K B L → Rule K B L → Rule K B L
  -- an opening bracket, what stands inside, and the closing one
  around : List ℕ → List ℕ → Rule K B L → Rule K B L
  -- the one or the other, told apart by the first token
  alt : Rule K B L → Rule K B L → Rule K B L
  -- where a token of the first classes stands and then one of the second: a leaf of this kind, the mark and what follows, under the builder; else the other
  look : K → List ℕ → List ℕ → B → Rule K B L → Rule K B L → Rule K B L
  -- the first where the test holds of the classes from here on, else the second
  choose : ((ℕ → ℕ) → ℕ → Bool) → Rule K B L → Rule K B L → Rule K B L
  -- this or nothing
  opt : Rule K B L → Rule K B L
  -- this, or nothing where no token of the classes follows
  must : List ℕ → Rule K B L → Rule K B L
  -- a loop, with a level's name for its sets
  rep : L → Rule K B L → Rule K B L
  -- the nodes made by the builder of this name
  make : B → Rule K B L → Rule K B L

infixr 30 ◌·◌
-- the one and then the other
abbrev pub ◌·◌ : {K B L : Type 0} → Rule K B L → Rule K B L → Rule K B L
r · s = seq r s

infixr 20 ◌∣◌
-- the one or the other
abbrev pub ◌∣◌ : {K B L : Type 0} → Rule K B L → Rule K B L → Rule K B L
r ∣ s = alt r s

-- whether a class is in a set
abbrev pub has : List ℕ → ℕ → Bool
has [] c = false
has (d ∷ ds) c = eqb d c || has ds c

-- The tokens, by where they stand: the class of each, the leaf it makes, and the nodes made from those of the piece from one place up to another.
pub record Source (K B N : Type 0) : Type 0 where
  pub cls : ℕ → ℕ
  pub leaf : K → ℕ → N
  pub build : B → ℕ → ℕ → List N → List N

-- the rows of a grammar's table
abbrev pub Table : Type 0 → Type 0 → Type 0 → Type 0
Table K B L = L → Rule K B L

-- what `again` stands for
pub data Loop (K B L : Type 0) : Type 0 where
  outside : Loop K B L
  within : L → Rule K B L → Loop K B L

-- where the first token is of the one set, the token after it, if it is before j, isn't of the other
abbrev pub Unlike : (ℕ → ℕ) → List ℕ → List ℕ → ℕ → ℕ → Type 0
Unlike f cs ds i j = has cs (f i) ≡ true → suc i < j → has ds (f (suc i)) ≡ false

-- What a grammar means: these nodes are spelled by the tokens from i up to j.
pub data Derives {K B L N : Type 0} (t : Source K B N) (table : Table K B L) : Loop K B L → Rule K B L → List N → ℕ → ℕ → Type 0 where
  d_done : {c : Loop K B L} {xs : List N} {i j : ℕ} → xs ≡ [] → i ≡ j → Derives t table c done xs i j
  d_mark : {c : Loop K B L} {cs : List ℕ} {xs : List N} {i j : ℕ} → has cs (t.cls i) ≡ true → xs ≡ [] → j ≡ suc i → Derives t table c (mark cs) xs i j
  d_word : {c : Loop K B L} {k : K} {cs : List ℕ} {xs : List N} {i j : ℕ} → has cs (t.cls i) ≡ true → xs ≡ t.leaf k i ∷ [] → j ≡ suc i → Derives t table c (word k cs) xs i j
  d_ref : {c : Loop K B L} {l : L} {xs : List N} {i j : ℕ} → Derives t table outside (table l) xs i j → Derives t table c (ref l) xs i j
  d_deep : {c : Loop K B L} {l : L} {xs : List N} {i j : ℕ} → Derives t table outside (table l) xs i j → Derives t table c (deep l) xs i j
  d_again : {l : L} {r : Rule K B L} {xs : List N} {i j : ℕ} → Derives t table (within l r) r xs i j → Derives t table (within l r) again xs i j
  d_rep : {c : Loop K B L} {l : L} {r : Rule K B L} {xs : List N} {i j : ℕ} → Derives t table (within l r) r xs i j → Derives t table c (rep l r) xs i j
  d_seq : {c : Loop K B L} {r s : Rule K B L} {xs : List N} {i j : ℕ} (k : ℕ) (ys zs : List N) → Derives t table c r ys i k → Derives t table c s zs k j → xs ≡ ys ++ zs → Derives t table c (seq r s) xs i j
  d_around : {c : Loop K B L} {cs ds : List ℕ} {r : Rule K B L} {xs : List N} {i j : ℕ} (k : ℕ) → has cs (t.cls i) ≡ true → Derives t table c r xs (suc i) k → has ds (t.cls k) ≡ true → j ≡ suc k → Derives t table c (around cs ds r) xs i j
  d_left : {c : Loop K B L} {r s : Rule K B L} {xs : List N} {i j : ℕ} → Derives t table c r xs i j → Derives t table c (alt r s) xs i j
  d_right : {c : Loop K B L} {r s : Rule K B L} {xs : List N} {i j : ℕ} → Derives t table c s xs i j → Derives t table c (alt r s) xs i j
  d_seen : {c : Loop K B L} {w : K} {b : B} {cs ds : List ℕ} {r s : Rule K B L} {xs : List N} {i j : ℕ} (ys : List N) → has cs (t.cls i) ≡ true → has ds (t.cls (suc i)) ≡ true → Derives t table c r ys (suc (suc i)) j → xs ≡ t.build b i j (t.leaf w i ∷ ys) → Derives t table c (look w cs ds b r s) xs i j
  d_unseen : {c : Loop K B L} {w : K} {b : B} {cs ds : List ℕ} {r s : Rule K B L} {xs : List N} {i j : ℕ} → Unlike t.cls cs ds i j → Derives t table c s xs i j → Derives t table c (look w cs ds b r s) xs i j
  d_chosen : {c : Loop K B L} {p : (ℕ → ℕ) → ℕ → Bool} {r s : Rule K B L} {xs : List N} {i j : ℕ} → p t.cls i ≡ true → Derives t table c r xs i j → Derives t table c (choose p r s) xs i j
  d_unchosen : {c : Loop K B L} {p : (ℕ → ℕ) → ℕ → Bool} {r s : Rule K B L} {xs : List N} {i j : ℕ} → p t.cls i ≡ false → Derives t table c s xs i j → Derives t table c (choose p r s) xs i j
  d_without : {c : Loop K B L} {r : Rule K B L} {xs : List N} {i j : ℕ} → xs ≡ [] → i ≡ j → Derives t table c (opt r) xs i j
  d_with : {c : Loop K B L} {r : Rule K B L} {xs : List N} {i j : ℕ} → Derives t table c r xs i j → Derives t table c (opt r) xs i j
  d_barred : {c : Loop K B L} {cs : List ℕ} {r : Rule K B L} {xs : List N} {i j : ℕ} → has cs (t.cls i) ≡ false → xs ≡ [] → i ≡ j → Derives t table c (must cs r) xs i j
  d_taken : {c : Loop K B L} {cs : List ℕ} {r : Rule K B L} {xs : List N} {i j : ℕ} → Derives t table c r xs i j → Derives t table c (must cs r) xs i j
  d_make : {c : Loop K B L} {b : B} {r : Rule K B L} {xs : List N} {i j : ℕ} (ys : List N) → Derives t table c r ys i j → xs ≡ t.build b i j ys → Derives t table c (make b r) xs i j

-- A grammar, with its brackets and the limits of what is read.
pub record Grammar (K B L : Type 0) : Type 0 where
  pub table : Table K B L
  -- the classes of opening and closing brackets
  pub opens : List ℕ
  pub closes : List ℕ
  pub most_depth : ℕ
  pub most_brackets : ℕ

-- how many brackets are open behind a token of this class, before which n were
abbrev pub behind : List ℕ → List ℕ → ℕ → ℕ → ℕ
behind opens closes c n = cond (has opens c) (suc n) (cond (has closes c) (pred n) n)

-- how many brackets are open before the token at a place, counted from another on
unfoldable pub open_at : List ℕ → List ℕ → (ℕ → ℕ) → ℕ → ℕ → ℕ
open_at opens closes f from zero = zero
open_at opens closes f from (suc n) = cond (ltb n from) zero (behind opens closes (f n) (open_at opens closes f from n))

-- the smaller of two numbers
abbrev pub smaller : ℕ → ℕ → ℕ
smaller a b = cond (ltb a b) a b

-- how many brackets the token at a place stands inside: as many as are open both before and behind it, so a bracket doesn't stand inside itself
abbrev pub brackets_round : List ℕ → List ℕ → (ℕ → ℕ) → ℕ → ℕ → ℕ
brackets_round opens closes f from n = smaller (open_at opens closes f from n) (open_at opens closes f from (suc n))

-- How deep lists of nodes are: no builder drops a node, and a strong one makes what is deeper than all that it is given.
pub record Deepens {K B N : Type 0} (strong : B → Bool) (depth : List N → ℕ) (t : Source K B N) : Type 0 where
  pub left : (ys zs : List N) → depth ys ≤ depth (ys ++ zs)
  pub right : (ys zs : List N) → depth zs ≤ depth (ys ++ zs)
  pub weak : (b : B) (i j : ℕ) (ys : List N) → depth ys ≤ depth (t.build b i j ys)
  pub strict : (b : B) (i j : ℕ) (ys : List N) → strong b ≡ true → depth ys < depth (t.build b i j ys)

-- other tokens, of these classes
abbrev pub with_classes : {K B N : Type 0} → Source K B N → (ℕ → ℕ) → Source K B N
with_classes t f = record { cls = f; leaf = t.leaf; build = t.build }

-- A run from i up to j is closed where no tokens of the mode that agree up to and with the one at j have a longer run of the level from i.
abbrev pub IsClosed : {K B L N : Type 0} → Table K B L → (ℕ → Bool) → Source K B N → L → ℕ → ℕ → Type 0
IsClosed {N = N} table mode t l i j = (f : ℕ → ℕ) → ((n : ℕ) → mode (f n) ≡ true) → ((n : ℕ) → n ≤ j → t.cls n ≡ f n) → (ys : List N) (k : ℕ) → Derives (with_classes t f) table outside (table l) ys i k → k ≤ j

-- A level spells the tokens of a piece by these nodes, within the limits.
pub record IsPiece {K B L N : Type 0} (g : Grammar K B L) (depth : List N → ℕ) (t : Source K B N) (l : L) (xs : List N) (from to : ℕ) : Type 0 where
  pub spelled : Derives t g.table outside (g.table l) xs from to
  pub shallow : depth xs ≤ g.most_depth
  pub few_brackets : (n : ℕ) → from ≤ n → n < to → brackets_round g.opens g.closes t.cls from n ≤ g.most_brackets

-- The closed run of a level, with its nodes.
pub record IsRun {K B L N : Type 0} (g : Grammar K B L) (mode : ℕ → Bool) (depth : List N → ℕ) (t : Source K B N) (l : L) (xs : List N) (from to : ℕ) : Type 0 where
  pub piece : IsPiece g depth t l xs from to
  pub closed : IsClosed g.table mode t l from to
