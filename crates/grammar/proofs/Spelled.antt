-- The working relation of a rule: it is asked of the class of the next token too, and goes by bounds.
use Rattle.std.specs.Prelude.{◌≡◌, ℕ, zero, suc, Bool, true, false, cond, List, [], ◌∷◌, ◌++◌, Option, Some, None, ◌⊎◌, ltb}
use Rattle.grammar.specs.Rule.{Rule, done, mark, word, ref, deep, again, seq, around, alt, look, choose, opt, must, rep, make, has, Source, Table}
use Rattle.grammar.specs.Sets.{Sets, nul, first, more}
use Rattle.grammar.proofs.Facts.{Apart, Within}

-- A relation says: these nodes are spelled by the tokens from .. to .., and, where a class is given, a token of it can't go on.
abbrev pub Rel : Type 0 → Type 1
Rel N = Option ℕ → List N → ℕ → ℕ → Type 0

abbrev pub Blocked : Option ℕ → List ℕ → Type 0
Blocked None cs = record {}
Blocked (Some c) cs = has cs c ≡ false

-- what the first part of a sequence is asked: the class that follows it matters only where the second part is empty
abbrev pub part : ℕ → ℕ → Option ℕ → Option ℕ
part k j o = cond (ltb k j) None o

-- where the first token is of cs, the one after it isn't of ds
abbrev pub Other : {K B N : Type 0} → Source K B N → List ℕ → List ℕ → Option ℕ → ℕ → ℕ → Type 0
Other t cs ds o i j = has cs (t.cls i) ≡ true → cond (ltb (suc i) j) (has ds (t.cls (suc i)) ≡ false) (Blocked o ds)

abbrev pub rounds : {X : Type 1} → X → (X → X) → ℕ → X
rounds x f zero = x
rounds x f (suc n) = f (rounds x f n)

abbrev pub Never : (N : Type 0) → Rel N
Never N o xs i j = record { no : zero ≡ suc zero }

-- V spells the levels at hand and those one step deeper, A the loop around; m bounds the rounds of a loop
abbrev pub Spelled : {K B L N : Type 0} → Source K B N → Sets L → ℕ → (Bool → L → Rel N) → Rel N → Option L → Rule K B L → Rel N
Spelled t S m V A q done o xs i j = (xs ≡ []) × (i ≡ j)
Spelled t S m V A q (mark cs) o xs i j = (has cs (t.cls i) ≡ true) × (xs ≡ []) × (j ≡ suc i)
Spelled t S m V A q (word k cs) o xs i j = (has cs (t.cls i) ≡ true) × (xs ≡ t.leaf k i ∷ []) × (j ≡ suc i)
Spelled t S m V A q (ref l) o xs i j = V false l o xs i j
Spelled t S m V A q (deep l) o xs i j = V true l o xs i j
Spelled t S m V A q again o xs i j = A o xs i j
Spelled {N = N} t S m V A q (seq r s) o xs i j = (k : ℕ) × (ys : List N) × (zs : List N) × Spelled t S m V A q r (part k j o) ys i k × Spelled t S m V A q s o zs k j × (xs ≡ ys ++ zs)
Spelled t S m V A q (around cs ds r) o xs i j = (k : ℕ) × (has cs (t.cls i) ≡ true) × Spelled t S m V A q r None xs (suc i) k × (has ds (t.cls k) ≡ true) × (j ≡ suc k)
Spelled t S m V A q (alt r s) o xs i j = Spelled t S m V A q r o xs i j ⊎ Spelled t S m V A q s o xs i j
Spelled {N = N} t S m V A q (look w cs ds b r s) o xs i j = ((ys : List N) × (has cs (t.cls i) ≡ true) × (has ds (t.cls (suc i)) ≡ true) × Spelled t S m V A q r o ys (suc (suc i)) j × (xs ≡ t.build b i j (t.leaf w i ∷ ys))) ⊎ (Other t cs ds o i j × Spelled t S m V A q s o xs i j)
Spelled t S m V A q (choose p r s) o xs i j = ((p t.cls i ≡ true) × Spelled t S m V A q r o xs i j) ⊎ ((p t.cls i ≡ false) × Spelled t S m V A q s o xs i j)
Spelled t S m V A q (opt r) o xs i j = ((xs ≡ []) × (i ≡ j) × Blocked o (first S q r)) ⊎ Spelled t S m V A q r o xs i j
Spelled t S m V A q (must cs r) o xs i j = ((has cs (t.cls i) ≡ false) × (xs ≡ []) × (i ≡ j)) ⊎ Spelled t S m V A q r o xs i j
Spelled {N = N} t S m V A q (rep l r) o xs i j = rounds (Never N) (λ X. Spelled t S m V X (Some l) r) m o xs i j
Spelled {N = N} t S m V A q (make b r) o xs i j = (ys : List N) × Spelled t S m V A q r o ys i j × (xs ≡ t.build b i j ys)

-- levels at hand, and levels one step deeper
abbrev pub pick : {X : Type 1} → X → X → Bool → X
pick a b false = a
pick a b true = b

-- k bounds how many levels stand in levels until one is deeper
abbrev pub Ladder : {K B L N : Type 0} → Source K B N → Sets L → ℕ → Table K B L → (L → Rel N) → ℕ → L → Rel N
Ladder {N = N} t S m table D zero l = Never N
Ladder {N = N} t S m table D (suc k) l = Spelled t S m (pick (Ladder t S m table D k) D) (Never N) None (table l)

-- h bounds how deep levels stand in levels, and top how far a ladder goes
abbrev pub Level : {K B L N : Type 0} → Source K B N → Sets L → ℕ → Table K B L → ℕ → ℕ → L → Rel N
Level {N = N} t S m table top zero l = Never N
Level {N = N} t S m table top (suc h) l = Ladder t S m table (Level t S m table top h) top l

-- what is declared of l covers the rule
pub record Covers {K B L : Type 0} (S : Sets L) (q : Option L) (l : L) (r : Rule K B L) : Type 0 where
  pub first : Within (first S q r) (S.first l)
  pub more : Within (more S q r) (S.more l)
  pub empty : nul S q r ≡ true → S.empty l ≡ true

-- one token in hand tells what comes next, wherever a rule has a choice or a part an end
abbrev pub IsClear : {K B L : Type 0} → Sets L → Option L → Rule K B L → Type 0
IsClear S q done = record {}
IsClear S q (mark cs) = record {}
IsClear S q (word k cs) = record {}
IsClear S q (ref l) = record {}
IsClear S q (deep l) = record {}
IsClear S q again = record {}
IsClear S q (seq r s) = IsClear S q r × IsClear S q s × Apart (more S q r) (first S q s)
IsClear S q (around cs ds r) = IsClear S q r × Apart (more S q r) ds
IsClear S q (alt r s) = IsClear S q r × IsClear S q s × (nul S q r ≡ false) × (nul S q s ≡ false) × Apart (first S q r) (first S q s)
IsClear S q (look w cs ds b r s) = IsClear S q r × IsClear S q s × (nul S q s ≡ false)
IsClear S q (choose p r s) = IsClear S q r × IsClear S q s
IsClear S q (opt r) = IsClear S q r × (nul S q r ≡ false)
IsClear S q (must cs r) = IsClear S q r × (nul S q r ≡ false) × Within (first S q r) cs
IsClear S q (rep l r) = IsClear S (Some l) r × Covers S (Some l) l r
IsClear S q (make b r) = IsClear S q r

-- What is declared of each level covers its rule, and each rule is clear.
pub record IsGrammar {K B L : Type 0} (S : Sets L) (table : Table K B L) : Type 0 where
  pub clear : (l : L) → IsClear S None (table l)
  pub covers : (l : L) → Covers S None l (table l)
