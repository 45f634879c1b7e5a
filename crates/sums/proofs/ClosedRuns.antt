-- What is read of a level is the closed run, and the closed run is what is read.
use Rattle.std.proofs.Common.{Option, ◌≡◌, ℕ, suc, ◌+◌, ◌<◌, ◌≤◌, List, [], ◌∷◌, length, refl, arith, sym, ◌∙◌, inl, inr, add-one, Some, None}
use Rattle.std.proofs.lemmas.List.{get_or_past}
use Rattle.std.specs.Prelude.{Bool, true, false, leb, ◌⊎◌}
use Rattle.sums.specs.declared.token.Token.{Token}
use Rattle.sums.specs.declared.reader.ReadFault.{ReadFault}
use Rattle.sums.specs.declared.reader.ReadFault.TheVariants as faults
use Rattle.sums.specs.declared.runs.Start.{Start}
use Rattle.sums.specs.declared.runs.Start.TheVariants as starts
use Rattle.grammar.specs.Rule.{has, open_at, behind, smaller}
use Rattle.sums.specs.Token.{class, token_at, end_token}
use Rattle.sums.specs.Tree.{Tree, depth, depth_all}
use Rattle.sums.specs.Table.{Level, Text, grammar}
use Rattle.sums.specs.Build.{source}
use Rattle.sums.specs.Sets.{sets, ranks, tests}
use Rattle.sums.specs.Reading.{level, of_text, of_pattern, level_of, IsRunOf, IsText, IsWhole, Fails, round_at}
use Rattle.grammar.proofs.Facts.{none_some, some_pair}
use Rattle.grammar.proofs.Counts.{count_step, count_start}
use Rattle.grammar.proofs.Theorem.{read_forward, read_piece, piece_read, read_run_tests, run_read_tests}
use Rattle.sums.proofs.Passes.{pass, close, close_text, declared}
use Rattle.sums.proofs.Depths.{deepens}

-- closed runs are promised of the levels that are read
shut : (s : Start) → ranks.shut (level_of s) ≡ true
shut starts.Exprs = refl
shut starts.Text = refl
shut starts.Cast = refl

free : (s : Start) → tests.follow (level_of s) ≡ None
free starts.Exprs = refl
free starts.Text = refl
free starts.Cast = refl

-- what is read, within the limits, is a closed run
pub read_is_run : (s : Start) (ts : List Token) (i : ℕ) (t : Tree) (j : ℕ) → level ts 1002 (level_of s) i ≡ Some (t ∷ [], j) → j ≤ length ts → depth t ≤ 500 → ((n : ℕ) → i ≤ n → n < j → round_at ts i n ≤ 500) → IsRunOf of_pattern s ts i t j
unfolding level round_at
read_is_run s ts i t j h within shallow few = record {
  within = within;
  run = read_run_tests grammar sets ranks pass depth_all (source ts) (deepens ts) (suc (length ts)) tests declared of_pattern 12 close 1002 (level_of s) (t ∷ []) i j (shut s) (free s) h (omega (arith, shallow)) few;
}

-- each closed run of a pattern is read
pub run_is_read : (s : Start) (ts : List Token) (i : ℕ) (t : Tree) (j : ℕ) → IsRunOf of_pattern s ts i t j → level ts 1002 (level_of s) i ≡ Some (t ∷ [], j)
unfolding level
run_is_read s ts i t j r = run_read_tests grammar sets ranks pass depth_all (source ts) (deepens ts) (suc (length ts)) tests declared of_pattern 12 close (level_of s) (t ∷ []) i j (shut s) (free s) refl (λ n. refl) r.run (omega (arith, r.within))

-- and each of a text, where texts alone count
pub text_is_read : (s : Start) (ts : List Token) (i : ℕ) (t : Tree) (j : ℕ) → IsText ts → IsRunOf of_text s ts i t j → level ts 1002 (level_of s) i ≡ Some (t ∷ [], j)
unfolding level class
text_is_read s ts i t j all r = run_read_tests grammar sets ranks pass depth_all (source ts) (deepens ts) (suc (length ts)) tests declared of_text 12 close_text (level_of s) (t ∷ []) i j (shut s) (free s) refl all r.run (omega (arith, r.within))

pub forward : (s : Start) (ts : List Token) (i : ℕ) (t : Tree) (j : ℕ) → level ts 1002 (level_of s) i ≡ Some (t ∷ [], j) → i ≤ j
unfolding level
forward s ts i t j h = read_forward grammar sets ranks pass depth_all (source ts) (deepens ts) (suc (length ts)) 1002 (level_of s) (t ∷ []) i j h

-- two answers of the reader are one
pub one_answer : (l : Level) (ts : List Token) (from : ℕ) (t u : Tree) (i j : ℕ) → level ts 1002 l from ≡ Some (t ∷ [], i) → level ts 1002 l from ≡ Some (u ∷ [], j) → (t ≡ u) × (i ≡ j)
one_answer l ts from t u i j h k = let p : _ = some_pair (t ∷ []) (u ∷ []) i j (sym h ∙ k) in (head_of p.0, p.1)
  where
    head_of : t ∷ [] ≡ u ∷ [] → t ≡ u
    head_of e = cc

pub is_shallow_run : (mode : ℕ → Bool) (s : Start) (ts : List Token) (i : ℕ) (t : Tree) (j : ℕ) → IsRunOf mode s ts i t j → depth t ≤ 500
is_shallow_run mode s ts i t j r = omega (arith, r.run.piece.shallow)

pub is_bracketed_run : (mode : ℕ → Bool) (s : Start) (ts : List Token) (i : ℕ) (t : Tree) (j : ℕ) → IsRunOf mode s ts i t j → (n : ℕ) → i ≤ n → n < j → round_at ts i n ≤ 500
unfolding round_at
is_bracketed_run mode s ts i t j r n a b = r.run.piece.few_brackets n a b

-- how many brackets are open before a token
unfoldable pub open_before : List Token → ℕ → ℕ → ℕ
open_before ts from n = open_at grammar.opens grammar.closes (source ts).cls from n

pub open_start : (ts : List Token) (from : ℕ) → open_before ts from from ≡ 0
unfolding open_before
open_start ts from = count_start grammar.opens grammar.closes (source ts).cls from

pub open_next : (ts : List Token) (from n : ℕ) → from ≤ n → open_before ts from (n + 1) ≡ behind grammar.opens grammar.closes (class (token_at ts n).word) (open_before ts from n)
unfolding open_before
open_next ts from n h = rw add-one (count_step grammar.opens grammar.closes (source ts).cls from n h)

pub round_is : (ts : List Token) (from n : ℕ) → round_at ts from n ≡ smaller (open_before ts from n) (open_before ts from (n + 1))
unfolding open_before round_at
round_is ts from n = rw add-one refl

pub leb_true : (a b : ℕ) → leb a b ≡ true → a ≤ b
leb_true a b h = grind arith

pub leb_false : (a b : ℕ) → leb a b ≡ false → b < a
leb_false a b h = grind arith

-- few brackets up to one more place
pub few_more : (ts : List Token) (from i : ℕ) → ((n : ℕ) → from ≤ n → n < i → round_at ts from n ≤ 500) → round_at ts from i ≤ 500 → (n : ℕ) → from ≤ n → n < i + 1 → round_at ts from n ≤ 500
few_more ts from i f h n a b = elim (cases n b) [ inl lt ↦ f n a lt | inr e ↦ rw e h ]
  where
    cases : (n : ℕ) → n < i + 1 → (n < i) ⊎ (n ≡ i)
    cases n h = grind arith

-- nothing goes on behind the last token
stops : (ts : List Token) → has (sets.more Text) ((source ts).cls (length ts)) ≡ false
unfolding class
stops ts = rw (get_or_past ts (length ts) end_token (omega arith)) refl

-- each tree of all the tokens is read
pub whole_is_read : (ts : List Token) (t : Tree) → IsWhole ts t → level ts 1002 Text 0 ≡ Some (t ∷ [], length ts)
unfolding level
whole_is_read ts t p = piece_read grammar sets ranks pass depth_all (source ts) (deepens ts) (suc (length ts)) Text (t ∷ []) 0 (length ts) p (stops ts) (omega arith)

-- what is read of all the tokens, within the limits, is a tree of them
pub read_is_whole : (ts : List Token) (t : Tree) (j : ℕ) → level ts 1002 Text 0 ≡ Some (t ∷ [], j) → j ≡ length ts → depth t ≤ 500 → ((n : ℕ) → 0 ≤ n → n < j → round_at ts 0 n ≤ 500) → IsWhole ts t
unfolding level round_at
read_is_whole ts t j h all shallow few = rw all at (read_piece grammar sets ranks pass depth_all (source ts) (deepens ts) (suc (length ts)) 1002 Text (t ∷ []) 0 j h (omega (arith, shallow)) few)

pub whole_is_shallow : (ts : List Token) (t : Tree) → IsWhole ts t → depth t ≤ 500
whole_is_shallow ts t p = omega (arith, p.shallow)

pub whole_is_bracketed : (ts : List Token) (t : Tree) → IsWhole ts t → (n : ℕ) → 0 ≤ n → n < length ts → round_at ts 0 n ≤ 500
unfolding round_at
whole_is_bracketed ts t p n a b = p.few_brackets n a b

-- a fault that comes although something is read is want of memory
pub fails_still : {X Y : Type 0} (e : ReadFault) (read : Option X) (x : X) (y : Y) → Fails e read → read ≡ Some x → Fails e (Some y)
fails_still faults.Memory read x y f h = record {}
fails_still faults.NoTree read x y f h = absurd (none_some x (sym f ∙ h))
