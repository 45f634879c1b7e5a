-- What is read of a level is the closed run, and the closed run is what is read.
use Rattle.std.proofs.Common.{◌≡◌, ℕ, zero, suc, ◌<◌, ◌≤◌, List, [], ◌∷◌, length, map, refl, sym, ap, ◌∙◌, arith, Option, Some, None, Err, Bool, true, false, cond}
use Rattle.node_tree.specs.declared.node.Node.{Node}
use Rattle.node_tree.specs.declared.fault.ReadFault.{ReadFault}
use Rattle.node_tree.specs.declared.fault.ReadFault.TheVariants as faults
use Rattle.node_tree.specs.declared.view.Mode.{Mode}
use Rattle.node_tree.specs.declared.view.Mode.TheVariants as modes
use Rattle.node_tree.specs.Gives.{Gives}
use Rattle.grammar.specs.Check.{closes}
use Rattle.grammar.specs.Reader.{read_level}
use Rattle.grammar.proofs.Facts.{none_some, some_pair}
use Rattle.grammar.proofs.Theorem.{read_run_tests, run_read_tests}
use Rattle.c_lex.specs.declared.token.CToken.{CToken}
use Rattle.c_expr.specs.declared.word.Word.{Word}
use Rattle.c_expr.specs.declared.word.Word.TheVariants as w
use Rattle.c_expr.specs.declared.word.Token.{Token}
use Rattle.c_expr.specs.declared.part.Part.{Part}
use Rattle.c_expr.specs.declared.read.CLevel.{CLevel}
use Rattle.c_expr.specs.declared.read.CLevel.TheVariants as levels
use Rattle.c_expr.specs.Words.{class, of_mode, in_mode, token_of, word_of}
use Rattle.c_expr.specs.Table.{Level, grammar}
use Rattle.c_expr.specs.Build.{tallest, source, cut_source}
use Rattle.c_expr.specs.reader.Sets.{sets, ranks, tests}
use Rattle.c_expr.specs.reader.Reading.{level}
use Rattle.c_expr.specs.Runs.{level_of, IsRunTree, IsTree, AreOf, round_at}
use Rattle.c_expr.proofs.Passes.{pass}
use Rattle.c_expr.proofs.Closes.{close_text, close_pattern, declared}
use Rattle.c_expr.proofs.Depths.{deepens}
use Rattle.c_expr.proofs.Alike.{levels_alike, cut_reads, uncut_reads}

pub close : (mode : Mode) (l : Level) → closes grammar sets ranks tests (of_mode mode) 30 l ≡ true
close modes.Text l = close_text l
close modes.Pattern l = close_pattern l

pub shut : (l : CLevel) → ranks.shut (level_of l) ≡ true
shut levels.Comma = refl
shut levels.Assign = refl
shut levels.Cond = refl
shut levels.Lor = refl
shut levels.Cast = refl
shut levels.Unary = refl
shut levels.Postfix = refl
shut levels.Prim = refl
shut levels.Tname = refl
shut levels.Spec = refl
shut levels.Declr = refl
shut levels.Var = refl

pub open_behind : (l : CLevel) → tests.follow (level_of l) ≡ None
open_behind levels.Comma = refl
open_behind levels.Assign = refl
open_behind levels.Cond = refl
open_behind levels.Lor = refl
open_behind levels.Cast = refl
open_behind levels.Unary = refl
open_behind levels.Postfix = refl
open_behind levels.Prim = refl
open_behind levels.Tname = refl
open_behind levels.Spec = refl
open_behind levels.Declr = refl
open_behind levels.Var = refl

pub end_of_mode : (mode : Mode) → of_mode mode 0 ≡ true
unfolding class
end_of_mode modes.Text = refl
end_of_mode modes.Pattern = refl

-- what is read without the cut
abbrev uncut : List Token → Level → ℕ → Option (List Part × ℕ)
uncut ts l i = read_level (source ts) sets (suc (length ts)) grammar.table ranks.top 1002 l i

-- and with it
abbrev with_cut : List Token → Level → ℕ → Option (List Part × ℕ)
with_cut ts l i = read_level (cut_source ts) sets (suc (length ts)) grammar.table ranks.top 1002 l i

-- what is read, within the limits, is the closed run
pub read_is_tree : (mode : Mode) (ts : List Token) (l : CLevel) (from : ℕ) (p : Part) (to : ℕ) → level ts 1002 (level_of l) from ≡ Some (p ∷ [], to) → to ≤ length ts → p.depth ≤ 500 → ((k : ℕ) → from ≤ k → k < to → round_at ts from k ≤ 500) → IsRunTree mode ts l from p.node to
unfolding level round_at
read_is_tree mode ts l from p to h within shallow few = record {
  within = within;
  depth = p.depth;
  run = read_run_tests grammar sets ranks pass tallest (source ts) (deepens ts) (suc (length ts)) tests declared (of_mode mode) 30 (close mode) 1002 (level_of l) (p ∷ []) from to (shut l) (open_behind l)
      (uncut_reads (uncut ts (level_of l) from) (with_cut ts (level_of l) from) (p ∷ []) to (levels_alike ts (suc (length ts)) ranks.top 1002 (level_of l) from) h (omega (arith, shallow))) (omega (arith, shallow)) few;
}

-- the closed run is read
pub tree_is_read : (mode : Mode) (ts : List Token) (l : CLevel) (from : ℕ) (n : Node) (to : ℕ) → AreOf mode ts → (r : IsRunTree mode ts l from n to) → level ts 1002 (level_of l) from ≡ Some (record { node = n; depth = r.depth } ∷ [], to)
unfolding level
tree_is_read mode ts l from n to all r =
    let h : uncut ts (level_of l) from ≡ Some (record { node = n; depth = r.depth } ∷ [], to) = run_read_tests grammar sets ranks pass tallest (source ts) (deepens ts) (suc (length ts)) tests declared (of_mode mode) 30 (close mode) (level_of l) (record { node = n; depth = r.depth } ∷ []) from to (shut l) (open_behind l) (end_of_mode mode) all r.run (omega (arith, r.within)) in
    cut_reads (uncut ts (level_of l) from) (with_cut ts (level_of l) from) (record { node = n; depth = r.depth } ∷ []) to (levels_alike ts (suc (length ts)) ranks.top 1002 (level_of l) from) h (omega (arith, r.run.piece.shallow))

-- two answers of the reader are one
pub one_tree : (mode : Mode) (ts : List Token) (l : CLevel) (from : ℕ) (n : Node) (q : Part) (i j : ℕ) → AreOf mode ts → (r : IsRunTree mode ts l from n i) → level ts 1002 (level_of l) from ≡ Some (q ∷ [], j) → (record { node = n; depth = r.depth } ≡ q) × (i ≡ j)
one_tree mode ts l from n q i j all r h = let e : _ = some_pair (record { node = n; depth = r.depth } ∷ []) (q ∷ []) i j (sym (tree_is_read mode ts l from n i all r) ∙ h) in (head_of (record { node = n; depth = r.depth }) q e.0, e.1)
  where
    head_of : (p q : Part) → p ∷ [] ≡ q ∷ [] → p ≡ q
    head_of p q e = cc

pub tree_is_shallow : (mode : Mode) (ts : List Token) (l : CLevel) (from : ℕ) (n : Node) (to : ℕ) (r : IsRunTree mode ts l from n to) → r.depth ≤ 500
tree_is_shallow mode ts l from n to r = omega (arith, r.run.piece.shallow)

pub tree_is_bracketed : (mode : Mode) (ts : List Token) (l : CLevel) (from : ℕ) (n : Node) (to : ℕ) → IsRunTree mode ts l from n to → (k : ℕ) → from ≤ k → k < to → round_at ts from k ≤ 500
unfolding round_at
tree_is_bracketed mode ts l from n to r k a b = r.run.piece.few_brackets k a b

-- a fault that comes although there is a tree is want of memory
pub fails_still : {X Y Z : Type 0} (view : X → Y) (e : ReadFault) (o : Option Y) (y : Y) (x : Z) → Gives view (Err e) o → o ≡ Some y → Gives (λ (z : Z). z) (Err e) (Some x)
fails_still view faults.Memory o y x f h = tt
fails_still view faults.NoTree o y x f h = absurd (none_some y (sym f ∙ h))

-- the words of the tokens are of the mode
word_fits : (mode : Mode) (word : Word) → of_mode mode (class (in_mode mode word)) ≡ true
unfolding in_mode class
word_fits mode word = by (of_mode mode (class word)) refl
  where
    other : (m : Mode) → of_mode m 56 ≡ true
    other modes.Text = refl
    other modes.Pattern = refl

    by : (b : Bool) → of_mode mode (class word) ≡ b → of_mode mode (class (cond b word w.Other)) ≡ true
    by true e = e
    by false e = other mode

pub words_fit : (mode : Mode) (ts : List CToken) → AreOf mode (map (token_of mode) ts)
unfolding class
words_fit mode [] k = end_of_mode mode
words_fit mode (t ∷ ts) zero = word_fits mode (word_of mode t.word t.text)
words_fit mode (t ∷ ts) (suc k) = words_fit mode ts k

pub same_answer : (n m : Node) (d e i j : ℕ) → ◌≡◌ {A = Part} (record { node = n; depth = d }) (record { node = m; depth = e }) → i ≡ j → ◌≡◌ {A = Option (Node × ℕ)} (Some (n, i)) (Some (m, j))
same_answer n m d e i j h k = rw (ap (λ (p : Part). p.node) h, k) refl

-- a run of the tokens of the scanner
pub tree_of_tokens : (mode : Mode) (ts : List CToken) (us : List Token) (l : CLevel) (from : ℕ) (n : Node) (i j : ℕ) → us ≡ map (token_of mode) ts → i ≡ j → IsRunTree mode us l from n i → IsTree mode ts l from n j
tree_of_tokens mode ts us l from n i j e f r = rw e at (rw f at r)

pub tree_of_classed : (mode : Mode) (ts : List CToken) (us : List Token) (l : CLevel) (from : ℕ) (n : Node) (to : ℕ) → us ≡ map (token_of mode) ts → IsTree mode ts l from n to → IsRunTree mode us l from n to
tree_of_classed mode ts us l from n to e r = rw e r

pub all_of_mode : (mode : Mode) (ts : List CToken) (us : List Token) → us ≡ map (token_of mode) ts → AreOf mode us
all_of_mode mode ts us e = rw e (words_fit mode ts)

pub answer_there : (n m : Node) (i j k : ℕ) → j ≡ k → ◌≡◌ {A = Option (Node × ℕ)} (Some (n, i)) (Some (m, j)) → ◌≡◌ {A = Option (Node × ℕ)} (Some (n, i)) (Some (m, k))
answer_there n m i j k h e = rw h at e
