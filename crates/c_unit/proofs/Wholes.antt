-- What is read of a whole text is what its tokens spell, and what they spell is read.
use Rattle.std.proofs.Common.{◌≡◌, ℕ, zero, suc, ◌<◌, ◌≤◌, List, [], ◌∷◌, length, refl, sym, ap, subst, ◌∙◌, arith, Option, Some, None, Bool, true, false}
use Rattle.std.specs.Prelude.{eqb, Result}
use Rattle.node_tree.specs.declared.fault.ReadFault.{ReadFault}
use Rattle.node_tree.specs.Gives.{Gives}
use Rattle.grammar.specs.Rule.{has}
use Rattle.grammar.specs.Reader.{read_level}
use Rattle.grammar.proofs.Theorem.{read_piece, piece_read}
use Rattle.c_expr.specs.declared.word.Word.TheVariants.{End}
use Rattle.c_expr.specs.declared.word.Token.{Token}
use Rattle.c_expr.specs.declared.part.Part.{Part}
use Rattle.c_expr.specs.Words.{class}
use Rattle.c_expr.specs.Build.{token_at, tallest, source, cut_source}
use Rattle.c_expr.specs.Runs.{round_at}
use Rattle.c_expr.proofs.Depths.{deepens}
use Rattle.c_items.proofs.Alike.{levels_alike, cut_reads, uncut_reads}
use Rattle.c_unit.specs.declared.whole.Whole.{Whole}
use Rattle.c_unit.specs.declared.whole.Whole.TheVariants as wholes
use Rattle.c_items.specs.Table.{Level, grammar}
use Rattle.c_items.specs.reader.Sets.{sets, ranks}
use Rattle.c_items.specs.reader.Reading.{level}
use Rattle.c_unit.specs.Units.{level_of, IsAll}
use Rattle.c_items.proofs.Passes.{pass}

-- what is read without the cut
abbrev uncut : List Token → Level → Option (List Part × ℕ)
uncut ts l = read_level (source ts) sets (suc (length ts)) grammar.table ranks.top 1002 l 0

-- and with it
abbrev with_cut : List Token → Level → Option (List Part × ℕ)
with_cut ts l = read_level (cut_source ts) sets (suc (length ts)) grammar.table ranks.top 1002 l 0

-- nothing goes on at the end
stops : (r : Whole) (ts : List Token) (end : ℕ) → class (token_at ts end).word ≡ class End → has (sets.more (level_of r)) (class (token_at ts end).word) ≡ false
unfolding class
stops wholes.Expression ts end e = rw e refl
stops wholes.Items ts end e = rw e refl
stops wholes.FileItems ts end e = rw e refl

pub read_is_all : (r : Whole) (ts : List Token) (ps : List Part) (end : ℕ) → level ts 1002 (level_of r) 0 ≡ Some (ps, end) → end ≤ length ts → class (token_at ts end).word ≡ class End → tallest ps ≤ 500 → ((k : ℕ) → zero ≤ k → k < end → round_at ts 0 k ≤ 500) → IsAll (level_of r) ts ps end
unfolding level round_at
read_is_all r ts ps end h within ends shallow few = record {
  within = within;
  ends = ends;
  piece = read_piece grammar sets ranks pass tallest (source ts) (deepens ts) (suc (length ts)) 1002 (level_of r) ps 0 end
      (uncut_reads (uncut ts (level_of r)) (with_cut ts (level_of r)) ps end (levels_alike sets grammar.table ts (suc (length ts)) ranks.top 1002 (level_of r) 0) h shallow) shallow few;
}

pub all_is_read : (r : Whole) (ts : List Token) (ps : List Part) (end : ℕ) → IsAll (level_of r) ts ps end → level ts 1002 (level_of r) 0 ≡ Some (ps, end)
unfolding level
all_is_read r ts ps end a =
    let h : uncut ts (level_of r) ≡ Some (ps, end) = piece_read grammar sets ranks pass tallest (source ts) (deepens ts) (suc (length ts)) (level_of r) ps 0 end a.piece (stops r ts end a.ends) (omega (arith, a.within)) in
    cut_reads (uncut ts (level_of r)) (with_cut ts (level_of r)) ps end (levels_alike sets grammar.table ts (suc (length ts)) ranks.top 1002 (level_of r) 0) h a.piece.shallow

-- the tokens stand inside few brackets
pub all_is_bracketed : (r : Whole) (ts : List Token) (ps : List Part) (end : ℕ) → IsAll (level_of r) ts ps end → (k : ℕ) → k < end → round_at ts 0 k ≤ 500
unfolding round_at
all_is_bracketed r ts ps end a k lt = a.piece.few_brackets k (omega arith) lt

-- an end of the tokens stands where the test says so
pub is_end : (ts : List Token) (end : ℕ) → eqb (class End) (class (token_at ts end).word) ≡ true → class (token_at ts end).word ≡ class End
is_end ts end h = same (class End) (class (token_at ts end).word) h
  where
    same : (a b : ℕ) → eqb a b ≡ true → b ≡ a
    same a b e = grind arith

-- ---- what a reading gives, against what all tokens are

-- what reading gives, it gives for all that the tokens are
pub same_read : {X : Type 0} (view : X → List Part × ℕ) (given : Result X ReadFault) (r : Whole) (ts : List Token) (ps : List Part) (end : ℕ) → IsAll (level_of r) ts ps end → Gives view given (level ts 1002 (level_of r) 0) → Gives view given (Some (ps, end))
same_read view given r ts ps end a g = subst (λ (o : Option (List Part × ℕ)). Gives view given o) (all_is_read r ts ps end a) g

-- all that the tokens are is what was read
pub one_reading : (r : Whole) (ts : List Token) (ps qs : List Part) (i j : ℕ) → IsAll (level_of r) ts ps i → level ts 1002 (level_of r) 0 ≡ Some (qs, j) → (ps ≡ qs) × (i ≡ j)
one_reading r ts ps qs i j a h =
    let k : ◌≡◌ {A = Option (List Part × ℕ)} (Some (ps, i)) (Some (qs, j)) = sym (all_is_read r ts ps i a) ∙ h in
    let e : ◌≡◌ {A = List Part × ℕ} (ps, i) (qs, j) = cc in
    (ap (λ (x : List Part × ℕ). x.0) e, ap (λ (x : List Part × ℕ). x.1) e)

-- nothing that the tokens are goes past one that stands inside too many brackets
pub not_past : (r : Whole) (ts : List Token) (ps : List Part) (end shallow : ℕ) → IsAll (level_of r) ts ps end → (shallow < length ts → 500 < round_at ts 0 shallow) → shallow < end → ⊥
not_past r ts ps end shallow a many lt = omega (arith, many (omega (arith, lt, a.within)), all_is_bracketed r ts ps end a shallow lt)

-- an end of the tokens is where the test says so
pub no_end : (ts : List Token) (end : ℕ) → eqb (class End) (class (token_at ts end).word) ≡ false → class (token_at ts end).word ≡ class End → ⊥
no_end ts end h e = other (class End) (class (token_at ts end).word) h e
  where
    other : (a b : ℕ) → eqb a b ≡ false → b ≡ a → ⊥
    other a b f g = grind arith
