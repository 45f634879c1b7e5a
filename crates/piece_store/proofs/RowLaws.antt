-- What a row has for a number, by its bits.
use Rattle.std.proofs.Common.{◌≡◌, ℕ, List, [], ◌∷◌, ◌++◌, zero, suc, get_or, refl, sym, ap, ◌∙◌, Bool, true, false, cond}
use Rattle.std.specs.Prelude.{Option, None, Some, ◌&&◌}
use Rattle.std.specs.Ordering.{nat_cmp, is_eq}
use Rattle.std.proofs.lemmas.Cmp.{ranked}
use Rattle.piece_store.specs.declared.words.Word.{Word}
use Rattle.piece_store.specs.Bits.{no_word}
use Rattle.piece_store.specs.Slots.{turned}
use Rattle.piece_store.proofs.ByNumber.{is_equal}

-- a word more that says nothing
pub blank_last : (xs : List Word) (k : ℕ) → get_or (xs ++ no_word ∷ []) k no_word ≡ get_or xs k no_word
blank_last [] zero = refl
blank_last [] (suc k) = refl
blank_last (x ∷ xs) zero = refl
blank_last (x ∷ xs) (suc k) = blank_last xs k

-- a number that compares equal is that number
pub number_is : (i k : ℕ) → is_eq (nat_cmp i k) ≡ true → i ≡ k
number_is i k e = ranked i k _ (sym (is_equal (nat_cmp i k) e))

-- an answer and whether it was met, where it is kept
abbrev pub seen_if : {X : Type 0} → Bool → X → Bool → Option (X × Bool)
seen_if kept x met = cond kept (Some (x, met)) None

-- a turn, by the bits before and after
pub turned_slot : {X : Type 0} (kept met kept' met' : Bool) (x x' : X) → kept' ≡ kept && met → met' ≡ false → seen_if kept' x' false ≡ seen_if kept' x false → seen_if kept' x' met' ≡ turned (seen_if kept x met)
turned_slot {X} kept met kept' met' x x' k m same = ap (seen_if kept' x') m ∙ same ∙ ap (λ (b : Bool). seen_if b x false) k ∙ by kept met
  where
    by : (kept met : Bool) → seen_if (kept && met) x false ≡ turned (seen_if kept x met)
    by true true = refl
    by true false = refl
    by false met = refl
