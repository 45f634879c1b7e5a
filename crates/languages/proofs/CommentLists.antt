-- The comments of texts in Python and C.
use Rattle.std.proofs.Common.{◌≡◌, inl, inr, ℕ, List, [], ◌∷◌, sym, ◌∙◌}
use Rattle.std.specs.Prelude.{All}
use Rattle.std.proofs.lemmas.List.Elements.{All-nil, All-cons}
use Rattle.node_tree.specs.declared.span.Span.{Span}
use Rattle.node_tree.specs.Span.{LiesIn}
use Rattle.py_lex.specs.Comments as python
use Rattle.c_lex.specs.Places as c
use Rattle.languages.specs.Comments.{AreCommentsBy}

-- spans that lie one behind the other lie in the text
pub python_lie : (text : List ℕ) (from : ℕ) (spans : List Span) (to : ℕ) → python.SpansLie text from spans to → All (λ (s : Span). LiesIn text s) spans
python_lie text from [] to h = All-nil (λ (s : Span). LiesIn text s)
python_lie text from (s ∷ ss) to h = All-cons (λ (s : Span). LiesIn text s) s ss h.1 (python_lie text s.to ss to h.2)

pub c_lie : (text : List ℕ) (from : ℕ) (spans : List Span) → c.SpansLie text from spans → All (λ (s : Span). LiesIn text s) spans
c_lie text from [] h = All-nil (λ (s : Span). LiesIn text s)
c_lie text from (s ∷ ss) h = All-cons (λ (s : Span). LiesIn text s) s ss h.1 (c_lie text s.to ss h.2)

-- a text with a list of comments has no other
pub one_given : (Between : List ℕ → List Span → Type 0) (text : List ℕ) (found l : List Span) → Between text found → ((m : List Span) → Between text m → found ≡ m) → AreCommentsBy Between text l → found ≡ l
one_given Between text found l has only (inl h) = only l h
one_given Between text found l has only (inr (none, nay)) = absurd (nay found has)

-- one without tokens has none
pub none_given : (Between : List ℕ → List Span → Type 0) (text : List ℕ) (found l : List Span) → found ≡ [] → ((m : List Span) → Between text m → ⊥) → AreCommentsBy Between text l → found ≡ l
none_given Between text found l e nay (inl h) = absurd (nay l h)
none_given Between text found l e nay (inr (none, _)) = e ∙ sym none
