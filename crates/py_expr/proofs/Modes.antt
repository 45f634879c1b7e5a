-- The words of the tokens are of the mode.
use Rattle.std.proofs.Common.{◌≡◌, ℕ, zero, suc, List, [], ◌∷◌, refl, Bool, true, false, inl, inr}
use Rattle.std.specs.Prelude.{if◌then◌else◌, ◌==◌, ◌&&◌}
use Rattle.std.specs.Str.{bytes_eq}
use Rattle.std.proofs.lemmas.Bool.{and_parts}
use Rattle.node_tree.specs.declared.view.Mode.{Mode}
use Rattle.node_tree.specs.declared.view.Mode.TheVariants as modes
use Rattle.py_lex.specs.declared.token.PyToken.{PyToken, out-PyToken}
use Rattle.py_lex.specs.declared.token.PyWord.{PyWord}
use Rattle.py_lex.specs.declared.token.PyWord.TheVariants as lexed
use Rattle.py_expr.specs.declared.word.Word.{Word}
use Rattle.py_expr.specs.Words.{class, word_by, mark_word, by_byte, by_text, short_marks, long_marks, keywords}
use Rattle.py_expr.specs.declared.item.Item.{Item}
use Rattle.py_expr.specs.Items.{Insides, IsItemBy, AreItems}
use Rattle.py_expr.specs.Build.{token_at}
use Rattle.py_expr.specs.Runs.{of_mode, of_text}

abbrev OfText : Word → Type 0
OfText word = of_text (class word) ≡ true

choice : (c : Bool) (a b : Word) → OfText a → OfText b → OfText (if c then a else b)
choice true a b h k = h
choice false a b h k = k

-- whether each word of a list of pairs is of texts
abbrev all_of_texts : {X : Type 0} → List (X × Word) → Bool
all_of_texts [] = true
all_of_texts (row ∷ rows) = of_text (class row.1) && all_of_texts rows

byte_fine : (rows : List (ℕ × Word)) → all_of_texts rows ≡ true → (c : ℕ) → OfText (by_byte rows c)
unfolding class
byte_fine [] h c = refl
byte_fine (row ∷ rows) h c = let p : _ = and_parts (of_text (class row.1)) (all_of_texts rows) h in choice (c == row.0) row.1 (by_byte rows c) p.0 (byte_fine rows p.1 c)

text_fine : (rows : List (List ℕ × Word)) → all_of_texts rows ≡ true → (text : List ℕ) → OfText (by_text rows text)
unfolding class
text_fine [] h text = refl
text_fine (row ∷ rows) h text = let p : _ = and_parts (of_text (class row.1)) (all_of_texts rows) h in choice (bytes_eq text row.0) row.1 (by_text rows text) p.0 (text_fine rows p.1 text)

short_fine : all_of_texts short_marks ≡ true
unfolding class
short_fine = refl

long_fine : all_of_texts (long_marks modes.Text) ≡ true
unfolding class
long_fine = refl

keywords_fine : all_of_texts keywords ≡ true
unfolding class
keywords_fine = refl

mark_fine : (text : List ℕ) → OfText (mark_word modes.Text text)
mark_fine [] = text_fine (long_marks modes.Text) long_fine []
mark_fine (c ∷ []) = byte_fine short_marks short_fine c
mark_fine (c ∷ d ∷ cs) = text_fine (long_marks modes.Text) long_fine (c ∷ d ∷ cs)

word_fine : (word : PyWord) (text : List ℕ) (after : List PyToken) → OfText (word_by modes.Text word text after)
unfolding class
word_fine lexed.Name text after = refl
word_fine lexed.Keyword text after = text_fine keywords keywords_fine text
word_fine lexed.Number text after = refl
word_fine lexed.Str text after = refl
word_fine lexed.FStr text after = refl
word_fine lexed.Op text after = mark_fine text
word_fine lexed.Meta text after = refl
word_fine lexed.MetaDots text after = refl
word_fine lexed.Newline text after = refl
word_fine lexed.Indent text after = refl
word_fine lexed.Dedent text after = refl
word_fine lexed.End text after = refl

item_fine : (word : PyWord) (I : Insides) (t : PyToken) (after : List PyToken) (i : Item) → IsItemBy word I modes.Text t after i → OfText i.word
unfolding class
item_fine lexed.FStr I t after i (inl h) = rw h.2 refl
item_fine lexed.FStr I t after i (inr h) = rw h.1 refl
item_fine lexed.Name I t after i h = rw h (word_fine (out-PyToken t).word (out-PyToken t).text after)
item_fine lexed.Keyword I t after i h = rw h (word_fine (out-PyToken t).word (out-PyToken t).text after)
item_fine lexed.Number I t after i h = rw h (word_fine (out-PyToken t).word (out-PyToken t).text after)
item_fine lexed.Str I t after i h = rw h (word_fine (out-PyToken t).word (out-PyToken t).text after)
item_fine lexed.Op I t after i h = rw h (word_fine (out-PyToken t).word (out-PyToken t).text after)
item_fine lexed.Meta I t after i h = rw h (word_fine (out-PyToken t).word (out-PyToken t).text after)
item_fine lexed.MetaDots I t after i h = rw h (word_fine (out-PyToken t).word (out-PyToken t).text after)
item_fine lexed.Newline I t after i h = rw h (word_fine (out-PyToken t).word (out-PyToken t).text after)
item_fine lexed.Indent I t after i h = rw h (word_fine (out-PyToken t).word (out-PyToken t).text after)
item_fine lexed.Dedent I t after i h = rw h (word_fine (out-PyToken t).word (out-PyToken t).text after)
item_fine lexed.End I t after i h = rw h (word_fine (out-PyToken t).word (out-PyToken t).text after)

all_of_text : (I : Insides) (ts : List PyToken) (is : List Item) → AreItems I modes.Text ts is → (k : ℕ) → OfText (token_at is k).word
unfolding class
all_of_text I [] is h k = rw h refl
all_of_text I (t ∷ ts) is (i, more, is_item, are, e) zero = rw e (item_fine (out-PyToken t).word I t ts i is_item)
all_of_text I (t ∷ ts) is (i, more, is_item, are, e) (suc k) = rw e (all_of_text I ts more are k)

-- each class of an item is of the mode
pub all_of_mode : (mode : Mode) (I : Insides) (ts : List PyToken) (is : List Item) → AreItems I mode ts is → (k : ℕ) → of_mode mode (class (token_at is k).word) ≡ true
all_of_mode modes.Text I ts is h k = all_of_text I ts is h k
all_of_mode modes.Pattern I ts is h k = refl

-- and so is what stands behind the last one
pub end_of_mode : (mode : Mode) → of_mode mode 0 ≡ true
unfolding class
end_of_mode modes.Text = refl
end_of_mode modes.Pattern = refl
