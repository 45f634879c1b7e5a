-- A text read for its comments: the same lexemes, which give their comments in place of their tokens.
use Rattle.std.proofs.Common.{◌≡◌, ℕ, ◌+◌, ◌≤◌, List, [], ◌∷◌, ◌++◌, length, refl, sym, ap, ◌∙◌, subst, arith}
use Rattle.std.specs.Prelude.{encode_utf8_all, Option, Some, None, option_map}
use Rattle.std.specs.Str.{chars, IsUtf8}
use Rattle.node_tree.specs.Span.{LiesIn}
use Rattle.node_tree.specs.declared.span.Span.{Span}
use Rattle.node_tree.specs.declared.view.Mode.TheVariants.{Text}
use Rattle.lexing.specs.Mark.{past_mark, mark_len}
use Rattle.lexing.specs.Reading.{Lexeme, Turn, Reader, Reads, HasTokens}
use Rattle.py_lex.specs.Classes.{class_of}
use Rattle.py_lex.specs.Inside.{span}
use Rattle.py_lex.specs.Parts.{Parting, PartedLanguage, parted, HasParts}
use Rattle.py_lex.specs.Lexing.{py_language, first_line}
use Rattle.py_lex.specs.Comments.{noted, noting, bytes_of, comments_among, AreCommentsOf, SpansLie}
use Rattle.py_lex.specs.Layout as layout
use Rattle.py_lex.specs.declared.class.Class.{Class}
use Rattle.py_lex.specs.declared.class.Class.TheVariants.{Comment}
use Rattle.py_lex.specs.declared.layout.Layout.{Layout}
use Rattle.py_lex.specs.declared.token.FPart.{FPart}
use Rattle.py_lex.specs.declared.token.PyToken.{PyToken}
use Rattle.py_lex.proofs.Standing.{Stands, front_stands, left_stands, lies, whole, past}
use Rattle.py_lex.proofs.Placing.{passes}

abbrev pub quieted : List PyToken → List Span
quieted ts = []

-- the language whose lexemes give comments
abbrev pub commented : PartedLanguage Layout Span
commented = record {
  rules = (py_language Text).rules;
  at = λ s. s.at;
  step = λ s w bytes xs. option_map (noting (class_of w) s.at (length bytes)) (layout.step s w bytes xs);
  finish = λ s. option_map quieted (layout.finish s);
}

-- ---- what a map of an option gives

from_map : {X Y : Type 0} (f : X → Y) (o : Option X) (y : Y) → option_map f o ≡ Some y → (x : X) × (o ≡ Some x) × (y ≡ f x)
from_map {Y = Y} f None y e = let k : None ≡ Some y = e in absurd cc
from_map {Y = Y} f (Some x) y e = let k : Some (f x) ≡ Some y = e in (x, refl, cc)

to_map : {X Y : Type 0} (f : X → Y) (o : Option X) (x : X) → o ≡ Some x → option_map f o ≡ Some (f x)
to_map f o x e = ap (option_map f) e

-- ---- the two readings have the same lexemes

module _ (text : List ℕ) where
  abbrev Tokens : Reader Layout PyToken
  Tokens = parted (HasParts (length text) Text) (py_language Text)

  abbrev Comments : Reader Layout Span
  Comments = parted (HasParts (length text) Text) commented

  abbrev Rest : Layout → List ℕ → Type 0
  Rest s cs = Stands text s.at cs (length text)

  moved : (s : Layout) (cs : List ℕ) (w : ℕ) (front left : List ℕ) (turn : Turn Layout PyToken) → Rest s cs → cs ≡ front ++ left → Tokens.step s w front turn → turn.after.at ≡ s.at + length (encode_utf8_all front)
  moved s cs w front left turn h parts is = passes Text text s w front turn (front_stands front left h parts) is

  behind : (s : Layout) (cs : List ℕ) (w : ℕ) (front left : List ℕ) (turn : Turn Layout PyToken) → Rest s cs → cs ≡ front ++ left → Tokens.step s w front turn → Rest turn.after left
  behind s cs w front left turn h parts is = subst (λ (n : ℕ). Stands text n left (length text)) (sym (moved s cs w front left turn h parts is)) (left_stands front left h parts)

  -- what the tokens' reading reads, the comments' reading does
  pub noted_in : (s : Layout) (cs : List ℕ) (xs : List Lexeme) (ts : List PyToken) (rest : List ℕ) → Rest s cs → Reads Tokens s cs xs ts rest → Reads Comments s cs xs (comments_among s.at xs) rest
  noted_in s cs [] ts rest h r = (r.0, r.1, to_map quieted (layout.finish s) ts r.2)
  noted_in s cs (x ∷ xs) ts rest h (go, left, turn, later, b, (ps, p, is), more, parts) =
      let m = moved s cs x.word x.text left turn h b.parts (ps, p, is) in
      let n = behind s cs x.word x.text left turn h b.parts (ps, p, is) in (
        go,
        left,
        noting (class_of x.word) s.at (bytes_of x) turn,
        comments_among turn.after.at xs,
        b,
        (ps, p, to_map (noting (class_of x.word) s.at (bytes_of x)) (layout.step s x.word (encode_utf8_all x.text) ps) turn is),
        noted_in turn.after left xs later rest n more,
        ap (λ (k : ℕ). noted (class_of x.word) s.at (bytes_of x) ++ comments_among k xs) (sym m),
      )

  -- and the other way round
  pub read_of : (s : Layout) (cs : List ℕ) (xs : List Lexeme) (spans : List Span) (rest : List ℕ) → Rest s cs → Reads Comments s cs xs spans rest → (ts : List PyToken) × Reads Tokens s cs xs ts rest × (spans ≡ comments_among s.at xs)
  read_of s cs [] spans rest h r = let o = from_map quieted (layout.finish s) spans r.2 in (o.0, (r.0, r.1, o.1), o.2)
  read_of s cs (x ∷ xs) spans rest h (go, left, turn', later, b, (ps, p, is), more, parts) =
      let note : Turn Layout PyToken → Turn Layout Span = noting (class_of x.word) s.at (bytes_of x) in
      let q = from_map note (layout.step s x.word (encode_utf8_all x.text) ps) turn' is in
      let m = moved s cs x.word x.text left q.0 h b.parts (ps, p, q.1) in
      let n = behind s cs x.word x.text left q.0 h b.parts (ps, p, q.1) in
      let o = read_of q.0.after left xs later rest n (subst (λ (t : Turn Layout Span). Reads Comments t.after left xs later rest) q.2 more) in (
        q.0.tokens ++ o.0,
        (go, left, q.0, o.0, b, (ps, p, q.1), o.1, refl),
        parts ∙ ap (λ (t : Turn Layout Span). t.tokens ++ later) q.2 ∙ ap (λ (l : List Span). noted (class_of x.word) s.at (bytes_of x) ++ l) (o.2 ∙ ap (λ (k : ℕ). comments_among k xs) m),
      )

  -- ---- comments lie in the text

  one_lies : (c : Class) (at n : ℕ) (later : List Span) → LiesIn text (span at (at + n)) → SpansLie text (at + n) later (length text) → SpansLie text at (noted c at n ++ later) (length text)
  one_lies Comment at n later l h = (omega arith, l, h)
  one_lies _ at n later l h = earlier at (at + n) later (omega arith) h
    where
      earlier : (before from : ℕ) (ss : List Span) → before ≤ from → SpansLie text from ss (length text) → SpansLie text before ss (length text)
      earlier before from [] le h = omega (arith, le, h)
      earlier before from (s ∷ ss) le h = (omega (arith, le, h.0), h.1, h.2)

  among_lie : (at : ℕ) (s : Layout) (cs : List ℕ) (xs : List Lexeme) (ts : List PyToken) (rest : List ℕ) → Stands text at cs (length text) → Reads Tokens s cs xs ts rest → SpansLie text at (comments_among at xs) (length text)
  among_lie at s cs [] ts rest h r = omega (arith, h.ends)
  among_lie at s cs (x ∷ xs) ts rest h (go, left, turn, later, b, is, more, parts) =
      one_lies (class_of x.word) at (bytes_of x) (comments_among (at + bytes_of x) xs) (lies (front_stands x.text left h b.parts)) (among_lie (at + bytes_of x) turn.after left xs later rest (left_stands x.text left h b.parts) more)

  -- ---- whole texts

  module _ (u : IsUtf8 text) where
    all : Rest (first_line (chars text)) (past_mark (chars text))
    all = past text (chars text) (length text) (whole text u)

    pub given_comments : (spans : List Span) → HasTokens Comments (first_line (chars text)) (past_mark (chars text)) spans [] → AreCommentsOf text spans
    given_comments spans (xs, r) = let o = read_of (first_line (chars text)) (past_mark (chars text)) xs spans [] all r in (xs, o.0, o.1, o.2)

    pub has_comments : (spans : List Span) → AreCommentsOf text spans → HasTokens Comments (first_line (chars text)) (past_mark (chars text)) spans []
    has_comments spans (xs, ts, r, e) = (xs, subst (λ (l : List Span). Reads Comments (first_line (chars text)) (past_mark (chars text)) xs l []) (sym e) (noted_in (first_line (chars text)) (past_mark (chars text)) xs ts [] all r))

    pub comments_lie : (spans : List Span) → AreCommentsOf text spans → SpansLie text 0 spans (length text)
    comments_lie spans (xs, ts, r, e) =
        subst (λ (l : List Span). SpansLie text 0 l (length text)) (sym e) (from_start (mark_len (chars text)) (comments_among (mark_len (chars text)) xs) (among_lie (mark_len (chars text)) (first_line (chars text)) (past_mark (chars text)) xs ts [] all r))
      where
        from_start : (from : ℕ) (ss : List Span) → SpansLie text from ss (length text) → SpansLie text 0 ss (length text)
        from_start from [] h = omega arith
        from_start from (s ∷ ss) h = (omega arith, h.1, h.2)
