-- The comments of a text are what its lexemes give where each gives itself, if it is a comment.
use Rattle.std.proofs.Common.{◌≡◌, ℕ, ◌+◌, ◌≤◌, Bool, true, false, List, [], ◌∷◌, ◌++◌, length, refl, sym, ap, ◌∙◌, subst, arith}
use Rattle.std.specs.Prelude.{encode_utf8_all, Option, Some, None, IfSome}
use Rattle.std.specs.Str.{chars, IsUtf8}
use Rattle.lexing.specs.Reading.{Lexeme, Turn, reader, Reads, Lexes}
use Rattle.lexing.specs.Mark.{past_mark, mark_len}
use Rattle.node_tree.specs.declared.span.Span.{Span}
use Rattle.node_tree.specs.declared.view.Mode.TheVariants.{Text}
use Rattle.node_tree.specs.Span.{LiesIn}
use Rattle.c_lex.specs.declared.progress.Class.{Class}
use Rattle.c_lex.specs.declared.progress.Progress.{Progress}
use Rattle.c_lex.specs.declared.token.CWord.{CWord}
use Rattle.c_lex.specs.declared.token.CWord.TheVariants.{End}
use Rattle.c_lex.specs.declared.token.CToken.{CToken}
use Rattle.c_lex.specs.Classes.{class_of}
use Rattle.c_lex.specs.Lexing.{c_language, first, token, word_of, fresh_after, gap_turn, turn_by, step, IsTokensOf}
use Rattle.c_lex.specs.Comments.{is_comment, span_if, comments_among, AreCommentsOf, noted, note, comment_language}
use Rattle.c_lex.specs.Places.{SpansLie}
use Rattle.c_lex.proofs.Placing.{IsRest, whole, left_rest, lies, past, some_is}

-- ---- one lexeme

-- a turn goes past the bytes of its lexeme
gap_moves : (p : Progress) (bytes : List ℕ) (fresh : Option Bool) → IfSome (gap_turn p bytes fresh) (λ t. t.after.at ≡ p.at + length bytes)
gap_moves p bytes None = tt
gap_moves p bytes (Some fresh) = refl

moves : (p : Progress) (bytes : List ℕ) (class : Class) (word : Option CWord) → IfSome (turn_by word class p bytes) (λ t. t.after.at ≡ p.at + length bytes)
moves p bytes class (Some word) = refl
moves p bytes class None = gap_moves p bytes (fresh_after class p.fresh)

step_moves : (p : Progress) (number : ℕ) (bytes : List ℕ) (t : Turn Progress CToken) → step p number bytes ≡ Some t → t.after.at ≡ p.at + length bytes
step_moves p number bytes t e = some_is (λ (t : Turn Progress CToken). t.after.at ≡ p.at + length bytes) (step p number bytes) t (moves p bytes (class_of number) (word_of (class_of number) bytes)) e

-- the bytes of a lexeme, where it is a comment
abbrev itself : Progress → ℕ → List ℕ → List Span
itself p number bytes = span_if (is_comment (class_of number)) p.at (length bytes)

-- what a lexeme gives as a comment, against what it gives as a token
record Beside (p : Progress) (number : ℕ) (bytes : List ℕ) (turn : Turn Progress Span) : Type 0 where
  other : Turn Progress CToken
  steps : step p number bytes ≡ Some other
  after : other.after ≡ turn.after
  gives : turn.tokens ≡ itself p number bytes

beside : (p : Progress) (number : ℕ) (bytes : List ℕ) (turn : Turn Progress Span) → note p number bytes ≡ Some turn → Beside p number bytes turn
beside p number bytes turn e = by (step p number bytes) refl e
  where
    by : (o : Option (Turn Progress CToken)) → step p number bytes ≡ o → noted p number bytes o ≡ Some turn → Beside p number bytes turn
    by None s h = absurd cc
    by (Some t) s h =
        let k : ◌≡◌ {A = Turn Progress Span} (record { after = t.after; tokens = itself p number bytes }) turn = cc in
        record { other = t; steps = s; after = ap (λ (x : Turn Progress Span). x.after) k; gives = sym (ap (λ (x : Turn Progress Span). x.tokens) k) }

-- ---- all lexemes

-- the tokens beside the comments
record Seen (p : Progress) (cs : List ℕ) (xs : List Lexeme) (ss : List Span) (rest : List ℕ) : Type 0 where
  tokens : List CToken
  reads : Reads (reader (c_language Text)) p cs xs tokens rest
  among : ss ≡ comments_among p.at xs

seen : (p : Progress) (cs : List ℕ) (xs : List Lexeme) (ss : List Span) (rest : List ℕ) → Reads (reader comment_language) p cs xs ss rest → Seen p cs xs ss rest
seen p cs [] ss rest (e, r, f) = record { tokens = token End p.at [] ∷ []; reads = (e, r, refl); among = let k : [] ≡ ss = cc in sym k }
seen p cs (x ∷ xs) ss rest (go, left, turn, later, begins, st, more, parts) =
    let bytes = encode_utf8_all x.text in
    let b = beside p x.word bytes turn st in
    let k = seen turn.after left xs later rest more in
    let at : turn.after.at ≡ p.at + length bytes = ap (λ (q : Progress). q.at) (sym b.after) ∙ step_moves p x.word bytes b.other b.steps in
    record {
      tokens = b.other.tokens ++ k.tokens;
      reads = (go, left, b.other, k.tokens, begins, b.steps, subst (λ (q : Progress). Reads (reader (c_language Text)) q left xs k.tokens rest) (sym b.after) k.reads, refl);
      among = parts ∙ ap (λ (us : List Span). us ++ later) b.gives ∙ ap (λ (us : List Span). itself p x.word bytes ++ us) (k.among ∙ ap (λ (n : ℕ). comments_among n xs) at);
    }

unseen : (p : Progress) (cs : List ℕ) (xs : List Lexeme) (ts : List CToken) (rest : List ℕ) → Reads (reader (c_language Text)) p cs xs ts rest → Reads (reader comment_language) p cs xs (comments_among p.at xs) rest
unseen p cs [] ts rest (e, r, f) = (e, r, refl)
unseen p cs (x ∷ xs) ts rest (go, left, turn, later, begins, st, more, parts) =
    let bytes = encode_utf8_all x.text in
    let at = step_moves p x.word bytes turn st in
    let k = unseen turn.after left xs later rest more in
    (go, left, record { after = turn.after; tokens = itself p x.word bytes }, comments_among turn.after.at xs, begins, ap (noted p x.word bytes) st, k, ap (λ (n : ℕ). itself p x.word bytes ++ comments_among n xs) (sym at))

-- ---- whole texts

abbrev pub AreNoted : List ℕ → List Span → Type 0
AreNoted text ss = Lexes comment_language (first (chars text)) (past_mark (chars text)) ss

pub noted_are : (text : List ℕ) (ss : List Span) → AreNoted text ss → AreCommentsOf text ss
noted_are text ss h = let k = seen (first (chars text)) (past_mark (chars text)) h.0 ss [] h.1 in record { tokens = k.tokens; lexemes = h.0; reads = k.reads; among = k.among }

pub are_noted : (text : List ℕ) (ss : List Span) → AreCommentsOf text ss → AreNoted text ss
are_noted text ss a = (a.lexemes, subst (λ (us : List Span). Reads (reader comment_language) (first (chars text)) (past_mark (chars text)) a.lexemes us []) (sym a.among) (unseen (first (chars text)) (past_mark (chars text)) a.lexemes a.tokens [] a.reads))

-- where there are tokens, there are comments
pub tokens_noted : (text : List ℕ) (ts : List CToken) → IsTokensOf Text text ts → (ss : List Span) × AreNoted text ss
tokens_noted text ts h = (comments_among (mark_len (chars text)) h.0, (h.0, unseen (first (chars text)) (past_mark (chars text)) h.0 ts [] h.1))

-- ---- the comments lie in the text

spans_earlier : (text : List ℕ) (before from : ℕ) (ss : List Span) → before ≤ from → SpansLie text from ss → SpansLie text before ss
spans_earlier text before from [] le h = tt
spans_earlier text before from (s ∷ ss) le h = (omega (arith, le, h.0), h.1, h.2)

one_more : (text : List ℕ) (at len : ℕ) (b : Bool) (ss : List Span) → LiesIn text (record { from = at; to = at + len }) → SpansLie text (at + len) ss → SpansLie text at (span_if b at len ++ ss)
one_more text at len true ss l h = (omega arith, l, h)
one_more text at len false ss l h = spans_earlier text at (at + len) ss (omega arith) h

lie : (text : List ℕ) (p : Progress) (cs : List ℕ) (xs : List Lexeme) (ts : List CToken) (rest : List ℕ) → IsRest text p.at cs → Reads (reader (c_language Text)) p cs xs ts rest → SpansLie text p.at (comments_among p.at xs)
lie text p cs [] ts rest s h = tt
lie text p cs (x ∷ xs) ts rest s (go, left, turn, later, begins, st, more, parts) =
    let bytes = encode_utf8_all x.text in
    let at = step_moves p x.word bytes turn st in
    let rest_is : IsRest text turn.after.at left = subst (λ (n : ℕ). IsRest text n left) (sym at) (left_rest x.text left s begins.parts) in
    let k = lie text turn.after left xs later rest rest_is more in
    one_more text p.at (length bytes) (is_comment (class_of x.word)) (comments_among (p.at + length bytes) xs) (lies x.text left s begins.parts)
    (subst (λ (n : ℕ). SpansLie text n (comments_among n xs)) at k)

pub comments_lie : (text : List ℕ) (ss : List Span) → IsUtf8 text → AreCommentsOf text ss → SpansLie text 0 ss
comments_lie text ss u a =
    let k = lie text (first (chars text)) (past_mark (chars text)) a.lexemes a.tokens [] (past text (chars text) (whole text u)) a.reads in
    subst (λ (us : List Span). SpansLie text 0 us) (sym a.among) (spans_earlier text 0 (mark_len (chars text)) (comments_among (mark_len (chars text)) a.lexemes) (omega arith) k)
