-- The tokens of a text lie in it, one behind the other, and the last of them is its end.
use Rattle.std.proofs.Common.{◌≡◌, ℕ, ◌+◌, ◌≤◌, ◌==◌, Bool, true, false, List, [], ◌∷◌, ◌++◌, length, drop, refl, sym, ap, ◌∙◌, subst, arith, append_assoc, eqb-true, length-append}
use Rattle.std.specs.Prelude.{encode_utf8, encode_utf8_all, if◌then◌else◌, Option, Some, None, IfSome}
use Rattle.std.specs.Str.{chars, all_scalars, IsUtf8, IsCharBoundary}
use Rattle.std.proofs.lemmas.List.{drop_at, drop-drop}
use Rattle.std.proofs.lemmas.Str.{encodes-append, encodes-chars, scalars-chars, length-encode, chars-encodes, IsUtf8-drop, IsCharBoundary-from_drop}
use Rattle.lexing.specs.Reading.{Lexeme, Turn, reader, Reads}
use Rattle.lexing.specs.Mark.{past_mark, mark_len}
use Rattle.lexing.proofs.Pieces.{seam}
use Rattle.node_tree.specs.declared.view.Mode.{Mode}
use Rattle.node_tree.specs.Span.{LiesIn}
use Rattle.c_lex.specs.declared.progress.Class.{Class}
use Rattle.c_lex.specs.declared.progress.Progress.{Progress}
use Rattle.c_lex.specs.declared.token.CWord.{CWord}
use Rattle.c_lex.specs.declared.token.CWord.TheVariants.{End}
use Rattle.c_lex.specs.declared.token.CToken.{CToken}
use Rattle.c_lex.specs.Classes.{class_of}
use Rattle.c_lex.specs.Lexing.{c_language, first, token, word_of, fresh_after, gap_turn, turn_by, IsTokensOf}
use Rattle.c_lex.specs.Places.{TokensLie, AreTokensIn}

-- ---- the characters that are left

-- from a byte on, the text is these characters
pub record IsRest (text : List ℕ) (at : ℕ) (cs : List ℕ) : Type 0 where
  pub bytes : drop at text ≡ encode_utf8_all cs
  pub scalars : all_scalars cs ≡ true
  pub len : at + length (encode_utf8_all cs) ≡ length text

pub whole : (text : List ℕ) → IsUtf8 text → IsRest text 0 (chars text)
whole text u = record {
  bytes = sym (encodes-chars text u);
  scalars = scalars-chars text u;
  len = omega (arith, ap length (encodes-chars text u));
}

-- the rest of characters is characters
left_scalars : (front left : List ℕ) → all_scalars (front ++ left) ≡ true → all_scalars left ≡ true
left_scalars front left h =
    let bytes = encode_utf8_all (front ++ left) in
    let u : IsUtf8 bytes = (front ++ left, (h, refl)) in
    let n = length (encode_utf8_all front) in
    let k = seam bytes front left n u (chars-encodes (front ++ left) h) refl in
    ap all_scalars (sym k.rest_chars) ∙ scalars-chars (drop n bytes) (IsUtf8-drop bytes n u k.boundary)

pub left_rest : {text cs : List ℕ} {at : ℕ} (front left : List ℕ) → IsRest text at cs → cs ≡ front ++ left → IsRest text (at + length (encode_utf8_all front)) left
left_rest {text = text} {at = at} front left s parts =
    let e : encode_utf8_all _ ≡ encode_utf8_all front ++ encode_utf8_all left = ap encode_utf8_all parts ∙ encodes-append front left in
    let n = length (encode_utf8_all front) in
    record {
      bytes = sym (drop-drop n at text) ∙ ap (drop n) (s.bytes ∙ e) ∙ drop_at (encode_utf8_all front) (encode_utf8_all left) n refl;
      scalars = left_scalars front left (ap all_scalars (sym parts) ∙ s.scalars);
      len = omega (arith, s.len, ap length e, length-append (encode_utf8_all front) (encode_utf8_all left));
    }

cut : {text cs : List ℕ} {at : ℕ} → IsRest text at cs → IsCharBoundary text at
cut {text = text} {cs = cs} {at = at} s = IsCharBoundary-from_drop text at (omega (arith, s.len)) (cs, (s.scalars, sym s.bytes))

pub lies : {text cs : List ℕ} {at : ℕ} (front left : List ℕ) → IsRest text at cs → cs ≡ front ++ left → LiesIn text (record { from = at; to = at + length (encode_utf8_all front) })
lies front left s parts = record { ordered = omega arith; begins = cut s; ends = cut (left_rest front left s parts) }

pub past : (text cs : List ℕ) → IsRest text 0 cs → IsRest text (mark_len cs) (past_mark cs)
past text [] s = s
past text (c ∷ cs) s = by_mark (c == 0xfeff) refl
  where
    by_mark : (b : Bool) → (c == 0xfeff) ≡ b → IsRest text (if b then 3 else 0) (if b then cs else c ∷ cs)
    by_mark true e =
        let k : 0 + length (encode_utf8_all (c ∷ [])) ≡ 3 = ap (λ (x : ℕ). 0 + length (encode_utf8 x ++ [])) (eqb-true c 0xfeff e) ∙ ap (λ (n : ℕ). 0 + n) (length-append (encode_utf8 0xfeff) [] ∙ ap (λ (n : ℕ). n + 0) (length-encode 0xfeff)) in
        subst (λ (n : ℕ). IsRest text n cs) k (left_rest (c ∷ []) cs s refl)
    by_mark false e = s

-- ---- what a lexeme gives

tokens_earlier : (text : List ℕ) (before from : ℕ) (ts : List CToken) → before ≤ from → TokensLie text from ts → TokensLie text before ts
tokens_earlier text before from [] le h = tt
tokens_earlier text before from (t ∷ ts) le h = (omega (arith, le, h.0), h.1, h.2)

-- the turn goes past the bytes, and what lies behind them lies behind its tokens
record Goes (text : List ℕ) (p : Progress) (bytes : List ℕ) (turn : Turn Progress CToken) : Type 0 where
  moves : turn.after.at ≡ p.at + length bytes
  lie : (later : List CToken) → TokensLie text (p.at + length bytes) later → TokensLie text p.at (turn.tokens ++ later)

gap_goes : (text : List ℕ) (p : Progress) (bytes : List ℕ) (fresh : Option Bool) → IfSome (gap_turn p bytes fresh) (Goes text p bytes)
gap_goes text p bytes None = tt
gap_goes text p bytes (Some fresh) = record { moves = refl; lie = λ later h. tokens_earlier text p.at (p.at + length bytes) later (omega arith) h }

turn_goes : (text : List ℕ) (p : Progress) (bytes : List ℕ) → LiesIn text (record { from = p.at; to = p.at + length bytes }) → (class : Class) (word : Option CWord) → IfSome (turn_by word class p bytes) (Goes text p bytes)
turn_goes text p bytes l class (Some word) = record { moves = refl; lie = λ later h. (omega arith, l, h) }
turn_goes text p bytes l class None = gap_goes text p bytes (fresh_after class p.fresh)

pub some_is : {X : Type 0} (P : X → Type 0) (o : Option X) (x : X) → IfSome o P → o ≡ Some x → P x
some_is {X = X} P o x h e = subst (λ (r : Option X). IfSome r P) e h

-- ---- whole readings

-- the tokens lie behind the place, and the last of them is the end
record LieToEnd (text : List ℕ) (from : ℕ) (ts : List CToken) : Type 0 where
  lie : TokensLie text from ts
  front : List CToken
  last : CToken
  all : ts ≡ front ++ last ∷ []
  end : last.word ≡ End

reading : (text : List ℕ) (mode : Mode) (p : Progress) (cs : List ℕ) (xs : List Lexeme) (ts : List CToken) (rest : List ℕ) → IsRest text p.at cs → Reads (reader (c_language mode)) p cs xs ts rest → LieToEnd text p.at ts
reading text mode p cs [] ts rest s h =
    let e : token End p.at [] ∷ [] ≡ ts = some_is (λ (us : List CToken). token End p.at [] ∷ [] ≡ us) (Some (token End p.at [] ∷ [])) ts refl h.2 in
    let b : IsCharBoundary text (p.at + length {A = ℕ} []) = let k : p.at ≡ p.at + length {A = ℕ} [] = omega arith in subst (λ (n : ℕ). IsCharBoundary text n) k (cut s) in
    subst (λ (us : List CToken). LieToEnd text p.at us) e (record { lie = (omega arith, record { ordered = omega arith; begins = cut s; ends = b }, tt); front = []; last = token End p.at []; all = refl; end = refl })
reading text mode p cs (x ∷ xs) ts rest s h =
    let bytes = encode_utf8_all x.text in
    let left = h.1 in
    let turn = h.2 in
    let goes = some_is (Goes text p bytes) _ turn (turn_goes text p bytes (lies x.text left s h.4.parts) (class_of x.word) (word_of (class_of x.word) bytes)) h.5 in
    let rest_is : IsRest text turn.after.at left = subst (λ (n : ℕ). IsRest text n left) (sym goes.moves) (left_rest x.text left s h.4.parts) in
    let k = reading text mode turn.after left xs h.3 rest rest_is h.6 in
    subst (λ (us : List CToken). LieToEnd text p.at us) (sym h.7) (record {
      lie = goes.lie h.3 (subst (λ (n : ℕ). TokensLie text n h.3) goes.moves k.lie);
      front = turn.tokens ++ k.front;
      last = k.last;
      all = ap (λ (us : List CToken). turn.tokens ++ us) k.all ∙ sym (append_assoc turn.tokens k.front (k.last ∷ []));
      end = k.end;
    })

-- the tokens of a text lie in it
pub placed : (mode : Mode) (text : List ℕ) (ts : List CToken) → IsUtf8 text → IsTokensOf mode text ts → AreTokensIn text ts
placed mode text ts u h =
    let k = reading text mode (first (chars text)) (past_mark (chars text)) h.0 ts [] (past text (chars text) (whole text u)) h.1 in
    record { lie = tokens_earlier text 0 (mark_len (chars text)) ts (omega arith) k.lie; front = k.front; last = k.last; all = k.all; end = k.end }
