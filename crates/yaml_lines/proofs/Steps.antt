-- One step of each loop over bytes or lines.
use Rattle.std.proofs.lemmas.Grind.{common_steps}
use Rattle.std.proofs.Common.{◌-◌, ◌≡◌, ◌≢◌, ℕ, ◌+◌, ◌<◌, ◌≤◌, Bool, true, false, eqb, List, [], ◌∷◌, ◌++◌, length, get_or, drop, Option, Some, None, refl, sym, ap, ◌∙◌, subst, arith, take, length-append, length-drop, ◌⊎◌, inl, inr}
use Rattle.std.specs.Prelude.{encode_utf8_all, All, ◌^◌, ◌||◌, ◌==◌, if◌then◌else◌}
use Rattle.std.specs.Borrow.{Bor}
use Rattle.std.specs.Option.{option_map}
use Rattle.std.proofs.lemmas.List.Elements.{All-drop, All-head}
use Rattle.std.proofs.lemmas.List.{drop-map, drop_more, reverse-append}
use Rattle.std.specs.Str.{IsUtf8, IsCharBoundary, is_utf8, chars}
use Rattle.std.proofs.lemmas.Bool.{cases_lt}
use Rattle.std.proofs.lemmas.Str.{IsUtf8-nil, IsUtf8-drop, IsUtf8-take, IsCharBoundary-after_ascii, IsCharBoundary-before_ascii, IsCharBoundary-end, IsUtf8-from_is_utf8, is_utf8-from_IsUtf8}
use Rattle.yaml_lines.specs.Blanks.{past_sign, indentation, is_blank, past_blanks, before_blanks, is_sign}
use Rattle.yaml_lines.specs.Keying.{IsRest}
use Rattle.yaml_lines.specs.Escape.{undoubled_at, unescaped_at}
use Rattle.yaml_lines.specs.declared.escape.Reading.TheVariants.{Plain}
use Rattle.yaml_lines.specs.Marks.{marks_of, without_comment, Marked, marks_at}
use Rattle.yaml_lines.specs.Scan.{is_open, next_line, scan_line}
use Rattle.yaml_lines.specs.Key.{keyed, unquoted, quoted_key, content_of, colon_at, is_hash}
use Rattle.yaml_lines.specs.Body.{texts, AreShort, is_deeper, open_len, block_len, blank_len, column_len}
use Rattle.yaml_lines.specs.declared.scan.Scan.{Scan}
use Rattle.yaml_lines.specs.declared.scan.Scanned.{Scanned}

-- what a scan finds so many bytes further
abbrev pub further : ℕ → Scanned → Scanned
further n r = record { scan = r.scan; len = r.len + n; comment = r.comment }

pub colon_more : (text : List ℕ) (at : ℕ) (gap : Bool) (b : ℕ) → at < length text → b ≡ get_or text at 0 → is_sign 58 b (drop (at + 1) text) ≡ false → is_hash gap b ≡ false → option_map (λ n. n + at) (colon_at gap (drop at text)) ≡ option_map (λ n. n + (at + 1)) (colon_at (is_blank b) (drop (at + 1) text))
colon_more text at gap b h e no_sign no_hash = rw (drop_more text at 0 h, ← e, no_sign, no_hash) (twice (colon_at (is_blank b) (drop (at + 1) text)))
  where
    twice : (r : Option ℕ) → option_map (λ n. n + at) (option_map (λ n. n + 1) r) ≡ option_map (λ n. n + (at + 1)) r
    twice None = refl
    twice (Some n) = ap Some (omega arith)

-- marks behind others
abbrev pub behind : List ℕ → Bool → Marked → Marked
behind dashes before m = record { dashes = dashes ++ m.dashes; content = m.content; tab_before = before || m.tab_before; tab_after = m.tab_after }

-- one line of those that are left
pub texts_more : (lines : List (Bor (List ℕ))) (at : ℕ) (d : Bor (List ℕ)) (line : List ℕ) → at < length lines → line ≡ (get_or lines at d).now → texts (drop at lines) ≡ line ∷ texts (drop (at + 1) lines)
texts_more lines at d line h e = ap texts (drop_more lines at d h) ∙ ap (λ (x : List ℕ). x ∷ texts (drop (at + 1) lines)) (sym e)

-- a text after an ASCII byte
pub utf8_tail : (b : ℕ) (bs : List ℕ) → b < 128 → IsUtf8 (b ∷ bs) → IsUtf8 bs
utf8_tail b bs small u = IsUtf8-drop (b ∷ bs) 1 u (IsCharBoundary-after_ascii (b ∷ bs) 0 u (omega arith) small)

-- a text before an ASCII byte, or before its end
pub utf8_front : (bs xs ys : List ℕ) (b : ℕ) → b < 128 → bs ≡ xs ++ (b ∷ ys) → IsUtf8 bs → IsUtf8 xs
utf8_front bs xs ys b small e u =
    let n : length xs < length bs = omega (arith, length-append xs (b ∷ ys), ap length e) in
    let byte : get_or bs (length xs) 0 ≡ b = ap (λ (x : List ℕ). get_or x (length xs) 0) e ∙ get_or-seam xs b ys in
    let P : List ℕ → Type 0 = λ x. IsUtf8 x in
    subst P (ap (take (length xs)) e ∙ take-seam xs (b ∷ ys)) (IsUtf8-take bs (length xs) u (IsCharBoundary-before_ascii bs (length xs) n (omega (arith, byte))))
  where
    get_or-seam : (xs : List ℕ) (b : ℕ) (ys : List ℕ) → get_or (xs ++ (b ∷ ys)) (length xs) 0 ≡ b
    get_or-seam [] b ys = refl
    get_or-seam (x ∷ xs) b ys = get_or-seam xs b ys

    take-seam : (xs ys : List ℕ) → take (length xs) (xs ++ ys) ≡ xs
    take-seam [] ys = refl
    take-seam (x ∷ xs) ys = ap (λ (z : List ℕ). x ∷ z) (take-seam xs ys)

-- what stands before an ASCII byte of a text, or the whole text
pub utf8_before : (text : List ℕ) (n : ℕ) → n ≤ length text → (n < length text → get_or text n 0 < 128) → IsUtf8 text → IsUtf8 (take n text)
utf8_before text n within small u = IsUtf8-take text n u (edge (cases_lt n (length text)))
  where
    edge : (n < length text) ⊎ (length text ≤ n) → IsCharBoundary text n
    edge (inl h) = IsCharBoundary-before_ascii text n h (small h)
    edge (inr h) = let e : length text ≡ n = omega arith in let P : ℕ → Type 0 = λ x. IsCharBoundary text x in subst P e (IsCharBoundary-end text)

pub not_text : (bs : List ℕ) → (IsUtf8 bs → ⊥) → is_utf8 bs ≡ false
not_text bs wrong = split (is_utf8 bs) refl
  where
    split : (v : Bool) → is_utf8 bs ≡ v → is_utf8 bs ≡ false
    split true e = absurd (wrong (IsUtf8-from_is_utf8 bs e))
    split false e = e

pub small_sign : (b : ℕ) (bs : List ℕ) → is_sign 45 b bs ≡ true → b < 128
small_sign b bs e = grind (arith, e)

pub small_blank : (b : ℕ) → is_blank b ≡ true → b < 128
small_blank b e = grind (arith, e)

-- how many lines go on with a plain value, of which the last so far is before `len`, and this many follow those seen
abbrev pub plain_from : ℕ → ℕ → ℕ → ℕ
plain_from len at n = if n == 0 then len else at + n

-- the first line past some others
pub texts_drop : (lines : List (Bor (List ℕ))) (n : ℕ) → drop n (texts lines) ≡ texts (drop n lines)
texts_drop lines n = drop-map (λ (l : Bor (List ℕ)). l.now) n lines

pub open_stops : (lines : List (Bor (List ℕ))) (at : ℕ) (s : Scan) (d : Bor (List ℕ)) → at < length lines → is_open s ≡ false → at + open_len s (texts (drop at lines)) ≡ at
open_stops lines at s d h closed = rw (texts_more lines at d (get_or lines at d).now h refl, closed) (omega arith)

pub open_goes : (lines : List (Bor (List ℕ))) (at : ℕ) (s : Scan) (d : Bor (List ℕ)) (line : List ℕ) → at < length lines → line ≡ (get_or lines at d).now → is_open s ≡ true → at + open_len s (texts (drop at lines)) ≡ at + 1 + open_len (scan_line (next_line s) line).scan (texts (drop (at + 1) lines))
open_goes lines at s d line h e opened = rw (texts_more lines at d line h e, opened) (omega arith)

pub block_first : (holder : Option ℕ) (lines : List (Bor (List ℕ))) (n : ℕ) (d : Bor (List ℕ)) (line : List ℕ) → n < length lines → line ≡ (get_or lines n d).now → n ≡ blank_len (texts lines) → block_len holder (texts lines) ≡ (if is_deeper holder line then column_len (indentation line) (texts lines) else n)
block_first holder lines n d line h e blank = rw (← blank, texts_drop lines n, texts_more lines n d line h e) refl

pub block_deeper : (holder : Option ℕ) (lines : List (Bor (List ℕ))) (n : ℕ) (d : Bor (List ℕ)) (line : List ℕ) → n < length lines → line ≡ (get_or lines n d).now → n ≡ blank_len (texts lines) → is_deeper holder line ≡ true → block_len holder (texts lines) ≡ column_len (indentation line) (texts lines)
block_deeper holder lines n d line h e blank deeper = block_first holder lines n d line h e blank ∙ rw deeper refl

pub block_shallow : (holder : Option ℕ) (lines : List (Bor (List ℕ))) (n : ℕ) (d : Bor (List ℕ)) (line : List ℕ) → n < length lines → line ≡ (get_or lines n d).now → n ≡ blank_len (texts lines) → is_deeper holder line ≡ false → block_len holder (texts lines) ≡ n
block_shallow holder lines n d line h e blank shallow = block_first holder lines n d line h e blank ∙ rw shallow refl

pub content_single : (quote : ℕ) (inner text t : List ℕ) → quote ≡ 39 → IsUtf8 inner → text ≡ inner → t ≡ encode_utf8_all (undoubled_at false (chars text)) → Some t ≡ content_of quote inner
content_single quote inner text t q u same e = rw (is_utf8-from_IsUtf8 inner u, q, ← same) (ap Some e)

no_quote : (quote : ℕ) → quote ≢ 39 → eqb quote 39 ≡ false
no_quote quote other = grind arith

pub content_double : (quote : ℕ) (inner text : List ℕ) (r : Option (List ℕ)) → quote ≢ 39 → IsUtf8 inner → text ≡ inner → r ≡ option_map encode_utf8_all (unescaped_at Plain (chars text)) → r ≡ content_of quote inner
content_double quote inner text r q u same e = rw (is_utf8-from_IsUtf8 inner u, no_quote quote q, ← same) e

-- each line is short
pub short_at : (lines : List (Bor (List ℕ))) (at : ℕ) (d : Bor (List ℕ)) (line : List ℕ) → at < length lines → line ≡ (get_or lines at d).now → AreShort (texts lines) → length line ≤ 2 ^ 20
short_at lines at d line h e s =
    let P : List (List ℕ) → Type 0 = λ x. All (λ (y : List ℕ). length y ≤ 2 ^ 20) x in
    let a = subst P (texts_drop lines at ∙ texts_more lines at d line h e) (All-drop (λ x. length x ≤ 2 ^ 20) at (texts lines) s.each) in
    All-head (λ x. length x ≤ 2 ^ 20) line (texts (drop (at + 1) lines)) a

pub past_step : (all bs : List ℕ) (b : ℕ) → all ≡ b ∷ bs → is_blank b ≡ true → past_blanks all ≡ past_blanks bs
past_step all bs b e blank = rw (e, blank) refl

pub past_utf8 : (all bs : List ℕ) (b : ℕ) → all ≡ b ∷ bs → is_blank b ≡ true → IsUtf8 all → IsUtf8 bs
past_utf8 all bs b e blank u = let P : List ℕ → Type 0 = λ x. IsUtf8 x in utf8_tail b bs (small_blank b blank) (subst P e u)

pub before_step : (all bs : List ℕ) (b : ℕ) → all ≡ bs ++ (b ∷ []) → is_blank b ≡ true → before_blanks all ≡ before_blanks bs
before_step all bs b e blank = rw (e, reverse-append bs (b ∷ []), blank) refl

pub slice_rest : (xs : List ℕ) (n : ℕ) → take (length xs - n) (drop n xs) ≡ drop n xs
slice_rest xs n = grind (arith, common_steps)

marks_step : (b : ℕ) (bs : List ℕ) (at : ℕ) (tab : Bool) → ((t : Bool) → IsUtf8 bs → IsUtf8 (marks_at (at + 1) t bs).content) → (v : Bool) → is_blank b ≡ v → (w : Bool) → is_sign 45 b bs ≡ w → IsUtf8 (b ∷ bs) → IsUtf8 (marks_at at tab (b ∷ bs)).content
marks_step b bs at tab more true e w f u = rw e (more (tab || (b == 9)) (utf8_tail b bs (small_blank b e) u))
marks_step b bs at tab more false e true f u = rw (e, f) (more false (utf8_tail b bs (small_sign b bs f) u))
marks_step b bs at tab more false e false f u = rw (e, f) u

marks_from : (at : ℕ) (tab : Bool) (bs : List ℕ) → IsUtf8 bs → IsUtf8 (marks_at at tab bs).content
marks_from at tab [] u = u
marks_from at tab (b ∷ bs) u = marks_step b bs at tab (λ t v. marks_from (at + 1) t bs v) (is_blank b) refl (is_sign 45 b bs) refl u

uncommented_by : (b : ℕ) (bs : List ℕ) (v : Bool) → eqb b 35 ≡ v → IsUtf8 (b ∷ bs) → IsUtf8 (without_comment (b ∷ bs))
uncommented_by b bs true e u = rw e IsUtf8-nil
uncommented_by b bs false e u = rw e u

uncommented : (bs : List ℕ) → IsUtf8 bs → IsUtf8 (without_comment bs)
uncommented [] u = u
uncommented (b ∷ bs) u = uncommented_by b bs (eqb b 35) refl u

pub marks_utf8 : (line content : List ℕ) → content ≡ (marks_of line).content → IsUtf8 line → IsUtf8 content
marks_utf8 line content e u = let P : List ℕ → Type 0 = λ x. IsUtf8 x in subst P (sym e) (uncommented (marks_at 0 false line).content (marks_from 0 false line u))

-- what follows a colon
pub rest_after : (text : List ℕ) (at : ℕ) → at < length text → get_or text at 0 ≡ 58 → IsUtf8 text → IsRest text (take (length text - (at + 1)) (drop (at + 1) text))
rest_after text at h e u = rw (slice_rest text (at + 1)) (record { utf8 = IsUtf8-drop text (at + 1) u (IsCharBoundary-after_ascii text at u h (omega (arith, e))); len = omega (arith, length-drop (at + 1) text) })

pub rest_behind : (text blanks rest : List ℕ) → blanks ≡ 58 ∷ rest → IsUtf8 blanks → length blanks ≤ length text → IsRest text rest
rest_behind text blanks rest e u h =
    let P : List ℕ → Type 0 = λ x. IsUtf8 x in
    record { utf8 = utf8_tail 58 rest (omega arith) (subst P e u); len = omega (arith, ap length e) }

pub quoted_none : (text : List ℕ) (len : ℕ) → (IsUtf8 (take (length text - len) (drop len text)) → ⊥) → None ≡ quoted_key text len
quoted_none text len wrong = let n = rw (slice_rest text len) at (not_text (take (length text - len) (drop len text)) wrong) in rw n refl

pub quoted_some : (text rest content : List ℕ) (len : ℕ) → IsUtf8 (take (length text - len) (drop len text)) → Some rest ≡ past_sign 58 (past_blanks (take (length text - len) (drop len text))) → Some content ≡ unquoted (take len text) → Some (keyed content rest) ≡ quoted_key text len
quoted_some text rest content len u r c =
    let t = rw (slice_rest text len) at (is_utf8-from_IsUtf8 (take (length text - len) (drop len text)) u) in
    let q = rw (slice_rest text len) at r in
    rw (t, ← q, ← c) refl

pub rest_from : {A : Type 0} (content : List ℕ) (k : A × Bor (List ℕ)) (a : A) (r : Bor (List ℕ)) → k ≡ (a, r) → IsRest content r.now → IsRest content k.1.now
rest_from {A = A} content k a r e is = let P : A × Bor (List ℕ) → Type 0 = λ x. IsRest content x.1.now in subst P (sym e) is
