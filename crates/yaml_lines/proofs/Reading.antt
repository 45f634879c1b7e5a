-- One step through the lines of a text.
use Rattle.std.proofs.Common.{◌≡◌, ℕ, suc, ◌+◌, ◌-◌, ◌<◌, ◌≤◌, Bool, true, false, List, [], ◌∷◌, ◌++◌, length, get_or, drop, take, Option, None, Result, Ok, Err, refl, sym, ap, ◌∙◌, subst, arith, append_assoc, length-drop, length-take, ◌^◌, eqb}
use Rattle.std.specs.Prelude.{All}
use Rattle.std.specs.List.{slice_split, onto_first}
use Rattle.std.specs.Str.{IsUtf8}
use Rattle.std.specs.Str.Lines.{lines, lines_of_parts, strip_carriage_return}
use Rattle.std.proofs.lemmas.Str.{is_utf8-from_IsUtf8}
use Rattle.std.specs.Borrow.{Bor}
use Rattle.yaml_lines.specs.Blanks.{is_skipped}
use Rattle.yaml_lines.specs.Body.{texts}
use Rattle.yaml_lines.specs.Lines.{Head, head_of, feature_of, holder_of, line_of, value_with, value_unless, Gives, lines_of, past_order_mark, is_first_mark, lines_at, with_line, value_of, go_on}
use Rattle.yaml_lines.specs.declared.line.YLine.{YLine}
use Rattle.yaml_lines.specs.declared.read.Value.{Value}
use Rattle.yaml_lines.specs.declared.fault.YFault.{YFault}
use Rattle.yaml_lines.specs.declared.fault.YFault.TheVariants.{Memory, NotUtf8, OutsideProfile, NoValue}
use Rattle.std.proofs.lemmas.List.{take-map, drop-drop, take_all}
use Rattle.std.proofs.lemmas.List.Elements.{All-drop, All-nil, All-cons}
use Rattle.yaml_lines.specs.Body.{AreShort, body_len}
use Rattle.yaml_lines.specs.declared.fault.Feature.{Feature}
use Rattle.yaml_lines.proofs.Steps.{texts_more, texts_drop, not_text}

-- lines before those that are still to come
abbrev pub with_lines : List YLine → Result (List YLine) YFault → Result (List YLine) YFault
with_lines ls (Ok more) = Ok (ls ++ more)
with_lines ls (Err e) = Err e

pub with_lines-push : (ls : List YLine) (l : YLine) (r : Result (List YLine) YFault) → with_lines ls (with_line l r) ≡ with_lines (ls ++ (l ∷ [])) r
with_lines-push ls l (Ok more) = ap Ok (sym (append_assoc ls (l ∷ []) more))
with_lines-push ls l (Err e) = refl

-- the number of steps left, as one more than after this one
less : (n turn : ℕ) → turn < n → n - turn ≡ suc (n - (turn + 1))
less n turn h = omega arith

pub lines_skip : (all : List (Bor (List ℕ))) (turn at : ℕ) (fresh : Bool) (above : Option ℕ) (d : Bor (List ℕ)) (line : List ℕ) → turn < length all → at < length all → line ≡ (get_or all at d).now → is_skipped line ≡ true → lines_at (length all - turn) at fresh above (texts (drop at all)) ≡ lines_at (length all - (turn + 1)) (at + 1) fresh above (texts (drop (at + 1) all))
lines_skip all turn at fresh above d line t h e skipped = rw (texts_more all at d line h e, less (length all) turn t, skipped) refl

pub lines_start : (all : List (Bor (List ℕ))) (turn at : ℕ) (fresh : Bool) (above : Option ℕ) (d : Bor (List ℕ)) (line : List ℕ) → turn < length all → at < length all → line ≡ (get_or all at d).now → is_skipped line ≡ false → is_first_mark fresh line ≡ true → lines_at (length all - turn) at fresh above (texts (drop at all)) ≡ lines_at (length all - (turn + 1)) (at + 1) false above (texts (drop (at + 1) all))
lines_start all turn at fresh above d line t h e content start = rw (texts_more all at d line h e, less (length all) turn t, content, start) refl

pub lines_value : (all : List (Bor (List ℕ))) (turn at : ℕ) (fresh : Bool) (above : Option ℕ) (d : Bor (List ℕ)) (line : List ℕ) (r : Result Value YFault) → turn < length all → at < length all → line ≡ (get_or all at d).now → is_skipped line ≡ false → is_first_mark fresh line ≡ false → r ≡ value_of (at + 1) above line (texts (drop (at + 1) all)) → lines_at (length all - turn) at fresh above (texts (drop at all)) ≡ go_on (λ n holder rest. lines_at (length all - (turn + 1)) n false holder rest) (at + 1) (texts (drop (at + 1) all)) r
lines_value all turn at fresh above d line r t h e content no_start v = rw (texts_more all at d line h e, less (length all) turn t, content, no_start, v) refl

-- after a value the lines that are left are read
pub goes_on : (ls : List YLine) (read : ℕ → Option ℕ → List (List ℕ) → Result (List YLine) YFault) (number : ℕ) (rest : List (List ℕ)) (v : Value) → with_lines ls (go_on read number rest (Ok v)) ≡ with_lines (ls ++ (v.line ∷ [])) (read (number + v.len) v.holder (drop v.len rest))
goes_on ls read number rest v = with_lines-push ls v.line (read (number + v.len) v.holder (drop v.len rest))

pub drop_texts : (all : List (Bor (List ℕ))) (k n : ℕ) → drop n (texts (drop k all)) ≡ texts (drop (k + n) all)
drop_texts all k n = texts_drop (drop k all) n ∙ ap texts (drop-drop n k all)

pub slice_lines : (all : List (Bor (List ℕ))) (n : ℕ) → take (length all - n) (drop n all) ≡ drop n all
slice_lines all n = take_all (length all - n) (drop n all) (omega (arith, length-drop n all))

pub short_below : (all : List (Bor (List ℕ))) (n : ℕ) → AreShort (texts all) → AreShort (texts (take (length all - n) (drop n all)))
short_below all n s =
    let P : List (List ℕ) → Type 0 = λ x. AreShort x in
    let e : drop n (texts all) ≡ texts (take (length all - n) (drop n all)) = texts_drop all n ∙ ap texts (sym (slice_lines all n)) in
    subst P e (record { few = omega (arith, length-drop n (texts all), s.few); each = All-drop (λ l. length l ≤ 2 ^ 20) n (texts all) s.each })

-- a refusal is that of the value that was read last
pub gives_err : (ls : List YLine) (read : ℕ → Option ℕ → List (List ℕ) → Result (List YLine) YFault) (number : ℕ) (rest : List (List ℕ)) (wanted : Result Value YFault) (e : YFault) → Gives wanted (Err e) → Gives (with_lines ls (go_on read number rest wanted)) (Err e)
gives_err ls read number rest wanted Memory g = tt
gives_err ls read number rest wanted NotUtf8 g = ap (λ (x : Result Value YFault). with_lines ls (go_on read number rest x)) g
gives_err ls read number rest wanted (OutsideProfile f n) g = ap (λ (x : Result Value YFault). with_lines ls (go_on read number rest x)) g
gives_err ls read number rest wanted NoValue g = ap (λ (x : Result Value YFault). with_lines ls (go_on read number rest x)) g

pub gives_same : {X : Type 0} (wanted other r : Result X YFault) → wanted ≡ other → Gives other r → Gives wanted r
gives_same {X = X} wanted other r e g = let P : Result X YFault → Type 0 = λ x. Gives x r in subst P (sym e) g

length-texts : (all : List (Bor (List ℕ))) → length (texts all) ≡ length all
length-texts [] = refl
length-texts (l ∷ ls) = ap suc (length-texts ls)

pub lines_given : (bytes text : List ℕ) (all : List (Bor (List ℕ))) (r : Result (List YLine) YFault) → text ≡ past_order_mark bytes → IsUtf8 text → texts all ≡ lines text → Gives (lines_at (length all) 0 true None (texts all)) r → Gives (lines_of bytes) r
lines_given bytes text all r t u e g =
    let n = length-texts all in
    let w : lines_of bytes ≡ lines_at (length all) 0 true None (texts all) = rw (← t, is_utf8-from_IsUtf8 text u, ← e, n) refl in
    gives_same (lines_of bytes) (lines_at (length all) 0 true None (texts all)) r w g

pub lines_refused : (bytes text : List ℕ) → text ≡ past_order_mark bytes → (IsUtf8 text → ⊥) → Err NotUtf8 ≡ lines_of bytes
lines_refused bytes text t wrong = rw (← t, not_text text wrong) refl

-- lines of at most so many bytes
abbrev pub Short : ℕ → List (List ℕ) → Type 0
Short n [] = Unit {0}
Short n (l ∷ ls) = (length l ≤ n) × Short n ls

longer : (n m : ℕ) (ls : List (List ℕ)) → n ≤ m → Short n ls → Short m ls
longer n m [] h s = tt
longer n m (l ∷ ls) h (a, s) = (omega arith, longer n m ls h s)

all_short : (n : ℕ) (ls : List (List ℕ)) → Short n ls → All (λ l. length l ≤ n) ls
all_short n [] s = All-nil (λ l. length l ≤ n)
all_short n (l ∷ ls) (a, s) = All-cons (λ l. length l ≤ n) l ls a (all_short n ls s)

onto_short : (b n : ℕ) (ls : List (List ℕ)) → Short n ls → Short (suc n) (onto_first b ls) × (length (onto_first b ls) ≤ suc (length ls))
onto_short b n [] s = ((omega arith, tt), omega arith)
onto_short b n (l ∷ ls) (a, s) = ((omega arith, longer n (suc n) ls (omega arith) s), omega arith)

split_step : (p : ℕ → Bool) (b : ℕ) (bs : List ℕ) (v : Bool) → p b ≡ v → Short (length bs) (slice_split p bs) → length (slice_split p bs) ≤ suc (length bs) → Short (suc (length bs)) (slice_split p (b ∷ bs)) × (length (slice_split p (b ∷ bs)) ≤ suc (suc (length bs)))
split_step p b bs true e s n = rw e ((omega arith, longer (length bs) (suc (length bs)) (slice_split p bs) (omega arith) s), omega arith)
split_step p b bs false e s n = let o = onto_short b (length bs) (slice_split p bs) s in rw e (o.0, omega (arith, o.1))

split_short : (p : ℕ → Bool) (bs : List ℕ) → Short (length bs) (slice_split p bs) × (length (slice_split p bs) ≤ suc (length bs))
split_short p [] = ((omega arith, tt), omega arith)
split_short p (b ∷ bs) = let r = split_short p bs in split_step p b bs (p b) refl r.0 r.1

stripped : (l : List ℕ) (v : Bool) → eqb (get_or l (length l - 1) 0) 13 ≡ v → length (strip_carriage_return l) ≤ length l
stripped l true e = rw e (omega (arith, length-take (length l - 1) l))
stripped l false e = rw e (omega arith)

last_short : (n : ℕ) (l : List ℕ) (v : Bool) → eqb (length l) 0 ≡ v → length l ≤ n → Short n (lines_of_parts (l ∷ [])) × (length (lines_of_parts (l ∷ [])) ≤ 1)
last_short n l true e a = rw e (tt, omega arith)
last_short n l false e a = rw e ((a, tt), omega arith)

parts_short : (n : ℕ) (ls : List (List ℕ)) → Short n ls → Short n (lines_of_parts ls) × (length (lines_of_parts ls) ≤ length ls)
parts_short n [] s = (tt, omega arith)
parts_short n (l ∷ []) (a, s) = last_short n l (eqb (length l) 0) refl a
parts_short n (l ∷ k ∷ ls) (a, s) =
    let r = parts_short n (k ∷ ls) s in
    let c = stripped l (eqb (get_or l (length l - 1) 0) 13) refl in
    ((omega (arith, c), r.0), omega (arith, r.1))

pub short_lines : (text : List ℕ) → length text ≤ 1000000 → AreShort (lines text)
short_lines text h =
    let s = split_short (λ b. eqb b 10) text in
    let r = parts_short (length text) (slice_split (λ b. eqb b 10) text) s.0 in
    record { few = omega (arith, r.1, s.1); each = all_short (2 ^ 20) (lines text) (longer (length text) (2 ^ 20) (lines text) (omega arith) r.0) }

value_parts : (number : ℕ) (above : Option ℕ) (line : List ℕ) (h : Head) (below : List (List ℕ)) (holder : Option ℕ) → holder ≡ holder_of line h above → (len : ℕ) → len ≡ body_len h.value h.scanned holder below → (l : YLine) → l ≡ line_of number line h (take len below) → ◌≡◌ {A = Value} (record { line = l; holder = holder; len = len }) (value_with number above line h below)
value_parts number above line h below holder e len f l g =
    let A : YLine → Type 0 = λ y. ◌≡◌ {A = Value} (record { line = y; holder = holder; len = len }) (value_with number above line h below) in
    let B : ℕ → Type 0 = λ n. ◌≡◌ {A = Value} (record { line = line_of number line h (take n below); holder = holder; len = n }) (value_with number above line h below) in
    let C : Option ℕ → Type 0 = λ o. ◌≡◌ {A = Value} (record { line = line_of number line h (take (body_len h.value h.scanned o below) below); holder = o; len = body_len h.value h.scanned o below }) (value_with number above line h below) in
    subst A (sym g) (subst B (sym f) (subst C (sym e) refl))

pub value_is : (number : ℕ) (above : Option ℕ) (line : List ℕ) (h : Head) (below : List (Bor (List ℕ))) (holder : Option ℕ) (len : ℕ) (l : YLine) → h ≡ head_of line → None ≡ feature_of line h → holder ≡ holder_of line h above → len ≡ body_len h.value h.scanned holder (texts below) → l ≡ line_of number line h (texts (take len below)) → Ok (record { line = l; holder = holder; len = len }) ≡ value_of number above line (texts below)
value_is number above line h below holder len l e f o n g =
    let v : Value = record { line = l; holder = holder; len = len } in
    let cut = g ∙ ap (line_of number line h) (sym (take-map (λ (x : Bor (List ℕ)). x.now) len below)) in
    let Q : Option Feature → Type 0 = λ x. ◌≡◌ {A = Result Value YFault} (Ok v) (value_unless x number above line h (texts below)) in
    let P : Head → Type 0 = λ x. ◌≡◌ {A = Result Value YFault} (Ok v) (value_unless (feature_of line x) number above line x (texts below)) in
    subst P e (subst Q f (ap Ok (value_parts number above line h (texts below) holder o len n l cut)))
