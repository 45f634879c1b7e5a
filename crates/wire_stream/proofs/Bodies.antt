-- Bodies, as far as they were read.
use Rattle.std.proofs.Common.{◌≡◌, ℕ, zero, suc, ◌+◌, ◌-◌, ◌<◌, ◌≤◌, List, [], ◌∷◌, ◌++◌, length, take, drop, refl, sym, ap, ◌∙◌, arith, append_assoc, append-nil, length-append}
use Rattle.std.specs.Prelude.{Option, min}
use Rattle.std.specs.Io.KnownBytes.{Keeps}
use Rattle.std.proofs.lemmas.List.{length-take, take-append-drop, take_all}
use Rattle.wire_stream.specs.Bodies.{IsEmpty, IsNoEnd, IsFront, IsNoFront, IsWhole, IsNoWhole}
use Rattle.wire_stream.specs.Fronts.{WaitsWithin}
use Rattle.wire_stream.specs.Streams.{Uses, OfStream}
use Rattle.wire_stream.proofs.Firsts.{same_fronts}
use Rattle.wire_stream.proofs.Streams.{uses_hand, uses_nothing, uses_then, uses_to_end, told_before, told_also}

-- this much of the body was used, and its first bytes are kept
pub record Reading (left_old left_new : Option (List ℕ)) (hand_old hand_new : List ℕ) (size most left : ℕ) (kept : List ℕ) : Type 0 where
  pub body : List ℕ
  pub counted : length body + left ≡ size
  pub is : kept ≡ take most body
  pub uses : Uses left_old left_new hand_old hand_new body

pub kept_within : (kept body : List ℕ) (most : ℕ) → kept ≡ take most body → length kept ≤ most
kept_within kept body most e = let n : length kept ≡ length (take most body) = ap length e in let m = length-take most body in omega arith

take_append : (m : ℕ) (xs ys : List ℕ) → take m (xs ++ ys) ≡ take m xs ++ take (m - length (take m xs)) ys
take_append zero xs ys = refl
take_append (suc m) [] ys = let e : suc m ≡ suc m - 0 = omega arith in ap (λ (k : ℕ). take k ys) e
take_append (suc m) (x ∷ xs) ys =
    let e : m - length (take m xs) ≡ suc m - suc (length (take m xs)) = omega arith in
    ap (λ (l : List ℕ). x ∷ l) (take_append m xs ys ∙ ap (λ (k : ℕ). take m xs ++ take k ys) e)

pub reading_start : (a : Option (List ℕ)) (h : List ℕ) (size most : ℕ) (kept : List ℕ) → kept ≡ [] → Reading a a h h size most size kept
reading_start a h size most kept e = record { body = []; counted = omega arith; is = e ∙ sym (take_all most [] (omega arith)); uses = uses_nothing a h }

-- after a piece
pub reading_more : (a b c : Option (List ℕ)) (h k m m2 : List ℕ) (size most left n : ℕ) (kept kept2 : List ℕ) → Reading a b h k size most left kept → Uses b c k m []
    → n ≡ min (length m) left → m2 ≡ drop n m → kept2 ≡ kept ++ take (most - length kept) (take n m) → Reading a c h m2 size most (left - n) kept2
reading_more a b c h k m m2 size most left n kept kept2 r u count rest keeps =
    let piece = take n m in
    let len : length piece ≡ min n (length m) = length-take n m in
    let all : length (r.body ++ piece) ≡ length r.body + length piece = length-append r.body piece in
    let counted = r.counted in
    let parts : m ≡ piece ++ m2 = sym (take-append-drop n m) ∙ ap (λ (l : List ℕ). piece ++ l) (sym rest) in
    let room : kept ++ take (most - length kept) piece ≡ take most r.body ++ take (most - length (take most r.body)) piece = ap (λ (l : List ℕ). l ++ take (most - length l) piece) r.is in
    record {
      body = r.body ++ piece;
      counted = omega arith;
      is = keeps ∙ room ∙ sym (take_append most r.body piece);
      uses = uses_then a b c h k m2 r.body piece r.uses (uses_then b c c k m m2 [] piece u (uses_hand c m m2 piece parts));
    }

pub reading_done : (a b : Option (List ℕ)) (h k : List ℕ) (size most left : ℕ) (kept : List ℕ) → left ≡ 0 → Reading a b h k size most left kept → IsFront a b h k size most kept
reading_done a b h k size most left kept z r = let counted = r.counted in record { body = r.body; whole = omega arith; is = r.is; uses = r.uses }

-- where nothing more comes
pub reading_short : (a b : Option (List ℕ)) (h k : List ℕ) (size most left : ℕ) (kept : List ℕ) → 0 < left → Reading a b h k size most left kept → OfStream b k IsEmpty → OfStream a h (IsNoFront size)
reading_short a b h k size most left kept some r none = told_before a b h k r.body (IsNoFront size) IsEmpty r.uses (λ s e. too_short s e) none
  where
    too_short : (s : List ℕ) → IsEmpty s → IsNoFront size (r.body ++ s)
    too_short s e body rest n same =
        let counted = r.counted in
        let whole : r.body ≡ body ++ rest = sym (append-nil r.body) ∙ ap (λ (l : List ℕ). r.body ++ l) (sym e) ∙ same in
        let l : length r.body ≡ length body + length rest = ap length whole ∙ length-append body rest in
        absurd (omega arith)

-- where a read fails
pub reading_waits : (a b c : Option (List ℕ)) (h k : List ℕ) (size most left : ℕ) (kept : List ℕ) → Reading a b h k size most left kept → k ≡ [] → Keeps b c → WaitsWithin a c h size
reading_waits a b c h k size most left kept r none keeps = let counted = r.counted in (r.body, omega arith, uses_to_end a b c h k r.body r.uses none keeps)

-- ---- the body and its end

pub whole_of : (a b c : Option (List ℕ)) (h k m : List ℕ) (size most : ℕ) (kept : List ℕ) → IsFront a b h k size most kept → Uses b c k m (10 ∷ []) → IsWhole a c h m size most kept
whole_of a b c h k m size most kept f u = record { body = f.body; whole = f.whole; is = f.is; uses = uses_then a b c h k m f.body (10 ∷ []) f.uses u }

pub no_front_no_whole : (a : Option (List ℕ)) (h : List ℕ) (size : ℕ) → OfStream a h (IsNoFront size) → OfStream a h (IsNoWhole size)
no_front_no_whole a h size none = told_also a h (IsNoWhole size) (IsNoFront size) (λ s f body rest n e. f body ((10 ∷ []) ++ rest) n (e ∙ append_assoc body (10 ∷ []) rest)) none

pub no_end_no_whole : (a b : Option (List ℕ)) (h k : List ℕ) (size most : ℕ) (kept : List ℕ) → IsFront a b h k size most kept → OfStream b k IsNoEnd → OfStream a h (IsNoWhole size)
no_end_no_whole a b h k size most kept f none = told_before a b h k f.body (IsNoWhole size) IsNoEnd f.uses (λ s e. no_end s e) none
  where
    no_end : (s : List ℕ) → IsNoEnd s → IsNoWhole size (f.body ++ s)
    no_end s e body rest n same =
        let t = same_fronts f.body body s ((10 ∷ []) ++ rest) (f.whole ∙ sym n) (same ∙ append_assoc body (10 ∷ []) rest) in
        e rest t.1

pub end_waits : (a b c : Option (List ℕ)) (h k : List ℕ) (size most : ℕ) (kept : List ℕ) → IsFront a b h k size most kept → k ≡ [] → Keeps b c → WaitsWithin a c h size
end_waits a b c h k size most kept f none keeps = let n = f.whole in (f.body, omega arith, uses_to_end a b c h k f.body f.uses none keeps)
