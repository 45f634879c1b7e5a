-- Characters that stand in a text from one place to another.
use Rattle.std.proofs.Common.{◌≡◌, ℕ, ◌+◌, ◌≤◌, ◌==◌, Bool, true, false, List, [], ◌∷◌, ◌++◌, length, take, drop, refl, sym, ap, ◌∙◌, subst, arith, append_assoc, eqb-true, length-append}
use Rattle.std.specs.Prelude.{encode_utf8, encode_utf8_all, if◌then◌else◌}
use Rattle.std.specs.Str.{chars, all_scalars, IsUtf8, IsCharBoundary}
use Rattle.std.proofs.lemmas.List.{append-nil, drop_at, drop-drop}
use Rattle.std.proofs.lemmas.Str.{encodes-append, encodes-chars, scalars-chars, length-encode, IsUtf8-nil, IsUtf8-append, IsUtf8-drop, IsCharBoundary-from_drop}
use Rattle.lexing.specs.Mark.{past_mark, mark_len}
use Rattle.node_tree.specs.Span.{LiesIn}
use Rattle.lexing.proofs.Pieces.{seam}
use Rattle.std.proofs.lemmas.Str.{chars-encodes, IsUtf8-take}

-- of characters both parts are characters
both : (front left : List ℕ) → all_scalars (front ++ left) ≡ true → (all_scalars front ≡ true) × (all_scalars left ≡ true)
both front left h =
    let bytes = encode_utf8_all (front ++ left) in
    let u : IsUtf8 bytes = (front ++ left, (h, refl)) in
    let n = length (encode_utf8_all front) in
    let k = seam bytes front left n u (chars-encodes (front ++ left) h) refl in
    (ap all_scalars (sym k.front_chars) ∙ scalars-chars (take n bytes) (IsUtf8-take bytes n u k.boundary), ap all_scalars (sym k.rest_chars) ∙ scalars-chars (drop n bytes) (IsUtf8-drop bytes n u k.boundary))

-- from one place of the text to another stand these characters, and whole characters behind them
pub record Stands (text : List ℕ) (at : ℕ) (cs : List ℕ) (to : ℕ) : Type 0 where
  pub back : List ℕ
  pub stands : drop at text ≡ encode_utf8_all cs ++ back
  pub scalars : all_scalars cs ≡ true
  pub utf8_back : IsUtf8 back
  pub ends : at + length (encode_utf8_all cs) ≡ to
  pub within : to ≤ length text

pub cut : {text cs : List ℕ} {at to : ℕ} → Stands text at cs to → IsCharBoundary text at
cut {text = text} {cs = cs} {at = at} s =
    IsCharBoundary-from_drop text at (omega (arith, s.ends, s.within)) (subst (λ (x : List ℕ). IsUtf8 x) (sym s.stands) (IsUtf8-append (encode_utf8_all cs) s.back (cs, (s.scalars, refl)) s.utf8_back))

cut_end : {text cs : List ℕ} {at to : ℕ} → Stands text at cs to → IsCharBoundary text to
cut_end {text = text} {cs = cs} {at = at} {to = to} s =
    IsCharBoundary-from_drop text to s.within (subst (λ (x : List ℕ). IsUtf8 x) (sym (sym (ap (λ (n : ℕ). drop n text) s.ends) ∙ sym (drop-drop (length (encode_utf8_all cs)) at text) ∙ ap (drop (length (encode_utf8_all cs))) s.stands ∙ drop_at (encode_utf8_all cs) s.back (length (encode_utf8_all cs)) refl)) s.utf8_back)

pub front_stands : {text cs : List ℕ} {at to : ℕ} (front left : List ℕ) → Stands text at cs to → cs ≡ front ++ left → Stands text at front (at + length (encode_utf8_all front))
front_stands {text = text} {cs = cs} {at = at} {to = to} front left s parts =
    let e : encode_utf8_all cs ≡ encode_utf8_all front ++ encode_utf8_all left = ap encode_utf8_all parts ∙ encodes-append front left in
    let all : all_scalars (front ++ left) ≡ true = ap all_scalars (sym parts) ∙ s.scalars in
    record {
      back = encode_utf8_all left ++ s.back;
      stands = s.stands ∙ ap (λ (x : List ℕ). x ++ s.back) e ∙ append_assoc (encode_utf8_all front) (encode_utf8_all left) s.back;
      scalars = (both front left all).0;
      utf8_back = IsUtf8-append (encode_utf8_all left) s.back (left, ((both front left all).1, refl)) s.utf8_back;
      ends = refl;
      within = omega (arith, s.ends, s.within, ap length e, length-append (encode_utf8_all front) (encode_utf8_all left));
    }

pub left_stands : {text cs : List ℕ} {at to : ℕ} (front left : List ℕ) → Stands text at cs to → cs ≡ front ++ left → Stands text (at + length (encode_utf8_all front)) left to
left_stands {text = text} {cs = cs} {at = at} {to = to} front left s parts =
    let e : encode_utf8_all cs ≡ encode_utf8_all front ++ encode_utf8_all left = ap encode_utf8_all parts ∙ encodes-append front left in
    let n = length (encode_utf8_all front) in
    record {
      back = s.back;
      stands = sym (drop-drop n at text) ∙ ap (drop n) (s.stands ∙ ap (λ (x : List ℕ). x ++ s.back) e ∙ append_assoc (encode_utf8_all front) (encode_utf8_all left) s.back) ∙ drop_at (encode_utf8_all front) (encode_utf8_all left ++ s.back) n refl;
      scalars = (both front left (ap all_scalars (sym parts) ∙ s.scalars)).1;
      utf8_back = s.utf8_back;
      ends = omega (arith, s.ends, ap length e, length-append (encode_utf8_all front) (encode_utf8_all left));
      within = s.within;
    }

pub lies : {text cs : List ℕ} {at to : ℕ} → Stands text at cs to → LiesIn text (record { from = at; to = to })
lies s = record { ordered = omega (arith, s.ends); begins = cut s; ends = cut_end s }

pub whole : (text : List ℕ) → IsUtf8 text → Stands text 0 (chars text) (length text)
whole text u = record {
  back = [];
  stands = sym (append-nil (encode_utf8_all (chars text)) ∙ encodes-chars text u);
  scalars = scalars-chars text u;
  utf8_back = IsUtf8-nil;
  ends = omega (arith, ap length (encodes-chars text u));
  within = omega arith;
}

pub past : (text cs : List ℕ) (to : ℕ) → Stands text 0 cs to → Stands text (mark_len cs) (past_mark cs) to
past text [] to s = s
past text (c ∷ cs) to s = by_mark (c == 0xfeff) refl
  where
    by_mark : (b : Bool) → (c == 0xfeff) ≡ b → Stands text (if b then 3 else 0) (if b then cs else c ∷ cs) to
    by_mark true e =
        let k : 0 + length (encode_utf8_all (c ∷ [])) ≡ 3 = ap (λ (x : ℕ). 0 + length (encode_utf8 x ++ [])) (eqb-true c 0xfeff e) ∙ ap (λ (n : ℕ). 0 + n) (length-append (encode_utf8 0xfeff) [] ∙ ap (λ (n : ℕ). n + 0) (length-encode 0xfeff)) in
        subst (λ (n : ℕ). Stands text n cs to) k (left_stands (c ∷ []) cs s refl)
    by_mark false e = s
