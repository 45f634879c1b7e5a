-- A piece of a text, from the longest accepted front of its characters.
use Rattle.std.proofs.Common.{◌≡◌, ◌≢◌, ℕ, suc, ◌-◌, ◌<◌, ◌≤◌, true, List, [], ◌∷◌, ◌++◌, length, take, drop, refl, sym, ap, ◌∙◌, subst, arith}
use Rattle.std.specs.Prelude.{encode_utf8_all}
use Rattle.std.specs.Str.{IsUtf8, IsCharBoundary, chars, all_scalars}
use Rattle.std.proofs.lemmas.Bool.{and_parts}
use Rattle.std.proofs.lemmas.Str.{encodes-append, encodes-chars, scalars-chars, chars-encodes, IsCharBoundary-at_seam, length-le-encodes}
use Rattle.std.proofs.Math.Seq.{take-append_seam, drop-append_seam}
use Rattle.lexing.specs.Rules.{Rule, Spells, BeginsWithNone, IsSharp}
use Rattle.lexing.specs.Automaton.{Table, accepted, word_at, Accepts, IsBest, IsPiece}
use Rattle.lexing.specs.declared.automaton.Best.{Best}
use Rattle.lexing.proofs.Basics.{and_both}

scalars_left : (f r : List ℕ) → all_scalars (f ++ r) ≡ true → all_scalars f ≡ true
scalars_left [] r h = refl
scalars_left (c ∷ f) r h = let p = and_parts _ (all_scalars (f ++ r)) h in and_both _ (all_scalars f) p.0 (scalars_left f r p.1)

scalars_right : (f r : List ℕ) → all_scalars (f ++ r) ≡ true → all_scalars r ≡ true
scalars_right [] r h = h
scalars_right (c ∷ f) r h = scalars_right f r (and_parts _ (all_scalars (f ++ r)) h).1

-- where the longest front ends
pub record Seam (text : List ℕ) (front rest : List ℕ) (len : ℕ) : Type 0 where
  pub boundary : IsCharBoundary text len
  pub front_chars : chars (take len text) ≡ front
  pub rest_chars : chars (drop len text) ≡ rest
  pub spelled : encode_utf8_all front ≡ take len text
  pub front_len : length front ≤ length (take len text)

pub seam : (text front rest : List ℕ) (len : ℕ) → IsUtf8 text → chars text ≡ front ++ rest → len ≡ length (encode_utf8_all front) → Seam text front rest len
seam text front rest len u parts l =
    let s : all_scalars (front ++ rest) ≡ true = ap all_scalars (sym parts) ∙ scalars-chars text u in
    let e : text ≡ encode_utf8_all front ++ encode_utf8_all rest = sym (encodes-chars text u) ∙ ap encode_utf8_all parts ∙ encodes-append front rest in
    let f : take len text ≡ encode_utf8_all front = ap (λ (n : ℕ). take n text) l ∙ ap (take (length (encode_utf8_all front))) e ∙ take-append_seam (encode_utf8_all front) (encode_utf8_all rest) in
    let r : drop len text ≡ encode_utf8_all rest = ap (λ (n : ℕ). drop n text) l ∙ ap (drop (length (encode_utf8_all front))) e ∙ drop-append_seam (encode_utf8_all front) (encode_utf8_all rest) in
    record {
      boundary = subst (λ (n : ℕ). IsCharBoundary text n) (sym l) (IsCharBoundary-at_seam text (encode_utf8_all front) (encode_utf8_all rest) e (rest, (scalars_right front rest s, refl)));
      front_chars = ap chars f ∙ chars-encodes front (scalars_left front rest s);
      rest_chars = ap chars r ∙ chars-encodes rest (scalars_right front rest s);
      spelled = sym f;
      front_len = omega (arith, length-le-encodes front, ap length f);
    }

pub boundary : (m : Table) (start : ℕ) (text : List ℕ) (best : Best) → IsUtf8 text → IsBest (accepted m start) (chars text) best → IsCharBoundary text best.len
boundary m start text best u b = (seam text b.front b.rest best.len u b.parts b.len).boundary

pub takes_none : (m : Table) (start : ℕ) (rules : List Rule) (text : List ℕ) (best : Best) → Accepts m start rules → IsBest (accepted m start) (chars text) best → best.word ≡ 0 → BeginsWithNone rules (chars text)
takes_none m start rules text best acc b z = λ v front rest s e. let a = acc.complete front v s in let l = b.longest front rest e (omega arith) in omega (arith, l.1)

not_empty : (m : Table) (start : ℕ) (front : List ℕ) → word_at m start ≡ 0 → 0 < accepted m start front → 0 < length front
unfolding accepted
not_empty m start [] z some = absurd (omega arith)
not_empty m start (c ∷ front) z some = omega arith

-- an automaton gives a spelling one word, and gives none where it begins
sharp : (m : Table) (start : ℕ) (rules : List Rule) → word_at m start ≡ 0 → Accepts m start rules → IsSharp rules
unfolding accepted
sharp m start rules z acc = record {
  one_word = λ cs w v p q. (let a = acc.complete cs w p in let b = acc.complete cs v q in omega arith);
  some = λ w p. (let a = acc.complete [] w p in omega arith);
}

pub takes_some : (m : Table) (start : ℕ) (rules : List Rule) (text : List ℕ) (best : Best) (front rest : List ℕ) → IsUtf8 text → Accepts m start rules → word_at m start ≡ 0 → IsBest (accepted m start) (chars text) best → best.word ≢ 0
    → front ≡ take best.len text → rest ≡ drop best.len text → text ≡ front ++ rest → IsPiece rules text (best.word - 1) front rest
takes_some m start rules text best front rest u acc z b some ef er parts =
    let s = seam text b.front b.rest best.len u b.parts b.len in
    let cf : chars front ≡ b.front = ap chars ef ∙ s.front_chars in
    let cr : chars rest ≡ b.rest = ap chars er ∙ s.rest_chars in
    let w : accepted m start b.front ≡ suc (best.word - 1) = omega (arith, b.word) in
    record {
      parts = parts;
      begins = record {
        parts = b.parts ∙ ap (λ (x : List ℕ). x ++ b.rest) (sym cf) ∙ ap (λ (x : List ℕ). chars front ++ x) (sym cr);
        spells = subst (λ (x : List ℕ). Spells rules (best.word - 1) x) (sym cf) (acc.sound b.front (best.word - 1) w);
        longest = λ v longer after sp e. let a = acc.complete longer v sp in let l = b.longest longer after e (omega arith) in omega (arith, l.0, ap length cf);
      };
      spelled = ap encode_utf8_all cf ∙ s.spelled ∙ sym ef;
      some = omega (arith, not_empty m start b.front z (omega (arith, b.word)), s.front_len, ap length ef);
      sharp = sharp m start rules z acc;
    }
