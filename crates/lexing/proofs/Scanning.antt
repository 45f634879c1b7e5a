-- Reading from left to right finds the longest spelling.
use Rattle.std.proofs.Common.{◌≡◌, ℕ, zero, suc, ◌+◌, ◌<◌, ◌≤◌, ◌⊎◌, inl, inr, List, [], ◌∷◌, ◌++◌, length, refl, sym, ap, ◌∙◌, subst, arith, append_assoc, length-append, drop, take, get_or, ◌≢◌}
use Rattle.std.specs.Prelude.{encode_utf8_all, encode_utf8}
use Rattle.std.specs.Char.{len_utf8}
use Rattle.std.specs.Str.{chars, IsUtf8}
use Rattle.std.proofs.lemmas.Str.{encodes-append, encodes-chars, length-encode}
use Rattle.std.proofs.lemmas.List.{append-nil, at_drop_more, at_drop_all, take_more, take-append-drop}
use Rattle.std.specs.Prelude.{slice_index}
use Rattle.lexing.specs.Rules.{symbol}
use Rattle.lexing.specs.Automaton.{Table, step, word_at, IsWhole, accepted, IsBest}
use Rattle.lexing.specs.declared.automaton.Best.{Best}
use Rattle.lexing.proofs.Basics.{no_front, head_is, tail_is, cons_is}

-- the later of two places where the automaton accepts
abbrev pub better : Best → ℕ → ℕ → Best
better b zero len = b
better b (suc w) len = record { word = suc w; len = len }

-- the last place where the automaton accepts
unfoldable pub scan : Table → ℕ → ℕ → Best → List ℕ → Best
scan m s len best [] = best
scan m s len best (c ∷ cs) = scan m (step m s (symbol c)) (len + len_utf8 c) (better best (word_at m (step m s (symbol c))) (len + len_utf8 c)) cs

-- a front of what was read, with one more character
pub record FrontOf (read : List ℕ) (front rest : List ℕ) : Type 0 where
  pub others : List ℕ
  pub parts : read ≡ front ++ others

front_cases : (read front rest : List ℕ) (c : ℕ) → read ++ c ∷ [] ≡ front ++ rest → FrontOf read front rest ⊎ (front ≡ read ++ c ∷ [])
front_cases read [] rest c e = inl (record { others = read; parts = refl })
front_cases [] (x ∷ []) rest c e = inr (let h : x ≡ c = cc in ap (λ (y : ℕ). y ∷ []) h)
front_cases [] (x ∷ y ∷ front) rest c e = absurd (no_more y front rest (tail_is c x [] (y ∷ (front ++ rest)) e))
  where
    no_more : (y : ℕ) (front rest : List ℕ) → [] ≡ y ∷ (front ++ rest) → ⊥
    no_more y front rest h = cc
front_cases (r ∷ read) (x ∷ front) rest c e =
    elim (front_cases read front rest c (tail_is r x (read ++ c ∷ []) (front ++ rest) e)) [
      | inl f ↦ inl (record { others = f.others; parts = cons_is r x read (front ++ f.others) (head_is r x (read ++ c ∷ []) (front ++ rest) e) f.parts })
      | inr q ↦ inr (cons_is x r front (read ++ c ∷ []) (sym (head_is r x (read ++ c ∷ []) (front ++ rest) e)) q)
    ]

one_more : (acc : List ℕ → ℕ) (read : List ℕ) (best : Best) (c w len : ℕ) → IsBest acc read best → acc (read ++ c ∷ []) ≡ w → len ≡ length (encode_utf8_all (read ++ c ∷ [])) → IsBest acc (read ++ c ∷ []) (better best w len)
one_more acc read best c zero len b a l = record {
  front = b.front;
  rest = b.rest ++ c ∷ [];
  parts = ap (λ (x : List ℕ). x ++ c ∷ []) b.parts ∙ append_assoc b.front b.rest (c ∷ []);
  word = b.word;
  len = b.len;
  longest = λ longer after e some. old longer after some (front_cases read longer after c e);
}
  where
    old : (longer after : List ℕ) → 0 < acc longer → FrontOf read longer after ⊎ (longer ≡ read ++ c ∷ []) → (length longer ≤ length b.front) × (0 < best.word)
    old longer after some (inl f) = b.longest longer f.others f.parts some
    old longer after some (inr q) = absurd (omega (arith, ap acc q))
one_more acc read best c (suc w) len b a l = record {
  front = read ++ c ∷ [];
  rest = [];
  parts = sym (append-nil (read ++ c ∷ []));
  word = a;
  len = l;
  longest = λ longer after e some. (omega (arith, ap length e, length-append longer after), omega arith);
}

len_more : (read : List ℕ) (c len : ℕ) → len ≡ length (encode_utf8_all read) → len + len_utf8 c ≡ length (encode_utf8_all (read ++ c ∷ []))
len_more read c len e =
    let p = ap length (encodes-append read (c ∷ [])) in
    let q = length-append (encode_utf8_all read) (encode_utf8_all (c ∷ [])) in
    let r = length-append (encode_utf8 c) [] in
    omega (arith, length-encode c)

-- the bytes of the characters that were read, one more, and the whole text
pub record LenAt (text : List ℕ) (n len : ℕ) : Type 0 where
  pub is : len ≡ length (encode_utf8_all (take n (chars text)))
  pub within : len ≤ length text

pub len_at : (text : List ℕ) (n len c k : ℕ) → IsUtf8 text → (n < length (chars text)) × (c ≡ get_or (chars text) n c) → len ≡ length (encode_utf8_all (take n (chars text))) → k ≡ len_utf8 c → LenAt text (n + 1) (len + k)
len_at text n len c k u h e ek =
    let cs = chars text in
    let t : take (n + 1) cs ≡ take n cs ++ c ∷ [] = take_more cs n c h.0 ∙ ap (λ (x : ℕ). take n cs ++ x ∷ []) (sym h.1) in
    let l : len + k ≡ length (encode_utf8_all (take (n + 1) cs)) = ap (λ (x : ℕ). len + x) ek ∙ len_more (take n cs) c len e ∙ ap (λ (x : List ℕ). length (encode_utf8_all x)) (sym t) in
    let whole : text ≡ encode_utf8_all (take (n + 1) cs) ++ encode_utf8_all (drop (n + 1) cs) = sym (encodes-chars text u) ∙ ap encode_utf8_all (sym (take-append-drop (n + 1) cs)) ∙ encodes-append (take (n + 1) cs) (drop (n + 1) cs) in
    record { is = l; within = omega (arith, ap length whole, length-append (encode_utf8_all (take (n + 1) cs)) (encode_utf8_all (drop (n + 1) cs))) }

scan_best : (m : Table) (start : ℕ) (cs : List ℕ) (s len : ℕ) (best : Best) (read : List ℕ)
    → ((xs : List ℕ) → accepted m start (read ++ xs) ≡ accepted m s xs)
    → len ≡ length (encode_utf8_all read)
    → IsBest (accepted m start) read best
    → IsBest (accepted m start) (read ++ cs) (scan m s len best cs)
unfolding scan accepted
scan_best m start [] s len best read same l b = subst (λ (x : List ℕ). IsBest (accepted m start) x best) (sym (append-nil read)) b
scan_best m start (c ∷ cs) s len best read same l b =
    let assoc = append_assoc read (c ∷ []) cs in
    let next : (xs : List ℕ) → accepted m start ((read ++ c ∷ []) ++ xs) ≡ accepted m (step m s (symbol c)) xs = λ xs. ap (accepted m start) (append_assoc read (c ∷ []) xs) ∙ same (c ∷ xs) in
    let a : accepted m start (read ++ c ∷ []) ≡ word_at m (step m s (symbol c)) = same (c ∷ []) in
    let k = len_more read c len l in
    let h = scan_best m start cs (step m s (symbol c)) (len + len_utf8 c) (better best (word_at m (step m s (symbol c))) (len + len_utf8 c)) (read ++ c ∷ []) next k (one_more (accepted m start) read best c (word_at m (step m s (symbol c))) (len + len_utf8 c) b a k) in
    subst (λ (x : List ℕ). IsBest (accepted m start) x (scan m (step m s (symbol c)) (len + len_utf8 c) (better best (word_at m (step m s (symbol c))) (len + len_utf8 c)) cs)) assoc h

nothing_read : (m : Table) (start : ℕ) → accepted m start [] ≡ 0 → IsBest (accepted m start) [] (record { word = 0; len = 0 })
nothing_read m start z = record {
  front = [];
  rest = [];
  parts = refl;
  word = z;
  len = refl;
  longest = λ longer after e some. absurd (omega (arith, ap (accepted m start) (no_front longer after e)));
}

pub scan_is_best : (m : Table) (start : ℕ) (cs : List ℕ) → word_at m start ≡ 0 → IsBest (accepted m start) cs (scan m start 0 (record { word = 0; len = 0 }) cs)
unfolding accepted
scan_is_best m start cs z = scan_best m start cs start 0 (record { word = 0; len = 0 }) [] (λ xs. refl) refl (nothing_read m start z)

-- the first state has nothing but zeros
pub scan_dead : (m : Table) (cs : List ℕ) (len : ℕ) (best : Best) → ((y : ℕ) → step m 0 y ≡ 0) → word_at m 0 ≡ 0 → scan m 0 len best cs ≡ best
unfolding scan
scan_dead m [] len best d z = refl
scan_dead m (c ∷ cs) len best d z =
    ap (λ (x : ℕ). scan m x (len + len_utf8 c) (better best (word_at m x) (len + len_utf8 c)) cs) (d (symbol c))
    ∙ ap (λ (x : ℕ). scan m 0 (len + len_utf8 c) (better best x (len + len_utf8 c)) cs) z ∙ scan_dead m cs (len + len_utf8 c) best d z

-- one turn of the loop
pub stepped : (m : Table) (s len : ℕ) (best : Best) (cs : List ℕ) (n c y k : ℕ) (total : Best) → (n < length cs) × (c ≡ get_or cs n c) → y ≡ symbol c → k ≡ len_utf8 c → scan m s len best (drop n cs) ≡ total
    → scan m (step m s y) (len + k) (better best (word_at m (step m s y)) (len + k)) (drop (n + 1) cs) ≡ total
unfolding scan
stepped m s len best cs n c y k total h ey ek e =
    ap (λ (y : ℕ). scan m (step m s y) (len + k) (better best (word_at m (step m s y)) (len + k)) (drop (n + 1) cs)) ey
    ∙ ap (λ (k : ℕ). scan m (step m s (symbol c)) (len + k) (better best (word_at m (step m s (symbol c))) (len + k)) (drop (n + 1) cs)) ek
    ∙ ap (λ (d : ℕ). scan m (step m s (symbol d)) (len + len_utf8 d) (better best (word_at m (step m s (symbol d))) (len + len_utf8 d)) (drop (n + 1) cs)) h.1
    ∙ sym (at_drop_more (scan m s len best) cs n c h.0) ∙ e

pub better_some : (b : Best) (w len : ℕ) → w ≢ 0 → better b w len ≡ record { word = w; len = len }
better_some b zero len h = absurd (h refl)
better_some b (suc w) len h = refl

pub better_none : (b : Best) (w len : ℕ) → w ≡ 0 → better b w len ≡ b
better_none b zero len h = refl
better_none b (suc w) len h = absurd (omega arith)

pub dead_stays : (m : Table) → IsWhole m → (y : ℕ) → step m 0 y ≡ 0
dead_stays m w y = w.dead (0 + slice_index m.columns y) (omega (arith, w.columns y))

-- a state that is dead is the end
pub ends : (m : Table) (s s' len : ℕ) (best : Best) (w : ℕ) (cs : List ℕ) (total : Best) → IsWhole m → s ≡ 0 → scan m s len (better best (word_at m s) len) cs ≡ total → total ≡ best
ends m s s' len best w cs total h e so_far =
    let z : word_at m 0 ≡ 0 = h.dead 0 h.some in
    sym so_far
    ∙ ap (λ (x : ℕ). scan m x len (better best (word_at m x) len) cs) e
    ∙ ap (λ (x : Best). scan m 0 len x cs) (better_none best (word_at m 0) len z)
    ∙ scan_dead m cs len best (dead_stays m h) z

pub scan_end : (m : Table) (s len : ℕ) (best : Best) (cs : List ℕ) (n : ℕ) → length cs ≤ n → scan m s len best (drop n cs) ≡ best
unfolding scan
scan_end m s len best cs n le = at_drop_all (scan m s len best) cs n le
