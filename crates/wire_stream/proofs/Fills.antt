-- How the front of a name goes on to a name.
use Rattle.std.proofs.Common.{◌≡◌, ◌≢◌, inl, inr, ℕ, ◌+◌, ◌-◌, ◌/◌, ◌%◌, ◌<◌, ◌≤◌, Bool, true, false, List, [], ◌∷◌, ◌++◌, length, refl, sym, ap, ◌∙◌, subst, arith, append_assoc, append-nil, length-append, eqb, ltb, le-ltb, lt-ltb, le-leb}
use Rattle.std.specs.Prelude.{All, ◌||◌, ◌&&◌}
use Rattle.std.specs.Str.{IsUtf8}
use Rattle.std.specs.List.{onto_first, list_any}
use Rattle.std.proofs.lemmas.Bool.{cases_lt, and_parts, ltb-false}
use Rattle.std.proofs.lemmas.List.{same_from_push, take_at, nil_from_length}
use Rattle.std.proofs.lemmas.List.Elements.{All-nil, All-cons, All-head, All-tail, All-append, All-take, All-weaker}
use Rattle.std.proofs.lemmas.List.Splits.{slice_split-cons_yes, slice_split-cons_no, slice_split_none, length-slice_split}
use Rattle.std.proofs.lemmas.Str.{IsUtf8-append, IsUtf8-encode, encode_ascii}
use lib.Utf8.{scalar, scalars, encode, encodes, next, low_scalar, scalar_cases}
use Rattle.path_glob.specs.Path.{IsPath, IsSegment}
use Rattle.path_glob.specs.Segments.{segments}
use Rattle.wire_stream.specs.Lines.{IsName}

-- ---- the bytes of characters

two : (c : ℕ) → 128 ≤ c → c < 2048 → encode c ≡ (192 + c / 64) ∷ next c ∷ []
unfolding encode
two c l h = rw (le-ltb c 128 l, lt-ltb c 2048 h) refl

three : (c : ℕ) → 2048 ≤ c → c < 65536 → encode c ≡ (224 + c / 4096) ∷ next (c / 64) ∷ next c ∷ []
unfolding encode
three c l h = rw (le-ltb c 128 (omega arith), le-ltb c 2048 l, lt-ltb c 65536 h) refl

four : (c : ℕ) → 65536 ≤ c → encode c ≡ (240 + c / 262144) ∷ next (c / 4096) ∷ next (c / 64) ∷ next c ∷ []
unfolding encode
four c l = rw (le-ltb c 128 (omega arith), le-ltb c 2048 (omega arith), le-ltb c 65536 l) refl

high_scalar : (c : ℕ) → 57344 ≤ c → c < 1114112 → scalar c ≡ true
high_scalar c l h = rw (le-ltb c 55296 (omega arith), le-leb 57344 c l, lt-ltb c 1114112 h) refl

text_of : (bytes : List ℕ) (c : ℕ) → scalar c ≡ true → encode c ≡ bytes → IsUtf8 bytes
text_of bytes c s e = subst IsUtf8 e (IsUtf8-encode c s)

-- a number below c, down to a multiple, is a character where c is one
down_scalar : (c d : ℕ) → scalar c ≡ true → d ≤ c → (57344 ≤ c → 57344 ≤ d) → scalar d ≡ true
down_scalar c d s le keeps = elim (scalar_cases c s) [ inl low ↦ low_scalar d (omega arith) | inr high ↦ high_scalar d (keeps high.0) (let h = high.1 in omega arith) ]

-- ---- the bytes that go on from a front of a character to a whole one

pub data Fill : Type 0 where
  one : Fill
  pair : Fill
  triple : Fill
  high_pair : Fill
  high_triple : Fill

abbrev pub fill_bytes : Fill → List ℕ
fill_bytes one = 128 ∷ []
fill_bytes pair = 128 ∷ 128 ∷ []
fill_bytes triple = 128 ∷ 128 ∷ 128 ∷ []
fill_bytes high_pair = 160 ∷ 128 ∷ []
fill_bytes high_triple = 144 ∷ 128 ∷ 128 ∷ []

record Filled (p q : List ℕ) : Type 0 where
  fill : Fill
  size : length (fill_bytes fill) ≡ length q
  utf8 : IsUtf8 (p ++ fill_bytes fill)

filled : (p q : List ℕ) (f : Fill) (n c : ℕ) → length q ≡ n → length (fill_bytes f) ≡ n → scalar c ≡ true → encode c ≡ p ++ fill_bytes f → Filled p q
filled p q f n c h k s e = record { fill = f; size = k ∙ sym h; utf8 = text_of (p ++ fill_bytes f) c s e }

-- two lists of two, three and four bytes
bytes2 : (a b x y : ℕ) → a ≡ x → b ≡ y → a ∷ b ∷ [] ≡ x ∷ y ∷ []
bytes2 a b x y e f = cc

bytes3 : (a b c x y z : ℕ) → a ≡ x → b ≡ y → c ≡ z → a ∷ b ∷ c ∷ [] ≡ x ∷ y ∷ z ∷ []
bytes3 a b c x y z e f g = cc

bytes4 : (a b c d x y z w : ℕ) → a ≡ x → b ≡ y → c ≡ z → d ≡ w → a ∷ b ∷ c ∷ d ∷ [] ≡ x ∷ y ∷ z ∷ w ∷ []
bytes4 a b c d x y z w e f g h = cc

fill2 : (c : ℕ) → scalar c ≡ true → 128 ≤ c → c < 2048 → (p q : List ℕ) → p ++ q ≡ (192 + c / 64) ∷ next c ∷ [] → 0 < length p → 0 < length q → Filled p q
fill2 c s l h [] q e sp sq = absurd (omega arith)
fill2 c s l h (x ∷ []) q e sp sq =
    let a : x ≡ 192 + c / 64 = cc in
    let t : q ≡ next c ∷ [] = cc in
    let d = c - c % 64 in
    filled (x ∷ []) q one 1 d (ap length t) refl (down_scalar c d s (omega arith) (λ h. omega arith))
    (two d (omega arith) (omega arith) ∙ bytes2 (192 + d / 64) (next d) x 128 (omega arith) (omega arith))
fill2 c s l h (x ∷ y ∷ p) [] e sp sq = absurd (omega arith)
fill2 c s l h (x ∷ y ∷ []) (z ∷ q) e sp sq = absurd cc
fill2 c s l h (x ∷ y ∷ w ∷ p) (z ∷ q) e sp sq = absurd cc

fill3_one : (c : ℕ) → scalar c ≡ true → 2048 ≤ c → c < 65536 → (x : ℕ) (q : List ℕ) → x ≡ 224 + c / 4096 → length q ≡ 2 → Filled (x ∷ []) q
fill3_one c s l h x q a n = elim (cases_lt c 4096) [
  | inl low ↦ filled (x ∷ []) q high_pair 2 2048 n refl (low_scalar 2048 (omega arith)) (three 2048 (omega arith) (omega arith) ∙ bytes3 224 160 128 x 160 128 (omega arith) refl refl)
  | inr high ↦
      let d = c - c % 4096 in
      filled (x ∷ []) q pair 2 d n refl (down_scalar c d s (omega arith) (λ h. omega arith))
      (three d (omega arith) (omega arith) ∙ bytes3 (224 + d / 4096) (next (d / 64)) (next d) x 128 128 (omega arith) (omega arith) (omega arith))
]

fill3_two : (c : ℕ) → scalar c ≡ true → 2048 ≤ c → c < 65536 → (x y : ℕ) (q : List ℕ) → x ≡ 224 + c / 4096 → y ≡ next (c / 64) → length q ≡ 1 → Filled (x ∷ y ∷ []) q
fill3_two c s l h x y q a b n =
    let d = c - c % 64 in
    filled (x ∷ y ∷ []) q one 1 d n refl (down_scalar c d s (omega arith) (λ h. omega arith))
    (three d (omega arith) (omega arith) ∙ bytes3 (224 + d / 4096) (next (d / 64)) (next d) x y 128 (omega arith) (omega arith) (omega arith))

fill3 : (c : ℕ) → scalar c ≡ true → 2048 ≤ c → c < 65536 → (p q : List ℕ) → p ++ q ≡ (224 + c / 4096) ∷ next (c / 64) ∷ next c ∷ [] → 0 < length p → 0 < length q → Filled p q
fill3 c s l h [] q e sp sq = absurd (omega arith)
fill3 c s l h (x ∷ []) q e sp sq = let t : q ≡ next (c / 64) ∷ next c ∷ [] = cc in fill3_one c s l h x q (cc) (ap length t)
fill3 c s l h (x ∷ y ∷ []) q e sp sq = let t : q ≡ next c ∷ [] = cc in fill3_two c s l h x y q (cc) (cc) (ap length t)
fill3 c s l h (x ∷ y ∷ z ∷ p) [] e sp sq = absurd (omega arith)
fill3 c s l h (x ∷ y ∷ z ∷ []) (w ∷ q) e sp sq = absurd cc
fill3 c s l h (x ∷ y ∷ z ∷ v ∷ p) (w ∷ q) e sp sq = absurd cc

fill4_one : (c : ℕ) → scalar c ≡ true → 65536 ≤ c → (x : ℕ) (q : List ℕ) → x ≡ 240 + c / 262144 → length q ≡ 3 → Filled (x ∷ []) q
fill4_one c s l x q a n = elim (cases_lt c 262144) [
  | inl low ↦ filled (x ∷ []) q high_triple 3 65536 n refl (high_scalar 65536 (omega arith) (omega arith)) (four 65536 (omega arith) ∙ bytes4 240 144 128 128 x 144 128 128 (omega arith) refl refl refl)
  | inr high ↦
      let d = c - c % 262144 in
      filled (x ∷ []) q triple 3 d n refl (down_scalar c d s (omega arith) (λ h. omega arith))
      (four d (omega arith) ∙ bytes4 (240 + d / 262144) (next (d / 4096)) (next (d / 64)) (next d) x 128 128 128 (omega arith) (omega arith) (omega arith) (omega arith))
]

fill4_two : (c : ℕ) → scalar c ≡ true → 65536 ≤ c → (x y : ℕ) (q : List ℕ) → x ≡ 240 + c / 262144 → y ≡ next (c / 4096) → length q ≡ 2 → Filled (x ∷ y ∷ []) q
fill4_two c s l x y q a b n =
    let d = c - c % 4096 in
    filled (x ∷ y ∷ []) q pair 2 d n refl (down_scalar c d s (omega arith) (λ h. omega arith))
    (four d (omega arith) ∙ bytes4 (240 + d / 262144) (next (d / 4096)) (next (d / 64)) (next d) x y 128 128 (omega arith) (omega arith) (omega arith) (omega arith))

fill4_three : (c : ℕ) → scalar c ≡ true → 65536 ≤ c → (x y z : ℕ) (q : List ℕ) → x ≡ 240 + c / 262144 → y ≡ next (c / 4096) → z ≡ next (c / 64) → length q ≡ 1 → Filled (x ∷ y ∷ z ∷ []) q
fill4_three c s l x y z q a b e n =
    let d = c - c % 64 in
    filled (x ∷ y ∷ z ∷ []) q one 1 d n refl (down_scalar c d s (omega arith) (λ h. omega arith))
    (four d (omega arith) ∙ bytes4 (240 + d / 262144) (next (d / 4096)) (next (d / 64)) (next d) x y z 128 (omega arith) (omega arith) (omega arith) (omega arith))

fill4 : (c : ℕ) → scalar c ≡ true → 65536 ≤ c → (p q : List ℕ) → p ++ q ≡ (240 + c / 262144) ∷ next (c / 4096) ∷ next (c / 64) ∷ next c ∷ [] → 0 < length p → 0 < length q → Filled p q
fill4 c s l [] q e sp sq = absurd (omega arith)
fill4 c s l (x ∷ []) q e sp sq = let t : q ≡ next (c / 4096) ∷ next (c / 64) ∷ next c ∷ [] = cc in fill4_one c s l x q (cc) (ap length t)
fill4 c s l (x ∷ y ∷ []) q e sp sq = let t : q ≡ next (c / 64) ∷ next c ∷ [] = cc in fill4_two c s l x y q (cc) (cc) (ap length t)
fill4 c s l (x ∷ y ∷ z ∷ []) q e sp sq = let t : q ≡ next c ∷ [] = cc in fill4_three c s l x y z q (cc) (cc) (cc) (ap length t)
fill4 c s l (x ∷ y ∷ z ∷ w ∷ p) [] e sp sq = absurd (omega arith)
fill4 c s l (x ∷ y ∷ z ∷ w ∷ []) (v ∷ q) e sp sq = absurd cc
fill4 c s l (x ∷ y ∷ z ∷ w ∷ u ∷ p) (v ∷ q) e sp sq = absurd cc

fill1 : (c : ℕ) (p q : List ℕ) → p ++ q ≡ c ∷ [] → 0 < length p → 0 < length q → Filled p q
fill1 c [] q e sp sq = absurd (omega arith)
fill1 c (x ∷ p) [] e sp sq = absurd (omega arith)
fill1 c (x ∷ []) (y ∷ q) e sp sq = absurd cc
fill1 c (x ∷ z ∷ p) (y ∷ q) e sp sq = absurd cc

-- each front of a character goes on to one of as many bytes
fill_char : (c : ℕ) → scalar c ≡ true → (p q : List ℕ) → p ++ q ≡ encode c → 0 < length p → 0 < length q → Filled p q
fill_char c s p q e sp sq = elim (cases_lt c 128) [
  | inl low ↦ fill1 c p q (e ∙ encode_ascii c low) sp sq
  | inr l ↦ elim (cases_lt c 2048) [
    | inl h ↦ fill2 c s l h p q (e ∙ two c l h) sp sq
    | inr l ↦ elim (cases_lt c 65536) [
      | inl h ↦ fill3 c s l h p q (e ∙ three c l h) sp sq
      | inr l ↦ fill4 c s l p q (e ∙ four c l) sp sq
    ]
  ]
]

-- ---- a text that is cut anywhere

-- the front is whole characters, and then a part of one
record Cut (front back : List ℕ) : Type 0 where
  whole : List ℕ
  part : List ℕ
  other : List ℕ
  char : ℕ
  good : scalars whole ≡ true
  scalar_char : scalar char ≡ true
  are : front ≡ encodes whole ++ part
  parts : part ++ other ≡ encode char
  some : 0 < length other
  within : (0 < length part) → length other ≤ length back

pub overlap : (a b c d : List ℕ) → a ++ b ≡ c ++ d → length a ≤ length c → (r : List ℕ) × (c ≡ a ++ r) × (b ≡ r ++ d)
overlap [] b c d e le = (c, refl, e)
overlap (x ∷ a) b [] d e le = absurd (omega arith)
overlap (x ∷ a) b (y ∷ c) d e le =
    let h : x ≡ y = cc in
    let t : a ++ b ≡ c ++ d = cc in
    let o = overlap a b c d t (omega arith) in
    (o.0, ap (λ (n : ℕ). n ∷ c) (sym h) ∙ ap (λ (l : List ℕ). x ∷ l) o.1, o.2)

no_front : (front back : List ℕ) → [] ≡ front ++ back → front ≡ []
no_front [] back e = refl
no_front (x ∷ front) back e = absurd cc

and_true : (a b : Bool) → a ≡ true → b ≡ true → (a && b) ≡ true
and_true true b p q = q
and_true false b p q = absurd cc

cut : (cs front back : List ℕ) → scalars cs ≡ true → encodes cs ≡ front ++ back → Cut front back
cut [] front back s e = record {
  whole = [];
  part = [];
  other = 97 ∷ [];
  char = 97;
  good = refl;
  scalar_char = low_scalar 97 (omega arith);
  are = no_front front back e;
  parts = sym (encode_ascii 97 (omega arith));
  some = omega arith;
  within = λ h. absurd (omega arith);
}
cut (c ∷ cs) front back s e = let t = and_parts (scalar c) (scalars cs) s in elim (cases_lt (length front) (length (encode c))) [
  | inl lt ↦
      let o = overlap front back (encode c) (encodes cs) (sym e) (omega arith) in
      let n : length (encode c) ≡ length front + length o.0 = ap length o.1 ∙ length-append front o.0 in
      let m : length back ≡ length o.0 + length (encodes cs) = ap length o.2 ∙ length-append o.0 (encodes cs) in
      record { whole = []; part = front; other = o.0; char = c; good = refl; scalar_char = t.0; are = refl; parts = sym o.1; some = omega arith; within = λ h. omega arith }
  | inr le ↦
      let o = overlap (encode c) (encodes cs) front back e le in
      let k = cut cs o.0 back t.1 o.2 in
      record {
        whole = c ∷ k.whole;
        part = k.part;
        other = k.other;
        char = k.char;
        good = and_true (scalar c) (scalars k.whole) t.0 k.good;
        scalar_char = k.scalar_char;
        are = o.1 ∙ ap (λ (l : List ℕ). encode c ++ l) k.are ∙ sym (append_assoc (encode c) (encodes k.whole) k.part);
        parts = k.parts;
        some = k.some;
        within = k.within;
      }
]

-- ---- the segments of a front and what goes on from it

-- bytes that make the last segment name something
pub record IsEnding (bytes : List ℕ) : Type 0 where
  pub front : List ℕ
  pub last : ℕ
  pub are : bytes ≡ front ++ (last ∷ [])
  pub no_dot : last ≢ 46
  pub no_slash : All (λ byte. eqb byte 47 ≡ false) bytes
  pub printed : All (λ byte. 32 ≤ byte) bytes

-- what stands before the first segment
abbrev onto : List ℕ → List (List ℕ) → List (List ℕ)
onto start [] = start ∷ []
onto start (part ∷ parts) = (start ++ part) ∷ parts

onto_more : (start : List ℕ) (b : ℕ) (parts : List (List ℕ)) → onto start (onto_first b parts) ≡ onto (start ++ (b ∷ [])) parts
onto_more start b [] = refl
onto_more start b (part ∷ parts) = ap (λ (l : List ℕ). l ∷ parts) (sym (append_assoc start (b ∷ []) part))

onto_none : (parts : List (List ℕ)) → 0 < length parts → onto [] parts ≡ parts
onto_none [] h = absurd (omega arith)
onto_none (part ∷ parts) h = refl

ends_named : (start bytes : List ℕ) → IsEnding bytes → IsSegment (start ++ bytes)
ends_named start bytes g =
    let e : start ++ bytes ≡ (start ++ g.front) ++ (g.last ∷ []) = ap (λ (l : List ℕ). start ++ l) g.are ∙ sym (append_assoc start g.front (g.last ∷ [])) in
    record {
      some = λ h. no_push (start ++ g.front) g.last (sym e ∙ h);
      not_here = λ h. let s = same_from_push (start ++ g.front) [] g.last 46 (sym e ∙ h) in g.no_dot s.1;
      not_above = λ h. let s = same_from_push (start ++ g.front) (46 ∷ []) g.last 46 (sym e ∙ h) in g.no_dot s.1;
    }
  where
    no_push : (xs : List ℕ) (y : ℕ) → xs ++ (y ∷ []) ≡ [] → ⊥
    no_push [] y h = absurd cc
    no_push (x ∷ xs) y h = absurd cc

some_parts : (bytes : List ℕ) → 0 < length (segments bytes)
some_parts bytes = let n = length-slice_split (λ b. eqb b 47) bytes in omega arith

-- for the first byte, where it holds for the others
step_on : (b : ℕ) (rest start more bytes : List ℕ) (v : Bool) → eqb b 47 ≡ v
    → ((start : List ℕ) → All IsSegment (onto start (segments (rest ++ more))) → All IsSegment (onto start (segments (rest ++ bytes))))
    → All IsSegment (onto start (segments (b ∷ (rest ++ more)))) → All IsSegment (onto start (segments (b ∷ (rest ++ bytes))))
step_on b rest start more bytes true e ih a =
    let was = subst (λ (l : List (List ℕ)). All IsSegment (onto start l)) (slice_split-cons_yes (λ b. eqb b 47) b (rest ++ more) e) a in
    let first = All-head IsSegment (start ++ []) (segments (rest ++ more)) was in
    let others = All-tail IsSegment (start ++ []) (segments (rest ++ more)) was in
    let next = ih [] (subst (λ (l : List (List ℕ)). All IsSegment l) (sym (onto_none (segments (rest ++ more)) (some_parts (rest ++ more)))) others) in
    let now = subst (λ (l : List (List ℕ)). All IsSegment l) (onto_none (segments (rest ++ bytes)) (some_parts (rest ++ bytes))) next in
    subst (λ (l : List (List ℕ)). All IsSegment (onto start l)) (sym (slice_split-cons_yes (λ b. eqb b 47) b (rest ++ bytes) e)) (All-cons IsSegment (start ++ []) (segments (rest ++ bytes)) first now)
step_on b rest start more bytes false e ih a =
    let was = subst (λ (l : List (List ℕ)). All IsSegment (onto start l)) (slice_split-cons_no (λ b. eqb b 47) b (rest ++ more) e) a in
    let next = ih (start ++ (b ∷ [])) (subst (λ (l : List (List ℕ)). All IsSegment l) (onto_more start b (segments (rest ++ more))) was) in
    subst (λ (l : List (List ℕ)). All IsSegment (onto start l)) (sym (slice_split-cons_no (λ b. eqb b 47) b (rest ++ bytes) e))
    (subst (λ (l : List (List ℕ)). All IsSegment l) (sym (onto_more start b (segments (rest ++ bytes)))) next)

go_on : (rest start more bytes : List ℕ) → IsEnding bytes → All IsSegment (onto start (segments (rest ++ more))) → All IsSegment (onto start (segments (rest ++ bytes)))
go_on [] start more bytes g a =
    subst (λ (l : List (List ℕ)). All IsSegment (onto start l)) (sym (slice_split_none (λ b. eqb b 47) bytes g.no_slash))
    (All-cons IsSegment (start ++ bytes) [] (ends_named start bytes g) (All-nil IsSegment))
go_on (b ∷ rest) start more bytes g a = step_on b rest start more bytes (eqb b 47) refl (λ start a. go_on rest start more bytes g a) a

-- a path that is cut goes on with an ending that is no longer
ends_path : (rest more bytes : List ℕ) → IsEnding bytes → 0 < length bytes → length bytes ≤ length more → IsPath (rest ++ more) → IsPath (rest ++ bytes)
ends_path rest more bytes g some le p =
    let n = length-append rest more in
    let m = length-append rest bytes in
    let most = p.most in
    record {
      some = omega arith;
      most = omega arith;
      printed = All-append (λ byte. 32 ≤ byte) rest bytes
          (subst (λ (l : List ℕ). All (λ byte. 32 ≤ byte) l) (take_at rest more (length rest) refl) (All-take (λ byte. 32 ≤ byte) (length rest) (rest ++ more) p.printed)) g.printed;
      named =
          let was = subst (λ (l : List (List ℕ)). All IsSegment l) (sym (onto_none (segments (rest ++ more)) (some_parts (rest ++ more)))) p.named in
          subst (λ (l : List (List ℕ)). All IsSegment l) (onto_none (segments (rest ++ bytes)) (some_parts (rest ++ bytes))) (go_on rest [] more bytes g was);
    }

-- each test holds of the bytes
all_not : (p : ℕ → Bool) (bytes : List ℕ) → list_any p bytes ≡ false → All (λ b. p b ≡ false) bytes
all_not p [] e = All-nil (λ b. p b ≡ false)
all_not p (b ∷ bytes) e = let t = or_parts (p b) (list_any p bytes) e in All-cons (λ b. p b ≡ false) b bytes t.0 (all_not p bytes t.1)
  where
    or_parts : (a b : Bool) → (a || b) ≡ false → (a ≡ false) × (b ≡ false)
    or_parts true b h = absurd cc
    or_parts false b h = (refl, h)

printed_all : (bytes : List ℕ) → list_any (λ b. ltb b 32) bytes ≡ false → All (λ byte. 32 ≤ byte) bytes
printed_all bytes e = All-weaker (λ b. ltb b 32 ≡ false) (λ b. 32 ≤ b) (λ b h. ltb-false b 32 h) bytes (all_not (λ b. ltb b 32) bytes e)

ending : (bytes front : List ℕ) (last : ℕ) → bytes ≡ front ++ (last ∷ []) → 46 < last → list_any (λ b. eqb b 47) bytes ≡ false → list_any (λ b. ltb b 32) bytes ≡ false → IsEnding bytes
ending bytes front last e high slash print = record { front = front; last = last; are = e; no_dot = λ h. absurd (omega arith); no_slash = all_not (λ b. eqb b 47) bytes slash; printed = printed_all bytes print }

letter_ends : IsEnding (97 ∷ [])
letter_ends = ending (97 ∷ []) [] 97 refl (omega arith) refl refl

fill_ends : (f : Fill) → IsEnding (fill_bytes f)
fill_ends one = ending (128 ∷ []) [] 128 refl (omega arith) refl refl
fill_ends pair = ending (128 ∷ 128 ∷ []) (128 ∷ []) 128 refl (omega arith) refl refl
fill_ends triple = ending (128 ∷ 128 ∷ 128 ∷ []) (128 ∷ 128 ∷ []) 128 refl (omega arith) refl refl
fill_ends high_pair = ending (160 ∷ 128 ∷ []) (160 ∷ []) 128 refl (omega arith) refl refl
fill_ends high_triple = ending (144 ∷ 128 ∷ 128 ∷ []) (144 ∷ 128 ∷ []) 128 refl (omega arith) refl refl

-- where a front goes on to no name in one of these ways, it does in no way
pub no_name : (rest : List ℕ) → (IsName rest → ⊥) → (IsName (rest ++ (97 ∷ [])) → ⊥) → ((f : Fill) → IsName (rest ++ fill_bytes f) → ⊥) → (more : List ℕ) → IsName (rest ++ more) → ⊥
no_name rest bare letter fills more n =
    let k = cut n.utf8.0 rest more n.utf8.1.0 n.utf8.1.1 in
    elim (cases_lt 0 (length k.part)) [
      | inl some ↦
          let f = fill_char k.char k.scalar_char k.part k.other k.parts some k.some in
          let e : rest ++ fill_bytes f.fill ≡ encodes k.whole ++ (k.part ++ fill_bytes f.fill) = ap (λ (l : List ℕ). l ++ fill_bytes f.fill) k.are ∙ append_assoc (encodes k.whole) k.part (fill_bytes f.fill) in
          let u : IsUtf8 (rest ++ fill_bytes f.fill) = subst IsUtf8 (sym e) (IsUtf8-append (encodes k.whole) (k.part ++ fill_bytes f.fill) (k.whole, (k.good, refl)) f.utf8) in
          let size = f.size in
          let other = k.some in
          let within = k.within some in
          fills f.fill (record { utf8 = u; path = ends_path rest more (fill_bytes f.fill) (fill_ends f.fill) (omega arith) (omega arith) n.path })
      | inr none ↦
          let e : rest ≡ encodes k.whole = k.are ∙ ap (λ (l : List ℕ). encodes k.whole ++ l) (nil_from_length k.part (omega arith)) ∙ append-nil (encodes k.whole) in
          let u : IsUtf8 rest = subst IsUtf8 (sym e) (k.whole, (k.good, refl)) in
          at_edge u more n
    ]
  where
    at_edge : IsUtf8 rest → (more : List ℕ) → IsName (rest ++ more) → ⊥
    at_edge u [] n = bare (subst IsName (append-nil rest) n)
    at_edge u (b ∷ more) n = letter (record { utf8 = IsUtf8-append rest (97 ∷ []) u (text_of (97 ∷ []) 97 (low_scalar 97 (omega arith)) (encode_ascii 97 (omega arith))); path = ends_path rest (b ∷ more) (97 ∷ []) letter_ends (omega arith) (omega arith) n.path })

-- ---- two names

pub letter_text : IsUtf8 (97 ∷ [])
letter_text = text_of (97 ∷ []) 97 (low_scalar 97 (omega arith)) (encode_ascii 97 (omega arith))

pub dot_text : IsUtf8 (46 ∷ 97 ∷ [])
dot_text = IsUtf8-append (46 ∷ []) (97 ∷ []) (text_of (46 ∷ []) 46 (low_scalar 46 (omega arith)) (encode_ascii 46 (omega arith))) letter_text

one_segment : (start : List ℕ) → IsSegment (start ++ (97 ∷ []))
one_segment start = ends_named start (97 ∷ []) letter_ends

pub letter_path : IsPath (97 ∷ [])
letter_path = record { some = omega arith; most = omega arith; printed = printed_all (97 ∷ []) refl; named = All-cons IsSegment (97 ∷ []) [] (one_segment []) (All-nil IsSegment) }

pub dot_path : IsPath (46 ∷ 97 ∷ [])
dot_path = record { some = omega arith; most = omega arith; printed = printed_all (46 ∷ 97 ∷ []) refl; named = All-cons IsSegment (46 ∷ 97 ∷ []) [] (one_segment (46 ∷ [])) (All-nil IsSegment) }

-- a test that fails refutes what it tests
pub refuted : (b : Bool) (P : Type 0) → b ≡ false → (P → b ≡ true) → P → ⊥
refuted b P f back p = let t = back p in absurd cc

-- the seven ways
pub no_way : (rest : List ℕ) → (IsName (rest ++ []) → ⊥) → (IsName (rest ++ (97 ∷ [])) → ⊥) → (IsName (rest ++ (128 ∷ [])) → ⊥) → (IsName (rest ++ (128 ∷ 128 ∷ [])) → ⊥) → (IsName (rest ++ (128 ∷ 128 ∷ 128 ∷ [])) → ⊥)
    → (IsName (rest ++ (160 ∷ 128 ∷ [])) → ⊥) → (IsName (rest ++ (144 ∷ 128 ∷ 128 ∷ [])) → ⊥) → (more : List ℕ) → IsName (rest ++ more) → ⊥
no_way rest bare letter a b c d e = no_name rest (λ n. bare (subst IsName (sym (append-nil rest)) n)) letter by_fill
  where
    by_fill : (f : Fill) → IsName (rest ++ fill_bytes f) → ⊥
    by_fill one n = a n
    by_fill pair n = b n
    by_fill triple n = c n
    by_fill high_pair n = d n
    by_fill high_triple n = e n
