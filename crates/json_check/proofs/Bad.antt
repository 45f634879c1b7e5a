-- Where a text stops: the longest front that was read.
use Rattle.std.proofs.Common.{◌≡◌, ◌≢◌, ℕ, zero, suc, ◌+◌, ◌<◌, ◌≤◌, Bool, true, false, ◌==◌, ◌&&◌, ◌⊎◌, inl, inr, List, [], ◌∷◌, ◌++◌, length, take, drop, get_or, refl, sym, ap, ◌∙◌, subst, arith, eqb-true, ltb-true, append_assoc, length-append, nat_lt}
use Rattle.std.proofs.Math.Utf8.{scalars}
use Rattle.std.proofs.Math.Seq.{drop-cons}
use Rattle.std.proofs.lemmas.Bool.{and_parts}
use Rattle.std.proofs.lemmas.List.{append-nil, take-append-drop, take_more, drop_all}
use Rattle.std.proofs.lemmas.Str.{chars-append, chars-IsAscii, chars-encodes, encodes-chars, encodes-append, scalars-chars, length-encode, IsUtf8-from_ascii}
use Rattle.std.proofs.lemmas.Str.Ascii.{IsAscii-nil}
use Rattle.std.specs.Prelude.{if◌then◌else◌, encode_utf8, encode_utf8_all, Option, Some, None}
use Rattle.std.specs.Str.{chars, IsUtf8, IsAscii}
use Rattle.lexing.specs.Mark.{past_mark, mark_len}
use Rattle.std.specs.Char.{len_utf8}
use Rattle.lexing.proofs.Scanning.{LenAt, len_at}
use Rattle.lexing.proofs.Basics.{cons_is, head_is, tail_is}
use Rattle.json_check.specs.Viable.{HasTree, IsViable, IsLongestViable, IsFirstBad}
use Rattle.json_check.specs.fronts.Fronts.{Front, at_start, longer, read_on, is_whole_text}
use Rattle.json_check.proofs.Labels.{all_ascii}
use Rattle.json_check.proofs.Fronts.{front_read, read_more}
use Rattle.json_check.proofs.Scans.{Tokens}
use Rattle.json_check.proofs.Viables.{can_go_on, tree_of, tree_read, read_tree}

-- ---- bytes and characters

is_ascii : (cs : List ℕ) → all_ascii cs ≡ true → IsAscii cs
is_ascii [] h = IsAscii-nil
is_ascii (c ∷ cs) h = let p = and_parts (nat_lt c 128) (all_ascii cs) h in λ i. at_place i (ltb-true c 128 p.0) (is_ascii cs p.1)
  where
    at_place : (i : ℕ) → c < 128 → IsAscii cs → get_or (c ∷ cs) i 0 < 128
    at_place zero lt on = lt
    at_place (suc i) lt on = on i

scalars_front : (xs ys : List ℕ) → scalars (xs ++ ys) ≡ true → scalars xs ≡ true
scalars_front [] ys h = refl
scalars_front (x ∷ xs) ys h = let p = and_parts _ _ h in ap (λ (b : Bool). b && scalars xs) p.0 ∙ scalars_front xs ys p.1

-- ---- the mark

past_front : (c : ℕ) (cs ms : List ℕ) → past_mark ((c ∷ cs) ++ ms) ≡ past_mark (c ∷ cs) ++ ms
past_front c cs ms = by_mark (c == 0xfeff)
  where
    by_mark : (b : Bool) → (if b then cs ++ ms else c ∷ (cs ++ ms)) ≡ (if b then cs else c ∷ cs) ++ ms
    by_mark true = refl
    by_mark false = refl

no_mark : (c : ℕ) (cs : List ℕ) → (c == 0xfeff) ≡ false → past_mark (c ∷ cs) ≡ c ∷ cs
no_mark c cs e = ap (λ (b : Bool). if b then cs else c ∷ cs) e

past_ascii : (cs ms : List ℕ) → all_ascii ms ≡ true → past_mark (cs ++ ms) ≡ past_mark cs ++ ms
past_ascii [] [] h = refl
past_ascii [] (m ∷ ms) h = no_mark m ms (low m (ltb-true m 128 (and_parts (nat_lt m 128) (all_ascii ms) h).0))
  where
    low : (m : ℕ) → m < 128 → (m == 0xfeff) ≡ false
    low m lt = grind arith
past_ascii (c ∷ cs) ms h = past_front c cs ms

-- what stands before what was read: the mark, or nothing
record Marked (cs done rest : List ℕ) : Type 0 where
  mark : List ℕ
  parts : cs ≡ (mark ++ done) ++ rest
  len : length (encode_utf8_all mark) ≡ mark_len cs
  here : past_mark (mark ++ done) ≡ done
  on : (c : ℕ) (g ds : List ℕ) → rest ≡ c ∷ ds → past_mark ((mark ++ done) ++ (c ∷ g)) ≡ done ++ (c ∷ g)

nothing_left : (done rest : List ℕ) → [] ≡ done ++ rest → (done ≡ []) × (rest ≡ [])
nothing_left [] rest e = (refl, sym e)
nothing_left (d ∷ done) rest e = absurd cc

marked : (cs done rest : List ℕ) → past_mark cs ≡ done ++ rest → Marked cs done rest
marked [] done rest e =
    let p = nothing_left done rest e in record {
      mark = [];
      parts = e;
      len = refl;
      here = ap past_mark p.0 ∙ sym p.0;
      on = λ c g ds h. (let k : [] ≡ c ∷ ds = sym p.1 ∙ h in absurd cc);
    }
marked (c ∷ cs) done rest e = by_mark (c == 0xfeff) refl
  where
    three : (c == 0xfeff) ≡ true → length (encode_utf8_all (c ∷ [])) ≡ 3
    three h = ap (λ (k : ℕ). length (encode_utf8_all (k ∷ []))) (eqb-true c 0xfeff h) ∙ ap length (append-nil (encode_utf8 0xfeff)) ∙ length-encode 0xfeff

    skipped : (c == 0xfeff) ≡ true → (xs : List ℕ) → past_mark (c ∷ xs) ≡ xs
    skipped h xs = ap (λ (b : Bool). if b then xs else c ∷ xs) h

    kept : (c == 0xfeff) ≡ false → (ds xs : List ℕ) → c ∷ cs ≡ ds ++ xs → past_mark ds ≡ ds
    kept h [] xs k = refl
    kept h (d ∷ ds) xs k = no_mark d ds (ap (λ (n : ℕ). n == 0xfeff) (sym (head_is c d cs (ds ++ xs) k)) ∙ h)

    kept_on : (c == 0xfeff) ≡ false → (ds : List ℕ) (x : ℕ) (g xs : List ℕ) → c ∷ cs ≡ ds ++ (x ∷ xs) → past_mark (ds ++ (x ∷ g)) ≡ ds ++ (x ∷ g)
    kept_on h [] x g xs k = no_mark x g (ap (λ (n : ℕ). n == 0xfeff) (sym (head_is c x cs xs k)) ∙ h)
    kept_on h (d ∷ ds) x g xs k = no_mark d (ds ++ (x ∷ g)) (ap (λ (n : ℕ). n == 0xfeff) (sym (head_is c d cs (ds ++ (x ∷ xs)) k)) ∙ h)

    by_mark : (b : Bool) → (c == 0xfeff) ≡ b → Marked (c ∷ cs) done rest
    by_mark true h = record {
      mark = c ∷ [];
      parts = ap (λ (x : List ℕ). c ∷ x) (sym (skipped h cs) ∙ e);
      len = three h ∙ ap (λ (b : Bool). if b then 3 else 0) (sym h);
      here = skipped h done;
      on = λ x g ds k. skipped h (done ++ (x ∷ g));
    }
    by_mark false h =
        let same : c ∷ cs ≡ done ++ rest = sym (no_mark c cs h) ∙ e in record {
          mark = [];
          parts = same;
          len = ap (λ (b : Bool). if b then 3 else 0) (sym h);
          here = kept h done rest same;
          on = λ x g ds k. kept_on h done x g ds (same ∙ ap (λ (y : List ℕ). done ++ y) k);
        }

-- ---- viable fronts

viable_front : (bytes : List ℕ) (f : Front) → IsUtf8 bytes → read_on at_start (past_mark (chars bytes)) ≡ Some f → IsViable bytes
viable_front bytes f u h =
    let g = can_go_on (past_mark (chars bytes)) f h in
    let a = is_ascii g.more g.ascii in
    let all : chars (bytes ++ g.more) ≡ chars bytes ++ g.more = chars-append bytes g.more u ∙ ap (λ (x : List ℕ). chars bytes ++ x) (chars-IsAscii g.more a) in
    let past : past_mark (chars bytes) ++ g.more ≡ past_mark (chars (bytes ++ g.more)) = sym (past_ascii (chars bytes) g.more g.ascii) ∙ ap past_mark (sym all) in
    let t = g.tokens (mark_len (chars (bytes ++ g.more))) in
    record { more = g.more; utf8 = IsUtf8-from_ascii g.more a; tree = tree_of (bytes ++ g.more) t.0 t.1 (subst (λ (x : List ℕ). Tokens (mark_len (chars (bytes ++ g.more))) x t.0) past t.2) t.3 }

viable_read : (bytes : List ℕ) → IsUtf8 bytes → IsViable bytes → (f : Front) × (read_on at_start (past_mark (chars bytes)) ≡ Some f)
viable_read bytes u v = by_chars (chars bytes) refl
  where
    whole : (g : Front) × (read_on at_start (past_mark (chars (bytes ++ v.more))) ≡ Some g) × (is_whole_text g ≡ true)
    whole = tree_read (bytes ++ v.more) v.tree

    by_chars : (cs : List ℕ) → chars bytes ≡ cs → (f : Front) × (read_on at_start (past_mark cs) ≡ Some f)
    by_chars [] e = (at_start, refl)
    by_chars (c ∷ cs) e =
        let all : past_mark (chars (bytes ++ v.more)) ≡ past_mark (c ∷ cs) ++ chars v.more = ap past_mark (chars-append bytes v.more u ∙ ap (λ (x : List ℕ). x ++ chars v.more) e) ∙ past_front c cs (chars v.more) in
        let r = front_read (past_mark (c ∷ cs)) (chars v.more) at_start whole.0 (ap (read_on at_start) (sym all) ∙ whole.1) in
        (r.0, r.1)

-- one of two fronts of a list begins the other
split : (f left longer after : List ℕ) → f ++ left ≡ longer ++ after → ((x : List ℕ) × (f ≡ longer ++ x)) ⊎ ((c : ℕ) × (g : List ℕ) × (longer ≡ f ++ (c ∷ g)) × (left ≡ c ∷ (g ++ after)))
split f left [] after e = inl (f, refl)
split [] left (c ∷ g) after e = inr (c, g, refl, e)
split (x ∷ f) left (y ∷ longer) after e =
    elim (split f left longer after (tail_is x y (f ++ left) (longer ++ after) e)) [
      | inl le ↦ inl (le.0, cons_is x y f (longer ++ le.0) (head_is x y (f ++ left) (longer ++ after) e) le.1)
      | inr more ↦ inr (more.0, more.1, cons_is y x longer (f ++ (more.0 ∷ more.1)) (sym (head_is x y (f ++ left) (longer ++ after) e)) more.2, more.3)
    ]

-- what was read is the longest viable front, where the next character is not read
pub longest_here : (text done rest : List ℕ) (f : Front) (n : ℕ) → IsUtf8 text → past_mark (chars text) ≡ done ++ rest → read_on at_start done ≡ Some f → n ≡ mark_len (chars text) + length (encode_utf8_all done) → ((c : ℕ) (ds : List ℕ) → rest ≡ c ∷ ds → longer f c ≡ None) → IsLongestViable text n
longest_here text done rest f n u e h len stops =
    let m = marked (chars text) done rest e in
    let all = m.mark ++ done in
    let s : scalars all ≡ true = scalars_front all rest (ap scalars (sym m.parts) ∙ scalars-chars text u) in
    let bytes = encode_utf8_all all in
    let utf8 : IsUtf8 bytes = (all, (s, refl)) in
    let size : n ≡ length bytes = omega (arith, len, m.len, ap length (encodes-append m.mark done), length-append (encode_utf8_all m.mark) (encode_utf8_all done)) in
    let parts : text ≡ bytes ++ encode_utf8_all rest = sym (encodes-chars text u) ∙ ap encode_utf8_all m.parts ∙ encodes-append all rest in record {
      front = bytes;
      rest = encode_utf8_all rest;
      parts = parts;
      len = size;
      utf8 = utf8;
      viable = viable_front bytes f utf8 (ap (λ (x : List ℕ). read_on at_start (past_mark x)) (chars-encodes all s) ∙ ap (read_on at_start) m.here ∙ h);
      longest = λ other after p ou ov. below m size other after p ou ov;
    }
  where
    below : (m : Marked (chars text) done rest) → n ≡ length (encode_utf8_all (m.mark ++ done)) → (other after : List ℕ) → text ≡ other ++ after → IsUtf8 other → IsViable other → length other ≤ n
    below m size other after p ou ov =
        let e : (m.mark ++ done) ++ rest ≡ chars other ++ chars after = sym m.parts ∙ ap chars p ∙ chars-append other after ou in
        elim (split (m.mark ++ done) rest (chars other) (chars after) e) [
          | inl x ↦
              (let l = ap length (ap encode_utf8_all x.1 ∙ encodes-append (chars other) x.0) in
              omega (arith, size, l, length-append (encode_utf8_all (chars other)) (encode_utf8_all x.0), ap length (encodes-chars other ou)))
          | inr x ↦
              (let r = viable_read other ou ov in
              let past : past_mark (chars other) ≡ done ++ (x.0 ∷ x.1) = ap past_mark x.2 ∙ m.on x.0 x.1 (x.1 ++ chars after) x.3 in
              let k : None ≡ Some r.0 =
              ap (λ (o : Option Front). elim o [ None ↦ None | Some g ↦ read_on g x.1 ]) (sym (stops x.0 (x.1 ++ chars after) x.3)) ∙ sym (read_more done (x.0 ∷ x.1) at_start f h) ∙ ap (read_on at_start) (sym past) ∙ r.1 in
              absurd cc)
        ]

-- ---- in the loop

-- the character in hand is not read: the text has no tree
pub no_tree : (text done rest : List ℕ) (f : Front) (c : ℕ) (ds : List ℕ) → past_mark (chars text) ≡ done ++ rest → read_on at_start done ≡ Some f → rest ≡ c ∷ ds → longer f c ≡ None → HasTree text → ⊥
no_tree text done rest f c ds e h is stop t =
    let w = tree_read text t in
    let k : None ≡ Some w.0 = ap (λ (o : Option Front). elim o [ None ↦ None | Some g ↦ read_on g ds ]) (sym stop) ∙ sym (read_more done (c ∷ ds) at_start f h) ∙ ap (read_on at_start) (ap (λ (x : List ℕ). done ++ x) (sym is) ∙ sym e) ∙ w.1 in
    absurd cc

-- all is read, and is no whole text
pub no_whole_tree : (text : List ℕ) (f : Front) → read_on at_start (past_mark (chars text)) ≡ Some f → is_whole_text f ≡ false → HasTree text → ⊥
no_whole_tree text f h fails t =
    let w = tree_read text t in
    let same : Some w.0 ≡ Some f = sym w.1 ∙ h in
    let k : true ≡ false = sym w.2 ∙ ap is_whole_text (one w.0 f same) ∙ fails in
    absurd cc
  where
    one : (a b : Front) → Some a ≡ Some b → a ≡ b
    one a b e = cc

-- what is read behind the mark, up to a place
abbrev pub read_to : List ℕ → ℕ → List ℕ
read_to text k = take k (past_mark (chars text))

-- a front of the text was read, this many bytes long
pub record IsAt (text : List ℕ) (k n : ℕ) (f : Front) : Type 0 where
  pub len : n ≡ mark_len (chars text) + length (encode_utf8_all (read_to text k))
  pub read : read_on at_start (read_to text k) ≡ Some f

-- the character in hand stands at this place
abbrev Stands : List ℕ → ℕ → ℕ → Type 0
Stands cs k c = (k < length cs) × (c ≡ get_or cs k c)

cut : (cs : List ℕ) (k c : ℕ) → Stands cs k c → drop k cs ≡ c ∷ drop (suc k) cs
cut cs k c s = drop-cons cs k c s.0 ∙ ap (λ (x : ℕ). x ∷ drop (suc k) cs) (sym s.1)

-- the character in hand may not follow: here the text stops
pub stops_here : (text cs : List ℕ) (k c n : ℕ) (f : Front) → IsUtf8 text → cs ≡ past_mark (chars text) → Stands cs k c → IsAt text k n f → longer f c ≡ None → IsFirstBad text (Some n)
stops_here text cs k c n f u same s i stop =
    let past = past_mark (chars text) in
    let here : drop k past ≡ c ∷ drop (suc k) past = cut past k c (subst (λ (x : List ℕ). Stands x k c) same s) in
    let parts : past ≡ take k past ++ drop k past = sym (take-append-drop k past) in (
      no_tree text (take k past) (drop k past) f c (drop (suc k) past) parts i.read here stop,
      longest_here text (take k past) (drop k past) f n u parts i.read i.len (λ d ds e. ap (longer f) (head_is d c ds (drop (suc k) past) (sym e ∙ here)) ∙ stop),
    )

all_read : (text : List ℕ) (k n : ℕ) (f : Front) → length (past_mark (chars text)) ≤ k → IsAt text k n f → read_on at_start (past_mark (chars text)) ≡ Some f
all_read text k n f le i =
    let past = past_mark (chars text) in
    let whole : take k past ≡ past = sym (append-nil (take k past)) ∙ ap (λ (x : List ℕ). take k past ++ x) (sym (drop_all k past le)) ∙ take-append-drop k past in
    ap (read_on at_start) (sym whole) ∙ i.read

-- the text ends, and has a tree
pub ends_whole : (text : List ℕ) (k n : ℕ) (f : Front) → length (past_mark (chars text)) ≤ k → IsAt text k n f → is_whole_text f ≡ true → HasTree text
ends_whole text k n f le i whole = read_tree text f (all_read text k n f le i) whole

-- the text ends, and has none
pub ends_early : (text : List ℕ) (k n : ℕ) (f : Front) → IsUtf8 text → length (past_mark (chars text)) ≤ k → IsAt text k n f → is_whole_text f ≡ false → IsFirstBad text (Some n)
ends_early text k n f u le i fails =
    let past = past_mark (chars text) in
    let none : drop k past ≡ [] = drop_all k past le in (
      no_whole_tree text f (all_read text k n f le i) fails,
      longest_here text (take k past) (drop k past) f n u (sym (take-append-drop k past)) i.read i.len (λ d ds e. (let z : [] ≡ d ∷ ds = sym none ∙ e in absurd cc)),
    )

-- one character more
pub record IsNext (text : List ℕ) (k n : ℕ) (f : Front) : Type 0 where
  pub at : IsAt text k n f
  pub within : n ≤ length text

pub goes_on : (text rest : List ℕ) (k c n j : ℕ) (f g : Front) → IsUtf8 rest → chars rest ≡ past_mark (chars text) → length text ≡ length rest + mark_len (chars text) → Stands (chars rest) k c → IsAt text k n f → j ≡ len_utf8 c → longer f c ≡ Some g → IsNext text (k + 1) (n + j) g
goes_on text rest k c n j f g u same size s i ej on =
    let past = past_mark (chars text) in
    let l = len_at rest k (length (encode_utf8_all (take k (chars rest)))) c j u s refl ej in
    let old : length (encode_utf8_all (take k (chars rest))) ≡ length (encode_utf8_all (take k past)) = ap (λ (x : List ℕ). length (encode_utf8_all (take k x))) same in
    let new : length (encode_utf8_all (take (k + 1) (chars rest))) ≡ length (encode_utf8_all (take (k + 1) past)) = ap (λ (x : List ℕ). length (encode_utf8_all (take (k + 1) x))) same in
    let s' : Stands past k c = subst (λ (x : List ℕ). Stands x k c) same s in
    let more : take (k + 1) past ≡ take k past ++ c ∷ [] = take_more past k c s'.0 ∙ ap (λ (x : ℕ). take k past ++ x ∷ []) (sym s'.1) in record {
      at = record {
        len = omega (arith, i.len, l.is, old, new);
        read = ap (read_on at_start) more ∙ read_more (take k past) (c ∷ []) at_start f i.read ∙ ap (λ (o : Option Front). elim o [ None ↦ None | Some h ↦ read_on h [] ]) on;
      };
      within = omega (arith, i.len, l.within, old, size);
    }

-- nothing is read yet
pub nothing_read : (text : List ℕ) (n : ℕ) (f : Front) → n ≡ mark_len (chars text) → f ≡ at_start → IsAt text 0 n f
nothing_read text n f e q = record { len = omega (arith, e); read = ap (λ (x : Front). Some x) (sym q) }
