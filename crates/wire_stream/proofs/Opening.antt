-- What goes on to a line.
use Rattle.std.proofs.Common.{◌≡◌, inl, inr, ℕ, ◌+◌, ◌*◌, ◌/◌, ◌%◌, ◌<◌, ◌≤◌, ◌^◌, List, [], ◌∷◌, ◌++◌, length, get_or, take, drop, Bool, true, false, eqb, eq-eqb, refl, sym, ap, ◌∙◌, subst, arith, append_assoc, length-append}
use Rattle.std.specs.Prelude.{codes, ◌==◌}
use Rattle.std.specs.Fmt.{decimal}
use Rattle.std.proofs.lemmas.Bool.{cases_lt, eqb-true}
use Rattle.std.proofs.lemmas.Fmt.{decimal_by_steps, decimal_step, decimal_digit}
use Rattle.std.proofs.lemmas.List.{append_cancel_left, nil_from_length}
use Rattle.memchr.specs.Find.{is_byte, IsFirstByte}
use Rattle.std.specs.Prelude.{None, Some, Result, Ok, Err, IfOk}
use Rattle.wire_stream.specs.Lines.{Line, Put, Del, Rule, Unrule, Sync, Scan, Fix, End, sized_bytes, line_bytes, IsName, IsPrefix, IsSized, IsLine}
use Rattle.wire_stream.specs.Fronts.{IsLineFront, IsSizedFront, IsFrontOf, IsNamedFront, IsBareFront}
use Rattle.wire_stream.proofs.Firsts.{front_before}
use Rattle.wire_stream.proofs.Lines.{line_short}
use Rattle.wire_stream.proofs.Parts.{lacks_of, parts_of, sized_parts}
use Rattle.wire_stream.proofs.Fills.{overlap, letter_path, dot_path, letter_text, dot_text}

letter_name : IsName (97 ∷ [])
letter_name = record { utf8 = letter_text; path = letter_path }

dot_name : IsName (46 ∷ 97 ∷ [])
dot_name = record { utf8 = dot_text; path = dot_path }

some_sized : IsSized 0 (97 ∷ [])
some_sized = (omega arith, letter_name)

-- ---- a front of a number is one

record FrontNumber (n : ℕ) (bytes : List ℕ) : Type 0 where
  number : ℕ
  less : number ≤ n
  are : bytes ≡ decimal number

-- the digits are those of n, and each front of them is a number
abbrev Fronts : ℕ → List ℕ → Type 0
Fronts n ds = n < 2 ^ 64 → (ds ≡ decimal n) × ((bytes rest : List ℕ) → ds ≡ bytes ++ rest → 0 < length bytes → FrontNumber n bytes)

one_digit : (x : ℕ) (bytes rest : List ℕ) → x ∷ [] ≡ bytes ++ rest → 0 < length bytes → bytes ≡ x ∷ []
one_digit x [] rest e some = absurd (omega arith)
one_digit x (b ∷ []) rest e some = let h : x ≡ b = cc in ap (λ (n : ℕ). n ∷ []) (sym h)
one_digit x (b ∷ c ∷ bytes) rest e some = absurd cc

digit_fronts : (n : ℕ) → n < 10 → Fronts n ((48 + n) ∷ [])
digit_fronts n lt small = (sym (decimal_digit n lt), λ bytes rest e some. record { number = n; less = omega arith; are = one_digit (48 + n) bytes rest e some ∙ sym (decimal_digit n lt) })

more_fronts : (n : ℕ) (ds : List ℕ) → 10 ≤ n → Fronts (n / 10) ds → Fronts n (ds ++ ((48 + n % 10) ∷ []))
more_fronts n ds ge ih small = (whole, each)
  where
    before : (ds ≡ decimal (n / 10)) × ((bytes rest : List ℕ) → ds ≡ bytes ++ rest → 0 < length bytes → FrontNumber (n / 10) bytes)
    before = ih (omega arith)

    whole : ds ++ ((48 + n % 10) ∷ []) ≡ decimal n
    whole = ap (λ (l : List ℕ). l ++ ((48 + n % 10) ∷ [])) before.0 ∙ sym (decimal_step n ge small)

    each : (bytes rest : List ℕ) → ds ++ ((48 + n % 10) ∷ []) ≡ bytes ++ rest → 0 < length bytes → FrontNumber n bytes
    each bytes rest e some = elim (cases_lt (length ds) (length bytes)) [
      | inl lt ↦
          let o = overlap ds ((48 + n % 10) ∷ []) bytes rest e (omega arith) in
          let len : length bytes ≡ length ds + length o.0 = ap length o.1 ∙ length-append ds o.0 in
          let last = one_digit (48 + n % 10) o.0 rest o.2 (omega arith) in
          record { number = n; less = omega arith; are = o.1 ∙ ap (λ (l : List ℕ). ds ++ l) last ∙ whole }
      | inr le ↦
          let o = overlap bytes rest ds ((48 + n % 10) ∷ []) (sym e) le in
          let k = before.1 bytes o.0 o.1 some in
          let low = k.less in
          record { number = k.number; less = omega arith; are = k.are }
    ]

front_number : (n : ℕ) → n ≤ 268435456 → (bytes rest : List ℕ) → decimal n ≡ bytes ++ rest → 0 < length bytes → FrontNumber n bytes
front_number n small bytes rest e some = let all = decimal_by_steps Fronts digit_fronts more_fronts n (omega arith) (omega arith) in all.1 bytes rest e some

-- ---- a length, a space and a name

pub nothing_sized : (bytes : List ℕ) → bytes ≡ [] → IsSizedFront bytes
nothing_sized bytes e = record { size = 0; name = 97 ∷ []; rest = sized_bytes 0 (97 ∷ []); good = some_sized; are = ap (λ (l : List ℕ). l ++ sized_bytes 0 (97 ∷ [])) (sym e) }

pub number_sized : (bytes : List ℕ) (n : ℕ) → n ≤ 268435456 → bytes ≡ decimal n → IsSizedFront bytes
number_sized bytes n small e = record { size = n; name = 97 ∷ []; rest = 32 ∷ 97 ∷ []; good = (small, letter_name); are = ap (λ (l : List ℕ). l ++ (32 ∷ 97 ∷ [])) (sym e) }

pub no_number : (bytes : List ℕ) → IsFirstByte (is_byte 32) bytes None → 0 < length bytes → ((n : ℕ) → n ≤ 268435456 → bytes ≡ decimal n → ⊥) → IsSizedFront bytes → ⊥
no_number bytes f some none s =
    let low = front_before 32 bytes s.rest (decimal s.size) s.name (lacks_of 32 bytes f) (sym s.are) in
    let o = overlap bytes s.rest (decimal s.size) (32 ∷ s.name) (sym s.are) low in
    let small = s.good.0 in
    let k = front_number s.size small bytes o.0 o.1 some in
    let less = k.less in
    none k.number (omega arith) k.are

pub spaced : (bytes : List ℕ) (at n : ℕ) (more : List ℕ) → IsFirstByte (is_byte 32) bytes (Some at) → n ≤ 268435456 → take at bytes ≡ decimal n → IsName (drop (at + 1) bytes ++ more) → IsSizedFront bytes
spaced bytes at n more f small e g = record {
  size = n;
  name = drop (at + 1) bytes ++ more;
  rest = more;
  good = (small, g);
  are = ap (λ (l : List ℕ). l ++ (32 ∷ (drop (at + 1) bytes ++ more))) (sym e) ∙ sym (append_assoc (take at bytes) (32 ∷ drop (at + 1) bytes) more) ∙ ap (λ (l : List ℕ). l ++ more) (sym (parts_of 32 bytes at f));
}

pub not_spaced : (bytes : List ℕ) (at : ℕ) → IsFirstByte (is_byte 32) bytes (Some at) → ((n : ℕ) (more : List ℕ) → n ≤ 268435456 → take at bytes ≡ decimal n → IsName (drop (at + 1) bytes ++ more) → ⊥) → IsSizedFront bytes → ⊥
not_spaced bytes at f none s =
    let t = sized_parts bytes at f s.size s.name s.rest s.good.0 (sym s.are) in
    none s.size s.rest s.good.0 t.0 (subst IsName (sym t.1) s.good.1)

-- ---- words

front_of_all : (word bytes rest tail : List ℕ) → word ≡ bytes ++ rest → word ++ tail ≡ bytes ++ (rest ++ tail)
front_of_all word bytes rest tail e = ap (λ (l : List ℕ). l ++ tail) e ∙ append_assoc bytes rest tail

pub named_line : (bytes : List ℕ) → IsNamedFront bytes → IsLineFront bytes
named_line bytes (inl w) = record { line = Put 0 (97 ∷ []); rest = w.0 ++ sized_bytes 0 (97 ∷ []); good = some_sized; are = front_of_all (codes "put ") bytes w.0 (sized_bytes 0 (97 ∷ [])) w.1 }
named_line bytes (inr (inl w)) = record { line = Del (97 ∷ []); rest = w.0 ++ (97 ∷ []); good = letter_name; are = front_of_all (codes "del ") bytes w.0 (97 ∷ []) w.1 }
named_line bytes (inr (inr (inl w))) = record { line = Rule 0 (97 ∷ []); rest = w.0 ++ sized_bytes 0 (97 ∷ []); good = some_sized; are = front_of_all (codes "rule ") bytes w.0 (sized_bytes 0 (97 ∷ [])) w.1 }
named_line bytes (inr (inr (inr (inl w)))) = record { line = Unrule (97 ∷ []); rest = w.0 ++ (97 ∷ []); good = letter_name; are = front_of_all (codes "unrule ") bytes w.0 (97 ∷ []) w.1 }
named_line bytes (inr (inr (inr (inr w)))) = record { line = Sync (97 ∷ []); rest = w.0 ++ (97 ∷ []); good = inl letter_name; are = front_of_all (codes "sync ") bytes w.0 (97 ∷ []) w.1 }

pub bare_line : (bytes : List ℕ) → IsBareFront bytes → IsLineFront bytes
bare_line bytes (inl w) = record { line = Scan; rest = w.0; good = tt; are = w.1 }
bare_line bytes (inr (inl w)) = record { line = Fix; rest = w.0; good = tt; are = w.1 }
bare_line bytes (inr (inr w)) = record { line = End; rest = w.0; good = tt; are = w.1 }

-- the bytes begin with none of the words that a name follows
pub record BeginsNoWord (bytes : List ℕ) : Type 0 where
  pub put : (rest : List ℕ) → bytes ≡ codes "put " ++ rest → ⊥
  pub del : (rest : List ℕ) → bytes ≡ codes "del " ++ rest → ⊥
  pub rule : (rest : List ℕ) → bytes ≡ codes "rule " ++ rest → ⊥
  pub unrule : (rest : List ℕ) → bytes ≡ codes "unrule " ++ rest → ⊥
  pub sync : (rest : List ℕ) → bytes ≡ codes "sync " ++ rest → ⊥

front_of_word : (word tail bytes rest : List ℕ) → word ++ tail ≡ bytes ++ rest → ((rest : List ℕ) → bytes ≡ word ++ rest → ⊥) → IsFrontOf word bytes
front_of_word word tail bytes rest e none = elim (cases_lt (length word) (length bytes)) [
  | inl lt ↦ let o = overlap word tail bytes rest e (omega arith) in absurd (none o.0 o.1)
  | inr le ↦ let o = overlap bytes rest word tail (sym e) le in (o.0, o.1)
]

pub line_word : (bytes : List ℕ) → BeginsNoWord bytes → (IsNamedFront bytes → ⊥) → (IsBareFront bytes → ⊥) → IsLineFront bytes → ⊥
line_word bytes b named bare f = by_line f.line f.are
  where
    by_line : (line : Line) → line_bytes line ≡ bytes ++ f.rest → ⊥
    by_line (Put n path) e = named (inl (front_of_word (codes "put ") (sized_bytes n path) bytes f.rest e b.put))
    by_line (Del path) e = named (inr (inl (front_of_word (codes "del ") path bytes f.rest e b.del)))
    by_line (Rule n name) e = named (inr (inr (inl (front_of_word (codes "rule ") (sized_bytes n name) bytes f.rest e b.rule))))
    by_line (Unrule name) e = named (inr (inr (inr (inl (front_of_word (codes "unrule ") name bytes f.rest e b.unrule)))))
    by_line (Sync prefix) e = named (inr (inr (inr (inr (front_of_word (codes "sync ") prefix bytes f.rest e b.sync)))))
    by_line Scan e = bare (inl (f.rest, e))
    by_line Fix e = bare (inr (inl (f.rest, e)))
    by_line End e = bare (inr (inr (f.rest, e)))

-- ---- lines that begin with a word

-- the word with what may follow it
regroup : (bytes word front rest whole : List ℕ) → bytes ≡ word ++ front → whole ≡ front ++ rest → word ++ whole ≡ bytes ++ rest
regroup bytes word front rest whole e f = ap (λ (l : List ℕ). word ++ l) f ∙ sym (append_assoc word front rest) ∙ ap (λ (l : List ℕ). l ++ rest) (sym e)

cancel : (bytes word front rest whole : List ℕ) → bytes ≡ word ++ front → word ++ whole ≡ bytes ++ rest → whole ≡ front ++ rest
cancel bytes word front rest whole e f = append_cancel_left word whole (front ++ rest) (f ∙ ap (λ (l : List ℕ). l ++ rest) e ∙ append_assoc word front rest)

pub put_front : (bytes front : List ℕ) → bytes ≡ codes "put " ++ front → IsSizedFront front → IsLineFront bytes
put_front bytes front e s = record { line = Put s.size s.name; rest = s.rest; good = s.good; are = regroup bytes (codes "put ") front s.rest (sized_bytes s.size s.name) e s.are }

pub rule_front : (bytes front : List ℕ) → bytes ≡ codes "rule " ++ front → IsSizedFront front → IsLineFront bytes
rule_front bytes front e s = record { line = Rule s.size s.name; rest = s.rest; good = s.good; are = regroup bytes (codes "rule ") front s.rest (sized_bytes s.size s.name) e s.are }

pub del_front : (bytes front more : List ℕ) → bytes ≡ codes "del " ++ front → IsName (front ++ more) → IsLineFront bytes
del_front bytes front more e g = record { line = Del (front ++ more); rest = more; good = g; are = regroup bytes (codes "del ") front more (front ++ more) e refl }

pub unrule_front : (bytes front more : List ℕ) → bytes ≡ codes "unrule " ++ front → IsName (front ++ more) → IsLineFront bytes
unrule_front bytes front more e g = record { line = Unrule (front ++ more); rest = more; good = g; are = regroup bytes (codes "unrule ") front more (front ++ more) e refl }

pub sync_front : (bytes front more : List ℕ) → bytes ≡ codes "sync " ++ front → IsName (front ++ more) → IsLineFront bytes
sync_front bytes front more e g = record { line = Sync (front ++ more); rest = more; good = inl g; are = regroup bytes (codes "sync ") front more (front ++ more) e refl }

-- the first two bytes, as one number
abbrev start : List ℕ → ℕ
start bytes = 256 * get_or bytes 0 0 + get_or bytes 1 0

apart : (m n : ℕ) → m ≡ n → eqb m n ≡ false → ⊥
apart m n e f = let t : eqb m n ≡ true = eq-eqb m n e in absurd cc

-- what a line with that word has behind it
same_start : (line : Line) (bytes word front rest : List ℕ) → bytes ≡ word ++ front → line_bytes line ≡ bytes ++ rest → line_bytes line ≡ word ++ (front ++ rest)
same_start line bytes word front rest e f = f ∙ ap (λ (l : List ℕ). l ++ rest) e ∙ append_assoc word front rest

pub no_put : (bytes front : List ℕ) → bytes ≡ codes "put " ++ front → (IsSizedFront front → ⊥) → IsLineFront bytes → ⊥
no_put bytes front e none f = by_line f.line f.good f.are
  where
    by_line : (line : Line) → IsLine line → line_bytes line ≡ bytes ++ f.rest → ⊥
    by_line (Put n path) g h = none (record { size = n; name = path; rest = f.rest; good = g; are = cancel bytes (codes "put ") front f.rest (sized_bytes n path) e h })
    by_line line g h = apart (start (line_bytes line)) (start (codes "put " ++ (front ++ f.rest))) (ap start (same_start line bytes (codes "put ") front f.rest e h)) refl

pub no_rule : (bytes front : List ℕ) → bytes ≡ codes "rule " ++ front → (IsSizedFront front → ⊥) → IsLineFront bytes → ⊥
no_rule bytes front e none f = by_line f.line f.good f.are
  where
    by_line : (line : Line) → IsLine line → line_bytes line ≡ bytes ++ f.rest → ⊥
    by_line (Rule n name) g h = none (record { size = n; name = name; rest = f.rest; good = g; are = cancel bytes (codes "rule ") front f.rest (sized_bytes n name) e h })
    by_line line g h = apart (start (line_bytes line)) (start (codes "rule " ++ (front ++ f.rest))) (ap start (same_start line bytes (codes "rule ") front f.rest e h)) refl

pub no_del : (bytes front : List ℕ) → bytes ≡ codes "del " ++ front → ((more : List ℕ) → IsName (front ++ more) → ⊥) → IsLineFront bytes → ⊥
no_del bytes front e none f = by_line f.line f.good f.are
  where
    by_line : (line : Line) → IsLine line → line_bytes line ≡ bytes ++ f.rest → ⊥
    by_line (Del path) g h = none f.rest (subst IsName (cancel bytes (codes "del ") front f.rest path e h) g)
    by_line line g h = apart (start (line_bytes line)) (start (codes "del " ++ (front ++ f.rest))) (ap start (same_start line bytes (codes "del ") front f.rest e h)) refl

pub no_unrule : (bytes front : List ℕ) → bytes ≡ codes "unrule " ++ front → ((more : List ℕ) → IsName (front ++ more) → ⊥) → IsLineFront bytes → ⊥
no_unrule bytes front e none f = by_line f.line f.good f.are
  where
    by_line : (line : Line) → IsLine line → line_bytes line ≡ bytes ++ f.rest → ⊥
    by_line (Unrule name) g h = none f.rest (subst IsName (cancel bytes (codes "unrule ") front f.rest name e h) g)
    by_line line g h = apart (start (line_bytes line)) (start (codes "unrule " ++ (front ++ f.rest))) (ap start (same_start line bytes (codes "unrule ") front f.rest e h)) refl

-- a front of a prefix goes on to a name
prefix_name : (front rest prefix : List ℕ) → IsPrefix prefix → prefix ≡ front ++ rest → ((more : List ℕ) → IsName (front ++ more) → ⊥) → ⊥
prefix_name front rest prefix (inl g) e none = none rest (subst IsName e g)
prefix_name [] rest prefix (inr d) e none = none (97 ∷ []) letter_name
prefix_name (x ∷ []) rest prefix (inr d) e none = let h : x ≡ 46 = first_of x [] rest prefix d e in none (97 ∷ []) (subst (λ (n : ℕ). IsName (n ∷ 97 ∷ [])) (sym h) dot_name)
  where
    first_of : (x : ℕ) (front rest prefix : List ℕ) → prefix ≡ codes "." → prefix ≡ (x ∷ front) ++ rest → x ≡ 46
    first_of x front rest prefix d e = let t : 46 ∷ [] ≡ x ∷ (front ++ rest) = sym d ∙ e in cc
prefix_name (x ∷ y ∷ front) rest prefix (inr d) e none = let t : 46 ∷ [] ≡ x ∷ y ∷ (front ++ rest) = sym d ∙ e in absurd cc

pub no_sync : (bytes front : List ℕ) → bytes ≡ codes "sync " ++ front → ((more : List ℕ) → IsName (front ++ more) → ⊥) → IsLineFront bytes → ⊥
no_sync bytes front e none f = by_line f.line f.good f.are
  where
    by_line : (line : Line) → IsLine line → line_bytes line ≡ bytes ++ f.rest → ⊥
    by_line (Sync prefix) g h = prefix_name front f.rest prefix g (cancel bytes (codes "sync ") front f.rest prefix e h) none
    by_line line g h = apart (start (line_bytes line)) (start (codes "sync " ++ (front ++ f.rest))) (ap start (same_start line bytes (codes "sync ") front f.rest e h)) refl

-- ---- how long a front is

pub front_short : (bytes : List ℕ) → IsLineFront bytes → length bytes ≤ 1039
front_short bytes f = let n : length (line_bytes f.line) ≡ length bytes + length f.rest = ap length f.are ∙ length-append bytes f.rest in let m = line_short f.line f.good in omega arith

-- ---- what a test of a front tells of a longer one

pub if_ok_more : {E : Type 0} (r : Result Bool E) (P Q : Bool → Type 0) → ((b : Bool) → P b → Q b) → IfOk r P → IfOk r Q
if_ok_more (Ok b) P Q f p = f b p
if_ok_more (Err e) P Q f p = tt

-- ---- what a test of emptiness tells

pub empty_bytes : (bytes : List ℕ) (b : Bool) → b ≡ true → b ≡ (length bytes == 0) → bytes ≡ []
empty_bytes bytes b t e = nil_from_length bytes (eqb-true (length bytes) 0 (sym e ∙ t))

pub some_bytes : (bytes : List ℕ) (b : Bool) → b ≡ false → b ≡ (length bytes == 0) → 0 < length bytes
some_bytes [] b f e = absurd cc
some_bytes (x ∷ bytes) b f e = omega arith
