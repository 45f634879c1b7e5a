-- The bytes of lines.
use Rattle.std.proofs.Common.{◌≡◌, inl, inr, ℕ, ◌+◌, ◌*◌, ◌%◌, ◌<◌, ◌≤◌, ◌^◌, List, [], ◌∷◌, ◌++◌, length, get_or, true, false, eqb, eq-eqb, refl, sym, ap, ◌∙◌, subst, arith, length-append}
use Rattle.std.specs.Prelude.{codes}
use Rattle.std.specs.Fmt.{decimal}
use Rattle.std.proofs.lemmas.Fmt.{decimal_by_steps, decimal_injective, length-decimal-le, IsAscii-decimal}
use Rattle.std.proofs.lemmas.Str.{IsUtf8-from_ascii}
use Rattle.std.specs.Str.{IsUtf8}
use Rattle.std.proofs.lemmas.List.{append_cancel_left}
use Rattle.wire_stream.specs.Lines.{Line, Put, Del, Rule, Unrule, Sync, Scan, Fix, End, sized_bytes, line_bytes, IsName, IsPrefix, IsSized, IsLine}
use Rattle.wire_stream.specs.Heads.{Lacks}
use Rattle.wire_stream.proofs.Firsts.{lacks_append, lacks_by_place, lacks_by_test, same_first}

pub decimal_lacks : (b n : ℕ) → b < 48 → n < 2 ^ 64 → Lacks b (decimal n)
decimal_lacks b n low small = decimal_by_steps (λ k ds. Lacks b ds) one more n small
  where
    one : (n : ℕ) → n < 10 → Lacks b ((48 + n) ∷ [])
    one n lt = (λ e. absurd (omega arith), tt)

    more : (n : ℕ) (ds : List ℕ) → 10 ≤ n → Lacks b ds → Lacks b (ds ++ ((48 + n % 10) ∷ []))
    more n ds ge l = lacks_append b ds ((48 + n % 10) ∷ []) l (λ e. absurd (omega arith), tt)

-- a number's digits are a text
pub decimal_text : (n : ℕ) → n ≤ 268435456 → IsUtf8 (decimal n)
decimal_text n small = IsUtf8-from_ascii (decimal n) (IsAscii-decimal n (omega arith))

pub name_lacks : (name : List ℕ) → IsName name → Lacks 10 name
name_lacks name g = lacks_by_place 10 name (λ i lt e. let p = g.path.printed i 0 lt in absurd (omega arith))

prefix_lacks : (name : List ℕ) → IsPrefix name → Lacks 10 name
prefix_lacks name (inl g) = name_lacks name g
prefix_lacks name (inr e) = let P : List ℕ → Type 0 = λ l. Lacks 10 l in subst P (sym e) (lacks_by_test 10 (codes ".") refl)

sized_lacks : (n : ℕ) (name : List ℕ) → IsSized n name → Lacks 10 (sized_bytes n name)
sized_lacks n name g = let small = g.0 in lacks_append 10 (decimal n) (32 ∷ name) (decimal_lacks 10 n (omega arith) (omega arith)) (λ e. absurd (omega arith), name_lacks name g.1)

pub line_lacks : (line : Line) → IsLine line → Lacks 10 (line_bytes line)
line_lacks (Put n path) g = lacks_append 10 (codes "put ") (sized_bytes n path) (lacks_by_test 10 (codes "put ") refl) (sized_lacks n path g)
line_lacks (Del path) g = lacks_append 10 (codes "del ") path (lacks_by_test 10 (codes "del ") refl) (name_lacks path g)
line_lacks (Rule n name) g = lacks_append 10 (codes "rule ") (sized_bytes n name) (lacks_by_test 10 (codes "rule ") refl) (sized_lacks n name g)
line_lacks (Unrule name) g = lacks_append 10 (codes "unrule ") name (lacks_by_test 10 (codes "unrule ") refl) (name_lacks name g)
line_lacks (Sync prefix) g = lacks_append 10 (codes "sync ") prefix (lacks_by_test 10 (codes "sync ") refl) (prefix_lacks prefix g)
line_lacks Scan g = lacks_by_test 10 (codes "scan") refl
line_lacks Fix g = lacks_by_test 10 (codes "fix") refl
line_lacks End g = lacks_by_test 10 (codes "end") refl

sized_short : (n : ℕ) (name : List ℕ) → IsSized n name → length (sized_bytes n name) ≤ 1034
sized_short n name g =
    let small = g.0 in
    let digits : length (decimal n) ≤ 9 = length-decimal-le 9 n (omega arith) (omega arith) (omega arith) in
    let most = g.1.path.most in
    let e : length (sized_bytes n name) ≡ length (decimal n) + length (32 ∷ name) = length-append (decimal n) (32 ∷ name) in
    omega arith

prefix_short : (name : List ℕ) → IsPrefix name → length name ≤ 1024
prefix_short name (inl g) = g.path.most
prefix_short name (inr e) = let n : length name ≡ length (codes ".") = ap length e in omega arith

pub line_short : (line : Line) → IsLine line → length (line_bytes line) ≤ 1039
line_short (Put n path) g = let h = sized_short n path g in omega arith
line_short (Del path) g = let h = g.path.most in omega arith
line_short (Rule n name) g = let h = sized_short n name g in omega arith
line_short (Unrule name) g = let h = g.path.most in omega arith
line_short (Sync prefix) g = let h = prefix_short prefix g in omega arith
line_short Scan g = omega arith
line_short Fix g = omega arith
line_short End g = omega arith

pub same_sized : (n m : ℕ) (p q : List ℕ) → n ≤ 268435456 → m ≤ 268435456 → sized_bytes n p ≡ sized_bytes m q → (n ≡ m) × (p ≡ q)
same_sized n m p q sn sm e =
    let s = same_first 32 (decimal n) p (decimal m) q (decimal_lacks 32 n (omega arith) (omega arith)) (decimal_lacks 32 m (omega arith) (omega arith)) e in
    (decimal_injective n m (omega arith) (omega arith) s.0, s.1)

-- the first two bytes, as one number
abbrev start : List ℕ → ℕ
start bytes = 256 * get_or bytes 0 0 + get_or bytes 1 0

apart : (m n : ℕ) → m ≡ n → eqb m n ≡ false → ⊥
apart m n e f = let t : eqb m n ≡ true = eq-eqb m n e in absurd cc

pub same_line : (a b : Line) → IsLine a → IsLine b → line_bytes a ≡ line_bytes b → a ≡ b
same_line (Put n p) (Put m q) g h e = let s = same_sized n m p q g.0 h.0 (append_cancel_left (codes "put ") (sized_bytes n p) (sized_bytes m q) e) in ap (λ (k : ℕ). Put k p) s.0 ∙ ap (λ (t : List ℕ). Put m t) s.1
same_line (Rule n p) (Rule m q) g h e = let s = same_sized n m p q g.0 h.0 (append_cancel_left (codes "rule ") (sized_bytes n p) (sized_bytes m q) e) in ap (λ (k : ℕ). Rule k p) s.0 ∙ ap (λ (t : List ℕ). Rule m t) s.1
same_line (Del p) (Del q) g h e = ap Del (append_cancel_left (codes "del ") p q e)
same_line (Unrule p) (Unrule q) g h e = ap Unrule (append_cancel_left (codes "unrule ") p q e)
same_line (Sync p) (Sync q) g h e = ap Sync (append_cancel_left (codes "sync ") p q e)
same_line Scan Scan g h e = refl
same_line Fix Fix g h e = refl
same_line End End g h e = refl
same_line a b g h e = absurd (apart (start (line_bytes a)) (start (line_bytes b)) (ap start e) refl)
