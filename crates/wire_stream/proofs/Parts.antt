-- A length, a space and a name.
use Rattle.std.proofs.Common.{◌≡◌, ℕ, ◌+◌, ◌<◌, ◌≤◌, List, [], ◌∷◌, ◌++◌, length, get_or, take, drop, sym, ap, ◌∙◌, subst, arith, append_assoc, append-nil, eq-eqb}
use Rattle.std.specs.Prelude.{None, Some}
use Rattle.std.specs.Fmt.{decimal}
use Rattle.std.proofs.lemmas.Bool.{eqb-true}
use Rattle.memchr.specs.Find.{is_byte, IsFirstByte}
use Rattle.wire_stream.specs.Lines.{IsSized, sized_bytes}
use Rattle.wire_stream.specs.Heads.{Lacks, IsLineEnd}
use Rattle.wire_stream.proofs.Firsts.{lacks_by_place, lacks_before, parts_at, no_place, same_first}
use Rattle.wire_stream.proofs.Lines.{decimal_lacks}

-- what a search of a byte tells
pub lacks_of : (b : ℕ) (bytes : List ℕ) → IsFirstByte (is_byte b) bytes None → Lacks b bytes
lacks_of b bytes f = lacks_by_place b bytes (λ i lt e. f i (omega arith) lt (eq-eqb (get_or bytes i 0) b e))

pub place_within : (b : ℕ) (bytes : List ℕ) (at : ℕ) → IsFirstByte (is_byte b) bytes (Some at) → at < length bytes
place_within b bytes at f = f.0.high

pub parts_of : (b : ℕ) (bytes : List ℕ) (at : ℕ) → IsFirstByte (is_byte b) bytes (Some at) → bytes ≡ take at bytes ++ (b ∷ drop (at + 1) bytes)
parts_of b bytes at f = parts_at bytes at b f.0.high (eqb-true (get_or bytes at 0) b f.1)

pub before_of : (b : ℕ) (bytes : List ℕ) (at : ℕ) → IsFirstByte (is_byte b) bytes (Some at) → Lacks b (take at bytes)
before_of b bytes at f = lacks_before bytes at b f.0.high (λ k low e. f.0.before k (omega arith) low (eq-eqb (get_or bytes k 0) b e))

pub end_of : (bytes : List ℕ) (at : ℕ) → IsFirstByte (is_byte 10) bytes (Some at) → IsLineEnd bytes at
end_of bytes at f = record { within = f.0.high; is = eqb-true (get_or bytes at 0) 10 f.1; first = λ k low e. f.0.before k (omega arith) low (eq-eqb (get_or bytes k 0) 10 e) }

-- bytes without a space
pub sized_spaceless : (bytes : List ℕ) → IsFirstByte (is_byte 32) bytes None → (n : ℕ) (name : List ℕ) → IsSized n name → bytes ≡ sized_bytes n name → ⊥
sized_spaceless bytes f n name g e = no_place 32 bytes (decimal n) name (lacks_of 32 bytes f) e

-- what stands before the first space, and what follows it
pub sized_parts : (bytes : List ℕ) (at : ℕ) → IsFirstByte (is_byte 32) bytes (Some at) → (n : ℕ) (name rest : List ℕ) → n ≤ 268435456 → bytes ++ rest ≡ sized_bytes n name → (take at bytes ≡ decimal n) × (drop (at + 1) bytes ++ rest ≡ name)
sized_parts bytes at f n name rest small e =
    let whole : bytes ++ rest ≡ take at bytes ++ (32 ∷ (drop (at + 1) bytes ++ rest)) = ap (λ (l : List ℕ). l ++ rest) (parts_of 32 bytes at f) ∙ append_assoc (take at bytes) (32 ∷ drop (at + 1) bytes) rest in
    same_first 32 (take at bytes) (drop (at + 1) bytes ++ rest) (decimal n) name (before_of 32 bytes at f) (decimal_lacks 32 n (omega arith) (omega arith)) (sym whole ∙ e)

pub sized_whole : (bytes : List ℕ) (at : ℕ) → IsFirstByte (is_byte 32) bytes (Some at) → (n : ℕ) (name : List ℕ) → n ≤ 268435456 → bytes ≡ sized_bytes n name → (take at bytes ≡ decimal n) × (drop (at + 1) bytes ≡ name)
sized_whole bytes at f n name small e =
    let t = sized_parts bytes at f n name [] small (append-nil bytes ∙ e) in
    (t.0, sym (append-nil (drop (at + 1) bytes)) ∙ t.1)

pub lacks_is : (bytes hand : List ℕ) → bytes ≡ hand → Lacks 10 bytes → Lacks 10 hand
lacks_is bytes hand e l = let P : List ℕ → Type 0 = λ x. Lacks 10 x in subst P e l
