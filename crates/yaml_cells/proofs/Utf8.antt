-- Bytes that are or aren't UTF-8.
use Rattle.std.proofs.Common.{◌≡◌, ◌≢◌, ℕ, false, eqb, List, Option, Some, None, refl, ap, arith}
use Rattle.std.specs.Str.{IsUtf8, chars}
use Rattle.std.proofs.lemmas.Str.{is_utf8-from_IsUtf8}
use Rattle.yaml_lines.proofs.Steps.{not_text}
use Rattle.yaml_cells.specs.Word.{text_of}
use Rattle.yaml_cells.specs.Quoted.{row, double_row, single_row}

pub utf8_some : (bs t : List ℕ) → IsUtf8 bs → t ≡ bs → Some t ≡ text_of bs
utf8_some bs t u e = rw (is_utf8-from_IsUtf8 bs u) (ap Some e)

pub utf8_none : (bs : List ℕ) → (IsUtf8 bs → ⊥) → None ≡ text_of bs
utf8_none bs wrong = rw (not_text bs wrong) refl

no_double : (quote : ℕ) → quote ≢ 34 → eqb quote 34 ≡ false
no_double quote other = grind arith

pub double_is : (quote : ℕ) (next : Option ℕ) (text t : List ℕ) → quote ≡ 34 → IsUtf8 text → t ≡ text → double_row next (chars t) ≡ row quote next text
double_is quote next text t q u same = rw (is_utf8-from_IsUtf8 text u, q, ← same) refl

pub single_is : (quote : ℕ) (next : Option ℕ) (text t : List ℕ) → quote ≢ 34 → IsUtf8 text → t ≡ text → single_row (chars t) ≡ row quote next text
single_is quote next text t q u same = rw (is_utf8-from_IsUtf8 text u, no_double quote q, ← same) refl

pub row_none : (quote : ℕ) (next : Option ℕ) (text : List ℕ) → (IsUtf8 text → ⊥) → None ≡ row quote next text
row_none quote next text wrong = rw (not_text text wrong) refl
