-- The value that is read is the text's, and a text's value is read.
use Rattle.std.proofs.Common.{◌≡◌, ℕ, List, [], ◌∷◌, ◌++◌, Option, Some, None, Result, Ok, Err, refl, sym, ap, ◌∙◌, subst, IfSome}
use Rattle.std.specs.Option.{option_and_then}
use Rattle.yaml_lines.specs.Lines.{lines_of}
use Rattle.yaml_lines.specs.declared.line.YLine.{YLine}
use Rattle.yaml_lines.specs.declared.fault.Feature.{Feature}
use Rattle.yaml_lines.specs.declared.fault.YFault.{YFault}
use Rattle.yaml_lines.specs.declared.fault.YFault.TheVariants.{NotUtf8, OutsideProfile, NoValue}
use Rattle.yaml_cells.specs.declared.cell.Cell.{Cell}
use Rattle.yaml_cells.specs.declared.value.YValue.{YValue}
use Rattle.yaml_read.specs.Building.{Built, node_at}
use Rattle.yaml_read.specs.Builds.{Builds}
use Rattle.yaml_read.specs.Value.{IsValueOf, whole, built, or_none, value_with, value_of, cells_of, ends_line, text_lines}
use Rattle.yaml_read.proofs.Sound.{node_sound, Found}
use Rattle.yaml_read.proofs.Complete.{node_read, Behind}
use Rattle.yaml_lines.specs.Lines.{Gives}
use Rattle.yaml_lines.proofs.Reading.{gives_same}
use Rattle.std.specs.Prelude.{IfOk}
use Rattle.yaml_cells.specs.declared.cell.Cell.TheVariants.{Dash, Key, Scalar, Open, Close, Comma}

append_nil : (xs : List Cell) → xs ++ [] ≡ xs
append_nil [] = refl
append_nil (x ∷ xs) = ap (λ (z : List Cell). x ∷ z) (append_nil xs)

behind_nil : (ts : List Cell) → Behind 0 ts []
behind_nil [] = tt
behind_nil (Dash c ∷ ts) = tt
behind_nil (Key c k ∷ ts) = tt
behind_nil (Scalar c v ∷ ts) = tt
behind_nil (Open c ∷ ts) = tt
behind_nil (Close ∷ ts) = tt
behind_nil (Comma ∷ ts) = tt

-- all the cells build what is built from them
whole_sound : (cells : List Cell) (w : YValue) (rest : List Cell) → Found (Builds 100) 0 cells (w, rest) → (v : YValue) → whole (w, rest) ≡ Some v → Builds 100 0 cells v
whole_sound cells w [] (inside, e, q, i) v f =
    let same : w ≡ v = cc in
    let P : List Cell → Type 0 = λ x. Builds 100 0 x v in
    let R : YValue → Type 0 = λ x. Builds 100 0 inside x in
    subst P (sym (e ∙ append_nil inside)) (subst R same q)
whole_sound cells w (x ∷ xs) d v f = absurd (cc)

sound_by : (cells : List Cell) (o : Option Built) → IfSome o (Found (Builds 100) 0 cells) → (v : YValue) → option_and_then whole o ≡ Some v → Builds 100 0 cells v
sound_by cells None d v e = absurd (cc)
sound_by cells (Some b) d v e = whole_sound cells b.0 b.1 d v e

built_sound : (cells : List Cell) (v : YValue) → built cells ≡ Some v → Builds 100 0 cells v
built_sound cells v e = sound_by cells (node_at 100 0 cells) (node_sound 100 0 cells) v e

built_all : (cells : List Cell) (v : YValue) → Builds 100 0 cells v → built cells ≡ Some v
built_all cells v b = ap (option_and_then whole) (sym (ap (node_at 100 0) (append_nil cells)) ∙ node_read 100 0 cells v [] b (behind_nil cells))

some_value : (o : Option YValue) (v : YValue) → or_none o ≡ Ok v → o ≡ Some v
some_value None v e = absurd (cc)
some_value (Some w) v e = let same : w ≡ v = cc in ap Some same

by_cells : (bytes : List ℕ) (v : YValue) (found : List YLine) → lines_of bytes ≡ Ok found → (o : Option (List Cell)) → cells_of (text_lines bytes) (ends_line bytes) found ≡ o → or_none (option_and_then built o) ≡ Ok v → IsValueOf bytes v
by_cells bytes v found l None c e = absurd (cc)
by_cells bytes v found l (Some cells) c e = record { found = found; lines = l; cells = cells; scalars = c; builds = built_sound cells v (some_value (built cells) v e) }

by_lines : (bytes : List ℕ) (v : YValue) (r : Result (List YLine) YFault) → lines_of bytes ≡ r → value_with bytes r ≡ Ok v → IsValueOf bytes v
by_lines bytes v (Err f) l e = absurd (cc)
by_lines bytes v (Ok found) l e = by_cells bytes v found l (cells_of (text_lines bytes) (ends_line bytes) found) refl e

-- what is read is the text's value
pub value_sound : (bytes : List ℕ) (v : YValue) → value_of bytes ≡ Ok v → IsValueOf bytes v
value_sound bytes v e = by_lines bytes v (lines_of bytes) refl e

-- the text's value is read
pub value_read : (bytes : List ℕ) (v : YValue) → IsValueOf bytes v → value_of bytes ≡ Ok v
value_read bytes v is = rw (is.lines, is.scalars, built_all is.cells v is.builds) refl

-- a text that has a value has only that one, and what isn't read has none
pub gives_value : (bytes : List ℕ) (r : Result YValue YFault) → Gives (value_of bytes) r → IfOk r (IsValueOf bytes)
gives_value bytes (Ok v) g = value_sound bytes v (sym g)
gives_value bytes (Err e) g = tt

pub gives_only : (bytes : List ℕ) (r : Result YValue YFault) → Gives (value_of bytes) r → (v : YValue) → IsValueOf bytes v → Gives (Ok v) r
gives_only bytes r g v is = gives_same (Ok v) (value_of bytes) r (sym (value_read bytes v is)) g

-- where there is no value, none is the text's
pub gives_none : (bytes : List ℕ) (r : Result YValue YFault) → Gives (value_of bytes) r → r ≡ Err NoValue → (v : YValue) → IsValueOf bytes v → ⊥
gives_none bytes r g e v is =
    let P : Result YValue YFault → Type 0 = λ x. Gives (Ok v) x in
    let h : ◌≡◌ {A = Result YValue YFault} (Err NoValue) (Ok v) = subst P e (gives_only bytes r g v is) in
    cc

none_is : (o : Option YValue) (fault : YFault) → or_none o ≡ Err fault → fault ≡ NoValue
none_is None fault e = cc
none_is (Some v) fault e = absurd (cc)

-- a fault other than `NoValue` is that of the lines
fault_by : (bytes : List ℕ) (fault : YFault) (r : Result (List YLine) YFault) → (fault ≡ NoValue → ⊥) → lines_of bytes ≡ r → value_with bytes r ≡ Err fault → lines_of bytes ≡ Err fault
fault_by bytes fault (Err e) n l h = let same : e ≡ fault = cc in l ∙ ap Err same
fault_by bytes fault (Ok found) n l h = absurd (n (none_is (option_and_then built (cells_of (text_lines bytes) (ends_line bytes) found)) fault h))

pub gives_not_utf8 : (bytes : List ℕ) (r : Result YValue YFault) → Gives (value_of bytes) r → r ≡ Err NotUtf8 → lines_of bytes ≡ Err NotUtf8
gives_not_utf8 bytes r g e =
    let P : Result YValue YFault → Type 0 = λ x. Gives (value_of bytes) x in
    let h : Err NotUtf8 ≡ value_of bytes = subst P e g in
    fault_by bytes NotUtf8 (lines_of bytes) (λ x. cc) refl (sym h)

pub gives_outside : (bytes : List ℕ) (r : Result YValue YFault) → Gives (value_of bytes) r → (feature : Feature) (line : ℕ) → r ≡ Err (OutsideProfile feature line) → lines_of bytes ≡ Err (OutsideProfile feature line)
gives_outside bytes r g feature line e =
    let P : Result YValue YFault → Type 0 = λ x. Gives (value_of bytes) x in
    let h : Err (OutsideProfile feature line) ≡ value_of bytes = subst P e g in
    fault_by bytes (OutsideProfile feature line) (lines_of bytes) (λ x. cc) refl (sym h)

-- the fault of the lines is the answer
pub gives_refused : (bytes : List ℕ) (r : Result YValue YFault) → Gives (value_of bytes) r → (fault : YFault) → lines_of bytes ≡ Err fault → Gives (Err fault) r
gives_refused bytes r g fault l = gives_same (Err fault) (value_of bytes) r (sym (ap (value_with bytes) l)) g
