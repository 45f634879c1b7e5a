-- The steps from lines to a value.
use Rattle.std.proofs.Common.{◌≡◌, ℕ, Bool, List, [], ◌∷◌, ◌++◌, length, reverse, Option, Some, None, Result, Ok, Err, refl, sym, ap, ◌∙◌, arith, append_assoc, suc}
use Rattle.std.specs.Option.{option_map, option_and_then}
use Rattle.std.specs.Borrow.{Bor}
use Rattle.std.specs.Str.Lines.{lines}
use Rattle.std.proofs.lemmas.List.{length-reverse, reverse-reverse}
use Rattle.yaml_lines.specs.Body.{texts}
use Rattle.yaml_lines.specs.Lines.{lines_of, past_order_mark, Gives}
use Rattle.yaml_lines.specs.declared.line.YLine.{YLine}
use Rattle.yaml_lines.specs.declared.fault.YFault.{YFault}
use Rattle.yaml_lines.specs.declared.fault.YFault.TheVariants.{Memory, NotUtf8, OutsideProfile, NoValue}
use Rattle.yaml_lines.proofs.Reading.{gives_same}
use Rattle.yaml_cells.specs.declared.cell.Cell.{Cell}
use Rattle.yaml_cells.specs.declared.value.YValue.{YValue}
use Rattle.yaml_read.specs.Building.{Built, node_at}
use Rattle.yaml_cells.specs.Leaf.{Adds}
use Rattle.yaml_read.specs.Value.{cells_of, ends_line, value_of, or_none, built, whole, IsCells}

pub length-texts : (all : List (Bor (List ℕ))) → length (texts all) ≡ length all
length-texts [] = refl
length-texts (l ∷ ls) = ap suc (length-texts ls)

adds_some : (old mid new marks w : List Cell) → mid ≡ old ++ marks → ◌≡◌ {A = Option (List Cell)} (Some (mid ++ w)) (Some new) → ◌≡◌ {A = Option (List Cell)} (Some (old ++ (marks ++ w))) (Some new)
adds_some old mid new marks w m h = ap Some (sym (append_assoc old marks w) ∙ ap (λ (x : List Cell). x ++ w) (sym m)) ∙ h

-- cells behind marks that were added
pub adds_behind : (old mid new marks : List Cell) (wanted : Option (List Cell)) (r : Result (Unit {0}) YFault) → mid ≡ old ++ marks → Adds wanted r mid new → Adds (option_map (λ y. marks ++ y) wanted) r old new
adds_behind old mid new marks None (Ok u) m h = h
adds_behind old mid new marks (Some w) (Ok u) m h = adds_some old mid new marks w m h
adds_behind old mid new marks wanted (Err Memory) m h = tt
adds_behind old mid new marks wanted (Err NotUtf8) m h = (h.0, ap (option_map (λ y. marks ++ y)) h.1)
adds_behind old mid new marks wanted (Err (OutsideProfile f n)) m h = (h.0, ap (option_map (λ y. marks ++ y)) h.1)
adds_behind old mid new marks wanted (Err NoValue) m h = (h.0, ap (option_map (λ y. marks ++ y)) h.1)

no_cell : (new : List Cell) → length (reverse new) ≡ 0 → new ≡ []
no_cell [] e = refl
no_cell (x ∷ xs) e = absurd (omega (arith, e, length-reverse (x ∷ xs)))

left_by : (v : YValue) (new rest : List Cell) → rest ≡ reverse new → (new ≡ [] → ⊥) → Err NoValue ≡ or_none (whole (v, rest))
left_by v new [] e h = absurd (h (no_cell new (ap length (sym e))))
left_by v new (x ∷ xs) e h = refl

-- cells are left over
pub left_over : (cells new : List Cell) (v : YValue) → node_at 100 0 cells ≡ Some (v, reverse new) → (new ≡ [] → ⊥) → Err NoValue ≡ or_none (built cells)
left_over cells new v e h = left_by v new (reverse new) refl h ∙ ap (λ (o : Option Built). or_none (option_and_then whole o)) (sym e)

value_by : (bytes : List ℕ) (found f : List YLine) (all : List (Bor (List ℕ))) (end : Bool) → Ok found ≡ lines_of bytes → f ≡ found → texts all ≡ lines (past_order_mark bytes) → end ≡ ends_line bytes → value_of bytes ≡ or_none (option_and_then built (cells_of (texts all) end f))
value_by bytes found f all end l g t e = rw (← l, g, ← t, e) refl

pub value_is : (bytes : List ℕ) (found f : List YLine) (all : List (Bor (List ℕ))) (end : Bool) (cells turned : List Cell) (r : Result YValue YFault) → Ok found ≡ lines_of bytes → f ≡ found → texts all ≡ lines (past_order_mark bytes) → end ≡ ends_line bytes → cells_of (texts all) end f ≡ Some cells → turned ≡ reverse cells → Gives (or_none (built (reverse turned))) r → Gives (value_of bytes) r
value_is bytes found f all end cells turned r l g t e c u h =
    let back : reverse turned ≡ cells = ap reverse u ∙ reverse-reverse cells in
    gives_same (value_of bytes) (or_none (built (reverse turned))) r
    (value_by bytes found f all end l g t e ∙ ap (λ (o : Option (List Cell)). or_none (option_and_then built o)) c ∙ ap (λ (x : List Cell). or_none (built x)) (sym back))
    h

none_by : (bytes : List ℕ) (found f : List YLine) (all : List (Bor (List ℕ))) (end : Bool) → Ok found ≡ lines_of bytes → f ≡ found → texts all ≡ lines (past_order_mark bytes) → end ≡ ends_line bytes → cells_of (texts all) end f ≡ None → Err NoValue ≡ value_of bytes
none_by bytes found f all end l g t e c = sym (value_by bytes found f all end l g t e ∙ ap (λ (o : Option (List Cell)). or_none (option_and_then built o)) c)

pub value_none : (bytes : List ℕ) (found f : List YLine) (all : List (Bor (List ℕ))) (end : Bool) (fault : YFault) → Ok found ≡ lines_of bytes → f ≡ found → texts all ≡ lines (past_order_mark bytes) → end ≡ ends_line bytes → IsCells (cells_of (texts all) end f) (Err fault) → Gives (value_of bytes) (Err fault)
value_none bytes found f all end Memory l g t e h = tt
value_none bytes found f all end NotUtf8 l g t e h = absurd (let x = h.0 in cc)
value_none bytes found f all end (OutsideProfile a b) l g t e h = absurd (let x = h.0 in cc)
value_none bytes found f all end NoValue l g t e h = none_by bytes found f all end l g t e h.1
