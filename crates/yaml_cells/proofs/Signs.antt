-- The pieces of a flow sequence.
use Rattle.std.proofs.Common.{◌≡◌, ℕ, ◌+◌, ◌-◌, ◌<◌, ◌≤◌, Bool, true, false, List, [], ◌∷◌, ◌++◌, length, get_or, drop, take, Option, Some, None, refl, sym, ap, ◌∙◌, arith, append_assoc, length-drop}
use Rattle.std.specs.Option.{option_map}
use Rattle.std.proofs.lemmas.List.{drop_more, take_more, get_or-drop}
use Rattle.yaml_lines.specs.declared.scan.Scan.{Scan}
use Rattle.yaml_cells.specs.declared.cell.Cell.{Cell}
use Rattle.yaml_cells.specs.Flow.{flow_from, is_sign, step, is_gap, piece_cells, sign_of}
use Rattle.yaml_cells.proofs.Cells.{behind, behind-before}

pushed : (mid new : List Cell) (x : Cell) (r : Option (List Cell)) → new ≡ mid ++ (x ∷ []) → behind mid (option_map (λ cs. x ∷ cs) r) ≡ behind new r
pushed mid new x None e = refl
pushed mid new x (Some cs) e = ap Some (sym (append_assoc mid (x ∷ []) cs) ∙ ap (λ (z : List Cell). z ++ cs) (sym e))

nothing_taken : (n : ℕ) (xs : List ℕ) → take (n - n) xs ≡ []
nothing_taken n xs = let e : n - n ≡ 0 = omega arith in rw e refl

-- a sign ends a piece
pub flow_sign : (column : ℕ) (s : Scan) (gap : Bool) (piece text : List ℕ) (at b : ℕ) (old mid new : List Cell) (next : Scan) (more : Bool) → at < length text → b ≡ get_or text at 0 → is_sign s b ≡ true → behind old (piece_cells column true piece) ≡ Some mid → new ≡ mid ++ (sign_of column b ∷ []) → next ≡ step gap s b → more ≡ is_gap b → behind old (flow_from column s gap piece (drop at text)) ≡ behind new (flow_from column next more (take (at + 1 - (at + 1)) (drop (at + 1) text)) (drop (at + 1) text))
flow_sign column s gap piece text at b old mid new next more h e g p q n m =
    rw (drop_more text at 0 h, ← e, g, nothing_taken (at + 1) (drop (at + 1) text), n, m)
    (behind-before old mid (piece_cells column true piece) (option_map (λ cs. sign_of column b ∷ cs) (flow_from column (step gap s b) (is_gap b) [] (drop (at + 1) text))) p
    ∙ pushed mid new (sign_of column b) (flow_from column (step gap s b) (is_gap b) [] (drop (at + 1) text)) q)

piece_more : (text : List ℕ) (at from b : ℕ) → from ≤ at → at < length text → b ≡ get_or text at 0 → take (at - from) (drop from text) ++ (b ∷ []) ≡ take (at + 1 - from) (drop from text)
piece_more text at from b l h e =
    let n : at + 1 - from ≡ (at - from) + 1 = omega arith in
    let i : at - from < length (drop from text) = omega (arith, length-drop from text) in
    let k : from + (at - from) ≡ at = omega arith in
    let g : get_or (drop from text) (at - from) 0 ≡ get_or text at 0 = get_or-drop from text (at - from) 0 ∙ ap (λ (x : ℕ). get_or text x 0) k in
    sym (ap (λ (x : ℕ). take x (drop from text)) n ∙ take_more (drop from text) (at - from) 0 i ∙ ap (λ (x : ℕ). take (at - from) (drop from text) ++ (x ∷ [])) (g ∙ sym e))

-- a byte goes on with a piece
pub flow_byte : (column : ℕ) (s : Scan) (gap : Bool) (text : List ℕ) (at from b : ℕ) (cells : List Cell) (next : Scan) (more : Bool) → from ≤ at → at < length text → b ≡ get_or text at 0 → is_sign s b ≡ false → next ≡ step gap s b → more ≡ is_gap b → behind cells (flow_from column s gap (take (at - from) (drop from text)) (drop at text)) ≡ behind cells (flow_from column next more (take (at + 1 - from) (drop from text)) (drop (at + 1) text))
flow_byte column s gap text at from b cells next more l h e g n m =
    rw (drop_more text at 0 h, ← e, g, ← (piece_more text at from b l h e), n, m) refl
