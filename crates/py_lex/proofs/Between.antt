-- The bytes of an f-string and its characters.
use Rattle.std.proofs.Common.{◌≡◌, ℕ, suc, ◌+◌, List, IfOk, sym, subst}
use Rattle.std.specs.Prelude.{Result, Ok, Err}
use Rattle.std.specs.Str.{chars, IsUtf8}
use Rattle.std.proofs.lemmas.Str.{encodes-chars}
use Rattle.node_tree.specs.declared.view.Mode.{Mode}
use Rattle.node_tree.specs.declared.fault.LexFault.{LexFault}
use Rattle.py_lex.specs.Parts.{inside_start, inside, IsQuoted, HasInside, HasBetween, HasParts}
use Rattle.py_lex.specs.declared.class.Class.{Class}
use Rattle.py_lex.specs.declared.token.FPart.{FPart}

-- the parts of an f-string are those between its quotes
pub has_between : (levels n : ℕ) (mode : Mode) (at : ℕ) (class : Class) (text : List ℕ) (xs : List FPart) → IsUtf8 text → levels ≡ suc n → HasParts levels mode at class (chars text) xs → HasBetween (HasParts n mode) mode at class text xs
has_between levels n mode at class text xs u e h =
    subst (λ (bs : List ℕ). HasBetween (HasParts n mode) mode at class bs xs) (encodes-chars text u) (subst (λ (k : ℕ). HasParts k mode at class (chars text) xs) e h)

between : (levels n : ℕ) (mode : Mode) (at : ℕ) (class : Class) (text : List ℕ) (xs : List FPart) → IsUtf8 text → levels ≡ suc n → HasBetween (HasParts n mode) mode at class text xs → HasParts levels mode at class (chars text) xs
between levels n mode at class text xs u e h =
    subst (λ (k : ℕ). HasParts k mode at class (chars text) xs) (sym e) (subst (λ (bs : List ℕ). HasBetween (HasParts n mode) mode at class bs xs) (sym (encodes-chars text u)) h)

abbrev pub InsideOf : ℕ → Mode → ℕ → List ℕ → List FPart → Type 0
InsideOf n mode at inner xs = HasInside (HasParts n mode) mode at (chars inner) xs

moved : (n : ℕ) (mode : Mode) (at at' : ℕ) (inner inner' : List ℕ) (xs : List FPart) → at ≡ at' → inner ≡ inner' → InsideOf n mode at inner xs → InsideOf n mode at' inner' xs
moved n mode at at' inner inner' xs e f h = subst (λ (k : ℕ). InsideOf n mode k inner' xs) e (subst (λ (bs : List ℕ). InsideOf n mode at bs xs) f h)

pub given_between : (levels n : ℕ) (mode : Mode) (at : ℕ) (class : Class) (text : List ℕ) (place : ℕ) (inner : List ℕ) (r : Result (List FPart) LexFault) → IsUtf8 text → levels ≡ suc n → IsQuoted class text → place ≡ at + inside_start class text → inner ≡ inside class text
    → IfOk r (λ l. InsideOf n mode place inner l) → IfOk r (λ l. HasParts levels mode at class (chars text) l)
given_between levels n mode at class text place inner (Ok l) u e q p i h = between levels n mode at class text l u e (q, moved n mode place (at + inside_start class text) inner (inside class text) l p i h)
given_between levels n mode at class text place inner (Err x) u e q p i h = tt

pub inside_between : (levels n : ℕ) (mode : Mode) (at : ℕ) (class : Class) (text : List ℕ) (place : ℕ) (inner : List ℕ) (xs : List FPart) → IsUtf8 text → levels ≡ suc n → place ≡ at + inside_start class text → inner ≡ inside class text
    → HasParts levels mode at class (chars text) xs → InsideOf n mode place inner xs
inside_between levels n mode at class text place inner xs u e p i h = moved n mode (at + inside_start class text) place (inside class text) inner xs (sym p) (sym i) (has_between levels n mode at class text xs u e h).1
