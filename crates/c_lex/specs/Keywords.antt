-- The keywords of C11, without `_Alignas`, `_Alignof`, `_Atomic`, `_Generic`, `_Imaginary`, `_Static_assert` and `_Thread_local`.
use Rattle.std.specs.Prelude.{ℕ, Bool, List, [], ◌∷◌, codes}
use Rattle.lexing.specs.WordList.{is_among}

abbrev pub keywords : List (List ℕ)
keywords = codes "auto" ∷ codes "break" ∷ codes "case" ∷ codes "char" ∷ codes "const" ∷ codes "continue" ∷ codes "default" ∷ codes "do" ∷ codes "double" ∷ codes "else" ∷ codes "enum" ∷ codes "extern" ∷ codes "float" ∷ codes "for" ∷ codes "goto"
    ∷ codes "if" ∷ codes "inline" ∷ codes "int" ∷ codes "long" ∷ codes "register" ∷ codes "restrict" ∷ codes "return" ∷ codes "short" ∷ codes "signed" ∷ codes "sizeof" ∷ codes "static" ∷ codes "struct" ∷ codes "switch" ∷ codes "typedef"
    ∷ codes "union" ∷ codes "unsigned" ∷ codes "void" ∷ codes "volatile" ∷ codes "while" ∷ codes "_Bool" ∷ codes "_Complex" ∷ codes "_Noreturn" ∷ []

unfoldable pub is_keyword : List ℕ → Bool
is_keyword text = is_among keywords text
