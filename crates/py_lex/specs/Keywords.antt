-- The keywords of Python 3.
use Rattle.std.specs.Prelude.{ℕ, Bool, List, [], ◌∷◌, codes}
use Rattle.lexing.specs.WordList.{is_among}

abbrev pub keywords : List (List ℕ)
keywords = codes "False" ∷ codes "None" ∷ codes "True" ∷ codes "and" ∷ codes "as" ∷ codes "assert" ∷ codes "async" ∷ codes "await" ∷ codes "break" ∷ codes "class" ∷ codes "continue" ∷ codes "def" ∷ codes "del" ∷ codes "elif" ∷ codes "else" ∷ codes "except" ∷ codes "finally" ∷ codes "for"
    ∷ codes "from" ∷ codes "global" ∷ codes "if" ∷ codes "import" ∷ codes "in" ∷ codes "is" ∷ codes "lambda" ∷ codes "nonlocal" ∷ codes "not" ∷ codes "or" ∷ codes "pass" ∷ codes "raise" ∷ codes "return" ∷ codes "try" ∷ codes "while" ∷ codes "with" ∷ codes "yield" ∷ []

unfoldable pub is_keyword : List ℕ → Bool
is_keyword text = is_among keywords text
