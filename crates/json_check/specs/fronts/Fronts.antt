-- Steps of `first_bad`, which no promise cites: the characters of a front, read one by one.
use Rattle.std.specs.Prelude.{ℕ, ◌+◌, slice_index, ◌==◌, if◌then◌else◌, nat_le, ◌&&◌, ◌||◌, Bool, true, false, not, List, [], ◌∷◌, Option, Some, None}
use Rattle.json_tree.specs.States.{next_state, may_end}
use Rattle.json_tree.specs.declared.token.Word.{Word}
use Rattle.json_tree.specs.declared.token.Word.TheVariants as words
use Rattle.json_check.specs.fronts.Moves.{Standing, behind_token, at_first, is_over, standing}
use Rattle.json_check.specs.declared.front.Front.{Front as Held}

-- the states of the automaton before a lexeme, and in blanks
abbrev pub before : ℕ
before = 36

abbrev pub in_blanks : ℕ
in_blanks = 108

-- the word of the token that begins with the character, where blanks don't
abbrev pub begun : ℕ → Option Word
begun c =
    if c == 123 then Some words.LeftBrace else (if c == 125 then Some words.RightBrace else (if c == 91 then Some words.LeftBracket else (if c == 93 then Some words.RightBracket else (if c == 44 then Some words.Comma
    else (if c == 58 then Some words.Colon else (if c == 34 then Some words.Str else (if c == 45 then Some words.Number else (if nat_le 48 c && nat_le c 57 then Some words.Number
    else (if c == 116 then Some words.Const else (if c == 102 then Some words.Const else (if c == 110 then Some words.Const else None)))))))))))

-- where a front ends: in which state of the automaton, and behind which tokens, the one that it ends in among them
pub record Front : Type 0 where
  pub state : ℕ
  pub standing : Standing

abbrev pub at_start : Front
at_start = record { state = in_blanks; standing = at_first }

abbrev pub with_token : ℕ → Option Standing → Option Front
with_token s None = None
with_token s (Some standing) = Some (record { state = s; standing = standing })

-- where one stands behind what begins with the character
abbrev pub behind_word : Standing → Option Word → Option Standing
behind_word s None = Some s
behind_word s (Some w) = behind_token s w

-- the front with one more character, where that is viable: in the lexeme at hand, or as the first of another
abbrev pub longer : Front → ℕ → Option Front
longer f c =
    if next_state f.state c == 0 then (if may_end f.state then (if next_state before c == 0 then None else with_token (next_state before c) (behind_word f.standing (begun c))) else None)
    else Some (record { state = next_state f.state c; standing = f.standing })

-- the front with more characters
abbrev pub read_on : Front → List ℕ → Option Front
read_on f [] = Some f
read_on f (c ∷ cs) = elim (longer f c) [ None ↦ None | Some g ↦ read_on g cs ]

-- whether a front is a whole text
abbrev pub is_whole_text : Front → Bool
is_whole_text f = may_end f.state && is_over f.standing

abbrev pub held : Held → Front
held f = record { state = f.state; standing = standing f.nest }
