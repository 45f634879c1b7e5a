-- What the functions of the example read.
use Rattle.std.specs.Prelude.{◌≡◌, ◌≤◌, ℕ, suc, Bool, true, not, List, [], ◌∷◌, length, Option, Some, None, Result, Ok, Err, Vec}
use Rattle.std.specs.declared.alloc.Global.{Global}
use Rattle.sums.specs.declared.token.Token.{Token}
use Rattle.sums.specs.declared.token.Word.TheVariants.{Hole}
use Rattle.sums.specs.declared.node.Node.{Node}
use Rattle.sums.specs.declared.reader.Inner.{Inner}
use Rattle.sums.specs.declared.reader.Inner.TheVariants.{One, Several}
use Rattle.sums.specs.declared.reader.ReadFault.{ReadFault}
use Rattle.sums.specs.declared.reader.ReadFault.TheVariants as faults
use Rattle.sums.specs.declared.runs.Start.{Start}
use Rattle.sums.specs.declared.runs.Start.TheVariants as starts
use Rattle.grammar.specs.Rule.{has, IsPiece, IsRun, brackets_round}
use Rattle.grammar.specs.Reader.{read_level}
use Rattle.grammar.specs.Tests.{verdict}
use Rattle.sums.specs.Token.{class, token_at}
use Rattle.sums.specs.Tree.{Tree, view, views, depth_all}
use Rattle.sums.specs.Table.{Level, Text, Exprs, Cast, table, grammar, automaton}
use Rattle.sums.specs.Build.{source, parted, group}
use Rattle.sums.specs.Sets.{sets, ranks}

-- the reader of a level, by the table
unfoldable pub level : List Token → ℕ → Level → ℕ → Option (List Tree × ℕ)
level ts room l i = read_level (source ts) sets (suc (length ts)) table ranks.top room l i

-- what the test of a cast says in a state before the token at a place, looking at n tokens at most
unfoldable pub says_at : List Token → ℕ → ℕ → ℕ → Bool
says_at ts n a i = verdict automaton n a (source ts).cls i

-- the classes that a text may have, and not a pattern alone
abbrev pub of_text : ℕ → Bool
of_text c = not (has (class Hole ∷ []) c)

-- a fault comes from want of memory, or where nothing is read
abbrev pub Fails : {Y : Type 0} → ReadFault → Option Y → Type 0
Fails faults.Memory read = record {}
Fails faults.NoTree read = read ≡ None

-- a node and where it ends are what is read
abbrev pub Gives : Result (Node × ℕ) ReadFault → Option (List Tree × ℕ) → Type 0
Gives (Ok x) read = read ≡ Some (view x.0 ∷ [], x.1)
Gives (Err e) read = Fails e read

-- the same of a list of nodes
abbrev pub GivesAll : Result (Vec Node Global × ℕ) ReadFault → Option (List Tree × ℕ) → Type 0
GivesAll (Ok x) read = read ≡ Some (views x.0.items, x.1)
GivesAll (Err e) read = Fails e read

-- the nodes of what stands inside parentheses
abbrev pub inner_views : Inner → List Tree
inner_views (One n) = view n ∷ []
inner_views (Several kids) = parted (views kids.items)

-- the same of what stands inside parentheses
abbrev pub GivesInside : Result (Inner × ℕ) ReadFault → Option (List Tree × ℕ) → Type 0
GivesInside (Ok x) read = read ≡ Some (inner_views x.0, x.1)
GivesInside (Err e) read = Fails e read

-- the tree that is made of what stands inside
abbrev pub Grouped : ℕ → ℕ → Inner → Tree → Type 0
Grouped from to inner t = group from to (inner_views inner) ≡ t ∷ []

-- the level whose runs are read
abbrev pub level_of : Start → Level
level_of starts.Exprs = Exprs
level_of starts.Text = Text
level_of starts.Cast = Cast

-- The tree of the closed run of a level between two places of the tokens, in a mode.
pub record IsRunOf (mode : ℕ → Bool) (start : Start) (ts : List Token) (from : ℕ) (t : Tree) (to : ℕ) : Type 0 where
  pub within : to ≤ length ts
  pub run : IsRun grammar mode depth_all (source ts) (level_of start) (t ∷ []) from to

-- the classes of patterns, which are all
abbrev pub of_pattern : ℕ → Bool
of_pattern c = true

-- each token is one that a text may have
abbrev pub IsText : List Token → Type 0
IsText ts = (n : ℕ) → of_text (class (token_at ts n).word) ≡ true

-- how many brackets the token at a place stands inside, from another place on
unfoldable pub round_at : List Token → ℕ → ℕ → ℕ
round_at ts from n = brackets_round grammar.opens grammar.closes (source ts).cls from n

-- The tree of all the tokens, as a text.
abbrev pub IsWhole : List Token → Tree → Type 0
IsWhole ts t = IsPiece grammar depth_all (source ts) Text (t ∷ []) 0 (length ts)

-- a node is what is read
abbrev pub GivesTree : Result Node ReadFault → Option Tree → Type 0
GivesTree (Ok n) read = read ≡ Some (view n)
GivesTree (Err e) read = Fails e read
