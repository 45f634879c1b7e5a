-- What begins a rule, what can go on after it, and whether it can be empty.
use Rattle.std.specs.Prelude.{ℕ, Bool, true, false, cond, ◌||◌, ◌&&◌, List, [], ◌++◌, Option, Some, None}
use Rattle.grammar.specs.Rule.{Rule, done, mark, word, ref, deep, again, seq, around, alt, look, choose, opt, must, rep, make}

-- What is declared of each level, and of each loop: the classes that begin it, those that can go on after it, and whether it can be empty.
pub record Sets (L : Type 0) : Type 0 where
  pub first : L → List ℕ
  pub more : L → List ℕ
  pub empty : L → Bool

-- the same of the loop around, if there is one
abbrev pub first_of : {L : Type 0} → Sets L → Option L → List ℕ
first_of S None = []
first_of S (Some q) = S.first q

abbrev pub more_of : {L : Type 0} → Sets L → Option L → List ℕ
more_of S None = []
more_of S (Some q) = S.more q

abbrev pub empty_of : {L : Type 0} → Sets L → Option L → Bool
empty_of S None = false
empty_of S (Some q) = S.empty q

-- whether the rule can spell nothing; q names the loop around
abbrev pub nul : {K B L : Type 0} → Sets L → Option L → Rule K B L → Bool
nul S q done = true
nul S q (mark cs) = false
nul S q (word k cs) = false
nul S q (ref l) = S.empty l
nul S q (deep l) = S.empty l
nul S q again = empty_of S q
nul S q (seq r s) = nul S q r && nul S q s
nul S q (around cs ds r) = false
nul S q (alt r s) = nul S q r || nul S q s
nul S q (look w cs ds b r s) = nul S q s
nul S q (choose p r s) = nul S q r || nul S q s
nul S q (opt r) = true
nul S q (must cs r) = true
nul S q (rep l r) = S.empty l
nul S q (make b r) = nul S q r

-- the classes that can begin what the rule spells
abbrev pub first : {K B L : Type 0} → Sets L → Option L → Rule K B L → List ℕ
first S q done = []
first S q (mark cs) = cs
first S q (word k cs) = cs
first S q (ref l) = S.first l
first S q (deep l) = S.first l
first S q again = first_of S q
first S q (seq r s) = first S q r ++ cond (nul S q r) (first S q s) []
first S q (around cs ds r) = cs
first S q (alt r s) = first S q r ++ first S q s
first S q (look w cs ds b r s) = cs ++ first S q s
first S q (choose p r s) = first S q r ++ first S q s
first S q (opt r) = first S q r
first S q (must cs r) = first S q r
first S q (rep l r) = S.first l
first S q (make b r) = first S q r

-- the classes that can go on with some spelling of the rule
abbrev pub more : {K B L : Type 0} → Sets L → Option L → Rule K B L → List ℕ
more S q done = []
more S q (mark cs) = []
more S q (word k cs) = []
more S q (ref l) = S.more l
more S q (deep l) = S.more l
more S q again = more_of S q
more S q (seq r s) = more S q s ++ cond (nul S q s) (more S q r) []
more S q (around cs ds r) = []
more S q (alt r s) = more S q r ++ more S q s
more S q (look w cs ds b r s) = more S q r ++ (ds ++ more S q s)
more S q (choose p r s) = more S q r ++ more S q s
more S q (opt r) = first S q r ++ more S q r
more S q (must cs r) = more S q r
more S q (rep l r) = S.more l
more S q (make b r) = more S q r
