-- The check of a table, which computes: one token in hand tells wherever a part ends and another begins.
use Rattle.std.specs.Prelude.{ℕ, zero, suc, Bool, true, false, cond, ◌||◌, ◌&&◌, not, List, [], ◌∷◌, ◌++◌, Option, Some, None, ltb}
use Rattle.grammar.specs.Rule.{Rule, done, mark, word, ref, deep, again, seq, around, alt, look, choose, opt, must, rep, make, has, Table, Grammar}
use Rattle.grammar.specs.Sets.{Sets, nul, first, more}
use Rattle.grammar.specs.Reader.{◌>>=◌}
use Rattle.grammar.specs.Tests.{say, go, Tests, step, says, looks, targets, no_tests, arms}

-- whether each of the classes passes the test
abbrev pub each : (ℕ → Bool) → List ℕ → Bool
each p [] = true
each p (c ∷ cs) = p c && each p cs

-- whether the sets have no class in common
abbrev pub apart : List ℕ → List ℕ → Bool
apart cs ds = each (λ d. not (has cs d)) ds

-- whether the first set is within the second
abbrev pub within_set : List ℕ → List ℕ → Bool
within_set cs ds = each (λ c. has ds c) cs

-- whether what is declared of l covers the rule
abbrev pub covers : {K B L : Type 0} → Sets L → Option L → L → Rule K B L → Bool
covers S q l r = within_set (first S q r) (S.first l) && (within_set (more S q r) (S.more l) && (not (nul S q r) || S.empty l))

-- whether one token in hand tells what comes next, wherever a rule has a choice or a part an end
abbrev pub clear : {K B L : Type 0} → Sets L → Option L → Rule K B L → Bool
clear S q done = true
clear S q (mark cs) = true
clear S q (word k cs) = true
clear S q (ref l) = true
clear S q (deep l) = true
clear S q again = true
clear S q (seq r s) = clear S q r && (clear S q s && apart (more S q r) (first S q s))
clear S q (around cs ds r) = clear S q r && apart (more S q r) ds
clear S q (alt r s) = clear S q r && (clear S q s && (not (nul S q r) && (not (nul S q s) && apart (first S q r) (first S q s))))
clear S q (look w cs ds b r s) = clear S q r && (clear S q s && not (nul S q s))
clear S q (choose p r s) = clear S q r && clear S q s
clear S q (opt r) = clear S q r && not (nul S q r)
clear S q (must cs r) = clear S q r && (not (nul S q r) && within_set (first S q r) cs)
clear S q (rep l r) = clear S (Some l) r && covers S (Some l) l r
clear S q (make b r) = clear S q r

-- What else is declared of a grammar: which builders are strong, making nodes above all that they are given; the rank of each level, below top; and of which levels closed runs are promised.
pub record Ranks (B L : Type 0) : Type 0 where
  pub strong : B → Bool
  pub rank : L → ℕ
  pub top : ℕ
  pub shut : L → Bool

-- whether a level stands here only below rank p, a deeper one only in brackets or strong nodes (inner says that we are in such), and brackets stand in pairs alone
abbrev pub fit : {K B L : Type 0} → Grammar K B L → Ranks B L → ℕ → Bool → Rule K B L → Bool
fit g R p inner done = true
fit g R p inner (mark cs) = apart g.opens cs && apart g.closes cs
fit g R p inner (word k cs) = apart g.opens cs && apart g.closes cs
fit g R p inner (ref l) = ltb (R.rank l) p
fit g R p inner (deep l) = inner
fit g R p inner again = true
fit g R p inner (seq r s) = fit g R p inner r && fit g R p inner s
fit g R p inner (around cs ds r) = (within_set cs g.opens && (within_set ds g.closes && apart g.opens ds)) && fit g R p true r
fit g R p inner (alt r s) = fit g R p inner r && fit g R p inner s
fit g R p inner (look w cs ds b r s) = (apart g.opens cs && apart g.closes cs) && ((apart g.opens ds && apart g.closes ds) && (fit g R p (R.strong b || inner) r && fit g R p inner s))
fit g R p inner (choose t r s) = fit g R p inner r && fit g R p inner s
fit g R p inner (opt r) = fit g R p inner r
fit g R p inner (must cs r) = fit g R p inner r
fit g R p inner (rep l r) = fit g R p inner r
fit g R p inner (make b r) = fit g R p (R.strong b || inner) r

-- whether a loop goes on only after a token
abbrev pub late : {K B L : Type 0} → Sets L → Option L → Rule K B L → Bool
late S q done = true
late S q (mark cs) = true
late S q (word k cs) = true
late S q (ref l) = true
late S q (deep l) = true
late S q again = false
late S q (seq r s) = late S q r && (not (nul S q r) || late S q s)
late S q (around cs ds r) = true
late S q (alt r s) = late S q r && late S q s
late S q (look w cs ds b r s) = late S q s
late S q (choose p r s) = late S q r && late S q s
late S q (opt r) = late S q r
late S q (must cs r) = late S q r
late S q (rep l r) = true
late S q (make b r) = late S q r

-- whether each loop in the rule does
abbrev pub loops : {K B L : Type 0} → Sets L → Rule K B L → Bool
loops S done = true
loops S (mark cs) = true
loops S (word k cs) = true
loops S (ref l) = true
loops S (deep l) = true
loops S again = true
loops S (seq r s) = loops S r && loops S s
loops S (around cs ds r) = loops S r
loops S (alt r s) = loops S r && loops S s
loops S (look w cs ds b r s) = loops S r && loops S s
loops S (choose p r s) = loops S r && loops S s
loops S (opt r) = loops S r
loops S (must cs r) = loops S r
loops S (rep l r) = late S (Some l) r && loops S r
loops S (make b r) = loops S r

-- Where rules have tests, and what follows matters.

-- whether a class may follow, where any may or those of a set
abbrev pub follows : Option (List ℕ) → ℕ → Bool
follows None c = true
follows (Some cs) c = has cs c

-- whether all that may follow here may follow there
abbrev pub admits : Option (List ℕ) → Option (List ℕ) → Bool
admits F None = true
admits None (Some ds) = false
admits (Some cs) (Some ds) = within_set cs ds

-- what may follow a part that the rule follows
abbrev pub behind_part : {K B L : Type 0} → Sets L → Option L → Rule K B L → Option (List ℕ) → Option (List ℕ)
behind_part S q s None = elim (nul S q s) [ true ↦ None | false ↦ Some (first S q s) ]
behind_part S q s (Some cs) = Some (first S q s ++ elim (nul S q s) [ true ↦ cs | false ↦ [] ])

-- what may follow the loop around
abbrev pub follow_of : {L : Type 0} → Tests L → Option L → Option (List ℕ)
follow_of T None = None
follow_of T (Some q) = T.follow q

abbrev pub each_of : (ℕ → List ℕ) → List ℕ → List ℕ
each_of g [] = []
each_of g (x ∷ xs) = g x ++ each_of g xs

-- the states in which a test looks on behind a token of the set
abbrev pub onto : {L : Type 0} → Tests L → List ℕ → ℕ → List ℕ
onto T cs a = each_of (λ c. elim (step T.automaton a c) [ say b ↦ [] | go a' ↦ a' ∷ [] ]) cs

abbrev pub after_of : {L : Type 0} → Tests L → Option L → ℕ → List ℕ
after_of T None a = []
after_of T (Some q) a = T.after q a

-- the states in which a test that was in this one may still look on behind the rule
abbrev pub after : {K B L : Type 0} → Tests L → Option L → Rule K B L → ℕ → List ℕ
after T q done a = a ∷ []
after T q (mark cs) a = onto T cs a
after T q (word k cs) a = onto T cs a
after T q (ref l) a = T.after l a
after T q (deep l) a = T.after l a
after T q again a = after_of T q a
after T q (seq r s) a = each_of (λ b. after T q s b) (after T q r a)
after T q (around cs ds r) a = each_of (λ c. onto T ds c) (each_of (λ b. after T q r b) (onto T cs a))
after T q (alt r s) a = after T q r a ++ after T q s a
after T q (look k cs ds v r s) a = each_of (λ c. after T q r c) (each_of (λ b. onto T ds b) (onto T cs a)) ++ after T q s a
after T q (choose p r s) a = after T q r a ++ after T q s a
after T q (opt r) a = a ∷ after T q r a
after T q (must cs r) a = a ∷ after T q r a
after T q (rep l r) a = T.after l a
after T q (make v r) a = after T q r a

-- whether what is declared of l covers the rule, in each state
abbrev pub keeps : {K B L : Type 0} → Tests L → Option L → L → Rule K B L → Bool
keeps T q l r = each (λ a. within_set (after T q r a) (T.after l a)) T.states

-- whether no test looks on, in these states, at what may follow
abbrev pub calm : {L : Type 0} → Tests L → Option (List ℕ) → List ℕ → Bool
calm T None bs = each (λ a. elim (looks (arms T.automaton a)) [ [] ↦ true | c ∷ cs ↦ false ]) bs
calm T (Some ds) bs = each (λ a. apart (looks (arms T.automaton a)) ds) bs

-- whether a test that begins in the state is settled at the latest by the token behind the one rule or the other
abbrev pub told : {K B L : Type 0} → Sets L → Tests L → Option ℕ → Option L → Option (List ℕ) → Rule K B L → Rule K B L → Bool
told S T None q F r s = false
told S T (Some a) q F r s = (not (nul S q r) && not (nul S q s)) && (has T.states a && (calm T F (after T q r a) && calm T F (after T q s a)))

-- whether the tokens of a piece and the one behind it are all that the rule goes by, in the levels that C has too; F may follow it
abbrev pub settled : {K B L : Type 0} → Sets L → Tests L → (L → Bool) → Option ℕ → Option L → Option (List ℕ) → Rule K B L → Bool
settled S T C m q F done = true
settled S T C m q F (mark cs) = true
settled S T C m q F (word k cs) = true
settled S T C m q F (ref l) = C l && admits F (T.follow l)
settled S T C m q F (deep l) = C l && admits F (T.follow l)
settled S T C m q F again = admits F (follow_of T q)
settled S T C m q F (seq r s) = settled S T C m q (behind_part S q s F) r && settled S T C m q F s
settled S T C m q F (around cs ds r) = settled S T C m q (Some ds) r
settled S T C m q F (alt r s) = settled S T C m q F r && settled S T C m q F s
settled S T C m q F (look w cs ds b r s) = settled S T C m q F r && settled S T C m q F s
settled S T C m q F (choose p r s) = told S T m q F r s && (settled S T C m q F r && settled S T C m q F s)
settled S T C m q F (opt r) = settled S T C m q F r
settled S T C m q F (must cs r) = not (has cs zero) && settled S T C m q F r
settled S T C m q F (rep l r) = admits F (T.follow l) && (keeps T (Some l) l r && settled S T C m (Some l) (T.follow l) r)
settled S T C m q F (make b r) = settled S T C m q F r

-- Words, by `elim` in the place of `cond`: it computes only the case that it takes, so the check stays short.

-- a word of which the test says this; J tells it
abbrev pub said : (Bool → List ℕ → Bool) → Bool → Option (List ℕ) → Option (List ℕ)
said J b None = None
said J b (Some w) = elim (J b w) [ true ↦ Some w | false ↦ None ]

-- some word that the rule spells; V has one of each level, a one of the loop around
abbrev pub some_word : {K B L : Type 0} → (Bool → List ℕ → Bool) → (L → Option (List ℕ)) → Option (List ℕ) → Rule K B L → Option (List ℕ)
some_word J V a done = Some []
some_word J V a (mark []) = None
some_word J V a (mark (c ∷ cs)) = Some (c ∷ [])
some_word J V a (word k []) = None
some_word J V a (word k (c ∷ cs)) = Some (c ∷ [])
some_word J V a (ref l) = V l
some_word J V a (deep l) = V l
some_word J V a again = a
some_word J V a (seq r s) = some_word J V a r >>= λ v. some_word J V a s >>= λ w. Some (v ++ w)
some_word J V a (around [] ds r) = None
some_word J V a (around (c ∷ cs) [] r) = None
some_word J V a (around (c ∷ cs) (d ∷ ds) r) = some_word J V a r >>= λ v. Some (c ∷ (v ++ (d ∷ [])))
some_word J V a (alt r s) = elim (some_word J V a r) [ Some w ↦ Some w | None ↦ some_word J V a s ]
some_word J V a (look k [] ds b r s) = None
some_word J V a (look k (c ∷ cs) [] b r s) = None
some_word J V a (look k (c ∷ cs) (d ∷ ds) b r s) = some_word J V a r >>= λ v. Some (c ∷ (d ∷ v))
some_word J V a (choose p r s) = elim (said J false (some_word J V a s)) [ Some w ↦ Some w | None ↦ said J true (some_word J V a r) ]
some_word J V a (opt r) = Some []
some_word J V a (must cs r) = some_word J V a r
some_word J V a (rep l r) = some_word J V None r
some_word J V a (make b r) = some_word J V a r

-- some word of a level; h bounds how deep levels stand in levels
abbrev pub some_level : {K B L : Type 0} → Tests L → Table K B L → ℕ → L → Option (List ℕ)
some_level T table zero l = None
some_level T table (suc h) l = some_word (says T.automaton (T.start l)) (some_level T table h) None (table l)

-- whether the rule spells nothing, beyond doubt, where a token of the class follows
abbrev pub hollow : {K B L : Type 0} → (L → ℕ → Bool) → Rule K B L → ℕ → Bool
hollow E done x = true
hollow E (mark cs) x = false
hollow E (word k cs) x = false
hollow E (ref l) x = E l x
hollow E (deep l) x = E l x
hollow E again x = false
hollow E (seq r s) x = elim (hollow E r x) [ true ↦ hollow E s x | false ↦ false ]
hollow E (around cs ds r) x = false
hollow E (alt r s) x = elim (hollow E r x) [ true ↦ true | false ↦ hollow E s x ]
hollow E (look k cs ds b r s) x = false
hollow E (choose p r s) x = false
hollow E (opt r) x = true
hollow E (must cs r) x = not (has cs x)
hollow E (rep l r) x = hollow E r x
hollow E (make b r) x = hollow E r x

abbrev pub hollow_level : {K B L : Type 0} → Table K B L → ℕ → L → ℕ → Bool
hollow_level table zero l x = false
hollow_level table (suc h) l x = hollow (hollow_level table h) (table l) x

-- what goes on behind a class, to a word of the rule
abbrev pub begun : {K B L : Type 0} → (Bool → List ℕ → Bool) → (L → Option (List ℕ)) → (L → ℕ → Option (List ℕ)) → (L → ℕ → Bool) → Option (List ℕ) → Rule K B L → ℕ → Option (List ℕ)
begun J V W E a done x = None
begun J V W E a (mark cs) x = cond (has cs x) (Some []) None
begun J V W E a (word k cs) x = cond (has cs x) (Some []) None
begun J V W E a (ref l) x = W l x
begun J V W E a (deep l) x = W l x
begun J V W E a again x = None
begun J V W E a (seq r s) x = elim (begun J V W E a r x >>= λ v. some_word J V a s >>= λ w. Some (v ++ w)) [ Some w ↦ Some w | None ↦ elim (hollow E r x) [ true ↦ begun J V W E a s x | false ↦ None ] ]
begun J V W E a (around cs [] r) x = None
begun J V W E a (around cs (d ∷ ds) r) x = elim (has cs x) [ true ↦ some_word J V a r >>= λ v. Some (v ++ (d ∷ [])) | false ↦ None ]
begun J V W E a (alt r s) x = elim (begun J V W E a r x) [ Some w ↦ Some w | None ↦ begun J V W E a s x ]
begun J V W E a (look k cs [] b r s) x = None
begun J V W E a (look k cs (d ∷ ds) b r s) x = elim (has cs x) [ true ↦ some_word J V a r >>= λ v. Some (d ∷ v) | false ↦ begun J V W E a s x ]
begun J V W E a (choose p r s) x = elim (said (λ b w. J b (x ∷ w)) false (begun J V W E a s x)) [ Some w ↦ Some w | None ↦ said (λ b w. J b (x ∷ w)) true (begun J V W E a r x) ]
begun J V W E a (opt r) x = begun J V W E a r x
begun J V W E a (must cs r) x = begun J V W E a r x
begun J V W E a (rep l r) x = begun J V W E (some_word J V None r) r x
begun J V W E a (make b r) x = begun J V W E a r x

abbrev pub begun_level : {K B L : Type 0} → Tests L → Table K B L → ℕ → L → ℕ → Option (List ℕ)
begun_level T table zero l x = None
begun_level T table (suc h) l x = begun (says T.automaton (T.start l)) (some_level T table h) (begun_level T table h) (hollow_level table h) None (table l) x

-- whether there is a word, and all of it is of the mode
abbrev pub is_word : (ℕ → Bool) → Option (List ℕ) → Bool
is_word mode None = false
is_word mode (Some w) = each mode w

-- whether each class of the mode that can go on at the end of the rule does in some word
abbrev pub fruitful : {K B L : Type 0} → (ℕ → Bool) → (Bool → List ℕ → Bool) → (L → Option (List ℕ)) → (L → ℕ → Option (List ℕ)) → (L → ℕ → Bool) → Sets L → Option (List ℕ) → Option L → Rule K B L → Bool
fruitful mode J V W E S a q done = true
fruitful mode J V W E S a q (mark cs) = true
fruitful mode J V W E S a q (word k cs) = true
fruitful mode J V W E S a q (ref l) = true
fruitful mode J V W E S a q (deep l) = true
fruitful mode J V W E S a q again = true
fruitful mode J V W E S a q (seq r s) = (not (nul S q s) || fruitful mode J V W E S a q r) && fruitful mode J V W E S a q s
fruitful mode J V W E S a q (around cs ds r) = true
fruitful mode J V W E S a q (alt r s) = fruitful mode J V W E S a q r && fruitful mode J V W E S a q s
fruitful mode J V W E S a q (look k cs ds b r s) = is_word mode (some_word J V a r) && (fruitful mode J V W E S a q r && fruitful mode J V W E S a q s)
fruitful mode J V W E S a q (choose p r s) = fruitful mode J V W E S a q r && fruitful mode J V W E S a q s
fruitful mode J V W E S a q (opt r) = each (λ x. not (mode x) || is_word mode (begun J V W E a r x)) (first S q r) && fruitful mode J V W E S a q r
fruitful mode J V W E S a q (must cs r) = fruitful mode J V W E S a q r
fruitful mode J V W E S a q (rep l r) = (not (S.empty l) || hollow E r zero) && fruitful mode J V W E S (some_word J V None r) (Some l) r
fruitful mode J V W E S a q (make b r) = fruitful mode J V W E S a q r

-- The check of one row, for readers.
abbrev pub passes : {K B L : Type 0} → Grammar K B L → Sets L → Ranks B L → L → Bool
passes g S R l = clear S None (g.table l) && (covers S None l (g.table l) && (fit g R (R.rank l) false (g.table l) && (ltb (R.rank l) R.top && (late S None (g.table l) && loops S (g.table l)))))

-- whether each class that can go on with a run of the level does in some word; h bounds how deep levels stand in levels for the words that are tried
abbrev pub bears : {K B L : Type 0} → Grammar K B L → Sets L → Tests L → (ℕ → Bool) → ℕ → L → Bool
bears g S T mode h l = (not (S.empty l) || hollow_level g.table h l zero) && fruitful mode (says T.automaton (T.start l)) (some_level T g.table h) (begun_level T g.table h) (hollow_level g.table h) S None None (g.table l)

-- The check of one row, where closed runs of the level are promised and rows may have tests.
abbrev pub closes : {K B L : Type 0} → Grammar K B L → Sets L → Ranks B L → Tests L → (ℕ → Bool) → ℕ → L → Bool
closes g S R T mode h l = not (R.shut l) || ((each (λ a. within_set (targets (arms T.automaton a)) T.states) T.states && (keeps T None l (g.table l) && settled S T R.shut (T.start l) None (T.follow l) (g.table l))) && elim (T.follow l) [ None ↦ bears g S T mode h l | Some cs ↦ true ])

-- The same, where no row has a test.
abbrev pub closes_runs : {K B L : Type 0} → Grammar K B L → Sets L → Ranks B L → (ℕ → Bool) → ℕ → L → Bool
closes_runs g S R mode h l = closes g S R no_tests mode h l
