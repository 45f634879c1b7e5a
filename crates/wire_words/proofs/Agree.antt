-- The words of a command tell what is asked.
use Rattle.std.proofs.Common.{◌≡◌, ℕ, ◌≤◌, Bool, false, List, ◌∷◌, codes, sym, ap, ◌∙◌, subst, arith, refl, Option, None, Some}
use Rattle.std.specs.Fmt.{decimal}
use Rattle.std.specs.Str.{bytes_eq}
use Rattle.std.proofs.lemmas.Slice.Eq.{bytes_eq-Decides}
use Rattle.std.specs.Str.Parse.{digits_value}
use Rattle.std.proofs.lemmas.Fmt.{decimal_is_IsNumeral}
use Rattle.node_tree.specs.declared.view.Lang.{Lang}
use Rattle.node_tree.specs.declared.view.Lang.TheVariants as langs
use Rattle.wire_words.specs.Words.{lang_word, IsMatched}
use Rattle.wire_words.specs.declared.options.Subcommand.{Subcommand}
use Rattle.wire_words.specs.declared.options.Subcommand.TheVariants as subcommands
use Rattle.wire_words.specs.Options.{Choice, AreChoices, is_given, value_of}
use Rattle.wire_words.specs.Commands.{Task, Request, Matching, Checking, Scanning, Fixing, Serving, Drilling, IsMost, IsStore, AreJobWords, AreSessionWords, IsCommand}
use Rattle.wire_words.proofs.Choices.{same_choices}
use Rattle.wire_words.proofs.Parts.{same_parts}

same_lang : (l m : Lang) → IsMatched l → IsMatched m → lang_word l ≡ lang_word m → l ≡ m
same_lang langs.Json langs.Json a b e = refl
same_lang langs.Json langs.Python a b e = absurd cc
same_lang langs.Json langs.C a b e = absurd cc
same_lang langs.Json langs.Regex a b e = absurd b
same_lang langs.Python langs.Json a b e = absurd cc
same_lang langs.Python langs.Python a b e = refl
same_lang langs.Python langs.C a b e = absurd cc
same_lang langs.Python langs.Regex a b e = absurd b
same_lang langs.C langs.Json a b e = absurd cc
same_lang langs.C langs.Python a b e = absurd cc
same_lang langs.C langs.C a b e = refl
same_lang langs.C langs.Regex a b e = absurd b
same_lang langs.Regex m a b e = absurd a

-- ---- the values of options

pub decimal_same : (n m : ℕ) → n ≤ 50000 → m ≤ 50000 → decimal n ≡ decimal m → n ≡ m
decimal_same n m a b e = sym (decimal_is_IsNumeral n (omega arith)).1 ∙ ap (digits_value 10) e ∙ (decimal_is_IsNumeral m (omega arith)).1

same_most : (value : Option (List ℕ)) (n m : ℕ) → IsMost value n → IsMost value m → n ≡ m
same_most None n m a b = a ∙ sym b
same_most (Some word) n m a b = decimal_same n m a.0 b.0 (sym a.1 ∙ b.1)

same_store : (config other : List ℕ) (value s t : Option (List ℕ)) → IsStore config value s → IsStore other value t → s ≡ t
same_store config other None s t a b = a ∙ sym b
same_store config other (Some path) s t a b = a.0 ∙ sym b.0

-- ---- commands with options

abbrev task_with : Bool → ℕ → List ℕ → List ℕ → Bool → Option (List ℕ) → Task
task_with f m c p t s = record { flag = f; most = m; config = c; prefix = p; trace = t; store = s }

same_task : (t u : Task) → t.flag ≡ u.flag → t.most ≡ u.most → t.config ≡ u.config → t.prefix ≡ u.prefix → t.trace ≡ u.trace → t.store ≡ u.store → t ≡ u
same_task t u f m c p r s =
    ap (λ (x : Bool). task_with x t.most t.config t.prefix t.trace t.store) f
    ∙ ap (λ (x : ℕ). task_with u.flag x t.config t.prefix t.trace t.store) m
    ∙ ap (λ (x : List ℕ). task_with u.flag u.most x t.prefix t.trace t.store) c
    ∙ ap (λ (x : List ℕ). task_with u.flag u.most u.config x t.trace t.store) p
    ∙ ap (λ (x : Bool). task_with u.flag u.most u.config u.prefix x t.store) r
    ∙ ap (λ (x : Option (List ℕ)). task_with u.flag u.most u.config u.prefix u.trace x) s

same_job : (command : Subcommand) (word flag : List ℕ) (words : List (List ℕ)) (t u : Task) → AreJobWords command word flag words t → AreJobWords command word flag words u → t ≡ u
same_job command word flag words t u a b =
    let s = same_parts word a.options b.options t.prefix u.prefix words a.are b.are in
    let cs = same_choices command b.options a.choices b.choices (subst (λ (o : List (List ℕ)). AreChoices command o a.choices) s.0 a.chosen) b.chosen in
    let c : t.config ≡ u.config = cc (a.config.0, ap (value_of (codes "--config")) cs, b.config.0) in
    same_task t u
    (a.flag_of ∙ ap (is_given flag) cs ∙ sym b.flag_of)
    (same_most (value_of (codes "--max") b.choices) t.most u.most (subst (λ (l : List Choice). IsMost (value_of (codes "--max") l) t.most) cs a.most) b.most)
    c
    s.1
    (a.trace ∙ ap (is_given (codes "--trace")) cs ∙ sym b.trace)
    (same_store t.config u.config (value_of (codes "--store") b.choices) t.store u.store (subst (λ (l : List Choice). IsStore t.config (value_of (codes "--store") l) t.store) cs a.store) b.store)

same_session : (words : List (List ℕ)) (n m : ℕ) (x y : Bool) → AreSessionWords words n x → AreSessionWords words m y → Serving n x ≡ Serving m y
same_session words n m x y a b =
    let o : a.options ≡ b.options = cc (a.are, b.are) in
    let cs = same_choices subcommands.Session b.options a.choices b.choices (subst (λ (o : List (List ℕ)). AreChoices subcommands.Session o a.choices) o a.chosen) b.chosen in
    let most = same_most (value_of (codes "--max") b.choices) n m (subst (λ (l : List Choice). IsMost (value_of (codes "--max") l) n) cs a.most_of) b.most_of in
    ap (λ (k : ℕ). Serving k x) most ∙ ap (λ (t : Bool). Serving m t) (a.trace_of ∙ ap (is_given (codes "--trace")) cs ∙ sym b.trace_of)

-- ---- words ask for at most one thing

-- the word that a request begins with
abbrev first_word : Request → List ℕ
first_word (Matching lang pattern) = codes "match"
first_word Checking = codes "check"
first_word (Scanning task) = codes "scan"
first_word (Fixing task) = codes "fix"
first_word (Serving most trace) = codes "session"
first_word (Drilling count) = codes "drill"

begins : (words : List (List ℕ)) (r : Request) → IsCommand words r → (rest : List (List ℕ)) × (words ≡ first_word r ∷ rest)
begins words (Matching lang pattern) a = (_, a.are)
begins words Checking a = (_, a)
begins words (Scanning task) a = (_, a.are)
begins words (Fixing task) a = (_, a.are)
begins words (Serving most trace) a = (_, a.are)
begins words (Drilling count) a = (_, a.are)

clash : (words : List (List ℕ)) (r s : Request) → IsCommand words r → IsCommand words s → bytes_eq (first_word r) (first_word s) ≡ false → ⊥
clash words r s a b other = let f = begins words r a in let g = begins words s b in unlike (first_word r) (first_word s) words f.0 g.0 f.1 g.1 other
  where
    unlike : (x y : List ℕ) (ws xs ys : List (List ℕ)) → ws ≡ x ∷ xs → ws ≡ y ∷ ys → bytes_eq x y ≡ false → ⊥
    unlike x y ws xs ys e f differ = let same : x ≡ y = cc in let yes = (bytes_eq-Decides x y).1 same in absurd cc

pub agree : (words : List (List ℕ)) (r s : Request) → IsCommand words r → IsCommand words s → r ≡ s
agree words (Matching l p) (Matching m q) a b =
    let e : lang_word l ≡ lang_word m = cc (a.are, b.are) in
    let f : p ≡ q = cc (a.are, b.are) in
    ap (λ (x : Lang). Matching x p) (same_lang l m a.matched b.matched e) ∙ ap (λ (x : List ℕ). Matching m x) f
agree words (Matching l p) Checking a b = absurd (clash words (Matching l p) Checking a b refl)
agree words (Matching l p) (Scanning u) a b = absurd (clash words (Matching l p) (Scanning u) a b refl)
agree words (Matching l p) (Fixing u) a b = absurd (clash words (Matching l p) (Fixing u) a b refl)
agree words (Matching l p) (Serving m y) a b = absurd (clash words (Matching l p) (Serving m y) a b refl)
agree words (Matching l p) (Drilling m) a b = absurd (clash words (Matching l p) (Drilling m) a b refl)
agree words Checking (Matching m q) a b = absurd (clash words Checking (Matching m q) a b refl)
agree words Checking Checking a b = refl
agree words Checking (Scanning u) a b = absurd (clash words Checking (Scanning u) a b refl)
agree words Checking (Fixing u) a b = absurd (clash words Checking (Fixing u) a b refl)
agree words Checking (Serving m y) a b = absurd (clash words Checking (Serving m y) a b refl)
agree words Checking (Drilling m) a b = absurd (clash words Checking (Drilling m) a b refl)
agree words (Scanning t) (Matching m q) a b = absurd (clash words (Scanning t) (Matching m q) a b refl)
agree words (Scanning t) Checking a b = absurd (clash words (Scanning t) Checking a b refl)
agree words (Scanning t) (Scanning u) a b = ap Scanning (same_job subcommands.Scan (codes "scan") (codes "--error") words t u a b)
agree words (Scanning t) (Fixing u) a b = absurd (clash words (Scanning t) (Fixing u) a b refl)
agree words (Scanning t) (Serving m y) a b = absurd (clash words (Scanning t) (Serving m y) a b refl)
agree words (Scanning t) (Drilling m) a b = absurd (clash words (Scanning t) (Drilling m) a b refl)
agree words (Fixing t) (Matching m q) a b = absurd (clash words (Fixing t) (Matching m q) a b refl)
agree words (Fixing t) Checking a b = absurd (clash words (Fixing t) Checking a b refl)
agree words (Fixing t) (Scanning u) a b = absurd (clash words (Fixing t) (Scanning u) a b refl)
agree words (Fixing t) (Fixing u) a b = ap Fixing (same_job subcommands.Fix (codes "fix") (codes "--dryrun") words t u a b)
agree words (Fixing t) (Serving m y) a b = absurd (clash words (Fixing t) (Serving m y) a b refl)
agree words (Fixing t) (Drilling m) a b = absurd (clash words (Fixing t) (Drilling m) a b refl)
agree words (Serving n x) (Matching m q) a b = absurd (clash words (Serving n x) (Matching m q) a b refl)
agree words (Serving n x) Checking a b = absurd (clash words (Serving n x) Checking a b refl)
agree words (Serving n x) (Scanning u) a b = absurd (clash words (Serving n x) (Scanning u) a b refl)
agree words (Serving n x) (Fixing u) a b = absurd (clash words (Serving n x) (Fixing u) a b refl)
agree words (Serving n x) (Serving m y) a b = same_session words n m x y a b
agree words (Serving n x) (Drilling m) a b = absurd (clash words (Serving n x) (Drilling m) a b refl)
agree words (Drilling n) (Matching m q) a b = absurd (clash words (Drilling n) (Matching m q) a b refl)
agree words (Drilling n) Checking a b = absurd (clash words (Drilling n) Checking a b refl)
agree words (Drilling n) (Scanning u) a b = absurd (clash words (Drilling n) (Scanning u) a b refl)
agree words (Drilling n) (Fixing u) a b = absurd (clash words (Drilling n) (Fixing u) a b refl)
agree words (Drilling n) (Serving m y) a b = absurd (clash words (Drilling n) (Serving m y) a b refl)
agree words (Drilling n) (Drilling m) a b =
    let e : decimal n ≡ decimal m = cc (a.are, b.are) in
    let k = a.most in
    let l = b.most in
    ap Drilling (decimal_same n m (omega arith) (omega arith) e)
