-- What levels read in parts: one more round of a loop, nothing where an operand is nothing, and a condition.
use Rattle.std.proofs.Common.{◌≡◌, ℕ, zero, ◌+◌, ◌-◌, ◌<◌, List, [], ◌∷◌, ◌++◌, refl, ap, ◌∙◌, add-one, eqb, true, false, Option, Some, None}
use Rattle.node_tree.specs.declared.node.Node.{Node}
use Rattle.node_tree.specs.declared.kind.Kind.TheVariants as k
use Rattle.grammar.specs.Rule.{has}
use Rattle.grammar.specs.Reader.{◌>>=◌}
use Rattle.py_expr.specs.declared.item.Item.{Item}
use Rattle.py_expr.specs.declared.word.Word.TheVariants as w
use Rattle.py_expr.specs.declared.level.Binary.{Binary}
use Rattle.py_expr.specs.declared.level.Binary.TheVariants as binaries
use Rattle.py_expr.specs.Words.{class}
use Rattle.py_expr.specs.Parts.{Part, whole, lacking, sign, nodes_of, node}
use Rattle.py_expr.specs.Table.{Test, Or, Power, Await, Bor, Unary, Suffix, Cop}
use Rattle.py_expr.specs.Build.{token_at, end_of, chain_from, farther, attached, spine, too_deep, operators, spaced}
use Rattle.py_expr.specs.reader.Sets.{sets}
use Rattle.py_expr.specs.reader.Reading.{level, level_of, operand_of, operators_of, tightest_of, tighter_of}
use Rattle.py_expr.proofs.Steps.{test_step, power_step, binary_step, binary_rest, binary_turn, binary_turned, prim_rest, prim_turn, cmp_rest, cmp_turn, push_more}

pub one_before : (o : Option (List Part × ℕ)) (p : Part) (f : List Part → ℕ → List Part) → ◌>>=◌ {B = List Part × ℕ} (◌>>=◌ {B = List Part × ℕ} o (λ v. Some (p ∷ v.0, v.1))) (λ y. Some (f y.0 y.1, y.1)) ≡ ◌>>=◌ {B = List Part × ℕ} o (λ y. Some (f (p ∷ y.0) y.1, y.1))
one_before None p f = refl
one_before (Some v) p f = refl

binary_round : (ts : List Item) (room : ℕ) (b : Binary) (n i j from far : ℕ) (first right : Node) → zero < n → has (operators_of b) (class (token_at ts i).word) ≡ true → level ts room (operand_of b) (i + 1) ≡ Some (whole right ∷ [], j) → ◌>>=◌ {B = List Part × ℕ} (binary_rest ts room b n i) (λ y. Some (whole (chain_from from far first y.0) ∷ [], y.1)) ≡ ◌>>=◌ {B = List Part × ℕ} (binary_rest ts room b (n - 1) j) (λ y. Some (whole (chain_from from (farther far) (attached from far first (lacking k.Binary (token_at ts i).text (end_of ts j) (right ∷ []))) y.0) ∷ [], y.1))
binary_round ts room b n i j from far first right h op read = rw (binary_turn ts room b n i h) (rw op (rw (rw add-one at read) (one_before (binary_rest ts room b (n - 1) j) (lacking k.Binary (token_at ts i).text (end_of ts j) (right ∷ [])) (λ ps to. whole (chain_from from far first ps) ∷ []))))

pub binary_more : (ts : List Item) (room : ℕ) (b : Binary) (n m i j from far on : ℕ) (first right next : Node) → zero < n → m ≡ n - 1 → has (operators_of b) (class (token_at ts i).word) ≡ true → level ts room (operand_of b) (i + 1) ≡ Some (whole right ∷ [], j) → on ≡ farther far → next ≡ attached from far first (lacking k.Binary (token_at ts i).text (end_of ts j) (right ∷ [])) → ◌>>=◌ {B = List Part × ℕ} (binary_rest ts room b n i) (λ y. Some (whole (chain_from from far first y.0) ∷ [], y.1)) ≡ ◌>>=◌ {B = List Part × ℕ} (binary_rest ts room b m j) (λ y. Some (whole (chain_from from on next y.0) ∷ [], y.1))
binary_more ts room b n m i j from far on first right next h less op read step node = rw (less, step, node) (binary_round ts room b n i j from far first right h op read)

-- a loop that has no rounds left reads nothing, and so does its last round
pub binary_over : (ts : List Item) (room : ℕ) (b : Binary) (n i from far : ℕ) (first : Node) → n ≡ zero → ◌>>=◌ {B = List Part × ℕ} (binary_rest ts room b n i) (λ y. Some (whole (chain_from from far first y.0) ∷ [], y.1)) ≡ None
binary_over ts room b n i from far first h = rw (binary_turned ts room b n i h) refl

pub binary_last : (ts : List Item) (room : ℕ) (b : Binary) (n i j from far : ℕ) (first right : Node) → zero < n → n - 1 ≡ zero → has (operators_of b) (class (token_at ts i).word) ≡ true → level ts room (operand_of b) (i + 1) ≡ Some (whole right ∷ [], j) → ◌>>=◌ {B = List Part × ℕ} (binary_rest ts room b n i) (λ y. Some (whole (chain_from from far first y.0) ∷ [], y.1)) ≡ None
binary_last ts room b n i j from far first right h last op read = binary_round ts room b n i j from far first right h op read ∙ binary_over ts room b (n - 1) j from (farther far) (attached from far first (lacking k.Binary (token_at ts i).text (end_of ts j) (right ∷ []))) last

prim_round : (ts : List Item) (room n i j from far : ℕ) (first : Node) (p : Part) → zero < n → has (sets.first Suffix) (class (token_at ts i).word) ≡ true → level ts room Suffix i ≡ Some (p ∷ [], j) → ◌>>=◌ {B = List Part × ℕ} (prim_rest ts room n i) (λ y. Some (whole (chain_from from far first y.0) ∷ [], y.1)) ≡ ◌>>=◌ {B = List Part × ℕ} (prim_rest ts room (n - 1) j) (λ y. Some (whole (chain_from from (farther far) (attached from far first p) y.0) ∷ [], y.1))
prim_round ts room n i j from far first p h op read = rw (prim_turn ts room n i h) (rw op (rw read (one_before (prim_rest ts room (n - 1) j) p (λ ps to. whole (chain_from from far first ps) ∷ []))))

pub prim_more : (ts : List Item) (room n m i j from far on : ℕ) (first next : Node) (p : Part) → zero < n → m ≡ n - 1 → has (sets.first Suffix) (class (token_at ts i).word) ≡ true → level ts room Suffix i ≡ Some (p ∷ [], j) → on ≡ farther far → next ≡ attached from far first p → ◌>>=◌ {B = List Part × ℕ} (prim_rest ts room n i) (λ y. Some (whole (chain_from from far first y.0) ∷ [], y.1)) ≡ ◌>>=◌ {B = List Part × ℕ} (prim_rest ts room m j) (λ y. Some (whole (chain_from from on next y.0) ∷ [], y.1))
prim_more ts room n m i j from far on first next p h less op read step node = rw (less, step, node) (prim_round ts room n i j from far first p h op read)

two_before : (o : Option (List Part × ℕ)) (p q : Part) (f : List Part → ℕ → List Part) → ◌>>=◌ {B = List Part × ℕ} (◌>>=◌ {B = List Part × ℕ} o (λ v. Some ((p ∷ []) ++ ((q ∷ []) ++ v.0), v.1))) (λ y. Some (f y.0 y.1, y.1)) ≡ ◌>>=◌ {B = List Part × ℕ} o (λ y. Some (f (p ∷ q ∷ y.0) y.1, y.1))
two_before None p q f = refl
two_before (Some v) p q f = refl

compare_more : (o : Option (List Part × ℕ)) (ts : List Item) (from : ℕ) (text : List ℕ) (kids : List Node) (kid : Node) → ◌>>=◌ {B = List Part × ℕ} o (λ y. Some (whole (node k.Compare (operators text y.0) from (end_of ts y.1) (kids ++ (kid ∷ nodes_of y.0))) ∷ [], y.1)) ≡ ◌>>=◌ {B = List Part × ℕ} o (λ y. Some (whole (node k.Compare (operators text y.0) from (end_of ts y.1) ((kids ++ kid ∷ []) ++ nodes_of y.0)) ∷ [], y.1))
compare_more None ts from text kids kid = refl
compare_more (Some v) ts from text kids kid = rw (push_more kids kid (nodes_of v.0)) refl

cmp_round : (ts : List Item) (room n i j m from : ℕ) (text s : List ℕ) (kids : List Node) (kid : Node) → zero < n → has (sets.first Cop) (class (token_at ts i).word) ≡ true → level ts room Cop i ≡ Some (sign s ∷ [], j) → level ts room Bor j ≡ Some (whole kid ∷ [], m) → ◌>>=◌ {B = List Part × ℕ} (cmp_rest ts room n i) (λ y. Some (whole (node k.Compare (operators text y.0) from (end_of ts y.1) (kids ++ nodes_of y.0)) ∷ [], y.1)) ≡ ◌>>=◌ {B = List Part × ℕ} (cmp_rest ts room (n - 1) m) (λ y. Some (whole (node k.Compare (operators (spaced text s) y.0) from (end_of ts y.1) ((kids ++ kid ∷ []) ++ nodes_of y.0)) ∷ [], y.1))
cmp_round ts room n i j m from text s kids kid h op sign_read read = rw (cmp_turn ts room n i h) (rw op (rw sign_read (rw read (two_before (cmp_rest ts room (n - 1) m) (sign s) (whole kid) (λ ps to. whole (node k.Compare (operators text ps) from (end_of ts to) (kids ++ nodes_of ps)) ∷ []) ∙ compare_more (cmp_rest ts room (n - 1) m) ts from (spaced text s) kids kid))))

pub cmp_more : (ts : List Item) (room n l i j m from : ℕ) (text s texts : List ℕ) (kids all : List Node) (kid : Node) → zero < n → l ≡ n - 1 → has (sets.first Cop) (class (token_at ts i).word) ≡ true → level ts room Cop i ≡ Some (sign s ∷ [], j) → level ts room Bor j ≡ Some (whole kid ∷ [], m) → texts ≡ spaced text s → all ≡ kids ++ kid ∷ [] → ◌>>=◌ {B = List Part × ℕ} (cmp_rest ts room n i) (λ y. Some (whole (node k.Compare (operators text y.0) from (end_of ts y.1) (kids ++ nodes_of y.0)) ∷ [], y.1)) ≡ ◌>>=◌ {B = List Part × ℕ} (cmp_rest ts room l m) (λ y. Some (whole (node k.Compare (operators texts y.0) from (end_of ts y.1) (all ++ nodes_of y.0)) ∷ [], y.1))
cmp_more ts room n l i j m from text s texts kids all kid h less op sign_read read spelled pushed = rw (less, spelled, pushed) (cmp_round ts room n i j m from text s kids kid h op sign_read read)

-- where an operand is nothing, so is its chain
some_same : {b c : Binary} → Some b ≡ Some c → b ≡ c
some_same h = cc

pub none_above : (ts : List Item) (room : ℕ) (b : Binary) (i : ℕ) → zero < room → level ts room (operand_of b) i ≡ None → level ts room (level_of b) i ≡ None
none_above ts room b i h e = rw (binary_step ts room b i h) (rw e refl)

pub tightest_none : (ts : List Item) (room : ℕ) (b : Binary) (i : ℕ) → zero < room → level ts room (tightest_of b) i ≡ None → level ts room (operand_of b) i ≡ None
tightest_none ts room binaries.And i h e = e
tightest_none ts room binaries.Or i h e = none_above ts room binaries.And i h e
tightest_none ts room binaries.Factor i h e = e
tightest_none ts room binaries.Sign i h e = none_above ts room binaries.Factor i h e
tightest_none ts room binaries.Shift i h e = none_above ts room binaries.Sign i h (none_above ts room binaries.Factor i h e)
tightest_none ts room binaries.Ampersand i h e = none_above ts room binaries.Shift i h (none_above ts room binaries.Sign i h (none_above ts room binaries.Factor i h e))
tightest_none ts room binaries.Caret i h e = none_above ts room binaries.Ampersand i h (none_above ts room binaries.Shift i h (none_above ts room binaries.Sign i h (none_above ts room binaries.Factor i h e)))
tightest_none ts room binaries.Bar i h e = none_above ts room binaries.Caret i h (none_above ts room binaries.Ampersand i h (none_above ts room binaries.Shift i h (none_above ts room binaries.Sign i h (none_above ts room binaries.Factor i h e))))

-- the chain of the next tighter level is the operand
pub tighter_none : (b : Binary) → tighter_of b ≡ None → tightest_of b ≡ operand_of b
tighter_none binaries.Or h = absurd cc
tighter_none binaries.And h = refl
tighter_none binaries.Bar h = absurd cc
tighter_none binaries.Caret h = absurd cc
tighter_none binaries.Ampersand h = absurd cc
tighter_none binaries.Shift h = absurd cc
tighter_none binaries.Sign h = absurd cc
tighter_none binaries.Factor h = refl

pub tighter_operand : (b c : Binary) → tighter_of b ≡ Some c → operand_of b ≡ level_of c
tighter_operand binaries.Or c h = ap level_of (some_same h)
tighter_operand binaries.And c h = absurd cc
tighter_operand binaries.Bar c h = ap level_of (some_same h)
tighter_operand binaries.Caret c h = ap level_of (some_same h)
tighter_operand binaries.Ampersand c h = ap level_of (some_same h)
tighter_operand binaries.Shift c h = ap level_of (some_same h)
tighter_operand binaries.Sign c h = ap level_of (some_same h)
tighter_operand binaries.Factor c h = absurd cc

pub tighter_tightest : (b c : Binary) → tighter_of b ≡ Some c → tightest_of b ≡ tightest_of c
tighter_tightest binaries.Or c h = ap tightest_of (some_same h)
tighter_tightest binaries.And c h = absurd cc
tighter_tightest binaries.Bar c h = ap tightest_of (some_same h)
tighter_tightest binaries.Caret c h = ap tightest_of (some_same h)
tighter_tightest binaries.Ampersand c h = ap tightest_of (some_same h)
tighter_tightest binaries.Shift c h = ap tightest_of (some_same h)
tighter_tightest binaries.Sign c h = ap tightest_of (some_same h)
tighter_tightest binaries.Factor c h = absurd cc

pub ruleset tighter_laws = (tighter_none, tighter_operand, tighter_tightest, none_above)

-- what stands behind an operand, with the node that is made of both
pub test_read : (ts : List Item) (room i j m e : ℕ) (first condition last found : Node) → zero < room → eqb (class w.Lambda) (class (token_at ts i).word) ≡ false → level ts room Or i ≡ Some (whole first ∷ [], j) → eqb (class w.If) (class (token_at ts j).word) ≡ true → level ts room Or (j + 1) ≡ Some (whole condition ∷ [], m) → eqb (class w.Else) (class (token_at ts m).word) ≡ true → level ts (room - 1) Test (m + 1) ≡ Some (whole last ∷ [], e)
    → found ≡ node k.Cond [] (token_at ts i).span.from (end_of ts e) (condition ∷ first ∷ last ∷ []) → level ts room Test i ≡ Some (whole found ∷ [], e)
test_read ts room i j m e first condition last found h lambda read mark second other third made = rw made (test_step ts room i h ∙ rw lambda (rw read (rw mark (rw (rw add-one at second) (rw other (rw (rw add-one at third) refl))))))

pub power_read : (ts : List Item) (room i j e far : ℕ) (first right found : Node) → zero < room → level ts room Await i ≡ Some (whole first ∷ [], j) → eqb (class w.Power) (class (token_at ts j).word) ≡ true → level ts (room - 1) Unary (j + 1) ≡ Some (whole right ∷ [], e) → far ≡ spine too_deep first → found ≡ attached (token_at ts i).span.from far first (lacking k.Binary (token_at ts j).text (end_of ts e) (right ∷ []))
    → level ts room Power i ≡ Some (whole found ∷ [], e)
power_read ts room i j e far first right found h read mark second reach made = rw (made, reach) (power_step ts room i h ∙ rw read (rw mark (rw (rw add-one at second) refl)))
