-- Where the parts of a statement that holds others are read, so is the statement.
use Rattle.std.proofs.Common.{◌≡◌, ℕ, zero, ◌-◌, ◌+◌, ◌<◌, add-one, List, [], ◌∷◌, ◌++◌, refl, ◌∙◌, Some, true}
use Rattle.std.specs.Prelude.{eqb}
use Rattle.std.proofs.lemmas.List.{append-nil}
use Rattle.node_tree.specs.declared.kind.Kind.TheVariants as kinds
use Rattle.grammar.specs.Rule.{deep, make, ◌·◌}
use Rattle.c_expr.specs.declared.word.Word.{Word}
use Rattle.c_expr.specs.declared.word.Word.TheVariants as w
use Rattle.c_expr.specs.declared.word.Token.{Token}
use Rattle.c_expr.specs.declared.part.Part.{Part}
use Rattle.c_expr.specs.Words.{class}
use Rattle.c_expr.specs.Table.{Builder, Over}
use Rattle.c_expr.specs.Build.{token_at, start_of, span_between, absent, over, padded, cut, cut_built}
use Rattle.c_items.specs.Table.{Row, tok, condition, else_part, Sub, If, While, DoWhile}
use Rattle.c_items.specs.reader.Reading.{level, row}
use Rattle.c_items.proofs.Steps.{if_step, while_step, do_step}

-- ---- rows

row_tok : (ts : List Token) (room : ℕ) (c : Word) (i : ℕ) → eqb (class c) (class (token_at ts i).word) ≡ true → row ts room (tok c) i ≡ Some ([], i + 1)
row_tok ts room c i h = rw (add-one i, h) refl

row_seq : (ts : List Token) (room : ℕ) (r s : Row) (i j e : ℕ) (ps qs : List Part) → row ts room r i ≡ Some (ps, j) → row ts room s j ≡ Some (qs, e) → row ts room (r · s) i ≡ Some (ps ++ qs, e)
row_seq ts room r s i j e ps qs h k = rw (h, k) refl

row_make : (ts : List Token) (room : ℕ) (b : Builder) (r : Row) (i e : ℕ) (ps : List Part) → row ts room r i ≡ Some (ps, e) → row ts room (make b r) i ≡ Some (cut_built ts b i e ps ∷ [], e)
row_make ts room b r i e ps h = rw h refl

-- a token, and what follows
row_after : (ts : List Token) (room : ℕ) (c : Word) (r : Row) (i e : ℕ) (ps : List Part) → eqb (class c) (class (token_at ts i).word) ≡ true → row ts room r (i + 1) ≡ Some (ps, e) → row ts room (tok c · r) i ≡ Some (ps, e)
row_after ts room c r i e ps h k = row_seq ts room (tok c) r i (i + 1) e [] ps (row_tok ts room c i h) k

-- what is read, and a token behind it
row_closed : (ts : List Token) (room : ℕ) (r : Row) (c : Word) (i j : ℕ) (ps : List Part) → row ts room r i ≡ Some (ps, j) → eqb (class c) (class (token_at ts j).word) ≡ true → row ts room (r · tok c) i ≡ Some (ps, j + 1)
row_closed ts room r c i j ps h k = rw (append-nil ps) at (row_seq ts room r (tok c) i j (j + 1) ps [] h (row_tok ts room c j k))

-- ---- statements

pub if_read : (ts : List Token) (room i a b e : ℕ) (p q r found : Part) (os : List Part) → zero < room → eqb (class w.If) (class (token_at ts i).word) ≡ true → row ts room condition (i + 1) ≡ Some (p ∷ [], a) → level ts (room - 1) Sub a ≡ Some (q ∷ [], b) → row ts room else_part b ≡ Some (os, e) → padded (start_of ts i) 1 os ≡ r ∷ [] → found ≡ cut (over kinds.If [] (span_between ts i e) (p ∷ q ∷ r ∷ [])) → level ts room If i ≡ Some (found ∷ [], e)
if_read ts room i a b e p q r found os h mark test body other kid made =
    let inner : _ = row_seq ts room (deep Sub) else_part a b e (q ∷ []) os body other in
    let all : _ = row_after ts room w.If (condition · deep Sub · else_part) i e (p ∷ q ∷ os) mark (row_seq ts room condition (deep Sub · else_part) (i + 1) a e (p ∷ []) (q ∷ os) test inner) in
    rw made (if_step ts room i h ∙ row_make ts room (Over kinds.If 3) (tok w.If · condition · deep Sub · else_part) i e (p ∷ q ∷ os) all ∙ rw kid refl)

pub while_read : (ts : List Token) (room i a e : ℕ) (p q found : Part) → zero < room → eqb (class w.While) (class (token_at ts i).word) ≡ true → row ts room condition (i + 1) ≡ Some (p ∷ [], a) → level ts (room - 1) Sub a ≡ Some (q ∷ [], e) → found ≡ cut (over kinds.While [] (span_between ts i e) (p ∷ q ∷ absent (start_of ts i) ∷ [])) → level ts room While i ≡ Some (found ∷ [], e)
while_read ts room i a e p q found h mark test body made =
    let all : _ = row_after ts room w.While (condition · deep Sub) i e (p ∷ q ∷ []) mark (row_seq ts room condition (deep Sub) (i + 1) a e (p ∷ []) (q ∷ []) test body) in
    rw made (while_step ts room i h ∙ row_make ts room (Over kinds.While 3) (tok w.While · condition · deep Sub) i e (p ∷ q ∷ []) all)

pub do_read : (ts : List Token) (room i a b : ℕ) (p q found : Part) → zero < room → eqb (class w.Do) (class (token_at ts i).word) ≡ true → level ts (room - 1) Sub (i + 1) ≡ Some (p ∷ [], a) → eqb (class w.While) (class (token_at ts a).word) ≡ true → row ts room condition (a + 1) ≡ Some (q ∷ [], b) → eqb (class w.Semicolon) (class (token_at ts b).word) ≡ true → found ≡ cut (over kinds.DoWhile [] (span_between ts i (b + 1)) (p ∷ q ∷ [])) → level ts room DoWhile i ≡ Some (found ∷ [], b + 1)
do_read ts room i a b p q found h mark body loops test close made =
    let last : _ = row_closed ts room condition w.Semicolon (a + 1) b (q ∷ []) test close in
    let inner : _ = row_seq ts room (deep Sub) (tok w.While · condition · tok w.Semicolon) (i + 1) a (b + 1) (p ∷ []) (q ∷ []) body (row_after ts room w.While (condition · tok w.Semicolon) a (b + 1) (q ∷ []) loops last) in
    let all : _ = row_after ts room w.Do (deep Sub · tok w.While · condition · tok w.Semicolon) i (b + 1) (p ∷ q ∷ []) mark inner in
    rw made (do_step ts room i h ∙ row_make ts room (Over kinds.DoWhile 0) (tok w.Do · deep Sub · tok w.While · condition · tok w.Semicolon) i (b + 1) (p ∷ q ∷ []) all)
