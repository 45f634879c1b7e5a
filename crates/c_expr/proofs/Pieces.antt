-- Where the parts of a level are read, so is the level.
use Rattle.std.proofs.Common.{◌≡◌, ℕ, zero, suc, ◌-◌, ◌+◌, ◌<◌, add-one, List, [], ◌∷◌, ◌++◌, map, refl, ap, ◌∙◌, arith, None, Some, Bool, true, false, cond}
use Rattle.std.specs.Prelude.{eqb, leb, max, ◌&&◌}
use Rattle.node_tree.specs.Order.{kind_place}
use Rattle.node_tree.specs.Tree.{kind_of}
use Rattle.node_tree.specs.declared.kind.Kind.{Kind}
use Rattle.node_tree.specs.declared.kind.Kind.TheVariants as kinds
use Rattle.node_tree.specs.declared.span.Span.{Span}
use Rattle.grammar.specs.Rule.{has}
use Rattle.grammar.proofs.Facts.{and_both}
use Rattle.c_expr.specs.declared.word.Word.TheVariants as w
use Rattle.c_expr.specs.declared.word.Token.{Token}
use Rattle.c_expr.specs.declared.part.Part.{Part}
use Rattle.c_expr.specs.declared.lists.Listed.{Listed}
use Rattle.c_expr.specs.declared.lists.Listed.TheVariants as listed
use Rattle.c_expr.specs.declared.declarators.Naming.{Naming}
use Rattle.c_expr.specs.Words.{class}
use Rattle.c_expr.specs.Settling.{names, opens_cast, is_cast}
use Rattle.c_expr.specs.Table.{Comma, Assign, Cond, CondPart, Cast, Suffix, Tname, Body, Fields, Field, Desigs, DesigsTail, Desig, Ini, Init, DeclrPart, Words, AsId, Spelling, accesses}
use Rattle.c_expr.specs.Build.{token_at, start_of, span_between, leaf, over, padded, grafted, cut, stub, is_spelling, spelled_more, pointing, tallest, cut_source}
use Rattle.c_expr.specs.reader.Sets.{sets}
use Rattle.c_expr.specs.reader.Reading.{level, optional, grafting, gathering, word_or_group, list_read, list_tail, item_level, item_starts, trails, declr_level, pointed_read}
use Rattle.c_expr.proofs.Steps.{Got, on, rest, rest_turn, push_more, graft_one, listed_turn, list_next, cast_step, suffix_step, declr_step, declr_part_step, ini_step, gathered_spelling}
use Rattle.c_expr.proofs.Climbs.{cond_part_step}

-- what is read, put over what stands before it
pub grafted_there : (from : ℕ) (t p u : Part) (r : Got) (e : ℕ) → r ≡ Some (p ∷ [], e) → u ≡ cut (grafted from t p) → grafting from t r ≡ Some (u ∷ [], e)
grafted_there from t p u r e h made = rw made (ap (grafting from t) h ∙ graft_one from t p e)

-- ---- expressions

pub cast_read : (ts : List Token) (room i j e : ℕ) (p q found : Part) → zero < room → opens_cast (cut_source ts).cls i ≡ true → level ts (room - 1) Tname (i + 1) ≡ Some (p ∷ [], j) → eqb (class w.CloseRound) (class (token_at ts j).word) ≡ true → level ts (room - 1) Cast (j + 1) ≡ Some (q ∷ [], e) → found ≡ cut (over kinds.Cast [] (span_between ts i e) (p ∷ q ∷ [])) → level ts room Cast i ≡ Some (found ∷ [], e)
cast_read ts room i j e p q found h opened inner close last made =
    let o : _ = and_both (has (class w.OpenRound ∷ []) (class (token_at ts i).word)) (is_cast (cut_source ts).cls (suc i)) opened in
    rw made (cast_step ts room i h ∙ rw (o.0, o.1, (rw add-one at inner), close, (rw add-one at last)) refl)

pub cond_part_read : (ts : List Token) (room i j e : ℕ) (p q : Part) → zero < room → eqb (class w.Question) (class (token_at ts i).word) ≡ true → level ts (room - 1) Comma (i + 1) ≡ Some (p ∷ [], j) → eqb (class w.Colon) (class (token_at ts j).word) ≡ true → level ts (room - 1) Cond (j + 1) ≡ Some (q ∷ [], e) → level ts room CondPart i ≡ Some (cut (over kinds.Cond [] (span_between ts i e) (p ∷ q ∷ [])) ∷ [], e)
cond_part_read ts room i j e p q h mark inner colon last = cond_part_step ts room i h ∙ rw (mark, (rw add-one at inner), colon, (rw add-one at last)) refl

pub sub_read : (ts : List Token) (room i j : ℕ) (p : Part) → zero < room → eqb (class w.OpenSquare) (class (token_at ts i).word) ≡ true → level ts (room - 1) Comma (i + 1) ≡ Some (p ∷ [], j) → eqb (class w.CloseSquare) (class (token_at ts j).word) ≡ true → level ts room Suffix i ≡ Some (cut (over kinds.Sub [] (span_between ts i (j + 1)) (p ∷ [])) ∷ [], j + 1)
sub_read ts room i j p h opened inner close = rw (add-one j) (suffix_step ts room i h ∙ rw (opened, (rw add-one at inner), close) refl)

pub call_read : (ts : List Token) (room i j : ℕ) (p : Part) → zero < room → eqb (class w.OpenSquare) (class (token_at ts i).word) ≡ false → eqb (class w.OpenRound) (class (token_at ts i).word) ≡ true → list_read ts (room - 1) listed.Args (i + 1) ≡ Some (p ∷ [], j) → eqb (class w.CloseRound) (class (token_at ts j).word) ≡ true → level ts room Suffix i ≡ Some (cut (over kinds.Call [] (span_between ts i (j + 1)) (p ∷ [])) ∷ [], j + 1)
call_read ts room i j p h square opened inner close = rw (add-one j) (suffix_step ts room i h ∙ rw (square, opened, (rw add-one at inner), close) refl)

pub attr_read : (ts : List Token) (room i : ℕ) → zero < room → eqb (class w.OpenSquare) (class (token_at ts i).word) ≡ false → eqb (class w.OpenRound) (class (token_at ts i).word) ≡ false → has accesses (class (token_at ts i).word) ≡ true → has names (class (token_at ts (i + 1)).word) ≡ true → level ts room Suffix i ≡ Some (cut (over kinds.Attr (token_at ts i).text (span_between ts i (i + 2)) (leaf ts AsId (i + 1) ∷ [])) ∷ [], i + 2)
attr_read ts room i h square opened mark name =
    let two : i + 2 ≡ suc (suc i) = omega arith in
    rw (two, add-one i) (suffix_step ts room i h ∙ rw (square, opened, mark, (rw add-one at name)) refl)

-- ---- lists

-- one part more, behind others
one_more : (ps : List Part) (p : Part) (r : Got) → on (on r (λ y. Some (p ∷ y.0, y.1))) (λ y. Some (ps ++ y.0, y.1)) ≡ on r (λ y. Some ((ps ++ p ∷ []) ++ y.0, y.1))
one_more ps p None = refl
one_more ps p (Some y) = rw (push_more ps p y.0) refl

-- the same, as the loop counts and pushes
one_pushed : (f : ℕ → ℕ → Got) (ps qs : List Part) (p : Part) (n m j : ℕ) → qs ≡ ps ++ p ∷ [] → n ≡ m → on (on (f n j) (λ y. Some (p ∷ y.0, y.1))) (λ y. Some (ps ++ y.0, y.1)) ≡ on (f m j) (λ y. Some (qs ++ y.0, y.1))
one_pushed f ps qs p n m j pushed less = one_more ps p (f n j) ∙ rw (pushed, less) refl

pub desigs_more : (ts : List Token) (room : ℕ) (ps qs : List Part) (p : Part) (n m i j : ℕ) → zero < n → has (sets.first Desig) (class (token_at ts i).word) ≡ true → level ts room Desig i ≡ Some (p ∷ [], j) → qs ≡ ps ++ p ∷ [] → n - 1 ≡ m → on (rest ts room DesigsTail n i) (λ y. Some (ps ++ y.0, y.1)) ≡ on (rest ts room DesigsTail m j) (λ y. Some (qs ++ y.0, y.1))
desigs_more ts room ps qs p n m i j h begins read pushed less = rw (rest_turn ts room DesigsTail n i h) (rw (begins, read) (one_pushed (rest ts room DesigsTail) ps qs p (n - 1) m j pushed less))

pub fields_more : (ts : List Token) (room : ℕ) (ps qs : List Part) (p : Part) (n m i j : ℕ) → zero < n → has (sets.first Field) (class (token_at ts i).word) ≡ true → level ts room Field i ≡ Some (p ∷ [], j) → qs ≡ ps ++ p ∷ [] → n - 1 ≡ m → on (rest ts room Fields n i) (λ y. Some (ps ++ y.0, y.1)) ≡ on (rest ts room Fields m j) (λ y. Some (qs ++ y.0, y.1))
fields_more ts room ps qs p n m i j h begins read pushed less = rw (rest_turn ts room Fields n i h) (rw (begins, read) (one_pushed (rest ts room Fields) ps qs p (n - 1) m j pushed less))

item_more : (ts : List Token) (room : ℕ) (k : Listed) (ps qs : List Part) (p : Part) (n m i j : ℕ) (trail : Bool) → (trail ≡ true → has (map class (item_starts k)) (class (token_at ts i).word) ≡ true) → level ts room (item_level k) i ≡ Some (p ∷ [], j) → qs ≡ ps ++ p ∷ [] → n ≡ m → on (list_next ts room k n trail i) (λ y. Some (ps ++ y.0, y.1)) ≡ on (rest ts room (list_tail k) m j) (λ y. Some (qs ++ y.0, y.1))
item_more ts room k ps qs p n m i j true begins read pushed less = rw (begins refl, read) (one_pushed (rest ts room (list_tail k)) ps qs p n m j pushed less)
item_more ts room k ps qs p n m i j false begins read pushed less = rw read (one_pushed (rest ts room (list_tail k)) ps qs p n m j pushed less)

pub items_more : (ts : List Token) (room : ℕ) (k : Listed) (ps qs : List Part) (p : Part) (n m i j : ℕ) → zero < n → eqb (class w.Comma) (class (token_at ts i).word) ≡ true → (trails k ≡ true → has (map class (item_starts k)) (class (token_at ts (i + 1)).word) ≡ true) → level ts room (item_level k) (i + 1) ≡ Some (p ∷ [], j) → qs ≡ ps ++ p ∷ [] → n - 1 ≡ m → on (rest ts room (list_tail k) n i) (λ y. Some (ps ++ y.0, y.1)) ≡ on (rest ts room (list_tail k) m j) (λ y. Some (qs ++ y.0, y.1))
items_more ts room k ps qs p n m i j h comma begins read pushed less = rw (listed_turn ts room k n i h) (rw comma (item_more ts room k ps qs p (n - 1) m (suc i) j (trails k) (rw add-one at begins) (rw add-one at read) pushed less))

-- ---- types

-- the spelling of a token, behind others
pub spelling_there : (ts : List Token) (i j : ℕ) (s : List ℕ × List Part) → gathering s (Some (leaf ts Spelling i ∷ [], j)) ≡ Some ((spelled_more s.0 (token_at ts i).text, s.1), j)
unfolding gathering
spelling_there ts i j s = ap (λ z. Some (z, j)) (gathered_spelling ts i s [])

pub word_there : (ts : List Token) (room : ℕ) (cs : List ℕ) (i : ℕ) (s : List ℕ × List Part) (text : List ℕ) (kids : List Part) → has cs (class (token_at ts i).word) ≡ true → text ≡ spelled_more s.0 (token_at ts i).text → kids ≡ s.1 → gathering s (word_or_group ts room cs i) ≡ Some ((text, kids), i + 1)
word_there ts room cs i s text kids stands spelled same = rw (spelled, same, add-one i, stands) (spelling_there ts i (suc i) s)

-- a body, behind others
pub body_there : (ts : List Token) (room i j : ℕ) (s : List ℕ × List Part) (p : Part) (kids : List Part) → eqb (class w.OpenCurly) (class (token_at ts i).word) ≡ true → level ts room Body i ≡ Some (p ∷ [], j) → is_spelling p ≡ false → kids ≡ s.1 ++ p ∷ [] → gathering s (optional ts room Body i) ≡ Some ((s.0, kids), j)
unfolding gathering
body_there ts room i j s p kids opened read plain pushed = rw (pushed, opened, read, plain) refl

-- what is made of others is no spelling
and_not : (b : Bool) → (b && false) ≡ false
and_not true = refl
and_not false = refl

deep_is_none : (p : Part) → zero < p.depth → is_spelling p ≡ false
unfolding is_spelling
deep_is_none p h = let e : eqb p.depth 0 ≡ false = grind arith in rw e (and_not (eqb (kind_place (kind_of p.node)) (kind_place kinds.Keyword)))

cut_some : (p : Part) → zero < p.depth → zero < (cut p).depth
unfolding cut
cut_some p h = by (leb p.depth 500)
  where
    by : (b : Bool) → zero < (cond b p stub).depth
    by true = h
    by false = omega arith

pub no_spelling : (kind : Kind) (text : List ℕ) (span : Span) (ps : List Part) → is_spelling (cut (over kind text span ps)) ≡ false
unfolding over
no_spelling kind text span ps = deep_is_none (cut (over kind text span ps)) (cut_some (over kind text span ps) (omega arith))

-- ---- declarators

-- a pointer to what has no words of its own
pointing_is : (span : Span) (text : List ℕ) (ps : List Part) → pointing span text 0 ps ≡ over kinds.Ptr text span (padded span.from 1 ps)
unfolding over
pointing_is span text ps = let e : max 0 (tallest (padded span.from 1 ps)) ≡ tallest (padded span.from 1 ps) = omega arith in rw e refl

pub pointer_there : (ts : List Token) (room : ℕ) (k : Naming) (i j e : ℕ) (text : List ℕ) (ps : List Part) (p found : Part) → zero < room → eqb (class w.Star) (class (token_at ts i).word) ≡ true → gathering ([], []) (level ts room Words (i + 1)) ≡ Some ((text, []), j) → pointed_read ts (room - 1) k j ≡ Some (ps, e) → padded (start_of ts i) 1 ps ≡ p ∷ [] → found ≡ cut (over kinds.Ptr text (span_between ts i e) (p ∷ [])) → level ts room (declr_level k) i ≡ Some (found ∷ [], e)
pointer_there ts room k i j e text ps p found h star words pointed kid made = rw made (declr_step ts room k i h ∙ rw (star, (rw add-one at words), pointed, pointing_is (span_between ts i e) text ps, kid) refl)

pub array_read : (ts : List Token) (room i j : ℕ) (ps : List Part) (p : Part) → zero < room → eqb (class w.OpenSquare) (class (token_at ts i).word) ≡ true → optional ts (room - 1) Assign (i + 1) ≡ Some (ps, j) → eqb (class w.CloseSquare) (class (token_at ts j).word) ≡ true → padded (start_of ts i) 1 ps ≡ p ∷ [] → level ts room DeclrPart i ≡ Some (cut (over kinds.ArrayOf [] (span_between ts i (j + 1)) (p ∷ [])) ∷ [], j + 1)
array_read ts room i j ps p h opened inner close size = rw (add-one j) (declr_part_step ts room i h ∙ rw (opened, (rw add-one at inner), close, size) refl)

pub function_read : (ts : List Token) (room i j : ℕ) (p : Part) → zero < room → eqb (class w.OpenSquare) (class (token_at ts i).word) ≡ false → eqb (class w.OpenRound) (class (token_at ts i).word) ≡ true → list_read ts (room - 1) listed.Params (i + 1) ≡ Some (p ∷ [], j) → eqb (class w.CloseRound) (class (token_at ts j).word) ≡ true → level ts room DeclrPart i ≡ Some (cut (over kinds.FuncOf [] (span_between ts i (j + 1)) (p ∷ [])) ∷ [], j + 1)
function_read ts room i j p h square opened inner close = rw (add-one j) (declr_part_step ts room i h ∙ rw (square, opened, (rw add-one at inner), close) refl)

-- ---- values

pub designated_read : (ts : List Token) (room i j e : ℕ) (ps : List Part) (q found : Part) → zero < room → has (sets.first Desig) (class (token_at ts i).word) ≡ true → level ts room Desigs i ≡ Some (ps, j) → eqb (class w.Equals) (class (token_at ts j).word) ≡ true → level ts room Init (j + 1) ≡ Some (q ∷ [], e) → found ≡ cut (over kinds.Designated [] (span_between ts i e) (cut (over kinds.List [] (span_between ts i j) ps) ∷ q ∷ [])) → level ts room Ini i ≡ Some (found ∷ [], e)
designated_read ts room i j e ps q found h begins places equals value made = rw made (ini_step ts room i h ∙ rw (begins, places, equals, (rw add-one at value)) refl)
