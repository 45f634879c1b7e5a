-- The reader of a level, one step.
use Rattle.std.proofs.Common.{◌≡◌, ℕ, zero, suc, ◌-◌, ◌<◌, List, [], ◌∷◌, ◌++◌, ◌+◌, add-one, length, map, refl, ap, sym, ◌∙◌, arith, Option, None, Some, Bool, true, false, cond}
use Rattle.std.proofs.lemmas.List.{append-nil}
use Rattle.node_tree.specs.declared.kind.Kind.TheVariants as kinds
use Rattle.node_tree.specs.declared.span.Span.{Span}
use Rattle.node_tree.specs.Tree.{text_of}
use Rattle.node_tree.specs.Order.{kind_place}
use Rattle.std.specs.Prelude.{eqb, ◌&&◌}
use Rattle.node_tree.proofs.Nodes.{made_kind, made_text}
use Rattle.grammar.specs.Rule.{done, word, ref, again, opt, must, has, ◌·◌, ◌∣◌}
use Rattle.grammar.specs.Reader.{read, choice, turns, ◌>>=◌}
use Rattle.grammar.proofs.Rounds.{turn, turned, made}
use Rattle.grammar.proofs.Stable.{room_step}
use Rattle.c_expr.specs.declared.word.Word.TheVariants as w
use Rattle.c_expr.specs.declared.word.Token.{Token}
use Rattle.c_expr.specs.declared.part.Part.{Part}
use Rattle.c_expr.specs.declared.lists.Listed.{Listed}
use Rattle.c_expr.specs.declared.lists.Listed.TheVariants as listed
use Rattle.c_expr.specs.declared.declarators.Naming.{Naming}
use Rattle.c_expr.specs.declared.declarators.Naming.TheVariants as naming
use Rattle.c_expr.specs.Words.{class}
use Rattle.c_expr.specs.Settling.{names, spec_words, opens_declarator}
use Rattle.c_expr.specs.Table.{Level, CommaTail, Cond, Cast, Unary, Sizeof, Postfix, PostfixTail, Suffix, Prim, Strings, StringsTail, Deep, Args, ArgsTail, Arg, Tname, Spec, SpecStart, QualifiersTail, Typed, TypedFirst, TypedTail, Group, Body, Enumerators, EnumeratorsTail, Enumerator, Fields, Field, Members, MembersTail, Member, Width, Declr, NamedDirect, DeclrFirst, Nameless, NamelessDirect, Maybe, MaybeDirect, DeclrTail, DeclrPart, Stars, Words, Params, ParamsTail, Param, Var, Init, Inis, InisTail, Ini, Desigs, DesigsTail, Desig, Own, AsId, Spelling, Row, comma_round, desigs_round, further, postfix_round, qualifiers_round, strings_round, trailing, typed_round, tok, strings, joined, meta, name, tags, qualifiers, bare_words, later_words, spec_goes_on, table, grammar}
use Rattle.c_expr.specs.Build.{token_at, start_of, span_between, leaf, absent, over, padded, grafted, cut, graft_cut, cut_chained, cut_joined, is_spelling, spelled_more, gathered, type_over, spellings, pointing, pointer, tallest, cut_source}
use Rattle.c_expr.specs.reader.Sets.{sets, ranks}
use Rattle.c_expr.specs.reader.Reading.{level, optional, behind_equals, grafting, regraft, gathering, word_or_group, list_level, list_tail, item_level, item_starts, trails, declr_level, direct_level, pointed_read, opens_nested, takes_name}
use Rattle.c_expr.proofs.Passes.{pass}

abbrev pub Got : Type 0
Got = Option (List Part × ℕ)

-- what follows what is read
abbrev pub on : Got → (List Part × ℕ → Got) → Got
on r f = r >>= f

abbrev pub on_spelt : Option ((List ℕ × List Part) × ℕ) → ((List ℕ × List Part) × ℕ → Got) → Got
on_spelt r f = r >>= f

pub bind_same : {A B : Type 0} (r : Option A) (f g : A → Option B) → ((x : A) → f x ≡ g x) → (r >>= f) ≡ (r >>= g)
bind_same None f g h = refl
bind_same (Some x) f g h = h x

pub level_none : (ts : List Token) (room : ℕ) (l : Level) (i : ℕ) → room ≡ zero → level ts room l i ≡ None
unfolding level
level_none ts room l i h = rw h refl

-- what a row reads, over the levels at hand and those one step deeper, where `again` reads what A does
abbrev pub row : List Token → ℕ → (ℕ → Option (List Part × ℕ)) → Option Level → Row → ℕ → Option (List Part × ℕ)
row ts room A q r = read (cut_source ts) sets (suc (length ts)) (choice (level ts room) (level ts (room - 1))) A q r

pub level_row : (ts : List Token) (room : ℕ) (l : Level) (i : ℕ) → zero < room → level ts room l i ≡ row ts room (λ i. None) None (table l) i
unfolding level
level_row ts room l i h = room_step (cut_source ts) sets (suc (length ts)) grammar ranks pass room l i h

-- what a loop goes round
abbrev pub round_of : Level → Row
round_of CommaTail = comma_round
round_of PostfixTail = postfix_round
round_of StringsTail = strings_round
round_of ArgsTail = (further Arg)
round_of QualifiersTail = qualifiers_round
round_of TypedTail = typed_round
round_of EnumeratorsTail = (trailing Enumerator)
round_of Fields = (opt (ref Field · again))
round_of MembersTail = (further Member)
round_of DeclrTail = (opt (ref DeclrPart · again))
round_of Words = (opt (word Spelling spec_words · again))
round_of ParamsTail = (further Param)
round_of InisTail = (trailing Ini)
round_of DesigsTail = desigs_round
round_of _ = done

-- what a loop still reads, in n rounds
unfoldable pub rest : List Token → ℕ → Level → ℕ → ℕ → Option (List Part × ℕ)
rest ts room l n = turns (λ i. None) (λ X. row ts room X (Some l) (round_of l)) n

pub rest_turn : (ts : List Token) (room : ℕ) (l : Level) (n i : ℕ) → zero < n → rest ts room l n i ≡ row ts room (rest ts room l (n - 1)) (Some l) (round_of l) i
unfolding rest
rest_turn ts room l n i h = ap (λ f. f i) (turn (λ i. None) (λ X. row ts room X (Some l) (round_of l)) n h)

pub rest_turned : (ts : List Token) (room : ℕ) (l : Level) (n i : ℕ) → n ≡ zero → rest ts room l n i ≡ None
unfolding rest
rest_turned ts room l n i h = ap (λ f. f i) (turned (λ i. None) (λ X. row ts room X (Some l) (round_of l)) n h)

-- ---- parts put over what stands before them

pub graft_more : (from : ℕ) (t : Part) (xs ys : List Part) → graft_cut from t (xs ++ ys) ≡ graft_cut from (graft_cut from t xs) ys
unfolding grafting gathering
graft_more from t [] ys = refl
graft_more from t (x ∷ xs) ys = graft_more from (cut (grafted from t x)) xs ys

pub graft_seq : (from : ℕ) (p : Part) (r : Option (List Part × ℕ)) (f : ℕ → Option (List Part × ℕ)) → grafting from p (on r (λ x. on (f x.1) (λ y. Some (x.0 ++ y.0, y.1)))) ≡ on (grafting from p r) (λ z. regraft from z.0 (f z.1))
unfolding grafting gathering
graft_seq from p None f = refl
graft_seq from p (Some x) f = inner (f x.1)
  where
    inner : (q : Option (List Part × ℕ)) → grafting from p (on q (λ y. Some (x.0 ++ y.0, y.1))) ≡ grafting from (graft_cut from p x.0) q
    inner None = refl
    inner (Some y) = rw (graft_more from p x.0 y.0) refl

pub graft_cond : (from : ℕ) (p : Part) (b : Bool) (r r' : Option (List Part × ℕ)) → grafting from p (cond b r r') ≡ cond b (grafting from p r) (grafting from p r')
unfolding grafting gathering
graft_cond from p true r r' = refl
graft_cond from p false r r' = refl

pub graft_turn : (from : ℕ) (p : Part) (i : ℕ) (b : Bool) (r : Option (List Part × ℕ)) (f : ℕ → Option (List Part × ℕ)) → grafting from p (cond b (on r (λ x. on (f x.1) (λ y. Some (x.0 ++ y.0, y.1)))) (Some ([], i))) ≡ cond b (on (grafting from p r) (λ z. regraft from z.0 (f z.1))) (Some (p ∷ [], i))
unfolding grafting gathering
graft_turn from p i true r f = graft_seq from p r f
graft_turn from p i false r f = refl

pub cond_both : {A : Type 0} (b : Bool) (x x' y y' : A) → x ≡ x' → y ≡ y' → cond b x y ≡ cond b x' y'
cond_both true x x' y y' e f = e
cond_both false x x' y y' e f = f

-- a token, and then a level
pub tok_then : (b : Bool) (j : ℕ) (f : ℕ → Option (List Part × ℕ)) → on (cond b (Some ([], j)) None) (λ x. on (f x.1) (λ y. Some (x.0 ++ y.0, y.1))) ≡ cond b (f j) None
tok_then true j f = inner (f j)
  where
    inner : (q : Option (List Part × ℕ)) → on q (λ y. Some (y.0, y.1)) ≡ q
    inner None = refl
    inner (Some y) = refl
tok_then false j f = refl

pub once : {A : Type 0} (b : Bool) (x y z : A) → cond b (cond b x y) z ≡ cond b x z
once true x y z = refl
once false x y z = refl

-- what is made of a token and what follows
pub op_row : (b : Bool) (j : ℕ) (f : ℕ → Option (List Part × ℕ)) (g : ℕ → List Part → List Part) → on (on (cond b (Some ([], j)) None) (λ x. on (f x.1) (λ y. Some (x.0 ++ y.0, y.1)))) (λ z. Some (g z.1 z.0, z.1)) ≡ cond b (on (f j) (λ x. Some (g x.1 x.0, x.1))) None
op_row true j f g = inner (f j)
  where
    inner : (q : Option (List Part × ℕ)) → on (on q (λ y. Some (y.0, y.1))) (λ z. Some (g z.1 z.0, z.1)) ≡ on q (λ x. Some (g x.1 x.0, x.1))
    inner None = refl
    inner (Some y) = refl
op_row false j f g = refl

pub graft_none : (from : ℕ) (p : Part) (i : ℕ) → grafting from p (Some ([], i)) ≡ Some (p ∷ [], i)
unfolding grafting
graft_none from p i = refl

pub graft_one : (from : ℕ) (p q : Part) (i : ℕ) → grafting from p (Some (q ∷ [], i)) ≡ Some (cut (grafted from p q) ∷ [], i)
unfolding grafting
graft_one from p q i = refl

pub graft_nothing : (from : ℕ) (p : Part) → grafting from p None ≡ None
unfolding grafting
graft_nothing from p = refl

pub gather_none : (s : List ℕ × List Part) (i : ℕ) → gathering s (Some ([], i)) ≡ Some (s, i)
unfolding gathering
gather_none s i = refl

pub gather_nothing : (s : List ℕ × List Part) → gathering s None ≡ None
unfolding gathering
gather_nothing s = refl

-- what one part goes on with; several parts, which no level gives, go on by the row
abbrev pub going_on : (Part → ℕ → Got) → ℕ → (ℕ → Got) → List Part → ℕ → Got
going_on f from r [] j = on (r j) (λ y. Some (cut_chained from y.0 ∷ [], y.1))
going_on f from r (t ∷ []) j = f t j
going_on f from r (t ∷ q ∷ ps) j = on (r j) (λ y. Some (cut_chained from (t ∷ q ∷ (ps ++ y.0)) ∷ [], y.1))

pub goes_on : (f : Part → ℕ → Got) (from : ℕ) (r : ℕ → Got) → ((t : Part) (j : ℕ) → grafting from t (r j) ≡ f t j) → (ps : List Part) (j : ℕ) → on (r j) (λ y. Some (cut_chained from (ps ++ y.0) ∷ [], y.1)) ≡ going_on f from r ps j
unfolding grafting
goes_on f from r h [] j = refl
goes_on f from r h (t ∷ []) j = h t j
goes_on f from r h (t ∷ q ∷ ps) j = refl

-- the same where it is put over the part
abbrev pub chained_on : ℕ → (ℕ → Got) → List Part → ℕ → Got
chained_on from r ps j = going_on (λ t j. grafting from t (r j)) from r ps j

pub chained : (from : ℕ) (r : ℕ → Got) (ps : List Part) (j : ℕ) → on (r j) (λ y. Some (cut_chained from (ps ++ y.0) ∷ [], y.1)) ≡ chained_on from r ps j
chained from r ps j = goes_on (λ t j. grafting from t (r j)) from r (λ t j. refl) ps j

-- what is put over or gathered, where nothing or one part is read
pub ruleset graft_laws = (graft_none, graft_one, graft_nothing, gather_none, gather_nothing)

-- ---- expressions

pub cast_step : (ts : List Token) (room i : ℕ) → zero < room → level ts room Cast i ≡ row ts room (λ i. None) None (table Cast) i
cast_step ts room i h = level_row ts room Cast i h

pub unary_step : (ts : List Token) (room i : ℕ) → zero < room → level ts room Unary i ≡ row ts room (λ i. None) None (table Unary) i
unary_step ts room i h = level_row ts room Unary i h

pub sizeof_step : (ts : List Token) (room i : ℕ) → zero < room → level ts room Sizeof i ≡ row ts room (λ i. None) None (table Sizeof) i
sizeof_step ts room i h = level_row ts room Sizeof i h

postfix_tail_step : (ts : List Token) (room i : ℕ) → zero < room → level ts room PostfixTail i ≡ rest ts room PostfixTail (suc (length ts)) i
unfolding rest
postfix_tail_step ts room i h = level_row ts room PostfixTail i h

pub postfix_step : (ts : List Token) (room i : ℕ) → zero < room → level ts room Postfix i ≡ on (level ts room Prim i) (λ x. chained_on (start_of ts i) (rest ts room PostfixTail (suc (length ts))) x.0 x.1)
postfix_step ts room i h =
    level_row ts room Postfix i h ∙ made (level ts room Prim i) (level ts room PostfixTail) (λ j xs. cut_chained (start_of ts i) xs ∷ [])
    ∙ bind_same (level ts room Prim i) _ _ (λ x. ap (λ r. on r (λ y. Some (cut_chained (start_of ts i) (x.0 ++ y.0) ∷ [], y.1))) (postfix_tail_step ts room x.1 h) ∙ chained (start_of ts i) (rest ts room PostfixTail (suc (length ts))) x.0 x.1)

pub postfix_turn : (ts : List Token) (room from : ℕ) (p : Part) (n i : ℕ) → zero < n → grafting from p (rest ts room PostfixTail n i) ≡ cond (has (sets.first Suffix) (class (token_at ts i).word)) (on (grafting from p (level ts room Suffix i)) (λ z. regraft from z.0 (rest ts room PostfixTail (n - 1) z.1))) (Some (p ∷ [], i))
unfolding grafting gathering
postfix_turn ts room from p n i h = ap (grafting from p) (rest_turn ts room PostfixTail n i h) ∙ graft_turn from p i (has (sets.first Suffix) (class (token_at ts i).word)) (level ts room Suffix i) (rest ts room PostfixTail (n - 1))

-- a suffix, and the round behind it
pub postfix_on : (ts : List Token) (room from : ℕ) (p q : Part) (n i j : ℕ) → zero < n → has (sets.first Suffix) (class (token_at ts i).word) ≡ true → grafting from p (level ts room Suffix i) ≡ Some (q ∷ [], j) → grafting from p (rest ts room PostfixTail n i) ≡ grafting from q (rest ts room PostfixTail (n - 1) j)
postfix_on ts room from p q n i j h e g = postfix_turn ts room from p n i h ∙ yes (has (sets.first Suffix) (class (token_at ts i).word)) e ∙ ap (λ r. on r (λ z. regraft from z.0 (rest ts room PostfixTail (n - 1) z.1))) g
  where
    yes : (b : Bool) → b ≡ true → cond b (on (grafting from p (level ts room Suffix i)) (λ z. regraft from z.0 (rest ts room PostfixTail (n - 1) z.1))) (Some (p ∷ [], i)) ≡ on (grafting from p (level ts room Suffix i)) (λ z. regraft from z.0 (rest ts room PostfixTail (n - 1) z.1))
    yes true e = refl
    yes false e = cc

pub suffix_step : (ts : List Token) (room i : ℕ) → zero < room → level ts room Suffix i ≡ row ts room (λ i. None) None (table Suffix) i
suffix_step ts room i h = level_row ts room Suffix i h

pub prim_step : (ts : List Token) (room i : ℕ) → zero < room → level ts room Prim i ≡ row ts room (λ i. None) None (table Prim) i
prim_step ts room i h = level_row ts room Prim i h

pub deep_step : (ts : List Token) (room i : ℕ) → zero < room → level ts room Deep i ≡ row ts room (λ i. None) None (table Deep) i
deep_step ts room i h = level_row ts room Deep i h

pub arg_step : (ts : List Token) (room i : ℕ) → zero < room → level ts room Arg i ≡ row ts room (λ i. None) None (table Arg) i
arg_step ts room i h = level_row ts room Arg i h

strings_tail_step : (ts : List Token) (room i : ℕ) → zero < room → level ts room StringsTail i ≡ rest ts room StringsTail (suc (length ts)) i
unfolding rest
strings_tail_step ts room i h = level_row ts room StringsTail i h

pub strings_step : (ts : List Token) (room i : ℕ) → zero < room → level ts room Strings i ≡ on (cond (has strings (class (token_at ts i).word)) (Some (leaf ts Own i ∷ [], suc i)) None) (λ x. on (rest ts room StringsTail (suc (length ts)) x.1) (λ y. Some (cut_joined (span_between ts i y.1) (x.0 ++ y.0) ∷ [], y.1)))
strings_step ts room i h =
    level_row ts room Strings i h ∙ made (cond (has strings (class (token_at ts i).word)) (Some (leaf ts Own i ∷ [], suc i)) None) (level ts room StringsTail) (λ j xs. cut_joined (span_between ts i j) xs ∷ [])
    ∙ bind_same (cond (has strings (class (token_at ts i).word)) (Some (leaf ts Own i ∷ [], suc i)) None) _ _ (λ x. ap (λ r. on r (λ y. Some (cut_joined (span_between ts i y.1) (x.0 ++ y.0) ∷ [], y.1))) (strings_tail_step ts room x.1 h))

pub strings_turn : (ts : List Token) (room n i : ℕ) → zero < n → rest ts room StringsTail n i ≡ row ts room (rest ts room StringsTail (n - 1)) (Some StringsTail) (round_of StringsTail) i
strings_turn ts room n i h = rest_turn ts room StringsTail n i h

-- one more at the end
pub push_more : (xs : List Part) (x : Part) (ys : List Part) → (xs ++ x ∷ []) ++ ys ≡ xs ++ (x ∷ ys)
push_more [] x ys = refl
push_more (z ∷ xs) x ys = ap (λ (ns : List Part). z ∷ ns) (push_more xs x ys)

-- one string more, behind some parts
pub strings_on : (ts : List Token) (room at : ℕ) (ps : List Part) (n i : ℕ) → zero < n → has joined (class (token_at ts i).word) ≡ true → on (rest ts room StringsTail n i) (λ y. Some (cut_joined (span_between ts at y.1) (ps ++ y.0) ∷ [], y.1)) ≡ on (rest ts room StringsTail (n - 1) (i + 1)) (λ y. Some (cut_joined (span_between ts at y.1) ((ps ++ leaf ts Own i ∷ []) ++ y.0) ∷ [], y.1))
strings_on ts room at ps n i h e = rw (rest_turn ts room StringsTail n i h, e, add-one i) (by (rest ts room StringsTail (n - 1) (suc i)))
  where
    by : (r : Got) → on (on r (λ y. Some (leaf ts Own i ∷ y.0, y.1))) (λ y. Some (cut_joined (span_between ts at y.1) (ps ++ y.0) ∷ [], y.1)) ≡ on r (λ y. Some (cut_joined (span_between ts at y.1) ((ps ++ leaf ts Own i ∷ []) ++ y.0) ∷ [], y.1))
    by None = refl
    by (Some y) = rw (push_more ps (leaf ts Own i) y.0) refl

-- no string more
pub strings_end : (ts : List Token) (room at : ℕ) (ps : List Part) (n i : ℕ) → zero < n → has joined (class (token_at ts i).word) ≡ false → on (rest ts room StringsTail n i) (λ y. Some (cut_joined (span_between ts at y.1) (ps ++ y.0) ∷ [], y.1)) ≡ Some (cut_joined (span_between ts at i) ps ∷ [], i)
strings_end ts room at ps n i h e = rw (rest_turn ts room StringsTail n i h, e, append-nil ps) refl

-- two strings
pub strings_begun : (ts : List Token) (room i : ℕ) → zero < room → has strings (class (token_at ts i).word) ≡ true → has joined (class (token_at ts (i + 1)).word) ≡ true → level ts room Strings i ≡ on (rest ts room StringsTail (length ts - 0) (i + 2)) (λ y. Some (cut_joined (span_between ts i y.1) ((leaf ts Own i ∷ leaf ts Own (i + 1) ∷ []) ++ y.0) ∷ [], y.1))
strings_begun ts room i h e d =
    let less : suc (length ts) - 1 ≡ length ts - 0 = omega arith in
    let two : i + 1 + 1 ≡ i + 2 = omega arith in
    strings_step ts room i h ∙ first (has strings (class (token_at ts i).word)) e ∙ ap (λ j. on (rest ts room StringsTail (suc (length ts)) j) (λ y. Some (cut_joined (span_between ts i y.1) ((leaf ts Own i ∷ []) ++ y.0) ∷ [], y.1))) (sym (add-one i))
    ∙ strings_on ts room i (leaf ts Own i ∷ []) (suc (length ts)) (i + 1) (omega arith) d ∙ rw (less, two) refl
  where
    first : (b : Bool) → b ≡ true → on (cond b (Some (leaf ts Own i ∷ [], suc i)) None) (λ x. on (rest ts room StringsTail (suc (length ts)) x.1) (λ y. Some (cut_joined (span_between ts i y.1) (x.0 ++ y.0) ∷ [], y.1))) ≡ on (rest ts room StringsTail (suc (length ts)) (suc i)) (λ y. Some (cut_joined (span_between ts i y.1) ((leaf ts Own i ∷ []) ++ y.0) ∷ [], y.1))
    first true e = refl
    first false e = cc

pub strings_first : (ts : List Token) (room i : ℕ) (ps : List Part) → zero < room → has strings (class (token_at ts i).word) ≡ true → has joined (class (token_at ts (i + 1)).word) ≡ true → ps ≡ leaf ts Own i ∷ leaf ts Own (i + 1) ∷ [] → level ts room Strings i ≡ on (rest ts room StringsTail (length ts - 0) (i + 2)) (λ y. Some (cut_joined (span_between ts i y.1) (ps ++ y.0) ∷ [], y.1))
strings_first ts room i ps h e d f = strings_begun ts room i h e d ∙ ap (λ qs. on (rest ts room StringsTail (length ts - 0) (i + 2)) (λ y. Some (cut_joined (span_between ts i y.1) (qs ++ y.0) ∷ [], y.1))) (sym f)

pub strings_more : (ts : List Token) (room at : ℕ) (ps qs : List Part) (n m i : ℕ) → zero < n → has joined (class (token_at ts i).word) ≡ true → qs ≡ ps ++ leaf ts Own i ∷ [] → n - 1 ≡ m → on (rest ts room StringsTail n i) (λ y. Some (cut_joined (span_between ts at y.1) (ps ++ y.0) ∷ [], y.1)) ≡ on (rest ts room StringsTail m (i + 1)) (λ y. Some (cut_joined (span_between ts at y.1) (qs ++ y.0) ∷ [], y.1))
strings_more ts room at ps qs n m i h e f g = strings_on ts room at ps n i h e ∙ ap (λ k. on (rest ts room StringsTail k (i + 1)) (λ y. Some (cut_joined (span_between ts at y.1) ((ps ++ leaf ts Own i ∷ []) ++ y.0) ∷ [], y.1))) g ∙ ap (λ rs. on (rest ts room StringsTail m (i + 1)) (λ y. Some (cut_joined (span_between ts at y.1) (rs ++ y.0) ∷ [], y.1))) (sym f)

pub joined_many : (span : Span) (ps : List Part) → 1 < length ps → cut_joined span ps ≡ cut (over kinds.StrJoin [] span ps)
joined_many span [] h = absurd (omega arith)
joined_many span (p ∷ []) h = absurd (omega arith)
joined_many span (p ∷ q ∷ ps) h = refl

-- ---- lists

-- one more at the end of a list
pub ruleset list_laws = (append-nil, push_more)

list_tail_step : (ts : List Token) (room : ℕ) (k : Listed) (i : ℕ) → zero < room → level ts room (list_tail k) i ≡ rest ts room (list_tail k) (suc (length ts)) i
unfolding rest
list_tail_step ts room listed.Args i h = level_row ts room ArgsTail i h
list_tail_step ts room listed.Params i h = level_row ts room ParamsTail i h
list_tail_step ts room listed.Members i h = level_row ts room MembersTail i h
list_tail_step ts room listed.Enumerators i h = level_row ts room EnumeratorsTail i h
list_tail_step ts room listed.Initializers i h = level_row ts room InisTail i h

listed_row : (ts : List Token) (room : ℕ) (k : Listed) (i : ℕ) → zero < room → level ts room (list_level k) i ≡ cond (has (map class (item_starts k)) (class (token_at ts i).word)) (on (level ts room (item_level k) i) (λ x. on (level ts room (list_tail k) x.1) (λ y. Some (x.0 ++ y.0, y.1)))) (Some ([], i))
listed_row ts room listed.Args i h = level_row ts room Args i h
listed_row ts room listed.Params i h = level_row ts room Params i h
listed_row ts room listed.Members i h = level_row ts room Members i h
listed_row ts room listed.Enumerators i h = level_row ts room Enumerators i h
listed_row ts room listed.Initializers i h = level_row ts room Inis i h

pub listed_step : (ts : List Token) (room : ℕ) (k : Listed) (i : ℕ) → zero < room → level ts room (list_level k) i ≡ cond (has (map class (item_starts k)) (class (token_at ts i).word)) (on (level ts room (item_level k) i) (λ x. on (rest ts room (list_tail k) (suc (length ts)) x.1) (λ y. Some (x.0 ++ y.0, y.1)))) (Some ([], i))
listed_step ts room k i h =
    listed_row ts room k i h ∙ cond_both (has (map class (item_starts k)) (class (token_at ts i).word)) _ _ (Some ([], i)) (Some ([], i))
    (bind_same (level ts room (item_level k) i) _ _ (λ x. ap (λ r. on r (λ y. Some (x.0 ++ y.0, y.1))) (list_tail_step ts room k x.1 h))) refl

-- what follows a comma
abbrev pub list_next : List Token → ℕ → Listed → ℕ → Bool → ℕ → Option (List Part × ℕ)
list_next ts room k n true j = cond (has (map class (item_starts k)) (class (token_at ts j).word)) (on (level ts room (item_level k) j) (λ x. on (rest ts room (list_tail k) n x.1) (λ y. Some (x.0 ++ y.0, y.1)))) (Some ([], j))
list_next ts room k n false j = on (level ts room (item_level k) j) (λ x. on (rest ts room (list_tail k) n x.1) (λ y. Some (x.0 ++ y.0, y.1)))

pub listed_turn : (ts : List Token) (room : ℕ) (k : Listed) (n i : ℕ) → zero < n → rest ts room (list_tail k) n i ≡ cond (has (class w.Comma ∷ []) (class (token_at ts i).word)) (list_next ts room k (n - 1) (trails k) (suc i)) (Some ([], i))
listed_turn ts room listed.Args n i h = rest_turn ts room ArgsTail n i h ∙ cond_both (has (class w.Comma ∷ []) (class (token_at ts i).word)) _ _ (Some ([], i)) (Some ([], i)) (tok_then (has (class w.Comma ∷ []) (class (token_at ts i).word)) (suc i) (list_next ts room listed.Args (n - 1) false)) refl ∙ once (has (class w.Comma ∷ []) (class (token_at ts i).word)) _ None (Some ([], i))
listed_turn ts room listed.Params n i h = rest_turn ts room ParamsTail n i h ∙ cond_both (has (class w.Comma ∷ []) (class (token_at ts i).word)) _ _ (Some ([], i)) (Some ([], i)) (tok_then (has (class w.Comma ∷ []) (class (token_at ts i).word)) (suc i) (list_next ts room listed.Params (n - 1) false)) refl ∙ once (has (class w.Comma ∷ []) (class (token_at ts i).word)) _ None (Some ([], i))
listed_turn ts room listed.Members n i h = rest_turn ts room MembersTail n i h ∙ cond_both (has (class w.Comma ∷ []) (class (token_at ts i).word)) _ _ (Some ([], i)) (Some ([], i)) (tok_then (has (class w.Comma ∷ []) (class (token_at ts i).word)) (suc i) (list_next ts room listed.Members (n - 1) false)) refl ∙ once (has (class w.Comma ∷ []) (class (token_at ts i).word)) _ None (Some ([], i))
listed_turn ts room listed.Enumerators n i h = rest_turn ts room EnumeratorsTail n i h ∙ cond_both (has (class w.Comma ∷ []) (class (token_at ts i).word)) _ _ (Some ([], i)) (Some ([], i)) (tok_then (has (class w.Comma ∷ []) (class (token_at ts i).word)) (suc i) (list_next ts room listed.Enumerators (n - 1) true)) refl ∙ once (has (class w.Comma ∷ []) (class (token_at ts i).word)) _ None (Some ([], i))
listed_turn ts room listed.Initializers n i h = rest_turn ts room InisTail n i h ∙ cond_both (has (class w.Comma ∷ []) (class (token_at ts i).word)) _ _ (Some ([], i)) (Some ([], i)) (tok_then (has (class w.Comma ∷ []) (class (token_at ts i).word)) (suc i) (list_next ts room listed.Initializers (n - 1) true)) refl ∙ once (has (class w.Comma ∷ []) (class (token_at ts i).word)) _ None (Some ([], i))

-- ---- types

pub tname_step : (ts : List Token) (room i : ℕ) → zero < room → level ts room Tname i ≡ row ts room (λ i. None) None (table Tname) i
tname_step ts room i h = level_row ts room Tname i h

gather_all : (s : List ℕ × List Part) (xs ys : List Part) → gathered s (xs ++ ys) ≡ gathered (gathered s xs) ys
unfolding grafting gathering
gather_all s [] ys = refl
gather_all s (x ∷ xs) ys = gather_all (cond (is_spelling x) (spelled_more s.0 (text_of x.node), s.1) (s.0, s.1 ++ x ∷ [])) xs ys

gather_seq : (s : List ℕ × List Part) (r : Option (List Part × ℕ)) (f : ℕ → Option (List Part × ℕ)) → gathering s (on r (λ x. on (f x.1) (λ y. Some (x.0 ++ y.0, y.1)))) ≡ ◌>>=◌ {B = (List ℕ × List Part) × ℕ} (gathering s r) (λ z. gathering z.0 (f z.1))
unfolding grafting gathering
gather_seq s None f = refl
gather_seq s (Some x) f = inner (f x.1)
  where
    inner : (q : Option (List Part × ℕ)) → gathering s (on q (λ y. Some (x.0 ++ y.0, y.1))) ≡ gathering (gathered s x.0) q
    inner None = refl
    inner (Some y) = rw (gather_all s x.0 y.0) refl

gather_cond : (s : List ℕ × List Part) (b : Bool) (r r' : Option (List Part × ℕ)) → gathering s (cond b r r') ≡ cond b (gathering s r) (gathering s r')
unfolding grafting gathering
gather_cond s true r r' = refl
gather_cond s false r r' = refl

-- the spelling of a token
spelling_leaf : (ts : List Token) (i : ℕ) → is_spelling (leaf ts Spelling i) ≡ true
unfolding is_spelling
spelling_leaf ts i = ap (λ k. eqb (kind_place k) (kind_place kinds.Keyword) && true) (made_kind kinds.Keyword (token_at ts i).text [] (token_at ts i).span)

leaf_text_is : (ts : List Token) (i : ℕ) → text_of (leaf ts Spelling i).node ≡ (token_at ts i).text
leaf_text_is ts i = made_text kinds.Keyword (token_at ts i).text [] (token_at ts i).span

pub gathered_spelling : (ts : List Token) (i : ℕ) (s : List ℕ × List Part) (xs : List Part) → gathered s (leaf ts Spelling i ∷ xs) ≡ gathered (spelled_more s.0 (token_at ts i).text, s.1) xs
unfolding grafting gathering
gathered_spelling ts i s xs = rw (spelling_leaf ts i, leaf_text_is ts i) refl

-- a spelling and then a level
gather_word : (ts : List Token) (i : ℕ) (s : List ℕ × List Part) (b : Bool) (f : ℕ → Option (List Part × ℕ)) → gathering s (on (cond b (Some (leaf ts Spelling i ∷ [], suc i)) None) (λ x. on (f x.1) (λ y. Some (x.0 ++ y.0, y.1)))) ≡ cond b (gathering (spelled_more s.0 (token_at ts i).text, s.1) (f (suc i))) None
unfolding grafting gathering
gather_word ts i s true f = gather_seq s (Some (leaf ts Spelling i ∷ [], suc i)) f ∙ ap (λ z. gathering z (f (suc i))) (gathered_spelling ts i s [])
gather_word ts i s false f = refl

gather_made : (s : List ℕ × List Part) (r : Option (List Part × ℕ)) (g : ℕ → List ℕ × List Part → List Part) → on r (λ x. Some (g x.1 (gathered s x.0), x.1)) ≡ on_spelt (gathering s r) (λ z. Some (g z.1 z.0, z.1))
unfolding grafting gathering
gather_made s None g = refl
gather_made s (Some x) g = refl

pub spec_step : (ts : List Token) (room i : ℕ) → zero < room → level ts room Spec i ≡ cond {A = Got} (has meta (class (token_at ts i).word)) (Some (leaf ts Own i ∷ [], suc i)) (on_spelt (gathering ([], []) (level ts room SpecStart i)) (λ z. Some (cut (type_over (span_between ts i z.1) z.0) ∷ [], z.1)))
unfolding grafting gathering
spec_step ts room i h = level_row ts room Spec i h ∙ cond_both (has meta (class (token_at ts i).word)) _ _ _ _ (pick (has meta (class (token_at ts i).word))) (gather_made ([], []) (level ts room SpecStart i) (λ j s. cut (type_over (span_between ts i j) s) ∷ [])) ∙ once (has meta (class (token_at ts i).word)) _ None _
  where
    pick : (b : Bool) → cond {A = Got} b (Some (leaf ts Own i ∷ [], suc i)) None ≡ cond {A = Got} b (Some (leaf ts Own i ∷ [], suc i)) None
    pick b = refl

pub spec_start_step : (ts : List Token) (room : ℕ) (s : List ℕ × List Part) (i : ℕ) → zero < room → gathering s (level ts room SpecStart i) ≡ cond (has qualifiers (class (token_at ts i).word)) (gathering (spelled_more s.0 (token_at ts i).text, s.1) (level ts room QualifiersTail (suc i))) (gathering s (level ts room Typed i))
unfolding grafting gathering
spec_start_step ts room s i h = ap (gathering s) (level_row ts room SpecStart i h) ∙ gather_cond s (has qualifiers (class (token_at ts i).word)) _ (level ts room Typed i) ∙ cond_both (has qualifiers (class (token_at ts i).word)) _ _ (gathering s (level ts room Typed i)) (gathering s (level ts room Typed i)) (gather_word ts i s (has qualifiers (class (token_at ts i).word)) (level ts room QualifiersTail)) refl ∙ once (has qualifiers (class (token_at ts i).word)) _ None _

pub qualifiers_tail_step : (ts : List Token) (room i : ℕ) → zero < room → level ts room QualifiersTail i ≡ rest ts room QualifiersTail (suc (length ts)) i
unfolding rest
qualifiers_tail_step ts room i h = level_row ts room QualifiersTail i h

pub qualifiers_turn : (ts : List Token) (room : ℕ) (s : List ℕ × List Part) (n i : ℕ) → zero < n → gathering s (rest ts room QualifiersTail n i) ≡ cond (has spec_goes_on (class (token_at ts i).word)) (cond (has qualifiers (class (token_at ts i).word)) (gathering (spelled_more s.0 (token_at ts i).text, s.1) (rest ts room QualifiersTail (n - 1) (suc i))) (gathering s (level ts room Typed i))) (Some (s, i))
unfolding grafting gathering
qualifiers_turn ts room s n i h = ap (gathering s) (rest_turn ts room QualifiersTail n i h) ∙ gather_cond s (has spec_goes_on (class (token_at ts i).word)) _ (Some ([], i)) ∙ cond_both (has spec_goes_on (class (token_at ts i).word)) _ _ (Some (s, i)) (Some (s, i)) (gather_cond s (has qualifiers (class (token_at ts i).word)) _ (level ts room Typed i) ∙ cond_both (has qualifiers (class (token_at ts i).word)) _ _ (gathering s (level ts room Typed i)) (gathering s (level ts room Typed i)) (gather_word ts i s (has qualifiers (class (token_at ts i).word)) (rest ts room QualifiersTail (n - 1))) refl ∙ once (has qualifiers (class (token_at ts i).word)) _ None _) refl

typed_first : (ts : List Token) (room i : ℕ) → zero < room → level ts room TypedFirst i ≡ word_or_group ts room bare_words i
typed_first ts room i h = level_row ts room TypedFirst i h ∙ once (has bare_words (class (token_at ts i).word)) _ None _

typed_tail_step : (ts : List Token) (room i : ℕ) → zero < room → level ts room TypedTail i ≡ rest ts room TypedTail (suc (length ts)) i
unfolding rest
typed_tail_step ts room i h = level_row ts room TypedTail i h

pub typed_step : (ts : List Token) (room : ℕ) (s : List ℕ × List Part) (i : ℕ) → zero < room → gathering s (level ts room Typed i) ≡ ◌>>=◌ {B = (List ℕ × List Part) × ℕ} (gathering s (word_or_group ts room bare_words i)) (λ z. gathering z.0 (rest ts room TypedTail (suc (length ts)) z.1))
unfolding grafting gathering
typed_step ts room s i h =
    ap (gathering s) (level_row ts room Typed i h) ∙ gather_seq s (level ts room TypedFirst i) (level ts room TypedTail) ∙ ap (λ r. ◌>>=◌ {B = (List ℕ × List Part) × ℕ} (gathering s r) (λ z. gathering z.0 (level ts room TypedTail z.1))) (typed_first ts room i h)
    ∙ bind_same (gathering s (word_or_group ts room bare_words i)) _ _ (λ z. ap (gathering z.0) (typed_tail_step ts room z.1 h))

abbrev pub typed_goes_on : List ℕ
typed_goes_on = class w.TypeWord ∷ class w.Qualifier ∷ class w.Tag ∷ []

pub typed_turn : (ts : List Token) (room : ℕ) (s : List ℕ × List Part) (n i : ℕ) → zero < n → gathering s (rest ts room TypedTail n i) ≡ cond (has typed_goes_on (class (token_at ts i).word)) (◌>>=◌ {B = (List ℕ × List Part) × ℕ} (gathering s (word_or_group ts room later_words i)) (λ z. gathering z.0 (rest ts room TypedTail (n - 1) z.1))) (Some (s, i))
unfolding grafting gathering
typed_turn ts room s n i h = ap (gathering s) (rest_turn ts room TypedTail n i h) ∙ gather_cond s (has typed_goes_on (class (token_at ts i).word)) _ (Some ([], i)) ∙ cond_both (has typed_goes_on (class (token_at ts i).word)) _ _ (Some (s, i)) (Some (s, i)) (gather_seq s (row ts room (λ i. None) None (word Spelling later_words ∣ ref Group) i) (rest ts room TypedTail (n - 1)) ∙ ap (λ r. ◌>>=◌ {B = (List ℕ × List Part) × ℕ} (gathering s r) (λ z. gathering z.0 (rest ts room TypedTail (n - 1) z.1))) (once (has later_words (class (token_at ts i).word)) _ None _)) refl

pub group_step : (ts : List Token) (room : ℕ) (s : List ℕ × List Part) (i : ℕ) → zero < room → gathering s (level ts room Group i) ≡ cond (has tags (class (token_at ts i).word)) (cond (has names (class (token_at ts (suc i)).word)) (cond (has name (class (token_at ts (suc i)).word)) (gathering (spelled_more (spelled_more s.0 (token_at ts i).text) (token_at ts (suc i)).text, s.1) (optional ts room Body (suc (suc i)))) None) (gathering (spelled_more s.0 (token_at ts i).text, s.1) (optional ts room Body (suc i)))) None
unfolding grafting gathering
group_step ts room s i h = ap (gathering s) (level_row ts room Group i h) ∙ gather_word ts i s (has tags (class (token_at ts i).word)) named ∙ cond_both (has tags (class (token_at ts i).word)) _ _ None None (after (spelled_more s.0 (token_at ts i).text, s.1) (has names (class (token_at ts (suc i)).word)) (has name (class (token_at ts (suc i)).word))) refl
  where
    named : ℕ → Option (List Part × ℕ)
    named = row ts room (λ i. None) None (must names (word Spelling name) · opt (ref Body))

    after : (u : List ℕ × List Part) (b d : Bool) → gathering u (on (cond b (cond d (Some (leaf ts Spelling (suc i) ∷ [], suc (suc i))) None) (Some ([], suc i))) (λ x. on (optional ts room Body x.1) (λ y. Some (x.0 ++ y.0, y.1)))) ≡ cond b (cond d (gathering (spelled_more u.0 (token_at ts (suc i)).text, u.1) (optional ts room Body (suc (suc i)))) None) (gathering u (optional ts room Body (suc i)))
    after u true d = gather_word ts (suc i) u d (optional ts room Body)
    after u false d = gather_seq u (Some ([], suc i)) (optional ts room Body)

-- ---- bodies

pub body_step : (ts : List Token) (room i : ℕ) → zero < room → level ts room Body i ≡ row ts room (λ i. None) None (table Body) i
body_step ts room i h = level_row ts room Body i h

pub fields_step : (ts : List Token) (room i : ℕ) → zero < room → level ts room Fields i ≡ rest ts room Fields (suc (length ts)) i
unfolding rest
fields_step ts room i h = level_row ts room Fields i h

pub fields_turn : (ts : List Token) (room n i : ℕ) → zero < n → rest ts room Fields n i ≡ row ts room (rest ts room Fields (n - 1)) (Some Fields) (round_of Fields) i
fields_turn ts room n i h = rest_turn ts room Fields n i h

pub field_step : (ts : List Token) (room i : ℕ) → zero < room → level ts room Field i ≡ row ts room (λ i. None) None (table Field) i
field_step ts room i h = level_row ts room Field i h

equals_row : (ts : List Token) (room : ℕ) (l : Level) (i : ℕ) → cond (has (class w.Equals ∷ []) (class (token_at ts i).word)) (on (cond (has (class w.Equals ∷ []) (class (token_at ts i).word)) (Some ([], suc i)) None) (λ x. on (level ts room l x.1) (λ y. Some (x.0 ++ y.0, y.1)))) (Some ([], i)) ≡ behind_equals ts room l i
equals_row ts room l i = cond_both b _ _ (Some ([], i)) (Some ([], i)) (tok_then b (suc i) (level ts room l)) refl ∙ once b (level ts room l (suc i)) None (Some ([], i))
  where
    b : Bool
    b = has (class w.Equals ∷ []) (class (token_at ts i).word)

pub member_step : (ts : List Token) (room i : ℕ) → zero < room → level ts room Member i ≡ on (level ts room Width i) (λ x. on (behind_equals ts room Init x.1) (λ y. Some (cut (over kinds.Var [] (span_between ts i y.1) (padded (start_of ts i) 2 (x.0 ++ y.0))) ∷ [], y.1)))
member_step ts room i h = level_row ts room Member i h ∙ made (level ts room Width i) (row ts room (λ i. None) None (opt (tok w.Equals · ref Init))) (λ j xs. cut (over kinds.Var [] (span_between ts i j) (padded (start_of ts i) 2 xs)) ∷ []) ∙ bind_same (level ts room Width i) _ _ (λ x. ap (λ r. on r (λ y. Some (cut (over kinds.Var [] (span_between ts i y.1) (padded (start_of ts i) 2 (x.0 ++ y.0))) ∷ [], y.1))) (equals_row ts room Init x.1))

pub var_step : (ts : List Token) (room i : ℕ) → zero < room → level ts room Var i ≡ on (level ts room Declr i) (λ x. on (behind_equals ts room Init x.1) (λ y. Some (cut (over kinds.Var [] (span_between ts i y.1) (padded (start_of ts i) 2 (x.0 ++ y.0))) ∷ [], y.1)))
var_step ts room i h = level_row ts room Var i h ∙ made (level ts room Declr i) (row ts room (λ i. None) None (opt (tok w.Equals · ref Init))) (λ j xs. cut (over kinds.Var [] (span_between ts i j) (padded (start_of ts i) 2 xs)) ∷ []) ∙ bind_same (level ts room Declr i) _ _ (λ x. ap (λ r. on r (λ y. Some (cut (over kinds.Var [] (span_between ts i y.1) (padded (start_of ts i) 2 (x.0 ++ y.0))) ∷ [], y.1))) (equals_row ts room Init x.1))

pub enumerator_step : (ts : List Token) (room i : ℕ) → zero < room → level ts room Enumerator i ≡ on (cond (has names (class (token_at ts i).word)) (Some (leaf ts AsId i ∷ [], suc i)) None) (λ x. on (behind_equals ts room Cond x.1) (λ y. Some (cut (over kinds.EnumItem [] (span_between ts i y.1) (padded (start_of ts i) 2 (x.0 ++ y.0))) ∷ [], y.1)))
enumerator_step ts room i h = level_row ts room Enumerator i h ∙ made (cond (has names (class (token_at ts i).word)) (Some (leaf ts AsId i ∷ [], suc i)) None) (row ts room (λ i. None) None (opt (tok w.Equals · ref Cond))) (λ j xs. cut (over kinds.EnumItem [] (span_between ts i j) (padded (start_of ts i) 2 xs)) ∷ []) ∙ bind_same (cond (has names (class (token_at ts i).word)) (Some (leaf ts AsId i ∷ [], suc i)) None) _ _ (λ x. ap (λ r. on r (λ y. Some (cut (over kinds.EnumItem [] (span_between ts i y.1) (padded (start_of ts i) 2 (x.0 ++ y.0))) ∷ [], y.1))) (equals_row ts room Cond x.1))

pub width_step : (ts : List Token) (room i : ℕ) → zero < room → level ts room Width i ≡ row ts room (λ i. None) None (table Width) i
width_step ts room i h = level_row ts room Width i h

-- ---- declarators

loop_words : (ts : List Token) (room i : ℕ) → zero < room → level ts room Words i ≡ rest ts room Words (suc (length ts)) i
unfolding rest
loop_words ts room i h = level_row ts room Words i h

pub words_step : (ts : List Token) (room i : ℕ) → zero < room → level ts room Words i ≡ rest ts room Words (suc (length ts)) i
words_step ts room i h = loop_words ts room i h

pub words_turn : (ts : List Token) (room : ℕ) (s : List ℕ × List Part) (n i : ℕ) → zero < n → gathering s (rest ts room Words n i) ≡ cond (has spec_words (class (token_at ts i).word)) (gathering (spelled_more s.0 (token_at ts i).text, s.1) (rest ts room Words (n - 1) (suc i))) (Some (s, i))
unfolding grafting gathering
words_turn ts room s n i h = ap (gathering s) (rest_turn ts room Words n i h) ∙ gather_cond s (has spec_words (class (token_at ts i).word)) _ (Some ([], i)) ∙ cond_both (has spec_words (class (token_at ts i).word)) _ _ (Some (s, i)) (Some (s, i)) (gather_word ts i s (has spec_words (class (token_at ts i).word)) (rest ts room Words (n - 1))) refl ∙ once (has spec_words (class (token_at ts i).word)) _ None _

-- the words behind a star and what they point to, made into a pointer
pointer_row : (ts : List Token) (room i : ℕ) (r : Option (List Part × ℕ)) (f : ℕ → Option (List Part × ℕ)) → on (on (on r (λ z. Some (spellings (span_between ts i z.1) (gathered ([], []) z.0) ∷ [], z.1))) (λ x. on (f x.1) (λ y. Some (x.0 ++ y.0, y.1)))) (λ z. Some (cut (pointer (span_between ts i z.1) z.0) ∷ [], z.1)) ≡ on_spelt (gathering ([], []) r) (λ s. on (f s.1) (λ y. Some (cut (pointing (span_between ts i y.1) s.0.0 (tallest s.0.1) y.0) ∷ [], y.1)))
unfolding grafting gathering
pointer_row ts room i None f = refl
pointer_row ts room i (Some w) f = inner (f w.1)
  where
    inner : (q : Option (List Part × ℕ)) → on (on q (λ y. Some (spellings (span_between ts i w.1) (gathered ([], []) w.0) ∷ y.0, y.1))) (λ z. Some (cut (pointer (span_between ts i z.1) z.0) ∷ [], z.1)) ≡ on q (λ y. Some (cut (pointing (span_between ts i y.1) (gathered ([], []) w.0).0 (tallest (gathered ([], []) w.0).1) y.0) ∷ [], y.1))
    inner None = refl
    inner (Some y) = rw (made_text kinds.Keyword (gathered ([], []) w.0).0 [] (span_between ts i w.1)) refl

stars_row : (ts : List Token) (room i : ℕ) → zero < room → level ts room Stars i ≡ cond (has (class w.Star ∷ []) (class (token_at ts i).word)) (on (level ts room Words (suc i)) (λ z. Some (spellings (span_between ts i z.1) (gathered ([], []) z.0) ∷ [], z.1))) None
unfolding grafting gathering
stars_row ts room i h = level_row ts room Stars i h ∙ op_row (has (class w.Star ∷ []) (class (token_at ts i).word)) (suc i) (level ts room Words) (λ j xs. spellings (span_between ts i j) (gathered ([], []) xs) ∷ [])

-- a pointer, where a star stands
abbrev pub pointer_read : List Token → ℕ → Naming → ℕ → Option (List Part × ℕ)
pointer_read ts room k i = on_spelt (gathering ([], []) (level ts room Words (suc i))) (λ s. on (pointed_read ts (room - 1) k s.1) (λ y. Some (cut (pointing (span_between ts i y.1) s.0.0 (tallest s.0.1) y.0) ∷ [], y.1)))

starred : (ts : List Token) (room i : ℕ) (b : Bool) (r q : Option (List Part × ℕ)) (f : ℕ → Option (List Part × ℕ)) → cond b (on (on (cond b (on r (λ z. Some (spellings (span_between ts i z.1) (gathered ([], []) z.0) ∷ [], z.1))) None) (λ x. on (f x.1) (λ y. Some (x.0 ++ y.0, y.1)))) (λ z. Some (cut (pointer (span_between ts i z.1) z.0) ∷ [], z.1))) q ≡ cond b (on_spelt (gathering ([], []) r) (λ s. on (f s.1) (λ y. Some (cut (pointing (span_between ts i y.1) s.0.0 (tallest s.0.1) y.0) ∷ [], y.1)))) q
unfolding grafting gathering
starred ts room i true r q f = pointer_row ts room i r f
starred ts room i false r q f = refl

pub declr_step : (ts : List Token) (room : ℕ) (k : Naming) (i : ℕ) → zero < room → level ts room (declr_level k) i ≡ cond (has (class w.Star ∷ []) (class (token_at ts i).word)) (pointer_read ts room k i) (level ts room (direct_level k) i)
declr_step ts room naming.Named i h = level_row ts room Declr i h ∙ ap (λ o. cond (has (class w.Star ∷ []) (class (token_at ts i).word)) (on (on o (λ x. on (pointed_read ts (room - 1) naming.Named x.1) (λ y. Some (x.0 ++ y.0, y.1)))) (λ z. Some (cut (pointer (span_between ts i z.1) z.0) ∷ [], z.1))) (level ts room NamedDirect i)) (stars_row ts room i h) ∙ starred ts room i (has (class w.Star ∷ []) (class (token_at ts i).word)) (level ts room Words (suc i)) (level ts room NamedDirect i) (pointed_read ts (room - 1) naming.Named)
declr_step ts room naming.Nameless i h = level_row ts room Nameless i h ∙ ap (λ o. cond (has (class w.Star ∷ []) (class (token_at ts i).word)) (on (on o (λ x. on (pointed_read ts (room - 1) naming.Nameless x.1) (λ y. Some (x.0 ++ y.0, y.1)))) (λ z. Some (cut (pointer (span_between ts i z.1) z.0) ∷ [], z.1))) (level ts room NamelessDirect i)) (stars_row ts room i h) ∙ starred ts room i (has (class w.Star ∷ []) (class (token_at ts i).word)) (level ts room Words (suc i)) (level ts room NamelessDirect i) (pointed_read ts (room - 1) naming.Nameless)
declr_step ts room naming.Maybe i h = level_row ts room Maybe i h ∙ ap (λ o. cond (has (class w.Star ∷ []) (class (token_at ts i).word)) (on (on o (λ x. on (pointed_read ts (room - 1) naming.Maybe x.1) (λ y. Some (x.0 ++ y.0, y.1)))) (λ z. Some (cut (pointer (span_between ts i z.1) z.0) ∷ [], z.1))) (level ts room MaybeDirect i)) (stars_row ts room i h) ∙ starred ts room i (has (class w.Star ∷ []) (class (token_at ts i).word)) (level ts room Words (suc i)) (level ts room MaybeDirect i) (pointed_read ts (room - 1) naming.Maybe)

-- a declarator in parentheses, behind the first
abbrev pub nested_read : List Token → ℕ → Naming → ℕ → Option (List Part × ℕ)
nested_read ts room k i = on (level ts (room - 1) (declr_level k) (suc i)) (λ x. cond (has (class w.CloseRound ∷ []) (class (token_at ts x.1).word)) (Some (x.0, suc x.1)) None)

-- brackets on a name that is left out
abbrev pub rootless_read : List Token → ℕ → Naming → ℕ → Option (List Part × ℕ)
rootless_read ts room naming.Named i = None
rootless_read ts room naming.Nameless i = on (grafting (start_of ts i) (absent (start_of ts i)) (level ts room DeclrPart i)) (λ z. regraft (start_of ts i) z.0 (level ts room DeclrTail z.1))
rootless_read ts room naming.Maybe i = on (grafting (start_of ts i) (absent (start_of ts i)) (level ts room DeclrPart i)) (λ z. regraft (start_of ts i) z.0 (level ts room DeclrTail z.1))

-- a declarator in parentheses or a name, with the brackets behind it
abbrev pub behind_read : List Token → ℕ → ℕ → Option (List Part × ℕ) → Option (List Part × ℕ)
behind_read ts room i r = on r (λ x. chained_on (start_of ts i) (level ts room DeclrTail) x.0 x.1)

behind_cond : (ts : List Token) (room i : ℕ) (b : Bool) (r q : Option (List Part × ℕ)) → behind_read ts room i (cond b r q) ≡ cond b (behind_read ts room i r) (behind_read ts room i q)
behind_cond ts room i true r q = refl
behind_cond ts room i false r q = refl

behind_made : (ts : List Token) (room i : ℕ) (r : Option (List Part × ℕ)) → on (on r (λ x. on (level ts room DeclrTail x.1) (λ y. Some (x.0 ++ y.0, y.1)))) (λ z. Some (cut_chained (start_of ts i) z.0 ∷ [], z.1)) ≡ behind_read ts room i r
behind_made ts room i r = made r (level ts room DeclrTail) (λ j xs. cut_chained (start_of ts i) xs ∷ []) ∙ bind_same r _ _ (λ x. chained (start_of ts i) (level ts room DeclrTail) x.0 x.1)

first_named : (ts : List Token) (room i : ℕ) → zero < room → level ts room DeclrFirst i ≡ cond (has (class w.OpenRound ∷ []) (class (token_at ts i).word)) (nested_read ts room naming.Named i) (cond (has names (class (token_at ts i).word)) (Some (leaf ts AsId i ∷ [], suc i)) None)
first_named ts room i h = level_row ts room DeclrFirst i h ∙ once (has (class w.OpenRound ∷ []) (class (token_at ts i).word)) (nested_read ts room naming.Named i) None _

named_direct : (ts : List Token) (room i : ℕ) → zero < room → level ts room NamedDirect i ≡ cond (has (class w.OpenRound ∷ []) (class (token_at ts i).word)) (behind_read ts room i (nested_read ts room naming.Named i)) (cond (has names (class (token_at ts i).word)) (behind_read ts room i (Some (leaf ts AsId i ∷ [], suc i))) None)
named_direct ts room i h =
    level_row ts room NamedDirect i h ∙ behind_made ts room i (level ts room DeclrFirst i) ∙ ap (behind_read ts room i) (first_named ts room i h) ∙ behind_cond ts room i (has (class w.OpenRound ∷ []) (class (token_at ts i).word)) _ _ ∙ cond_both (has (class w.OpenRound ∷ []) (class (token_at ts i).word)) _ _ _ _ refl (behind_cond ts room i (has names (class (token_at ts i).word)) (Some (leaf ts AsId i ∷ [], suc i)) None)

-- where a parenthesis opens a nested declarator, it stands there
opened : (a b : Bool) (x y z : Option (List Part × ℕ)) → cond (a && b) (cond a x y) z ≡ cond (a && b) x z
opened true true x y z = refl
opened true false x y z = refl
opened false b x y z = refl

nested_behind : (ts : List Token) (room : ℕ) (k : Naming) (i : ℕ) (a b : Bool) (z : Option (List Part × ℕ)) → cond (a && b) (on (on (cond a (nested_read ts room k i) None) (λ x. on (level ts room DeclrTail x.1) (λ y. Some (x.0 ++ y.0, y.1)))) (λ z. Some (cut_chained (start_of ts i) z.0 ∷ [], z.1))) z ≡ cond (a && b) (behind_read ts room i (nested_read ts room k i)) z
nested_behind ts room k i true true z = behind_made ts room i (nested_read ts room k i)
nested_behind ts room k i true false z = refl
nested_behind ts room k i false b z = refl

rootless : (ts : List Token) (room i : ℕ) → on (on (level ts room DeclrPart i) (λ x. on (level ts room DeclrTail x.1) (λ y. Some (x.0 ++ y.0, y.1)))) (λ z. Some (graft_cut (start_of ts i) (absent (start_of ts i)) z.0 ∷ [], z.1)) ≡ rootless_read ts room naming.Maybe i
unfolding grafting gathering
rootless ts room i = graft_seq (start_of ts i) (absent (start_of ts i)) (level ts room DeclrPart i) (level ts room DeclrTail)

nameless_direct : (ts : List Token) (room i : ℕ) → zero < room → level ts room NamelessDirect i ≡ cond (opens_declarator (cut_source ts).cls i) (behind_read ts room i (nested_read ts room naming.Nameless i)) (rootless_read ts room naming.Nameless i)
nameless_direct ts room i h = level_row ts room NamelessDirect i h ∙ nested_behind ts room naming.Nameless i (has (class w.OpenRound ∷ []) (class (token_at ts i).word)) (has (class w.Star ∷ class w.OpenRound ∷ []) (class (token_at ts (suc i)).word)) _ ∙ cond_both ((has (class w.OpenRound ∷ []) (class (token_at ts i).word)) && (has (class w.Star ∷ class w.OpenRound ∷ []) (class (token_at ts (suc i)).word))) _ _ _ _ refl (rootless ts room i)

maybe_direct : (ts : List Token) (room i : ℕ) → zero < room → level ts room MaybeDirect i ≡ cond (opens_declarator (cut_source ts).cls i) (behind_read ts room i (nested_read ts room naming.Maybe i)) (cond (has names (class (token_at ts i).word)) (behind_read ts room i (Some (leaf ts AsId i ∷ [], suc i))) (rootless_read ts room naming.Maybe i))
maybe_direct ts room i h =
    level_row ts room MaybeDirect i h ∙ nested_behind ts room naming.Maybe i (has (class w.OpenRound ∷ []) (class (token_at ts i).word)) (has (class w.Star ∷ class w.OpenRound ∷ []) (class (token_at ts (suc i)).word)) _ ∙ cond_both ((has (class w.OpenRound ∷ []) (class (token_at ts i).word)) && (has (class w.Star ∷ class w.OpenRound ∷ []) (class (token_at ts (suc i)).word))) _ _ _ _ refl
    (cond_both (has names (class (token_at ts i).word)) _ _ _ _ (behind_made ts room i (cond (has names (class (token_at ts i).word)) (Some (leaf ts AsId i ∷ [], suc i)) None) ∙ behind_cond ts room i (has names (class (token_at ts i).word)) (Some (leaf ts AsId i ∷ [], suc i)) None) (rootless ts room i) ∙ once (has names (class (token_at ts i).word)) _ None _)

pub direct_step : (ts : List Token) (room : ℕ) (k : Naming) (i : ℕ) → zero < room → level ts room (direct_level k) i ≡ cond (opens_nested k (cut_source ts).cls i) (behind_read ts room i (nested_read ts room k i)) (cond (takes_name k (cut_source ts).cls i) (behind_read ts room i (Some (leaf ts AsId i ∷ [], suc i))) (rootless_read ts room k i))
direct_step ts room naming.Named i h = named_direct ts room i h
direct_step ts room naming.Nameless i h = nameless_direct ts room i h
direct_step ts room naming.Maybe i h = maybe_direct ts room i h

pub declr_tail_step : (ts : List Token) (room i : ℕ) → zero < room → level ts room DeclrTail i ≡ rest ts room DeclrTail (suc (length ts)) i
unfolding rest
declr_tail_step ts room i h = level_row ts room DeclrTail i h

pub declr_turn : (ts : List Token) (room from : ℕ) (p : Part) (n i : ℕ) → zero < n → grafting from p (rest ts room DeclrTail n i) ≡ cond (has (sets.first DeclrPart) (class (token_at ts i).word)) (on (grafting from p (level ts room DeclrPart i)) (λ z. regraft from z.0 (rest ts room DeclrTail (n - 1) z.1))) (Some (p ∷ [], i))
unfolding grafting gathering
declr_turn ts room from p n i h = ap (grafting from p) (rest_turn ts room DeclrTail n i h) ∙ graft_turn from p i (has (sets.first DeclrPart) (class (token_at ts i).word)) (level ts room DeclrPart i) (rest ts room DeclrTail (n - 1))

pub declr_part_step : (ts : List Token) (room i : ℕ) → zero < room → level ts room DeclrPart i ≡ row ts room (λ i. None) None (table DeclrPart) i
declr_part_step ts room i h = level_row ts room DeclrPart i h

pub param_step : (ts : List Token) (room i : ℕ) → zero < room → level ts room Param i ≡ row ts room (λ i. None) None (table Param) i
param_step ts room i h = level_row ts room Param i h

-- ---- values

pub init_step : (ts : List Token) (room i : ℕ) → zero < room → level ts room Init i ≡ row ts room (λ i. None) None (table Init) i
init_step ts room i h = level_row ts room Init i h

pub ini_step : (ts : List Token) (room i : ℕ) → zero < room → level ts room Ini i ≡ row ts room (λ i. None) None (table Ini) i
ini_step ts room i h = level_row ts room Ini i h

desigs_tail_step : (ts : List Token) (room i : ℕ) → zero < room → level ts room DesigsTail i ≡ rest ts room DesigsTail (suc (length ts)) i
unfolding rest
desigs_tail_step ts room i h = level_row ts room DesigsTail i h

pub desigs_step : (ts : List Token) (room i : ℕ) → zero < room → level ts room Desigs i ≡ on (level ts room Desig i) (λ x. on (rest ts room DesigsTail (suc (length ts)) x.1) (λ y. Some (x.0 ++ y.0, y.1)))
desigs_step ts room i h = level_row ts room Desigs i h ∙ bind_same (level ts room Desig i) _ _ (λ x. ap (λ r. on r (λ y. Some (x.0 ++ y.0, y.1))) (desigs_tail_step ts room x.1 h))

pub desigs_turn : (ts : List Token) (room n i : ℕ) → zero < n → rest ts room DesigsTail n i ≡ row ts room (rest ts room DesigsTail (n - 1)) (Some DesigsTail) (round_of DesigsTail) i
desigs_turn ts room n i h = rest_turn ts room DesigsTail n i h

pub desig_step : (ts : List Token) (room i : ℕ) → zero < room → level ts room Desig i ≡ row ts room (λ i. None) None (table Desig) i
desig_step ts room i h = level_row ts room Desig i h
