-- The reader of a level, one step.
use Rattle.std.proofs.Common.{◌≡◌, ℕ, zero, suc, ◌-◌, ◌<◌, List, [], ◌∷◌, ◌++◌, length, refl, ap, ◌∙◌, ◌+◌, add-one, eqb, true, Option, Some, None, cond}
use Rattle.std.proofs.lemmas.List.{append-nil}
use Rattle.node_tree.specs.declared.node.Node.{Node}
use Rattle.grammar.specs.Rule.{has}
use Rattle.grammar.specs.Reader.{read, choice, turns, ◌>>=◌}
use Rattle.grammar.proofs.Rounds.{turn, turned}
use Rattle.grammar.proofs.Stable.{room_step}
use Rattle.json_tree.specs.declared.token.Token.{Token}
use Rattle.json_tree.specs.declared.reader.Container.{Container}
use Rattle.json_tree.specs.declared.reader.Container.TheVariants as containers
use Rattle.json_tree.specs.Words.{class}
use Rattle.json_tree.specs.Table.{Level, Value, Entry, Member, Deep, Row, table, grammar, further, bracketed}
use Rattle.json_tree.specs.Build.{token_at, end_of, node, source}
use Rattle.json_tree.specs.reader.Sets.{sets, ranks}
use Rattle.json_tree.specs.reader.Reading.{level, kind_in, left_of, right_of, whole, inside, part, tail}
use Rattle.json_tree.proofs.Passes.{pass}

pub level_none : (ts : List Token) (room : ℕ) (l : Level) (i : ℕ) → room ≡ zero → level ts room l i ≡ None
unfolding level
level_none ts room l i h = rw h refl

-- what a row reads, over the levels at hand and those one step deeper, where `again` reads what A does
abbrev pub row : List Token → ℕ → (ℕ → Option (List Node × ℕ)) → Option Level → Row → ℕ → Option (List Node × ℕ)
row ts room A q r = read (source ts) sets (suc (length ts)) (choice (level ts room) (level ts (room - 1))) A q r

level_row : (ts : List Token) (room : ℕ) (l : Level) (i : ℕ) → zero < room → level ts room l i ≡ row ts room (λ i. None) None (table l) i
unfolding level
level_row ts room l i h = room_step (source ts) sets (suc (length ts)) grammar ranks pass room l i h

pub value_step : (ts : List Token) (room i : ℕ) → zero < room → level ts room Value i ≡ row ts room (λ i. None) None (table Value) i
value_step ts room i h = level_row ts room Value i h

pub entry_step : (ts : List Token) (room i : ℕ) → zero < room → level ts room Entry i ≡ row ts room (λ i. None) None (table Entry) i
entry_step ts room i h = level_row ts room Entry i h

pub member_step : (ts : List Token) (room i : ℕ) → zero < room → level ts room Member i ≡ row ts room (λ i. None) None (table Member) i
member_step ts room i h = level_row ts room Member i h

pub deep_step : (ts : List Token) (room i : ℕ) → zero < room → level ts room Deep i ≡ row ts room (λ i. None) None (table Deep) i
deep_step ts room i h = level_row ts room Deep i h

pub whole_step : (ts : List Token) (room : ℕ) (c : Container) (i : ℕ) → zero < room → level ts room (whole c) i ≡ row ts room (λ i. None) None (bracketed (kind_in c) (left_of c) (right_of c) (inside c)) i
whole_step ts room containers.Array i h = level_row ts room (whole containers.Array) i h
whole_step ts room containers.Object i h = level_row ts room (whole containers.Object) i h

-- what the loop between brackets still reads, in n rounds
unfoldable pub rest : List Token → ℕ → Container → ℕ → ℕ → Option (List Node × ℕ)
rest ts room c n = turns (λ i. None) (λ X. row ts room X (Some (tail c)) (further (part c))) n

pub rest_turn : (ts : List Token) (room : ℕ) (c : Container) (n i : ℕ) → zero < n → rest ts room c n i ≡ row ts room (rest ts room c (n - 1)) (Some (tail c)) (further (part c)) i
unfolding rest
rest_turn ts room c n i h = ap (λ f. f i) (turn (λ i. None) (λ X. row ts room X (Some (tail c)) (further (part c))) n h)

pub rest_turned : (ts : List Token) (room : ℕ) (c : Container) (n i : ℕ) → n ≡ zero → rest ts room c n i ≡ None
unfolding rest
rest_turned ts room c n i h = ap (λ f. f i) (turned (λ i. None) (λ X. row ts room X (Some (tail c)) (further (part c))) n h)

pub inside_step : (ts : List Token) (room : ℕ) (c : Container) (i : ℕ) → zero < room → level ts room (inside c) i ≡ cond (has (sets.first (part c)) (class (token_at ts i).word)) (◌>>=◌ {B = List Node × ℕ} (level ts room (part c) i) (λ x. ◌>>=◌ {B = List Node × ℕ} (rest ts room c (suc (length ts)) x.1) (λ y. Some (x.0 ++ y.0, y.1)))) (Some ([], i))
unfolding rest
inside_step ts room containers.Array i h = level_row ts room (inside containers.Array) i h
inside_step ts room containers.Object i h = level_row ts room (inside containers.Object) i h

-- a container is read, where its brackets and what is inside are
pub whole_read : (ts : List Token) (room : ℕ) (c : Container) (i : ℕ) (ks : List Node) (j : ℕ) → zero < room → eqb (class (left_of c)) (class (token_at ts i).word) ≡ true → level ts (room - 1) (inside c) (i + 1) ≡ Some (ks, j) → eqb (class (right_of c)) (class (token_at ts j).word) ≡ true
    → level ts room (whole c) i ≡ Some (node (kind_in c) (token_at ts i).span.from (end_of ts (j + 1)) ks ∷ [], j + 1)
whole_read ts room c i ks j pos left h right = whole_step ts room c i pos ∙ rw left (rw (rw add-one at h) (rw right (rw add-one refl)))

-- one more at the end
pub push_more : (xs : List Node) (x : Node) (ys : List Node) → (xs ++ x ∷ []) ++ ys ≡ xs ++ (x ∷ ys)
push_more [] x ys = refl
push_more (z ∷ xs) x ys = ap (λ (ns : List Node). z ∷ ns) (push_more xs x ys)

pub ruleset list_laws = (append-nil, push_more)
