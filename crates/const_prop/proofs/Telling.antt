-- What a view tells of a name at a point is what the name holds there.
use Rattle.std.proofs.Common.{◌≡◌, ◌≢◌, ◌↔◌, ℕ, zero, suc, ◌+◌, ◌*◌, ◌-◌, ◌<◌, Bool, true, false, List, [], ◌∷◌, ◌++◌, length, map, refl, sym, ap, ◌∙◌, arith, Some}
use Rattle.std.specs.Prelude.{Option, None, ◌||◌, ◌==◌, if◌then◌else◌, slice_get, slice_index, IfSome}
use Rattle.std.specs.List.{flat_map}
use Rattle.std.specs.Option.{option_to_list}
use Rattle.std.proofs.lemmas.Bool.{eqb-true, eqb-false}
use Rattle.std.proofs.lemmas.List.{length-map}
use Rattle.std.proofs.lemmas.Option.{slice_get_within}
use Rattle.node_tree.specs.declared.node.Node.{Node}
use Rattle.node_tree.specs.Numbers.{Numbered}
use Rattle.node_tree.specs.Tree.{kind_of, text_of}
use Rattle.graph_form.specs.declared.graph.Point.{Point}
use Rattle.graph_form.specs.Sets.{Among}
use Rattle.held_values.specs.declared.assign.Effects.{Effects}
use Rattle.held_values.specs.declared.held.HeldValues.{HeldValues}
use Rattle.held_values.specs.Holding as held
use Rattle.held_values.specs.Told.{IsHeld, Tells}
use Rattle.held_values.proofs.Concerns.{got_among}
use Rattle.point_nodes.specs.Tops.{nodes_of}
use Rattle.assignments.specs.Targets.{is_name}
use Rattle.unit_names.specs.declared.scope.Scope.{Scope}
use Rattle.unit_names.specs.Names.{name_words, literal_words}
use Rattle.unit_names.specs.Words.{Word, word_of, name_word, is_one_of}
use Rattle.unit_effects.specs.Fixed.{Value, State}
use Rattle.unit_effects.specs.Numbering.{number_by, number_of, effects_of}
use Rattle.const_prop.specs.Constants.{names_of, literals_of, hidden_in, left, IsSmall, Holds}
use Rattle.const_prop.specs.Large.{size_of, IsHeldUnless}
use Rattle.const_prop.specs.Views.{number_there, told, numbered_by, literal_in, held_by}
use Rattle.const_prop.proofs.Agreeing.{same_self}
use Rattle.const_prop.proofs.NameKinds.{name_kind}
use Rattle.const_prop.proofs.Standing.{flat_one, has_values, node_stands, are_names}
use Rattle.const_prop.proofs.States.{decoded, Mirrors, route_mirrors, holds_forth, holds_back}
use Rattle.const_prop.proofs.Tables.{at_place, once_table, has_place, any_right}

mapped_at : (f : Word → ℕ) (ws : List Word) (k : ℕ) (w : Word) → slice_get ws k ≡ Some w → slice_index (map f ws) k ≡ f w
mapped_at f [] k w e = absurd cc
mapped_at f (v ∷ vs) zero w e = let is : v ≡ w = cc in ap f is
mapped_at f (v ∷ vs) (suc k) w e = mapped_at f vs k w e

decoded_is : (literals : List Word) (x : ℕ) (w : Word) → decoded literals x ≡ Some w → (l : ℕ) × (x ≡ suc l) × (slice_get literals l ≡ Some w)
decoded_is literals zero w e = absurd cc
decoded_is literals (suc l) w e = (l, refl, e)

other_number : (a b : ℕ) → a ≢ b → (a == b) ≡ false
other_number a b ne = by (a == b) refl
  where
    by : (v : Bool) → (a == b) ≡ v → (a == b) ≡ false
    by true e = absurd (ne (eqb-true a b e))
    by false e = e

told_by : (literals : List Word) (x : ℕ) (a b : Bool) (w : Word) → numbered_by literals (if a || b then None else Some x) ≡ Some w → (a ≡ false) × (b ≡ false) × (slice_get literals (x - 1) ≡ Some w)
told_by literals x true b w e = absurd cc
told_by literals x false true w e = absurd cc
told_by literals x false false w e = (refl, refl, e)

told_some : (x : ℕ) → x ≢ 0 → x ≢ 4294967295 → told x ≡ Some x
told_some x some seen =
    ap (λ (a : Bool). if a || x == 4294967295 then None else Some x) (other_number x 0 some) ∙ ap (λ (b : Bool). if b then None else Some x) (other_number x 4294967295 seen)

-- what the answer says of a name before a point
module _ (answer : HeldValues) (point name : ℕ) where
  abbrev there_is : ℕ
  there_is = number_there answer point name

  told_none : (a b : Bool) → (there_is == 0) ≡ a → (there_is == 4294967295) ≡ b → (Tells answer point name there_is → ⊥) → None ≡ (if a || b then None else Some there_is)
  unfolding Tells
  told_none true b e f never = refl
  told_none false true e f never = refl
  told_none false false e f never = absurd (never (refl, eqb-false there_is 0 e, eqb-false there_is 4294967295 f))

  pub told_is : (r : Option ℕ) → ((literal : ℕ) → (r ≡ Some literal) ↔ Tells answer point name literal) → r ≡ told there_is
  unfolding Tells
  told_is None says = told_none (there_is == 0) (there_is == 4294967295) refl refl (λ tells. let e = (says there_is).1 tells in absurd cc)
  told_is (Some v) says =
      let t = (says v).0 refl in
      sym (told_some there_is (λ e. t.1 (sym t.0 ∙ e)) (λ e. t.2 (sym t.0 ∙ e)) ∙ ap Some t.0)

  pub told_above : (r : Option ℕ) → ((literal : ℕ) → (r ≡ Some literal) ↔ Tells answer point name literal) → IfSome r (λ number. 0 < number)
  unfolding Tells
  told_above None says = tt
  told_above (Some v) says = let t = (says v).0 refl in omega (arith, t.1)

one_of_list : (v : Value) (w : Word) → v ≡ Some w → is_one_of (option_to_list v) w ≡ true
one_of_list v w e = ap (λ o. is_one_of (option_to_list o) w) e ∙ ap (λ b. b || false) (same_self w)

word_is : (n : Node) → is_name (kind_of n) ≡ true → word_of n ≡ name_word (text_of n)
word_is n e = let kind = name_kind (kind_of n) e in λ i. record { kind = kind i; text = text_of n }

module _ (nodes : List Node) (s : Scope) (start : State) (hide : List ℕ → Bool) (hiding : (t : List ℕ) → hide t ≡ is_one_of (hidden_in nodes s) (name_word t)) where
  abbrev names : List Word
  names = names_of nodes s

  abbrev literals : List Word
  literals = literals_of nodes start s

  abbrev effects : Effects
  effects = effects_of nodes names literals hide start s

  abbrev all_literals : List Word
  all_literals = literal_words nodes s ++ flat_map (λ (w : Word). option_to_list (start w.text)) names

  start_by : (v : Value) → ((w : Word) → v ≡ Some w → is_one_of all_literals w ≡ true) → decoded literals (number_of literals v) ≡ v
  start_by None there = refl
  start_by (Some w) there = let h = has_place all_literals w (there w refl) in ap (λ o. decoded literals (number_by o)) h.1 ∙ at_place literals w h.0 h.1

  start_stands : (k : ℕ) (w v : Word) → slice_get names k ≡ Some w → start w.text ≡ Some v → is_one_of all_literals v ≡ true
  start_stands k w v here holds =
      any_right (literal_words nodes s) (flat_map (λ (w : Word). option_to_list (start w.text)) names) v
      (flat_one (λ (w : Word). option_to_list (start w.text)) names w v (got_among names k w here) (one_of_list (start w.text) v holds))

  -- the numbers at the entry are what the names hold there
  begins : Mirrors names literals (hidden_in nodes s) hide (once_table (name_words nodes s)) (once_table all_literals) (are_names nodes s) hiding start effects.start
  begins = record {
    size = length-map names (λ (w : Word). number_of literals (start w.text));
    each = λ k w e. (ap (decoded literals) (mapped_at (λ (w : Word). number_of literals (start w.text)) names k w e) ∙ start_by (start w.text) (λ v holds. start_stands k w v e holds));
  }

  mirrors : (route : List ℕ) → Mirrors names literals (hidden_in nodes s) hide (once_table (name_words nodes s)) (once_table all_literals) (are_names nodes s) hiding (left nodes (hidden_in nodes s) start s.graph route) (held.left effects route)
  mirrors = route_mirrors names literals (hidden_in nodes s) hide (once_table (name_words nodes s)) (once_table all_literals) (are_names nodes s) hiding nodes s.graph start effects refl begins (has_values nodes s start)

  module _ (answer : HeldValues) (is : IsHeld s.graph effects answer) (place : ℕ) (within : place < length s.graph.points) (name : List ℕ) (k : ℕ) (there : slice_get names k ≡ Some (name_word name)) where
    known : k < length effects.start
    known = let a = slice_get_within names k (name_word name) there in let b = length-map names (λ (w : Word). number_of literals (start w.text)) in omega (arith, a, b)

    told_forth : (literal : Word) → numbered_by literals (told (number_there answer place k)) ≡ Some literal → Holds nodes start s place name literal
    unfolding Tells
    told_forth literal e =
        let x = number_there answer place k in
        let t = told_by literals x (x == 0) (x == 4294967295) literal e in
        let some : x ≢ 0 = eqb-false x 0 t.0 in
        let holds = (is.exact place k x within known some).0 (refl, some, eqb-false x 4294967295 t.1) in
        let next : x ≡ suc (x - 1) = omega (arith, some) in
        record {
          some = holds.some;
          every = holds_back names literals (hidden_in nodes s) hide (once_table (name_words nodes s)) (once_table all_literals) (are_names nodes s) hiding nodes s.graph start effects refl begins (has_values nodes s start)
              place k (x - 1) name literal there t.2 (λ route leads. holds.every route leads ∙ next);
        }

    told_back : (literal : Word) → Holds nodes start s place name literal → numbered_by literals (told (number_there answer place k)) ≡ Some literal
    unfolding Tells
    told_back literal holds =
        let x = number_there answer place k in
        let d = decoded_is literals (slice_index (held.left effects holds.some.0) k) literal ((mirrors holds.some.0).each k (name_word name) there ∙ holds.every holds.some.0 holds.some.1) in
        let one : suc d.0 ≢ 0 = λ e. absurd cc in
        let tells = (is.exact place k (suc d.0) within known one).1 (record {
          some = holds.some;
          every = holds_forth names literals (hidden_in nodes s) hide (once_table (name_words nodes s)) (once_table all_literals) (are_names nodes s) hiding nodes s.graph start effects refl begins (has_values nodes s start)
              place k d.0 name literal there d.2 holds.every;
        }) in
        let some : x ≢ 0 = λ e. tells.1 (sym tells.0 ∙ e) in
        let seen : x ≢ 4294967295 = λ e. tells.2 (sym tells.0 ∙ e) in
        let before : x - 1 ≡ d.0 = omega (arith, tells.0) in
        ap (numbered_by literals) (told_some x some seen) ∙ ap (slice_get literals) before ∙ d.2

  small_is : (length s.graph.points * length (names_of nodes s) * (length (literals_of nodes start s) + 1)) ≡ size_of s.graph effects
  small_is = ap (λ n. length s.graph.points * n * (length literals + 1)) (sym (length-map names (λ (w : Word). number_of literals (start w.text))))

  -- what a view tells of a name at a point
  pub tells : (answer : Option HeldValues) → IsHeldUnless s.graph effects answer → (place : ℕ) (p : Point) → slice_get s.graph.points place ≡ Some p → (n : Numbered) → Among (nodes_of nodes p) n → is_name (kind_of n.node) ≡ true
      → (literal : Word) → (held_by answer names literals place (word_of n.node) ≡ Some literal) ↔ (IsSmall nodes start s × Holds nodes start s place (text_of n.node) literal)
  tells None large place p here n among name literal = (λ e. absurd cc, λ h. absurd (omega (arith, large, h.0, small_is)))
  tells (Some answer) is place p here n among name literal =
      let h = has_place (name_words nodes s) (word_of n.node) (node_stands nodes s start p n (got_among s.graph.points place p here) among name) in
      let there : slice_get names h.0 ≡ Some (name_word (text_of n.node)) = at_place names (word_of n.node) h.0 h.1 ∙ ap Some (word_is n.node name) in
      let within = slice_get_within s.graph.points place p here in
      let small : IsSmall nodes start s = omega (arith, is.1, small_is) in
      let e = ap (literal_in answer literals place) h.1 in (
        λ f. (small, told_forth answer is.0 place within (text_of n.node) h.0 there literal (sym e ∙ f)),
        λ f. e ∙ told_back answer is.0 place within (text_of n.node) h.0 there literal f.1,
      )
