-- The entry of a unit is the first point of its graph.
use Rattle.std.proofs.Common.{◌≡◌, inl, inr, ℕ, zero, suc, ◌+◌, ◌-◌, ◌≤◌, Bool, true, false, List, [], ◌∷◌, length, take, drop, map, Some, refl, sym, ap, subst, arith}
use Rattle.std.specs.Prelude.{Option, None, if◌then◌else◌, slice_get}
use Rattle.std.specs.List.{flat_map}
use Rattle.node_tree.specs.declared.node.Node.{Node}
use Rattle.node_tree.specs.Kinds.{is_function}
use Rattle.node_tree.specs.Numbers.{Numbered, count_of, siblings, kids_at}
use Rattle.node_tree.specs.Tree.{pre_of, kind_of, kids_of}
use Rattle.graph_form.specs.declared.graph.Point.{Point}
use Rattle.graph_form.specs.declared.graph.Graph.{Graph}
use Rattle.graph_form.specs.declared.graph.Role.{Role}
use Rattle.graph_form.specs.declared.graph.Role.TheVariants as roles
use Rattle.graph_form.specs.Sets.{Among}
use Rattle.graph_form.proofs.Amongs.{among_app}
use Rattle.flow_edges.specs.declared.statement.Form.{Form}
use Rattle.flow_edges.specs.declared.statement.Form.TheVariants as forms
use Rattle.flow_edges.specs.declared.statement.Statement.{Statement, Statement-F, roll-Statement, out-Statement, out-roll-Statement}
use Rattle.flow_edges.specs.Flow.{at, points, points_by}
use Rattle.flow_reach.proofs.Sorted.{got_among, among_got}
use Rattle.flow_graph.specs.declared.labels.Label.{Label}
use Rattle.flow_graph.specs.Outline.{is_row, first_part, part_count, parts_of, target_by, form_by, labels_in, outlined}
use Rattle.flow_graph.specs.Units.{body_at, body_of, entry_of, exit_of, points_of, IsGraphOf}

module _ {X : Type 0} where
  pub among_take : (k : ℕ) (xs : List X) (x : X) → Among (take k xs) x → Among xs x
  among_take zero xs x among = absurd among
  among_take (suc k) [] x among = absurd among
  among_take (suc k) (y ∷ ys) x (inl e) = inl e
  among_take (suc k) (y ∷ ys) x (inr among) = inr (among_take k ys x among)

  pub among_drop : (k : ℕ) (xs : List X) (x : X) → Among (drop k xs) x → Among xs x
  among_drop zero xs x among = among
  among_drop (suc k) [] x among = absurd among
  among_drop (suc k) (y ∷ ys) x among = inr (among_drop k ys x among)

-- siblings stand at their first number or later
siblings_later : (at : ℕ) (ns : List Node) (s : Numbered) → Among (siblings at ns) s → at ≤ s.at
siblings_later at [] s among = absurd among
siblings_later at (n ∷ ns) s (inl e) = let q : at ≡ s.at = ap (λ (x : Numbered). x.at) e in omega (arith, q)
siblings_later at (n ∷ ns) s (inr among) = let r = siblings_later (at + count_of n) ns s among in omega (arith, r)

parts_later : (s t : Numbered) → Among (parts_of s) t → s.at ≤ t.at
parts_later s t among = let r = siblings_later (s.at + 1) (kids_of s.node) t (by (is_row (kind_of s.node)) among) in omega (arith, r)
  where
    by : (b : Bool) → Among (if b then kids_at s else take (part_count (kind_of s.node)) (drop (first_part (kind_of s.node)) (kids_at s))) t → Among (kids_at s) t
    by true among = among
    by false among = among_drop (first_part (kind_of s.node)) (kids_at s) t (among_take (part_count (kind_of s.node)) (drop (first_part (kind_of s.node)) (kids_at s)) t among)

-- the points stand at a number or later
abbrev AllLater : ℕ → List Point → Type 0
AllLater at ps = (p : Point) → Among ps p → at ≤ p.node

module _ (labels : List Label) (exit : Point) where
  -- the points of a row of statements
  rows_later : (d e at : ℕ) → ((t : Numbered) → AllLater t.at (points d (outlined labels exit e t))) → (xs : List Numbered) → ((t : Numbered) → Among xs t → at ≤ t.at) → AllLater at (flat_map (points d) (map (outlined labels exit e) xs))
  rows_later d e at own [] all q among = absurd among
  rows_later d e at own (x ∷ xs) all q among = elim ((among_app (points d (outlined labels exit e x)) (flat_map (points d) (map (outlined labels exit e) xs)) q).0 among) [
    | inl a ↦ let r = own x q a in omega (arith, r, all x (inl refl))
    | inr b ↦ rows_later d e at own xs (λ t there. all t (inr there)) q b
  ]

  first_later : (from : ℕ) (s : Statement) (more : List Point) (role : Role) → from ≤ (out-Statement s).number → AllLater from more → AllLater from (at role s ∷ more)
  first_later from s more role le rest p (inl e) = let same : (out-Statement s).number ≡ p.node = ap (λ (x : Point). x.node) e in omega (arith, le, same)
  first_later from s more role le rest p (inr among) = rest p among

  own_later : (from : ℕ) (s : Statement) (below : List Point) → from ≤ (out-Statement s).number → AllLater from below → (form : Form) → AllLater from (points_by below s form)
  own_later from s below le all forms.Row = all
  own_later from s below le all forms.Absent = all
  own_later from s below le all forms.ForC = first_later from s (at roles.Test s ∷ at roles.Step s ∷ below) roles.Init le (first_later from s (at roles.Step s ∷ below) roles.Test le (first_later from s below roles.Step le all))
  own_later from s below le all forms.Plain = first_later from s below roles.Head le all
  own_later from s below le all forms.If = first_later from s below roles.Head le all
  own_later from s below le all forms.Loop = first_later from s below roles.Head le all
  own_later from s below le all forms.DoWhile = first_later from s below roles.Head le all
  own_later from s below le all forms.With = first_later from s below roles.Head le all
  own_later from s below le all forms.Try = first_later from s below roles.Head le all
  own_later from s below le all forms.Handler = first_later from s below roles.Head le all
  own_later from s below le all forms.Switch = first_later from s below roles.Head le all
  own_later from s below le all forms.Case = first_later from s below roles.Head le all
  own_later from s below le all forms.Default = first_later from s below roles.Head le all
  own_later from s below le all forms.Return = first_later from s below roles.Head le all
  own_later from s below le all forms.Raise = first_later from s below roles.Head le all
  own_later from s below le all forms.Break = first_later from s below roles.Head le all
  own_later from s below le all forms.Continue = first_later from s below roles.Head le all
  own_later from s below le all forms.Goto = first_later from s below roles.Head le all

  -- a statement's points stand where it stands or later
  points_later : (d e : ℕ) (s : Numbered) → AllLater s.at (points d (outlined labels exit e s))
  points_later zero e s p among = absurd among
  points_later (suc d) zero s p among =
      let made : Statement-F Statement = record { number = s.at; form = forms.Absent; target = exit; kids = [] } in
      let P : Statement-F Statement → Type 0 = λ x. Among (points_by (flat_map (points d) x.kids) (roll-Statement made) x.form) p in
      absurd (subst P (out-roll-Statement made) among)
  points_later (suc d) (suc e) s p among =
      let made : Statement-F Statement = record {
        number = s.at;
        form = form_by (kind_of s.node);
        target = target_by labels exit s.node (kind_of s.node);
        kids = map (outlined labels exit e) (parts_of s);
      } in
      let P : Statement-F Statement → Type 0 = λ x. Among (points_by (flat_map (points d) x.kids) (roll-Statement made) x.form) p in
      let number : s.at ≡ (out-Statement (roll-Statement made)).number = sym (ap (λ (x : Statement-F Statement). x.number) (out-roll-Statement made)) in
      let le : s.at ≤ (out-Statement (roll-Statement made)).number = omega (arith, number) in
      own_later s.at (roll-Statement made) (flat_map (points d) (map (outlined labels exit e) (parts_of s))) le (rows_later d e s.at (λ t. points_later d e t) (parts_of s) (λ t there. parts_later s t there)) (form_by (kind_of s.node)) p (subst P (out-roll-Statement made) among)

body_later : (root : Node) (unit : ℕ) (t : Numbered) → Among (body_of root unit) t → unit ≤ t.at
body_later root zero t among = omega arith
body_later root (suc k) t among = by (slice_get (pre_of root) (suc k)) among
  where
    in_function : (n : Node) (b : Bool) → Among (if b then drop (length (kids_of n) - 1) (kids_at (record { at = suc k; node = n })) else []) t → suc k ≤ t.at
    in_function n true a = let r = siblings_later (suc k + 1) (kids_of n) t (among_drop (length (kids_of n) - 1) (siblings (suc k + 1) (kids_of n)) t a) in omega (arith, r)
    in_function n false a = absurd a

    by : (o : Option Node) → Among (body_at (suc k) o) t → suc k ≤ t.at
    by None a = absurd a
    by (Some n) a = in_function n (is_function (kind_of n)) a

-- no point of a unit stands before the unit's node
pub points_not_before : (root : Node) (unit : ℕ) → AllLater unit (points_of root unit)
points_not_before root unit p (inl e) = let same : unit ≡ p.node = ap (λ (x : Point). x.node) e in omega (arith, same)
points_not_before root unit p (inr (inl e)) = let same : unit ≡ p.node = ap (λ (x : Point). x.node) e in omega (arith, same)
points_not_before root unit p (inr (inr among)) = rows_later (flat_map (labels_in (count_of root)) (body_of root unit)) (exit_of unit) (count_of root) (count_of root) unit (points_later (flat_map (labels_in (count_of root)) (body_of root unit)) (exit_of unit) (count_of root) (count_of root)) (body_of root unit) (λ t there. body_later root unit t there) p among

module _ (root : Node) (unit : ℕ) (To : Point → Point → Type 0) (graph : Graph) (is : IsGraphOf (points_of root unit) To graph) where
  not_later : (j : ℕ) → slice_get graph.points (suc j) ≡ Some (entry_of unit) → ⊥
  not_later j at = by graph.points refl
    where
      before : (x : Point) → slice_get graph.points 0 ≡ Some x → ⊥
      before x first =
          let there = points_not_before root unit x ((is.points x).0 (got_among graph.points 0 x first)) in
          elim (is.points_order 0 (suc j) x (entry_of unit) (omega arith) first at) [
            | inl less ↦ omega (arith, there, less)
            | inr (same, none) ↦ omega (arith, none)
          ]

      by : (ps : List Point) → graph.points ≡ ps → ⊥
      by [] e = let q : slice_get [] (suc j) ≡ Some (entry_of unit) = subst (λ (ps : List Point). slice_get ps (suc j) ≡ Some (entry_of unit)) e at in cc
      by (x ∷ xs) e = before x (ap (λ (ps : List Point). slice_get ps 0) e)

  -- the entry stands at place 0, and nowhere else
  pub entry_first : slice_get graph.points 0 ≡ Some (entry_of unit)
  entry_first = let r = among_got graph.points (entry_of unit) ((is.points (entry_of unit)).1 (inl refl)) in by r.0 r.1
    where
      by : (i : ℕ) → slice_get graph.points i ≡ Some (entry_of unit) → slice_get graph.points 0 ≡ Some (entry_of unit)
      by zero at = at
      by (suc j) at = absurd (not_later j at)

  pub only_first : (i : ℕ) → slice_get graph.points i ≡ Some (entry_of unit) → i ≡ 0
  only_first zero at = refl
  only_first (suc j) at = absurd (not_later j at)
