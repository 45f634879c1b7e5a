-- Nodes below which nothing is assigned.
use Rattle.std.proofs.Common.{◌≡◌, ℕ, zero, suc, ◌+◌, ◌<◌, ◌≤◌, Bool, false, None, if◌then◌else◌, List, [], ◌∷◌, ◌++◌, length, get_or, refl, sym, ap, ◌∙◌, subst, arith}
use borrow.Author.Count.{below_more}
use Rattle.std.specs.Prelude.{◌||◌}
use Rattle.std.specs.List.{flat_map}
use Rattle.std.proofs.lemmas.List.{get_or_default}
use Rattle.std.proofs.lemmas.List.Concat.{flat_map-cons}
use Rattle.node_tree.specs.declared.node.Node.{Node}
use Rattle.node_tree.specs.declared.kind.Kind.{Kind}
use Rattle.node_tree.specs.declared.kind.Kind.TheVariants as kinds
use Rattle.node_tree.specs.Numbers.{Numbered, count_of, siblings, numbered, kids_at, pre_at}
use Rattle.node_tree.specs.Tree.{kind_of, text_of, kids_of, pre_of, pre_all}
use Rattle.node_tree.proofs.Trees.{pre_is}
use Rattle.node_pool.specs.declared.spot.Spot.{Spot}
use Rattle.node_pool.specs.Spots.{seen}
use Rattle.node_pool.proofs.Induction.{Each, by_kids}
use Rattle.node_pool.proofs.Placing.{count_is}
use Rattle.point_nodes.specs.Tops.{part}
use Rattle.assignments.specs.declared.assignment.Manner.TheVariants.{Stepped}
use Rattle.assignments.specs.Assignments.{assigned, names_in, assigned_by, assigned_at, assigned_in, is_fields, may_assign}
use Rattle.assignments.proofs.Postorder.{assigned_in_is}

-- what may not assign assigns nothing
pub own_nothing : (field : Bool) (kind : Kind) (text : List ℕ) (kids : List Numbered) → may_assign kind text ≡ false → assigned_by field kind text kids ≡ []
own_nothing field kinds.Assign text kids e = absurd cc
own_nothing field kinds.AnnAssign text kids e = absurd cc
own_nothing field kinds.AugAssign text kids e = absurd cc
own_nothing field kinds.AssignE text kids e = absurd cc
own_nothing field kinds.Walrus text kids e = absurd cc
own_nothing field kinds.Var text kids e = absurd cc
own_nothing field kinds.For text kids e = absurd cc
own_nothing field kinds.WithItem text kids e = absurd cc
own_nothing field kinds.Unary text kids e = ap (λ b. if b then assigned Stepped None (names_in (part 0 kids)) else []) e
own_nothing field kinds.Postfix text kids e = ap (λ b. if b then assigned Stepped None (names_in (part 0 kids)) else []) e
own_nothing field kinds.Del text kids e = absurd cc
own_nothing field kinds.Alias text kids e = absurd cc
own_nothing field kinds.Handler text kids e = absurd cc
own_nothing field kinds.FunctionDef text kids e = absurd cc
own_nothing field kinds.ClassDef text kids e = absurd cc
own_nothing field kinds.FuncDef text kids e = absurd cc
own_nothing field _ text kids e = refl

abbrev pub may_assign_at : Node → Bool
may_assign_at n = may_assign (kind_of n) (text_of n)

-- none of these nodes may assign
abbrev AreQuiet : List Node → Type 0
AreQuiet [] = Unit {0}
AreQuiet (n ∷ ns) = (may_assign_at n ≡ false) × AreQuiet ns

both_quiet : (ms ns : List Node) → AreQuiet (ms ++ ns) → AreQuiet ms × AreQuiet ns
both_quiet [] ns all = (tt, all)
both_quiet (m ∷ ms) ns all = let r = both_quiet ms ns all.1 in ((all.0, r.0), r.1)

quiet_places : (ns : List Node) (d : Node) → ((k : ℕ) → k < length ns → may_assign_at (get_or ns k d) ≡ false) → AreQuiet ns
quiet_places [] d all = tt
quiet_places (n ∷ ns) d all = (all 0 (omega arith), quiet_places ns d (λ k lt. all (suc k) (omega (arith, lt))))

-- nothing is assigned in such a node and below it
abbrev Nothing : Node → Type 0
Nothing n = AreQuiet (pre_of n) → (field : Bool) (at : ℕ) → assigned_in field (record { at = at; node = n }) ≡ []

in_siblings : (ns : List Node) → Each Nothing ns → AreQuiet (pre_all ns) → (field : Bool) (at : ℕ) → flat_map (assigned_in field) (siblings at ns) ≡ []
in_siblings [] each all field at = refl
in_siblings (n ∷ ns) each all field at =
    let P : List Node → Type 0 = AreQuiet in
    let rest = siblings (at + count_of n) ns in
    let both = both_quiet (pre_of n) (pre_all ns) (subst P (flat_map-cons pre_of n ns) all) in
    flat_map-cons (assigned_in field) (record { at = at; node = n }) rest ∙ ap (λ xs. xs ++ flat_map (assigned_in field) rest) (each.0 both.0 field at) ∙ in_siblings ns each.1 both.1 field (at + count_of n)

in_node : (n : Node) → Nothing n
in_node = by_kids Nothing (λ n each quiet field at.
    let P : List Node → Type 0 = AreQuiet in
    let s : Numbered = record { at = at; node = n } in
    let all = subst P (pre_is n) quiet in
    assigned_in_is field s ∙ ap (λ xs. xs ++ assigned_at field s) (in_siblings (kids_of n) each all.1 (field || is_fields (kind_of n)) (at + 1)) ∙ own_nothing field (kind_of n) (text_of n) (kids_at s) all.0)

in_each : (ns : List Node) → Each Nothing ns
in_each [] = tt
in_each (n ∷ ns) = (in_node n, in_each ns)

-- the nodes below a node in preorder, up to a place counted from the node, may not assign
abbrev pub QuietTo : Node → ℕ → Type 0
QuietTo n i = (k : ℕ) → k + 1 < i → may_assign_at (get_or (pre_all (kids_of n)) k n) ≡ false

-- where no node below may assign, all that is assigned is what the node itself assigns
pub nothing_below : (s : Numbered) (i : ℕ) → count_of s.node ≤ i → QuietTo s.node i → (field : Bool) → assigned_in field s ≡ assigned_at field s
nothing_below s i le quiet field =
    let n = s.node in
    let all = quiet_places (pre_all (kids_of n)) n (λ k lt. quiet k (omega (arith, lt, le, count_is n))) in
    assigned_in_is field s ∙ ap (λ xs. xs ++ assigned_at field s) (in_siblings (kids_of n) (in_each (kids_of n)) all (field || is_fields (kind_of n)) (s.at + 1))

numbered_node : (at : ℕ) (ns : List Node) (k : ℕ) (d : Numbered) → (get_or (numbered at ns) k d).node ≡ get_or ns k d.node
numbered_node at [] k d = refl
numbered_node at (n ∷ ns) zero d = refl
numbered_node at (n ∷ ns) (suc k) d = numbered_node (at + 1) ns k d

-- one node more
pub quiet_more : (s : Numbered) (x : Spot) (i : ℕ) → 1 ≤ i → i < count_of s.node → seen x ≡ get_or (pre_at s) i (seen x) → may_assign_at x.node.now ≡ false → QuietTo s.node i → QuietTo s.node (i + 1)
quiet_more s x zero ge lt is silent quiet = absurd (omega (arith, ge))
quiet_more s x (suc j) ge lt is silent quiet =
    let n = s.node in
    let below = pre_all (kids_of n) in
    let inside : j < length below = omega (arith, lt, count_is n) in
    let here : x.node.now ≡ get_or below j n = ap (λ (y : Numbered). y.node) is ∙ numbered_node s.at (pre_of n) (suc j) (seen x) ∙ ap (λ ns. get_or ns (suc j) x.node.now) (pre_is n) ∙ get_or_default below j x.node.now n inside in
    let P : ℕ → Type 0 = λ k. may_assign_at (get_or below k n) ≡ false in
    λ k lt'. below_more P j (λ m l. quiet m (omega (arith, l))) (ap may_assign_at (sym here) ∙ silent) k (omega (arith, lt'))
