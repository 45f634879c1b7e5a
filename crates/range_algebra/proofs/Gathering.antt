-- What choices show.
use Rattle.std.proofs.Common.{◌≡◌, ◌⊎◌, ◌↔◌, ℕ, ◌+◌, ◌<◌, ◌≤◌, List, [], ◌∷◌, ◌++◌, length, drop, get_or, map, Bool, true, false, refl, sym, ap, ◌∙◌, subst, arith}
use Rattle.std.specs.Prelude.{None, Some, MatchBool, Result, Ok, Err, IfOk, OnOk}
use Rattle.meta_bind.specs.declared.bound.Bound.{Bound}
use Rattle.meta_bind.specs.Bounds.{bound_at}
use Rattle.rule_form.specs.declared.formula.Formula.{Formula}
use Rattle.rule_form.specs.declared.formula.Child.{Child, Child-F, roll-Child}
use Rattle.rule_form.specs.declared.formula.Child.TheOpen as layers
use Rattle.rule_form.specs.declared.formula.Child.TheVariants.{rolls-Focus}
use Rattle.rule_form.specs.declared.formula.Child.TheVariants as children
use Rattle.tree_match.specs.declared.leaf.Leaf.{Leaf}
use Rattle.node_match.specs.Sets.{Among, Adds}
use Rattle.tree_match.specs.Members.{Member}
use Rattle.node_match.proofs.Sets.{pushed, adds_as, adds_none}
use Rattle.member_join.specs.Ranges.{HasBytes}
use Rattle.range_algebra.specs.Trees.{Branches, no_branches, branches_of, branch_of, names_of, focus, focused, has, is_focus, all_of}
use Rattle.range_algebra.specs.Meets.{Meets, IsChosen, Allowed, IsShown, IsShownAt, IsShownAmong}
use Rattle.range_algebra.specs.Shown.{Shows, IsShownOfSome}
use Rattle.range_algebra.proofs.Openings.{branches_left, none_left, by_layer, branch_at}
use Rattle.sorted_sets.proofs.Searches.{any_joined}
use Rattle.range_algebra.proofs.Layers.{branch_focus}

-- ---- clauses of answers

module _ {V E : Type 0} where
  pub if_ok_both : (A B C : V → Type 0) (r : Result V E) → IfOk r A → IfOk r B → ((v : V) → A v → B v → C v) → IfOk r C
  if_ok_both A B C (Ok v) h k f = f v h k
  if_ok_both A B C (Err e) h k f = tt

-- ---- what is shown

same_bound : (name : List ℕ) (c m : Member) (b : Bound) → bound_at name c.1 ≡ Some b → (s : IsShownAt name c m) → s.0 ≡ b
same_bound name c m b at s = let f = sym s.1 ∙ at in cc

shown_bound : (name : List ℕ) (c m : Member) (b : Bound) (t : List Bound) → bound_at name c.1 ≡ Some b → HasBytes b.span → t ≡ c.1 → ((b.span, t) ≡ m) ↔ IsShownAt name c m
shown_bound name c m b t at some same =
    (λ e. (b, at, some, sym e ∙ ap (λ (bs : List Bound). (b.span, bs)) same), λ s. ap (λ (bs : List Bound). (b.span, bs)) same ∙ (ap (λ (x : Bound). (x.span, c.1)) (sym (same_bound name c m b at s)) ∙ sym s.3))

nothing_shown : (name : List ℕ) (c m : Member) (b : Bound) → bound_at name c.1 ≡ Some b → b.span.to ≤ b.span.from → IsShownAt name c m → ⊥
nothing_shown name c m b at none s =
    let P : Bound → Type 0 = λ x. HasBytes x.span in
    let h : P b = subst P (same_bound name c m b at s) s.2 in
    omega arith

-- the choice at the range of a name
pub adds_bound : (name : List ℕ) (c : Member) (b : Bound) (t : List Bound) (old new : List Member) → bound_at name c.1 ≡ Some b → HasBytes b.span → t ≡ c.1 → new ≡ old ++ (b.span, t) ∷ [] → Adds old new (IsShownAt name c)
adds_bound name c b t old new at some same e = adds_as old new (λ m. (b.span, t) ≡ m) (IsShownAt name c) (pushed old new (b.span, t) e) (λ m. shown_bound name c m b t at some same)

pub adds_unbound : (name : List ℕ) (c : Member) (old : List Member) → bound_at name c.1 ≡ None → Adds old old (IsShownAt name c)
adds_unbound name c old at = adds_none old (IsShownAt name c) (λ m s. (let f = sym s.1 ∙ at in cc))

pub adds_empty : (name : List ℕ) (c : Member) (b : Bound) (old : List Member) → bound_at name c.1 ≡ Some b → b.span.to ≤ b.span.from → Adds old old (IsShownAt name c)
adds_empty name c b old at none = adds_none old (IsShownAt name c) (λ m s. nothing_shown name c m b at none s)

-- the choice itself
pub adds_whole : (bs : Branches) (c : Member) (t : List Bound) (old new : List Member) → has is_focus bs ≡ false → t ≡ c.1 → new ≡ old ++ (c.0, t) ∷ [] → Adds old new (IsShown bs c)
adds_whole bs c t old new unseen same e = adds_as old new (λ m. (c.0, t) ≡ m) (IsShown bs c) (pushed old new (c.0, t) e) (λ m. shown (has is_focus bs) m unseen)
  where
    shown : (y : Bool) (m : Member) → y ≡ false → ((c.0, t) ≡ m) ↔ MatchBool y (IsShownAmong (focused bs) c m) (m ≡ c)
    shown true m f = absurd (cc)
    shown false m f = (λ g. sym g ∙ ap (λ (xs : List Bound). (c.0, xs)) same, λ g. ap (λ (xs : List Bound). (c.0, xs)) same ∙ sym g)

-- where a name is in focus
pub in_focus : (bs : Branches) (c m : Member) → has is_focus bs ≡ true → IsShownAmong (focused bs) c m ↔ IsShown bs c m
in_focus bs c m seen = shown (has is_focus bs) seen
  where
    shown : (y : Bool) → y ≡ true → IsShownAmong (focused bs) c m ↔ MatchBool y (IsShownAmong (focused bs) c m) (m ≡ c)
    shown true f = (λ x. x, λ x. x)
    shown false f = absurd (cc)

-- what the children that are left show
pub focus_left : (cs : List Child) (i : ℕ) (child : Child) (c m : Member) → i < length cs → child ≡ get_or cs i child
    → IsShownAmong (focused (branches_of (map branch_of (drop i cs)))) c m ↔ (IsShownAmong (names_of (branch_of child)) c m ⊎ IsShownAmong (focused (branches_of (map branch_of (drop (i + 1) cs)))) c m)
focus_left cs i child c m lt is =
    let P : Branches → Type 0 = λ bs. IsShownAmong (focused bs) c m ↔ (IsShownAmong (names_of (branch_of child)) c m ⊎ IsShownAmong (focused (branches_of (map branch_of (drop (i + 1) cs)))) c m) in
    subst P (sym (branches_left cs i child lt is)) (any_joined (λ (name : List ℕ). IsShownAt name c m) (names_of (branch_of child)) (focused (branches_of (map branch_of (drop (i + 1) cs)))))

pub focus_end : (cs : List Child) (i : ℕ) (c m : Member) → length cs ≤ i → IsShownAmong (focused (branches_of (map branch_of (drop i cs)))) c m → ⊥
focus_end cs i c m le a = let P : Branches → Type 0 = λ bs. IsShownAmong (focused bs) c m in nothing (subst P (none_left cs i le) a)
  where
    nothing : IsShownAmong (focused no_branches) c m → ⊥
    nothing x = absurd x.1

-- the names in focus of one child
pub adds_named : (name given : List ℕ) (c : Member) (old new : List Member) → given ≡ name → Adds old new (IsShownAt given c) → Adds old new (IsShownAt name c)
adds_named name given c old new same h = let P : List ℕ → Type 0 = λ n. Adds old new (IsShownAt n c) in subst P same h

pub adds_focused : (child : Child) (names given : List (List ℕ)) (c : Member) (old new : List Member) → child ≡ children.Focus names → given ≡ names → Adds old new (IsShownAmong given c) → Adds old new (IsShownAmong (names_of (branch_of child)) c)
adds_focused child names given c old new is same h =
    let P : List (List ℕ) → Type 0 = λ ns. Adds old new (IsShownAmong ns c) in
    subst P (same ∙ sym (ap names_of (ap branch_of is ∙ branch_focus names))) h

pub adds_unfocused : (child : Child) (c : Member) (old : List Member) → ((names : List (List ℕ)) → child ≡ children.Focus names → ⊥) → Adds old old (IsShownAmong (names_of (branch_of child)) c)
adds_unfocused child c old other = adds_none old (IsShownAmong (names_of (branch_of child)) c) (λ m a. (let P : List (List ℕ) → Type 0 = λ ns. IsShownAmong ns c m in nothing m (subst P (by_layer (λ b. names_of b ≡ []) child at) a)))
  where
    at : (x : Child-F Child Formula) → child ≡ roll-Child x → names_of (branch_at x) ≡ []
    at (layers.Positive f) e = refl
    at (layers.Inside f) e = refl
    at (layers.Not f) e = refl
    at (layers.NotInside f) e = refl
    at (layers.NotRegex k) e = refl
    at (layers.MetaRegex n k) e = refl
    at (layers.MetaCompare x) e = refl
    at (layers.MetaPattern n f) e = refl
    at (layers.Focus names) e = absurd (other names (e ∙ rolls-Focus names))

    nothing : (m : Member) → IsShownAmong [] c m → ⊥
    nothing m x = absurd x.1

-- ---- the members of a formula of children

module _ (leaves : List Leaf) (texts : List (List ℕ)) (bytes : List ℕ) (bs : Branches) where
  pub meets_chosen : (chosen given : List Member) → given ≡ chosen → ((c : Member) → Among chosen c ↔ IsChosen leaves texts bytes bs c) → (m : Member) → IsShownOfSome leaves texts bytes bs given m ↔ Meets leaves texts bytes (all_of bs) None m
  meets_chosen chosen given same exact m =
      let P : List Member → Type 0 = λ xs. IsShownOfSome leaves texts bytes bs xs m ↔ Meets leaves texts bytes (all_of bs) None m in
      subst P (sym same) (λ a. (a.0, (exact a.0).0 a.1, a.2.0, a.2.1), λ h. (h.0, (exact h.0).1 h.1, (h.2, h.3)))

  -- what is shown of a choice that is allowed
  pub shown_allowed : {A E : Type 0} (c : Member) (old new : List Member) → Allowed leaves texts bytes bs c → (r : Result A E) → OnOk r (Adds old new (IsShown bs c)) → OnOk r (Adds old new (Shows leaves texts bytes bs c))
  shown_allowed c old new allowed (Ok a) h = adds_as old new (IsShown bs c) (Shows leaves texts bytes bs c) h (λ m. (λ s. (allowed, s), λ s. s.1))
  shown_allowed c old new allowed (Err e) h = h
