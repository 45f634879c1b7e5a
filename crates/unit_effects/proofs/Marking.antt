-- Marking the first bytes of names.
use Rattle.std.proofs.Common.{◌≡◌, ◌⊎◌, inl, inr, ℕ, ◌<◌, ◌≤◌, Bool, true, false, cond, List, [], ◌∷◌, length, eqb, refl, sym, ap, ◌∙◌, subst, Some}
use Rattle.std.specs.Prelude.{Option, None, is_some, slice_get, slice_index_or, slice_set, if◌then◌else◌}
use Rattle.std.specs.Borrow.{Bor}
use Rattle.std.specs.BTreeMap.{BTreeMap, is_at}
use Rattle.std.specs.Map.{lookup}
use Rattle.std.specs.Cmp.Lexicographic.{slice_cmp, bytes_decides}
use Rattle.std.specs.Ordering.{nat_cmp}
use Rattle.std.proofs.lemmas.Bool.{eqb-true, eqb-false}
use Rattle.std.proofs.lemmas.List.{get_or-set_same, get_or-set_other, get_or_past}
use Rattle.std.proofs.lemmas.Map.Text.{is_eq-slice_cmp}
use Rattle.graph_form.specs.Sets.{Among}
use Rattle.unit_names.specs.declared.word.Word.{Word as Lent}
use Rattle.unit_effects.specs.Fixed.{Value}
use Rattle.unit_effects.specs.Firsts.{may_begin, may_be, Marks, IsMarked, TellsFirsts}

pub marks_none : (firsts : List Bool) (name : List ℕ) → None ≡ slice_get name 0 → Marks firsts name firsts
marks_none firsts name none = (ap (may_begin firsts) (sym none), λ other was. was)

pub marks_past : (firsts : List Bool) (name : List ℕ) (b : ℕ) → Some b ≡ slice_get name 0 → length firsts ≤ b → Marks firsts name firsts
marks_past firsts name b first past = (ap (may_begin firsts) (sym first) ∙ get_or_past firsts b true past, λ other was. was)

still : (firsts : List Bool) (b : ℕ) → b < length firsts → (o : Option ℕ) → may_begin firsts o ≡ true → may_begin (slice_set firsts b true) o ≡ true
still firsts b lt None was = refl
still firsts b lt (Some c) was = by (eqb b c) refl
  where
    by : (same : Bool) → eqb b c ≡ same → slice_index_or (slice_set firsts b true) c true ≡ true
    by true e = ap (λ k. slice_index_or (slice_set firsts b true) k true) (sym (eqb-true b c e)) ∙ get_or-set_same firsts b true true lt
    by false e = get_or-set_other firsts b c true true (λ same. eqb-false b c e (sym same)) ∙ was

pub marks_first : (firsts : List Bool) (name : List ℕ) (b : ℕ) → Some b ≡ slice_get name 0 → b < length firsts → Marks firsts name (slice_set firsts b true)
marks_first firsts name b first lt = (ap (may_begin (slice_set firsts b true)) (sym first) ∙ get_or-set_same firsts b true true lt, λ other was. still firsts b lt (slice_get other 0) was)

abbrev Entry : Type 0
Entry = Bor (List ℕ) × Option Lent

-- each entry is left, or marked
abbrev pub AreLeftOrMarked : List Entry → List Entry → List Bool → Type 0
AreLeftOrMarked es left firsts = (e : Entry) → Among es e → Among left e ⊎ IsMarked firsts e

-- one entry more
pub one_marked : (es left next : List Entry) (e : Entry) (old new : List Bool) → left ≡ e ∷ next → IsMarked new e → ((other : List ℕ) → may_be old other ≡ true → may_be new other ≡ true) → AreLeftOrMarked es left old → AreLeftOrMarked es next new
one_marked es left next e old new left_is this keeps all f among = by (all f among)
  where
    which : Among (e ∷ next) f → Among next f ⊎ IsMarked new f
    which (inl is) = inr (subst (IsMarked new) is this)
    which (inr h) = inl h

    by : Among left f ⊎ IsMarked old f → Among next f ⊎ IsMarked new f
    by (inl h) = which (subst (λ xs. Among xs f) left_is h)
    by (inr h) = inr (λ some. keeps f.0.now (h some))

-- where each entry with a literal is marked, the first bytes tell
module _ (firsts : List Bool) (name : List ℕ) (other : may_be firsts name ≡ false) where
  found : (es : List Entry) → ((e : Entry) → Among es e → IsMarked firsts e) → (w : Lent) → lookup (is_at (λ (key : Bor (List ℕ)). slice_cmp nat_cmp name key.now)) es ≡ Some (Some w) → ⊥
  found [] marked w e = absurd cc
  found (x ∷ xs) marked w e = by (found xs (λ f among. marked f (inr among)) w) (is_at (λ (key : Bor (List ℕ)). slice_cmp nat_cmp name key.now) x.0) refl e
    where
      by : (lookup (is_at (λ (key : Bor (List ℕ)). slice_cmp nat_cmp name key.now)) xs ≡ Some (Some w) → ⊥) → (b : Bool) → is_at (λ (key : Bor (List ℕ)). slice_cmp nat_cmp name key.now) x.0 ≡ b
          → cond b (Some x.1) (lookup (is_at (λ (key : Bor (List ℕ)). slice_cmp nat_cmp name key.now)) xs) ≡ Some (Some w) → ⊥
      by rest true same is =
          let text : name ≡ x.0.now = (bytes_decides name x.0.now).0 (sym (is_eq-slice_cmp name x.0.now) ∙ same) in
          let one : x.1 ≡ Some w = cc in
          let yes : may_be firsts name ≡ true = ap (may_be firsts) text ∙ marked x (inl refl) (ap is_some one) in
          absurd cc
      by rest false apart is = rest is

pub tell : (firsts : List Bool) (once : BTreeMap (Bor (List ℕ)) (Option Lent)) (left : List Entry) → left ≡ [] → AreLeftOrMarked once.entries left firsts → TellsFirsts firsts once
tell firsts once left none all name other = found firsts name other once.entries (λ e among. by e (all e among))
  where
    by : (e : Entry) → Among left e ⊎ IsMarked firsts e → IsMarked firsts e
    by e (inl h) = absurd (subst (λ xs. Among xs e) none h)
    by e (inr h) = h

-- what is nothing is nothing where it is hidden, too
pub none_by : (b : Bool) (v : Value) → v ≡ None → None ≡ (if b then None else v)
none_by true v e = refl
none_by false v e = sym e
