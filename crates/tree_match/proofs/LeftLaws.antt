-- The parts that a search asks for, one after the other.
use Rattle.std.proofs.Common.{◌≡◌, ◌↔◌, ℕ, suc, add-one, ◌+◌, ◌<◌, ◌≤◌, List, [], ◌∷◌, length, drop, get_or, ap, ◌∙◌, sym, subst, arith, Bool, true, false}
use Rattle.std.specs.Prelude.{Some}
use Rattle.std.proofs.lemmas.List.{drop_all}
use Rattle.std.proofs.Math.Seq.{drop-cons}
use Rattle.node_tree.specs.declared.node.Node.{Node}
use Rattle.node_tree.specs.Tree.{kids_of}
use Rattle.node_match.specs.Free.{Part, parts_of}
use Rattle.node_match.specs.Orders.{is_named, unnamed_of, all_asked}
use Rattle.node_match.proofs.Arguments.{unnamed_next, unnamed_passed}
use Rattle.node_match.proofs.Parts.{parts_as_many}
use Rattle.node_tree.specs.declared.known.Known.{Known}
use Rattle.node_pool.specs.Spots.{seen}
use Rattle.node_match.specs.Fronts.{End}
use Rattle.node_search.specs.declared.state.State.{State}
use Rattle.node_search.specs.Kids.{line}
use Rattle.node_search.specs.States.{Line, line_of, AnyFrom}
use Rattle.node_search.proofs.Lines.{whole_line}
use Rattle.tree_match.specs.declared.aim.Search.{Search}
use Rattle.tree_match.specs.Aims.{left_of}
use Rattle.tree_match.specs.Lefts.{left_parts}

-- after the last part none is left
pub none_left : (unnamed : Bool) (p : Node) (at : ℕ) → length (kids_of p) ≤ at → left_parts unnamed p at ≡ []
none_left true p at past = ap (λ (ps : List Node). all_asked (unnamed_of ps)) (drop_all at (kids_of p) past)
none_left false p at past = drop_all at (parts_of p) (omega (arith, past, parts_as_many p))

-- where all parts are asked for
pub whole_left : (unnamed : Bool) (p : Node) (at : ℕ) → unnamed ≡ false → left_parts unnamed p at ≡ drop at (parts_of p)
whole_left unnamed p at whole = ap (λ (t : Bool). left_parts t p at) whole

module _ (unnamed : Bool) (p : Node) (at : ℕ) (q : Node) (so : unnamed ≡ true) (lt : at < length (kids_of p)) (is : q ≡ get_or (kids_of p) at q) where
  -- a part with a name is passed over
  pub named_left : is_named q ≡ true → left_parts unnamed p at ≡ left_parts unnamed p (at + 1)
  named_left named =
      ap (λ (t : Bool). left_parts t p at) so ∙ unnamed_passed (kids_of p) at q lt is named ∙ ap (λ (t : Bool). left_parts t p (at + 1)) (sym so)

  pub unnamed_left : is_named q ≡ false → left_parts unnamed p at ≡ Some q ∷ left_parts unnamed p (at + 1)
  unnamed_left none =
      ap (λ (t : Bool). left_parts t p at) so ∙ unnamed_next (kids_of p) at q lt is none ∙ ap (λ (t : Bool). Some q ∷ left_parts t p (at + 1)) (sym so)

  one_on : drop at (kids_of p) ≡ q ∷ drop (at + 1) (kids_of p)
  one_on = drop-cons (kids_of p) at q lt ∙ ap (λ (r : Node). r ∷ drop (suc at) (kids_of p)) (sym is) ∙ ap (λ (j : ℕ). q ∷ drop j (kids_of p)) (sym (add-one at))

  -- where the part leads
  pub step_left : (C : List Known) (l : Line) (old new : List State) (e : End)
      → ((qs : List Node) → AnyFrom C l (all_asked (unnamed_of qs)) new e ↔ AnyFrom C l (all_asked (unnamed_of (q ∷ qs))) old e)
      → AnyFrom C l (left_parts unnamed p (at + 1)) new e ↔ AnyFrom C l (left_parts unnamed p at) old e
  step_left C l old new e step =
      let P : List Node → Type 0 = λ qs. AnyFrom C l (all_asked (unnamed_of (drop (at + 1) (kids_of p)))) new e ↔ AnyFrom C l (all_asked (unnamed_of qs)) old e in
      let Q : Bool → Type 0 = λ t. AnyFrom C l (left_parts t p (at + 1)) new e ↔ AnyFrom C l (left_parts t p at) old e in
      subst Q (sym so) (subst P (sym one_on) (step (drop (at + 1) (kids_of p))))

-- what a search along all kids leads to
pub all_from : (s : Search) (at : ℕ) (states : List State) (C : List Known) (e : End) → s.unnamed ≡ false
    → AnyFrom C (line_of (seen s.holder.spot)) (drop at (parts_of s.pattern.now)) states e ↔ AnyFrom C (line s.holder) (left_of s at) states e
all_from s at states C e whole =
    let l = line_of (seen s.holder.spot) in
    let ps = drop at (parts_of s.pattern.now) in
    let P : List Part → Type 0 = λ qs. AnyFrom C l ps states e ↔ AnyFrom C (line s.holder) qs states e in
    let L : Line → Type 0 = λ k. AnyFrom C l ps states e ↔ AnyFrom C k ps states e in
    subst P (sym (whole_left s.unnamed s.pattern.now at whole)) (subst L (sym (whole_line s.holder (s.kin whole))) (λ x. x, λ x. x))
