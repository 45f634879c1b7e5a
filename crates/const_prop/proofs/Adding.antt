-- What is added for a unit, of which the answer tells what holds.
use Rattle.std.proofs.Common.{◌≡◌, ℕ, Bool, List, ◌++◌, ap, ◌∙◌, subst}
use Rattle.std.specs.Prelude.{Option, Ok, Err, OnOk}
use Rattle.std.specs.declared.result.Result.{Result}
use Rattle.node_tree.specs.declared.node.Node.{Node}
use Rattle.held_values.specs.declared.assign.Effects.{Effects}
use Rattle.held_values.specs.declared.held.HeldValues.{HeldValues}
use Rattle.unit_names.specs.declared.scope.Scope.{Scope}
use Rattle.unit_names.specs.Words.{Word, name_word, is_one_of}
use Rattle.unit_effects.specs.Fixed.{Value, State}
use Rattle.unit_effects.specs.Numbering.{effects_of}
use Rattle.const_prop.specs.Constants.{names_of, literals_of, hidden_in}
use Rattle.const_prop.specs.Large.{IsHeldUnless}
use Rattle.const_prop.specs.Sights.{AddsSeen}
use Rattle.const_prop.specs.Views.{held_by, sightings_from}
use Rattle.const_prop.proofs.Seeing.{adds_seen}
use Rattle.const_prop.proofs.Telling.{tells}

pub map_ok : {X E : Type 0} (r : Result X E) (A B : Type 0) → (A → B) → OnOk r A → OnOk r B
map_ok (Ok x) A B f a = f a
map_ok (Err e) A B f a = a

module _ (nodes : List Node) (s : Scope) (start : State) (hide : List ℕ → Bool) (hiding : (t : List ℕ) → hide t ≡ is_one_of (hidden_in nodes s) (name_word t)) where
  -- what is added of names and literals that are those of the unit
  pub scope_adds : (names literals : List Word) → names ≡ names_of nodes s → literals ≡ literals_of nodes start s → (effects : Effects) → effects ≡ effects_of nodes names literals hide start s
      → (answer : Option HeldValues) → IsHeldUnless s.graph effects answer → (old new : List (ℕ × Value)) → new ≡ old ++ sightings_from nodes (held_by answer names literals) 0 s.graph.points → AddsSeen nodes start s old new
  scope_adds names literals names_are literals_are effects effects_are answer is old new new_is =
      let its : effects ≡ effects_of nodes (names_of nodes s) (literals_of nodes start s) hide start s =
      effects_are ∙ ap (λ ns. effects_of nodes ns literals hide start s) names_are ∙ ap (λ ls. effects_of nodes (names_of nodes s) ls hide start s) literals_are in
      let answered = subst (λ e. IsHeldUnless s.graph e answer) its is in
      adds_seen nodes start s (held_by answer (names_of nodes s) (literals_of nodes start s)) (tells nodes s start hide hiding answer answered) old new
      (new_is ∙ ap (λ ns. old ++ sightings_from nodes (held_by answer ns literals) 0 s.graph.points) names_are ∙ ap (λ ls. old ++ sightings_from nodes (held_by answer (names_of nodes s) ls) 0 s.graph.points) literals_are)
