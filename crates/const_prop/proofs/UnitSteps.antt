-- The loop over units: one unit more.
use Rattle.std.proofs.Common.{◌≡◌, ◌⊎◌, inl, inr, ℕ, ◌+◌, ◌<◌, ◌≤◌, List, [], ◌∷◌, ◌++◌, length, take, drop, get_or, sym, ap, ◌∙◌, subst, arith}
use Rattle.std.specs.List.{list_any}
use Rattle.std.proofs.lemmas.List.{take_more}
use Rattle.node_tree.specs.declared.node.Node.{Node}
use Rattle.graph_form.specs.Sets.{Among}
use Rattle.graph_form.proofs.Amongs.{among_at, among_push}
use Rattle.unit_names.specs.declared.scope.Scope.{Scope}
use Rattle.unit_names.specs.Scopes.{AreScopes}
use Rattle.unit_names.specs.Words.{Word}
use Rattle.unit_effects.specs.declared.entry.Entry.{Entry}
use Rattle.unit_effects.specs.Fixed.{Value, State}
use Rattle.unit_effects.specs.Functions.{AreOpen, all_functions, entered}
use Rattle.unit_effects.specs.Numbering.{entry_value}
use Rattle.unit_effects.specs.Once.{IsFixed}
use Rattle.const_prop.specs.Constants.{start_of}
use Rattle.const_prop.specs.Sights.{IsHiding, IsWhole, AddsSeen}
use Rattle.const_prop.specs.Units.{AreSeen, AreStillOpen}
use Rattle.const_prop.proofs.Around.{more_open, open_now, entry_is}
use Rattle.const_prop.proofs.Fitting.{is_whole}
use Rattle.const_prop.proofs.Sightings.{seen_more}
use Rattle.const_prop.proofs.UnitOrder.{begin_before, begin_behind, split_at}

module _ (root : Node) (nodes : List Node) (scopes : List Scope) (are : AreScopes root scopes) (i : ℕ) (s : Scope) (lt : i < length scopes) (is : s ≡ get_or scopes i s) where
  -- its graph is one
  pub unit_whole : IsWhole s.graph
  unit_whole = is_whole root s.unit s.graph (are.graphs s (subst (Among scopes) (sym is) (among_at scopes i s lt)))

  up_to : take i scopes ++ s ∷ [] ≡ take (i + 1) scopes
  up_to = sym (take_more scopes i s lt ∙ ap (λ t. take i scopes ++ t ∷ []) (sym is))

  before : (t : Scope) → Among (take i scopes) t → t.unit ≤ s.unit
  before t among = subst (λ (u : Scope). t.unit ≤ u.unit) (sym is) (begin_before root scopes are i s lt t among)

  behind : (t : Scope) → Among (drop (i + 1) scopes) t → s.unit < t.unit
  behind t among = subst (λ (u : Scope). u.unit < t.unit) (sym is) (begin_behind root scopes are i s lt t among)

  no_later : (t : Scope) → Among (take i scopes ++ s ∷ []) t → t.unit ≤ s.unit
  no_later t among = either ((among_push (take i scopes) s t).0 among)
    where
      either : Among (take i scopes) t ⊎ (s ≡ t) → t.unit ≤ s.unit
      either (inl h) = before t h
      either (inr e) = subst (λ (u : Scope). u.unit ≤ s.unit) e (omega arith)

  split : scopes ≡ (take i scopes ++ s ∷ []) ++ drop (i + 1) scopes
  split = split_at root scopes are i s lt ∙ ap (λ t. (take i scopes ++ t ∷ []) ++ drop (i + 1) scopes) (sym is)

  module _ (old left new : List (ℕ × List Word)) (so : AreStillOpen nodes (take i scopes) old) (dropped : AreOpen s.unit old left) (new_is : new ≡ left ++ entered nodes s) where
    -- the functions that are open then
    pub unit_open : AreStillOpen nodes (take (i + 1) scopes) new
    unit_open = subst (λ (ss : List Scope). AreStillOpen nodes ss new) up_to (more_open nodes (take i scopes) s old left new so dropped new_is)

    -- what its names hold at the entry
    pub unit_start : (e : Entry) → e.unit ≡ s.unit → IsHiding nodes s e → IsFixed nodes scopes e.fixed.now → all_functions e.around.now ≡ new → entry_value e ≡ start_of nodes scopes s
    unit_start e unit hiding fixed around =
        entry_is nodes scopes (take i scopes ++ s ∷ []) (drop (i + 1) scopes) s e split no_later behind unit hiding fixed
        (λ test. ap (list_any test) around ∙ open_now nodes (take i scopes) s old left new so dropped new_is before test)

    -- what was seen then
    pub unit_seen : (start : State) (gs hs : List (ℕ × Value)) → AreSeen nodes scopes (take i scopes) gs → AddsSeen nodes start s gs hs → start ≡ start_of nodes scopes s → AreSeen nodes scopes (take (i + 1) scopes) hs
    unit_seen start gs hs seen adds start_is = subst (λ (ss : List Scope). AreSeen nodes scopes ss hs) up_to (seen_more nodes scopes (take i scopes) s start gs hs seen start_is adds)
