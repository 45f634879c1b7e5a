-- One unit more.
use Rattle.std.proofs.Common.{◌≡◌, ℕ, ◌+◌, ◌<◌, ◌⊎◌, inl, inr, List, [], ◌∷◌, ◌++◌, length, take, map, get_or, sym, ap, ◌∙◌, subst}
use Rattle.std.proofs.lemmas.List.{take_more, map-append}
use Rattle.node_tree.specs.declared.node.Node.{Node}
use Rattle.graph_form.specs.declared.graph.Graph.{Graph}
use Rattle.graph_form.specs.Sets.{Among}
use Rattle.graph_form.proofs.Amongs.{among_push}
use Rattle.flow_graph.specs.Units.{points_of, Goes, IsGraphOf}
use Rattle.unit_names.specs.declared.scope.Scope.{Scope}
use Rattle.unit_names.specs.Scopes.{AreScopesOf}

pub scope_more : (root : Node) (numbers : List ℕ) (i d : ℕ) (graph : Graph) (old new : List Scope) → i < length numbers → IsGraphOf (points_of root (get_or numbers i d)) (Goes root (get_or numbers i d)) graph → AreScopesOf root (take i numbers) old
    → new ≡ old ++ record { unit = get_or numbers i d; graph = graph } ∷ [] → AreScopesOf root (take (i + 1) numbers) new
scope_more root numbers i d graph old new lt is so new_is = record {
  units = ap (map (λ (s : Scope). s.unit)) new_is ∙ map-append (λ (s : Scope). s.unit) old (one ∷ []) ∙ ap (λ ns. ns ++ get_or numbers i d ∷ []) so.units ∙ sym (take_more numbers i d lt);
  graphs = λ s among. each s ((among_push old one s).0 (subst (λ ss. Among ss s) new_is among));
}
  where
    one : Scope
    one = record { unit = get_or numbers i d; graph = graph }

    each : (s : Scope) → Among old s ⊎ (one ≡ s) → IsGraphOf (points_of root s.unit) (Goes root s.unit) s.graph
    each s (inl among) = so.graphs s among
    each s (inr e) = subst (λ (t : Scope). IsGraphOf (points_of root t.unit) (Goes root t.unit) t.graph) e is

pub scope_none : (root : Node) (scopes : List Scope) → scopes ≡ [] → AreScopesOf root [] scopes
scope_none root scopes none = record {
  units = ap (map (λ (s : Scope). s.unit)) none;
  graphs = λ s among. absurd (subst (λ ss. Among ss s) none among);
}
