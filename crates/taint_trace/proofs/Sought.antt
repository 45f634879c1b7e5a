-- Goals of a sink, and units with their graphs.
use Rattle.std.proofs.Common.{◌≡◌, inl, inr, ℕ, ◌<◌, Bool, true, false, List, [], ◌∷◌, length, map, refl, sym, ap, ◌∙◌, subst, arith, None, Some}
use Rattle.std.specs.Prelude.{Option, slice_get, filter, cond, ◌==◌}
use Rattle.std.specs.Option.{option_map}
use Rattle.std.proofs.lemmas.List.{length-map}
use Rattle.std.proofs.lemmas.Option.{slice_get-map, slice_get_within}
use Rattle.node_tree.specs.declared.node.Node.{Node}
use Rattle.graph_form.specs.declared.graph.Graph.{Graph}
use Rattle.graph_form.specs.Sets.{Among}
use Rattle.flow_graph.specs.Units.{units_of, points_of, Goes, IsGraphOf}
use Rattle.flow_reach.specs.Carried.{Inside, Pairs}
use Rattle.flow_reach.proofs.Sorted.{got_among}
use Rattle.unit_names.specs.declared.scope.Scope.{Scope}
use Rattle.unit_names.specs.Scopes.{AreScopes}
use Rattle.taint_plan.specs.declared.goal.Goal.{Goal}
use Rattle.taint_flow.specs.declared.moves.UnitMoves.{UnitMoves}
use Rattle.taint_flow.specs.Traces.{goals_of, AreGoals}

goal_there : (sink : ℕ) (goals : List Goal) (point fact : ℕ) → Among {X = ℕ × ℕ} (goals_of sink goals) (point, fact) → (g : Goal) × Among goals g × (g.point ≡ point) × (g.fact ≡ fact)
goal_there sink [] point fact none = absurd none
goal_there sink (g ∷ gs) point fact among = by (goal_there sink gs point fact) (g.sink == sink) among
  where
    by : (Among {X = ℕ × ℕ} (goals_of sink gs) (point, fact) → (h : Goal) × Among gs h × (h.point ≡ point) × (h.fact ≡ fact)) → (b : Bool)
        → Among {X = ℕ × ℕ} (map (λ (x : Goal). (x.point, x.fact)) (cond b (g ∷ filter (λ (x : Goal). x.sink == sink) gs) (filter (λ (x : Goal). x.sink == sink) gs))) (point, fact) → (h : Goal) × Among (g ∷ gs) h × (h.point ≡ point) × (h.fact ≡ fact)
    by below true (inl e) = (g, inl refl, ap (λ (p : ℕ × ℕ). p.0) e, ap (λ (p : ℕ × ℕ). p.1) e)
    by below true (inr more) = let (h, there, p, f) = below more in (h, inr there, p, f)
    by below false more = let (h, there, p, f) = below more in (h, inr there, p, f)

-- the goals of a sink are of points and facts that are there
pub goals_inside : (graph : Graph) (m : UnitMoves) → AreGoals graph m → (sink : ℕ) → Inside (Pairs (goals_of sink m.goals)) graph m.moves
goals_inside graph m are sink point fact among =
    let (g, there, p, f) = goal_there sink m.goals point fact among in
    let (in_points, in_facts) = are g there in
    (subst (λ x. x < length graph.points) p in_points, subst (λ x. x < m.moves.facts) f in_facts)

-- the unit at a place, with its graph
module _ (root : Node) (scopes : List Scope) (are : AreScopes root scopes) where
  pub unit_at : (i : ℕ) (s : Scope) → slice_get scopes i ≡ Some s → slice_get (units_of root) i ≡ Some s.unit
  unit_at i s got = ap (λ (us : List ℕ). slice_get us i) (sym are.units) ∙ slice_get-map (λ (t : Scope). t.unit) scopes i ∙ ap (option_map (λ (t : Scope). t.unit)) got

  pub graph_at : (i : ℕ) (s : Scope) → slice_get scopes i ≡ Some s → IsGraphOf (points_of root s.unit) (Goes root s.unit) s.graph
  graph_at i s got = are.graphs s (got_among scopes i s got)

  pub as_many : (i unit : ℕ) → slice_get (units_of root) i ≡ Some unit → i < length scopes
  as_many i unit got =
      let within = slice_get_within (units_of root) i unit got in
      let many : length (units_of root) ≡ length scopes = ap length (sym are.units) ∙ length-map scopes (λ (t : Scope). t.unit) in
      omega (arith, within, many)

  pub scope_at : (i unit : ℕ) → slice_get (units_of root) i ≡ Some unit → (s : Scope) × (slice_get scopes i ≡ Some s) × (s.unit ≡ unit)
  scope_at i unit got = map_got scopes (ap (λ (us : List ℕ). slice_get us i) are.units ∙ got)
    where
      map_got : (ss : List Scope) → slice_get (map (λ (t : Scope). t.unit) ss) i ≡ Some unit → (s : Scope) × (slice_get ss i ≡ Some s) × (s.unit ≡ unit)
      map_got ss e = by (slice_get ss i) refl (sym (slice_get-map (λ (t : Scope). t.unit) ss i) ∙ e)
        where
          by : (o : Option Scope) → slice_get ss i ≡ o → option_map (λ (t : Scope). t.unit) (slice_get ss i) ≡ Some unit → (s : Scope) × (slice_get ss i ≡ Some s) × (s.unit ≡ unit)
          by None f g = absurd (let h : option_map (λ (t : Scope). t.unit) None ≡ Some unit = ap (option_map (λ (t : Scope). t.unit)) (sym f) ∙ g in cc)
          by (Some s) f g = (s, f, let h : Some s.unit ≡ Some unit = ap (option_map (λ (t : Scope). t.unit)) (sym f) ∙ g in cc)
