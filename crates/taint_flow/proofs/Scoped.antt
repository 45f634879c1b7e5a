-- The units of a file, one after the other: their sizes, and the least sources so far.
use Rattle.std.proofs.Common.{◌≡◌, ◌⊎◌, ◌↔◌, inl, inr, ℕ, zero, suc, ◌+◌, ◌*◌, ◌<◌, ◌≤◌, List, [], ◌∷◌, length, take, map, refl, sym, ap, ◌∙◌, subst, arith, Some}
use Rattle.std.specs.Prelude.{Option, slice_get}
use Rattle.std.specs.Option.{option_map}
use Rattle.std.proofs.lemmas.Bool.{cases_eq}
use Rattle.std.proofs.lemmas.List.{length-map, take_all}
use Rattle.std.proofs.lemmas.Option.{slice_get-map, slice_get_within, get_or_from_slice_get}
use Rattle.node_tree.specs.declared.node.Node.{Node}
use Rattle.node_tree.specs.declared.span.Span.{Span}
use Rattle.node_tree.specs.Tree.{pre_of}
use Rattle.graph_form.specs.declared.graph.Point.{Point}
use Rattle.graph_form.specs.Sets.{Among}
use Rattle.graph_form.proofs.Amongs.{among_more}
use Rattle.flow_reach.proofs.Sorted.{got_among, among_got}
use Rattle.flow_graph.specs.Units.{units_of}
use Rattle.unit_names.specs.declared.scope.Scope.{Scope}
use Rattle.unit_names.specs.Scopes.{AreScopes}
use Rattle.taint_tables.specs.declared.census.Census.{Census}
use Rattle.taint_flow.specs.declared.hit.TaintHit.{TaintHit}
use Rattle.taint_tables.specs.declared.sets.TaintSets.{TaintSets}
use Rattle.taint_tables.specs.Censuses.{IsCensus}
use Rattle.taint_flow.specs.Lowest.{AreLeast, AreListed, HitsAmong, HitsIn, IsNone, Lowers}
use Rattle.taint_flow.specs.Scoped.{IsScope}
use Rattle.taint_flow.specs.Sizes.{NoneLarge, FirstLarge, size_of, start_of}
use Rattle.taint_flow.specs.Taint.{AreHits}
use Rattle.taint_flow.proofs.Counted.{size_alone, size_is}
use Rattle.taint_flow.proofs.Hits.{are_hits}
use Rattle.taint_flow.proofs.Lowest.{least_more, least_none}
use Rattle.taint_flow.proofs.Searching.{source_counted}

no_items : {X : Type 0} (xs : List X) → length xs ≡ 0 → xs ≡ []
no_items [] e = refl
no_items (x ∷ xs) e = absurd (omega (arith, e))

-- ---- one unit

-- with no sources a unit is as large as it has points
pub size_by_points : (root : Node) (nodes : List Node) (scope : Scope) (sets : TaintSets) (points : List Point) → points ≡ scope.graph.points → length sets.sources ≡ 0 → IsScope root nodes scope → size_of root scope.unit sets ≡ length points * (0 * 0 + 1)
size_by_points root nodes scope sets points same none is = size_alone root scope.unit scope.graph is.graph sets (no_items sets.sources none) ∙ ap (λ (ps : List Point). length ps * (0 * 0 + 1)) (sym same)

-- the points are those of the unit, and the census is theirs, with so many names and sources
pub record IsCounted (nodes : List Node) (scope : Scope) (sets : TaintSets) (points : List Point) (census : Census) (names sources : ℕ) : Type 0 where
  pub points_are : points ≡ scope.graph.points
  pub census_is : IsCensus nodes scope.unit points sets.sources census
  pub name_count : names ≡ length census.names.keys.items
  pub source_count : sources ≡ length census.sources.keys.items

module _ (root : Node) (nodes : List Node) (scope : Scope) (sets : TaintSets) (points : List Point) (census : Census) (names sources : ℕ) (counted : IsCounted nodes scope sets points census names sources) (is : IsScope root nodes scope) where
  of_unit : IsCensus (pre_of root) scope.unit scope.graph.points sets.sources census
  of_unit =
      let C : List Node → Type 0 = λ ns. IsCensus ns scope.unit scope.graph.points sets.sources census in
      let P : List Point → Type 0 = λ ps. IsCensus nodes scope.unit ps sets.sources census in
      subst C is.nodes_are (subst P counted.points_are counted.census_is)

  pub size_by_census : size_of root scope.unit sets ≡ length points * (names * sources + 1)
  size_by_census =
      size_is root scope.unit scope.graph is.graph sets census of_unit
      ∙ ap (λ (ps : List Point). length ps * (length census.names.keys.items * length census.sources.keys.items + 1)) (sym counted.points_are)
      ∙ ap (λ n. length points * (n * length census.sources.keys.items + 1)) (sym counted.name_count)
      ∙ ap (λ n. length points * (names * n + 1)) (sym counted.source_count)

  -- where no source stands in a unit, nothing is hit
  pub nothing_hit : sources ≡ 0 → (sink : ℕ) (source : Span) → HitsIn root scope.unit sets sink source → ⊥
  nothing_hit none sink source hits =
      let P : List Span → Type 0 = λ ss. Among ss source in
      subst P (no_items census.sources.keys.items (sym counted.source_count ∙ none)) (source_counted root scope.unit sets scope.graph census is.graph of_unit sink source hits)

-- ---- all units

map_got : {X Y : Type 0} (f : X → Y) (xs : List X) (i : ℕ) (y : Y) → slice_get (map f xs) i ≡ Some y → (x : X) × (slice_get xs i ≡ Some x) × (f x ≡ y)
map_got f [] i y e = absurd cc
map_got f (x ∷ xs) zero y e = (x, refl, let q : Some (f x) ≡ Some y = e in cc)
map_got f (x ∷ xs) (suc i) y e = map_got f xs i y e

abbrev pub units_in : List Scope → List ℕ
units_in = map (λ (s : Scope). s.unit)

module _ (root : Node) (sets : TaintSets) (scopes : List Scope) where
  -- none of the first so many units is too large, and the table has the least sources of these
  pub record IsSoFar (n : ℕ) (table : List (Option Span)) : Type 0 where
    pub size : length table ≡ length sets.sinks
    pub least : AreLeast (HitsAmong root (take n (units_in scopes)) sets) table
    pub small : (i : ℕ) (scope : Scope) → i < n → slice_get scopes i ≡ Some scope → size_of root scope.unit sets ≤ 50000000

  pub so_far_none : (table : List (Option Span)) → length table ≡ length sets.sinks → IsNone table → IsSoFar 0 table
  so_far_none table size none = record {
    size = size;
    least = least_none (HitsAmong root [] sets) table none (λ sink source (unit, among, hits). absurd among);
    small = λ i scope lt at. absurd (omega (arith, lt));
  }

  unit_at : (i : ℕ) (scope : Scope) → slice_get scopes i ≡ Some scope → slice_get (units_in scopes) i ≡ Some scope.unit
  unit_at i scope at = slice_get-map (λ (s : Scope). s.unit) scopes i ∙ ap (option_map (λ (s : Scope). s.unit)) at

  pub so_far_more : (i : ℕ) (scope : Scope) (old new : List (Option Span)) → slice_get scopes i ≡ Some scope → IsSoFar i old → Lowers (HitsIn root scope.unit sets) old new → size_of root scope.unit sets ≤ 50000000 → IsSoFar (i + 1) new
  so_far_more i scope old new at so low small = record {
    size = low.size ∙ so.size;
    least = least_more (HitsAmong root (take i units) sets) (HitsIn root scope.unit sets) (HitsAmong root (take (i + 1) units) sets) old new both so.least low;
    small = λ j other lt there. elim (cases_eq j i) [
      | inl e ↦ (
          let same : scope ≡ other = (let q : Some scope ≡ Some other = sym at ∙ ap (slice_get scopes) (sym e) ∙ there in cc) in
          let P : Scope → Type 0 = λ s. size_of root s.unit sets ≤ 50000000 in
          subst P same small
          )
      | inr ne ↦ so.small j other (omega (arith, lt, ne)) there
    ];
  }
    where
      units : List ℕ
      units = units_in scopes

      more : (unit : ℕ) → Among (take (i + 1) (units_in scopes)) unit ↔ (Among (take i (units_in scopes)) unit ⊎ (scope.unit ≡ unit))
      more unit =
          let lt = slice_get_within (units_in scopes) i scope.unit (unit_at i scope at) in
          let P : ℕ → Type 0 = λ u. Among (take (i + 1) (units_in scopes)) unit ↔ (Among (take i (units_in scopes)) unit ⊎ (u ≡ unit)) in
          subst P (get_or_from_slice_get (units_in scopes) i scope.unit 0 (unit_at i scope at)) (among_more (units_in scopes) i 0 lt unit)

      both : (sink : ℕ) (source : Span) → HitsAmong root (take (i + 1) (units_in scopes)) sets sink source ↔ (HitsAmong root (take i (units_in scopes)) sets sink source ⊎ HitsIn root scope.unit sets sink source)
      both sink source = (
        λ (unit, among, hits). elim ((more unit).0 among) [
          | inl before ↦ inl (unit, before, hits)
          | inr e ↦ inr (let P : ℕ → Type 0 = λ u. HitsIn root u sets sink source in subst P (sym e) hits)
        ],
        λ h. elim h [
          | inl (unit, before, hits) ↦ (unit, (more unit).1 (inl before), hits)
          | inr hits ↦ (scope.unit, (more scope.unit).1 (inr refl), hits)
        ],
      )

  module _ (are : AreScopes root scopes) where
    pub scope_is : (nodes : List Node) (i : ℕ) (scope : Scope) → nodes ≡ pre_of root → slice_get scopes i ≡ Some scope → IsScope root nodes scope
    scope_is nodes i scope e at = record { nodes_are = e; graph = are.graphs scope (got_among scopes i scope at) }

    scope_at : (i unit : ℕ) → slice_get (units_of root) i ≡ Some unit → (scope : Scope) × (slice_get scopes i ≡ Some scope) × (scope.unit ≡ unit)
    scope_at i unit at = map_got (λ (s : Scope). s.unit) scopes i unit (ap (λ us. slice_get us i) are.units ∙ at)

    -- all units are done
    pub all_hits : (n : ℕ) (table : List (Option Span)) (hits : List TaintHit) → length scopes ≤ n → IsSoFar n table → AreListed table hits → AreHits root sets hits
    all_hits n table hits end so listed =
        let size = length-map scopes (λ (s : Scope). s.unit) in
        let whole : take n (units_in scopes) ≡ units_of root = take_all n (units_in scopes) (omega (arith, end, size)) ∙ are.units in
        let P : List ℕ → Type 0 = λ us. AreLeast (HitsAmong root us sets) table in
        are_hits root sets table hits (subst P whole so.least) listed

    pub none_large : (n : ℕ) (table : List (Option Span)) → length scopes ≤ n → IsSoFar n table → NoneLarge root sets
    none_large n table end so unit among =
        let (i, at) = among_got (units_of root) unit among in
        let (scope, there, same) = scope_at i unit at in
        let lt = slice_get_within scopes i scope there in
        let P : ℕ → Type 0 = λ u. size_of root u sets ≤ 50000000 in
        subst P same (so.small i scope (omega (arith, lt, end)) there)

    -- a unit is too large
    pub first_large : (i : ℕ) (scope : Scope) (table : List (Option Span)) (start : ℕ) → slice_get scopes i ≡ Some scope → IsSoFar i table → 50000000 < size_of root scope.unit sets → start ≡ start_of root scope.unit → FirstLarge root sets start
    first_large i scope table start at so large begins = record {
      place = i;
      unit = scope.unit;
      stands = ap (λ us. slice_get us i) (sym are.units) ∙ unit_at i scope at;
      large = large;
      first = λ j other lt there.
          let (before, stands, same) = scope_at j other there in
          let P : ℕ → Type 0 = λ u. size_of root u sets ≤ 50000000 in
          subst P same (so.small j before lt stands);
      start = begins;
    }
