use Rattle.std.proofs.Common.{◌≡◌, ◌↔◌, ◌++◌, ℕ, List, map, ap, ◌∙◌, subst}
use Rattle.std.specs.Prelude.{filter}
use Rattle.std.specs.List.{flat_map}
use Rattle.node_tree.specs.declared.span.Span.{Span}
use Rattle.node_tree.specs.Numbers.{Numbered}
use Rattle.node_tree.specs.Tree.{text_of, span_of}
use Rattle.node_pool.specs.Spots.{all_seen}
use Rattle.graph_form.specs.Sets.{Among}
use Rattle.assignments.specs.Declarators.{parameters_of}
use Rattle.taint_form.specs.Expressions.{has_span}
use Rattle.taint_tables.specs.Censuses.{texts}
use Rattle.taint_tables.specs.Names.{names_at, names_among, spans_at, spans_among}
use Rattle.taint_tables.proofs.CensusLists.{name_places, source_places}
use Rattle.taint_tables.proofs.counting.census_of.Goals as goal

pub returns : goal.returns
returns c sources holds =
    let nodes = c.args.tree.now in
    let points = c.args.points.now in
    let own : all_seen c.as_slice.result.now ≡ parameters_of nodes c.args.unit = ap all_seen c.as_slice.ensures ∙ c.in_ok-own.ensures in
    let text : Numbered → List ℕ = λ s. text_of s.node in
    let span : Numbered → Span = λ s. span_of s.node in
    let names : texts c.as_slice-2.result.now ≡ names_among nodes c.args.unit points =
    ap texts c.as_slice-2.ensures ∙ c.in_ok-add_all.ensures.names
    ∙ ap (λ xs. xs ++ map text (all_seen c.as_slice.result.now)) (c.in_ok-add_points.ensures.names ∙ ap (λ xs. texts xs ++ flat_map (names_at nodes) points) c.new-names.ensures)
    ∙ ap (λ ss. flat_map (names_at nodes) points ++ map text ss) own in
    let spans : c.as_slice-3.result.now ≡ spans_among nodes c.args.unit points =
    c.as_slice-3.ensures ∙ c.in_ok-add_all.ensures.spans
    ∙ ap (λ xs. xs ++ map span (all_seen c.as_slice.result.now)) (c.in_ok-add_points.ensures.spans ∙ ap (λ xs. xs ++ flat_map (spans_at nodes) points) c.new-spans.ensures)
    ∙ ap (λ ss. flat_map (spans_at nodes) points ++ map span ss) own in
    let P : List (List ℕ) → Type 0 = λ ns. (n : List ℕ) → Among (texts c.in_ok-names.names.keys.items) n ↔ Among ns n in
    let Q : List Span → Type 0 = λ ss. (s : Span) → Among c.in_ok-sources.sources.keys.items s ↔ Among (filter (has_span sources) ss) s in
    record {
      numbered = record {
        names = name_places c.in_ok-names.names.numbers c.in_ok-names.names.keys.items c.in_ok-names.ensures.numbers;
        sources = source_places c.in_ok-sources.sources.numbers c.in_ok-sources.sources.keys.items c.in_ok-sources.ensures.numbers;
      };
      has_names = subst P names c.in_ok-names.ensures.same;
      has_sources = subst Q spans (c.in_ok-sources.ensures.same sources holds);
    }
