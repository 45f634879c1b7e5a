-- What a search finds among the arguments of a call.
use Rattle.std.proofs.Common.{◌≡◌, ◌↔◌, ℕ, List, [], ◌∷◌, drop, refl, sym, ap, ◌∙◌, subst, Bool, true}
use Rattle.node_tree.specs.declared.known.Known.{Known}
use Rattle.node_tree.specs.declared.node.Node.{Node}
use Rattle.node_tree.specs.Tree.{kids_of}
use Rattle.node_tree.specs.Numbers.{Numbered, kids_at}
use Rattle.node_pool.specs.declared.spot.Spot.{Spot}
use Rattle.node_pool.specs.Spots.{seen, all_seen}
use Rattle.meta_bind.specs.declared.bound.Bound.{Bound}
use Rattle.node_match.specs.Orders.{choosers, has_dots, unnamed_of, named_at, unnamed_at, all_asked}
use Rattle.node_match.specs.Choices.{untaken, Chosen}
use Rattle.node_match.specs.Fronts.{End, Leads}
use Rattle.node_match.proofs.FrontLaws.{whole_front}
use Rattle.node_match.specs.Relation.{MatchesArguments, MatchesList}
use Rattle.node_match.proofs.Arguments.{parted_arguments}
use Rattle.node_match.proofs.Choosing.{chosen_as}
use Rattle.tree_match.specs.declared.aim.Aim.{Aim}
use Rattle.tree_match.specs.declared.outer.Outer.{Outer}
use Rattle.tree_match.specs.declared.outer.Left.{Left}
use Rattle.tree_match.specs.Members.{Member}
use Rattle.tree_match.specs.Aims.{Resumes, GivesOn}
use Rattle.tree_match.specs.Choosings.{IsArgumentChoice}
use Rattle.tree_match.specs.Insides.{AreArguments}

module _ (C : List Known) (aim : Aim) (p : Node) (spot : Spot) (nodes : List Spot) (taken : List Bool) (o : Outer) (os : List Outer) (m : Member) where
  abbrev n : Numbered
  n = seen spot

  -- after the arguments without a name those with one are chosen
  resumes : (e : End) → IsArgumentChoice p spot nodes taken o → untaken taken (all_seen nodes) ≡ named_at (kids_at n)
      → Resumes C (λ (f : End). GivesOn C aim (seen o.holder.spot) os m f) o o.left e ↔ ((e.0 ≡ []) × ((d : List Bound) × GivesOn C aim n os m ([], d) × Chosen C true (has_dots (kids_of p)) (kids_of p) (named_at (kids_at n)) e.1 d))
  resumes e choice free =
      let left = choice.left in
      let After : List Bound → Type 0 = λ d. Chosen C true (has_dots (kids_of p)) (kids_of p) (named_at (kids_at n)) e.1 d in
      let L : Left → Type 0 = λ l. Resumes C (λ (f : End). GivesOn C aim (seen o.holder.spot) os m f) o l e ↔ ((e.0 ≡ []) × ((d : List Bound) × GivesOn C aim n os m ([], d) × After d)) in
      let S : Spot → Type 0 = λ x. (d : List Bound) → GivesOn C aim (seen x) os m ([], d) ↔ GivesOn C aim n os m ([], d) in
      let gives : S o.holder.spot = subst S (sym choice.holder) (λ d. (λ x. x, λ x. x)) in
      let parts : drop o.from (kids_of o.pattern.now) ≡ kids_of p = ap (λ (k : ℕ). drop k (kids_of o.pattern.now)) choice.from ∙ ap kids_of choice.pattern in
      let among : untaken left.taken.now (all_seen left.nodes.now) ≡ named_at (kids_at n) =
      ap (λ (ts : List Bool). untaken ts (all_seen left.nodes.now)) choice.free ∙ ap (λ (xs : List Spot). untaken taken (all_seen xs)) choice.among ∙ free in
      let N : Bool → Type 0 = λ t. (d : List Bound) → Chosen C t left.loose (drop o.from (kids_of o.pattern.now)) (untaken left.taken.now (all_seen left.nodes.now)) e.1 d ↔ After d in
      let chosen : N left.named = subst N (sym choice.named) (λ d. chosen_as C true _ _ _ _ _ _ e.1 d choice.loose (ap (choosers true) parts) among) in
      subst L (sym choice.is) (
        λ (none, (d, x, y)). (none, (d, (gives d).0 x, (chosen d).0 y)),
        λ (none, (d, x, y)). (none, (d, (gives d).1 x, (chosen d).1 y)),
      )

  -- a search among the arguments without a name, and then by choosing among the others
  pub arguments_found : (lists : List Outer) (ks : List Numbered) (b : List Bound) → lists ≡ o ∷ os → IsArgumentChoice p spot nodes taken o → ks ≡ unnamed_at (kids_at n) → untaken taken (all_seen nodes) ≡ named_at (kids_at n) → AreArguments p n.node
      → ((e : End) × GivesOn C aim n lists m e × Leads C n (all_asked (unnamed_of (kids_of p))) ks b e) ↔ ((c : List Bound) × GivesOn C aim n os m ([], c) × MatchesArguments C p n b c)
  arguments_found lists ks b are choice kids free (kind, text, _) =
      let qs = all_asked (unnamed_of (kids_of p)) in
      let After : List Bound → List Bound → Type 0 = λ e d. Chosen C true (has_dots (kids_of p)) (kids_of p) (named_at (kids_at n)) e d in
      let O : List Outer → Type 0 = λ xs. (e : End) → GivesOn C aim n xs m e ↔ ((e.0 ≡ []) × ((d : List Bound) × GivesOn C aim n os m ([], d) × After e.1 d)) in
      let gives : O lists = subst O (sym are) (λ e. resumes e choice free) in
      let K : List Numbered → Type 0 = λ ns. (e : List Bound) → MatchesList C n qs ks b e ↔ MatchesList C n qs ns b e in
      let list : K (unnamed_at (kids_at n)) = subst K kids (λ e. (λ x. x, λ x. x)) in
      let front = λ (e : List Bound). whole_front C n qs ks b e in
      let parted = λ (d : List Bound). parted_arguments C p n b d kind text in (
        λ (e, g, x).
            let (none, (d, g2, z)) = (gives e).0 g in
            let L : List Numbered → Type 0 = λ ns. Leads C n qs ks b (ns, e.1) in
            (d, g2, (parted d).0 (e.1, (list e.1).0 ((front e.1).0 (subst L none x)), z)),
        λ (d, g, w).
            let (e, y, z) = (parted d).1 w in
            (([], e), (gives ([], e)).1 (refl, (d, g, z)), (front e).1 ((list e).1 y)),
      )
