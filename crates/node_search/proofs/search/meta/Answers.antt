use Rattle.std.proofs.Common.{◌≡◌, ◌∙◌, sym, true, false, Bool, IsTrue}
use Rattle.node_match.proofs.Sets.{adds_as, adds_none, chain}
use Rattle.node_search.proofs.Steps.{binds_at, same_binding}
use Rattle.node_match.proofs.Inversion.{meta_terms, meta_wild, meta_named}
use Rattle.node_pool.specs.Spots.{seen}
use Rattle.node_search.proofs.search.meta.Goals as goal

pub returns-then-not-is_term : goal.returns-then-not-is_term
returns-then-not-is_term c =
    adds_none _ _ (λ b x. let yes = meta_terms c.args.known.names.now c.args.pattern.now (seen c.args.spot) c.args.trail.now c.requires b x in let no = sym c.is_term.ensures ∙ c.if-not-is_term.true in cc)

pub returns-then-is_wild : goal.returns-then-is_wild
returns-then-is_wild c =
    adds_as _ _ _ _ c.in_ok-put_trail.ensures
    (λ b. meta_wild c.args.known.names.now c.args.pattern.now (seen c.args.spot) c.args.trail.now c.requires (c.is_wild.ensures.0 c.if-is_wild.true) (sym c.is_term.ensures ∙ c.if-not-is_term.false) _ b c.in_ok-copy.ensures)

not_wild : {A : Type 0} (r : Bool) → (A → IsTrue r) → r ≡ false → A → ⊥
not_wild r f is a = let e : false ≡ true = sym is ∙ f a in cc

pub returns-in_ok-put_trail-2 : goal.returns-in_ok-put_trail-2
returns-in_ok-put_trail-2 c =
    let bound = binds_at c.args.spot.node.now _ _ _ _ c.args.trail.now _ _ c.as_str.ensures c.from_ref.ensures.value c.in-Some.is c.in_ok-bound.ensures in
    adds_as _ _ _ _ c.in_ok-put_trail-2.ensures
    (λ b. chain _ _ _ (same_binding c.args.spot.node.now _ _ c.args.trail.now _ bound b)
    (meta_named c.args.known.names.now c.args.pattern.now (seen c.args.spot) c.args.trail.now c.requires (not_wild _ c.is_wild.ensures.1 c.if-is_wild.false) (sym c.is_term.ensures ∙ c.if-not-is_term.false) b))
