use Rattle.std.proofs.Common.{◌≡◌, ◌∙◌, sym, true, false}
use Rattle.node_pool.specs.Spots.{all_seen}
use Rattle.node_match.specs.Choices.{untaken}
use Rattle.node_match.proofs.Sets.{adds_as, adds_none}
use Rattle.node_match.proofs.Choosing.{ends_loose, ends_shut, not_ended, none_left, all_gone, seen_many}
use Rattle.node_search.proofs.taken.settle.Goals as goal

pub returns-then-choice : goal.returns-then-choice
returns-then-choice c =
    let left = untaken c.args.taken.now (all_seen c.args.choice.nodes.now) in
    adds_as _ _ _ _ c.in_ok-put_trail.ensures (λ x. ends_loose c.args.choice.known.names.now c.args.choice.named c.args.choice.loose left c.args.trail.now _ x c.in_ok-copy.ensures c.if-choice.true)

pub returns-in_ok-put_trail-2 : goal.returns-in_ok-put_trail-2
returns-in_ok-put_trail-2 c =
    let nodes = all_seen c.args.choice.nodes.now in
    let none = none_left c.args.taken.now nodes (c.all_taken.ensures.0 c.if-all_taken.true) in
    adds_as _ _ _ _ c.in_ok-put_trail-2.ensures (λ x. ends_shut c.args.choice.known.names.now c.args.choice.named c.args.choice.loose (untaken c.args.taken.now nodes) c.args.trail.now _ x c.in_ok-copy-2.ensures none)

pub returns-else-all_taken : goal.returns-else-all_taken
returns-else-all_taken c =
    let nodes = all_seen c.args.choice.nodes.now in
    let many = c.requires.size ∙ sym (seen_many c.args.choice.nodes.now) in
    adds_none _ _ (λ x. not_ended c.args.choice.known.names.now c.args.choice.named c.args.choice.loose (untaken c.args.taken.now nodes) c.args.trail.now x c.if-choice.false
    (λ e. let f : false ≡ true = sym c.if-all_taken.false ∙ c.all_taken.ensures.1 (all_gone c.args.taken.now nodes many e) in cc))
