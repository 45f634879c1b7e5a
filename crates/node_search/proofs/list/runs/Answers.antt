use Rattle.std.specs.Prelude.{Some}
use Rattle.std.proofs.Common.{◌≡◌, ◌∷◌, ◌∙◌, sym, arith, drop}
use Rattle.node_match.proofs.Sets.{gathered, plus_as, chain}
use Rattle.node_search.proofs.Going.{after_run, goes_more, goes_last}
use Rattle.std.proofs.lemmas.List.{drop_all}
use Rattle.node_search.proofs.Steps.{floating_from, staying_from, goes_at}
use Rattle.node_search.specs.States.{line_of}
use Rattle.node_search.proofs.list.runs.Goals as goal
use Rattle.node_tree.specs.Numbers.{kids_at}
use Rattle.node_pool.specs.Spots.{seen}

pub loop-at-preserved : goal.loop-at-preserved
loop-at-preserved c k ps b =
    let run = after_run k (seen c.args.holder) c.args.pattern.now ps (drop c.loop-at.at (kids_at (seen c.args.holder))) c.args.state.now.trail b c.requires in
    gathered _ _ _ _ _ _ (plus_as _ _ _ _ (c.in_ok-runs_at.ensures k ps b) run)
    (goes_more k (seen c.args.holder) (Some c.args.pattern.now ∷ ps) (kids_at (seen c.args.holder)) c.args.state.now.trail b c.loop-at.at) (c.loop-at.invariant k ps b)

pub returns-then-state : goal.returns-then-state
returns-then-state c k ps b =
    let h = (seen c.args.holder) in
    let ns = kids_at (seen c.args.holder) in
    let trail = c.args.state.now.trail in
    let past : drop c.count_kids-end.result ns ≡ drop c.loop-at.at ns = drop_all _ ns (omega (arith, c.count_kids-end.ensures)) ∙ sym (drop_all _ ns (omega (arith, c.count_kids-end.ensures))) in
    let last = chain _ _ _ (chain _ _ _ (after_run k h c.args.pattern.now ps (drop c.count_kids-end.result ns) trail b c.requires)
    (goes_last k h (Some c.args.pattern.now ∷ ps) ns trail b c.count_kids-end.result (omega (arith, c.count_kids-end.ensures))))
    (goes_at k h (Some c.args.pattern.now ∷ ps) _ _ trail b past) in
    let all = chain _ _ _ (plus_as _ _ _ _ (c.in_ok-runs_at-2.ensures k ps b) last) (c.loop-at.invariant k ps b) in
    plus_as _ _ _ _ all (floating_from k (line_of h) (Some c.args.pattern.now ∷ ps) c.args.state.now c.place-start.result b c.if-state.true c.place-start.ensures.same)

pub returns : goal.returns
returns c k ps b =
    let h = (seen c.args.holder) in
    let one = chain _ _ _ (after_run k h c.args.pattern.now ps (drop c.place-start.result (kids_at h)) c.args.state.now.trail b c.requires)
    (staying_from k (line_of h) (Some c.args.pattern.now ∷ ps) c.args.state.now c.place-start.result b c.if-state.false c.place-start.ensures.same) in
    plus_as _ _ _ _ (c.in_ok-runs_at-3.ensures k ps b) one
