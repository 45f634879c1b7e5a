use Rattle.std.proofs.Common.{◌≡◌, ◌∷◌, [], ◌∙◌, ◌+◌, inl, ap, sym, arith, drop, true, false, refl, subst, length, length-set, List, Bool, get_or, set, ◌↔◌}
use Rattle.std.specs.Prelude.{Some}
use Rattle.std.proofs.lemmas.List.{drop_all, get_or_default}
use Rattle.node_tree.specs.declared.node.Node.{Node}
use Rattle.node_tree.specs.declared.kind.Kind.{Kind}
use Rattle.node_tree.specs.Tree.{kids_of}
use Rattle.node_tree.specs.Numbers.{kids_at, pre_at}
use Rattle.node_pool.specs.declared.spot.Spot.{Spot}
use Rattle.node_pool.specs.Spots.{seen, all_seen}
use Rattle.meta_bind.specs.declared.bound.Bound.{Bound}
use Rattle.node_search.specs.declared.state.State.{State}
use Rattle.node_match.specs.Sets.{AddsUpTo}
use Rattle.node_search.specs.States.{Line, line_of, AnyFrom, AddsFrom, From, Steps}
use Rattle.node_search.specs.Kids.{line}
use Rattle.node_match.specs.Orders.{has_dots, has_runs, is_arguments, choosers}
use Rattle.node_match.specs.Choices.{untaken, Chosen, TakesAt}
use Rattle.node_match.specs.Sets.{Among}
use Rattle.node_search.specs.Steady.{IsSteady}
use Rattle.node_search.proofs.SteadyLaws.{steady_chosen}
use Rattle.node_match.proofs.Arguments.{kid_arguments, kid_itself, arguments_unrun, arguments_alike, parted_arguments, unrun_here}
use Rattle.node_search.proofs.Calls.{not_run, named_steps, unnamed_steps, unnamed_from, found_parted, picked_same}
use Rattle.node_match.proofs.Sets.{adds_none, adds_as, adds_two, adds_up, adds_up_as, adds_enough, adds_settled, gathered, gathered_all, plus_as, plus_none, chain}
use Rattle.node_match.proofs.Inversion.{plain_or_held, deep_in, ordered_kids, somewhere_more, nowhere, one_kid}
use Rattle.node_search.proofs.Going.{dots_again, heads, goes_more, no_goes, no_item}
use Rattle.node_search.proofs.Steps.{first_state, no_state, floating_from, staying_from, entered_heads, part_steps, last_part, from_none}
use Rattle.node_match.proofs.Choosing.{chosen_kids, chosen_as, chosen_at, takes, takes_as, take_more, none_takes, picked_at, picked_as, picked_last, none_picked, choosers_from, patterns_from, all_left, read_free, set_back, seen_many, seen_at}
use Rattle.node_search.proofs.Counted.{count_kid, count_kids, count_next, count_some}
use Rattle.node_match.proofs.Parts.{parts_as_many, free_here, asked_here}
use Rattle.node_match.proofs.Numbering.{as_many, pre_many, one_further}
use Rattle.node_search.proofs.Lines.{whole_line}
use Rattle.node_search.proofs.search.+search.Goals as goal

pub relate-returns-in_ok-held-in-Plain : goal.relate-returns-in_ok-held-in-Plain
relate-returns-in_ok-held-in-Plain t c =
    adds_as _ _ _ _ (adds_two _ _ _ _ _ c.in_ok-same-in-Plain.ensures c.in_ok-held-in-Plain.ensures)
    (λ b. plain_or_held c.args.known.names.now c.args.pattern.now (seen c.args.spot) c.args.trail.now (sym c.role_of.ensures ∙ c.in-Plain.is) b)

pub advance-returns-in_ok-float-in-Dots : goal.advance-returns-in_ok-float-in-Dots
advance-returns-in_ok-float-in-Dots t c ps b =
    let h = (seen c.args.holder.spot) in
    let s = c.args.state.now in
    plus_as _ _ _ _ (c.in_ok-float-in-Dots.ensures c.args.known.names.now (line c.args.holder) ps b) (dots_again c.args.known.names.now h c.args.pattern.now ps (drop s.at (all_seen c.args.holder.kids.now)) s.trail b s.floating (sym c.role_of.ensures ∙ c.in-Dots.is))

pub advance-returns-in_ok-runs-in-MetaDots : goal.advance-returns-in_ok-runs-in-MetaDots
advance-returns-in_ok-runs-in-MetaDots t c =
    let P : Line → Type 0 = λ l. AddsFrom c.args.known.names.now l c.args.next.now c.runs.new.next (λ ps b. From c.args.known.names.now l (Some c.args.pattern.now ∷ ps) c.args.state.now b) in
    subst P (sym (whole_line c.args.holder (c.requires.kin (sym c.role_of.ensures ∙ c.in-MetaDots.is)))) (c.in_ok-runs-in-MetaDots.ensures c.args.known.names.now)

pub item_at-returns : goal.item_at-returns
item_at-returns t c ps b =
    let C = c.args.known.names.now in
    let h = seen c.args.holder.spot in
    let kids = c.args.holder.kids.now in
    let kid = get_or kids c.args.at c.index-holder-at.result in
    let R : Spot → Type 0 = λ x. x ≡ get_or kids c.args.at x in
    let kid-is = subst R c.index-holder-at.is c.index-holder-at.is in
    plus_as _ _ _ _ (c.in_ok-enter.ensures C (line c.args.holder) ps b)
    (entered_heads C (line c.args.holder) c.args.pattern.now ps (all_seen kids) c.args.at (seen kid) _ _ c.args.trail.now b refl (omega (arith, c.requires.within, seen_many kids)) (seen_at kids c.args.at kid c.requires.within kid-is) c.new-found.ensures (c.in_ok-relate_kid.ensures h refl))

pub items-returns-then-state : goal.items-returns-then-state
items-returns-then-state t c ps b =
    let h = (seen c.args.holder.spot) in
    let kids = c.args.holder.kids.now in
    plus_as _ _ _ _
    (gathered_all _ _ _ (no_goes c.args.known.names.now h c.args.pattern.now ps (all_seen kids) c.loop-at.at c.args.state.now.trail b c.requires.one (omega (arith, seen_many kids))) (c.loop-at.invariant ps b))
    (floating_from c.args.known.names.now (line c.args.holder) (Some c.args.pattern.now ∷ ps) c.args.state.now c.args.state.now.at b c.if-state.true refl)

pub items-returns-in_ok-item_at-2 : goal.items-returns-in_ok-item_at-2
items-returns-in_ok-item_at-2 t c ps b =
    let h = (seen c.args.holder.spot) in
    let s = c.args.state.now in
    plus_as _ _ _ _ (c.in_ok-item_at-2.ensures ps b)
    (chain _ _ _ (heads c.args.known.names.now h c.args.pattern.now ps (drop s.at (all_seen c.args.holder.kids.now)) s.trail b c.requires.one) (staying_from c.args.known.names.now (line c.args.holder) (Some c.args.pattern.now ∷ ps) s s.at b c.if-state.false refl))

pub items-returns-else-state-end : goal.items-returns-else-state-end
items-returns-else-state-end t c ps b =
    let h = (seen c.args.holder.spot) in
    let s = c.args.state.now in
    let kids = c.args.holder.kids.now in
    plus_none _ _ (λ x. no_item c.args.known.names.now h c.args.pattern.now ps (all_seen kids) s.at s.trail b c.requires.one (omega (arith, seen_many kids)) ((staying_from c.args.known.names.now (line c.args.holder) (Some c.args.pattern.now ∷ ps) s s.at b c.if-state.false refl).1 x))

pub items-loop-at-preserved : goal.items-loop-at-preserved
items-loop-at-preserved t c ps b =
    gathered _ _ _ _ _ _ (plus_as _ _ _ _ (c.in_ok-item_at.ensures ps b) (heads c.args.known.names.now (seen c.args.holder.spot) c.args.pattern.now ps _ c.args.state.now.trail b c.requires.one))
    (goes_more c.args.known.names.now (seen c.args.holder.spot) (Some c.args.pattern.now ∷ ps) (all_seen c.args.holder.kids.now) c.args.state.now.trail b c.loop-at.at) (c.loop-at.invariant ps b)

-- ---- the arguments of a call

pub relate_kid-returns-then-is_arguments : goal.relate_kid-returns-then-is_arguments
relate_kid-returns-then-is_arguments t c h held =
    let are = ap (λ (k : Kind). is_arguments k c.args.pattern.now) held ∙ sym c.is_arguments.ensures ∙ c.if-is_arguments.true in
    adds_as _ _ _ _ c.in_ok-arguments.ensures (λ b. kid_arguments c.args.known.names.now h c.args.pattern.now (seen c.args.spot) c.args.trail.now b are)

pub relate_kid-returns : goal.relate_kid-returns
relate_kid-returns t c h held =
    let other = ap (λ (k : Kind). is_arguments k c.args.pattern.now) held ∙ sym c.is_arguments.ensures ∙ c.if-is_arguments.false in
    adds_as _ _ _ _ c.in_ok-relate.ensures (λ b. kid_itself c.args.known.names.now h c.args.pattern.now (seen c.args.spot) c.args.trail.now b other)

pub relate_kid-arguments-requires : goal.relate_kid-arguments-requires
relate_kid-arguments-requires t c = (omega (arith, c.decreases), arguments_unrun c.args.holder c.args.pattern.now (sym c.is_arguments.ensures ∙ c.if-is_arguments.true))

pub arguments-returns-then-not-is_alike : goal.arguments-returns-then-not-is_alike
arguments-returns-then-not-is_alike t c =
    adds_none _ _ (λ b x. let alike = c.is_alike.ensures.1 (arguments_alike c.args.known.names.now c.args.pattern.now (seen c.args.spot) c.args.trail.now b x) in let e : false ≡ true = sym c.if-not-is_alike.true ∙ alike in absurd (let f = e in cc))

pub arguments-returns : goal.arguments-returns
arguments-returns t c =
    let C = c.args.known.names.now in
    let p = c.args.pattern.now in
    let n = seen c.args.spot in
    let alike = c.is_alike.ensures.0 c.if-not-is_alike.false in
    let l : Line = record { holder = n; kids = all_seen c.as_slice.result.now } in
    let kids = ap all_seen c.as_slice.ensures ∙ c.in_ok-list.ensures in
    let many : length l.kids ≡ c.len.result = omega (arith, c.len.ensures, seen_many c.as_slice.result.now, ap length c.as_slice.ensures) in
    adds_as _ _ _ _ c.in_ok-name.ensures
    (λ b. chain _ _ _ (found_parted C p n l _ _ _ c.args.trail.now b _ _ c.as_slice-kid-items.ensures refl kids c.loop-kid-test.false c.loop-kid.invariant c.new-found.ensures (c.in_ok-finish.ensures C l many))
    (parted_arguments C p n c.args.trail.now b alike.0 alike.1))

pub arguments-loop-kid-init : goal.arguments-loop-kid-init
arguments-loop-kid-init t c b = c.in_ok-states.ensures c.args.known.names.now (record { holder = seen c.args.spot; kids = all_seen c.as_slice.result.now }) _ b

pub arguments-loop-kid-preserved : goal.arguments-loop-kid-preserved
arguments-loop-kid-preserved t c b =
    unnamed_from c.args.known.names.now _ _ _ c.kid-item.result _ _ b _ c.loop-kid-test.true c.kid-item.is (c.in_ok-states-2.ensures _ b) (c.loop-kid.invariant b)

pub arguments-step_unnamed-requires : goal.arguments-step_unnamed-requires
arguments-step_unnamed-requires t c =
    let items = c.as_slice-kid-items.result.now in
    let fewer = count_kid c.args.pattern.now items c.loop-kid.kid-index c.kid-item.result c.as_slice-kid-items.ensures c.loop-kid-test.true c.kid-item.is in
    (omega (arith, c.decreases, fewer), unrun_here items c.loop-kid.kid-index c.kid-item.result c.loop-kid-test.true c.kid-item.is (ap has_runs c.as_slice-kid-items.ensures ∙ c.requires.unrun))

pub step_unnamed-returns-then-is_named : goal.step_unnamed-returns-then-is_named
step_unnamed-returns-then-is_named t c ps b = named_steps c.args.known.names.now (line c.args.holder) c.args.pattern.now ps c.args.states b (sym c.is_named.ensures ∙ c.if-is_named.true)

pub step_unnamed-returns : goal.step_unnamed-returns
step_unnamed-returns t c ps b = unnamed_steps c.args.known.names.now (line c.args.holder) c.args.pattern.now ps c.args.states _ b (sym c.is_named.ensures ∙ c.if-is_named.false) c.in_ok-next.ensures

pub step_unnamed-step-requires : goal.step_unnamed-step-requires
step_unnamed-step-requires t c = (omega (arith, c.decreases), λ role. absurd (not_run c.args.pattern.now c.requires.unrun role))

pub name-returns : goal.name-returns
name-returns t c =
    let C = c.args.known.names.now in
    let p = c.args.pattern.now in
    let n = seen c.args.spot in
    let nodes = c.as_slice.result.now in
    let many : length c.in_ok-taken.taken.items ≡ length (all_seen nodes) = omega (arith, c.in_ok-taken.ensures.len, c.in_ok-taken.taken.ok.0, c.len.ensures, ap length c.as_slice.ensures, seen_many nodes) in
    let left = all_left _ (λ x y h. h) c.in_ok-taken.taken.items (all_seen nodes) c.in_ok-taken.ensures.items many ∙ ap all_seen c.as_slice.ensures ∙ c.in_ok-list.ensures in
    adds_as _ _ _ _ (c.in_ok-go_on.ensures.added.whole (omega (arith, c.len-room.ensures)))
    (λ b. picked_same C true _ _ c.as_slice-patterns.result.now (kids_of p) _ _ _ b (c.has_dots.ensures ∙ ap has_dots c.as_slice-patterns.ensures) c.as_slice-patterns.ensures left)

pub name-go_on-requires : goal.name-go_on-requires
name-go_on-requires t c =
    let fewer = count_kids c.args.pattern.now c.as_slice-patterns.result.now c.as_slice-patterns.ensures in
    (omega (arith, c.decreases, fewer), (omega (arith, c.in_ok-taken.ensures.len, c.in_ok-taken.taken.ok.0, c.len.ensures, ap length c.as_slice.ensures), omega arith))

pub deep-returns : goal.deep-returns
deep-returns t c b =
    let C = c.args.known.names.now in
    let s = seen c.args.spot in
    let last = c.innermost.result.now in
    let one = one_kid (kids_of last) (ap length (sym c.as_slice-inner.ensures) ∙ c.if-inner-ne1.false) in
    let q = one.0 in
    let done : drop c.loop-further.further (pre_at s) ≡ [] = drop_all c.loop-further.further (pre_at s) (omega (arith, pre_many s, c.size-further-end.ensures.size, c.loop-further-test.false)) in
    plus_as _ _ _ _ (gathered_all _ _ _ (nowhere C q _ c.args.trail.now b done) (c.loop-further.invariant q b (c.as_slice-inner.ensures ∙ one.1)))
    (chain _ _ _ (deep_in C last s c.args.trail.now c.innermost.ensures.role q one.1 (sym c.is_expression.ensures ∙ c.if-not-is_expression.false) b) (c.innermost.ensures.same C s c.args.trail.now b))

pub deep-loop-further-preserved : goal.deep-loop-further-preserved
deep-loop-further-preserved t c q b e =
    let C = c.args.known.names.now in
    let s = seen c.args.spot in
    let kid : c.index-inner-0.result ≡ q = c.index-inner-0.is ∙ ap (λ (ns : List Node). get_or ns 0 c.index-inner-0.result) e in
    let here = one_further (pre_at s) c.loop-further.further (seen c.below.result) (omega (arith, pre_many s, c.size-further-end.ensures.size, c.loop-further-test.true)) c.below.ensures in
    gathered _ _ _ _ _ _ (c.in_ok-relate.ensures b) (somewhere_more C q c.index-inner-0.result (seen c.below.result) _ _ c.args.trail.now b here kid) (c.loop-further.invariant q b e)

pub kids-returns : goal.kids-returns
kids-returns t c =
    let C = c.args.known.names.now in
    let n = seen c.args.spot in
    let many : length (kids_at n) ≡ c.len.result = omega (arith, as_many n _ c.in_ok-list.ensures, c.len.ensures) in
    adds_as _ _ _ _ (c.in_ok-finish.ensures C (line_of n) many)
    (λ b. chain _ _ _ (last_part C (line_of n) _ _ _ c.args.trail.now b (omega (arith, parts_as_many c.args.pattern.now, c.len-at-end.ensures, c.loop-at-test.false)) (c.loop-at.invariant ([], b)))
    (ordered_kids C c.args.pattern.now n c.args.trail.now b c.requires.fixed))

pub kids-loop-at-init : goal.kids-loop-at-init
kids-loop-at-init t c b = c.in_ok-states.ensures c.args.known.names.now (line_of (seen c.args.spot)) _ b

pub kids-loop-at-preserved : goal.kids-loop-at-preserved
kids-loop-at-preserved t c b = chain _ _ _ (c.in_ok-states-2.ensures b) (c.loop-at.invariant b)

pub step_at-returns-then-is_free : goal.step_at-returns-then-is_free
step_at-returns-then-is_free t c b =
    let C = c.args.known.names.now in
    let h = seen c.args.holder.spot in
    let many : length (kids_at h) ≡ length c.args.holder.kids.now = sym (as_many h c.args.holder.kids.now c.requires.kin.are) in
    let here = free_here c.args.pattern.now _ c.args.at c.index-as_slice-at.result c.as_slice.ensures c.requires.within c.index-as_slice-at.is (sym c.is_free.ensures ∙ c.if-is_free.true) in
    part_steps C (line_of h) _ _ c.args.at _ _ b here (c.in_ok-next.ensures C (line_of h) many _ b)

pub step_at-returns : goal.step_at-returns
step_at-returns t c b =
    let C = c.args.known.names.now in
    let h = seen c.args.holder.spot in
    let q = c.index-as_slice-at.result in
    let here = asked_here c.args.pattern.now _ c.args.at q c.as_slice.ensures c.requires.within c.index-as_slice-at.is (sym c.is_free.ensures ∙ c.if-is_free.false) in
    let P : Line → Type 0 = λ l. Steps C l (Some q) c.args.states.now c.in_ok-next-2.next in
    part_steps C (line_of h) _ _ c.args.at _ _ b here (subst P (whole_line c.args.holder c.requires.kin) c.in_ok-next-2.ensures _ b)

pub step-loop-state-preserved : goal.step-loop-state-preserved
step-loop-state-preserved t c ps b =
    gathered _ _ _ _ _ _ (c.in_ok-advance.ensures ps b) (first_state c.args.known.names.now (line c.args.holder) (Some c.args.pattern.now ∷ ps) _ _ _ b c.loop-state-test.true c.state-item.is) (c.loop-state.invariant ps b)

pub step-loop-state-init : goal.step-loop-state-init
step-loop-state-init t c ps b = from_none c.args.known.names.now (line c.args.holder) ps _ _ b c.new-next.ensures

pub step-returns : goal.step-returns
step-returns t c ps b =
    let C = c.args.known.names.now in
    let l = line c.args.holder in
    let q = c.args.pattern.now in
    let P : List State → Type 0 = λ ss. AnyFrom C l ps c.loop-state.next b ↔ AnyFrom C l (Some q ∷ ps) ss b in
    subst P c.as_slice-state-items.ensures (gathered_all _ _ _ (no_state C l (Some q ∷ ps) _ _ b c.loop-state-test.false) (c.loop-state.invariant ps b))

-- ---- choosing

pub choose_kids-returns : goal.choose_kids-returns
choose_kids-returns t c =
    let C = c.args.known.names.now in
    let p = c.args.pattern.now in
    let n = seen c.args.spot in
    let nodes = c.as_slice.result.now in
    let many : length c.in_ok-taken.taken.items ≡ length (all_seen nodes) = omega (arith, c.in_ok-taken.ensures.len, c.in_ok-taken.taken.ok.0, c.len.ensures, ap length c.as_slice.ensures, seen_many nodes) in
    let left = all_left _ (λ x y h. h) c.in_ok-taken.taken.items (all_seen nodes) c.in_ok-taken.ensures.items many ∙ ap all_seen c.as_slice.ensures ∙ c.in_ok-list.ensures in
    adds_up_as _ _ _ _ _ c.in_ok-choose.ensures.added
    (λ b. chain _ _ _ (chosen_as C false _ _ c.as_slice-patterns.result.now (kids_of p) _ _ c.args.trail.now b (c.has_dots.ensures ∙ ap has_dots c.as_slice-patterns.ensures) (ap (choosers false) c.as_slice-patterns.ensures) left) (chosen_kids C p n c.args.trail.now b c.requires.any))

pub choose-loop-at-init : goal.choose-loop-at-init
choose-loop-at-init t c = record { kept = refl; gathers = λ p b is. (λ x. x, λ x. x) }

pub choose-loop-at-preserved : goal.choose-loop-at-preserved
choose-loop-at-preserved t c = record {
  kept = c.in_ok-take.ensures.kept ∙ c.loop-at.invariant.kept;
  gathers = λ p b is.
      let C = c.args.choice.known.names.now in
      let nodes = c.args.choice.nodes.now in
      let rest = drop (c.args.from + 1) c.args.choice.patterns.now in
      let added = takes_as C _ _ _ c.args.choice.named c.args.choice.loose c.loop-at.at p rest _ c.args.taken.now.items (all_seen nodes) c.args.trail.now c.loop-at.invariant.kept (c.in_ok-take.ensures.added p is) in
      gathered _ _ _ _ _ _ (added.whole (omega (arith, c.len.ensures)) b)
      (take_more C c.args.choice.named c.args.choice.loose p rest c.args.taken.now.items (all_seen nodes) (c.requires.size ∙ sym (seen_many nodes)) c.args.trail.now b c.loop-at.at (omega (arith, seen_many nodes)))
      (c.loop-at.invariant.gathers p b is);
}

pub choose-returns-then-len-choice-clause-kept : goal.choose-returns-then-len-choice-clause-kept
choose-returns-then-len-choice-clause-kept t c = c.in_ok-take.ensures.kept ∙ c.loop-at.invariant.kept

pub choose-returns-then-len-choice-clause-added : goal.choose-returns-then-len-choice-clause-added
choose-returns-then-len-choice-clause-added t c =
    let C = c.args.choice.known.names.now in
    let f = c.args.choice.loose in
    let nodes = c.args.choice.nodes.now in
    let ps = c.args.choice.patterns.now in
    let p = c.index-patterns-from.result in
    let is = c.index-patterns-from.is in
    let rest = drop (c.args.from + 1) ps in
    let ts = c.args.taken.now.items in
    let many = c.requires.size ∙ sym (seen_many nodes) in
    let added = takes_as C _ _ _ c.args.choice.named f c.loop-at.at p rest _ ts (all_seen nodes) c.args.trail.now c.loop-at.invariant.kept (c.in_ok-take.ensures.added p is) in
    let more = λ (b : List Bound). take_more C c.args.choice.named f p rest ts (all_seen nodes) many c.args.trail.now b c.loop-at.at (omega (arith, seen_many nodes)) in
    adds_up_as _ _ _ _ _ (adds_enough _ _ _ _ _ _ _ added (λ b. c.loop-at.invariant.gathers p b is) (λ b x. (more b).1 (inl x)) (omega (arith, c.len.ensures)))
    (λ b. chain _ _ _ (takes C c.args.choice.named f p rest ts (all_seen nodes) many c.args.trail.now b (sym c.chooses.ensures ∙ c.if-not-chooses.false))
    (chosen_as C c.args.choice.named _ _ (p ∷ rest) (drop c.args.from ps) _ _ c.args.trail.now b refl (sym (choosers_from c.args.choice.named ps c.args.from p (omega arith) is)) refl))

pub choose-returns-then-is_settled-clause-kept : goal.choose-returns-then-is_settled-clause-kept
choose-returns-then-is_settled-clause-kept t c = c.in_ok-take.ensures.kept ∙ c.loop-at.invariant.kept

pub choose-returns-then-is_settled-clause-added : goal.choose-returns-then-is_settled-clause-added
choose-returns-then-is_settled-clause-added t c =
    let C = c.args.choice.known.names.now in
    let named = c.args.choice.named in
    let f = c.args.choice.loose in
    let nodes = c.args.choice.nodes.now in
    let ps = c.args.choice.patterns.now in
    let p = c.index-patterns-from.result in
    let is = c.index-patterns-from.is in
    let rest = drop (c.args.from + 1) ps in
    let ts = c.args.taken.now.items in
    let many = c.requires.size ∙ sym (seen_many nodes) in
    let chooses = sym c.chooses.ensures ∙ c.if-not-chooses.false in
    let added = takes_as C _ _ _ named f c.loop-at.at p rest _ ts (all_seen nodes) c.args.trail.now c.loop-at.invariant.kept (c.in_ok-take.ensures.added p is) in
    let more = λ (b : List Bound). take_more C named f p rest ts (all_seen nodes) many c.args.trail.now b c.loop-at.at (omega (arith, seen_many nodes)) in
    let whole = λ (b : List Bound). takes C named f p rest ts (all_seen nodes) many c.args.trail.now b chooses in
    let each : (q : Node) → Among (drop c.args.from ps) q → IsSteady c.args.trail.now q = c.in_ok-steady.ensures (c.is_settled.ensures.still c.if-is_settled.true) in
    let P : List Node → Type 0 = λ qs. (q : Node) → Among qs q → IsSteady c.args.trail.now q in
    let one : (b : List Bound) → Chosen C named f (p ∷ rest) (untaken ts (all_seen nodes)) c.args.trail.now b → c.args.trail.now ≡ b =
    λ b x. steady_chosen C named f (p ∷ rest) (untaken ts (all_seen nodes)) c.args.trail.now b (subst P (patterns_from ps c.args.from p (omega arith) is) each) x in
    let Q : List (List Bound) → Type 0 = λ xs. Among xs c.args.trail.now in
    adds_up_as _ _ _ _ _ (adds_settled _ _ _ _ _ _ _ c.args.trail.now added (λ b. c.loop-at.invariant.gathers p b is) (λ b x. (more b).1 (inl x))
    (λ b (k, le, lt, x). one b ((whole b).0 (k, omega arith, lt, x))) (λ b x. one b ((whole b).0 x)) (subst Q c.as_slice-in-loop-at.ensures (c.is_settled.ensures.there c.if-is_settled.true)))
    (λ b. chain _ _ _ (whole b) (chosen_as C named _ _ (p ∷ rest) (drop c.args.from ps) _ _ c.args.trail.now b refl (sym (choosers_from named ps c.args.from p (omega arith) is)) refl))

pub choose-returns-clause-kept : goal.choose-returns-clause-kept
choose-returns-clause-kept t c = c.loop-at.invariant.kept

pub choose-returns-clause-added : goal.choose-returns-clause-added
choose-returns-clause-added t c =
    let C = c.args.choice.known.names.now in
    let f = c.args.choice.loose in
    let nodes = c.args.choice.nodes.now in
    let ps = c.args.choice.patterns.now in
    let p = c.index-patterns-from.result in
    let is = c.index-patterns-from.is in
    let rest = drop (c.args.from + 1) ps in
    let ts = c.args.taken.now.items in
    let many = c.requires.size ∙ sym (seen_many nodes) in
    adds_up_as _ _ _ _ _
    (adds_up _ _ _ _ (λ b. gathered_all _ _ _ (none_takes C c.args.choice.named f p rest ts (all_seen nodes) many c.args.trail.now b c.loop-at.at (omega (arith, seen_many nodes))) (c.loop-at.invariant.gathers p b is)))
    (λ b. chain _ _ _ (takes C c.args.choice.named f p rest ts (all_seen nodes) many c.args.trail.now b (sym c.chooses.ensures ∙ c.if-not-chooses.false))
    (chosen_as C c.args.choice.named _ _ (p ∷ rest) (drop c.args.from ps) _ _ c.args.trail.now b refl (sym (choosers_from c.args.choice.named ps c.args.from p (omega arith) is)) refl))

pub take-returns-clause-kept : goal.take-returns-clause-kept
take-returns-clause-kept t c =
    let free = read_free c.args.taken.now.items c.args.at c.index.result.now (omega (arith, c.requires.size)) c.index.ensures c.if-index.false in
    c.mark-2.ensures ∙ ap (λ (ts : List Bool). set ts c.args.at false) (c.in_ok-go_on.ensures.kept ∙ c.mark.ensures) ∙ set_back c.args.taken.now.items c.args.at free

pub take-returns-clause-added : goal.take-returns-clause-added
take-returns-clause-added t c p is =
    let C = c.args.choice.known.names.now in
    let f = c.args.choice.loose in
    let nodes = c.args.choice.nodes.now in
    let ps = c.args.choice.patterns.now in
    let rest = drop (c.args.from + 1) ps in
    let q = get_or ps c.args.from c.index-choice-from.result in
    let n = get_or nodes c.args.at c.index-choice-at.result in
    let R : Node → Type 0 = λ x. x ≡ get_or ps c.args.from x in
    let S : Spot → Type 0 = λ x. x ≡ get_or nodes c.args.at x in
    let q-is = subst R c.index-choice-from.is c.index-choice-from.is in
    let n-is = subst S c.index-choice-at.is c.index-choice-at.is in
    let free = read_free c.args.taken.now.items c.args.at c.index.result.now (omega (arith, c.requires.size)) c.index.ensures c.if-index.false in
    let same : p ≡ q = is ∙ get_or_default ps c.args.from p q c.requires.part ∙ sym q-is in
    let here = seen_at nodes c.args.at n c.requires.within n-is in
    let left = ap (λ (ts : List Bool). untaken ts (all_seen nodes)) c.mark.ensures in
    let Q : Node → Type 0 = λ r. AddsUpTo c.args.choice.most c.args.out.now c.go_on.new.out (λ b. TakesAt C c.args.choice.named f c.args.at r rest c.args.taken.now.items (all_seen nodes) c.args.trail.now b) in
    subst Q (sym same) (adds_up_as _ _ _ _ _ c.in_ok-go_on.ensures.added
    (λ b. chain _ _ _ (picked_as C c.args.choice.named f rest _ _ _ b left)
    (picked_at C c.args.choice.named f q rest c.args.taken.now.items (all_seen nodes) (c.requires.size ∙ sym (seen_many nodes)) c.args.trail.now b c.args.at (seen n) _ _ (omega (arith, seen_many nodes)) here free c.new-found.ensures c.in_ok-relate.ensures)))

pub go_on-loop-trail-init : goal.go_on-loop-trail-init
go_on-loop-trail-init t c = record { kept = refl; gathers = λ b. (λ x. x, λ x. x) }

pub go_on-loop-trail-preserved : goal.go_on-loop-trail-preserved
go_on-loop-trail-preserved t c = record {
  kept = c.in_ok-choose.ensures.kept ∙ c.loop-trail.invariant.kept;
  gathers = λ b.
      let C = c.args.choice.known.names.now in
      let added = chosen_at C _ _ _ c.args.choice.named c.args.choice.loose _ _ c.args.taken.now.items (all_seen c.args.choice.nodes.now) c.in-Some.trail c.loop-trail.invariant.kept c.in_ok-choose.ensures.added in
      gathered _ _ _ _ _ _ (added.whole (omega (arith, c.len.ensures)) b) (picked_last C c.args.choice.named c.args.choice.loose _ _ _ _ c.in-Some.trail b c.in-Some.ensures) (c.loop-trail.invariant.gathers b);
}

pub go_on-returns-then-len-choice-clause-kept : goal.go_on-returns-then-len-choice-clause-kept
go_on-returns-then-len-choice-clause-kept t c = c.in_ok-choose.ensures.kept ∙ c.loop-trail.invariant.kept

pub go_on-returns-then-len-choice-clause-added : goal.go_on-returns-then-len-choice-clause-added
go_on-returns-then-len-choice-clause-added t c =
    let C = c.args.choice.known.names.now in
    let added = chosen_at C _ _ _ c.args.choice.named c.args.choice.loose _ _ c.args.taken.now.items (all_seen c.args.choice.nodes.now) c.in-Some.trail c.loop-trail.invariant.kept c.in_ok-choose.ensures.added in
    adds_enough _ _ _ _ _ _ _ added c.loop-trail.invariant.gathers (λ b x. (picked_last C c.args.choice.named c.args.choice.loose _ _ _ _ c.in-Some.trail b c.in-Some.ensures).1 (inl x)) (omega (arith, c.len.ensures))

pub go_on-returns-clause-kept : goal.go_on-returns-clause-kept
go_on-returns-clause-kept t c = c.loop-trail.invariant.kept

pub go_on-returns-clause-added : goal.go_on-returns-clause-added
go_on-returns-clause-added t c =
    adds_up _ _ _ _ (λ b. gathered_all _ _ _ (none_picked c.args.choice.known.names.now c.args.choice.named c.args.choice.loose _ _ _ b c.in_default.ensures.0) (c.loop-trail.invariant.gathers b))

-- ---- the search goes down the pattern

pub deep-relate-requires : goal.deep-relate-requires
deep-relate-requires t c =
    let fewer = count_kid c.innermost.result.now c.as_slice-inner.result.now 0 c.index-inner-0.result c.as_slice-inner.ensures (omega (arith, c.if-inner-ne1.false)) c.index-inner-0.is in
    (omega (arith, c.decreases, fewer, c.innermost.ensures.within), tt)

pub step_at-step-requires : goal.step_at-step-requires
step_at-step-requires t c =
    let fewer = count_kid c.args.pattern.now _ c.args.at c.index-as_slice-at.result c.as_slice.ensures (omega (arith, c.requires.within, ap length c.as_slice.ensures)) c.index-as_slice-at.is in
    (omega (arith, c.decreases, fewer), λ _. c.requires.kin)

pub choose_kids-choose-requires : goal.choose_kids-choose-requires
choose_kids-choose-requires t c =
    let fewer = count_kids c.args.pattern.now c.as_slice-patterns.result.now c.as_slice-patterns.ensures in
    (omega (arith, c.decreases, fewer), (omega (arith, c.in_ok-taken.ensures.len, c.in_ok-taken.taken.ok.0, c.len.ensures, ap length c.as_slice.ensures), omega arith))

pub choose-choose-requires : goal.choose-choose-requires
choose-choose-requires t c =
    let next = count_next c.args.choice.patterns.now c.args.from c.index-patterns-from.result (omega arith) c.index-patterns-from.is in
    (omega (arith, c.decreases, next, count_some c.index-patterns-from.result), (c.requires.size, omega arith))

pub choose-take-requires : goal.choose-take-requires
choose-take-requires t c = (omega (arith, c.decreases), (omega (arith, ap length c.loop-at.invariant.kept, c.requires.size), (omega arith, omega arith)))

pub take-relate-requires : goal.take-relate-requires
take-relate-requires t c =
    let R : Node → Type 0 = λ x. x ≡ get_or c.args.choice.patterns.now c.args.from x in
    let q-is = subst R c.index-choice-from.is c.index-choice-from.is in
    let next = count_next c.args.choice.patterns.now c.args.from (get_or c.args.choice.patterns.now c.args.from c.index-choice-from.result) c.requires.part q-is in
    (omega (arith, c.decreases, next), tt)

pub take-go_on-requires : goal.take-go_on-requires
take-go_on-requires t c =
    let next = count_next c.args.choice.patterns.now c.args.from c.index-choice-from.result c.requires.part c.index-choice-from.is in
    (omega (arith, c.decreases, next, count_some c.index-choice-from.result), (ap length c.mark.ensures ∙ length-set _ _ _ ∙ c.requires.size, omega (arith, c.requires.part)))

pub go_on-choose-requires : goal.go_on-choose-requires
go_on-choose-requires t c = (omega (arith, c.decreases), (omega (arith, ap length c.loop-trail.invariant.kept, c.requires.size), c.requires.within))
