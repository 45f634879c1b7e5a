use Rattle.std.proofs.Common.{◌≡◌, ◌↔◌, ◌<◌, ◌==◌, ℕ, Bool, true, List, [], length, vec_len, Some, refl, ap, sym, subst, ◌∙◌, arith}
use Rattle.std.proofs.lemmas.Bool.Decides.{nat_tests}
use Rattle.std.proofs.lemmas.List.{nil_from_length}
use Rattle.std.specs.Global.{Vec}
use Rattle.std.proofs.lemmas.Option.{slice_get_read}
use Rattle.graph_form.specs.Sets.{Among}
use Rattle.flow_reach.specs.Carried.{Pairs}
use Rattle.flow_reach.specs.Spread.{IsTable}
use Rattle.flow_reach.proofs.Closing.{reached_as}
use Rattle.taint_flow.specs.Found.{BySource, CarriesName}
use Rattle.taint_flow.specs.Lowest.{Lowers}
use Rattle.taint_flow.specs.Splits.{StartsBy}
use Rattle.taint_flow.proofs.Splitting.{added_is, added_there, names_done, names_none, starts_inside}
use Rattle.taint_flow.proofs.search.search_source.Goals as goal

-- a list without items
no_starts : (v : Vec (ℕ × ℕ)) (b : Bool) → b ≡ (vec_len v == 0) → b ≡ true → v.items ≡ []
no_starts v b e t = let f : (vec_len v == 0) ≡ true = sym e ∙ t in nil_from_length v.items (grind (arith, nat_tests))

pub starts_of-requires : goal.starts_of-requires
starts_of-requires c point name among =
    let split = c.args.split.now in
    let list = c.index-added.result.now in
    let there : c.args.number < length split.added.items = omega (arith, c.requires.number, c.requires.split.added.size) in
    let list_is = slice_get_read split.added.items _ c.args.number list refl there c.index-added.ensures in
    let A : List (ℕ × ℕ) → Type 0 = λ xs. Among xs (point, name) in
    omega (arith, added_there c.args.graph.now c.args.plan.now split c.requires.keeps c.requires.split c.args.number c.requires.number list list_is point name (subst A c.deref-3.ensures.value among), ap length c.deref-2.ensures.value)

pub reach_from-requires-clause-inside : goal.reach_from-requires-clause-inside
reach_from-requires-clause-inside c point name starts =
    let graph = c.args.graph.now in
    let plan = c.args.plan.now in
    let split = c.args.split.now in
    let own = c.index-begins.result.now in
    let list = c.index-added.result.now in
    let own_there : c.args.number < length plan.begins.items = omega (arith, c.requires.number, c.requires.keeps.lists) in
    let own_at = slice_get_read plan.begins.items _ c.args.number own refl own_there c.index-begins.ensures in
    let there : c.args.number < length split.added.items = omega (arith, c.requires.number, c.requires.split.added.size) in
    let list_is = slice_get_read split.added.items _ c.args.number list refl there c.index-added.ensures in
    let T : List (Vec ℕ) → Type 0 = λ t. IsTable graph t in
    let P : List (ℕ × ℕ) → Type 0 = λ xs. Pairs xs point name in
    let B : List ℕ → Type 0 = λ bs. StartsBy graph split.sources bs c.deref-3.result.now point name in
    let L : List (ℕ × ℕ) → Type 0 = λ xs. StartsBy graph split.sources own.items xs point name in
    let begun = (c.in_ok-starts.ensures graph (subst T (sym c.deref-2.ensures.value) c.requires.split.ready.after) point name).0 (subst P c.deref-4.ensures.value starts) in
    starts_inside graph plan split c.requires.keeps c.requires.split c.args.number c.requires.number list list_is own own_at c.requires.begins point name (subst L c.deref-3.ensures.value (subst B c.deref.ensures.value begun))

pub returns-then-is_empty : goal.returns-then-is_empty
returns-then-is_empty c any any_at =
    let graph = c.args.graph.now in
    let plan = c.args.plan.now in
    let split = c.args.split.now in
    let number = c.args.number in
    let source = c.args.source in
    let own = c.index-begins.result.now in
    let list = c.index-added.result.now in
    let own_there : number < length plan.begins.items = omega (arith, c.requires.number, c.requires.keeps.lists) in
    let own_at = slice_get_read plan.begins.items _ number own refl own_there c.index-begins.ensures in
    let there : number < length split.added.items = omega (arith, c.requires.number, c.requires.split.added.size) in
    let list_is = slice_get_read split.added.items _ number list refl there c.index-added.ensures in
    let exact = added_is graph plan split c.requires.keeps c.requires.split number c.requires.number list list_is in
    let T : List (Vec ℕ) → Type 0 = λ t. IsTable graph t in
    let B : List ℕ → Type 0 = λ bs. (p n : ℕ) → Pairs c.in_ok-starts.starts.items p n ↔ StartsBy graph split.sources bs list.items p n in
    let L : List (ℕ × ℕ) → Type 0 = λ xs. (p n : ℕ) → Pairs c.in_ok-starts.starts.items p n ↔ StartsBy graph split.sources c.deref.result.now xs p n in
    let starts = subst B c.deref.ensures.value (subst L c.deref-3.ensures.value (c.in_ok-starts.ensures graph (subst T (sym c.deref-2.ensures.value) c.requires.split.ready.after))) in
    let same : own ≡ any = let q : Some own ≡ Some any = sym own_at ∙ any_at in cc in
    let old = c.args.least.now.sources.items in
    let empty = no_starts c.in_ok-starts.starts c.is_empty.result c.is_empty.ensures c.if-is_empty.true in
    let E : List (ℕ × ℕ) → Type 0 = λ xs. (p n : ℕ) → Pairs xs p n ↔ StartsBy graph split.sources own.items list.items p n in
    let none = subst E empty starts in
    let V : Vec ℕ → Type 0 = λ v. Lowers (BySource source (CarriesName v.items graph plan.moves split.sources) c.args.named.now) old old in
    subst V same (names_none graph plan split c.requires.keeps c.requires.split number c.requires.number own own_at list.items exact c.args.named.now source (λ p n begins. (none p n).1 begins) old)

pub returns : goal.returns
returns c any any_at =
    let graph = c.args.graph.now in
    let plan = c.args.plan.now in
    let split = c.args.split.now in
    let number = c.args.number in
    let source = c.args.source in
    let own = c.index-begins.result.now in
    let list = c.index-added.result.now in
    let own_there : number < length plan.begins.items = omega (arith, c.requires.number, c.requires.keeps.lists) in
    let own_at = slice_get_read plan.begins.items _ number own refl own_there c.index-begins.ensures in
    let there : number < length split.added.items = omega (arith, c.requires.number, c.requires.split.added.size) in
    let list_is = slice_get_read split.added.items _ number list refl there c.index-added.ensures in
    let exact = added_is graph plan split c.requires.keeps c.requires.split number c.requires.number list list_is in
    let T : List (Vec ℕ) → Type 0 = λ t. IsTable graph t in
    let B : List ℕ → Type 0 = λ bs. (p n : ℕ) → Pairs c.in_ok-starts.starts.items p n ↔ StartsBy graph split.sources bs list.items p n in
    let L : List (ℕ × ℕ) → Type 0 = λ xs. (p n : ℕ) → Pairs c.in_ok-starts.starts.items p n ↔ StartsBy graph split.sources c.deref.result.now xs p n in
    let starts = subst B c.deref.ensures.value (subst L c.deref-3.ensures.value (c.in_ok-starts.ensures graph (subst T (sym c.deref-2.ensures.value) c.requires.split.ready.after))) in
    let same : own ≡ any = let q : Some own ≡ Some any = sym own_at ∙ any_at in cc in
    let old = c.args.least.now.sources.items in
    let new = c.note.new.least.sources.items in
    let P : List (ℕ × ℕ) → Type 0 = λ xs. (p n : ℕ) → Pairs xs p n ↔ StartsBy graph split.sources own.items list.items p n in
    let names = reached_as _ _ graph split.names c.in_ok-names.names (subst P (sym c.deref-4.ensures.value) starts) c.in_ok-names.ensures in
    let V : Vec ℕ → Type 0 = λ v. Lowers (BySource source (CarriesName v.items graph plan.moves split.sources) c.args.named.now) old new in
    subst V same (names_done graph plan split c.requires.keeps c.requires.split number c.requires.number own own_at list.items exact c.args.named.now source c.in_ok-names.names names c.requires.goals old new c.note.ensures)
