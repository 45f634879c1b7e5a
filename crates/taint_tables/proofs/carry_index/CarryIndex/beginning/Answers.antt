use Rattle.std.proofs.Common.{◌≡◌, ◌↔◌, ◌≤◌, ◌-◌, ℕ, List, length, take, drop, sym, subst}
use Rattle.graph_form.specs.Sets.{Among}
use Rattle.taint_tables.specs.declared.sets.Carry.{Carry}
use Rattle.taint_tables.proofs.Halving.{EndsBefore, EndsThrough, in_order, part_is}
use Rattle.taint_tables.proofs.carry_index.CarryIndex.beginning.Goals as goal

abbrev begin : Carry → ℕ
begin k = k.range.from

-- what was counted, of the carries themselves
record Counted (carries : List Carry) (from start end : ℕ) : Type 0 where
  pub start_in : start ≤ length carries
  pub end_in : end ≤ length carries
  pub before : EndsBefore begin carries from start
  pub through : EndsThrough begin carries from end

counted : (carries a b : List Carry) (from start end : ℕ) → a ≡ carries → b ≡ carries → start ≤ length a → EndsBefore begin a from start → end ≤ length b → EndsThrough begin b from end → Counted carries from start end
counted carries a b from start end is its start_in before end_in through =
    let A : List Carry → Type 0 = λ xs. start ≤ length xs in
    let B : List Carry → Type 0 = λ xs. end ≤ length xs in
    let C : List Carry → Type 0 = λ xs. EndsBefore begin xs from start in
    let D : List Carry → Type 0 = λ xs. EndsThrough begin xs from end in
    record { start_in = subst A is start_in; end_in = subst B its end_in; before = subst C is before; through = subst D its through }

pub slice_bounds-result-count : goal.slice_bounds-result-count
slice_bounds-result-count c =
    let k = counted c.self.inside.carries.items c.deref.result.now c.deref-2.result.now c.args.from c.count_before-start.result c.count_through-end.result c.deref.ensures.value c.deref-2.ensures.value
    c.count_before-start.ensures.within c.count_before-start.ensures.parts c.count_through-end.ensures.within c.count_through-end.ensures.parts in
    in_order begin c.self.inside.carries.items c.args.from c.count_before-start.result c.count_through-end.result k.start_in k.end_in k.before k.through

pub slice_bounds-result-start : goal.slice_bounds-result-start
slice_bounds-result-start c =
    let k = counted c.self.inside.carries.items c.deref.result.now c.deref-2.result.now c.args.from c.count_before-start.result c.count_through-end.result c.deref.ensures.value c.deref-2.ensures.value
    c.count_before-start.ensures.within c.count_before-start.ensures.parts c.count_through-end.ensures.within c.count_through-end.ensures.parts in
    in_order begin c.self.inside.carries.items c.args.from c.count_before-start.result c.count_through-end.result k.start_in k.end_in k.before k.through

pub returns : goal.returns
returns c =
    let start = c.count_before-start.result in
    let end = c.count_through-end.result in
    let carries = c.self.inside.carries.items in
    let k = counted carries c.deref.result.now c.deref-2.result.now c.args.from start end c.deref.ensures.value c.deref-2.ensures.value
    c.count_before-start.ensures.within c.count_before-start.ensures.parts c.count_through-end.ensures.within c.count_through-end.ensures.parts in
    let P : List Carry → Type 0 = λ xs. (x : Carry) → Among (take (end - start) (drop start xs)) x ↔ (Among carries x × (x.range.from ≡ c.args.from)) in
    let Q : List Carry → Type 0 = λ xs. (x : Carry) → Among (take (end - start) (drop start c.deref-3.result.now)) x ↔ (Among xs x × (x.range.from ≡ c.args.from)) in
    subst Q c.self.view_is (subst P (sym c.deref-3.ensures.value) (part_is begin carries c.args.from start end k.start_in k.end_in k.before k.through))
