-- One step of the search, in the terms of the search.
use Rattle.std.proofs.Common.{◌≡◌, ◌≢◌, ℕ, zero, suc, ◌+◌, ◌*◌, ◌/◌, ◌%◌, ◌<◌, ◌≤◌, ◌^◌, ◌↔◌, inl, inr, List, [], ◌∷◌, ◌++◌, length, get_or, Some, sym, ◌∙◌, subst, refl, arith, mul_comm}
use Rattle.std.specs.Prelude.{slice_get}
use Rattle.std.specs.Global.{Vec}
use Rattle.std.proofs.Math.Nat.{mul-le-mul_right}
use Rattle.std.proofs.lemmas.List.{get_or_read}
use Rattle.graph_form.specs.declared.graph.Graph.{Graph}
use Rattle.graph_form.specs.Edges.{HasEdge}
use Rattle.graph_form.specs.Sets.{Among}
use Rattle.graph_form.proofs.Amongs.{among_app}
use Rattle.flow_reach.specs.Spread.{IsTable}
use Rattle.flow_reach.proofs.Steps.{row_at}
use Rattle.held_values.specs.declared.assign.Effects.{Effects}
use Rattle.held_values.specs.declared.merged.Merged.{Merged}
use Rattle.held_values.specs.declared.slots.Slots.{Slots}
use Rattle.held_values.specs.declared.targets.Target.{Target}
use Rattle.held_values.specs.Closing.{Passes, IsClosing}
use Rattle.held_values.specs.Holding.{Fits}
use Rattle.held_values.specs.Merged.{AreMerged, Turns}
use Rattle.held_values.specs.Slots.{unseen, slot, ComesAt}
use Rattle.held_values.proofs.Closing.{Parts, parts, passes_so, so_small, target_there}
use Rattle.held_values.proofs.Concerns.{got_read, some_same}

-- products

plus_row : (a b : ℕ) → suc a * b ≡ a * b + b
plus_row a b = omega arith

pub at_least_row : (a b : ℕ) → 0 < a → b ≤ a * b
at_least_row zero b h = absurd (omega arith)
at_least_row (suc a) b h = omega (arith, plus_row a b)

pub at_least_rows : (a b : ℕ) → a ≤ a * (b + 1)
at_least_rows zero b = omega arith
at_least_rows (suc a) b = omega (arith, plus_row a (b + 1), at_least_rows a b)

-- the limit bounds the pairs, and the literals where there are pairs
pub few_pairs : (points names literals : ℕ) → points * names * (literals + 1) ≤ 50000000 → points * names ≤ 50000000
few_pairs points names literals small = omega (arith, at_least_rows (points * names) literals)

pub few_literals : (points names literals : ℕ) → points * names * (literals + 1) ≤ 50000000 → 0 < points → 0 < names → literals < unseen
few_literals points names literals small p n =
    let some : 0 < points * names = omega (arith, at_least_row points names p) in
    omega (arith, at_least_row (points * names) (literals + 1) some)

module _ (graph : Graph) (effects : Effects) (merged : List Merged) (fits : Fits graph effects) (are : AreMerged effects merged) (few : 0 < length effects.start → effects.literals < unseen) where
  -- what is known of the pair that is taken
  pub record Takes (at : ℕ) (w : Slots) : Type 0 where
    pub there : at < length w.values.items
    pub seen : slot w at ≢ unseen
    pub parts : Parts (length graph.points) (length effects.start) at

  pub takes : (at : ℕ) (w : Slots) (rest : List ℕ) → IsClosing graph effects merged w → w.waiting.items ≡ rest ++ at ∷ [] → Takes at w
  takes at w rest closing taken =
      let P : List ℕ → Type 0 = λ xs. Among xs at in
      let here = closing.inside at (subst P (sym taken) ((among_app rest (at ∷ []) at).1 (inr (inl refl)))) in
      record { there = here.0; seen = here.1; parts = parts (length graph.points) (length effects.start) at (omega (arith, here.0, closing.size)) }

  -- what was looked up for it: what its point does, the next points, and what its value gives
  pub record Ready (at : ℕ) (w : Slots) (points : List ℕ) (targets : List Target) : Type 0 where
    pub one : Merged
    pub got : slice_get merged (at % length graph.points) ≡ Some one
    pub next : (p : ℕ) → Among points p ↔ HasEdge graph (at % length graph.points) p
    pub turns : (target : Target) → Among targets target ↔ Turns one.assigns.items (at / length graph.points) (slot w at) target.name target.value

  pub ready : (at : ℕ) (w : Slots) (width value : ℕ) (one : Merged) (table : List (Vec ℕ)) (row : Vec ℕ) (points : List ℕ) (made targets : List Target) → Takes at w → width ≡ length graph.points → value ≡ get_or w.values.items at value → one ≡ get_or merged (at % width) one → IsTable graph table → row ≡ get_or table (at % width) row → points ≡ row.items → targets ≡ made → ((target : Target) → Among made target ↔ Turns one.assigns.items (at / width) value target.name target.value) → Ready at w points targets
  ready at w width value one table row points made targets took width_is value_is one_is table_is row_is points_are targets_are turns =
      let P : ℕ → Type 0 = λ n. one ≡ get_or merged (at % n) one in
      let Q : ℕ → Type 0 = λ n. row ≡ get_or table (at % n) row in
      let R : ℕ → Type 0 = λ n. (target : Target) → Among made target ↔ Turns one.assigns.items (at / n) value target.name target.value in
      let S : ℕ → Type 0 = λ v. (target : Target) → Among made target ↔ Turns one.assigns.items (at / length graph.points) v target.name target.value in
      let T : List Target → Type 0 = λ ts. (target : Target) → Among ts target ↔ Turns one.assigns.items (at / length graph.points) (slot w at) target.name target.value in
      let known : value ≡ slot w at = get_or_read w.values.items at value took.there value_is 0 in
      let in_table : at % length graph.points < length table = omega (arith, table_is.rows, took.parts.point) in
      let got_row = got_read table (at % length graph.points) row in_table (subst Q width_is row_is) in
      let N : List ℕ → Type 0 = λ ps. (p : ℕ) → Among ps p ↔ HasEdge graph (at % length graph.points) p in
      record {
        one = one;
        got = got_read merged (at % length graph.points) one (omega (arith, took.parts.point, are.size, fits.points)) (subst P width_is one_is);
        next = subst N (sym points_are) (λ p.
            let r = row_at table (at % length graph.points) row p got_row in
            let x = table_is.exact (at % length graph.points) p in
            (λ h. x.0 (r.1 h), λ h. r.0 (x.1 h)));
        turns = subst T (sym targets_are) (subst S known (subst R width_is turns));
      }

  -- what comes to the next points is what the pair passes on
  module _ (at : ℕ) (w : Slots) (closing : IsClosing graph effects merged w) (took : Takes at w) (points : List ℕ) (targets : List Target) (r : Ready at w points targets) (width : ℕ) (width_is : width ≡ length graph.points) where
    passes : (k v : ℕ) → ComesAt points (length graph.points) targets k v ↔ Passes graph merged (length graph.points) at (slot w at) k v
    passes k v = (
      λ (t, there, (p, among, e, f)).
          let P : ℕ → Type 0 = λ x. Turns r.one.assigns.items (at / length graph.points) (slot w at) t.name x in
          (r.one, r.got, p, (r.next p).0 among, t.name, subst P (sym f) ((r.turns t).0 there), e),
      λ (other, is, p, edge, name, turn, e).
          let same : other ≡ r.one = some_same other r.one (sym is ∙ r.got) in
          let P : Merged → Type 0 = λ m. Turns m.assigns.items (at / length graph.points) (slot w at) name v in
          let t : Target = record { name = name; value = v } in
          (t, (r.turns t).1 (subst P same turn), (p, (r.next p).1 edge, e, refl)),
    )

    pub passed : (k v : ℕ) → ComesAt points width targets k v ↔ Passes graph merged (length graph.points) at (slot w at) k v
    passed k v = let P : ℕ → Type 0 = λ n. ComesAt points n targets k v ↔ Passes graph merged (length graph.points) at (slot w at) k v in subst P (sym width_is) (passes k v)

    pub room : (t : Target) (p : ℕ) → Among targets t → Among points p → t.name * width + p < length w.values.items
    room t p there among =
        let k = t.name * width + p in
        (passes_so graph effects merged fits are few w at k t.value closing took.there took.seen ((passed k t.value).0 (t, there, (p, among, refl, refl)))).0

    pub small : (t : Target) → Among targets t → t.value < unseen
    small t there =
        omega (arith, so_small graph effects merged fits are (at % length graph.points) r.one r.got (at / length graph.points) (slot w at) t.name t.value took.parts.name (closing.sound at took.there took.seen) ((r.turns t).0 there), few took.parts.some)

    pub within : length w.values.items < 2 ^ 32 → (t : Target) → Among targets t → t.name * width < 2 ^ 64
    within bound t there =
        let inside = target_there graph effects merged fits are (at % length graph.points) r.one r.got (at / length graph.points) (slot w at) t.name t.value took.parts.name ((r.turns t).0 there) in
        let le : t.name ≤ length effects.start = omega (arith, inside) in
        let P : ℕ → Type 0 = λ n. t.name * n < 2 ^ 64 in
        subst P (sym width_is) (omega (arith, mul-le-mul_right {m = t.name} {n = length effects.start} (length graph.points) le, mul_comm (length effects.start) (length graph.points), closing.size, bound))
