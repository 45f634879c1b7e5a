use Rattle.std.proofs.Common.{◌≡◌, ◌⊎◌, ◌↔◌, ◌<◌, ℕ, List, length, get_or, Contains, sym, ap, ◌∙◌, subst, arith}
use Rattle.std.proofs.lemmas.Bool.{false≢true}
use Rattle.scan_world.specs.Files.{IsUnder}
use Rattle.scan_world.proofs.Listings.{no_files, one_more, passed}
use Rattle.scan_world.proofs.memory_tree.paths_under.Goals as goal
use Rattle.scan_world.proofs.memory_tree.paths_under.Goals.{then-is_under+in_ok-put_path, else-is_under}

pub loop-name-init : goal.loop-name-init
loop-name-init c = rw c.new-paths.ensures (no_files c.args.prefix.now)

pub loop-name-preserved : goal.loop-name-preserved
loop-name-preserved c =
    let prefix = c.args.prefix.now in
    let files = c.args.files.now in
    let i = c.loop-name.name-index in
    let file = c.loop-name-item.result in
    let lt : i < length files = omega (arith, ap length c.as_slice-name-items.ensures) in
    let is : file ≡ get_or files i file = cc in
    let P : List ℕ → Type 0 = λ p. IsUnder prefix p in
    elim c.if-is_under.branch [
      | then-is_under+in_ok-put_path w ↦
          let under = subst P c.as_str.ensures (c.is_under.ensures.0 w.if-is_under.true) in
          let Q : List ℕ → Type 0 = λ name. (other : List ℕ) → Contains w.put_path.new.paths other ↔ (Contains c.loop-name.paths other ⊎ (name ≡ other)) in
          let added = subst Q w.as_str-then-is_under.ensures w.in_ok-put_path.ensures.added in
          rw w.paths-is (one_more prefix files i file c.loop-name.paths lt is c.loop-name.invariant w.put_path.new.paths under added w.put_path.ensures.ordered)
      | else-is_under w ↦
          let elsewhere = λ (u : IsUnder prefix file.0). false≢true (sym w.if-is_under.false ∙ c.is_under.ensures.1 (subst P (sym c.as_str.ensures) u)) in
          rw w.paths-is (passed prefix files i file c.loop-name.paths lt is c.loop-name.invariant elsewhere)
    ]
