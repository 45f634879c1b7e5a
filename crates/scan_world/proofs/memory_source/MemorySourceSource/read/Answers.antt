use Rattle.std.proofs.Common.{arith, sym, ◌∙◌, ◌≡◌, ◌+◌, ◌-◌, ℕ, List, ap, length, take, drop, length-append}
use Rattle.scan_world.specs.Memory.{SourceState}
use Rattle.scan_world.proofs.Reading.{consumes, at_end}
use Rattle.scan_world.proofs.memory_source.MemorySourceSource.read.Goals as goal

pub returns-clause-bytes : goal.returns-clause-bytes
returns-clause-bytes c =
    let s = c.self.inside in
    let n = c.min-count.result in
    let len : length c.copy_from_slice.new.self ≡ n = omega (arith, c.copy_from_slice.ensures.len, c.split_at_mut-front.ensures.front_len) in
    let k : s.at + n - s.at ≡ n = omega arith in
    let left : c.args.self.now.left ≡ drop s.at s.bytes = sym (ap (λ (x : SourceState). x.left) c.self.view_is) in (
      left ∙ consumes s.at n s.bytes c.copy_from_slice.new.self c.split_at_mut-front.result.1.now len
          (c.copy_from_slice.ensures.after ∙ ap (λ (j : ℕ). take j (drop s.at c.as_slice-bytes.result.now)) k ∙ ap (λ (x : List ℕ). take n (drop s.at x)) c.as_slice-bytes.ensures),
      λ none some. at_end s.at n s.bytes (omega (arith, none, c.min.ensures, c.min-count.ensures, length-append c.copy_from_slice.new.self c.split_at_mut-front.result.1.now, len, c.split_at_mut-front.ensures.front_len, c.split_at_mut-front.ensures.back_len, c.self.invariant.1, ap length c.as_slice-bytes.ensures)),
    )
