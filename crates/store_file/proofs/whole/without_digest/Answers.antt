use Rattle.std.proofs.Common.{◌≡◌, sym, ap, ◌∙◌, true, false, arith}
use Rattle.sha2.specs.Sha256.{sha256}
use Rattle.store_file.proofs.Digests.{digested_length, front_taken, digest_left}
use Rattle.store_file.proofs.whole.without_digest.Goals as goal

pub returns-then-text-lt32 : goal.returns-then-text-lt32
returns-then-text-lt32 c = λ front e. omega (arith, digested_length c.args.text.now front e)

pub returns-then-not-is_same : goal.returns-then-not-is_same
returns-then-not-is_same c = λ front e.
    let taken : c.split_at.result.0.now ≡ front = c.split_at.ensures.front ∙ front_taken c.args.text.now front e in
    let same : c.split_at.result.1.now ≡ c.of.result.bytes = c.split_at.ensures.back ∙ digest_left c.args.text.now front e ∙ ap sha256 (sym taken) ∙ sym c.of.ensures in
    absurd (let no : false ≡ true = sym c.if-not-is_same.true ∙ c.is_same.ensures.1 same in cc)
