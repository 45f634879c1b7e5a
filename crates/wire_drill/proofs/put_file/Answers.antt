use Rattle.std.proofs.Common.{◌≡◌, List, ℕ, ap, ◌∙◌}
use Rattle.wire_stream.specs.declared.wire.Wire.TheVariants as wires
use Rattle.wire_drill.specs.Drill.{file_path, file_text}
use Rattle.wire_drill.proofs.put_file.Goals as goal

pub returns : goal.returns
returns c =
    let path : c.in_ok-path-2.path ≡ file_path c.args.number = c.in_ok-path-2.ensures ∙ c.as_str.ensures.value ∙ c.in_ok-path.ensures.ok in
    let bytes : c.in_ok-bytes.bytes ≡ file_text c.args.number c.args.read.now = c.in_ok-bytes.ensures ∙ c.as_bytes.ensures.value ∙ c.in_ok-text.ensures.ok in
    ap (λ (p : List ℕ). wires.Put p c.in_ok-bytes.bytes) path ∙ ap (λ (b : List ℕ). wires.Put (file_path c.args.number) b) bytes
