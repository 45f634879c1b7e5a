-- The session of a drill.
use Rattle.std.specs.Prelude.{ℕ, ◌%◌, List, [], ◌∷◌, ◌++◌, map, codes, nat_eq, if◌then◌else◌}
use Rattle.std.specs.List.{range_with_len}
use Rattle.std.specs.Fmt.{decimal}
use Rattle.wire_stream.specs.declared.wire.Wire.{Wire}
use Rattle.wire_stream.specs.declared.wire.Wire.TheVariants as wires

-- the path of the file of a number
abbrev pub file_path : ℕ → List ℕ
file_path number = codes "d/f" ++ (decimal number ++ codes ".py")

-- a function that runs what this expression reads
abbrev pub file_text : ℕ → List ℕ → List ℕ
file_text number read = codes "def f" ++ (decimal number ++ (codes "(q):\n    s = " ++ (read ++ codes "\n    run(s)\n")))

-- the file of a number is put, with that expression
abbrev pub put_file : ℕ → List ℕ → Wire
put_file number read = wires.Put (file_path number) (file_text number read)

-- files of odd numbers clean what they read
abbrev pub read_in : ℕ → List ℕ
read_in number = if nat_eq (number % 2) 0 then codes "read()" else codes "clean(read())"

abbrev pub file : ℕ → Wire
file number = put_file number (read_in number)

-- one rule that finds each run, and one that finds those of what was read and not cleaned
abbrev pub rules_text : List ℕ
rules_text =
    codes "rules:\n"
    ++ (codes "- id: p\n  languages: [python]\n  severity: INFO\n  message: m\n  pattern: run($X)\n"
    ++ (codes "- id: t\n  mode: taint\n  languages: [python]\n  severity: INFO\n  message: m\n"
    ++ codes "  pattern-sources:\n  - pattern: read()\n  pattern-sinks:\n  - pattern: run(...)\n  pattern-sanitizers:\n  - pattern: clean(...)\n"))

-- so many files and the rules are put, there is a scan, the first file is put anew and cleans what it reads, and there is another scan
abbrev pub drill : ℕ → List Wire
drill count = map file (range_with_len 0 count) ++ (wires.Rule (codes "r") rules_text ∷ wires.Scan ∷ put_file 0 (codes "clean(read())") ∷ wires.Scan ∷ [])
