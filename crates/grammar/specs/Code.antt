-- How the code tells the words of a line: by places.
use Rattle.std.specs.Prelude.{ℕ, ◌-◌, ◌≤◌, List, take, drop, Option, Some, None}
use Rattle.grammar.specs.Line.{Line, words, no_line}
use Rattle.grammar.specs.declared.line.Part.{Part}
use Rattle.grammar.specs.declared.line.Words.{Words}

-- the bytes of a part
abbrev pub part : List ℕ → Part → List ℕ
part s p = take (p.to - p.from) (drop p.from s)

abbrev pub part_within : Part → ℕ → Type 0
part_within p n = (p.from ≤ p.to) × (p.to ≤ n)

abbrev pub within : Option Words → ℕ → Type 0
within (Some w) n = part_within w.mnemonic n × part_within w.first n × part_within w.second n
within None n = Unit {0}

abbrev pub split_as : List ℕ → Option Words → Line
split_as s (Some w) = words (part s w.mnemonic) (part s w.first) (part s w.second)
split_as s None = no_line
