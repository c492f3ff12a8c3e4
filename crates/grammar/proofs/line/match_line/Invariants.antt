use Rattle.std.proofs.Common.{◌≡◌, ◌+◌, ◌-◌, ◌≤◌, length, drop}
use Rattle.grammar.specs.Line.{wordy, run, line_of}
use Rattle.grammar.specs.Code.{part, part_within}
use Rattle.grammar.proofs.Scan.{stage}
use Rattle.grammar.proofs.line.match_line.Given as goal

-- the word so far, and the rest of it
abbrev pub invariant-word : goal.invariant-word
invariant-word l = (l.from ≤ l.to) × (l.to ≤ length l.line) × (l.to + length (run wordy (drop l.to l.line)) ≡ l.from + length (run wordy (drop l.from l.line)))

abbrev pub decreases-word : goal.decreases-word
decreases-word l = length l.line - l.to

-- what is left of the line decides as the whole line does
abbrev pub invariant-line : goal.invariant-line
invariant-line l = (l.from ≤ length l.line) × (l.word ≤ 2) × (stage l.word (part l.line l.mnemonic) (part l.line l.first) (drop l.from l.line) ≡ line_of l.line)
    × part_within l.mnemonic (length l.line) × part_within l.first (length l.line)

abbrev pub decreases-line : goal.decreases-line
decreases-line l = 2 - l.word
