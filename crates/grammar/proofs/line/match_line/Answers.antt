use Rattle.std.proofs.Common.{◌≡◌, sym, ◌∙◌, ◌+◌, ◌≤◌, length, drop, arith}
use lib.ListN.{drop_of_length-le}
use Rattle.std.proofs.lemmas.Bool.{ltb-true, ltb-false}
use Rattle.grammar.specs.Line.{wordy, run}
use Rattle.grammar.specs.Code.{part}
use Rattle.grammar.proofs.Scan.{tail, run_none, run_end, drop_past, line_at, stage-end, Ended}
use Rattle.grammar.proofs.Scan.{mnemonic-ends, mnemonic-gap, first-other, first-comma, second_more, second-done}
use Rattle.grammar.proofs.line.match_line.Goals as goal
use Rattle.grammar.proofs.line.match_line.Goals.{Else-to-from, in_default, in_default-2, in-0, in-1}

-- where the word has ended, it is the run of word bytes, and blanks were skipped
ended : (c : Else-to-from)
    → Ended c.args.line.now (record { from = c.line.from; to = c.word.to }) c.skip_blanks-next.result
ended c =
    let x = c.word in
    let l = c.args.line.now in
    record {
      some = omega (arith, x.invariant.0, c.if-to-from.false);
      word =
          elim c.match-get.branch [
            | in_default w ↦
                let k = w.in-Some.ensures.lookup in
                omega (arith, rw (run_none wordy l x.to (ltb-true _ _ (sym k.0)) k.1 (sym w.if-is_wordy.ensures)) at x.invariant.2)
            | in_default-2 w ↦ omega (arith, rw (run_end wordy l x.to (ltb-false _ _ (sym w.in-None.ensures.lookup.0))) at x.invariant.2)
          ];
      blanks = c.skip_blanks-next.ensures.0;
    }

pub line-init : goal.line-init
line-init c =
    let s = c.skip_blanks-from in
    (s.ensures.1, omega arith, line_at _ _ s.ensures.0, (omega arith, omega arith), (omega arith, omega arith))

pub line-preserved : goal.line-preserved
line-preserved c =
    let v = c.line in
    let x = c.word in
    let l = c.args.line.now in
    let d = ended (goal.at.line-preserved c).Else-to-from in
    let h = c.skip_blanks-next.ensures.1 in
    elim c.match-word.branch [
      | in-0 w ↦
          let g = mnemonic-gap _ _ _ d (omega (arith, w.if-to-next.true)) in
          rw (w.in-0.is, w.mnemonic-is, w.first-is, w.from-is) (h, omega arith, sym g ∙ (rw w.in-0.is at v.invariant.2), (x.invariant.0, x.invariant.1), v.invariant.4)
      | in-1 w ↦
          let t = w.skip_blanks-from-in-1 in
          let k = rw (tail l c.skip_blanks-next.result) at (sym w.starts_with.ensures.value ∙ w.if-starts_with.true) in
          let g = first-comma _ _ _ d (part l v.mnemonic) t.result k t.ensures.0 in
          rw (w.in-1.is, w.mnemonic-is, w.first-is, w.from-is) (t.ensures.1, omega arith, sym g ∙ (rw w.in-1.is at v.invariant.2), v.invariant.3, (x.invariant.0, x.invariant.1))
    ]

-- the line has ended, and not in its last word
pub returns-in-None-clause-result_value : goal.returns-in-None-clause-result_value
returns-in-None-clause-result_value c =
    let x = c.word in
    let l = c.args.line.now in
    let h : length l ≤ x.to = ltb-false _ _ (sym c.in-None.ensures.lookup.0) in
    let p : x.to ≡ c.line.from + length (run wordy (drop c.line.from l)) = omega (arith, rw (run_end wordy l x.to h) at x.invariant.2) in
    let r = sym (drop_past wordy l c.line.from x.to p) ∙ drop_of_length-le l h in
    sym (stage-end c.line.word _ _ _ c.if-word-lt2.true r) ∙ c.line.invariant.2

pub returns-in-2-clause-result_value : goal.returns-in-2-clause-result_value
returns-in-2-clause-result_value c =
    let v = c.line in
    let g = second-done _ _ _ (ended (goal.at.returns-in-2-clause-result_value c).Else-to-from) (part _ v.mnemonic) (part _ v.first) (omega (arith, c.if-next-line.true)) in
    sym g ∙ (rw c.in-2.is at v.invariant.2)

pub returns-in_default-2-clause-result_value : goal.returns-in_default-2-clause-result_value
returns-in_default-2-clause-result_value c =
    let g = mnemonic-ends _ _ _ (ended (goal.at.returns-in_default-2-clause-result_value c).Else-to-from) (omega (arith, c.if-to-next.false, c.skip_blanks-next.ensures.0)) in
    sym g ∙ (rw c.in-0.is at c.line.invariant.2)

pub returns-in_default-2-2-clause-result_value : goal.returns-in_default-2-2-clause-result_value
returns-in_default-2-2-clause-result_value c =
    let l = c.args.line.now in
    let k = rw (tail l c.skip_blanks-next.result) at (sym c.starts_with.ensures.value ∙ c.if-starts_with.false) in
    let g = first-other _ _ _ (ended (goal.at.returns-in_default-2-2-clause-result_value c).Else-to-from) (part l c.line.mnemonic) k in
    sym g ∙ (rw c.in-1.is at c.line.invariant.2)

pub returns-in_default-2-3-clause-result_value : goal.returns-in_default-2-3-clause-result_value
returns-in_default-2-3-clause-result_value c =
    let v = c.line in
    let g = second_more _ _ _ (ended (goal.at.returns-in_default-2-3-clause-result_value c).Else-to-from) (part _ v.mnemonic) (part _ v.first)
    (omega (arith, c.if-next-line.false, c.skip_blanks-next.ensures.1)) in
    sym g ∙ (rw c.in-2.is at v.invariant.2)
