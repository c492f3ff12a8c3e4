use native.Mathlib.Omega.{arith}
use Rattle.calls.specs.Calls.{world_of}
use Rattle.back.proofs.Taking.{none-held, restores, unsound, newest-in, sits}
use Rattle.back.proofs.step_back.Goals as goal

pub returns-then-m-eq0 : goal.returns-then-m-eq0
returns-then-m-eq0 c passed = let a = c.args in
    none-held a.m a.ram.now a.journal.now _ c.if-m-eq0.true c.refused.ensures

pub returns-then-not-is_sound : goal.returns-then-not-is_sound
returns-then-not-is_sound c passed = let a = c.args in
    unsound a.m a.ram.now a.journal.now c.pop-newest.result c.pop-newest.ensures
    (newest-in _ _ _ (sits (world_of a.m a.ram.now a.journal.now) passed) (omega arith)) (omega arith) _ _
    c.is_sound.ensures c.if-not-is_sound.true c.refused-then-not-is_sound.ensures

pub returns : goal.returns
returns c passed = let a = c.args in
    restores a.m a.ram.now a.journal.now c.pop-newest.result c.pop-newest.ensures
    (newest-in _ _ _ (sits (world_of a.m a.ram.now a.journal.now) passed) (omega arith)) (omega arith) _ _ _ c.is_sound.ensures
    c.if-not-is_sound.false c.decode-before.ensures c.restore.ensures
