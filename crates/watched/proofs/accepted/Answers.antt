use Rattle.watched.proofs.Answering.{ran}
use Rattle.watched.proofs.accepted.Goals as goal

pub returns : goal.returns
returns c = let a = c.args in
    rw c.answered.ensures
    (ran a.m a.ram.now a.journal.now a.budget a.list.now c.run_list-s.result _ _ c.run_list-s.ensures.whole_run c.run_list-s.ensures.names)
