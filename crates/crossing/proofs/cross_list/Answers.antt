use Rattle.crossing.proofs.Results.{crosses, meets-told}
use Rattle.crossing.proofs.cross_list.Goals as goal

pub returns : goal.returns
returns c = let a = c.args in
    let w = a.state.now in
    let ram = a.ram.now in
    let ws = a.journal.now in
    let l = a.list.now in record {
      crosses_watched = crosses a.budget w ram ws l c.taken-m.result c.run_unmarked-r.result _ _ _ _ _ c.taken-m.ensures c.run_unmarked-r.ensures
          (c.answer.ensures _ _ _);
      met_value = meets-told a.budget w ram ws l c.taken-m.result c.run_unmarked-r.result _ _ _ c.taken-m.ensures c.run_unmarked-r.ensures;
    }
