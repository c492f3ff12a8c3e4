use native.Mathlib.Omega.{arith}
use Rattle.pens.proofs.Joined.{prepares}
use Rattle.pens.proofs.prepared.Goals as goal

pub poke_name-poked-requires : goal.poke_name-poked-requires
poke_name-poked-requires c = let p = c.requires in (p.0, omega (arith, p.1, c.word_at-at.ensures))

pub give-requires : goal.give-requires
give-requires c = c.requires.2

pub returns : goal.returns
returns c = let a = c.args in
    prepares a.setup.now a.name.now _ _ _ c.word_at-at.result c.word_at-at.ensures c.poke_name-poked.ensures c.give.ensures
