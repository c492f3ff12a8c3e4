use mathlib.Core.Path.{refl}
use mathlib.Core.List.{List, ◌++◌}
use Prim.Native.Nat.{ℕ, ◌+◌, ◌*◌}
use native.Mathlib.Omega.{arith}
use lib.ListN.{length-append}
use Rattle.names.specs.Names.{bytes}
use Rattle.image.specs.Image.{instruction_of, pair_line}
use Rattle.image.proofs.Pieces.{wrote, then}
use Rattle.image.proofs.Writing.{pair-long}
use Rattle.image.proofs.lines.put_pair.Goals as goal

pub put-p-requires : goal.put-p-requires
put-p-requires c = omega (arith, c.requires.1, pair-long c.args.a c.args.b c.args.c)

pub put_instruction-requires : goal.put_instruction-requires
put_instruction-requires c = let a = c.args in
    let l = pair-long a.a a.b a.c in
    (c.requires.0, omega (arith, c.requires.1, l, length-append (instruction_of (a.b + 256 * a.c)) (bytes "\n"), c.put-p.ensures.0))

pub returns : goal.returns
unfolding pair_line
returns c = let a = c.args in
    let q = wrote _ _ (refl {A = List ℕ} {a = instruction_of (a.b + 256 * a.c) ++ bytes "\n"}) (c.put_instruction.ensures.value, c.put_instruction.ensures.out_after) in
    let r = then (wrote a.out.now a.at c.front-text.ensures c.put-p.ensures) q in
    (r.place, r.bytes)
