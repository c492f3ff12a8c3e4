use Rattle.std.proofs.Common.{sym, ◌∙◌, ◌*◌, length, arith}
use borrow.Author.Tests.{le-ltb}
use Rattle.image.specs.Image.{lines_of}
use Rattle.image.proofs.Writing.{lines-room}
use Rattle.image.proofs.count.is_short.Goals as goal

pub returns-else-room-image : goal.returns-else-room-image
returns-else-room-image c =
    let s = c.args.image.now in
    let l = lines-room 0 s (λ i. omega (arith, c.type_inv.image i)) in
    le-ltb c.args.room (14 * length s) c.if-room-image.false ∙ sym (le-ltb c.args.room (length (lines_of 0 s)) (omega (arith, l, c.if-room-image.false)))
