use Rattle.std.proofs.Common.{◌≡◌, get_or, arith}
use borrow.Author.Tests.{le-leb, lt-leb, eq-eqb, ne_eqb}
use Rattle.image.specs.Image.{header_of}
use Rattle.image.proofs.header.read_header.Goals as goal

pub returns-in-10 : goal.returns-in-10
unfolding header_of
returns-in-10 c =
    let s = c.args.input.now in
    let e : get_or s 4 0 ≡ 10 = omega arith in
    rw (le-leb 5 _ c.in-10.len_at_least, eq-eqb _ 10 e) c.four.ensures

pub returns-in_default : goal.returns-in_default
unfolding header_of
returns-in_default c = rw (lt-leb 5 _ c.in_default.len_below)

pub returns-in_default-2 : goal.returns-in_default-2
unfolding header_of
returns-in_default-2 c =
    let s = c.args.input.now in
    rw (le-leb 5 _ c.in_default.len_at_least, ne_eqb (get_or s 4 0) 10 (λ (h : get_or s 4 0 ≡ 10). omega arith))
