use mathlib.Core.Path.{◌≡◌, refl, sym, ap, ◌∙◌}
use mathlib.Core.Bool.{true}
use Prim.Native.Nat.{◌+◌, ◌%◌, ◌≤◌}
use native.Mathlib.Omega.{arith}
use lib.ListN.{length, length-append}
use Rattle.isa.specs.Opcode.{gives_reason2}
use Rattle.text.specs.Answer.{listed_as}
use Rattle.text.proofs.Returning.{Seen, seen, unlisted, unroomy}
use Rattle.image.proofs.Pieces.{wrote, then, rest, rest-long, seen-room, listed-text, listed-none}
use Rattle.image.proofs.lines.put_instruction.Goals as goal
use Rattle.image.proofs.lines.put_instruction.Goals.{In-Err-Reason2, In-Ok}

-- what the answer `Ok(n)` tells of the word, and that there is room for the line's end after it
seen-n : (c : In-Ok) → Seen c.args.w c.in-Ok.n
seen-n c = seen _ _ _ (ap listed_as (sym c.in-Ok.is) ∙ c.list_in.ensures.result_value)

room-n : (c : In-Ok)
    → c.args.at + c.in-Ok.n + 1 ≤ length c.args.out.now
room-n c =
    seen-room c.args.w _ c.args.at _ c.requires.1 (seen-n c)

-- what the answer `Reason2` tells of it
none-w : (c : In-Err-Reason2) → gives_reason2 (c.args.w % 256) ≡ true
none-w c =
    unlisted c.args.w _ (rw c.in-Err-Reason2.field-0-is at (ap listed_as (sym c.in-Err-Reason2.is) ∙ c.list_in.ensures.result_value))

pub overflow_add-at : goal.overflow_add-at
overflow_add-at c = omega (arith, room-n (goal.at.overflow_add-at c).In-Ok)

pub put-requires : goal.put-requires
put-requires c = omega (arith, room-n (goal.at.put-requires c).In-Ok, c.out-1.given)

pub put-requires-in-Err-Reason2 : goal.put-requires-in-Err-Reason2
put-requires-in-Err-Reason2 c = omega (arith, rw (none-w (goal.at.put-requires-in-Err-Reason2 c).In-Err-Reason2) at c.requires.1, c.out-1.given)

pub returns-in-Ok : goal.returns-in-Ok
returns-in-Ok c = let a = c.args in
    let h = simp length-append at c.requires.1 in
    let t = listed-text a.w a.at a.out.now _ c.list_in.ensures.out_after _ (omega arith) (seen-n (goal.at.returns-in-Ok c).In-Ok) in
    let r = then t (wrote _ _ refl c.put.ensures) in
    record { value = r.place; out_after = r.bytes }

pub returns-in-Err-Reason2 : goal.returns-in-Err-Reason2
returns-in-Err-Reason2 c = let a = c.args in
    let w = none-w (goal.at.returns-in-Err-Reason2 c).In-Err-Reason2 in
    let e = listed-none a.w a.at a.out.now _ c.list_in.ensures.out_after w in
    record {
      value = rw w c.put-in-Err-Reason2.ensures.0;
      out_after = rw (w, ← e) c.put-in-Err-Reason2.ensures.1;
    }

pub returns-in-Err-NoRoom : goal.returns-in-Err-NoRoom
returns-in-Err-NoRoom c = let a = c.args in
    let u = unroomy a.w (length (rest a.out.now a.at)) (rw c.in-Err-NoRoom.field-0-is at (ap listed_as (sym c.in-Err-NoRoom.is) ∙ c.list_in.ensures.result_value)) in
    let h = simp length-append at (rw u.0 at c.requires.1) in
    absurd (omega (arith, u.1, rest-long a.out.now a.at))
