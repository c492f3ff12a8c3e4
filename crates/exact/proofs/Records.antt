-- A record that the calls write has 32 words, and reads back as what was written.
use Prim.Native.Nat.{ℕ, zero, suc, ◌≤◌, ◌<◌, ◌^◌}
use mathlib.Core.Path.{◌≡◌, refl, sym, ◌∙◌, ap}
use mathlib.Core.List.{List, [], ◌∷◌}
use mathlib.Core.Option.{some, none}
use mathlib.Core.Bool.{Bool, true, false, cond}
use native.Mathlib.Omega.{arith}
use borrow.Author.Tests.{le-leb}
use lib.Dec.{leb}
use lib.ListN.{length, take, get_or}
use lib.Seq.{take_all}
use Rattle.word.specs.Bits.{bit_at}
use Rattle.word.proofs.Width.{low-join, high-join}
use Rattle.bus.specs.State.{word}
use Rattle.bus.specs.declared.state.Cpu.{Cpu}
use Rattle.bus.specs.declared.state.Stretch.{Stretch}
use Rattle.history.specs.Trace.{Undo}
use Rattle.records.specs.Record.{part, marks, record_with, record_of, undo_from, sound, decoded}

-- a state that the words have room for
pub record Roomy (c : Cpu) : Type 0 where
  pub regs16 : length c.regs ≡ 16
  pub csrs6 : length c.csrs ≡ 6
  pub rxd : c.board.devices.rxd < 2 ^ 8

-- a record that reads back, for a machine with the protected addresses p
pub record FineUndo (p : Stretch) (u : Undo Cpu) : Type 0 where
  pub stretch : u.cpu.board.stretch ≡ p
  pub cpu : Roomy u.cpu
  pub csr0 : word u.cpu.csrs 0 ≤ 511
  pub count : u.count ≤ 2
  pub low : u.low < 2 ^ 8

part-take : (n : ℕ) (l : List ℕ) → n ≤ length l → part n l 0 ≡ take n l
part-take zero l h = refl
part-take (suc n) [] h = absurd (omega arith)
part-take (suc n) (x ∷ xs) h = ap (λ (r : List ℕ). x ∷ r) (shift n 0 ∙ part-take n xs (omega arith))
  where
    shift : (m i : ℕ) → part m (x ∷ xs) (suc i) ≡ part m xs i
    shift zero i = refl
    shift (suc m) i = ap (λ (r : List ℕ). get_or xs i 0 ∷ r) (shift m (suc i))

-- a list of n words is its words
part-all : (n : ℕ) (l : List ℕ) → length l ≡ n → part n l 0 ≡ l
part-all n l h = part-take n l (omega arith) ∙ take_all n l (omega arith)

record Marks (r t h : Bool) (n : ℕ) : Type 0 where
  r-is : bit_at n 0 ≡ r
  t-is : bit_at n 1 ≡ t
  h-is : bit_at n 2 ≡ h
  small : leb n 7 ≡ true

marked : (r t h : Bool) → Marks r t h (marks r t h)
marked true true true = record { r-is = refl; t-is = refl; h-is = refl; small = refl }
marked true true false = record { r-is = refl; t-is = refl; h-is = refl; small = refl }
marked true false true = record { r-is = refl; t-is = refl; h-is = refl; small = refl }
marked true false false = record { r-is = refl; t-is = refl; h-is = refl; small = refl }
marked false true true = record { r-is = refl; t-is = refl; h-is = refl; small = refl }
marked false true false = record { r-is = refl; t-is = refl; h-is = refl; small = refl }
marked false false true = record { r-is = refl; t-is = refl; h-is = refl; small = refl }
marked false false false = record { r-is = refl; t-is = refl; h-is = refl; small = refl }

-- what 32 words say, where they were written for it, also with numbers for which no record has room
pub reads-undo : (u : Undo Cpu) → Roomy u.cpu → u.low < 2 ^ 8 → undo_from u.cpu.board.stretch (record_of u) ≡ u
unfolding record_with undo_from
reads-undo u f low =
    let c = u.cpu in
    let k = marked c.board.devices.r c.board.devices.t c.board.halted in
    rw (
      part-all 16 c.regs f.regs16,
      part-all 6 c.csrs f.csrs6,
      low-join 8 c.board.devices.txd f.rxd,
      high-join 8 c.board.devices.txd f.rxd,
      low-join 8 u.high low,
      high-join 8 u.high low,
      k.r-is,
      k.t-is,
      k.h-is,
    )

module _ (p : Stretch) (u : Undo Cpu) (f : FineUndo p u) where
  pub wide : length (record_of u) ≡ 32
  unfolding record_with
  wide = refl

  is-sound : sound (record_of u) ≡ true
  unfolding record_with sound
  is-sound = rw (le-leb _ _ f.csr0, (marked u.cpu.board.devices.r u.cpu.board.devices.t u.cpu.board.halted).small, le-leb _ _ f.count)

  pub reads : decoded p (record_of u) ≡ some u
  unfolding decoded
  reads =
      ap (λ (b : Bool). cond b (some (undo_from p (record_of u))) none) is-sound
      ∙ ap (λ (q : Stretch). some (undo_from q (record_of u))) (sym f.stretch) ∙ ap some (reads-undo u f.cpu f.low)
