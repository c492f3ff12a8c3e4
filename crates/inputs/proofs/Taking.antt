-- From what the parts of an input leave to what it answers.
use Prim.Native.Nat.{ℕ, ◌≤◌, ◌<◌}
use mathlib.Core.Path.{◌≡◌, refl, sym, ◌∙◌, ap}
use mathlib.Core.Bool.{Bool, true, false, cond}
use mathlib.Core.List.{List}
use Rattle.std.specs.Prelude.{Option, Some, None}
use native.Mathlib.Omega.{arith}
use borrow.Author.Tests.{leb-true, leb-false}
use lib.Dec.{leb}
use lib.ListN.{length, set}
use Rattle.word.specs.Word.{join_at}
use Rattle.word.specs.Memory.{byte_in}
use Rattle.names.specs.Names.{reg_numbered}
use Rattle.names.specs.declared.register.Reg.{Reg}
use Rattle.bus.specs.declared.state.Cpu.{Cpu}
use Rattle.history.specs.Trace.{gives, no_run, Answer, answers, give}
use Rattle.history.specs.Ring.{Ring, ring_of, pushed, slots}
use Rattle.records.specs.Record.{record_with}
use Rattle.calls.specs.Inputs.{Input, poke, box, effect, quietly, next_of, steps_of}
use Rattle.calls.specs.Calls.{W, plain_of, world_of}
use Rattle.calls.specs.declared.state.Machine.{Machine as MachineT}
use Rattle.calls.proofs.Giving.{pokes}
use Rattle.calls.proofs.Answering.{gives-by, given}

abbrev at : Cpu → List ℕ → Ring → W
at c ram j = record { box = box c ram; journal = j }

-- an accepted input that writes nothing, from its record
pub accepted : (m : MachineT) (c : Cpu) (ws ws' : List ℕ) (next held : ℕ)
    → ring_of ws' next held ≡ pushed (slots ws) (record_with m.cpu 0 0 0) (ring_of ws m.next m.held)
    → (ram : List ℕ) → gives-by (world_of m ram ws) 0 (quietly c ram) ≡ answers 0 0 0 no_run (at c ram (ring_of ws' next held))
accepted m c ws ws' next held e ram = ap (λ (j : Ring). answers 0 0 0 no_run (at c ram j)) (sym e)

-- a machine with its memory and its journal
module _ (m : MachineT) (ram ws : List ℕ) where
  abbrev w : W
  w = world_of m ram ws

  pub taken : (i : Input) (c : Cpu) (y : Answer Cpu Ring) → steps_of i ≡ 0 → next_of i (box m.cpu ram) ≡ quietly c ram
      → gives-by w 0 (quietly c ram) ≡ y → plain_of (give i) w ≡ y
  taken i c y k q s = given m ram ws i (quietly c ram) q ∙ ap (λ (z : ℕ). gives-by w z (quietly c ram)) k ∙ s

  pub poked : (a x old : ℕ) (ws' : List ℕ) (next held : ℕ) → a < length ram → old ≡ join_at 8 (byte_in ram a) 0
      → ring_of ws' next held ≡ pushed (slots ws) (record_with m.cpu 1 a old) (ring_of ws m.next m.held)
      → plain_of (give (poke a x)) w ≡ answers 0 0 0 no_run (at m.cpu (set ram a x) (ring_of ws' next held))
  poked a x old ws' next held l o j =
      given m ram ws (poke a x) (gives (effect m.cpu (set ram a x) 1 a 0)) (pokes (box m.cpu ram) a x l)
      ∙ ap (λ (y : Ring). answers 0 0 0 no_run (at m.cpu (set ram a x) y)) (sym (rw o at j))

-- a register found by its number
pub found : (n : ℕ) (x : Reg) → Some x ≡ reg_numbered n → (n < 16) × (x.number ≡ n)
found n x e = go (leb n 15) refl e
  where
    go : (t : Bool) → leb n 15 ≡ t → Some x ≡ cond t (Some (record { number = n })) None → (n < 16) × (x.number ≡ n)
    go true l z =
        let q : ◌≡◌ {A = Reg} x (record { number = n }) = cc in
        (omega (arith, leb-true n 15 l), ap (λ (r : Reg). r.number) q)
    go false l z = let y : ◌≡◌ {A = ℕ} 0 1 = cc in absurd (omega arith)

pub not_found : (n : ℕ) → None ≡ reg_numbered n → 16 ≤ n
not_found n e = go (leb n 15) refl e
  where
    go : (t : Bool) → leb n 15 ≡ t → ◌≡◌ {A = Option Reg} None (cond t (Some (record { number = n })) None) → 16 ≤ n
    go true l z = let y : ◌≡◌ {A = ℕ} 0 1 = cc in absurd (omega arith)
    go false l z = omega (arith, leb-false n 15 l)
