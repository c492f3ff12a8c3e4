-- "Inputs": what each gives, or the number of its own refusal.
use Rattle.std.specs.Prelude.{ℕ, true, false, cond, not, ◌&&◌, List, ltb, eqb, length, set}
use Rattle.word.specs.Word.{plus_at, join_at, low_at}
use Rattle.word.specs.Bits.{bit_at, or_at}
use Rattle.names.specs.Names.{F}
use Rattle.bus.specs.State.{word, cpu, devices, with_devices, with_halted, reset}
use Rattle.bus.specs.declared.state.Cpu.{Cpu}
use Rattle.bus.specs.declared.state.Devices.{Devices}
pub use Rattle.cpu.specs.Step.{box, effect}
use Rattle.cpu.specs.Step.{quiet, step_of}
use Rattle.history.specs.Trace.{Box, Next, refuses, gives, Machine}

pub data Input : Type 0 where
  step : Input
  tick : Input
  receive : ℕ → Input
  sent : Input
  set_register : ℕ → ℕ → Input
  poke : ℕ → ℕ → Input
  resets : Input

-- an input that writes nothing through memory
abbrev pub quietly : Cpu → List ℕ → Next Cpu
quietly c m = gives (quiet c m 0)

-- "f bit .. set, H=1": by a device, with its registers as they are afterwards
unfoldable pub signalled : ℕ → Devices → Cpu → Cpu
signalled bits v c =
    cpu (set c.regs F (or_at 16 (word c.regs F) bits)) (set c.csrs 0 (join_at 8 (low_at 8 (word c.csrs 0)) 1)) (with_devices c.board v)

-- "Tick: counter plus 1 modulo 65,536, f bit 10 set, H=1."
abbrev pub ticked : Cpu → Cpu
ticked c = let v = c.board.devices in signalled 0x0400 (devices (plus_at 16 v.clock 1) v.rxd v.txd v.r v.t) c

-- "Receive a byte: .. RXD takes it, R=1, f bit 11 set, H=1."
abbrev pub received : ℕ → Cpu → Cpu
received x c = let v = c.board.devices in signalled 0x0800 (devices v.clock x v.txd true v.t) c

-- "Sent: .. T=1, f bit 11 set, H=1."
abbrev pub sent_off : Cpu → Cpu
sent_off c = let v = c.board.devices in signalled 0x0800 (devices v.clock v.rxd v.txd v.r true) c

-- "Set register: any number 0–15, any 16-bit content. If it is f and bit 9 is 0, the halted mark clears. H isn't touched."
unfoldable pub register_set : ℕ → ℕ → Cpu → Cpu
register_set i w c = cpu (set c.regs i w) c.csrs (with_halted c.board (cond (eqb i F && not (bit_at w 9)) false c.board.halted))

-- 4: "lone step while halted"; 5: "Receive while R=1, or Sent while T=1"; 6: "register number over 15"; 7: "Poke at no RAM address"
unfoldable pub next_of : Input → Box Cpu → Next Cpu
next_of step b = cond b.cpu.board.halted (refuses 4) (gives (step_of b.cpu b.ram))
next_of tick b = quietly (ticked b.cpu) b.ram
next_of (receive x) b = cond b.cpu.board.devices.r (refuses 5) (quietly (received x b.cpu) b.ram)
next_of sent b = cond b.cpu.board.devices.t (refuses 5) (quietly (sent_off b.cpu) b.ram)
next_of (set_register i w) b = cond (ltb i 16) (quietly (register_set i w b.cpu) b.ram) (refuses 6)
-- Q-4: "Poke .. still write there"
next_of (poke a x) b = cond (ltb a (length b.ram)) (gives (effect b.cpu (set b.ram a x) 1 a 0)) (refuses 7)
-- "RAM as it is"; "Reset as an input keeps the journal and is recorded like any other"; Q-4: the protected addresses are "fixed at start"
next_of resets b = quietly (reset b.cpu.board.stretch) b.ram

-- a lone step counts as one, every other input as none
abbrev pub steps_of : Input → ℕ
steps_of step = 1
steps_of tick = 0
steps_of (receive x) = 0
steps_of sent = 0
steps_of (set_register i w) = 0
steps_of (poke a x) = 0
steps_of resets = 0

abbrev pub machine : Machine
machine = record { C = Cpu; I = Input; step = step; steps = steps_of; rule = next_of }
