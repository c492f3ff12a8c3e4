-- "State": registers, CSRs, device registers and the halted mark. Registers and CSRs are lists; what is not there reads 0.
use Rattle.std.specs.Prelude.{Bool, true, false, List, ℕ, get_or, replicate}
use Rattle.bus.specs.declared.state.Cpu.{Cpu}
use Rattle.bus.specs.declared.state.Board.{Board}
use Rattle.bus.specs.declared.state.Devices.{Devices}
use Rattle.bus.specs.declared.state.Stretch.{Stretch}

-- a register's or a CSR's word by its number, 0 where there is none
abbrev pub word : List ℕ → ℕ → ℕ
word g i = get_or g i 0

abbrev pub cpu : List ℕ → List ℕ → Board → Cpu
cpu g k b = record { regs = g; csrs = k; board = b }

-- "Clock counter (16 bits), RXD, TXD, ready bits R and T, and a halted mark."; Q-4: "a first and last protected address, fixed at start"
abbrev pub board : Devices → Bool → Stretch → Board
board v h p = record { devices = v; halted = h; stretch = p }

abbrev pub devices : ℕ → ℕ → ℕ → Bool → Bool → Devices
devices clock rxd txd r t = record { clock = clock; rxd = rxd; txd = txd; r = r; t = t }

-- "first above last means none"
abbrev pub unprotected : Stretch
unprotected = record { first = 1; last = 0 }

-- with other devices, or another halted mark, and all else as it is
abbrev pub with_devices : Board → Devices → Board
with_devices b v = board v b.halted b.stretch

abbrev pub with_halted : Board → Bool → Board
with_halted b h = board b.devices h b.stretch

-- "registers, CSRs, clock, RXD, TXD are 0; R=0, T=1; not halted"; the protected addresses are those of the machine
unfoldable pub reset : Stretch → Cpu
reset p = cpu (replicate 16 0) (replicate 6 0) (board (devices 0 0 0 false true) false p)
