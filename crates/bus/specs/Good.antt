-- A state as a machine can have it: sixteen registers, six CSRs, every number in its range, and bits 9–15 of csr0 "always 0".
use Rattle.std.specs.Prelude.{◌≡◌, List, ℕ, ◌≤◌, ◌<◌, ◌^◌, length, set}
use Rattle.word.specs.Word.{above}
use Rattle.bus.specs.State.{word}
use Rattle.bus.specs.declared.state.Cpu.{Cpu}
use Rattle.bus.specs.declared.state.Board.{Board}
use Rattle.bus.specs.declared.state.Devices.{Devices}

-- every number of the list has k bits
pub record Within (k : ℕ) (l : List ℕ) : Type 0 where
  pub at : (i : ℕ) → word l i < 2 ^ k

pub record GoodRegs (g : List ℕ) : Type 0 where
  pub long : length g ≡ 16
  pub words : Within 16 g

pub record GoodCsrs (k : List ℕ) : Type 0 where
  pub long : length k ≡ 6
  pub words : Within 16 k
  pub csr0 : word k 0 ≤ 511

pub record GoodDevices (v : Devices) : Type 0 where
  pub clock : v.clock < 2 ^ 16
  pub rxd : v.rxd < 2 ^ 8
  pub txd : v.txd < 2 ^ 8

pub record GoodBoard (b : Board) : Type 0 where
  pub devices : GoodDevices b.devices

pub record Good (c : Cpu) : Type 0 where
  pub regs : GoodRegs c.regs
  pub csrs : GoodCsrs c.csrs
  pub board : GoodBoard c.board

-- what the memory m becomes by n bytes written from address a on: only those bytes change, and of them only those in RAM; with no byte a is 0
pub data Changed (m : List ℕ) : ℕ → ℕ → List ℕ → Type 0 where
  none : Changed m 0 0 m
  one : (a x : ℕ) → Changed m a 1 (set m a x)
  two : (a x y : ℕ) → Changed m a 2 (set (set m a x) (above a) y)
