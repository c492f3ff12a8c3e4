-- "Addresses": RAM below its length, the device registers, and nothing else.
use Rattle.std.specs.Prelude.{Bool, false, cond, ◌&&◌, List, ℕ, ◌+◌, ltb, leb, eqb, length, set}
use Rattle.word.specs.Word.{above, join_at, low_at, high_at}
use Rattle.word.specs.Memory.{byte_in}
use Rattle.bus.specs.State.{devices, with_devices}
use Rattle.bus.specs.declared.state.Board.{Board}
use Rattle.bus.specs.declared.state.Devices.{Devices}
use Rattle.bus.specs.declared.state.Stretch.{Stretch}

-- "0xffe0 TXD (reads 0), 0xffe1 RXD, 0xffe2 READY (R in bit 0, T in bit 1), 0xfff0/0xfff1 clock low/high. Anything else reads 0"
unfoldable pub device_byte : Devices → ℕ → ℕ
device_byte v a =
    cond (eqb a 0xffe1) v.rxd
    (cond (eqb a 0xffe2) (cond v.r 1 0 + cond v.t 2 0)
    (cond (eqb a 0xfff0) (low_at 8 v.clock)
    (cond (eqb a 0xfff1) (high_at 8 v.clock)
    0)))

-- "Addresses below the RAM length are RAM."
unfoldable pub byte_at : Devices → List ℕ → ℕ → ℕ
byte_at v m a = cond (ltb a (length m)) (byte_in m a) (device_byte v a)

-- "Low byte first; odd addresses are fine"
unfoldable pub word_at : Devices → List ℕ → ℕ → ℕ
word_at v m a = join_at 8 (byte_at v m a) (byte_at v m (above a))

-- "Writing RXD sets R=0 and keeps the byte."
abbrev pub acknowledged : Devices → Devices
acknowledged v = devices v.clock v.rxd v.txd false v.t

-- "Writing TXD with T=1 stores the byte and sets T=0; with T=0 it is ignored"
abbrev pub sending : Devices → ℕ → Devices
sending v b = cond v.t (devices v.clock v.rxd b v.r false) v

-- "writes to READY and the clock are ignored"; "Anything else .. ignores writes"
unfoldable pub device_after : Devices → ℕ → ℕ → Devices
device_after v a b = cond (eqb a 0xffe0) (sending v b) (cond (eqb a 0xffe1) (acknowledged v) v)

-- what a write reaches
pub record Bus : Type 0 where
  pub board : Board
  pub ram : List ℕ

abbrev pub bus : Board → List ℕ → Bus
bus b m = record { board = b; ram = m }

-- Q-4: "a first and last protected address ..; first above last means none": then no address is from the first to the last
abbrev pub protects : Stretch → ℕ → Bool
protects p a = leb p.first a && leb a p.last

-- "A store by an instruction to a protected RAM byte is dropped", where RAM has n bytes; a device in the stretch is no RAM byte
unfoldable pub dropped : Stretch → ℕ → ℕ → Bool
dropped p n a = ltb a n && protects p a

-- what a byte stored by an instruction leaves: nothing else than what was there, where it is dropped
unfoldable pub put_byte : Bus → ℕ → ℕ → Bus
put_byte u a x =
    cond (dropped u.board.stretch (length u.ram) a) u
    (cond (ltb a (length u.ram)) (bus u.board (set u.ram a x))
    (bus (with_devices u.board (device_after u.board.devices a x)) u.ram))

-- "A word is written lower address first, then the next."; Q-4: "the word's other byte still goes in"
unfoldable pub put_word : Bus → ℕ → ℕ → Bus
put_word u a w = put_byte (put_byte u a (low_at 8 w)) (above a) (high_at 8 w)
