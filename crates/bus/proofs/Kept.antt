-- What keeps a state good and memory a list of bytes: a word set, a byte read or written. The starting state is good.
use mathlib.Core.Path.{◌≡◌, refl, sym, ◌∙◌, subst}
use mathlib.Core.Bool.{Bool, true, false, cond}
use mathlib.Core.List.{List, [], ◌∷◌}
use Prim.Native.Nat.{ℕ, zero, suc, ◌+◌, ◌^◌, ◌≤◌, ◌<◌}
use native.Mathlib.Omega.{arith}
use lib.Dec.{ltb, eqb}
use lib.ListN.{length, set, length-set, replicate}
use Rattle.word.specs.Word.{above}
use Rattle.word.proofs.Width.{low_below, high-below, join-below}
use Rattle.bus.specs.State.{word, reset}
use Rattle.bus.specs.Addresses.{device_byte, byte_at, word_at, device_after, dropped, Bus, put_byte, put_word}
use Rattle.bus.specs.Good.{Within, GoodRegs, GoodCsrs, GoodDevices, GoodBoard, Good}
use Rattle.bus.specs.declared.state.Devices.{Devices}
use Rattle.bus.specs.declared.state.Stretch.{Stretch}

-- what holds of both holds of the one that a test picks
pub picked : {A : Type 0} (P : A → Type 0) (t : Bool) {x y : A} → P x → P y → P (cond t x y)
picked P true p q = p
picked P false p q = q

word_set : (k : ℕ) (l : List ℕ) (i x : ℕ) → ((j : ℕ) → word l j < 2 ^ k) → x < 2 ^ k → (j : ℕ) → word (set l i x) j < 2 ^ k
word_set k [] i x w h j = w j
word_set k (y ∷ l) zero x w h zero = h
word_set k (y ∷ l) zero x w h (suc j) = w (suc j)
word_set k (y ∷ l) (suc i) x w h zero = w zero
word_set k (y ∷ l) (suc i) x w h (suc j) = word_set k l i x (λ n. w (suc n)) h j

pub within-set : (k : ℕ) {l : List ℕ} (i : ℕ) {x : ℕ} → Within k l → x < 2 ^ k → Within k (set l i x)
within-set k {l} i {x} w h = record { at = word_set k l i x w.at h }

pub reg-set : {g : List ℕ} (i : ℕ) {x : ℕ} → GoodRegs g → x < 2 ^ 16 → GoodRegs (set g i x)
reg-set {g} i {x} r h = record { long = length-set g i x ∙ r.long; words = within-set 16 i r.words h }

first-set : (k : List ℕ) (x : ℕ) → word k 0 ≤ 511 → x ≤ 511 → word (set k 0 x) 0 ≤ 511
first-set [] x h l = h
first-set (y ∷ k) x h l = l

first-kept : (k : List ℕ) (i x : ℕ) → word (set k (suc i) x) 0 ≡ word k 0
first-kept [] i x = refl
first-kept (y ∷ k) i x = refl

pub csr0-set : {k : List ℕ} {x : ℕ} → GoodCsrs k → x ≤ 511 → GoodCsrs (set k 0 x)
csr0-set {k} {x} r h = record {
  long = length-set k 0 x ∙ r.long;
  words = within-set 16 0 r.words (omega arith);
  csr0 = first-set k x r.csr0 h;
}

pub csr-set : {k : List ℕ} (i : ℕ) {x : ℕ} → GoodCsrs k → x < 2 ^ 16 → GoodCsrs (set k (suc i) x)
csr-set {k} i {x} r h = record {
  long = length-set k (suc i) x ∙ r.long;
  words = within-set 16 (suc i) r.words h;
  csr0 = subst (λ n. n ≤ 511) (sym (first-kept k i x)) r.csr0;
}

-- addresses
module _ {v : Devices} {m : List ℕ} (gv : GoodDevices v) (gm : Within 8 m) where
  pub byte-in : (a : ℕ) → byte_at v m a < 2 ^ 8
  unfolding byte_at device_byte
  byte-in a =
      picked Byte (ltb a (length m)) (gm.at a)
      (picked Byte (eqb a 0xffe1) gv.rxd
      (picked Byte (eqb a 0xffe2) (ready v.r v.t)
      (picked Byte (eqb a 0xfff0) (low_below 8 v.clock)
      (picked Byte (eqb a 0xfff1) (high-below 8 8 gv.clock) (omega arith)))))
    where
      Byte : ℕ → Type 0
      Byte n = n < 2 ^ 8

      ready : (r t : Bool) → cond r 1 0 + cond t 2 0 < 2 ^ 8
      ready true true = omega arith
      ready true false = omega arith
      ready false true = omega arith
      ready false false = omega arith

  pub word_in : (a : ℕ) → word_at v m a < 2 ^ 16
  unfolding word_at
  word_in a = join-below 8 8 (byte-in a) (byte-in _)

pub record GoodBus (u : Bus) : Type 0 where
  pub board : GoodBoard u.board
  pub ram : Within 8 u.ram

devices-after : {v : Devices} (a : ℕ) {b : ℕ} → GoodDevices v → b < 2 ^ 8 → GoodDevices (device_after v a b)
unfolding device_after
devices-after {v} a {b} r h =
    picked GoodDevices (eqb a 0xffe0)
    (picked GoodDevices v.t (record { clock = r.clock; rxd = r.rxd; txd = h }) r)
    (picked GoodDevices (eqb a 0xffe1) (record { clock = r.clock; rxd = r.rxd; txd = r.txd }) r)

pub byte_put : {u : Bus} (a : ℕ) {b : ℕ} → GoodBus u → b < 2 ^ 8 → GoodBus (put_byte u a b)
unfolding put_byte
byte_put {u} a r h =
    picked GoodBus (dropped u.board.stretch (length u.ram) a) r
    (picked GoodBus (ltb a (length u.ram)) (record { board = r.board; ram = within-set 8 a r.ram h })
    (record { board = record { devices = devices-after a r.board.devices h }; ram = r.ram }))

pub word-put : {u : Bus} (a : ℕ) {w : ℕ} → GoodBus u → w < 2 ^ 16 → GoodBus (put_word u a w)
unfolding put_word
word-put a {w} r h = byte_put (above a) (byte_put a r (low_below 8 w)) (high-below 8 8 h)

-- the starting state is good
pub reset-good : (p : Stretch) → Good (reset p)
unfolding reset
reset-good p = record {
  regs = record { long = refl; words = record { at = zeros 16 } };
  csrs = record { long = refl; words = record { at = zeros 6 }; csr0 = omega arith };
  board = record { devices = record { clock = omega arith; rxd = omega arith; txd = omega arith } };
}
  where
    zeros : (n i : ℕ) → word (replicate n 0) i < 2 ^ 16
    zeros zero i = omega arith
    zeros (suc n) zero = omega arith
    zeros (suc n) (suc i) = zeros n i
