-- "Journal record": 32 words that keep the state before an input and the bytes that it wrote over.
use Rattle.std.specs.Prelude.{ℕ, zero, suc, ◌+◌, Bool, cond, ◌&&◌, List, [], ◌∷◌, ◌++◌, leb, eqb}
use Rattle.std.proofs.Math.Option.{Option, some, none}
use Rattle.word.specs.Word.{join_at, low_at, high_at}
use Rattle.word.specs.Bits.{bit_at}
use Rattle.bus.specs.State.{word, cpu, board, devices}
use Rattle.bus.specs.declared.state.Cpu.{Cpu}
use Rattle.bus.specs.declared.state.Stretch.{Stretch}
use Rattle.history.specs.Trace.{Undo}

-- n words of l, from the i-th on
abbrev pub part : ℕ → List ℕ → ℕ → List ℕ
part zero l i = []
part (suc n) l i = word l i ∷ part n l (suc i)

-- "24 R + 2T + 4·halted"
abbrev pub marks : Bool → Bool → Bool → ℕ
marks r t h = cond r 1 0 + cond t 2 0 + cond h 4 0

-- "words 0–15 registers, 16–21 csr0–csr5, 22 clock, 23 RXD + 256·TXD, 24 R + 2T + 4·halted, 25 bytes written .. through memory .., 26 first
-- address, 27 old first byte + 256·old second .., 28–31 zero"
abbrev pub words_of : List ℕ → List ℕ → ℕ → ℕ → ℕ → ℕ → ℕ → ℕ → List ℕ
words_of g k clock keyboard bits n a old = part 16 g 0 ++ (part 6 k 0 ++ (clock ∷ keyboard ∷ bits ∷ n ∷ a ∷ old ∷ 0 ∷ 0 ∷ 0 ∷ 0 ∷ []))

unfoldable pub record_with : Cpu → ℕ → ℕ → ℕ → List ℕ
record_with c n a old =
    let v = c.board.devices in
    words_of c.regs c.csrs v.clock (join_at 8 v.rxd v.txd) (marks v.r v.t c.board.halted) n a old

abbrev pub record_of : Undo Cpu → List ℕ
record_of u = record_with u.cpu u.count u.first (join_at 8 u.low u.high)

-- what 32 words say of a machine with the protected addresses p: no record holds these
unfoldable pub undo_from : Stretch → List ℕ → Undo Cpu
undo_from p w =
    record {
      cpu =
          cpu (part 16 w 0) (part 6 w 16)
          (board (devices (word w 22) (low_at 8 (word w 23)) (high_at 8 (word w 23)) (bit_at (word w 24) 0) (bit_at (word w 24) 1))
          (bit_at (word w 24) 2) p);
      count = word w 25;
      first = word w 26;
      low = low_at 8 (word w 27);
      high = high_at 8 (word w 27);
    }

-- refusal 9 is where this fails: "record has csr0 over 511, word 24 over 7, word 25 over 2, or a nonzero word 28–31"
unfoldable pub sound : List ℕ → Bool
sound w =
    leb (word w 16) 511 && (leb (word w 24) 7 && (leb (word w 25) 2
    && (eqb (word w 28) 0 && (eqb (word w 29) 0 && (eqb (word w 30) 0 && eqb (word w 31) 0)))))

unfoldable pub decoded : Stretch → List ℕ → Option (Undo Cpu)
decoded p w = cond (sound w) (some (undo_from p w)) none
