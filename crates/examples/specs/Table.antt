-- "Sixteen marked examples": what is given, and all that is seen after it. What the paper does not name is as at the start, and stays.
use Rattle.std.specs.Prelude.{ℕ, ◌≡◌, Bool, true, false, List, [], ◌∷◌, map, set}
use Prim.Native.String.{String}
use Rattle.names.specs.Names.{bytes, IA, F, PC}
use Rattle.bus.specs.State.{cpu, with_halted, unprotected, reset}
use Rattle.bus.specs.declared.state.Cpu.{Cpu}
use Rattle.cpu.specs.Step.{step_of}
use Rattle.text.specs.Listing.{text_of}

-- a state and a memory before a step, or a word to be listed
pub data Given : Type 0 where
  machine : Cpu → List ℕ → Given
  word : ℕ → Given

-- the whole state and the memory after the step, or the text
pub data Seen : Type 0 where
  state : Cpu → List ℕ → Seen
  text : List ℕ → Seen

-- what the rules and the text show
abbrev pub shown : Given → Seen
shown (machine c m) = state (step_of c m).box.cpu (step_of c m).box.ram
shown (word w) = text (text_of w)

pub record Example : Type 0 where
  pub given : Given
  pub seen : Seen

-- the start, with no protected address
abbrev pub start : Cpu
start = reset unprotected

-- r1, r2, ia, f, pc, csr0 and the halted mark; all else as at the start
abbrev pub with : ℕ → ℕ → ℕ → ℕ → ℕ → ℕ → Bool → Cpu
with r1 r2 ia f pc csr0 h =
    cpu (set (set (set (set (set start.regs 1 r1) 2 r2) IA ia) F f) PC pc) (set start.csrs 0 csr0) (with_halted start.board h)

-- an instruction at 0, "f, CSRs 0 and pc 0 unless given": r1, r2, f, csr0 and RAM before it, then r1, r2, f, csr0 and the halted mark; RAM stays,
-- and pc is 2
abbrev pub step : ℕ → ℕ → ℕ → ℕ → List ℕ → ℕ → ℕ → ℕ → ℕ → Bool → Example
step r1 r2 f csr0 m r1' r2' f' csr0' h =
    record { given = machine (with r1 r2 0 f 0 csr0 false) m; seen = state (with r1' r2' 0 f' 2 csr0' h) m }

abbrev pub listing : ℕ → String → Example
listing w s = record { given = word w; seen = text (bytes s) }

-- 16 bytes of which only the first two are given, then a word at 0x0010
abbrev pub word_at16 : ℕ → ℕ → ℕ → ℕ → List ℕ
word_at16 o b low high = o ∷ b ∷ 0 ∷ 0 ∷ 0 ∷ 0 ∷ 0 ∷ 0 ∷ 0 ∷ 0 ∷ 0 ∷ 0 ∷ 0 ∷ 0 ∷ 0 ∷ 0 ∷ low ∷ high ∷ []

unfoldable pub table : List Example
table =
    -- 1. "add 0xffff, 1: 0, f 0x30"
    step 0xffff 1 0 0 (0x01 ∷ 0x12 ∷ []) 0 1 0x30 0 false
    -- 2. "add 0x7fff, 1: 0x8000, f 0xc0"
    ∷ step 0x7fff 1 0 0 (0x01 ∷ 0x12 ∷ []) 0x8000 1 0xc0 0 false
    -- 3. "sub 0, 1: 0xffff, f 0x60"
    ∷ step 0 1 0 0 (0x18 ∷ 0x12 ∷ []) 0xffff 1 0x60 0 false
    -- 4. "cmps 0x8000, 0x7fff: f 0x60"
    ∷ step 0x8000 0x7fff 0 0 (0x1b ∷ 0x12 ∷ []) 0x8000 0x7fff 0x60 0 false
    -- 5. "cmpu same: f 0"
    ∷ step 0x8000 0x7fff 0 0 (0x19 ∷ 0x12 ∷ []) 0x8000 0x7fff 0 0 false
    -- 6. "ldb over 0x12ff, byte 0xe5: 0x12e5"
    ∷ step 0x12ff 2 0 0 (0x0b ∷ 0x12 ∷ 0xe5 ∷ []) 0x12e5 2 0 0 false
    -- 7. "dec2 of 0x8001: 0x7fff, f 0x80"
    ∷ step 0 0x8001 0 0 (0x06 ∷ 0x12 ∷ []) 0x7fff 0x8001 0x80 0 false
    -- 8. "shra 0xffff by 1: 0xffff, f 0xe0"
    ∷ step 0xffff 1 0 0 (0x14 ∷ 0x12 ∷ []) 0xffff 1 0xe0 0 false
    -- 9. "bytes 07 fc: `exch r15, r12`"
    ∷ listing 0xfc07 "exch r15, r12"
    -- 10. "9c ff: `ldz r15, r15`"
    ∷ listing 0xff9c "ldz r15, r15"
    -- 11. "a4 with z=0 loads, source unchanged"
    ∷ step 0 2 0 0 (0xa4 ∷ 0x12 ∷ 0x34 ∷ 0x12 ∷ []) 0x1234 2 0 0 false
    -- 12. "ldis r1, r1 at 0x0010 holding 0x1234: 0x1236"
    ∷ step 0x0010 0 0 0 (word_at16 0x0c 0x11 0x34 0x12) 0x1236 0 0 0 false
    -- 13. "ddsto r1, r1 from 0: 0xfffe, RAM unchanged"
    ∷ step 0 0 0 0 (0x17 ∷ 0x11 ∷ []) 0xfffe 0 0 0 false
    -- 14. "opcode 00, f 0x0100: pc 2, f 0x0300, csr0 0x0101; next step f 0x0200, ia 2"
    ∷ step 0 0 0x0100 0 (0x00 ∷ 0x00 ∷ []) 0 0 0x0300 0x0101 false
    ∷ record {
      given = machine (with 0 0 0 0x0300 2 0x0101 false) (0x00 ∷ 0x00 ∷ []);
      seen = state (with 0 0 2 0x0200 0 0x0101 false) (0x00 ∷ 0x00 ∷ []);
    }
    -- 15. "opcode 00, f 0: halted, f 0x0200"
    ∷ step 0 0 0 0 (0x00 ∷ 0x00 ∷ []) 0 0 0x0200 0x0101 true
    -- 16. "mv f from 0x0400, csr0 0x0101: f 0x0400, csr0 0x0001"
    ∷ step 0x0400 0 0 0x0101 (0x0e ∷ 0xe1 ∷ []) 0x0400 0 0x0400 0x0001 false
    ∷ []

-- the statement: every example shows what is seen
abbrev pub AllShown : Type 0
AllShown = map (λ (e : Example). shown e.given) table ≡ map (λ (e : Example). e.seen) table
