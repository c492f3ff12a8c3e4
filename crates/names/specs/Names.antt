-- Names of registers and CSRs, and what a name that a person wrote stands for.
use Rattle.std.specs.Prelude.{ℕ, suc, Bool, true, false, cond, Option, Some, None, ◌&&◌, List, [], ◌∷◌, map, eqb, leb, ltb, get_or}
use Prim.Native.String.{String}
use Prim.Native.Char.{code}
unfoldable pub use Rattle.letters.specs.Letters.{lower}
use Rattle.names.specs.declared.register.Reg.{Reg}
use Rattle.names.specs.declared.register.Csr.{Csr}

-- the bytes of a text of ASCII characters
abbrev pub bytes : String → List ℕ
bytes String.[] = []
bytes (String.◌∷◌ c s) = code c ∷ bytes s

-- "16 registers"; canonical names
abbrev pub register_names : List (List ℕ)
register_names =
    bytes "r0" ∷ bytes "r1" ∷ bytes "r2" ∷ bytes "r3" ∷ bytes "r4" ∷ bytes "r5" ∷ bytes "r6" ∷ bytes "r7"
    ∷ bytes "r8" ∷ bytes "r9" ∷ bytes "r10" ∷ bytes "r11" ∷ bytes "r12" ∷ bytes "r13" ∷ bytes "r14" ∷ bytes "r15" ∷ []

-- "Registers 11 to 15 carry the fixed names sp, ca, ia, f, pc."
abbrev pub SP : ℕ
SP = 11

abbrev pub CA : ℕ
CA = 12

abbrev pub IA : ℕ
IA = 13

abbrev pub F : ℕ
F = 14

abbrev pub PC : ℕ
PC = 15

abbrev pub fixed_numbers : List ℕ
fixed_numbers = SP ∷ CA ∷ IA ∷ F ∷ PC ∷ []

abbrev pub fixed_names : List (List ℕ)
fixed_names = bytes "sp" ∷ bytes "ca" ∷ bytes "ia" ∷ bytes "f" ∷ bytes "pc" ∷ []

-- csr0 to csr15
abbrev pub csr_names : List (List ℕ)
csr_names =
    bytes "csr0" ∷ bytes "csr1" ∷ bytes "csr2" ∷ bytes "csr3" ∷ bytes "csr4" ∷ bytes "csr5" ∷ bytes "csr6" ∷ bytes "csr7"
    ∷ bytes "csr8" ∷ bytes "csr9" ∷ bytes "csr10" ∷ bytes "csr11" ∷ bytes "csr12" ∷ bytes "csr13" ∷ bytes "csr14" ∷ bytes "csr15" ∷ []

-- the name of a register, of a CSR, by its number
abbrev pub register_name : ℕ → List ℕ
register_name n = get_or register_names n []

abbrev pub csr_name : ℕ → List ℕ
csr_name n = get_or csr_names n []

abbrev pub same : List ℕ → List ℕ → Bool
same [] [] = true
same [] (y ∷ ys) = false
same (x ∷ xs) [] = false
same (x ∷ xs) (y ∷ ys) = eqb x y && same xs ys

-- what was written is the name; no name is empty
abbrev pub spells : List ℕ → List ℕ → Bool
spells w [] = false
spells w (b ∷ n) = same w (b ∷ n)

-- the place of the first name that w spells, or the number of the names where it spells none
abbrev pub place_in : List (List ℕ) → List ℕ → ℕ
place_in [] w = 0
place_in (n ∷ ns) w = cond (spells w n) 0 (suc (place_in ns w))

-- a register by its number: "any number 0–15"
abbrev pub reg_numbered : ℕ → Option Reg
reg_numbered n = cond (leb n 15) (Some (record { number = n })) None

-- a register by its place among the fixed names
abbrev pub reg_fixed : ℕ → Option Reg
reg_fixed p = cond (ltb p 5) (Some (record { number = get_or fixed_numbers p 0 })) None

-- a register by its canonical or its fixed name, in either case
unfoldable pub reg_named : List ℕ → Option Reg
reg_named w = cond (ltb (place_in register_names (map lower w)) 16) (reg_numbered (place_in register_names (map lower w))) (reg_fixed (place_in fixed_names (map lower w)))

abbrev pub csr_numbered : ℕ → Option Csr
csr_numbered n = cond (leb n 15) (Some (record { number = n })) None

unfoldable pub csr_named : List ℕ → Option Csr
csr_named w = csr_numbered (place_in csr_names (map lower w))
