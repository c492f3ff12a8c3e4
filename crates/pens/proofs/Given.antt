-- The given registers, pair by pair; and calls made one after another.
use Prim.Native.Nat.{ℕ, ◌-◌, ◌%◌, ◌≤◌, ◌<◌}
use mathlib.Core.Path.{◌≡◌, refl, sym, ◌∙◌, ap}
use mathlib.Core.Bool.{Bool, true, false, ◌&&◌, true≢false}
use mathlib.Core.List.{List, [], ◌∷◌, ◌++◌}
use native.Mathlib.Omega.{arith}
use native.Mathlib.Nat.{mod-eq_of_lt}
use borrow.Author.Tests.{lt-ltb, le-ltb, ltb-true}
use lib.Dec.{ltb}
use lib.ListN.{length, get_or, drop, take}
use lib.Seq.{take_all}
use Rattle.history.specs.Trace.{Call, give}
use Rattle.calls.specs.Inputs.{Input, set_register}
use Rattle.calls.specs.Calls.{W, answer_of, said_by}
use Rattle.calls.specs.declared.state.Answer.{Answer as AnswerT}
use Rattle.calls.specs.declared.state.Answer.TheVariants.{Accepted, Stepped, Ran, Refused}
use Rattle.entries.specs.Code.{no_points, added, added_all, points_of}
use Rattle.entries.specs.declared.Entry.{Entry}
use Rattle.pens.specs.Pen.{settings, all_registers, made}

-- what a call leaves does not depend on how it answers
pub world-said : (a : AnswerT) (w : W) → (said_by a w).world ≡ w
world-said Accepted w = refl
world-said (Stepped b) w = refl
world-said (Ran r) w = refl
world-said (Refused why) w = refl

-- ---- pair by pair
-- what is left after two words, as patterns take them apart
abbrev after_two : List ℕ → List ℕ
after_two s = take (length s - 2) (drop 2 s)

pair : (s : List ℕ) → 2 ≤ length s → s ≡ get_or s 0 0 ∷ get_or s 1 0 ∷ after_two s
pair [] h = absurd (omega arith)
pair (x ∷ []) h = absurd (omega arith)
pair (x ∷ y ∷ s) h = ap (λ (t : List ℕ). x ∷ y ∷ t) (sym (take_all (length (x ∷ y ∷ s) - 2) s (omega arith)))

settings-next : (s : List ℕ) → 2 ≤ length s → settings s ≡ give (set_register (get_or s 0 0) (get_or s 1 0)) ∷ settings (after_two s)
unfolding settings
settings-next s h = ap settings (pair s h)

all-next : (s : List ℕ) → 2 ≤ length s → all_registers s ≡ (ltb (get_or s 0 0) 16 && all_registers (after_two s))
unfolding all_registers
all-next s h = ap all_registers (pair s h)

settings-end : (s : List ℕ) → length s ≤ 1 → settings s ≡ []
unfolding settings
settings-end [] h = refl
settings-end (x ∷ []) h = refl
settings-end (x ∷ y ∷ s) h = absurd (omega (arith, h))

pub all_end : (s : List ℕ) → length s ≤ 1 → all_registers s ≡ true
unfolding all_registers
all_end [] h = refl
all_end (x ∷ []) h = refl
all_end (x ∷ y ∷ s) h = absurd (omega (arith, h))

pub all-not : (s : List ℕ) → 2 ≤ length s → 15 < get_or s 0 0 → all_registers s ≡ false
all-not s h g = all-next s h ∙ rw (le-ltb (get_or s 0 0) 16 (omega (arith, g)))

pub all-on : (s : List ℕ) → 2 ≤ length s → get_or s 0 0 ≤ 15 → all_registers s ≡ all_registers (after_two s)
all-on s h g = all-next s h ∙ rw (lt-ltb (get_or s 0 0) 16 (omega (arith, g)))

and_first : (a b : Bool) → (a && b) ≡ true → a ≡ true
and_first true b e = refl
and_first false b e = e

and_second : (a b : Bool) → (a && b) ≡ true → b ≡ true
and_second true b e = e
and_second false b e = absurd (true≢false (sym e))

pub all_here : (s : List ℕ) → 2 ≤ length s → all_registers s ≡ true → (get_or s 0 0 < 16) × (all_registers (after_two s) ≡ true)
all_here s h e =
    let q = sym (all-next s h) ∙ e in
    (ltb-true (get_or s 0 0) 16 (and_first _ _ q), and_second (ltb (get_or s 0 0) 16) (all_registers (after_two s)) q)

-- one pair given, of numbers that are all registers': a byte holds its number whole
pub settings-turn : (s : List ℕ) (w v : W) → 2 ≤ length s → all_registers s ≡ true
    → v ≡ (answer_of (give (set_register (get_or s 0 0 % 256) (get_or s 1 0))) w).world → made (settings (after_two s)) v ≡ made (settings s) w
unfolding made
settings-turn s w v h e q =
    let k : get_or s 0 0 % 256 ≡ get_or s 0 0 = mod-eq_of_lt (omega (arith, (all_here s h e).0)) in
    ap (made (settings (after_two s))) (q ∙ ap (λ (j : ℕ). (answer_of (give (set_register j (get_or s 1 0))) w).world) k)
    ∙ sym (ap (λ (cs : List (Call Input)). made cs w) (settings-next s h))

pub settings-done : (s : List ℕ) (w : W) → length s ≤ 1 → made (settings s) w ≡ w
unfolding made
settings-done s w h = ap (λ (cs : List (Call Input)). made cs w) (settings-end s h)

-- ---- calls one after another
pub made-on : (c : Call Input) (cs : List (Call Input)) (w v : W) → v ≡ (answer_of c w).world → made (c ∷ cs) w ≡ made cs v
unfolding made
made-on c cs w v e = ap (made cs) (sym e)

pub made_none : (w : W) → made [] w ≡ w
unfolding made
made_none w = refl

pub made-append : (a b : List (Call Input)) (w : W) → made (a ++ b) w ≡ made b (made a w)
unfolding made
made-append [] b w = refl
made-append (c ∷ a) b w = made-append a b (answer_of c w).world

-- ---- the list of one break
pub lone : (e : Entry) → added no_points e ≡ points_of (e ∷ [])
unfolding added_all
lone e = refl
