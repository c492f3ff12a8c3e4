-- What a caller knows of a machine that passed checks 1 to 3.
use Prim.Native.Nat.{◌≤◌}
use mathlib.Core.Path.{◌≡◌}
use mathlib.Core.Bool.{Bool, true, false}
use native.Mathlib.Omega.{arith}
use lib.Dec.{T, leb→le}
use lib.ListN.{length}
use Rattle.history.specs.Ring.{slots}
use Rattle.calls.specs.Calls.{W, ram_fits, journal_fits, state_fits, first_of, check_of}

first-passed : (a b c : Bool) → first_of a b c ≡ 0 → T a
first-passed true b c e = tt
first-passed false b c e = absurd (omega (arith, e))

-- check 1
pub ram-fits : (w : W) → check_of w ≡ 0 → length w.box.ram ≤ 65504
unfolding check_of
ram-fits w e =
    let j = w.journal in
    leb→le (length w.box.ram) 65504
    (first-passed (ram_fits (length w.box.ram)) (journal_fits (length j.words)) (state_fits (slots j.words) w.box.cpu j.next j.held) e)
