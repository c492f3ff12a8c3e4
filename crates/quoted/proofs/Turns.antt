-- What stands between quotes: its count as far as it was read, and the whole call from its count.
use Prim.Native.Nat.{ℕ, suc, ◌+◌, ◌<◌, ◌≤◌}
use mathlib.Core.Path.{◌≡◌, refl, ap}
use mathlib.Core.List.{List}
use native.Mathlib.Omega.{arith}
use lib.ListN.{length}
use borrow.Author.Tests.{lt-leb, le-leb}
use Rattle.std.specs.Prelude.{Option, Some, None, Ok, Err}
use Rattle.quoted.specs.Quoted.{chars_say, chars_leave}
use Rattle.quoted.specs.declared.Fault.TheVariants.{Bad, NoRoom}
use Rattle.quoted.specs.Code.{counted, written}

-- the count of characters of which n were read before
abbrev pub counting : ℕ → Option (List ℕ) → Option ℕ
counting n None = None
counting n (Some cs) = Some (n + length cs)

abbrev amount : Option ℕ → ℕ
amount (Some n) = suc n
amount None = 0

-- the whole call, from the count
module _ (n : ℕ) (out : List ℕ) where
  pub faulty : (x : Option (List ℕ)) → counted x ≡ None → (Err Bad ≡ chars_say x (length out)) × (out ≡ chars_leave x out)
  unfolding chars_say chars_leave
  faulty None e = (refl, refl)
  faulty (Some cs) e = let y : suc (length cs) ≡ 0 = ap amount e in absurd (omega arith)

  pub no_room : (x : Option (List ℕ)) → counted x ≡ Some n → length out < n → (Err NoRoom ≡ chars_say x (length out)) × (out ≡ chars_leave x out)
  unfolding chars_say chars_leave
  no_room None e h = let y : 0 ≡ suc n = ap amount e in absurd (omega arith)
  no_room (Some cs) e h =
      let y : suc (length cs) ≡ suc n = ap amount e in
      let z = lt-leb (length cs) (length out) (omega arith) in
      (rw z, rw z)

  pub with-room : (x : Option (List ℕ)) (out' : List ℕ) → counted x ≡ Some n → n ≤ length out → out' ≡ written x 0 out
      → (Ok n ≡ chars_say x (length out)) × (out' ≡ chars_leave x out)
  unfolding chars_say chars_leave
  with-room None out' e h w = let y : 0 ≡ suc n = ap amount e in absurd (omega arith)
  with-room (Some cs) out' e h w =
      let y : suc (length cs) ≡ suc n = ap amount e in
      let m : length cs ≡ n = omega arith in
      let z = le-leb (length cs) (length out) (omega arith) in
      (rw (z, m), rw z w)
