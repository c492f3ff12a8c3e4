-- What refuses a pen, and what a pen that nothing refuses has.
use Prim.Native.Nat.{ℕ, zero, suc, ◌+◌, ◌-◌, ◌≤◌, ◌<◌}
use mathlib.Core.Path.{◌≡◌, refl, sym, ◌∙◌, ap}
use mathlib.Core.Bool.{Bool, true, false, cond, true≢false}
use mathlib.Core.List.{List}
use native.Mathlib.Omega.{arith}
use borrow.Author.Tests.{lt-leb, le-leb, ltb-true, ltb-false, leb-true}
use lib.Dec.{leb, ltb}
use lib.ListN.{length}
use Rattle.calls.specs.Calls.{W, check_of}
use Rattle.calls.proofs.Passed.{ram-fits}
use Rattle.watched.specs.Answer.{or_else}
use Rattle.utf8.specs.Latin.{judged_of}
use Rattle.std.specs.Prelude.{is_some, is_ok, Option, Some, None, Result, Ok, Err}
use Rattle.calls.specs.Code.{checked}
use Rattle.calls.specs.declared.state.Refusal.{Refusal as Why}
use Rattle.calls.specs.declared.state.Refusal.TheVariants as Whys
use Rattle.utf8.specs.declared.Unfit.{Unfit}
use Rattle.utf8.specs.declared.Unfit.TheVariants.{NotUtf8, NotLatin}
use Rattle.manifests.specs.declared.Held.{Held}
use Rattle.pens.specs.Code.{refusal_number}
use Rattle.pens.specs.declared.checking.Refusal.{Refusal}
use Rattle.pens.specs.declared.checking.Refusal.TheVariants.{Machine, NotHeld, Name, NoRoom}
use Rattle.pens.specs.Pen.{address_in, given_in, all_registers, judged_check, name_check, first_check, pen_check, refused, unless_refused, preparing, made, matching, reported, pen_named}

-- ---- room in RAM
pub no_room : (at n ram : ℕ) → ram ≤ at → false ≡ leb (at + (n + 1)) ram
no_room at n ram h = sym (lt-leb (at + (n + 1)) ram (omega (arith, h)))

pub room : (at n ram : ℕ) → at < ram → ltb n (ram - at) ≡ leb (at + (n + 1)) ram
room at n ram h = go (ltb n (ram - at)) refl
  where
    go : (t : Bool) → ltb n (ram - at) ≡ t → t ≡ leb (at + (n + 1)) ram
    go true e = sym (le-leb (at + (n + 1)) ram (omega (arith, ltb-true n (ram - at) e, h)))
    go false e = sym (lt-leb (at + (n + 1)) ram (omega (arith, ltb-false n (ram - at) e, h)))

-- ---- each check
pub or_else_some : (a b : ℕ) → (a ≡ 0 → ⊥) → a ≡ or_else a b
or_else_some zero b h = absurd (h refl)
or_else_some (suc a) b h = refl

-- no refusal has the number 0
pub refuses : (why : Refusal) → refusal_number why ≡ 0 → ⊥
refuses (Machine Whys.RamTooLong) e = omega (arith, e)
refuses (Machine Whys.BadJournal) e = omega (arith, e)
refuses (Machine Whys.BadState) e = omega (arith, e)
refuses (Machine Whys.Halted) e = omega (arith, e)
refuses (Machine Whys.NotReady) e = omega (arith, e)
refuses (Machine Whys.NoRegister) e = omega (arith, e)
refuses (Machine Whys.NotRam) e = omega (arith, e)
refuses (Machine Whys.NoRecord) e = omega (arith, e)
refuses (Machine Whys.BadRecord) e = omega (arith, e)
refuses NotHeld e = omega (arith, e)
refuses (Name NotUtf8) e = omega (arith, e)
refuses (Name NotLatin) e = omega (arith, e)
refuses NoRoom e = omega (arith, e)

module _ (at ram : ℕ) where
  pub name-not-held : (h : Option Held) (j : Result ℕ Unfit) → is_some h ≡ false → 83 ≡ name_check h j at ram
  unfolding name_check
  name-not-held (Some h) j e = absurd (true≢false e)
  name-not-held None j e = refl

  pub name-held : (h : Option Held) (j : Result ℕ Unfit) → is_some h ≡ true → judged_check j at ram ≡ name_check h j at ram
  unfolding name_check
  name-held (Some h) j e = refl
  name-held None j e = absurd (true≢false (sym e))

  unfit : (u : Unfit) → refusal_number (Name u) ≡ judged_check (Err u) at ram
  unfolding judged_check
  unfit NotUtf8 = refl
  unfit NotLatin = refl

  pub judged-unfit : (j : Result ℕ Unfit) (u : Unfit) → j ≡ Err u → refusal_number (Name u) ≡ judged_check j at ram
  judged-unfit j u e = rw e (unfit u)

  pub judged-room : (j : Result ℕ Unfit) (n : ℕ) (t : Bool) → j ≡ Ok n → leb (at + (n + 1)) ram ≡ t → cond t 0 82 ≡ judged_check j at ram
  unfolding judged_check
  judged-room j n t e f = rw (e, f)

  fits_by : (t : Bool) (n : ℕ) → leb (at + (n + 1)) ram ≡ t → ◌≡◌ {A = ℕ} (cond t 0 82) 0 → at + (n + 1) ≤ ram
  fits_by true n e z = leb-true (at + (n + 1)) ram e
  fits_by false n e z = absurd (omega (arith, z))

  judged-fits : (n : ℕ) → judged_check (Ok n) at ram ≡ 0 → at + (n + 1) ≤ ram
  unfolding judged_check
  judged-fits n z = fits_by (leb (at + (n + 1)) ram) n refl z

  pub name-fits : (h : Option Held) (n : ℕ) → name_check h (Ok n) at ram ≡ 0 → at + (n + 1) ≤ ram
  unfolding name_check
  name-fits (Some h) n z = judged-fits n z
  name-fits None n z = absurd (omega (arith, z))

  judged-fine : (u : Unfit) → judged_check (Err u) at ram ≡ 0 → ⊥
  unfolding judged_check
  judged-fine NotUtf8 z = omega (arith, z)
  judged-fine NotLatin z = omega (arith, z)

  -- a name that is not fine is refused
  pub name-fine : (h : Option Held) (u : Unfit) → name_check h (Err u) at ram ≡ 0 → ⊥
  unfolding name_check
  name-fine (Some h) u z = judged-fine u z
  name-fine None u z = omega (arith, z)

-- ---- all of them
-- where the machine's checks pass
pub passed : {T : Type 0} (r : Result T Why) → true ≡ is_ok r → checked r ≡ 0
passed (Ok t) e = refl
passed (Err why) e = absurd (true≢false e)

pub none_of : (a b : ℕ) → or_else a b ≡ 0 → (a ≡ 0) × (b ≡ 0)
none_of zero b e = (refl, e)
none_of (suc a) b e = absurd (omega (arith, e))

pub registers : (t : Bool) → ◌≡◌ {A = ℕ} (cond t 0 6) 0 → t ≡ true
registers true e = refl
registers false e = absurd (omega (arith, e))

module _ (h : Option Held) (name setup : List ℕ) (w : W) where
  -- what the code asks for where nothing refuses
  pub nothing-refuses : (n : ℕ) → judged_of name ≡ Ok n → pen_check h (judged_of name) setup w ≡ 0
      → (judged_of name ≡ Ok n) × (address_in setup + (n + 1) ≤ 65536) × (all_registers (given_in setup) ≡ true)
  nothing-refuses n e z =
      let a = none_of (first_check setup w) (name_check h (Ok n) (address_in setup) (length w.box.ram)) (rw e at z) in
      let b = none_of (check_of w) (cond (all_registers (given_in setup)) 0 6) a.0 in
      let f = name-fits (address_in setup) (length w.box.ram) h n a.1 in
      (e, omega (arith, f, ram-fits w b.0), registers (all_registers (given_in setup)) b.1)

  -- a name that is not fine does not get as far
  pub never : (u : Unfit) → judged_of name ≡ Err u → pen_check h (judged_of name) setup w ≡ 0 → ⊥
  never u e z =
      let a = none_of (first_check setup w) (name_check h (Err u) (address_in setup) (length w.box.ram)) (rw e at z) in
      name-fine (address_in setup) (length w.box.ram) h u a.1

  pub denies : (n : ℕ) → n ≡ pen_check h (judged_of name) setup w → (n ≡ 0 → ⊥) → pen_named h name setup w ≡ refused n h w
  unfolding pen_named
  denies n e f = ap (λ (x : ℕ). unless_refused x h w (reported h (matching setup (made (preparing setup name) w)))) (sym e) ∙ go n f
    where
      go : (k : ℕ) → (k ≡ 0 → ⊥) → unless_refused k h w (reported h (matching setup (made (preparing setup name) w))) ≡ refused k h w
      go zero z = absurd (z refl)
      go (suc k) z = refl

  pub accepts : pen_check h (judged_of name) setup w ≡ 0 → pen_named h name setup w ≡ reported h (matching setup (made (preparing setup name) w))
  unfolding pen_named
  accepts e = ap (λ (x : ℕ). unless_refused x h w (reported h (matching setup (made (preparing setup name) w)))) e
