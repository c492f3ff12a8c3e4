-- Swapping neighbouring groups of bits, of 1 bit first, then of 2, of 4 and so on, reverses a number whose width is a power of two: a group whose halves are
-- reversed is reversed once they are swapped. Once for any such width.
use Rattle.std.proofs.Common.{◌≡◌, ℕ, zero, suc, ◌+◌, ◌-◌, ◌*◌, ◌/◌, ◌%◌, ◌^◌, ◌<◌, Bool, true, false, ◌&&◌, ◌||◌, eqb, ltb, leb, sym, refl, subst, ◌∙◌, lt_of_le_of_lt, mul-le-mul_right, mod-lt, mul_assoc, suc-mul, mul_comm, pow-suc, zero-add, div-le_self, arith, pow_pos, ltb-false, ltb-true, le-leb}
use mathlib.Core.Bool.{and-true, and-false, or-false}
use borrow.Author.Tests.{lt-leb}
use lib.Bits.{bit_and, bit_or, and_lt, or_lt}
use lib.Pow.{high}
use Rattle.word.specs.Bits.{bit_at, from_bits, rev_at}
use Rattle.word.proofs.Digits.{below, by_bits, bit-of}
use Rattle.word.proofs.Bitwise.{and-bits, or-bits}
use Rattle.word.proofs.Shifts.{bit-shr, shl-bits}

-- the lower of each two neighbouring groups of g bits, in a number of w bits
unfoldable pub mask : (w g : ℕ) → ℕ
mask w g = from_bits w (λ i. eqb (i / g % 2) 0)

-- those change places with the upper ones, as the machine computes it
unfoldable pub swapped : (w g y : ℕ) → ℕ
swapped w g y = bit_or (bit_and y (mask w g) * 2 ^ g % 2 ^ w) (bit_and (y / 2 ^ g) (mask w g))

-- n swaps, of groups of 1 bit first and of 2 ^ (n - 1) last
unfoldable pub swaps : (w n x : ℕ) → ℕ
swaps w zero x = x
swaps w (suc n) x = swapped w (2 ^ n) (swaps w n x)

-- ---- one swap, bit by bit

mask_lt : (w g : ℕ) → mask w g < 2 ^ w
unfolding mask
mask_lt w g = below w (λ i. eqb (i / g % 2) 0)

-- bit s of group p
mask-bit : (w n p s : ℕ) → s < 2 ^ n → p * 2 ^ n + s < w → bit_at (mask w (2 ^ n)) (p * 2 ^ n + s) ≡ eqb (p % 2) 0
unfolding mask
mask-bit w n p s h l = bit-of w (λ i. eqb (i / 2 ^ n % 2) 0) (p * 2 ^ n + s) l ∙ rw (high p n h)

bit-and : (w a b i : ℕ) → a < 2 ^ w → b < 2 ^ w → i < w → bit_at (bit_and a b) i ≡ (bit_at a i && bit_at b i)
bit-and w a b i ha hb l = rw (and-bits w a b ha hb) (bit-of w (λ j. bit_at a j && bit_at b j) i l)

swapped-lt : (w g y : ℕ) → y < 2 ^ w → swapped w g y < 2 ^ w
unfolding swapped
swapped-lt w g y h =
    or_lt w (bit_and y (mask w g) * 2 ^ g % 2 ^ w) (bit_and (y / 2 ^ g) (mask w g)) (mod-lt (bit_and y (mask w g) * 2 ^ g) (pow_pos w))
    (and_lt w (y / 2 ^ g) (mask w g) (lt_of_le_of_lt (div-le_self y (2 ^ g)) h) (mask_lt w g))

-- a bit comes up from the group below or down from the group above
bit-swapped : (w g y i : ℕ) → y < 2 ^ w → i < w
    → bit_at (swapped w g y) i ≡ (leb g i && (bit_at y (i - g) && bit_at (mask w g) (i - g)) || bit_at y (i + g) && bit_at (mask w g) i)
unfolding swapped
bit-swapped w g y i h l =
    let m : ℕ = mask w g in
    let up : ℕ = bit_and y m * 2 ^ g % 2 ^ w in
    let down : ℕ = bit_and (y / 2 ^ g) m in
    let lm : m < 2 ^ w = mask_lt w g in
    let ly : y / 2 ^ g < 2 ^ w = lt_of_le_of_lt (div-le_self y (2 ^ g)) h in
    let li : i - g < w = omega arith in
    rw (
      or-bits w up down (mod-lt (bit_and y m * 2 ^ g) (pow_pos w)) (and_lt w (y / 2 ^ g) m ly lm),
      bit-of w (λ j. bit_at up j || bit_at down j) i l,
      shl-bits w (bit_and y m) g,
      bit-of w (λ j. leb g j && bit_at (bit_and y m) (j - g)) i l,
      bit-and w y m (i - g) h lm li,
      bit-and w (y / 2 ^ g) m i ly lm l,
      bit-shr y g i,
    )

-- the upper group of two has the lower one's bits
upper : (w n y p s : ℕ) → y < 2 ^ w → s < 2 ^ n → suc (p * 2) * 2 ^ n + s < w
    → bit_at (swapped w (2 ^ n) y) (suc (p * 2) * 2 ^ n + s) ≡ bit_at y (p * 2 * 2 ^ n + s)
upper w n y p s h l b =
    let i : ℕ = suc (p * 2) * 2 ^ n + s in
    let g = suc-mul (p * 2) (2 ^ n) in
    let e : i - 2 ^ n ≡ p * 2 * 2 ^ n + s = omega arith in
    let even : p * 2 % 2 ≡ 0 = omega arith in
    let odd : suc (p * 2) % 2 ≡ 1 = omega arith in
    rw (
      bit-swapped w (2 ^ n) y i h b,
      e,
      le-leb (2 ^ n) i (omega arith),
      mask-bit w n (p * 2) s l (omega arith),
      mask-bit w n (suc (p * 2)) s l b,
      even,
      odd,
      and-true,
      and-false,
      or-false,
    )

-- the lower has the upper one's, and nothing comes up from below it
lower : (w n y p s : ℕ) → y < 2 ^ w → s < 2 ^ n → p * 2 * 2 ^ n + s < w
    → bit_at (swapped w (2 ^ n) y) (p * 2 * 2 ^ n + s) ≡ bit_at y (suc (p * 2) * 2 ^ n + s)
lower w n y p s h l b =
    let i : ℕ = p * 2 * 2 ^ n + s in
    let e : i + 2 ^ n ≡ suc (p * 2) * 2 ^ n + s = omega (arith, suc-mul (p * 2) (2 ^ n)) in
    let even : p * 2 % 2 ≡ 0 = omega arith in
    rw (bit-swapped w (2 ^ n) y i h b, e, mask-bit w n (p * 2) s l b, even, none p b (bit_at y (i - 2 ^ n)), and-true)
  where
    none : (p : ℕ) → p * 2 * 2 ^ n + s < w → (t : Bool) → let i : ℕ = p * 2 * 2 ^ n + s in (leb (2 ^ n) i && (t && bit_at (mask w (2 ^ n)) (i - 2 ^ n))) ≡ false
    none zero b t = rw (lt-leb (2 ^ n) (0 * 2 * 2 ^ n + s) (omega arith))
    none (suc p) b t =
        let g = suc-mul (suc (p * 2)) (2 ^ n) in
        let e : suc p * 2 * 2 ^ n + s - 2 ^ n ≡ suc (p * 2) * 2 ^ n + s = omega arith in
        let odd : suc (p * 2) % 2 ≡ 1 = omega arith in
        rw (e, mask-bit w n (suc (p * 2)) s l (omega arith), odd, and-false, and-false)

-- ---- all swaps

-- in each of c groups of 2 ^ n bits y is x reversed
Reversed : (n c x y : ℕ) → Type 0
Reversed n c x y = (q r : ℕ) → q < c → r < 2 ^ n → bit_at y (q * 2 ^ n + r) ≡ bit_at x (q * 2 ^ n + (2 ^ n - 1 - r))

twice : (q n : ℕ) → q * 2 ^ suc n ≡ q * 2 * 2 ^ n
twice q n = rw (pow-suc 2 n, mul_comm (2 ^ n) 2) (sym (mul_assoc q 2 (2 ^ n)))

-- bit r of group q is one of those in c groups
inside : (q c n r : ℕ) → q < c → r < 2 ^ n → q * 2 ^ n + r < c * 2 ^ n
inside q c n r l h = omega (arith, suc-mul q (2 ^ n), mul-le-mul_right {m = suc q} {n = c} (2 ^ n) l)

-- groups with reversed halves, once these are swapped
doubled : (n c x y : ℕ) → y < 2 ^ (c * 2 * 2 ^ n) → Reversed n (c * 2) x y → Reversed (suc n) c x (swapped (c * 2 * 2 ^ n) (2 ^ n) y)
unfolding Reversed
doubled n c x y h e q r lq lr = go (ltb r (2 ^ n)) refl
  where
    go : (t : Bool) → ltb r (2 ^ n) ≡ t → bit_at (swapped (c * 2 * 2 ^ n) (2 ^ n) y) (q * 2 ^ suc n + r) ≡ bit_at x (q * 2 ^ suc n + (2 ^ suc n - 1 - r))
    go true t =
        let l = ltb-true r (2 ^ n) t in
        let i : q * 2 ^ suc n + r ≡ q * 2 * 2 ^ n + r = omega (arith, twice q n) in
        let j : q * 2 ^ suc n + (2 ^ suc n - 1 - r) ≡ suc (q * 2) * 2 ^ n + (2 ^ n - 1 - r) = omega (arith, twice q n, suc-mul (q * 2) (2 ^ n), pow-suc 2 n) in
        rw (i, j) (lower (c * 2 * 2 ^ n) n y q r h l (inside (q * 2) (c * 2) n r (omega arith) l) ∙ e (suc (q * 2)) r (omega arith) l)
    go false t =
        let g = ltb-false r (2 ^ n) t in
        let s : ℕ = r - 2 ^ n in
        let l : s < 2 ^ n = omega (arith, pow-suc 2 n) in
        let i : q * 2 ^ suc n + r ≡ suc (q * 2) * 2 ^ n + s = omega (arith, twice q n, suc-mul (q * 2) (2 ^ n)) in
        let j : q * 2 ^ suc n + (2 ^ suc n - 1 - r) ≡ q * 2 * 2 ^ n + (2 ^ n - 1 - s) = omega (arith, twice q n, pow-suc 2 n) in
        rw (i, j) (upper (c * 2 * 2 ^ n) n y q s h l (inside (suc (q * 2)) (c * 2) n s (omega arith) l) ∙ e (q * 2) s (omega arith) l)

swaps-lt : (w n x : ℕ) → x < 2 ^ w → swaps w n x < 2 ^ w
unfolding swaps
swaps-lt w zero x h = h
swaps-lt w (suc n) x h = swapped-lt w (2 ^ n) (swaps w n x) (swaps-lt w n x h)

all : (n c x : ℕ) → x < 2 ^ (c * 2 ^ n) → Reversed n c x (swaps (c * 2 ^ n) n x)
unfolding swaps Reversed
all zero c x h =
    λ q r lq lr.
    let e : r ≡ 2 ^ 0 - 1 - r = omega arith in
    rw (← e)
all (suc n) c x h =
    let w : ℕ = c * 2 * 2 ^ n in
    let l : x < 2 ^ w = rw (← twice c n) h in
    let P : ℕ → Type 0 = λ v. Reversed (suc n) c x (swaps v (suc n) x) in
    subst P (sym (twice c n)) (doubled n c x (swaps w n x) (swaps-lt w n x l) (all n (c * 2) x l))

-- 2 ^ k groups of 1 bit become one group of 2 ^ k bits
pub reverses : (k x : ℕ) → x < 2 ^ (2 ^ k) → swaps (2 ^ k) k x ≡ rev_at (2 ^ k) x
unfolding Reversed
reverses k x h =
    let one : 1 * 2 ^ k ≡ 2 ^ k = omega arith in
    let none : 0 * 2 ^ k ≡ 0 = omega arith in
    let r : Reversed k 1 x (swaps (2 ^ k) k x) = rw one at (all k 1 x (rw one h)) in
    by_bits (2 ^ k) (λ i. bit_at x (2 ^ k - 1 - i)) (swaps-lt (2 ^ k) k x h) (λ i l. rw (none, zero-add i, zero-add (2 ^ k - 1 - i)) at (r 0 i (omega arith) l))
