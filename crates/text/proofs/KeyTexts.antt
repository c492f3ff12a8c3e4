-- A key's bytes are the name that it was made of; how many they are; and the three keys of a word's text.
use mathlib.Core.Path.{◌≡◌, refl, sym, ap, ◌∙◌}
use mathlib.Core.Bool.{Bool, true, false, cond, ◌&&◌}
use mathlib.Core.List.{List, [], ◌∷◌, ◌++◌, append_assoc}
use mathlib.Core.Logic.{⊎_elim}
use Prim.Native.Nat.{ℕ, zero, suc, ◌+◌, ◌*◌, ◌-◌, ◌/◌, ◌%◌, ◌^◌, ◌<◌, ◌≤◌}
use native.Mathlib.Numerals.{add-one}
use native.Mathlib.Omega.{arith}
use borrow.Author.Tests.{eq-eqb, ne_eqb, leb-true, le-leb}
use lib.Dec.{eqb, leb}
use lib.ListN.{length, set, take}
use lib.Seq.{sets}
use Rattle.std.specs.Int.{bytes_low_first, leading_zeros, to_le_bytes}
use Rattle.std.proofs.Common.{w64}
use Rattle.std.proofs.Math.Pow.{pow_mono}
use Rattle.std.proofs.Math.Nat.{div-div-eq-div-mul, pow-succ', mul_comm}
use Rattle.std.proofs.lemmas.Nat.{pow_pos, pow-add, leading_top}
use Rattle.std.proofs.lemmas.Bool.{cases_lt}
use Rattle.std.specs.Int.Count.{leading_of_zero}
use Rattle.isa.specs.Opcode.{meaning, gives_reason2}
use Rattle.names.specs.Code.{pack}
use Rattle.isa.proofs.Spelling.{mnemonic-short, mnemonic-plain, mnemonic-some}
use Rattle.names.proofs.Spelling.{plain, all_plain, register-short, register-plain, csr-short, csr-plain}
use Rattle.text.specs.Listing.{first_is_csr, second_is_csr, operand_name, text_of}
use Rattle.text.specs.Code.{digits, key_text}
use Rattle.names.proofs.Keyed.{left, right}
use Rattle.grammar.proofs.Bools.{either}

-- ---- the bytes of a key

pub digits-end : (k x : ℕ) → x ≡ 0 → digits k x ≡ []
digits-end zero x e = refl
digits-end (suc k) x e = rw (eq-eqb x 0 e)

pub digits_more : (k x : ℕ) → (k ≡ 0 → ⊥) → (x ≡ 0 → ⊥) → digits k x ≡ (x % 256) ∷ digits (k - 1) (x / 256)
digits_more zero x nk nx = absurd (nk refl)
digits_more (suc k) x nk nx =
    let e : suc k - 1 ≡ k = omega arith in
    rw (ne_eqb x 0 nx, e)

-- where a byte is left, neither the bytes nor the number are at their end
pub digits-left : (k x : ℕ) → 0 < length (digits k x) → (k ≡ 0 → ⊥) × (x ≡ 0 → ⊥)
digits-left zero x h = absurd (omega (arith, h))
digits-left (suc k) x h = ((λ e. omega (arith, e)), (λ e. let n = ap length (digits-end (suc k) x e) in omega (arith, n, h)))

pub put_step : (out : List ℕ) (i k x : ℕ) → (k ≡ 0 → ⊥) → (x ≡ 0 → ⊥)
    → sets (set out i (x % 256)) (i + 1) (digits (k - 1) (x / 256)) ≡ sets out i (digits k x)
put_step out i k x nk nx = rw (digits_more k x nk nx, add-one)

go-length : (b : Bool) (y : ℕ) (ys : List ℕ) (k : ℕ) → length ys ≤ k → length (cond b [] (y ∷ ys)) ≤ suc k
go-length true y ys k h = omega arith
go-length false y ys k h = omega arith

digits-length : (k x : ℕ) → length (digits k x) ≤ k
digits-length zero x = omega arith
digits-length (suc k) x = go-length (eqb x 0) (x % 256) (digits k (x / 256)) k (digits-length k (x / 256))

pub key-short : (x : ℕ) → length (key_text x) ≤ 8
unfolding key_text
key-short x = digits-length 8 x

-- the highest bit that is set tells how many bytes there are
above_none : (j x : ℕ) → 2 ^ j ≤ x → x ≡ 0 → ⊥
above_none j x l e = omega (arith, pow_pos j, l, e)

digits-some : (k j x : ℕ) → j < 8 * k → 2 ^ j ≤ x → x < 2 ^ suc j → length (digits k x) ≡ j / 8 + 1
digits-some zero j x h l u = absurd (omega arith)
digits-some (suc k) j x h l u = rw (ne_eqb x 0 (above_none j x l)) (⊎_elim low (high (λ i a b c. digits-some k i (x / 256) a b c)) (cases_lt j 8))
  where
    low : j < 8 → suc (length (digits k (x / 256))) ≡ j / 8 + 1
    low b =
        let m : 2 ^ suc j ≤ 2 ^ 8 = pow_mono {i = suc j} {j = 8} (omega arith) in
        let z : x / 256 ≡ 0 = omega (arith, m, u) in
        rw (digits-end k (x / 256) z) (omega arith)

    high : ((i : ℕ) → i < 8 * k → 2 ^ i ≤ x / 256 → x / 256 < 2 ^ suc i → length (digits k (x / 256)) ≡ i / 8 + 1) → 8 ≤ j → suc (length (digits k (x / 256))) ≡ j / 8 + 1
    high r b =
        let i = j - 8 in
        let e : j ≡ 8 + i = omega arith in
        let p : 2 ^ j ≡ 256 * 2 ^ i = ap (λ (n : ℕ). 2 ^ n) e ∙ pow-add 2 8 i in
        let s : suc j ≡ 8 + suc i = omega arith in
        let q : 2 ^ suc j ≡ 256 * 2 ^ suc i = ap (λ (n : ℕ). 2 ^ n) s ∙ pow-add 2 8 (suc i) in
        omega (arith, r i (omega arith) (omega (arith, p, l)) (omega (arith, q, u)))

pub key-width : (x : ℕ) → x < 2 ^ 64 → 8 - leading_zeros w64 x / 8 ≡ length (key_text x)
unfolding key_text
key-width zero h = rw (leading_of_zero 64)
key-width (suc x) h =
    let t = leading_top 64 (suc x) (omega arith) h in
    let d : length (digits 8 (suc x)) ≡ t.0 / 8 + 1 = digits-some 8 t.0 (suc x) (omega (arith, t.1)) t.2 t.3 in
    rw d (omega (arith, t.1))

-- a number's bytes, the lowest first, of which the key's are the front
abbrev low-bytes : ℕ → ℕ → List ℕ
low-bytes zero x = []
low-bytes (suc k) x = (x % 256) ∷ low-bytes k (x / 256)

low-bytes-front : (k x : ℕ) → take (length (digits k x)) (low-bytes k x) ≡ digits k x
low-bytes-front zero x = refl
low-bytes-front (suc k) x = go (low-bytes-front k (x / 256)) (eqb x 0)
  where
    go : take (length (digits k (x / 256))) (low-bytes k (x / 256)) ≡ digits k (x / 256) → (b : Bool)
        → take (length (cond b [] ((x % 256) ∷ digits k (x / 256)))) (low-bytes (suc k) x) ≡ cond b [] ((x % 256) ∷ digits k (x / 256))
    go h true = refl
    go h false = ap (λ (t : List ℕ). (x % 256) ∷ t) h

low-bytes-at : (i k x : ℕ) → bytes_low_first (suc i) k x ≡ low-bytes k (x / 256 ^ suc i)
low-bytes-at i zero x = refl
low-bytes-at i (suc k) x =
    let d : x / 256 ^ suc i / 256 ≡ x / 256 ^ suc (suc i) = div-div-eq-div-mul x (256 ^ suc i) 256 ∙ ap (λ (n : ℕ). x / n) (mul_comm (256 ^ suc i) 256 ∙ sym (pow-succ' 256 (suc i))) in
    rw (low-bytes-at (suc i) k x, d)

pub key-bytes : (x : ℕ) → take (length (key_text x)) (to_le_bytes w64 x) ≡ key_text x
unfolding key_text
key-bytes x =
    let e : to_le_bytes w64 x ≡ low-bytes 8 x = ap (λ (t : List ℕ). (x % 256) ∷ t) (low-bytes-at 0 7 x) in
    rw e (low-bytes-front 8 x)

-- ---- a key of bytes that are not 0 has those bytes

abbrev byteful : List ℕ → Bool
byteful [] = true
byteful (b ∷ bs) = (leb 1 b && leb b 255) && byteful bs

bounds : (b : ℕ) → (leb 1 b && leb b 255) ≡ true → (1 ≤ b) × (b ≤ 255)
bounds b e = (leb-true _ _ (left (leb 1 b) (leb b 255) e), leb-true _ _ (right (leb 1 b) (leb b 255) e))

digits-pack : (k : ℕ) (t : List ℕ) → length t ≤ k → byteful t ≡ true → digits k (pack t) ≡ t
digits-pack k [] h e = digits-end k 0 refl
digits-pack zero (b ∷ bs) h e = absurd (omega arith)
digits-pack (suc k) (b ∷ bs) h e =
    let w = bounds b (left (leb 1 b && leb b 255) (byteful bs) e) in
    let m : (b + 256 * pack bs) % 256 ≡ b = omega arith in
    let d : (b + 256 * pack bs) / 256 ≡ pack bs = omega arith in
    rw (ne_eqb (b + 256 * pack bs) 0 (omega arith), m, d, digits-pack k bs (omega arith) (right (leb 1 b && leb b 255) (byteful bs) e))

pack-small : (k : ℕ) (t : List ℕ) → length t ≤ k → byteful t ≡ true → pack t < 256 ^ k
pack-small zero [] h e = omega arith
pack-small (suc k) [] h e = let r = pack-small k [] (omega arith) e in omega arith
pack-small zero (b ∷ bs) h e = absurd (omega arith)
pack-small (suc k) (b ∷ bs) h e =
    let w = bounds b (left (leb 1 b && leb b 255) (byteful bs) e) in
    let r = pack-small k bs (omega arith) (right (leb 1 b && leb b 255) (byteful bs) e) in
    omega arith

plain_byte : (b : ℕ) → plain b ≡ true → (leb 1 b && leb b 255) ≡ true
unfolding plain
plain_byte b e =
    ⊎_elim (among 97 122 (omega arith) (omega arith)) (among 48 57 (omega arith) (omega arith)) (either (leb 97 b && leb b 122) (leb 48 b && leb b 57) e)
  where
    among : (x y : ℕ) → 1 ≤ x → y ≤ 255 → (leb x b && leb b y) ≡ true → (leb 1 b && leb b 255) ≡ true
    among x y hx hy h =
        let l = leb-true x b (left (leb x b) (leb b y) h) in
        let m = leb-true b y (right (leb x b) (leb b y) h) in
        rw (le-leb 1 b (omega arith), le-leb b 255 (omega arith))

plain-bytes : (t : List ℕ) → all_plain t ≡ true → byteful t ≡ true
plain-bytes [] e = refl
plain-bytes (b ∷ t) e = rw (plain_byte b (left (plain b) (all_plain t) e)) (plain-bytes t (right (plain b) (all_plain t) e))

-- ---- the three keys of a word's text

pub operand_short : (is_csr : Bool) (n : ℕ) → n < 16 → length (operand_name is_csr n) ≤ 5
operand_short true n h = csr-short n h
operand_short false n h = let l = register-short n h in omega arith

operand-plain : (is_csr : Bool) (n : ℕ) → n < 16 → all_plain (operand_name is_csr n) ≡ true
operand-plain true n h = csr-plain n h
operand-plain false n h = register-plain n h

pub operand_small : (is_csr : Bool) (n : ℕ) → n < 16 → pack (operand_name is_csr n) < 1099511627776
operand_small is_csr n h =
    pack-small 5 (operand_name is_csr n) (operand_short is_csr n h) (plain-bytes (operand_name is_csr n) (operand-plain is_csr n h))

pub mnemonic-key : (opcode : ℕ) → opcode < 256 → key_text (pack (meaning opcode).name) ≡ (meaning opcode).name
unfolding key_text
mnemonic-key opcode h =
    let l = mnemonic-short opcode h in
    digits-pack 8 (meaning opcode).name (omega arith) (plain-bytes (meaning opcode).name (mnemonic-plain opcode h))

module _ (is_csr : Bool) (n : ℕ) (h : n < 16) where
  pub first_key : key_text (32 + 256 * pack (operand_name is_csr n)) ≡ 32 ∷ operand_name is_csr n
  unfolding key_text
  first_key =
      let l = operand_short is_csr n h in
      digits-pack 8 (32 ∷ operand_name is_csr n) (omega arith) (plain-bytes (operand_name is_csr n) (operand-plain is_csr n h))

  pub second_key : key_text (44 + 256 * (32 + 256 * pack (operand_name is_csr n))) ≡ 44 ∷ 32 ∷ operand_name is_csr n
  unfolding key_text
  second_key =
      let l = operand_short is_csr n h in
      digits-pack 8 (44 ∷ 32 ∷ operand_name is_csr n) (omega arith) (plain-bytes (operand_name is_csr n) (operand-plain is_csr n h))

pub word-keys : (w m d s : ℕ) → w < 65536 → m ≡ pack (meaning (w % 256)).name → key_text d ≡ 32 ∷ operand_name (first_is_csr (w % 256)) (w / 4096)
    → key_text s ≡ 44 ∷ 32 ∷ operand_name (second_is_csr (w % 256)) (w / 256 % 16) → key_text m ++ key_text d ++ key_text s ≡ text_of w
unfolding text_of
word-keys w m d s h em ed es =
    rw (em, ed, es, mnemonic-key (w % 256) (omega arith))
    (append_assoc (meaning (w % 256)).name (32 ∷ operand_name (first_is_csr (w % 256)) (w / 4096)) (44 ∷ 32 ∷ operand_name (second_is_csr (w % 256)) (w / 256 % 16)))

-- a key of 0 is that of no name, which an opcode that gives reason 2 has
some_key : (t : List ℕ) → byteful t ≡ true → eqb (pack t) 0 ≡ eqb (length t) 0
some_key [] e = refl
some_key (b ∷ t) e =
    let w = bounds b (left (leb 1 b && leb b 255) (byteful t) e) in
    ne_eqb (b + 256 * pack t) 0 (omega arith) ∙ sym (ne_eqb (suc (length t)) 0 (omega arith))

pub reason2-key : (opcode m : ℕ) → opcode < 256 → m ≡ pack (meaning opcode).name → eqb m 0 ≡ gives_reason2 opcode
reason2-key opcode m h e =
    rw e (some_key (meaning opcode).name (plain-bytes (meaning opcode).name (mnemonic-plain opcode h)) ∙ mnemonic-some opcode h)
