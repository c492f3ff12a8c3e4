-- Listing a word and assembling its text returns the word; its text is at most 16 bytes.
use mathlib.Core.Path.{◌≡◌, refl, ap, ◌∙◌}
use mathlib.Core.Bool.{Bool, true, false, cond, ◌&&◌, ◌||◌}
use mathlib.Core.List.{List, [], ◌∷◌, ◌++◌, append-nil}
use Prim.Native.Nat.{ℕ, ◌+◌, ◌/◌, ◌%◌, ◌<◌, ◌≤◌}
use native.Mathlib.Omega.{arith}
use borrow.Author.Tests.{eqb-false, le-leb, le-ltb, ltb-true}
use lib.Dec.{eqb, leb, ltb}
use lib.ListN.{length, take, length-append}
use lib.Seq.{take-append_seam}
use Rattle.names.specs.Names.{register_name, csr_name}
use Rattle.isa.specs.Opcode.{meaning, gives_reason2}
use Rattle.isa.proofs.Spelling.{mnemonic-plain, mnemonic-some, mnemonic-room, mnemonic-named}
use Rattle.names.proofs.Spelling.{plain, all_plain}
use Rattle.names.proofs.Spelling.{register-plain, register-some, register-short, register-named, csr-plain, csr-some, csr-short, csr-named}
use Rattle.text.specs.Answer.{Answer, accepted, refused, listed_as, assembled_as}
use Rattle.grammar.specs.Line.{all, blank, wordy, empty}
use Rattle.grammar.specs.Grammar.{Word, IsLine}
use Rattle.text.specs.Listing.{first_is_csr, second_is_csr, operand_name, text_of, list_says, list_leaves}
use Rattle.text.specs.Assembling.{operand_of, assemble_says, again_of, no_trip}
use Rattle.std.specs.Prelude.{Some, Result, Ok, Err, IsErrAnd}
use Rattle.text.specs.declared.list.NoText.{NoText}
use Rattle.text.specs.declared.list.NoText.TheVariants.{Reason2, NoRoom}
use Rattle.text.specs.declared.assemble.NoWord.{NoWord}
use Rattle.text.specs.declared.assemble.NoWord.TheVariants.{BadLine, BadMnemonic, BadOperand}
use Rattle.text.specs.declared.trip.NoTrip.{NoTrip}
use Rattle.names.proofs.Keyed.{left, right}
use Rattle.grammar.proofs.Bools.{clash}
use Rattle.grammar.proofs.Reading.{complete}

-- ---- a canonical name is a word of a line

plain-wordy : (b : ℕ) → plain b ≡ true → wordy b ≡ true
unfolding plain wordy
plain-wordy b e = go (leb 97 b && leb b 122) (leb 65 b && leb b 90) (leb 48 b && leb b 57) e
  where
    go : (x y z : Bool) → (x || z) ≡ true → (x || y || z || eqb b 95) ≡ true
    go true y z h = refl
    go false true z h = refl
    go false false true h = refl
    go false false false h = clash h

all-wordy : (t : List ℕ) → all_plain t ≡ true → all wordy t ≡ true
all-wordy [] e = refl
all-wordy (b ∷ t) e = rw (plain-wordy b (left (plain b) (all_plain t) e)) (all-wordy t (right (plain b) (all_plain t) e))

some_word : (t : List ℕ) → 1 ≤ length t → empty t ≡ false
some_word [] h = absurd (omega arith)
some_word (b ∷ t) h = refl

named : (t : List ℕ) → all_plain t ≡ true → 1 ≤ length t → Word t
named t e h = record { some = some_word t h; bytes = all-wordy t e }

operand-word : (is_csr : Bool) (n : ℕ) → n < 16 → Word (operand_name is_csr n)
operand-word true n h = named (csr_name n) (csr-plain n h) (csr-some n h)
operand-word false n h = named (register_name n) (register-plain n h) (register-some n h)

mnemonic-word : (opcode : ℕ) → opcode < 256 → gives_reason2 opcode ≡ false → Word (meaning opcode).name
mnemonic-word opcode h e =
    let n = eqb-false (length (meaning opcode).name) 0 (mnemonic-some opcode h ∙ e) in
    named (meaning opcode).name (mnemonic-plain opcode h) (omega arith)

-- ---- and its line is read as it was written

blank-space : all blank (32 ∷ []) ≡ true
unfolding blank
blank-space = refl

made : (m d r : List ℕ) → Word m → Word d → Word r → IsLine (m ++ (32 ∷ (d ++ (44 ∷ 32 ∷ r)))) m d r
made m d r wm wd wr = record {
  b0 = [];
  b1 = 32 ∷ [];
  b2 = [];
  b3 = 32 ∷ [];
  b4 = [];
  blank0 = refl;
  blank1 = blank-space;
  blank2 = refl;
  blank3 = blank-space;
  blank4 = refl;
  gap = refl;
  mnemonic = wm;
  first = wd;
  second = wr;
  whole = rw (append-nil r);
}

operand-back : (is_csr : Bool) (n : ℕ) → n < 16 → operand_of is_csr (operand_name is_csr n) ≡ Some n
operand-back true n h = rw (csr-named n h, le-leb n 15 (omega arith))
operand-back false n h = rw (register-named n h, le-leb n 15 (omega arith))

pub trip : (w : ℕ) → w < 65536 → gives_reason2 (w % 256) ≡ false → assemble_says (text_of w) ≡ accepted w
unfolding assemble_says text_of
trip w h e =
    let opcode : ℕ = w % 256 in
    let x : ℕ = w / 4096 in
    let y : ℕ = w / 256 % 16 in
    let m = (meaning opcode).name in
    let d = operand_name (first_is_csr opcode) x in
    let r = operand_name (second_is_csr opcode) y in
    let wm = mnemonic-word opcode (omega arith) e in
    let wd = operand-word (first_is_csr opcode) x (omega arith) in
    let wr = operand-word (second_is_csr opcode) y (omega arith) in
    rw (
      complete _ m d r (made m d r wm wd wr),
      mnemonic-named opcode (omega arith),
      e,
      operand-back (first_is_csr opcode) x (omega arith),
      operand-back (second_is_csr opcode) y (omega arith),
    )
    (ap accepted (omega arith))

-- ---- no text is longer than sixteen bytes

operand-room : (is_csr : Bool) (n : ℕ) → n < 16 → length (operand_name is_csr n) ≤ 3 + cond is_csr 2 0
operand-room true n h = csr-short n h
operand-room false n h = register-short n h

pub sixteen : (w : ℕ) → w < 65536 → length (text_of w) ≤ 16
unfolding text_of
sixteen w h =
    let opcode : ℕ = w % 256 in
    let n = mnemonic-room opcode (omega arith) in
    let d = operand-room (first_is_csr opcode) (w / 4096) (omega arith) in
    let s = operand-room (second_is_csr opcode) (w / 256 % 16) (omega arith) in
    simp length-append (omega arith)

-- what a caller of both sees: with room, the listing is accepted, and the bytes that it says are a line of that word
pub round_trip : (w : ℕ) (out : List ℕ) → w < 65536 → gives_reason2 (w % 256) ≡ false → length (text_of w) ≤ length out
    → (list_says w (length out) ≡ accepted (length (text_of w))) × (assemble_says (take (length (text_of w)) (list_leaves w out)) ≡ accepted w)
unfolding list_says list_leaves
round_trip w out h e room =
    (rw (e, le-ltb _ _ room), rw (e, le-ltb _ _ room, take-append_seam) (trip w h e))

-- ---- what an answer of listing tells of the word

apart : {A : Type 0} (a b : Answer) → a ≡ b → (a.no ≡ b.no → ⊥) → A
apart a b e n = absurd (n (ap (λ (x : Answer). x.no) e))

pub record Seen (w n : ℕ) : Type 0 where
  pub legal : gives_reason2 (w % 256) ≡ false
  pub whole : n ≡ length (text_of w)

pub seen : (w room n : ℕ) → accepted n ≡ list_says w room → Seen w n
unfolding list_says
seen w room n = go (gives_reason2 (w % 256)) refl (ltb room (length (text_of w)))
  where
    go : (r : Bool) → gives_reason2 (w % 256) ≡ r → (t : Bool)
        → accepted n ≡ cond r (refused 10) (cond t (refused 11) (accepted (length (text_of w)))) → Seen w n
    go true g t e = apart (accepted n) (refused 10) e (λ z. omega arith)
    go false g true e = apart (accepted n) (refused 11) e (λ z. omega arith)
    go false g false e = record { legal = g; whole = ap (λ (x : Answer). x.value) e }

pub unlisted : (w room : ℕ) → refused 10 ≡ list_says w room → gives_reason2 (w % 256) ≡ true
unfolding list_says
unlisted w room = go (gives_reason2 (w % 256)) (ltb room (length (text_of w)))
  where
    go : (r t : Bool) → refused 10 ≡ cond r (refused 10) (cond t (refused 11) (accepted (length (text_of w)))) → r ≡ true
    go true t e = refl
    go false true e = apart (refused 10) (refused 11) e (λ z. omega arith)
    go false false e = apart (refused 10) (accepted (length (text_of w))) e (λ z. omega arith)

pub unroomy : (w room : ℕ) → refused 11 ≡ list_says w room → (gives_reason2 (w % 256) ≡ false) × (room < length (text_of w))
unfolding list_says
unroomy w room = go (gives_reason2 (w % 256)) (ltb room (length (text_of w))) refl
  where
    go : (r t : Bool) → ltb room (length (text_of w)) ≡ t → refused 11 ≡ cond r (refused 10) (cond t (refused 11) (accepted (length (text_of w))))
        → (r ≡ false) × (room < length (text_of w))
    go true t l e = apart (refused 11) (refused 10) e (λ z. omega arith)
    go false true l e = (refl, ltb-true room (length (text_of w)) l)
    go false false l e = apart (refused 11) (accepted (length (text_of w))) e (λ z. omega arith)

-- the text that listing left, assembled
pub returned : (w n : ℕ) (out : List ℕ) → w < 65536 → length out ≡ 16 → Seen w n → assemble_says (take n (list_leaves w out)) ≡ accepted w
returned w n out h l s =
    let k = sixteen w h in
    rw s.whole (round_trip w out h s.legal (omega arith)).1

-- ---- the round trip: where one of the two calls refuses, and where neither does

pub caught : (w : ℕ) (e : NoText) → w < 65536 → listed_as (Err e) ≡ list_says w 16 → Err (no_trip e) ≡ again_of w
caught w Reason2 h l = rw (unlisted w 16 l)
caught w NoRoom h l = absurd (omega (arith, (unroomy w 16 l).1, sixteen w h))

pub never : {A : Type 0} (w : ℕ) (e : NoWord) → assembled_as (Err e) ≡ accepted w → A
never w BadLine l = apart (refused 12) (accepted w) l (λ z. omega arith)
never w BadMnemonic l = apart (refused 13) (accepted w) l (λ z. omega arith)
never w BadOperand l = apart (refused 14) (accepted w) l (λ z. omega arith)

pub same : (w v : ℕ) → gives_reason2 (w % 256) ≡ false → accepted v ≡ accepted w → Ok v ≡ again_of w
same w v r e = rw r (ap (λ (x : Answer). Ok x.value) e)

pub err_is : (r : Result ℕ NoTrip) (x : NoTrip) → IsErrAnd r (λ e. e ≡ x) → r ≡ Err x
err_is (Ok v) x h = absurd h
err_is (Err e) x h = ap Err h
