-- What stands between the quotes of a character or string constant.
use Rattle.std.specs.Prelude.{ℕ, ◌+◌, ◌*◌, cond, List, [], ◌∷◌, eqb, leb, ltb, length, Option, Some, None, Result, Ok, Err}
use Rattle.std.proofs.lemmas.List.Edits.{sets}
use Rattle.letters.specs.Letters.{hex_value}
use Rattle.quoted.specs.declared.Mode.{Mode}
use Rattle.quoted.specs.declared.Mode.TheVariants.{Plain, Escape, Code, Digit, Fault}
use Rattle.quoted.specs.declared.Reading.{Reading}
use Rattle.quoted.specs.declared.Reading.TheVariants.{On, Char}
use Rattle.quoted.specs.declared.Fault.{Fault as Refusal}
use Rattle.quoted.specs.declared.Fault.TheVariants.{Bad, NoRoom}

-- "Following escape sequences are supported": the table's rows `\0`, `\t`, `\n`, `\r`, `\"`, `\'`, `\\` and `\xHH` with their codes; no other
unfoldable pub replaced : ℕ → Reading
replaced b =
    cond (eqb b 48) (Char 0)
    (cond (eqb b 116) (Char 9)
    (cond (eqb b 110) (Char 10)
    (cond (eqb b 114) (Char 13)
    (cond (eqb b 34) (Char 34)
    (cond (eqb b 39) (Char 39)
    (cond (eqb b 92) (Char 92)
    (cond (eqb b 120) (On Code) (On Fault))))))))

-- the character of two digits' values; a fault where a byte is no digit
abbrev pub of_digits : Option ℕ → Option ℕ → Reading
of_digits None l = On Fault
of_digits (Some h) None = On Fault
of_digits (Some h) (Some l) = Char (16 * h + l)

-- "Character with hex. code HH"
unfoldable pub coded_as : ℕ → ℕ → Reading
coded_as h l = of_digits (hex_value h) (hex_value l)

-- "Quotes must be escape inside string constants"; "any byte with value 32 to 255 can be used. These bytes are not interpreted in any way."
unfoldable pub character_as : ℕ → ℕ → Reading
character_as quote b = cond (eqb b 92) (On Escape) (cond (eqb b quote) (On Fault) (cond (ltb b 32) (On Fault) (Char b)))

-- what one more byte gives; after `\x` a byte that is no digit shows as a fault with the next one
abbrev pub turn_of : ℕ → Mode → ℕ → Reading
turn_of quote Plain b = character_as quote b
turn_of quote Escape b = replaced b
turn_of quote Code b = On (Digit b)
turn_of quote (Digit h) b = coded_as h b
turn_of quote Fault b = On Fault

-- a character in front of those that follow
abbrev pub before : ℕ → Option (List ℕ) → Option (List ℕ)
before b None = None
before b (Some bs) = Some (b ∷ bs)

-- at the end no escape sequence is begun
abbrev pub ended : Mode → Option (List ℕ)
ended Plain = Some []
ended Escape = None
ended Code = None
ended (Digit h) = None
ended Fault = None

-- what is read by a turn, and after it
abbrev pub follows : Reading → (Mode → Option (List ℕ)) → Option (List ℕ)
follows (On m) k = k m
follows (Char b) k = before b (k Plain)

-- the characters between the quotes, or none where there is a fault
abbrev pub meant : ℕ → Mode → List ℕ → Option (List ℕ)
meant quote m [] = ended m
meant quote m (b ∷ bs) = follows (turn_of quote m b) (λ n. meant quote n bs)

-- the answer, for so much room: how many characters; a fault first, then no room
unfoldable pub chars_say : Option (List ℕ) → ℕ → Result ℕ Refusal
chars_say None room = Err Bad
chars_say (Some cs) room = cond (leb (length cs) room) (Ok (length cs)) (Err NoRoom)

-- the output afterwards: the characters at its front; as it was where there is a fault or no room
unfoldable pub chars_leave : Option (List ℕ) → List ℕ → List ℕ
chars_leave None out = out
chars_leave (Some cs) out = cond (leb (length cs) (length out)) (sets out 0 cs) out
