-- Numbered answers: "Every refusal returns its number .. and assembled word 0".
use Rattle.std.specs.Prelude.{ℕ, Result, Ok, Err}
use Rattle.text.specs.declared.list.NoText.{NoText}
use Rattle.text.specs.declared.list.NoText.TheVariants.{Reason2, NoRoom}
use Rattle.text.specs.declared.assemble.NoWord.{NoWord}
use Rattle.text.specs.declared.assemble.NoWord.TheVariants.{BadLine, BadMnemonic, BadOperand}

pub record Answer : Type 0 where
  pub no : ℕ
  pub value : ℕ

abbrev pub accepted : ℕ → Answer
accepted v = record { no = 0; value = v }

abbrev pub refused : ℕ → Answer
refused n = record { no = n; value = 0 }

-- the paper's number and value for each answer of listing: the value is the text's length
abbrev pub listed_as : Result ℕ NoText → Answer
listed_as (Ok n) = accepted n
listed_as (Err Reason2) = refused 10
listed_as (Err NoRoom) = refused 11

-- and of assembling: the value is the word
abbrev pub assembled_as : Result ℕ NoWord → Answer
assembled_as (Ok w) = accepted w
assembled_as (Err BadLine) = refused 12
assembled_as (Err BadMnemonic) = refused 13
assembled_as (Err BadOperand) = refused 14
