-- Q-9 over the C boundary: the state as 32 words, the list, and the answer as one number of 64 bits.
use Rattle.std.specs.Prelude.{ℕ, ◌+◌, ◌*◌, ◌≡◌, List}
use Rattle.word.specs.Word.{low_at}
use Rattle.calls.specs.Calls.{world_of}
use Rattle.boundary.specs.Boundary.{taken, packed, Crossed, leaves, crossed}
use Rattle.entries.specs.declared.Entry.{Entry}
use Rattle.watching.specs.declared.Ending.{Ending}
use Rattle.watching.specs.declared.Ending.TheVariants.{Refused, Budget, Halted, Watch, Break}
use Rattle.watched.specs.Answer.{Watched, watched_of, as_run}

-- "bits 56–57 the cause: 0 budget, 1 halted, 2 watch, 3 break"; 0 on a refusal
abbrev pub ending_number : Ending → ℕ
ending_number Refused = 0
ending_number Budget = 0
ending_number Halted = 1
ending_number Watch = 2
ending_number Break = 3

-- "Result as of a run"; "bits 58–63 the place in the list (from 0) of the entry that is named, 0 where none is"; six bits hold it whole
abbrev pub watched_result : Watched → ℕ
watched_result a = packed a.number a.steps a.bus (ending_number a.ending + 4 * low_at 6 a.place)

-- what a call leaves: its result, the state's words, RAM and journal, and the list
pub record CrossedList : Type 0 where
  pub crossed : Crossed
  pub list : List Entry

abbrev pub leaves_list : ℕ → List ℕ → List ℕ → List ℕ → List Entry → CrossedList
leaves_list r w ram ws l = record { crossed = leaves r w ram ws; list = l }

-- "On acceptance the words are rewritten; on a refusal all 32 stay as given."
unfoldable pub crossed_with : List ℕ → Watched → CrossedList
crossed_with w a = let x = crossed w (as_run a) in leaves_list (watched_result a) x.words x.ram x.journal a.list

-- what the export promises: words to machine, the call, machine to words
abbrev pub CrossesWatched : ℕ → List ℕ → List ℕ → List ℕ → List Entry → ℕ → List ℕ → List ℕ → List ℕ → List Entry → Type 0
CrossesWatched n w ram ws l r w' ram' ws' l' = crossed_with w (watched_of n l (world_of (taken w) ram ws)) ≡ leaves_list r w' ram' ws' l'
