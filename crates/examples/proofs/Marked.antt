-- The sixteen examples hold: both sides compute.
use mathlib.Core.Path.{refl}
use Rattle.word.specs.Bits.{from_bits}
use Rattle.alu.specs.Unit.{add_of, sub_of, logic_of, shra_of, alu_of, compare_of}
use Rattle.isa.specs.Opcode.{meaning}
use Rattle.bus.specs.State.{reset}
use Rattle.bus.specs.Addresses.{device_byte, byte_at, word_at, device_after, dropped, put_byte, put_word}
use Rattle.computing.specs.Instructions.{computed, compared, moved}
use Rattle.memory.specs.Instructions.{loaded, stored}
use Rattle.exceptions.specs.Exceptions.{due, entered, illegal, settled_csrs, settled_halt}
use Rattle.cpu.specs.Step.{executed, runs, step_of}
use Rattle.text.specs.Listing.{text_of}
use Rattle.examples.specs.Table.{table, AllShown}

pub examples : AllShown
unfolding table step_of runs executed meaning due entered illegal settled_csrs settled_halt computed compared moved loaded stored
    byte_at device_byte word_at device_after dropped put_byte put_word reset add_of sub_of logic_of shra_of alu_of compare_of from_bits text_of
examples = refl
