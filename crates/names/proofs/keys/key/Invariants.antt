use Rattle.names.proofs.Keyed.{Packed}
use Rattle.names.proofs.keys.key.Given as goal

abbrev pub invariant-loop-byte : goal.invariant-loop-byte
invariant-loop-byte l = Packed l.name l.byte-iterator.iter.rest.now l.key
