use Rattle.memory.proofs.Parts.{byte-stores, word-stores}
use Prim.Native.Nat.{◌/◌, ◌%◌}
use mathlib.Core.Path.{◌∙◌}
use Rattle.memory.proofs.storing.store.Goals as goal

pub returns-then-stores_byte : goal.returns-then-stores_byte
returns-then-stores_byte c = let a = c.args in record {
  state_after = c.store_byte.ensures.state_after _ ∙ byte-stores a.regs.now _ a.b a.ram.now (a.operands / 16) (a.operands % 16) _ _ _ c.lowers.ensures
      c.sub2_if.ensures c.stores_byte.ensures c.if-stores_byte.true _ c.low.ensures;
  few = c.store_byte.ensures.few;
}

pub returns : goal.returns
returns c = let a = c.args in record {
  state_after = c.store_word.ensures.state_after _ ∙ word-stores a.regs.now _ a.b a.ram.now (a.operands / 16) (a.operands % 16) _ _ _ c.lowers.ensures
      c.sub2_if.ensures c.stores_byte.ensures c.if-stores_byte.false;
  few = c.store_word.ensures.few;
}
