use mathlib.Core.Path.{◌≡◌, ◌∙◌}
use mathlib.Core.List.{◌++◌}
use Prim.Native.Nat.{◌%◌}
use native.Mathlib.Omega.{arith}
use borrow.Author.Tests.{eq-eqb, ne_eqb}
use Rattle.names.specs.Code.{pack}
use Rattle.isa.specs.Opcode.{meaning}
use Rattle.isa.proofs.Tables.{tells-name}
use Rattle.text.specs.Code.{key_text}
use Rattle.text.specs.Listing.{text_of, list_says, list_leaves}
use Rattle.text.proofs.KeyTexts.{reason2-key, word-keys}
use Rattle.text.proofs.Returning.{sixteen}
use Rattle.text.proofs.list.list_in.Goals as goal
use Rattle.text.proofs.list.list_in.Goals.{After-mnemonic-m, After-second_key}

-- the table tells the mnemonic
named : (c : After-mnemonic-m) → c.mnemonic-m.result ≡ pack (meaning (c.args.word % 256)).name
named c = c.mnemonic-m.ensures ∙ tells-name _ c.requires _ (omega arith)

-- the three keys are the word's text
keys : (c : After-second_key)
    → key_text c.mnemonic-m.result ++ key_text c.first_key.result ++ key_text c.second_key.result ≡ text_of c.args.word
keys c =
    word-keys c.args.word _ _ _ (omega arith) (c.mnemonic-m.ensures ∙ tells-name _ c.requires _ (omega arith)) c.first_key.ensures c.second_key.ensures

pub returns-then-m-eq0 : goal.returns-then-m-eq0
unfolding list_says list_leaves
returns-then-m-eq0 c = let w = c.args.word in
    let e = reason2-key (w % 256) _ (omega arith) (named (goal.at.returns-then-m-eq0 c).After-mnemonic-m) in
    record { result_value = rw (← e, eq-eqb _ _ c.if-m-eq0.true); out_after = rw (← e, eq-eqb _ _ c.if-m-eq0.true) }

pub returns : goal.returns
unfolding list_says list_leaves
returns c = let w = c.args.word in
    let e = reason2-key (w % 256) _ (omega arith) (named (goal.at.returns c).After-mnemonic-m) in
    let k = keys (goal.at.returns c).After-second_key in
    record {
      result_value = rw (← e, ne_eqb _ _ c.if-m-eq0.false, ← k) c.put3.ensures.result_value;
      out_after = rw (← e, ne_eqb _ _ c.if-m-eq0.false, ← k) c.put3.ensures.out_after;
    }

pub first_key-requires : goal.first_key-requires
first_key-requires c = omega arith

pub second_key-requires : goal.second_key-requires
second_key-requires c = omega arith

pub put3-requires : goal.put3-requires
put3-requires c = rw (keys (goal.at.put3-requires c).After-second_key) (sixteen c.args.word (omega arith))
