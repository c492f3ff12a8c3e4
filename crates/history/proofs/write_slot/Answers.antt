use Rattle.std.proofs.Common.{◌*◌, arith, rules}
use Rattle.std.proofs.lemmas.Slice.{put_mid-paste}
use Rattle.history.proofs.write_slot.Goals as goal

pub returns : goal.returns
returns c = put_mid-paste (c.args.slot * 32) _ c.args.journal.now _ c.args.words 32 c.copy_from_slice.ensures.after (omega arith) (search rules)
