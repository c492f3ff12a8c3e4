use Rattle.std.proofs.Common.{length, sym, ap, ◌∙◌, length-append}
use Rattle.manifests.proofs.Heads.{two-tables}
use Rattle.manifests.proofs.index.Goals as goal

pub returns : goal.returns
returns c =
    let parts = c.split_at_mut-first in
    two-tables c.args.s.now c.args.heads.now c.table.new.heads c.table-2.new.heads (length parts.result.0.now) (length parts.result.1.now)
    parts.ensures.front_len (sym (ap length parts.ensures.value ∙ length-append parts.result.0.now parts.result.1.now)) c.table.ensures c.table-2.ensures
