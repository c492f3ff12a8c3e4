use Rattle.manifests.proofs.Heads.{by-halves}
use Rattle.manifests.proofs.scanning.head.Goals as goal

pub returns : goal.returns
returns c =
    by-halves c.args.heads.now _ _ c.args.n c.head_in.result c.head_in-2.result c.max.result c.split_at.ensures.front c.split_at.ensures.back c.head_in.ensures
    c.head_in-2.ensures c.max.ensures
