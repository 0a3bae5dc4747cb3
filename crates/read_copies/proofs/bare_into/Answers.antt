use Rattle.std.proofs.Common.{◌+◌, arith}
use Rattle.read_copies.proofs.CopyLaws.{bare_on, bare_end, written_room, written_all}
use Rattle.read_copies.proofs.bare_into.Goals as goal

-- a byte that is kept has room
pub bounds-buffer-n : goal.bounds-buffer-n
bounds-buffer-n c =
    let a = c.args in
    let l = c.loop-i in
    written_room l.invariant.1 (l.i + 1)
    (bare_on a.text.now l.i a.to (omega arith) (omega arith) (λ e. omega arith)) (omega arith)

pub returns : goal.returns
returns c =
    let l = c.loop-i in
    written_all l.invariant.1 (bare_end c.args.text.now l.i c.args.to (omega arith) (omega arith))
