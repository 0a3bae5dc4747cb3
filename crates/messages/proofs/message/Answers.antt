-- The answer by the refusal's number and values.
use Rattle.std.proofs.Common.{◌≡◌, arith}
use Rattle.messages.proofs.TellLaws.{tells_refusal}
use Rattle.messages.proofs.message.Goals as goal

pub returns : goal.returns
returns c =
    let q : c.from.result ≡ c.refusal_code-c.result.number = omega arith in
    tells_refusal c.narrow.ensures c.narrow-2.ensures c.args.buffer.now c.args.r c.refusal_code-c.ensures
    (rw q at c.tell.ensures)
