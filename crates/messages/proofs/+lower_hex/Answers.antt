-- The digits of n are those of n / 16, and one more.
use Rattle.std.proofs.Common.{arith}
use Rattle.buffers.proofs.AddedLaws.{added_length}
use Rattle.messages.proofs.HexLaws.{hex_7, put_digit, put_digits}
use Rattle.messages.proofs.+lower_hex.Goals as goal

pub returns-then-n-lt16 : goal.returns-then-n-lt16
returns-then-n-lt16 t c = put_digit _ _ _ _ (omega arith) c.hex_digit.ensures (omega arith)

pub returns : goal.returns
returns t c =
    let p = c.lower_hex-end.ensures in
    put_digits c.args.n _ (omega arith) c.hex_digit-2.ensures (omega (arith, p.ends, added_length p, hex_7 c.args.n (omega arith))) p
