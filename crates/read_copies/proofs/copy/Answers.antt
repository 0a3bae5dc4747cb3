use Rattle.std.proofs.Common.{◌≡◌, ◌+◌, length, arith, length-append}
use Rattle.std.proofs.Math.Seq.{slice}
use Rattle.wat_values.specs.Values.{bare, kept}
use Rattle.wat_values.specs.Reading.{Handed}
use Rattle.read_copies.proofs.CopyLaws.{copied}
use Rattle.read_copies.proofs.copy.Goals as goal

pub returns-then-buffer-len : goal.returns-then-buffer-len
returns-then-buffer-len c =
    let a = c.args in
    λ o. Handed.too_short (omega (arith, length-append (kept a.sign) (bare (slice a.from a.to a.text.now))))

-- the sign, and then the digits
pub returns : goal.returns
returns c =
    let a = c.args in
    let k = c.kept-first in
    let p = c.put_first-next in
    let s = bare (slice a.from a.to a.text.now) in
    let l : p.result ≡ length (kept a.sign) = omega (arith, k.ensures.len, p.ensures.ends) in
    let n : length k.result.now + c.bare_len.result ≡ p.result + length s =
    omega (arith, k.ensures.len, p.ensures.ends, c.bare_len.ensures.0) in
    λ o. copied _ _ _ _ _ (rw k.ensures.value at p.ensures.put) c.bare_into.ensures l n
