use Rattle.std.proofs.Common.{◌+◌, refl, arith}
use Rattle.read_parts.proofs.PartLaws.{sign_left, payload_at, payload_handed}
use Rattle.read_parts.proofs.payload.Goals as goal

pub hand-requires : goal.hand-requires
hand-requires c =
    let a = c.args in
    let n = c.requires in
    let m = n.is in
    let i = a.at + c.past_sign.result in
    let p = sign_left a.text.now a.at a.end c.past_sign.result n.fits n.order c.past_sign.ensures in
    let l = payload_at n m.1 m.2 m.3 m.4 i (i + 6) p.0 p.1 refl in
    (l.within, n.fits, omega arith)

-- the digits after the sign and nan:0x are all that is left
pub returns : goal.returns
returns c =
    let a = c.args in
    let n = c.requires in
    let i = a.at + c.past_sign.result in
    let p = sign_left a.text.now a.at a.end c.past_sign.result n.fits n.order c.past_sign.ensures in
    λ sign u t g y is d.
    payload_handed n u t g is (payload_at n u t g is i (i + 6) p.0 p.1 refl) c.hand.ensures d
