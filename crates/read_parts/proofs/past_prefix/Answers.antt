use Rattle.std.proofs.Common.{◌+◌, ◌++◌, Bool, length, ap, arith}
use Rattle.wat.specs.Numbers.{prefix}
use Rattle.read_parts.specs.Handing.{Leaves}
use Rattle.read_parts.proofs.PartLaws.{sign_left, digits_at, leaves_within}
use Rattle.read_parts.proofs.past_prefix.Goals as goal

-- 0x is there where the number is hexadecimal
pub returns-then-hex : goal.returns-then-hex
returns-then-hex c =
    let a = c.args in
    let t = c.requires in
    let i = a.at + c.past_sign.result in
    let p = sign_left a.text.now a.at a.end c.past_sign.result t.fits t.order c.past_sign.ensures in
    let l : Leaves a.hex a.text.now a.at a.end (λ d f e. d ++ (f ++ e)) (i + 2) =
    λ sign u d f e x.
    digits_at t x i (i + 2) p.0 p.1 (omega (arith, ap (λ (b : Bool). length (prefix b)) c.if-hex.true)) in
    record { leaves = l; within = leaves_within t (λ d f e. d ++ (f ++ e)) l }

pub returns-clause-leaves : goal.returns-clause-leaves
returns-clause-leaves c =
    let a = c.args in
    let t = c.requires in
    let i = a.at + c.past_sign.result in
    let p = sign_left a.text.now a.at a.end c.past_sign.result t.fits t.order c.past_sign.ensures in
    λ sign u d f e x.
    digits_at t x i i p.0 p.1 (omega (arith, ap (λ (b : Bool). length (prefix b)) c.if-hex.false))
