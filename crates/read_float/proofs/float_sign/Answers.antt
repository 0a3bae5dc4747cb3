use Rattle.std.proofs.Common.{subst}
use Rattle.read_token.specs.Here.{HereNumber}
use Rattle.read_float.proofs.ReadLaws.{payload_signed}
use Rattle.read_float.proofs.float_sign.Goals as goal

pub returns-in-NanVal : goal.returns-in-NanVal
returns-in-NanVal c =
    let h = subst (HereNumber c.args.text.now c.args.token) c.in-Float.is c.in_ok-number_kind.ensures.ok in
    payload_signed h.0 h.1 c.in-NanVal.is
