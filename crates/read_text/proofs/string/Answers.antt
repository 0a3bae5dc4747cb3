use Rattle.read_text.proofs.ReadLaws.{string_at}
use Rattle.read_text.proofs.string.Goals as goal

pub quoted-requires : goal.quoted-requires
quoted-requires c = let h = c.in_ok-taken.ensures.ok in record { quoted = string_at h.0 h.1 }
