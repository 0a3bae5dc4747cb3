use Rattle.read_names.proofs.NameLaws.{name_quoted}
use Rattle.read_names.proofs.name.Goals as goal

pub quoted-requires : goal.quoted-requires
quoted-requires c = record { quoted = name_quoted c.requires.sigiled c.if-rest-eq0.false c.if-text-at-ne34.false }
