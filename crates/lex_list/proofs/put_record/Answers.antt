use Rattle.std.proofs.Common.{ap, ◌∙◌, arith}
use Rattle.std.specs.Int.{to_le_bytes, w16, w32}
use Rattle.wat.specs.Cases.{kind_number}
use Rattle.lex_list.proofs.RecordLaws.{record_put}
use Rattle.lex_list.proofs.put_record.Goals as goal

pub returns : goal.returns
returns c =
    record_put c.args.len (kind_number c.args.kind) (c.to_le_bytes.ensures ∙ ap (to_le_bytes w32) (omega arith))
    (c.to_le_bytes-2.ensures ∙ ap (to_le_bytes w16) c.get.ensures) c.append-at.ensures c.append.ensures
