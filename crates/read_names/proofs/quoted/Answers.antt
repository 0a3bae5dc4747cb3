use Rattle.read_names.proofs.QuotedLaws.{quoted_long, quoted_whole}
use Rattle.read_names.proofs.quoted.Goals as goal

pub overflow_sub-result : goal.overflow_sub-result
overflow_sub-result c = quoted_long c.requires.quoted

pub decoded_len-n-requires : goal.decoded_len-n-requires
decoded_len-n-requires c = record { closes = quoted_whole c.requires.quoted }

pub decode_into-requires-clause-closes : goal.decode_into-requires-clause-closes
decode_into-requires-clause-closes c = quoted_whole c.requires.quoted
