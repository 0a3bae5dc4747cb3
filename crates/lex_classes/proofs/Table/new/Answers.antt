-- `CLASSES` answers for every byte as the definitions do: the rule of the whole table, by one test that is computed.
use Rattle.std.proofs.Common.{refl}
use Rattle.wat.specs.Bytes.{between, has}
use Rattle.wat.specs.Chars.{space, idchar, letter, control, punctuation}
use Rattle.wat.specs.Numbers.{digit}
use Rattle.wat.specs.LexModel.{family}
use Rattle.lex_classes.specs.Ask.{raw}
use Rattle.lex_classes.proofs.TableLaws.{classes}
use Rattle.lex_classes.proofs.Table.new.Goals as goal

pub invariant_of-result : goal.invariant_of-result
unfolding space idchar letter control punctuation digit family raw between has
invariant_of-result c = record { answers = classes _ refl }
