-- What the setters leave: the lexer with its text, and one setting as it is asked for.
use Rattle.std.specs.Prelude.{Bool}
use Rattle.lex_struct.specs.declared.Lexer.{Lexer}

abbrev pub allowing : Lexer → Bool → Lexer
allowing d b = record {
  text = d.text;
  settings = record { allow_confusing = b; strict_digits = d.settings.strict_digits };
}

abbrev pub strictly : Lexer → Bool → Lexer
strictly d b = record {
  text = d.text;
  settings = record { allow_confusing = d.settings.allow_confusing; strict_digits = b };
}
