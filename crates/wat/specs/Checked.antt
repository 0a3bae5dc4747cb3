-- What a check of UTF-8 answers: `Ok`, or how far the text is well-formed and how long its error is.
use Rattle.std.specs.Prelude.{ℕ, ⊤, Result, Err}
use Rattle.wat.specs.declared.Utf8Error.{Utf8Error}

abbrev pub Checked : Type 0
Checked = Result ⊤ Utf8Error

abbrev pub Bad : ℕ → ℕ → Checked
Bad n e = Err (record { valid_up_to = n; error_len = e })
