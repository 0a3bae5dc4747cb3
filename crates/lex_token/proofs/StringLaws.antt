-- What `parse_str` says of the string at a quotation mark. Assumes nothing.
use Prim.Native.Nat.{ℕ, ◌+◌, ◌≤◌}
use mathlib.Core.Path.{◌≡◌, sym, subst, ◌∙◌}
use mathlib.Core.Bool.{true}
use mathlib.Core.List.{List}
use native.Mathlib.Omega.{arith}
use lib.ListN.{length, drop}
use Rattle.wat.specs.declared.Fault.{Fault}
use Rattle.wat.specs.Faults.{shift}
use Rattle.wat.proofs.Basics.{shift_shift}
use Rattle.wat.specs.Bytes.{byte}
use Rattle.wat.specs.declared.Settings.{Settings}
use Rattle.wat.specs.Utf8.{WellFormed}
use Rattle.wat.specs.LexModel.{next}
use Rattle.std.specs.Prelude.{Result, Ok, Err}
use Rattle.lex_strings.specs.Parsing.{Ends, StringFails, Parsed}
use Rattle.lex_token.proofs.RunLaws.{walked, quote_at, Quoted, string_closed, string_failed}

module _ (s : List ℕ) (at : ℕ) (n : next (byte "\"") (drop at s) ≡ true) where
  pub string_follows : at + 1 ≤ length s
  string_follows = let q = (quote_at s at n).0 in omega arith

  module _ (σ : Settings) {r : Result ℕ Fault} (p : Parsed σ s (at + 1) r) where
    pub parsed_closed : {end : ℕ} → WellFormed (drop at s) → r ≡ Ok end → Quoted σ s at end
    parsed_closed {end} g e =
        let q = quote_at s at n in
        let c : Ends σ s (at + 1) end = subst (Parsed σ s (at + 1)) e p in
        string_closed σ s at q.1 g c

    pub parsed_failed : {f : Fault} → r ≡ Err f → (x : Fault) × (walked σ (drop at s) ≡ Err x) × (f ≡ shift at x)
    parsed_failed {f} z =
        let q = quote_at s at n in
        let b : StringFails σ s (at + 1) f = subst (Parsed σ s (at + 1)) z p in
        (shift 1 b.from, string_failed σ s at q.1 b.is, b.stands ∙ sym (shift_shift at 1 b.from))
