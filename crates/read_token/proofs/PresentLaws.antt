-- A token is there if the step at its offset has its kind's number and its length. Assumes nothing.
use Prim.Native.Nat.{ℕ, ◌+◌, ◌-◌, ◌≤◌}
use mathlib.Core.Path.{◌≡◌, refl, sym, ap, subst, ◌∙◌}
use mathlib.Core.List.{List}
use Rattle.std.specs.Prelude.{Option, Some, None, Result, IfErr, ⊤}
use native.Mathlib.Omega.{arith}
use lib.ListN.{length, take, drop, length-drop, drop_of_length-le}
use lib.Seq.{slice}
use Rattle.wat.specs.declared.{TokenKind.TokenKind, Token.Token, Refused.Refused}
use Rattle.wat_values.specs.Answered.{Reading}
use Rattle.wat.specs.Answers as answer
use Rattle.wat.specs.declared.Refusal.TheVariants.{NotThatToken}
use Rattle.wat.specs.Settings.{lenient}
use Rattle.wat.specs.Tokens.{Tok}
use Rattle.wat.specs.Lexing.{Lexed}
use Rattle.wat.specs.LexModel.{lex}
use Rattle.wat.specs.Calls.{Stands, most}
use Rattle.wat_values.specs.Values.{Reader, Takes, Value, Reads}
use Rattle.wat_values.specs.Reading.{There, no_place, Missing, own, Handed, Read}
use Rattle.wat.proofs.Basics.{differ}
use Rattle.wat.proofs.Unique.{token_longest, nil_token}
use Rattle.wat_laws.proofs.Total.{lexed}
use Rattle.wat_laws.proofs.Answers.{lexed_is}
use Rattle.wat_laws.proofs.Divisions.{token_size}
use Rattle.wat_values.proofs.SomeValue as one
use Rattle.wat_values.proofs.ReadingLaws.{is_token}
use Rattle.lex_entry.specs.Left.{Left}
use Rattle.read_token.specs.Here.{Misses}
use Rattle.lex_token.specs.declared.Step.{Step}
use Rattle.lex_token.specs.Steps.{step_of, Stepped}
use Rattle.lex_token.specs.Alone.{Whole, Alone}
use Rattle.lex_token.proofs.SliceLaws.{slice_take}
use Rattle.lex_token.proofs.StepLaws.{token_of}

module _ (text : List ℕ) (token : Token) (s : Stands text token.offset) where
  -- the end is no token
  pub none_there : token.offset ≡ length text → Missing text token NotThatToken no_place
  none_there e = Missing.not_there s (λ t.
      let h : length text ≤ token.offset = omega arith in
      nil_token (token_longest t.lexed) (drop_of_length-le text h))

  module _ {r : Option Step} (q : Stepped lenient text token.offset r) where
    said : Lexed lenient (drop token.offset text) (answer.Token token.kind token.len)
        → r ≡ Some (record { kind = token.kind; end = token.offset + token.len })
    said l = q.same ∙ ap (step_of token.offset) (sym (lexed_is s.between l))

    pub no_step_there : r ≡ None → Missing text token NotThatToken no_place
    no_step_there e = Missing.not_there s (λ t. let y = sym e ∙ said t.lexed in differ (cc))

    module _ {x : Step} (z : r ≡ Some x) where
      it : Lexed lenient (drop token.offset text) (answer.Token token.kind token.len)
          → x ≡ record { kind = token.kind; end = token.offset + token.len }
      it l = let y = sym z ∙ said l in cc

      pub other_kind_there : {k : TokenKind} → k ≡ x.kind → (k ≡ token.kind → ⊥) → Missing text token NotThatToken no_place
      other_kind_there e n = Missing.not_there s (λ t. n (e ∙ ap (λ (x : Step). x.kind) (it t.lexed)))

      pub other_length_there : (x.end - token.offset ≡ token.len → ⊥) → Missing text token NotThatToken no_place
      other_length_there n =
          Missing.not_there s (λ t. let e = ap (λ (x : Step). x.end) (it t.lexed) in n (omega arith))

      pub step_onward : token.offset ≤ x.end
      step_onward = let h = q.onward x z in omega arith

      pub there : x.kind ≡ token.kind → x.end - token.offset ≡ token.len → There text token
      there k l =
          let t = token_of q z in
          let n : t.0 ≡ token.len = omega (arith, t.2) in
          let a : lex lenient (drop token.offset text) ≡ answer.Token token.kind token.len = cc t.1 in
          record { stands = s; lexed = subst (Lexed lenient (drop token.offset text)) a (lexed lenient s.between) }

-- the whole of a text, and a word or a plain string, is there
pub alone_there : (text : List ℕ) (token : Token) {r : Option TokenKind} {k : TokenKind} → token.offset ≡ 0 → length text ≤ most
    → token.len ≡ length text → Alone text r → r ≡ Some k → k ≡ token.kind → There text token
alone_there text token {r} {k} o m l w e z =
    let a : Whole text k = subst (Alone text) e w in
    let s : Stands text 0 = record { sound = record { short = m; formed = a.formed }; within = omega arith; between = a.formed } in
    there text token (rw o s) (rw o (a.stepped lenient)) {x = record { kind = k; end = length text }} refl z (omega arith)

-- ---- a token that is there

module _ {text : List ℕ} {token : Token} (t : There text token) where
  pub there_fits : token.offset + token.len ≤ length text
  there_fits = omega (arith, (token_size t.lexed).1, t.stands.within, length-drop token.offset text)

  pub own_slice : own text token ≡ slice token.offset (token.offset + token.len) text
  own_slice =
      let n : token.len ≡ token.offset + token.len - token.offset = omega arith in
      ap (λ (z : ℕ). take z (drop token.offset text)) n
      ∙ slice_take text token.offset (token.offset + token.len) there_fits (omega arith)

  pub there_slice : {k : TokenKind} → token.kind ≡ k → Tok k (slice token.offset (token.offset + token.len) text)
  there_slice e =
      subst (λ (k : TokenKind). Tok k (slice token.offset (token.offset + token.len) text)) e
      (subst (Tok token.kind) own_slice (is_token t.lexed))

  module _ {reader : Reader} {k : TokenKind} {v : Value} {buffer after : List ℕ} {r : Reading} (e : token.kind ≡ k) where
    -- what its reader leaves is handed over
    pub there_reads : Reads reader k (own text token) v → Handed token.offset v buffer r after
        → Read reader text token buffer r after
    there_reads x h = Read.reads t (subst (λ (j : TokenKind). Reads reader j (own text token) v) (sym e) x) h

    pub slice_reads : Reads reader k (slice token.offset (token.offset + token.len) text) v → Handed token.offset v buffer r after
        → Read reader text token buffer r after
    slice_reads x h = there_reads (subst (λ (w : List ℕ). Reads reader k w v) (sym own_slice) x) h

  -- it has a value for a reader that takes its kind, and whatever hands over each such value answers as the reader
  pub hands_reads : {reader : Reader} {k : TokenKind} {buffer after : List ℕ} {r : Reading} → token.kind ≡ k → Takes reader k
      → ((v : Value) → Reads reader k (slice token.offset (token.offset + token.len) text) v
      → Handed token.offset v buffer r after)
      → Read reader text token buffer r after
  hands_reads e takes h = let v = one.reads (there_slice e) takes in slice_reads e v.1 (h v.0 v.1)

-- what is left of a text from a place on misses a token where the text does
pub missed : {text : List ℕ} {l : Left} {o : ℕ} (k : TokenKind) (n : ℕ) (r : Result ⊤ Refused)
    → l ≡ record { text = text; at = o }
    → IfErr r (Misses l.text (record { kind = k; offset = l.at; len = n }))
    → IfErr r (Misses text (record { kind = k; offset = o; len = n }))
missed k n r e h = rw e at h

pub ruleset presents = (Missing.rejected, none_there, no_step_there, other_length_there)
