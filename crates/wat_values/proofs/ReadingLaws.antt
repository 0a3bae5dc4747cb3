-- Laws of the tokens that a listing hands out and of the readers' calls on them, over variables; `Readable` puts them
-- together. Assumes nothing.
use Prim.Native.Nat.{ℕ, ◌+◌, ◌≤◌}
use mathlib.Core.Path.{◌≡◌, sym, ap, ◌∙◌, refl, subst}
use mathlib.Core.Logic.{◌↔◌}
use mathlib.Core.List.{List, [], ◌∷◌, ◌++◌, append_assoc}
use native.Mathlib.Omega.{arith}
use lib.ListN.{length, take, drop, length-append, length-drop, take-append-drop}
use lib.Seq.{length-take-le, take-append_seam, drop-drop, drop-append_seam}
use Rattle.wat.specs.declared.{TokenKind.TokenKind, Token.Token, LexError.LexError, Refusal.Refusal, Refusal.TheVariants.Lexical}
use Rattle.wat.specs.declared.{Listed.Listed}
use Rattle.wat.specs.Answers as answer
use Rattle.wat_values.specs.declared.NameKind.{NameKind}
use Rattle.wat_values.specs.Named.{NameReading}
use Rattle.wat_values.specs.Answered.{Refused, Text, Buffer}
use Rattle.wat_values.specs.Named as name
use Rattle.wat.specs.Stopped as stop
use Rattle.wat.specs.declared.Settings.{Settings}
use Rattle.wat.specs.Bytes.{byte, has}
use Rattle.wat.specs.Utf8.{WellFormed}
use Rattle.wat.specs.Tokens.{Tok}
use Rattle.wat.specs.Lexing.{Lexed}
use Rattle.wat.specs.Calls.{most, Stands}
use Rattle.wat.specs.Division.{Piece, lengths, Divided, Listing}
use Rattle.wat_values.specs.Values.{Reader, Sigil, Value, part, copy, absent, refused, Name, Reads}
use Rattle.wat_values.specs.Names.{Misnamed}
use Rattle.wat_values.specs.Reading.{There, own, found, Read, ReadsName, reading_of, Whose, Second}
use Rattle.wat.proofs.Basics.{differ, refused_same}
use Rattle.wat_laws.proofs.Answers.{lexed_lenient, lexed_alone}
use Rattle.wat.proofs.Boundaries.{token_formed}
use Rattle.wat.proofs.Unique.{token_longest}
use Rattle.wat_laws.proofs.Divisions.{token_size}
use Rattle.wat_values.proofs.ValueLaws.{left_given, refused_misnamed, misnamed_refused, Inside}

-- ---- a token of a division

-- what is left from a token on is UTF-8, and lexes to it
pub at_piece : {σ : Settings} {s rest : List ℕ} {ts : List Piece} → WellFormed s → Divided σ s ts rest
    → (us vs : List Piece) (t : Piece) → ts ≡ us ++ (t ∷ vs)
    → WellFormed (drop (lengths us) s) × Lexed σ (drop (lengths us) s) (answer.Token t.kind t.len)
at_piece g Divided.none [] vs t e = differ (cc)
at_piece g Divided.none (u ∷ us) vs t e = differ (cc)
at_piece {σ} {s} g (Divided.more {t = p} l r) [] vs t e = let q : p ≡ t = cc in
    (g, subst (λ (z : Piece). Lexed σ s (answer.Token z.kind z.len)) q l)
at_piece {σ} {s} g (Divided.more {t = p} {ts = ts} l r) (u ∷ us) vs t e =
    let q : p ≡ u = cc in
    let i = at_piece (token_formed g (token_longest l)).1 r us vs t (cc) in
    let d : drop (lengths us) (drop p.len s) ≡ drop (u.len + lengths us) s =
    ap (λ (z : Piece). drop (lengths us) (drop z.len s)) q ∙ drop-drop (lengths us) u.len s in
    subst (λ (z : List ℕ). WellFormed z × Lexed σ z (answer.Token t.kind t.len)) d i

pub is_token : {σ : Settings} {s : List ℕ} {k : TokenKind} {n : ℕ} → Lexed σ s (answer.Token k n) → Tok k (take n s)
is_token (Lexed.token l f) = l.is

pub token_long : {σ : Settings} {s : List ℕ} {k : TokenKind} {n : ℕ} → Lexed σ s (answer.Token k n) → length (take n s) ≡ n
token_long {s = s} {n = n} l = length-take-le n s (token_size l).1

formed : {σ : Settings} {s : List ℕ} {k : TokenKind} {n : ℕ} → WellFormed s → Lexed σ s (answer.Token k n)
    → WellFormed (take n s)
formed g (Lexed.token l f) = (token_formed g l).0

-- such a token is there for the readers, who lex leniently; and in a text of its own bytes alone
module _ {σ : Settings} {text : List ℕ} (token : Token) (start : Stands text 0) (g : WellFormed (drop token.offset text))
    (l : Lexed σ (drop token.offset text) (answer.Token token.kind token.len)) where
  pub is_there : There text token
  is_there =
      let s = token_size l in
      let d = length-drop token.offset text in
      record { stands = record { sound = start.sound; within = omega arith; between = g }; lexed = lexed_lenient g l }

  pub is_alone : There (own text token) (record { kind = token.kind; offset = 0; len = token.len })
  is_alone =
      let s = token_size l in
      let short : length (own text token) ≤ most = omega (arith, token_long l, length-drop token.offset text, start.sound.short) in
      let u = formed g l in
      record {
        stands = record { sound = record { short = short; formed = u }; within = omega arith; between = u };
        lexed =
            lexed_alone g (lexed_lenient g l);
      }

-- the listing stands at the text's start
pub listed_stands : {σ : Settings} {text : List ℕ} {budget : ℕ} {list l : List ℕ} {r : Listed}
    → Listing σ text 0 budget list r l → r.stop ≡ stop.End → Stands text 0
listed_stands (Listing.rejected t) e = differ (cc)
listed_stands (Listing.lists s w f g x) e = s

-- ---- the second call

-- the bytes v of s after n others are what is cut out of it there
record CutOut (s : List ℕ) (n : ℕ) (v : List ℕ) : Type 0 where
  fits : n + length v ≤ length s
  is : take (length v) (drop n s) ≡ v

cut_out : (s a v b : List ℕ) → s ≡ a ++ (v ++ b) → (n : ℕ) → length a ≡ n → CutOut s n v
cut_out s a v b e n h = record {
  fits = omega (arith, ap length e, length-append a (v ++ b), length-append v b);
  is =
      ap (λ (z : List ℕ). take (length v) (drop n z)) e ∙ ap (λ (m : ℕ). take (length v) (drop m (a ++ (v ++ b)))) (sym h)
      ∙ ap (take (length v)) (drop-append_seam a (v ++ b)) ∙ take-append_seam v b;
}

-- a copy, taken from the front of the buffer
pub copy_taken : (text v b : List ℕ) → Second text (v ++ b) (Buffer 0 (length v)) v
copy_taken text v b =
    let c = cut_out (v ++ b) [] v b refl 0 refl in
    subst (Second text (v ++ b) (Buffer 0 (length v))) c.is (Second.in_buffer c.fits)

module _ (text : List ℕ) (token : Token) (w : List ℕ) (e : own text token ≡ w) where
  -- the token stands in the text
  around : text ≡ take token.offset text ++ (w ++ drop token.len (drop token.offset text))
  around =
      sym (take-append-drop token.offset text)
      ∙ ap (λ (z : List ℕ). take token.offset text ++ z)
      (sym (take-append-drop token.len (drop token.offset text))
      ∙ ap (λ (z : List ℕ). z ++ drop token.len (drop token.offset text)) e)

  -- a part of the token, taken from the text
  pub part_taken : (buffer : List ℕ) (n : ℕ) (v : List ℕ) → token.offset ≤ length text → Inside w n v
      → Second text buffer (Text (token.offset + n) (length v)) v
  part_taken buffer n v h i =
      let a = take token.offset text ++ i.before in
      let b = i.after ++ drop token.len (drop token.offset text) in
      let z : text ≡ a ++ (v ++ b) = around
      ∙ ap (λ (z : List ℕ). take token.offset text ++ (z ++ drop token.len (drop token.offset text))) i.split
      ∙ simp append_assoc in
      let c = cut_out text a v b z (token.offset + n)
      (omega (arith, length-append (take token.offset text) i.before, length-take-le token.offset text h, i.long)) in
      subst (Second text buffer (Text (token.offset + n) (length v))) c.is (Second.in_text c.fits)

-- ---- refusals

-- the answer is refused where the value is, at the token's offset
pub refusal : {reader : Reader} {k : TokenKind} {w : List ℕ} {v : Value} (offset : ℕ) → Reads reader k w v → (r : Refusal) (p : ℕ)
    → (found offset v ≡ Refused r p) ↔ ((e : LexError) × (r ≡ Lexical e) × (p ≡ offset) × Misnamed reader w e)
refusal {reader} {k} {w} {v} offset x r p = (to v x, from)
  where
    to : (v : Value) → Reads reader k w v → found offset v ≡ Refused r p
        → (e : LexError) × (r ≡ Lexical e) × (p ≡ offset) × Misnamed reader w e
    to (part n u) x q = differ (cc)
    to (copy u) x q = differ (cc)
    to absent x q = differ (cc)
    to (refused u e) x q = let z = refused_same (sym q) in (e, z.0, z.1, refused_misnamed u e x refl)

    from : (e : LexError) × (r ≡ Lexical e) × (p ≡ offset) × Misnamed reader w e → found offset v ≡ Refused r p
    from (e, q, o, m) = let z = misnamed_refused x m in ap (found offset) z.1 ∙ cc

-- ---- names

-- what the reader of names answers, and whose name it is, the name call answers
pub named_reads : {n : NameKind} {text buffer b : List ℕ} {token : Token} {x : ℕ} {a : NameReading} → Sigil n token.kind x
    → Whose n a → Read Reader.name text token buffer (reading_of a) b → ReadsName text token buffer a b
named_reads s Whose.no_name r = ReadsName.no_name r
named_reads s Whose.in_text r = ReadsName.in_text s r
named_reads s Whose.in_buffer r = ReadsName.in_buffer s r

name_given : {n : NameKind} {w : List ℕ} {v : Value} → Name n w v → v ≡ absent → ⊥
name_given (Name.word h) e = differ (cc)
name_given Name.nothing e = differ (cc)
name_given (Name.quoted {w = w} {v = v} {x = x} s h) e = left_given (has (byte "\\") w) 2 (x ∷ v) e
name_given (Name.quoted_nothing s) e = differ (cc)
name_given (Name.quoted_wrong s h) e = differ (cc)

-- a name that is found, as an answer of the name call
pub name_found : {n : NameKind} {k : TokenKind} {w : List ℕ} {v : Value} (offset : ℕ) → Reads Reader.name k w v
    → (a : NameReading) × (reading_of a ≡ found offset v) × Whose n a
name_found {n} {v = part i u} offset x = (name.Text n (offset + i) (length u), refl, Whose.in_text)
name_found {n} {v = copy u} offset x = (name.Buffer n 0 (length u), refl, Whose.in_buffer)
name_found {v = absent} offset x = absurd (given x refl)
  where
    given : {k : TokenKind} {w : List ℕ} {v : Value} → Reads Reader.name k w v → v ≡ absent → ⊥
    given (Reads.a_name s n) e = name_given n e
name_found {v = refused u e} offset x = (name.Refused (Lexical e) offset, refl, Whose.no_name)
