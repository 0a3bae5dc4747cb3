-- What passes can be read: a text that the listing carries from byte 0 to its end is divided in one way only, and each
-- of its tokens, handed to its reader with a buffer no shorter than itself, yields the value of the definitions. The
-- one refusal left is a name that is empty or not UTF-8. Assumes nothing.
use Prim.Native.Nat.{ℕ, ◌≤◌}
use mathlib.Core.Path.{◌≡◌, refl, sym, subst}
use mathlib.Core.List.{List}
use native.Mathlib.Omega.{arith}
use lib.ListN.{length, drop}
use lib.Seq.{take-take}
use Rattle.wat.specs.declared.{IntegerKind.IntegerKind, TokenKind.TokenKind}
use Rattle.wat.specs.declared.TokenKind.TheVariants as kind
use Rattle.wat.specs.declared.{Token.Token, Refusal.TheVariants.Lexical, Listed.Listed}
use Rattle.wat_values.specs.declared.NameKind.{NameKind}
use Rattle.wat_values.specs.Answered.{Reading}
use Rattle.wat.specs.Answers as answer
use Rattle.wat_values.specs.Answered.{Refused, Absent, Text, Buffer}
use Rattle.wat.specs.Stopped as stop
use Rattle.wat.specs.declared.Settings.{Settings}
use Rattle.wat.specs.Utf8.{WellFormed}
use Rattle.wat.specs.Tokens.{Tok}
use Rattle.wat.specs.Lexing.{Lexed}
use Rattle.wat.specs.Calls.{Stands}
use Rattle.wat.specs.Division.{lengths, Listing}
use Rattle.wat_values.specs.Values.{Reader, Sigil, Takes, Value, part, copy, absent, refused, Reads}
use Rattle.wat_values.specs.Reading.{There, own, needs, found, Handed, Read, Second}
use Rattle.wat_values.specs.Readable.{bytes_of, filled, Yields, moved, Readable, YieldsName, NameRead, HasSign, SignRead}
use Rattle.wat_values.specs.Readable.{WordRead, Passes}
use Rattle.wat_values.specs.Integers.{Worded, ReadsWord}
use Rattle.wat.proofs.Basics.{differ}
use Rattle.wat_laws.proofs.Listings.{listed_whole}
use Rattle.wat_values.proofs.OneValue.{reads_one}
use Rattle.wat_values.proofs.SomeValue.{made, reads as reads_some}
use Rattle.wat_values.proofs.Signs.{sign_one, sign_found}
use Rattle.wat_values.proofs.OneReading.{read_one, reads_name_one}
use Rattle.wat_values.proofs.IntegerLaws.{worded_some}
use Rattle.wat_values.proofs.ValueLengths.{needs_short}
use Rattle.wat_values.proofs.ValueLaws.{Within, within}
use Rattle.wat_values.proofs.ReadingLaws.{at_piece, is_token, token_long, is_there, is_alone, listed_stands, copy_taken}
use Rattle.wat_values.proofs.ReadingLaws.{part_taken, refusal, named_reads, name_found}

hands_over : (text : List ℕ) (token : Token) (v : Value) (w buffer : List ℕ) → own text token ≡ w
    → token.offset ≤ length text → Within w v
    → Second text (filled v buffer) (found token.offset v) (bytes_of v)
hands_over text token (part n v) w buffer e h i = part_taken text token w e buffer n v h i
hands_over text token (copy v) w buffer e h i = copy_taken text v (drop (length v) buffer)
hands_over text token absent w buffer e h i =
    Second.none (λ s l (q : Absent ≡ Text s l). differ (cc)) (λ s l (q : Absent ≡ Buffer s l). differ (cc))
hands_over text token (refused v x) w buffer e h i =
    Second.none (λ s l (q : Refused (Lexical x) token.offset ≡ Text s l). differ (cc))
    (λ s l (q : Refused (Lexical x) token.offset ≡ Buffer s l). differ (cc))

yields : {reader : Reader} {text : List ℕ} {token : Token} {v : Value} (w buffer : List ℕ) → own text token ≡ w
    → There text token → Tok token.kind w
    → Reads reader token.kind w v → length w ≤ length buffer → Yields reader text token v buffer
yields {reader} {text} {token} {v} w buffer e t k r h =
    let s : length (needs v) ≤ length buffer = omega (arith, needs_short r) in
    let o : Reads reader token.kind (own text token) v = subst (λ (z : List ℕ). Reads reader token.kind z v) (sym e) r in
    let a : Read reader text token buffer (found token.offset v) (filled v buffer) = Read.reads t o (Handed.fits s) in
    record { answers = a; only = λ x b y. read_one y a; hands = hands_over text token v w buffer e t.stands.within (within k r) }

token_readable : {σ : Settings} {text : List ℕ} {reader : Reader} (token : Token) → Stands text 0
    → WellFormed (drop token.offset text)
    → Lexed σ (drop token.offset text) (answer.Token token.kind token.len) → Takes reader token.kind
    → Readable reader text token
token_readable {text = text} token start g l takes =
    let w = own text token in
    let n = token_long l in
    let k = is_token l in
    let v = reads_some k takes in
    let same : own w (moved token) ≡ w = take-take token.len token.len (drop token.offset text) (omega arith) in
    record {
      value = v.0;
      reads = v.1;
      one = λ u x. reads_one x v.1;
      there = λ buffer b. yields w buffer refl (is_there token start g l) k v.1 (omega arith);
      alone = λ buffer b. yields w buffer same (is_alone token start g l) k v.1 (omega arith);
      refuses = refusal token.offset v.1;
    }

yields_name : {n : NameKind} {text : List ℕ} {token : Token} {v : Value} {x : ℕ} (buffer : List ℕ) → Sigil n token.kind x
    → Reads Reader.name token.kind (own text token) v → Yields Reader.name text token v buffer → YieldsName n text token v buffer
yields_name {n} {text} {token} {v} buffer s o y =
    let f = name_found {n = n} token.offset o in
    let r = subst (λ (r : Reading). Read Reader.name text token buffer r (filled v buffer)) (sym f.1) y.answers in
    let a = named_reads s f.2 r in
    record { answer = f.0; is = f.1; whose = f.2; answers = a; only = λ b c z. reads_name_one z a }

token_named : {σ : Settings} {n : NameKind} {text : List ℕ} {x : ℕ} (token : Token) → Stands text 0
    → WellFormed (drop token.offset text) → Lexed σ (drop token.offset text) (answer.Token token.kind token.len)
    → Sigil n token.kind x → NameRead n text token
token_named {text = text} token start g l s =
    let w = own text token in
    let k = is_token l in
    let h = token_long l in
    let same : own w (moved token) ≡ w = take-take token.len token.len (drop token.offset text) (omega arith) in
    record {
      there = λ r buffer b. yields_name buffer s r (yields w buffer refl (is_there token start g l) k r (omega arith));
      alone = λ {v} r buffer b. yields_name buffer s (subst (λ (z : List ℕ). Reads Reader.name token.kind z v) (sym same) r)
          (yields w buffer same (is_alone token start g l) k r (omega arith));
    }

token_signed : {σ : Settings} {text : List ℕ} (token : Token) → Stands text 0 → WellFormed (drop token.offset text)
    → Lexed σ (drop token.offset text) (answer.Token token.kind token.len) → HasSign token.kind
    → SignRead text token
token_signed {text = text} token start g l h =
    let f = sign_found h (made (is_token l)) in
    record {
      sign = f.0;
      has = f.1;
      one = λ s x. sign_one x f.1;
      there = f.2 text token (is_there token start g l) refl;
      alone = f.2 (own text token) (moved token) (is_alone token start g l) refl;
    }

token_valued : {σ : Settings} {text : List ℕ} {i : IntegerKind} (token : Token) (N : ℕ) → Stands text 0
    → WellFormed (drop token.offset text) → Lexed σ (drop token.offset text) (answer.Token token.kind token.len)
    → token.kind ≡ kind.Integer i → WordRead N text token
token_valued {text = text} {i = i} token N start g l e =
    let w = own text token in
    let k : Tok (kind.Integer i) w = subst (λ (z : TokenKind). Tok z w) e (is_token l) in
    let a = worded_some N (made k).0 in
    let same : own w (moved token) ≡ w = take-take token.len token.len (drop token.offset text) (omega arith) in
    record {
      answer = a.0;
      is = a.1;
      there = ReadsWord.integer (is_there token start g l) e a.1;
      alone = ReadsWord.integer (is_alone token start g l) e (subst (λ (z : List ℕ). Worded N z a.0) (sym same) a.1);
    }

-- what passes can be read: each text that the listing carries from byte 0 to its end
pub passes_readable : {σ : Settings} {text : List ℕ} {budget : ℕ} {list l : List ℕ} {r : Listed}
    → Listing σ text 0 budget list r l → r.stop ≡ stop.End → Passes σ text list r l
passes_readable x e =
    let whole = listed_whole x e in
    let start = listed_stands x e in
    record {
      whole = whole;
      readable = λ us vs t q reader takes.
          let p = at_piece start.between whole.divided us vs t q in
          token_readable (record { kind = t.kind; offset = lengths us; len = t.len }) start p.0 p.1 takes;
      named = λ us vs t q s.
          let p = at_piece start.between whole.divided us vs t q in
          token_named (record { kind = t.kind; offset = lengths us; len = t.len }) start p.0 p.1 s;
      signed = λ us vs t q h.
          let p = at_piece start.between whole.divided us vs t q in
          token_signed (record { kind = t.kind; offset = lengths us; len = t.len }) start p.0 p.1 h;
      valued = λ us vs t q e N.
          let p = at_piece start.between whole.divided us vs t q in
          token_valued (record { kind = t.kind; offset = lengths us; len = t.len }) N start p.0 p.1 e;
    }
