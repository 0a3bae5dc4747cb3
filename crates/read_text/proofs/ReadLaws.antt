-- From a token that is there, and of a kind, to what its reader leaves. Assumes nothing.
use Prim.Native.Nat.{ℕ, zero, suc, ◌-◌}
use mathlib.Core.Path.{◌≡◌, refl, sym, ap, subst, ◌∙◌}
use mathlib.Core.List.{List, [], ◌∷◌}
use native.Mathlib.Omega.{arith}
use native.Mathlib.Nat.{add-zero}
use lib.ListN.{take, drop}
use lib.Seq.{drop-drop}
use Rattle.wat.specs.declared.TokenKind.{TokenKind}
use Rattle.wat.specs.declared.TokenKind.TheVariants as kind
use Rattle.wat.specs.declared.Token.{Token}
use Rattle.wat.specs.declared.Refused.{Refused}
use Rattle.wat_values.specs.declared.NameKind.{NameKind}
use Rattle.wat_values.specs.{Answered.Reading, Named.NameReading}
use Rattle.wat_values.specs.Answered as reading
use Rattle.wat_values.specs.Named as named
use Rattle.wat.specs.Settings.{lenient}
use Rattle.wat.specs.Strings.{Str}
use Rattle.wat_values.specs.Values.{Reader, Sigil, Takes, Value, Name, Reads}
use Rattle.wat_values.specs.Reading.{There, own, Read, ReadsName}
use Rattle.wat.proofs.Basics.{differ}
use Rattle.wat_values.proofs.OneValue.{sigil_one}
use Rattle.wat_values.proofs.SomeValue as one
use Rattle.wat_values.proofs.ReadingLaws.{is_token, token_long, named_reads}
use Rattle.read_token.specs.Here.{Misses, Untaken, HereName, Unnamed}
use Rattle.read_names.specs.Names.{Quoted, Quotes, tail, Sigiled, NameHanded}
use Rattle.read_names.proofs.HandLaws.{handed_part, handed_left, handed_short, handed_copy}
use Rattle.read_token.proofs.PresentLaws.{there_fits, there_reads}

pub src_reads : {text : List ℕ} {token : Token} → There text token
    → Read Reader.src text token [] (reading.Text token.offset token.len) []
src_reads {text} {token} t =
    Read.reads t Reads.itself (handed_part token.offset [] (sym (add-zero token.offset)) (sym (token_long t.lexed)))

pub src_missing : {text : List ℕ} {token : Token} {r : Refused} → Misses text token r
    → Read Reader.src text token [] (reading.Refused r.refusal r.place) []
src_missing b = Read.missing b

-- ---- 31

module _ {text : List ℕ} {token : Token} {k : TokenKind} where
  pub taken_refused : {r : Refused} (reader : Reader) (buffer : List ℕ) → ((j : TokenKind) → Takes reader j → j ≡ k)
      → Untaken text token k r → Read reader text token buffer (reading.Refused r.refusal r.place) buffer
  taken_refused reader buffer only (Untaken.missing b) = Read.missing b
  taken_refused reader buffer only (Untaken.other_kind t n) = Read.other_kind t (λ h. n (only token.kind h))

pub only_string : (j : TokenKind) → Takes Reader.string j → j ≡ kind.String
only_string j Takes.a_string = refl

-- ---- strings

module _ {text : List ℕ} {token : Token} (t : There text token × (token.kind ≡ kind.String)) where
  string_quoted : Quoted text token.offset token.len
  string_quoted =
      let s = go (one.reads (rw t.1 at (is_token t.0.lexed)) Takes.a_string).1 in
      record { fits = there_fits t.0; value = s.0; is = s.1 }
    where
      go : {w : List ℕ} {v : Value} → Reads Reader.string kind.String w v → (u : List ℕ) × Str lenient w u
      go (Reads.a_string p) = (_, p)

  string_reads : {buffer after : List ℕ} {r : Reading} → Quotes (own text token) token.offset buffer r after
      → Read Reader.string text token buffer r after
  string_reads {buffer} (Quotes.plain {v = v} p h) =
      there_reads t.0 t.1 (Reads.a_string p) (handed_left token.offset buffer v 1 h refl refl)
  string_reads {buffer} (Quotes.too_short {v = v} p h f) =
      there_reads t.0 t.1 (Reads.a_string p) (handed_short token.offset buffer v 1 h f)
  string_reads {buffer} (Quotes.copied {v = v} p h f) =
      there_reads t.0 t.1 (Reads.a_string p) (handed_copy token.offset buffer v 1 h f refl)

-- ---- names

tail_is : (text : List ℕ) (token : Token) {x : ℕ} {w : List ℕ} → own text token ≡ x ∷ w
    → w ≡ tail text token.offset token.len
tail_is text token {x} {w} e =
    go token.len (drop token.offset text) refl e ∙ ap (take (token.len - 1)) (drop-drop 1 token.offset text)
  where
    go : (n : ℕ) (t : List ℕ) → drop token.offset text ≡ t → take n t ≡ x ∷ w → w ≡ take (n - 1) (drop 1 t)
    go zero t q e = differ (cc)
    go (suc n) [] q e = differ (cc)
    go (suc n) (y ∷ t) q e = let m : suc n - 1 ≡ n = omega arith in rw m (cc)

module _ {text : List ℕ} {token : Token} where
  name_there : {n : NameKind} → HereName text token n → There text token × (x : ℕ) × Sigil n token.kind x
  name_there (HereName.named {x = x} t s) = (t, x, s)

  pub name_refused : {r : Refused} (buffer : List ℕ) → Unnamed text token r
      → ReadsName text token buffer (named.Refused r.refusal r.place) buffer
  name_refused buffer (Unnamed.missing b) = ReadsName.no_name (Read.missing b)
  name_refused buffer (Unnamed.no_name t h) = ReadsName.no_name (Read.other_kind t h)

-- a token whose name is of the kind n
module _ {n : NameKind} {text : List ℕ} {token : Token} (t : There text token × (x : ℕ) × Sigil n token.kind x) where
  -- it is its sigil and a name
  split : (own text token ≡ t.1 ∷ tail text token.offset token.len) × (v : Value)
      × Name n (tail text token.offset token.len) v
  split =
      let v = one.reads (is_token t.0.lexed) (Takes.a_name t.2) in
      let s = go t.2 v.1 in
      let y = tail_is text token s.1 in
      (rw y at s.1, v.0, rw y at s.2)
    where
      go : {k : TokenKind} {x : ℕ} {w : List ℕ} {v : Value} → Sigil n k x → Reads Reader.name k w v
          → (u : List ℕ) × (w ≡ x ∷ u) × Name n u v
      go s (Reads.a_name {w = u} {v = v} q o) =
          let z = sigil_one q s in (u, cc z.1, subst (λ (m : NameKind). Name m u v) z.0 o)

  name_sigiled : Sigiled n text token.offset token.len
  name_sigiled =
      let s = split in record { fits = there_fits t.0; sigil = t.1; is = s.0; value = s.1; named = s.2 }

  name_reads : {buffer after : List ℕ} {r : NameReading}
      → NameHanded n (tail text token.offset token.len) token.offset buffer r after
      → ReadsName text token buffer r after
  name_reads q =
      let r = subst (λ (w : List ℕ). Reads Reader.name token.kind w q.value) (sym split.0) (Reads.a_name t.2 q.is) in
      named_reads t.2 q.whose (Read.reads t.0 r q.handed)

-- ---- from what `taken` and `name_kind` answer

module _ {text : List ℕ} {token : Token} where
  module _ (t : There text token) (e : token.kind ≡ kind.String) where
    pub string_at : Quoted text token.offset token.len
    string_at = string_quoted (t, e)

    pub string_read : {buffer after : List ℕ} {r : Reading} → Quotes (own text token) token.offset buffer r after
        → Read Reader.string text token buffer r after
    string_read q = string_reads (t, e) q

  module _ {n : NameKind} (h : HereName text token n) where
    pub name_at : Sigiled n text token.offset token.len
    name_at = name_sigiled (name_there h)

    pub name_read : {buffer after : List ℕ} {r : NameReading}
        → NameHanded n (tail text token.offset token.len) token.offset buffer r after
        → ReadsName text token buffer r after
    name_read q = name_reads (name_there h) q

pub ruleset sources = (src_reads, src_missing)

pub ruleset strings = (taken_refused, only_string, string_read)

pub ruleset names = (name_refused, name_at)
