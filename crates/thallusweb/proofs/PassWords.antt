-- What passes can be read, for callers from C: what `passes_readable` says of tokens, said of the words that the records of
-- a list decode to. Assumes nothing.
use Prim.Native.Nat.{ℕ, ◌≤◌, ◌<◌}
use mathlib.Core.Path.{◌≡◌, refl, sym, ap, ◌∙◌, subst}
use mathlib.Core.List.{List, [], ◌∷◌, ◌++◌}
use mathlib.Core.Option.{some}
use native.Mathlib.Omega.{arith}
use lib.ListN.{length, get_or}
use Rattle.wat.specs.declared.{TokenKind.TokenKind, LexError.LexError, Settings.Settings, Token.Token, Refusal.Refusal}
use Rattle.wat.specs.declared.{Refusal.TheVariants.Lexical}
use Rattle.std.specs.Prelude.{Some, None, Ok, Err}
use Rattle.wat.specs.declared.Stop.TheVariants as why
use Rattle.wat.specs.Stopped as stop
use Rattle.wat.specs.declared.TokenKind.TheVariants as kind
use Rattle.wat.specs.Stopped.{Stopped}
use Rattle.wat_values.specs.declared.NameKind.{NameKind}
use Rattle.wat_values.specs.{Answered.Reading, Named.NameReading}
use Rattle.wat_values.specs.declared.Part.TheVariants as part
use Rattle.wat_values.specs.Answered as reading
use Rattle.wat_values.specs.IntegerSign as integer
use Rattle.wat_values.specs.FloatSign as float
use Rattle.wat.specs.Cases.{kind_number}
use Rattle.wat.specs.Numbers.{negative}
use Rattle.wat.specs.Division.{lengths}
use Rattle.wat_laws.specs.Records.{kind_at, token_words}
use Rattle.wat_values.specs.Values.{Reader, Sigil, Takes, Value, Reads}
use Rattle.wat_values.specs.Names.{Misnamed}
use Rattle.wat_values.specs.Reading.{own, found, reading_of, Whose, Second}
use Rattle.wat_values.specs.Integers.{Worded}
use Rattle.wat_values.specs.Readable.{filled, Readable, NameRead, SignOf, HasSign, Signs, SignRead, WordRead, Passes}
use Rattle.c_words.specs.Words.{refused_words, stop_words, listed_words}
use Rattle.c_read_words.specs.Words.{reading_words, kind_word, name_words}
use Rattle.c_spots.specs.Spots.{PartWords}
use Rattle.c_asked.specs.Asked.{Denotes}
use Rattle.read_call.specs.ByNumber.{readers, nth, ReadBy}
use Rattle.thallusweb.specs.Promises.{ListedWords, ReadWords, NameWords, IntegerSignWords, IntegerWords, FloatSignWords}
use Rattle.thallusweb.specs.ReadableWords.{own_bytes, PartBytes, found_in, kind_for, named_in, YieldsWords, ReadableWords}
use Rattle.thallusweb.specs.ReadableWords.{SignsWords, SignReadWords, WordReadWords, PassesWords}
use Rattle.wat_laws.proofs.RecordLaws.{SaidOf, words_said, whole_decode}
use Rattle.wat_values.proofs.ReadingLaws.{listed_stands}
use Rattle.wat_values.proofs.Readable.{passes_readable}
use Rattle.wat.proofs.KindNumbers.{injective}
use Rattle.c_spots.proofs.SpotLaws.{part_words_one}
use Rattle.thallusweb.proofs.OneWords.{read_words_one, name_words_one, integer_sign_words_one, integer_words_one}
use Rattle.thallusweb.proofs.OneWords.{float_sign_words_one}

-- ---- the second call

-- the part call's words for an answer's words, and the bytes that they name
second_words : {text buffer v : List ℕ} (a : Reading) → Second text buffer a v
    → (p : List ℕ) × PartWords text buffer (reading_words a) p × PartBytes text buffer p v
second_words a (Second.in_text h) = (_, PartWords.in_text refl h, PartBytes.of_text)
second_words a (Second.in_buffer h) = (_, PartWords.in_buffer refl h, PartBytes.of_buffer)
second_words (Ok None) (Second.none f g) = (
  _,
  PartWords.none (λ (e : ◌≡◌ {A = ℕ} 0 1). absurd (omega arith))
      (λ (e : ◌≡◌ {A = ℕ} 0 3). absurd (omega arith)),
  PartBytes.none,
)
second_words (Err e) (Second.none f g) = (
  _,
  PartWords.none (λ (e : ◌≡◌ {A = ℕ} 2 1). absurd (omega arith))
      (λ (e : ◌≡◌ {A = ℕ} 2 3). absurd (omega arith)),
  PartBytes.none,
)
second_words (Ok (Some (part.Text s l))) (Second.none f g) =
    (_, PartWords.none (λ e. f s l refl) (λ (e : ◌≡◌ {A = ℕ} 1 3). absurd (omega arith)), PartBytes.none)
second_words (Ok (Some (part.Buffer s l))) (Second.none f g) =
    (_, PartWords.none (λ (e : ◌≡◌ {A = ℕ} 3 1). absurd (omega arith)) (λ e. g s l refl), PartBytes.none)

-- an answer whose first word is 2 is a refusal
refused_words_lem : (a : Reading) → get_or (reading_words a) 0 0 ≡ 2
    → (r : Refusal) × (p : ℕ) × (a ≡ reading.Refused r p) × (reading_words a ≡ refused_words r p)
refused_words_lem (Ok None) e = absurd (omega arith)
refused_words_lem (Ok (Some (part.Text s l))) e = absurd (omega arith)
refused_words_lem (Err x) e = (x.refusal, x.place, refl, refl)
refused_words_lem (Ok (Some (part.Buffer s l))) e = absurd (omega arith)

kind_said : {n : NameKind} {k : TokenKind} {x : ℕ} → Sigil n k x → kind_word n ≡ kind_number k
kind_said Sigil.id = refl
kind_said Sigil.annotation = refl

-- the words of a name's answer are those of the reader's, and the kind's number where it is a name
named_said : {n : NameKind} {k : TokenKind} {x : ℕ} {a : NameReading} → Sigil n k x → Whose n a
    → name_words a ≡ reading_words (reading_of a) ++ (kind_for k (reading_of a) ∷ [])
named_said s Whose.no_name = refl
named_said s (Whose.in_text {start = i} {len = l}) = ap (λ (o : ℕ). 1 ∷ i ∷ l ∷ 0 ∷ 0 ∷ o ∷ []) (kind_said s)
named_said s (Whose.in_buffer {start = i} {len = l}) = ap (λ (o : ℕ). 3 ∷ i ∷ l ∷ 0 ∷ 0 ∷ o ∷ []) (kind_said s)

-- ---- a token by its words

module _ (text w : List ℕ) {t : Token} (d : Denotes w t) where
  same_bytes : own text t ≡ own_bytes text w
  same_bytes = let a = d.stands in let b = d.long in cc

  same_found : (v : Value) → reading_words (found t.offset v) ≡ found_in w v
  same_found v = ap (λ (o : ℕ). reading_words (found o v)) d.stands

  -- a call that answers the words `out` of a value, and no others
  module _
      {call : List ℕ → List ℕ → List ℕ → Type 0} (out : Value → List ℕ)
      (one : (buffer a b c d : List ℕ) → call buffer a c → call buffer b d → (a ≡ b) × (c ≡ d))
      {reader : Reader} (r : Readable reader text t)
      (answers : (buffer : List ℕ) → t.len ≤ length buffer → call buffer (out r.value) (filled r.value buffer)) where
    yields_words : {buffer : List ℕ} → t.len ≤ length buffer
        → YieldsWords (call buffer) (out r.value) text w r.value buffer
    yields_words {buffer} h =
        let v = r.value in
        let f = filled v buffer in
        let s = second_words (found t.offset v) (r.there buffer h).hands in
        let p : PartWords text f (found_in w v) s.0 = subst (λ (x : List ℕ). PartWords text f x s.0) (same_found v) s.1 in
        record {
          answers = answers buffer h;
          only = λ x b z. one buffer x _ b _ z (answers buffer h);
          part = s.0;
          parts = p;
          only_part = λ q z. part_words_one z p;
          bytes = s.2;
        }

    readable_words : ReadableWords call out reader t.kind text w
    readable_words =
        let v = r.value in
        record {
          value = v;
          reads = subst (λ (x : List ℕ). Reads reader t.kind x v) same_bytes r.reads;
          one = λ u x. r.one u (subst (λ (y : List ℕ). Reads reader t.kind y u) (sym same_bytes) x);
          yields = λ buffer h. yields_words (omega (arith, d.long));
          refuses = (to, from);
        }
      where
        Refuses : Type 0
        Refuses = (e : LexError) × Misnamed reader (own_bytes text w) e
            × (found_in w r.value ≡ refused_words (Lexical e) (get_or w 1 0))

        to : get_or (found_in w r.value) 0 0 ≡ 2 → Refuses
        to q =
            let x = refused_words_lem (found t.offset r.value) (ap (λ (z : List ℕ). get_or z 0 0) (same_found r.value) ∙ q) in
            let m = (r.refuses x.0 x.1).0 x.2 in
            let a = m.1 in
            let b = m.2 in
            let c = d.stands in (
              m.0,
              subst (λ (z : List ℕ). Misnamed reader z m.0) same_bytes m.3,
              sym (same_found r.value) ∙ x.3 ∙ cc,
            )

        from : Refuses → get_or (found_in w r.value) 0 0 ≡ 2
        from x = ap (λ (z : List ℕ). get_or z 0 0) x.2

  read_words : {n : ℕ} {reader : Reader} → nth readers n ≡ some reader → Readable reader text t
      → ReadableWords (ReadWords n text w) (found_in w) reader t.kind text w
  read_words {n} e r =
      readable_words (found_in w) (λ buffer a b c d x y. read_words_one x y) r
      (λ buffer h. subst (λ (x : List ℕ). ReadWords n text w buffer x (filled r.value buffer)) (same_found r.value)
      (ReadWords.read d (ReadBy.by e (r.there buffer h).answers)))

  name_words_lem : {n : NameKind} {x : ℕ} → Sigil n t.kind x → NameRead n text t → Readable Reader.name text t
      → ReadableWords (NameWords text w) (named_in t.kind w) Reader.name t.kind text w
  name_words_lem s n r =
      readable_words (named_in t.kind w) (λ buffer a b c d x y. name_words_one x y) r
      (λ buffer h. let y = n.there r.reads buffer h in
      subst (λ (x : List ℕ). NameWords text w buffer x (filled r.value buffer))
      (named_said s y.whose ∙ ap (λ (z : Reading). reading_words z ++ (kind_for t.kind z ∷ []))
      (y.is ∙ ap (λ (o : ℕ). found o r.value) d.stands))
      (NameWords.read d y.answers))

  signs_words : SignRead text t → SignReadWords t.kind text w
  signs_words r = record {
    sign = r.sign;
    has = subst (λ (x : List ℕ). SignOf t.kind x r.sign) same_bytes r.has;
    one = λ s x. r.one s (subst (λ (y : List ℕ). SignOf t.kind y s) (sym same_bytes) x);
    signs = go r.there;
  }
    where
      go : Signs text t r.sign → SignsWords t.kind text w r.sign
      go (Signs.of_integer e a o) =
          let x = IntegerSignWords.read (integer.Sign r.sign) d a in
          SignsWords.of_integer e x (λ y z. integer_sign_words_one z x)
      go (Signs.of_float e a o) =
          let x = FloatSignWords.read (float.Negative (negative r.sign)) d a in
          SignsWords.of_float e x (λ y z. float_sign_words_one z x)

  valued_words : {N : ℕ} → WordRead N text t → WordReadWords N text w
  valued_words {N} r =
      let x = IntegerWords.read r.answer d r.there in
      record {
        answer = r.answer;
        is = subst (λ (y : List ℕ). Worded N y r.answer) same_bytes r.is;
        words = x;
        only = λ a z. integer_words_one z x;
      }

-- ---- a listing's words

ended : (s : Stopped) (rest : List ℕ) → get_or (stop_words s ++ rest) 0 0 ≡ 0 → s ≡ stop.End
ended (Ok why.End) rest e = refl
ended (Ok why.Budget) rest e = absurd (omega arith)
ended (Ok why.Full) rest e = absurd (omega arith)
ended (Err r) rest e = absurd (omega arith)

counted_word : (s : Stopped) (n m : ℕ) → get_or (stop_words s ++ (n ∷ m ∷ [])) 5 0 ≡ n
counted_word (Ok why.End) n m = refl
counted_word (Ok why.Budget) n m = refl
counted_word (Ok why.Full) n m = refl
counted_word (Err r) n m = refl

-- the token of a record
said_denotes : {l : List ℕ} {ts : List _} {i : ℕ} (s : SaidOf l ts i)
    → Denotes (token_words l i) (record { kind = s.token.kind; offset = lengths s.before; len = s.token.len })
said_denotes s =
    let x = s.said in
    record {
      named = sym x.kind_said;
      stands = sym x.offset_said;
      long = sym x.length_said;
      fits = omega (arith, x.fits, x.length_said);
    }

-- and its kind: the one that has the number
said_kind : {l : List ℕ} {ts : List _} {i : ℕ} (s : SaidOf l ts i) (k : TokenKind) → kind_number k ≡ kind_at l i
    → s.token.kind ≡ k
said_kind s k n = injective s.token.kind k (sym s.said.kind_said ∙ sym n)

named_token : {k : TokenKind} → Takes Reader.name k → (n : NameKind) × (x : ℕ) × Sigil n k x
named_token (Takes.a_name s) = (_, _, s)

pub passes_words : {σ : Settings} {text list out l : List ℕ} {budget : ℕ} → ListedWords σ text 0 budget list out l
    → get_or out 0 0 ≡ 0 → PassesWords σ text out l
passes_words {σ} {text} {list} {l = l} (ListedWords.listed {r = r} x) e =
    let q = ended r.stop _ e in
    let p : Passes σ text list r l = passes_readable x q in
    let whole = p.whole in
    let sound = (listed_stands x q).sound in
    let count = counted_word r.stop r.count r.position in
    let said : (i : ℕ) → i < get_or (listed_words r) 5 0 → SaidOf l whole.tokens i =
    λ i h. whole_decode sound whole i (omega (arith, count)) in
    record {
      tokens = whole.tokens;
      divided = whole.divided;
      division = whole.division;
      counted = count ∙ whole.counted;
      decoded = λ i h.
          let s = said i h in
          (s.before, s.after, s.token, s.parted, s.counted, words_said s.said);
      kinds = λ i h. let s = said i h in (s.token.kind, sym s.said.kind_said);
      readable = λ i h k n' n reader o takes.
          let s = said i h in
          let z = said_kind s k n' in
          let w = token_words l i in
          subst (λ (j : TokenKind). ReadableWords (ReadWords n text w) (found_in w) reader j text w) z
          (read_words text w (said_denotes s) o
          (p.readable s.before s.after s.token s.parted reader
          (subst (λ (j : TokenKind). Takes reader j) (sym z) takes)));
      named = λ i h k n' takes.
          let s = said i h in
          let z = said_kind s k n' in
          let w = token_words l i in
          let q = named_token (subst (λ (j : TokenKind). Takes Reader.name j) (sym z) takes) in
          subst (λ (j : TokenKind). ReadableWords (NameWords text w) (named_in j w) Reader.name j text w) z
          (name_words_lem text w (said_denotes s) q.2 (p.named s.before s.after s.token s.parted q.2)
          (p.readable s.before s.after s.token s.parted Reader.name (Takes.a_name q.2)));
      signed = λ i h k n' has.
          let s = said i h in
          let z = said_kind s k n' in
          subst (λ (j : TokenKind). SignReadWords j text (token_words l i)) z
          (signs_words text (token_words l i) (said_denotes s)
          (p.signed s.before s.after s.token s.parted (subst HasSign (sym z) has)));
      valued = λ i h k n' N.
          let s = said i h in
          valued_words text (token_words l i) (said_denotes s)
          (p.valued s.before s.after s.token s.parted (said_kind s (kind.Integer k) n') N);
    }
