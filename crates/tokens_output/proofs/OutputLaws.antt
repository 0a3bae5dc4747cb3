-- The output as it grows by the line of a token at a time, and that a text has one output. Assumes nothing.
use Prim.Native.Nat.{ℕ, ◌+◌, ◌≤◌, ◌<◌}
use mathlib.Core.Path.{◌≡◌, refl, sym, ap, ◌∙◌, subst}
use mathlib.Core.List.{List, [], ◌∷◌, ◌++◌, append_assoc, append-nil}
use native.Mathlib.Omega.{arith}
use lib.ListN.{length, take, drop, length-append, length-drop}
use Rattle.wat.specs.declared.{TokenKind.TokenKind, Fault.Fault, Refusal.Refusal, Refusal.TheVariants.Lexical}
use Rattle.wat.specs.Answers as answer
use Rattle.wat.specs.{Bytes.bytes, Settings.plain, Cases.number, Calls.Stands, Calls.Rejected, Lexing.Lexed}
use Rattle.wat.specs.Division.{Piece, lengths, Divided, Walked}
use Rattle.wat.proofs.Basics.{differ}
use Rattle.wat.proofs.Unique.{lexed_one}
use Rattle.wat_laws.proofs.Divisions.{token_size, divided_count, ended_nil, ended_fault, ended_one}
use Rattle.wat_laws.proofs.Walks.{walked_start, walked_more, walked_end}
use Rattle.lex_calls.proofs.CallLaws.{token_fits, fault_fits}
use Rattle.wat_laws.proofs.OneCall.{rejected_one, stands_or_rejected}
use Rattle.buffers.specs.Writing.{Added}
use Rattle.buffers.proofs.PutLaws.{put_front}
use Rattle.tokens_lines.specs.Lines.{header, line, lines, last_line}
use Rattle.tokens_lines.specs.Room.{longest_line}
use Rattle.buffers.proofs.AddedLaws.{added_length}
use Rattle.tokens_lines.proofs.WritingLaws.{added_counts, lines_more, lines_short}
use Rattle.tokens_output.specs.Front.{Front, room}
use Rattle.tokens_output.specs.Output.{Output, longest}

-- ---- the front of a buffer

pub front_start : {d e v : List ℕ} {end : ℕ} → Added d e 0 v end → Front e v end
front_start {d} {e} {v} a =
    record { ends = omega (arith, a.ends); is = ap (λ (i : ℕ). take i e) a.ends ∙ put_front d e 0 v a.put }

front_then : {d e v w : List ℕ} {m n : ℕ} → Front d v m → Added d e m w n → Front e (v ++ w) n
front_then {d} {e} {v} {w} {m} {n} f a =
    record {
      ends = omega (arith, f.ends, a.ends, length-append v w);
      is = ap (λ (i : ℕ). take i e) a.ends ∙ put_front d e m w a.put ∙ ap (λ (x : List ℕ). x ++ w) f.is;
    }

front_same : {out v w : List ℕ} {end : ℕ} → v ≡ w → Front out v end → Front out w end
front_same {out} {end = end} q f = subst (λ (x : List ℕ). Front out x end) q f

-- ---- the walk over the tokens

-- the tokens before `at` are counted, and their lines stand in the buffer behind the header
pub record Reached (text out : List ℕ) (end at count : ℕ) : Type 0 where
  pub tokens : List Piece
  pub walked : Walked plain text 0 at tokens
  pub counted : count ≡ length tokens
  pub front : Front out (header ++ lines 0 tokens) end

pub reached_start : {text out : List ℕ} {end : ℕ} → Stands text 0 → Front out header end → Reached text out end 0 0
unfolding lines
reached_start {text} s f =
    record { tokens = []; walked = walked_start plain text s; counted = refl; front = front_same (sym (append-nil header)) f }

module _ {text out : List ℕ} {end at count : ℕ} (small : length text ≤ longest) (p : Reached text out end at count) where
  pub in_text : at ≤ length text
  in_text = p.walked.stands.within

  -- there are no more tokens than bytes before `at`
  pub few : count ≤ at
  few = omega (arith, divided_count p.walked.divided, p.walked.place, p.counted)

  -- a line more, or the last one, has room
  pub has_room : room ≤ length out → end + longest_line ≤ length out
  has_room h =
      let l = lines_short 0 p.tokens (omega (arith, p.walked.place, in_text)) in
      omega (arith, p.front.ends, length-append header (lines 0 p.tokens), p.counted, few, in_text)

  -- one token more
  pub reached_more : {new : List ℕ} {m : ℕ} {k : TokenKind} {n : ℕ} → Lexed plain (drop at text) (answer.Token k n)
      → Added out new end (line k at n) m → Reached text new m (at + n) (count + 1)
  reached_more {new} {m} {k} {n} l a =
      let t : Piece = record { kind = k; len = n } in
      let v : (header ++ lines 0 p.tokens) ++ line k at n ≡ header ++ lines 0 (p.tokens ++ (t ∷ [])) =
      append_assoc header (lines 0 p.tokens) (line k at n)
      ∙ ap (λ (x : List ℕ). header ++ x)
      (ap (λ (i : ℕ). lines 0 p.tokens ++ line k i n) p.walked.place ∙ sym (lines_more 0 p.tokens t)) in
      record {
        tokens = p.tokens ++ (t ∷ []);
        walked = walked_more plain text p.walked l;
        counted = omega (arith, length-append p.tokens (t ∷ []), p.counted);
        front = front_same v (front_then p.front a);
      }

  -- the last line behind the others
  last_behind : {new w w' : List ℕ} {m : ℕ} → Added out new end w m → w ≡ w'
      → take m new ≡ header ++ (lines 0 p.tokens ++ w')
  last_behind {w = w} a e =
      (front_then p.front a).is ∙ append_assoc header (lines 0 p.tokens) w
      ∙ ap (λ (x : List ℕ). header ++ (lines 0 p.tokens ++ x)) e

  pub at_end : Lexed plain (drop at text) answer.End → at ≡ length text
  at_end (Lexed.end e) = omega (arith, ap length e, length-drop at text, in_text)

  pub output_end : {new : List ℕ} {m : ℕ} → Stands text 0 → Lexed plain (drop at text) answer.End
      → Added out new end (last_line (bytes "end ") at count) m → Output text (take m new)
  output_end s l a =
      let e = at_end l in
      let d : Divided plain text p.tokens [] = walked_end plain text p.walked (omega arith) in
      let w : last_line (bytes "end ") at count ≡ last_line (bytes "end ") (length text) (length p.tokens) =
      ap (λ (i : ℕ). last_line (bytes "end ") i count) e ∙ ap (last_line (bytes "end ") (length text)) p.counted in
      subst (Output text) (sym (last_behind a w)) (Output.whole small s d)

  pub output_fault : {new : List ℕ} {m : ℕ} {f : Fault} → Stands text 0 → Lexed plain (drop at text) (answer.Fault f)
      → Added out new end (last_line (bytes "error ") (number (Lexical f.error)).0 (at + f.place)) m → Output text (take m new)
  output_fault {f = f} s l a =
      let e : at ≡ lengths p.tokens = omega (arith, p.walked.place) in
      let w = ap (λ (i : ℕ). last_line (bytes "error ") (number (Lexical f.error)).0 (i + f.place)) e in
      subst (Output text) (sym (last_behind a w)) (Output.fault small s p.walked.divided l)

-- ---- texts that are not walked over

pub output_long : {text d e : List ℕ} {m n : ℕ} → longest < length text → Front d header m → Added d e m (bytes "too-long\n") n
    → Output text (take n e)
output_long {text} h f a = subst (Output text) (sym (front_then f a).is) (Output.too_long h)

pub output_rejected : {text d e : List ℕ} {m n p : ℕ} {q : Refusal} → length text ≤ longest → Rejected text 0 q p
    → Front d header m
    → Added d e m (last_line (bytes "error ") (number q).0 p) n → Output text (take n e)
output_rejected {text} h t f a = subst (Output text) (sym (front_then f a).is) (Output.rejected h t)

-- ---- one output

-- no text has both a whole division and one that ends at a fault
whole_or_fault : {text rest : List ℕ} {ts us : List Piece} {f : Fault} → Divided plain text ts [] → Divided plain text us rest
    → Lexed plain rest (answer.Fault f) → ⊥
whole_or_fault {f = f} d e l =
    let z = (ended_one d ended_nil e (ended_fault l)).1 in
    let q = lexed_one (Lexed.end refl) (subst (λ (r : List ℕ). Lexed plain r (answer.Fault f)) (sym z) l) in
    differ (cc)

-- two divisions that end at a fault have the same tokens and the same fault
fault_one : {text rest rest' : List ℕ} {ts us : List Piece} {f g : Fault} → Divided plain text ts rest
    → Lexed plain rest (answer.Fault f)
    → Divided plain text us rest' → Lexed plain rest' (answer.Fault g) → (ts ≡ us) × (f ≡ g)
fault_one {g = g} d l e k =
    let z = ended_one d (ended_fault l) e (ended_fault k) in
    let q = lexed_one l (subst (λ (r : List ℕ). Lexed plain r (answer.Fault g)) (sym z.1) k) in
    (z.0, cc)

-- nothing else can be printed of a text
pub output_one : {text a b : List ℕ} → Output text a → Output text b → a ≡ b
output_one (Output.too_long h) (Output.too_long i) = refl
output_one (Output.too_long h) (Output.rejected i t) = absurd (omega arith)
output_one (Output.too_long h) (Output.whole i s d) = absurd (omega arith)
output_one (Output.too_long h) (Output.fault i s d l) = absurd (omega arith)
output_one (Output.rejected h t) (Output.too_long i) = absurd (omega arith)
output_one (Output.rejected h t) (Output.rejected i u) =
    let z = rejected_one t u in
    let x = z.0 in
    let y = z.1 in
    cc
output_one (Output.rejected h t) (Output.whole i s d) = absurd (stands_or_rejected s t)
output_one (Output.rejected h t) (Output.fault i s d l) = absurd (stands_or_rejected s t)
output_one (Output.whole h s d) (Output.too_long i) = absurd (omega arith)
output_one (Output.whole h s d) (Output.rejected i t) = absurd (stands_or_rejected s t)
output_one (Output.whole h s d) (Output.whole i s' d') = let x = (ended_one d ended_nil d' ended_nil).0 in cc
output_one (Output.whole h s d) (Output.fault i s' d' l) = absurd (whole_or_fault d d' l)
output_one (Output.fault h s d l) (Output.too_long i) = absurd (omega arith)
output_one (Output.fault h s d l) (Output.rejected i t) = absurd (stands_or_rejected s t)
output_one (Output.fault h s d l) (Output.whole i s' d') = absurd (whole_or_fault d' d l)
output_one (Output.fault h s d l) (Output.fault i s' d' l') =
    let z = fault_one d l d' l' in
    let x = z.0 in
    let y = z.1 in
    cc

-- what `render_from` and `render` print
pub ruleset growing = (reached_start, reached_more, token_size, token_fits, fault_fits, added_length)

pub ruleset printed = (front_start, output_long, added_counts)
